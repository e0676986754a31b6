-- Blocks that are set in the buffer of an image.
use Rattle.std.proofs.Common.{◌≡◌, ℕ, ◌+◌, ◌*◌, ◌≤◌, List, length, get_or, sym, ap, ◌∙◌}
use borrow.Rule.Slice.PartMut.{put_mid}
use Rattle.std.proofs.lemmas.List.FromFn.{length-map-range_with_len}
use Rattle.codes.proofs.Rowing.{get_d_part, once_lent}
use Rattle.rules.specs.Pages.{tabled}
use Rattle.rules.proofs.Drifts.{tabled_at}
use Rattle.images.specs.Saving.{BlockSet}

-- a part of the buffer that is replaced by a block
pub block_set : (b k : ℕ) (f : ℕ → ℕ) (xs ys : List ℕ) → k ≡ 512 → 512 * b + 512 ≤ length xs → length (put_mid (512 * b) k xs ys) ≡ length xs → ys ≡ tabled 512 f
    → BlockSet b f xs (put_mid (512 * b) k xs ys)
block_set b k f xs ys ek inside long e =
    let once = once_lent (λ _ new. new ≡ tabled 512 f) 512 (512 * b) k xs ys ek inside long (ap length e ∙ length-map-range_with_len f 0 512) e in record {
      long = once.long;
      new = λ j l. sym (get_d_part 512 (512 * b) _ j l) ∙ ap (λ bytes. get_or bytes j 0) once.row ∙ tabled_at 512 f j l;
      before = once.before;
      after = once.after;
    }
