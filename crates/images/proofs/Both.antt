-- What saving makes opens as what was saved, and nothing else opens.
use Rattle.std.proofs.Common.{◌≡◌, ℕ, ◌<◌, ◌≤◌, List, length, get_or, take, None, sym, ap, ◌∙◌, inl, inr, arith}
use Rattle.std.proofs.lemmas.List.{get_or-take, get_or_past, length-take-le, take_all}
use Rattle.std.proofs.lemmas.List.FromFn.{length-map-range_with_len}
use Rattle.std.proofs.lemmas.Bool.{cases_lt}
use Rattle.rules.proofs.Drifts.{tabled_at}
use Rattle.images.specs.Format.{Stored, image_at, image_size, image_of}
use Rattle.images.specs.Opening.{bytes_at, stored_in, open_fault}
use Rattle.images.specs.Laws.{Opens, ImageLaw}
use Rattle.images.proofs.Sealing.{tabled_is}
use Rattle.images.proofs.Opening.{passed, passes}
use Rattle.images.proofs.Saved.{image_small, stored_is, image_passes}
use Rattle.images.proofs.Shown.{image_bytes, savable}

-- the bytes that are kept, as far as they are the image
pub opened_image : (xs : List ℕ) (size : ℕ) → size ≤ length xs → ((i : ℕ) → get_or xs i 0 < 256) → open_fault (bytes_at xs) size ≡ None → take size xs ≡ image_of (stored_in (bytes_at xs))
opened_image xs size fits small e =
    let k = passed (bytes_at xs) size e in let s = stored_in (bytes_at xs) in
    tabled_is (image_size s.numbers) (image_at s) (take size xs) (length-take-le size xs fits ∙ k.size_is)
    (λ i h. get_or-take size xs i 0 (omega (arith, k.size_is)) ∙ image_bytes (bytes_at xs) size small k i (omega (arith, k.size_is)))

pub image_law : ImageLaw
image_law =
    record {
      opens = λ s k. record {
        bytes = λ i. elim (cases_lt i (image_size s.numbers)) [
          | inl l ↦ omega (arith, tabled_at (image_size s.numbers) (image_at s) i l, image_small s k i)
          | inr l ↦ omega (arith, get_or_past (image_of s) i 0 (omega (arith, long s)))
        ];
        passes = ap (open_fault (bytes_at (image_of s))) (long s) ∙ passes _ _ (image_passes s k (bytes_at (image_of s)) (tabled_at (image_size s.numbers) (image_at s)));
      };
      as_saved = λ s k. stored_is s k (bytes_at (image_of s)) (tabled_at (image_size s.numbers) (image_at s));
      holds = λ xs o. savable (bytes_at xs) (length xs) o.bytes (passed _ _ o.passes);
      only = only;
      unlike = λ xs ys o u same. only xs o ∙ ap image_of same ∙ sym (only ys u);
    }
  where
    long : (s : Stored) → length (image_of s) ≡ image_size s.numbers
    long s = length-map-range_with_len (image_at s) 0 (image_size s.numbers)

    only : (xs : List ℕ) → Opens xs → xs ≡ image_of (stored_in (bytes_at xs))
    only xs o = sym (take_all (length xs) xs (omega arith)) ∙ opened_image xs (length xs) (omega arith) o.bytes o.passes
