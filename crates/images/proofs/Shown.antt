-- Bytes that open are the image of what they hold, and that can be saved.
use Rattle.std.proofs.Common.{◌≡◌, ℕ, zero, suc, ◌+◌, ◌-◌, ◌*◌, ◌/◌, ◌%◌, ◌<◌, ◌≤◌, true, ◌&&◌, ◌||◌, eqb, ltb, leb, length, get_or, sym, refl, ap, ◌∙◌, inl, inr, add-one, arith}
use Rattle.std.proofs.lemmas.List.{get_or_past}
use Rattle.std.proofs.lemmas.List.FromFn.{length-map-range_with_len}
use Rattle.std.proofs.lemmas.Bool.{cases_lt, cond-true, cond-false, lt-ltb, le-ltb, le-leb, and_from, or_right}
use Rattle.rules.specs.Pages.{tabled}
use Rattle.rules.proofs.Drifts.{tabled_at}
use Rattle.images.specs.Format.{words_at, bytes_of_head, head_at, plain_at, image_at, cell_count, blocks_of_levels}
use Rattle.images.specs.Opening.{word_at, stream_place, reading_at, numbers_in, marking_in, stored_in}
use Rattle.images.specs.Laws.{Savable}
use Rattle.images.proofs.Imaging.{head_low, head_high, image_block}
use Rattle.images.proofs.Words.{words_past, words_of}
use Rattle.images.proofs.Opening.{Passed}
use Rattle.images.proofs.Sealing.{holds_sealed}

module _ (at : ℕ → ℕ) (size : ℕ) (small : (i : ℕ) → at i < 256) (k : Passed at size) where
  -- how many marked columns and cells they hold
  count : length (marking_in at) ≡ at 14
  count = length-map-range_with_len (λ i. word_at at (16 + 2 * i)) 0 (at 14)

  cells : length (tabled (cell_count (numbers_in at)) (reading_at at)) ≡ cell_count (numbers_in at)
  cells = length-map-range_with_len (reading_at at) 0 (cell_count (numbers_in at))

  -- filler of block 0, and of a level block
  head_filler : (i : ℕ) → i < 508 → (eqb i 15 || (leb (16 + 2 * at 14) i && ltb i 508)) ≡ true → at i ≡ 0
  head_filler i h e = k.filler i (omega (arith, k.size_is)) (cond-true _ _ _ (lt-ltb i 512 (omega arith)) ∙ e)

  level_filler : (b j : ℕ) → b < blocks_of_levels (cell_count (numbers_in at)) → j < 508 → 2 * cell_count (numbers_in at) ≤ 508 * b + j → at (512 * (b + 1) + j) ≡ 0
  level_filler b j l h past =
      let i = 512 * (b + 1) + j in let x : i / 512 - 1 ≡ b = omega arith in let y : i % 512 ≡ j = omega arith in
      k.filler i (omega (arith, k.size_is)) (cond-false _ _ _ (le-ltb i 512 (omega arith))
      ∙ and_from (ltb (i % 512) 508) (leb (2 * cell_count (numbers_in at)) (508 * (i / 512 - 1) + i % 512)) (lt-ltb _ _ (omega arith)) (le-leb _ _ (omega arith)))

  -- the first bytes
  start : tabled 16 at ≡ bytes_of_head (at 5) (numbers_in at) (length (marking_in at))
  start =
      let w0 = k.word 0 (omega arith) in let w1 = k.word 1 (omega arith) in let w2 = k.word 2 (omega arith) in let w3 = k.word 3 (omega arith) in let w4 = k.word 4 (omega arith) in
      let a6 : at 6 ≡ (at 6 + 256 * at 7) % 256 = omega (arith, small 6, small 7) in let a7 : at 7 ≡ (at 6 + 256 * at 7) / 256 % 256 = omega (arith, small 6, small 7) in
      let a10 : at 10 ≡ (at 10 + 256 * at 11) % 256 = omega (arith, small 10, small 11) in let a11 : at 11 ≡ (at 10 + 256 * at 11) / 256 % 256 = omega (arith, small 10, small 11) in
      let a12 : at 12 ≡ (at 12 + 256 * at 13) % 256 = omega (arith, small 12, small 13) in let a13 : at 13 ≡ (at 12 + 256 * at 13) / 256 % 256 = omega (arith, small 12, small 13) in
      let a15 : at 15 ≡ 0 = head_filler 15 (omega arith) refl in let n = count in
      cc

  -- what comes after those, and the bytes of a level block
  marks : (i : ℕ) → i < 492 → at (16 + i) ≡ words_at (marking_in at) i
  marks i h = elim (cases_lt i (2 * at 14)) [
    | inl l ↦ sym (words_of (λ i. at (16 + i)) (λ i. small (16 + i)) (marking_in at)
        (λ c l. let z : 16 + 2 * c + 1 ≡ 16 + (2 * c + 1) = omega arith in tabled_at (at 14) (λ i. word_at at (16 + 2 * i)) c (omega (arith, count)) ∙ ap (λ m. at (16 + 2 * c) + 256 * at m) z) i (omega (arith, count)))
    | inr l ↦ head_filler (16 + i) (omega arith) (or_right (eqb (16 + i) 15) _ (and_from _ _ (le-leb (16 + 2 * at 14) (16 + i) (omega arith)) (lt-ltb (16 + i) 508 (omega arith)))) ∙ sym (words_past (marking_in at) i (omega (arith, count)))
  ]

  levels : (b j : ℕ) → b < blocks_of_levels (cell_count (numbers_in at)) → j < 508 → at (512 * (b + 1) + j) ≡ words_at (stored_in at).cells (508 * b + j)
  levels b j l h = elim (cases_lt (508 * b + j) (2 * cell_count (numbers_in at))) [
    | inl m ↦
        let z : 512 * (b + 1) + j ≡ 512 * (1 + (508 * b + j) / 508) + (508 * b + j) % 508 = omega arith in
        ap at z ∙ sym (words_of (λ i. at (stream_place i)) (λ i. small (stream_place i)) (stored_in at).cells
        (λ c l. tabled_at (cell_count (numbers_in at)) (reading_at at) c (omega (arith, cells))) (508 * b + j) (omega (arith, cells)))
    | inr m ↦ level_filler b j l h m ∙ sym (words_past (stored_in at).cells (508 * b + j) (omega (arith, cells)))
  ]

  -- each block, before its check
  head : (j : ℕ) → j < 508 → at j ≡ head_at (at 5) (numbers_in at) (marking_in at) j
  head j h = elim (cases_lt j 16) [
    | inl l ↦ sym (tabled_at 16 at j l) ∙ ap (λ xs. get_or xs j 0) start ∙ sym (head_low (at 5) (numbers_in at) (marking_in at) j l)
    | inr l ↦ let z : 16 + (j - 16) ≡ j = omega arith in ap at (sym z) ∙ marks (j - 16) (omega arith) ∙ sym (head_high (at 5) (numbers_in at) (marking_in at) j l)
  ]

  plain : (b : ℕ) → b < size / 512 → (j : ℕ) → j < 508 → at (512 * b + j) ≡ plain_at (stored_in at) b j
  plain zero l j h = let z : 512 * 0 + j ≡ j = omega arith in ap at z ∙ head j h
  plain (suc b) l j h = ap (λ c. at (512 * c + j)) (sym (add-one b)) ∙ levels b j (omega (arith, k.size_is)) h

  -- and with it
  pub image_bytes : (i : ℕ) → i < size → at i ≡ image_at (stored_in at) i
  image_bytes i h =
      let b = i / 512 in let j = i % 512 in let z : 512 * b + j ≡ i = omega arith in let l : b < size / 512 = omega (arith, k.size_is) in
      ap at (sym z) ∙ holds_sealed b (λ j. at (512 * b + j)) (plain_at (stored_in at) b) (plain b l) (k.seals b l) j (omega arith)
      ∙ sym (image_block (stored_in at) b j (omega arith)) ∙ ap (image_at (stored_in at)) z

  pub savable : Savable (stored_in at)
  savable = record {
    ordered = k.ordered;
    marked = k.marked;
    size = cells;
    cells_fit = λ c. elim (cases_lt c (cell_count (numbers_in at))) [
      | inl l ↦ omega (arith, tabled_at (cell_count (numbers_in at)) (reading_at at) c l, small (stream_place (2 * c)), small (stream_place (2 * c + 1)))
      | inr l ↦ omega (arith, get_or_past (stored_in at).cells c 0 (omega (arith, cells)))
    ];
  }
