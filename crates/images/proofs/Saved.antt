-- The image of what can be saved opens, as that.
use Rattle.std.proofs.Common.{◌≡◌, ℕ, zero, suc, ◌+◌, ◌-◌, ◌*◌, ◌/◌, ◌%◌, ◌<◌, ◌≤◌, min, true, ◌&&◌, eqb, ltb, leb, ◌⊎◌, List, All, length, get_or, drop, None, sym, ap, ◌∙◌, ap₂, inl, inr, arith, rules}
use Rattle.std.proofs.lemmas.List.{get_or_append_left, get_or_past}
use Rattle.std.proofs.lemmas.Bool.{cases_lt, cond-true, cond-false, lt-ltb, le-ltb, ltb-true, ltb-false, leb-true, eqb-true, and_parts, or_cases}
use Rattle.std.proofs.lemmas.Nat.{mul-le, mod_below}
use Rattle.std.proofs.lemmas.List.Elements.{All-get_or}
use Rattle.basics.specs.Checks.{check}
use Rattle.basics.proofs.Checking.{both_none, check_none}
use Rattle.fields.specs.Kinds.{order_of}
use Rattle.plans.specs.declared.fault.MarkingFault.TheVariants.{Long}
use Rattle.plans.specs.declared.numbers.Numbers.{Numbers}
use Rattle.plans.specs.Marks.{marking_fault}
use Rattle.plans.proofs.Marking.{rising_columns, points_rising}
use Rattle.rules.specs.Pages.{tabled}
use Rattle.rules.specs.Views.{kind_fault}
use Rattle.images.specs.Format.{Stored, four_bytes, check_value, words_at, first_bytes, bytes_of_head, head_at, plain_at, image_at, cell_count, blocks_of_levels, image_size}
use Rattle.images.specs.Opening.{word_at, stream_place, reading_at, numbers_in, marking_in, stored_in, filler_here}
use Rattle.images.specs.Laws.{Savable}
use Rattle.images.proofs.Sealing.{seal_holds, sealed_low, sealed_high, tabled_is}
use Rattle.images.proofs.Imaging.{image_block, image_head, head_low, head_high, image_levels}
use Rattle.images.proofs.Words.{words_small, words_back, words_past}
use Rattle.images.proofs.Opening.{in_order, Passed}

-- the columns of a marking are few, and each fits two bytes
columns_few : (p : Numbers) (ms : List ℕ) → marking_fault p ms ≡ None → length ms ≤ 64
columns_few p ms e = omega (arith, ltb-false (min 64 p.checks) (length ms) (check_none _ Long (both_none _ _ e).0))

columns_fit : (p : Numbers) (ms : List ℕ) → p.columns ≤ 256 → marking_fault p ms ≡ None → (i : ℕ) → get_or ms i 0 < 65536
columns_fit p ms few e i = elim (cases_lt i (length ms)) [
  | inl l ↦ omega (arith, (points_rising 0 p.columns ms (rising_columns p.columns ms (both_none (check (ltb (min 64 p.checks) (length ms)) Long) _ e).1) i l).1)
  | inr l ↦ omega (arith, get_or_past ms i 0 l)
]

-- numbers, and what is stored, by their parts
numbers_same : (p t : Numbers) → p.columns ≡ t.columns → p.checks ≡ t.checks → p.rows ≡ t.rows → p.heights ≡ t.heights → p.drift ≡ t.drift → p ≡ t
numbers_same p t a b c d e =
    ap₂ (λ x y. record p { columns = x; checks = y }) a b ∙ ap₂ (λ x y. record p { columns = t.columns; checks = t.checks; rows = x; heights = y }) c d ∙ ap (λ x. record t { drift = x }) e

stored_same : (s t : Stored) → s.kind ≡ t.kind → s.numbers ≡ t.numbers → s.marking ≡ t.marking → s.cells ≡ t.cells → s ≡ t
stored_same s t a b c d = ap₂ (λ x p. record s { kind = x; numbers = p }) a b ∙ ap₂ (λ ms cs. record t { marking = ms; cells = cs }) c d

-- every byte of an image is one
entry_small : (xs : List ℕ) → All (λ x. x < 256) xs → (i : ℕ) → get_or xs i 0 < 256
entry_small xs h i = elim (cases_lt i (length xs)) [
  | inl l ↦ All-get_or (λ x. x < 256) xs i 0 l h
  | inr l ↦ omega (arith, get_or_past xs i 0 l)
]

head_small : (s : Stored) → Savable s → All (λ x. x < 256) (bytes_of_head s.kind s.numbers (length s.marking))
head_small s k = search (rules, mod_below)

plain_small : (s : Stored) → Savable s → (b j : ℕ) → plain_at s b j < 256
plain_small s k zero j = elim (cases_lt j 16) [
  | inl l ↦ omega (arith, head_low s.kind s.numbers s.marking j l, entry_small (bytes_of_head s.kind s.numbers (length s.marking)) (head_small s k) j)
  | inr l ↦ omega (arith, head_high s.kind s.numbers s.marking j l, words_small s.marking (j - 16))
]
plain_small s k (suc b) j = words_small s.cells (508 * b + j)

pub image_small : (s : Stored) → Savable s → (i : ℕ) → image_at s i < 256
unfolding image_at
image_small s k i = let b = i / 512 in let j = i % 512 in elim (cases_lt j 508) [
  | inl l ↦ omega (arith, sealed_low b (plain_at s b) j l, plain_small s k b j)
  | inr l ↦ omega (arith, sealed_high b (plain_at s b) j l, entry_small (four_bytes (check_value b (plain_at s b))) (search (rules, mod_below)) (j - 508))
]

-- bytes that are, as far as it goes, its image
module _ (s : Stored) (k : Savable s) (at : ℕ → ℕ) (same : (i : ℕ) → i < image_size s.numbers → at i ≡ image_at s i) where
  -- the bytes of block 0, and of a level block
  head : (j : ℕ) → j < 508 → at j ≡ head_at s.kind s.numbers s.marking j
  head j h = same j (omega arith) ∙ image_head s j (omega arith) ∙ sealed_low 0 (head_at s.kind s.numbers s.marking) j h

  start : (j : ℕ) → j < 16 → at j ≡ get_or (bytes_of_head s.kind s.numbers (length s.marking)) j 0
  start j h = head j (omega arith) ∙ head_low s.kind s.numbers s.marking j h

  marks : (i : ℕ) → i < 492 → at (16 + i) ≡ words_at s.marking i
  marks i h = let z : 16 + i - 16 ≡ i = omega arith in head (16 + i) (omega arith) ∙ head_high s.kind s.numbers s.marking (16 + i) (omega arith) ∙ ap (words_at s.marking) z

  levels : (b j : ℕ) → b < blocks_of_levels (cell_count s.numbers) → j < 508 → at (512 * (b + 1) + j) ≡ words_at s.cells (508 * b + j)
  levels b j l h = same (512 * (b + 1) + j) (omega arith) ∙ image_levels s b j (omega arith) ∙ sealed_low (b + 1) (λ j. words_at s.cells (508 * b + j)) j h

  stream : (i : ℕ) → i < 2 * cell_count s.numbers → at (stream_place i) ≡ words_at s.cells i
  stream i h =
      let z : 512 * (1 + i / 508) + i % 508 ≡ 512 * (i / 508 + 1) + i % 508 = omega arith in let y : 508 * (i / 508) + i % 508 ≡ i = omega arith in
      ap at z ∙ levels (i / 508) (i % 508) (omega arith) (omega arith) ∙ ap (words_at s.cells) y

  -- what they hold
  numbers_is : numbers_in at ≡ s.numbers
  numbers_is =
      let p = s.numbers in let r = in_order s.kind p k.ordered in let q = order_of s.kind in
      let a6 : at 6 ≡ p.columns % 256 = start 6 (omega arith) in let a7 : at 7 ≡ p.columns / 256 % 256 = start 7 (omega arith) in
      let a10 : at 10 ≡ p.heights % 256 = start 10 (omega arith) in let a11 : at 11 ≡ p.heights / 256 % 256 = start 11 (omega arith) in
      let a12 : at 12 ≡ p.drift % 256 = start 12 (omega arith) in let a13 : at 13 ≡ p.drift / 256 % 256 = start 13 (omega arith) in
      numbers_same (numbers_in at) p (omega (arith, r.columns_few)) (start 8 (omega arith)) (start 9 (omega arith)) (omega (arith, r.heights_few)) (omega (arith, r.drift_short, mul-le q 1 q p.heights (omega arith) r.one_height, r.levels_few))

  marking_is : marking_in at ≡ s.marking
  marking_is = sym (tabled_is (at 14) (λ i. word_at at (16 + 2 * i)) s.marking (sym (start 14 (omega arith))) (λ i h.
      let few = columns_few s.numbers s.marking k.marked in let l : i < 64 = omega (arith, start 14 (omega arith)) in let z : 16 + (2 * i + 1) ≡ 16 + 2 * i + 1 = omega arith in
      sym (ap₂ (λ x y. x + 256 * y) (marks (2 * i) (omega arith)) (ap at (sym z) ∙ marks (2 * i + 1) (omega arith))
      ∙ words_back s.marking i (columns_fit s.numbers s.marking (in_order s.kind s.numbers k.ordered).columns_few k.marked i))))

  cells_is : tabled (cell_count (numbers_in at)) (reading_at at) ≡ s.cells
  cells_is = sym (tabled_is (cell_count (numbers_in at)) (reading_at at) s.cells (k.size ∙ sym (ap cell_count numbers_is)) (λ c h.
      let l : c < cell_count s.numbers = omega (arith, ap cell_count numbers_is) in
      sym (ap₂ (λ x y. x + 256 * y) (stream (2 * c) (omega arith)) (stream (2 * c + 1) (omega arith)) ∙ words_back s.cells c (k.cells_fit c))))

  pub stored_is : stored_in at ≡ s
  stored_is = stored_same (stored_in at) s (start 5 (omega arith)) numbers_is marking_is cells_is

  -- a place of filler holds 0
  filled : (i : ℕ) → i < image_size s.numbers → (i < 512) ⊎ (512 ≤ i) → filler_here at i ≡ true → at i ≡ 0
  filled i l (inl low) h = elim (or_cases (eqb i 15) (leb (16 + 2 * at 14) i && ltb i 508) (sym (cond-true _ _ _ (lt-ltb i 512 low)) ∙ h)) [
    | inl e ↦ ap at (eqb-true i 15 e) ∙ start 15 (omega arith)
    | inr e ↦
        let t = and_parts (leb (16 + 2 * at 14) i) (ltb i 508) e in let after = leb-true (16 + 2 * at 14) i t.0 in let before = ltb-true i 508 t.1 in
        let z : 16 + (i - 16) ≡ i = omega arith in
        ap at (sym z) ∙ marks (i - 16) (omega arith) ∙ words_past s.marking (i - 16) (omega (arith, start 14 (omega arith)))
  ]
  filled i l (inr high) h =
      let t = and_parts (ltb (i % 512) 508) (leb (2 * cell_count (numbers_in at)) (508 * (i / 512 - 1) + i % 512)) (sym (cond-false _ _ _ (le-ltb i 512 high)) ∙ h) in
      let before = ltb-true (i % 512) 508 t.0 in let after = leb-true (2 * cell_count (numbers_in at)) (508 * (i / 512 - 1) + i % 512) t.1 in
      let z : 512 * (i / 512 - 1 + 1) + i % 512 ≡ i = omega arith in
      ap at (sym z) ∙ levels (i / 512 - 1) (i % 512) (omega arith) before ∙ words_past s.cells (508 * (i / 512 - 1) + i % 512) (omega (arith, ap cell_count numbers_is, k.size))

  pub image_passes : Passed at (image_size s.numbers)
  image_passes = record {
    size_is = ap image_size (sym numbers_is);
    seals = λ b l. seal_holds b (λ j. at (512 * b + j)) (plain_at s b) (λ j h. same (512 * b + j) (omega arith) ∙ image_block s b j h);
    word = λ i l. start i (omega arith) ∙ get_or_append_left first_bytes (drop 5 (bytes_of_head s.kind s.numbers (length s.marking))) 0 i l;
    ordered = ap (λ t. kind_fault t.kind t.numbers) stored_is ∙ k.ordered;
    marked = ap (λ t. marking_fault t.numbers t.marking) stored_is ∙ k.marked;
    filler = λ i l h. filled i l (cases_lt i 512) h;
  }
