-- A write leaves the one page of levels that has its contents and code rows.
use Rattle.std.proofs.Common.{◌≡◌, ℕ, ◌+◌, ◌*◌, ◌/◌, ◌%◌, ◌<◌, ◌≤◌, List, ◌++◌, length, get_or, take, drop, sym, ap, ◌∙◌, subst, ap₂, inl, inr, add-mul, div-add-mod', arith}
use lib.Arith.{digits_lt}
use Rattle.std.specs.List.{range_with_len}
use Rattle.std.proofs.lemmas.Nat.{mul-le}
use Rattle.std.proofs.lemmas.List.FromFn.{length-range_with_len, fill_by_all, get_or-map-range_with_len}
use Rattle.std.proofs.Math.Seq.{take-length, drop-length}
use Rattle.std.proofs.lemmas.List.{get_or-map, length-map, length-drop, take-append-le, drop-append-le, drop-drop, ext_get_or}
use Rattle.std.proofs.lemmas.Bool.{cases_lt}
use Rattle.std.proofs.lemmas.Bool.Decides.{nat_tests}
use Rattle.basics.specs.Lists.{Updated, row_of}
use Rattle.fields.specs.Rings.{taken}
use Rattle.algebra.specs.Rows.{CodeRow, Filled}
use Rattle.codes.specs.Fill.{FilledRows}
use Rattle.codes.proofs.Rowing.{get_d_part, length_part}
use Rattle.plans.specs.Orders.{Ranges}
use Rattle.rules.specs.Pages.{Setup, Buffers, q, n, r, cell_count, symbol_count, message_row, message_column, cell_of, contents, symbols_of, Holds, Written}
use Rattle.rules.specs.Views.{FitsWrite, laid_entry, level_at}
use Rattle.rules.proofs.Firsts.{counting_off, counting_past}
use Rattle.rules.proofs.Levels.{row_in, column_in, cell_is, symbol_at, symbol_in, cell_of_symbol, laid_message, symbol_row, symbol_column, symbol_is, level_height, level_symbol}

-- what the steps of a write leave: the symbols laid, the check columns filled, the heights added
pub record Steps (p : Setup) (b : Buffers) (cells laid filled levels : List ℕ) : Type 0 where
  pub fits : FitsWrite p cells b
  pub lays : Updated (length cells) (laid_entry p b.symbols) cells laid
  pub fills : FilledRows p.field (n p) (range_with_len 0 (r p)) laid filled
  pub adds : Updated (length filled) (level_at (q p) b.heights filled) filled levels

-- a row of a page ends within it
pub row_fits : (p : Setup) (k : ℕ) → k < p.numbers.rows → k * n p + n p ≤ cell_count p
row_fits p k h = omega (arith, mul-le (k + 1) (n p) p.numbers.rows (n p) (omega arith) (omega arith), add-mul k 1 (n p))

-- a row that is taken off the front of what is left of a page is the next one
pub row_taken : (n k : ℕ) (xs row rest : List ℕ) → drop (k * n) xs ≡ row ++ rest → length row ≡ n → (row ≡ row_of n k xs) × (rest ≡ drop ((k + 1) * n) xs)
row_taken n k xs row rest e l =
    let f : k * n + n ≡ (k + 1) * n = omega (arith, add-mul k 1 n) in (
      sym (ap (take n) e ∙ take-append-le n row rest (omega arith) ∙ ap (λ m. take m row) (sym l) ∙ take-length row),
      sym (ap (λ m. drop m xs) (sym f) ∙ sym (drop-drop n (k * n) xs) ∙ ap (drop n) e ∙ drop-append-le n row rest (omega arith) ∙ ap (λ m. drop m row ++ rest) (sym l) ∙ ap (λ t. t ++ rest) (drop-length row)),
    )

-- fewer columns than a row's are left of a page only after its last row
pub row_left : (p : Setup) (xs : List ℕ) → length xs ≡ cell_count p → (k : ℕ) (rest : List ℕ) → rest ≡ drop (k * n p) xs → length rest < n p → p.numbers.rows ≤ k
row_left p xs e k rest f h = elim (cases_lt k p.numbers.rows) [
  | inl lt ↦ absurd (omega (arith, row_fits p k lt, ap length f, length-drop (k * n p) xs))
  | inr ge ↦ ge
]

-- and has as many columns as the page
pub row_width : (p : Setup) (xs : List ℕ) → length xs ≡ cell_count p → (k : ℕ) → k < p.numbers.rows → length (row_of (n p) k xs) ≡ n p
row_width p xs e k h = length_part (n p) (k * n p) xs (omega (arith, row_fits p k h))

module _ (p : Setup) (g : Ranges (q p) p.numbers) (laid filled : List ℕ) (long : length laid ≡ cell_count p)
    (fills : FilledRows p.field (n p) (range_with_len 0 (r p)) laid filled) where
  pub row_filled : (k : ℕ) → k < p.numbers.rows → Filled p.field (range_with_len 0 (r p)) (row_of (n p) k laid) (row_of (n p) k filled)
  row_filled k h = fills.rows k (omega (arith, row_fits p k h))

  filled_long : length filled ≡ cell_count p
  filled_long = fills.long ∙ long

  -- place c of row k
  at : (xs : List ℕ) (k c : ℕ) → c < n p → get_or (row_of (n p) k xs) c 0 ≡ get_or xs (k * n p + c) 0
  at xs k c h = get_d_part (n p) (k * n p) xs c h

  -- the filled cells are elements
  pub filled_in : (i : ℕ) → i < length filled → get_or filled i 0 < q p
  filled_in i h =
      let k = row_in p g i (omega (arith, filled_long)) in let c = column_in p g i in
      subst (λ (x : ℕ). x < q p) (at filled (i / n p) (i % n p) c ∙ ap (λ (j : ℕ). get_or filled j 0) (cell_is p g i))
      ((row_filled (i / n p) k).is.code.elements (i % n p) (omega (arith, row_width p filled filled_long (i / n p) k)))

module _ (p : Setup) (b : Buffers) (cells laid filled levels : List ℕ) (s : Steps p b cells laid filled levels) where
  laid_long : length laid ≡ cell_count p
  laid_long = s.lays.long ∙ s.fits.cells_fit

  all_filled : length filled ≡ cell_count p
  all_filled = s.fills.long ∙ laid_long

  levels_long : length levels ≡ cell_count p
  levels_long = s.adds.long ∙ all_filled

  symbol_small : (i : ℕ) → i < cell_count p → get_or filled i 0 < q p
  symbol_small i h = filled_in p s.fits.ranges laid filled laid_long s.fills i (omega (arith, all_filled))

  level_is : (i : ℕ) → i < cell_count p → get_or levels i 0 ≡ get_or b.heights i 0 * q p + get_or filled i 0
  level_is i h = s.adds.new i (omega (arith, all_filled)) (omega (arith, all_filled))

  level_mod : (i : ℕ) → i < cell_count p → get_or levels i 0 % q p ≡ get_or filled i 0
  level_mod i h = ap (λ (x : ℕ). x % q p) (level_is i h) ∙ level_symbol (q p) (get_or b.heights i 0) (get_or filled i 0) (symbol_small i h)

  level_div : (i : ℕ) → i < cell_count p → get_or levels i 0 / q p ≡ get_or b.heights i 0
  level_div i h = ap (λ (x : ℕ). x / q p) (level_is i h) ∙ level_height (q p) (get_or b.heights i 0) (get_or filled i 0) (symbol_small i h)

  cell_in : (k c : ℕ) → k < p.numbers.rows → c < n p → k * n p + c < cell_count p
  cell_in k c h a = digits_lt {q = k} {m = p.numbers.rows} {r = c} {c = n p} h a

  place : (xs : List ℕ) (k c : ℕ) → c < n p → get_or (row_of (n p) k xs) c 0 ≡ get_or xs (k * n p + c) 0
  place xs k c h = get_d_part (n p) (k * n p) xs c h

  long_row : (xs : List ℕ) → length xs ≡ cell_count p → (k : ℕ) → k < p.numbers.rows → length (row_of (n p) k xs) ≡ n p
  long_row xs e k h = length_part (n p) (k * n p) xs (omega (arith, row_fits p k h))

  -- the symbols of a row, place by place
  symbols_long : (xs : List ℕ) → length xs ≡ cell_count p → (k : ℕ) → k < p.numbers.rows → length (symbols_of (q p) (row_of (n p) k xs)) ≡ n p
  symbols_long xs e k h = length-map (row_of (n p) k xs) (λ x. x % q p) ∙ long_row xs e k h

  symbol_of : (xs : List ℕ) → length xs ≡ cell_count p → (k c : ℕ) → k < p.numbers.rows → c < n p → get_or (symbols_of (q p) (row_of (n p) k xs)) c 0 ≡ get_or xs (k * n p + c) 0 % q p
  symbol_of xs e k c h a = get_or-map (λ x. x % q p) (row_of (n p) k xs) c 0 0 (omega (arith, long_row xs e k h)) ∙ ap (λ (x : ℕ). x % q p) (place xs k c a)

  row_symbols : (k : ℕ) → k < p.numbers.rows → symbols_of (q p) (row_of (n p) k levels) ≡ row_of (n p) k filled
  row_symbols k h = ext_get_or 0 (symbols_of (q p) (row_of (n p) k levels)) (row_of (n p) k filled) (symbols_long levels levels_long k h ∙ sym (long_row filled all_filled k h)) (λ c i.
      let a : c < n p = omega (arith, symbols_long levels levels_long k h) in
      symbol_of levels levels_long k c h a ∙ level_mod (k * n p + c) (cell_in k c h a) ∙ sym (place filled k c a))

  rows : (k : ℕ) → k < p.numbers.rows → Filled p.field (range_with_len 0 (r p)) (row_of (n p) k laid) (row_of (n p) k filled)
  rows k h = row_filled p s.fits.ranges laid filled laid_long s.fills k h

  -- what was laid in a message column
  laid_at : (k c : ℕ) → k < p.numbers.rows → r p ≤ c → c < n p → taken (q p) (get_or (row_of (n p) k laid) c 0) ≡ get_or b.symbols (symbol_at p s.fits.ranges k c) 0
  laid_at k c h a d =
      let small = s.fits.symbols_in (symbol_at p s.fits.ranges k c) (symbol_in p s.fits.ranges k c h a d) in
      ap (taken (q p)) (place laid k c d ∙ s.lays.new (k * n p + c) (omega (arith, s.fits.cells_fit, cell_in k c h d)) (omega (arith, s.fits.cells_fit, cell_in k c h d))
      ∙ laid_message p s.fits.ranges b.symbols k c a d) ∙ grind (arith, nat_tests)

  -- the filled row holds its message symbols
  message_at : (k c : ℕ) → k < p.numbers.rows → r p ≤ c → c < n p → get_or filled (k * n p + c) 0 ≡ get_or b.symbols (symbol_at p s.fits.ranges k c) 0
  message_at k c h a d =
      sym (place filled k c d) ∙ (rows k h).is.kept c (omega (arith, long_row laid laid_long k h)) (counting_off 0 (r p) c (omega arith)) ∙ laid_at k c h a d

  has_symbols : b.symbols ≡ (contents p levels).symbols
  has_symbols = fill_by_all (λ j. get_or levels (cell_of p j) 0 % q p) b.symbols (symbol_count p) 0 s.fits.symbols_fit (λ j h.
      let k = symbol_row p s.fits.ranges j h in let c = symbol_column p s.fits.ranges j in
      sym (level_mod (cell_of p j) (cell_in (message_row p j) (message_column p j) k c) ∙ message_at (message_row p j) (message_column p j) k (omega arith) c
      ∙ ap (λ (i : ℕ). get_or b.symbols i 0) (symbol_is p s.fits.ranges j)))

  has_heights : b.heights ≡ (contents p levels).heights
  has_heights = fill_by_all (λ i. get_or levels i 0 / q p) b.heights (cell_count p) 0 s.fits.heights_fit (λ i h. sym (level_div i h))

  holds : Holds p b levels
  holds = record {
    size = levels_long;
    code = λ k h. subst (CodeRow p.field (r p)) (sym (row_symbols k h))
        (subst (λ (m : ℕ). CodeRow p.field m (row_of (n p) k filled)) (length-range_with_len 0 (r p)) (rows k h).is.code);
    has = ap₂ (λ (x y : List ℕ). record { symbols = x; heights = y }) has_symbols has_heights;
  }

  -- any page with these contents and code rows has the filled rows of symbols
  module _ (zs : List ℕ) (z : Holds p b zs) where
    symbol_z : (j : ℕ) → j < symbol_count p → get_or b.symbols j 0 ≡ get_or zs (cell_of p j) 0 % q p
    symbol_z j h = ap (λ (x : Buffers). get_or x.symbols j 0) z.has ∙ get_or-map-range_with_len (λ j. get_or zs (cell_of p j) 0 % q p) 0 (symbol_count p) j j 0 h (omega arith)

    height_z : (i : ℕ) → i < cell_count p → get_or b.heights i 0 ≡ get_or zs i 0 / q p
    height_z i h = ap (λ (x : Buffers). get_or x.heights i 0) z.has ∙ get_or-map-range_with_len (λ i. get_or zs i 0 / q p) 0 (cell_count p) i i 0 h (omega arith)

    row_z : (k : ℕ) → k < p.numbers.rows → symbols_of (q p) (row_of (n p) k zs) ≡ row_of (n p) k filled
    row_z k h = (rows k h).only (symbols_of (q p) (row_of (n p) k zs)) (record {
      long = symbols_long zs z.size k h ∙ sym (long_row laid laid_long k h);
      code = subst (λ (m : ℕ). CodeRow p.field m (symbols_of (q p) (row_of (n p) k zs))) (sym (length-range_with_len 0 (r p))) (z.code k h);
      kept = λ c i e.
          let d : c < n p = omega (arith, long_row laid laid_long k h) in let a = counting_past (r p) c e in
          symbol_of zs z.size k c h d ∙ ap (λ (x : ℕ). get_or zs x 0 % q p) (sym (cell_of_symbol p s.fits.ranges k c a d))
          ∙ sym (symbol_z (symbol_at p s.fits.ranges k c) (symbol_in p s.fits.ranges k c h a d)) ∙ sym (laid_at k c h a d);
    })

    mod_z : (i : ℕ) → i < cell_count p → get_or zs i 0 % q p ≡ get_or filled i 0
    mod_z i h =
        let k = row_in p s.fits.ranges i h in let c = column_in p s.fits.ranges i in let e = cell_is p s.fits.ranges i in
        ap (λ (x : ℕ). get_or zs x 0 % q p) (sym e) ∙ sym (symbol_of zs z.size (i / n p) (i % n p) k c)
        ∙ ap (λ (row : List ℕ). get_or row (i % n p) 0) (row_z (i / n p) k) ∙ place filled (i / n p) (i % n p) c ∙ ap (λ (x : ℕ). get_or filled x 0) e

    one_page : zs ≡ levels
    one_page = ext_get_or 0 zs levels (z.size ∙ sym levels_long) (λ i h.
        let a : i < cell_count p = omega (arith, z.size) in
        sym (div-add-mod' (get_or zs i 0) (q p)) ∙ ap₂ (λ (x y : ℕ). x * q p + y) (sym (height_z i a)) (mod_z i a) ∙ sym (level_is i a))

  pub written : Written p b levels
  written = record { holds = holds; only = one_page }
