-- Levels: height × Q + symbol.
use Rattle.std.proofs.Common.{◌≡◌, ℕ, suc, ◌+◌, ◌-◌, ◌*◌, ◌/◌, ◌%◌, ◌<◌, ◌≤◌, cond, ltb, List, get_or, ap, ◌∙◌, ap₂, mod-lt, suc-mul, mul_comm, div-lt_iff_lt-mul, div-add-mod', arith}
use lib.Arith.{digits_lt, digits_div, digits_mod}
use Rattle.std.proofs.lemmas.Nat.{mul-le}
use Rattle.std.proofs.lemmas.Bool.{le-ltb}
use Rattle.plans.specs.Orders.{Ranges}
use Rattle.rules.specs.Pages.{Setup, q, n, r, cell_count, symbol_count, message_row, message_column, cell_of}
use Rattle.rules.specs.Views.{laid_entry}

-- a level is below Q × H, where the height is below H and the symbol below Q
pub level_few : (q heights h s : ℕ) → q * heights ≤ 4096 → h < heights → s < q → h * q + s < 4096
level_few q heights h s e a b = omega (arith, mul-le (suc h) q heights q a (omega arith), suc-mul h q, mul_comm q heights)

module _ (p : Setup) (g : Ranges (q p) p.numbers) where
  some_columns : 0 < n p
  some_columns = omega (arith, g.two_columns)

  some_messages : 0 < n p - r p
  some_messages = omega (arith, g.message)

  -- the row and the column of a cell
  pub row_in : (i : ℕ) → i < cell_count p → i / n p < p.numbers.rows
  row_in i h = (div-lt_iff_lt-mul {k = n p} {x = i} {y = p.numbers.rows} some_columns).1 h

  pub column_in : (i : ℕ) → i % n p < n p
  column_in i = mod-lt i some_columns

  pub cell_is : (i : ℕ) → i / n p * n p + i % n p ≡ i
  cell_is i = div-add-mod' i (n p)

  -- the message symbol of the cell at row k and column c
  abbrev pub symbol_at : ℕ → ℕ → ℕ
  symbol_at k c = k * (n p - r p) + (c - r p)

  pub symbol_in : (k c : ℕ) → k < p.numbers.rows → r p ≤ c → c < n p → symbol_at k c < symbol_count p
  symbol_in k c h a b = digits_lt {q = k} {m = p.numbers.rows} {r = c - r p} {c = n p - r p} h (omega arith)

  -- its cell is that cell
  pub cell_of_symbol : (k c : ℕ) → r p ≤ c → c < n p → cell_of p (symbol_at k c) ≡ k * n p + c
  cell_of_symbol k c a b =
      let d : (c - r p) < n p - r p = omega arith in
      ap₂ (λ (x y : ℕ). x * n p + (r p + y)) (digits_div k {m = n p - r p} {r = c - r p} d) (digits_mod k {m = n p - r p} {r = c - r p} d) ∙ omega arith

  pub laid_message : (symbols : List ℕ) (k c : ℕ) → r p ≤ c → c < n p → laid_entry p symbols (k * n p + c) ≡ get_or symbols (symbol_at k c) 0
  laid_message symbols k c a b =
      ap₂ (λ (x y : ℕ). cond (ltb y (r p)) 0 (get_or symbols (x * (n p - r p) + (y - r p)) 0)) (digits_div k {m = n p} {r = c} b) (digits_mod k {m = n p} {r = c} b)
      ∙ ap (λ t. cond t 0 (get_or symbols (symbol_at k c) 0)) (le-ltb c (r p) a)

  -- every message symbol is that of a cell
  pub symbol_row : (j : ℕ) → j < symbol_count p → message_row p j < p.numbers.rows
  symbol_row j h = (div-lt_iff_lt-mul {k = n p - r p} {x = j} {y = p.numbers.rows} some_messages).1 h

  pub symbol_column : (j : ℕ) → message_column p j < n p
  symbol_column j = omega (arith, mod-lt j some_messages)

  pub symbol_is : (j : ℕ) → symbol_at (message_row p j) (message_column p j) ≡ j
  symbol_is j = let e : (r p + j % (n p - r p)) - r p ≡ j % (n p - r p) = omega arith in ap (λ (x : ℕ). j / (n p - r p) * (n p - r p) + x) e ∙ div-add-mod' j (n p - r p)

  pub message_inside : (i : ℕ) → i < cell_count p → r p ≤ i % n p → i / n p * (n p - r p) + (i % n p - r p) < symbol_count p
  message_inside i h a = symbol_in (i / n p) (i % n p) (row_in i h) a (column_in i)

  -- the cell of a message symbol stands on the page
  pub cell_inside : (j : ℕ) → j < symbol_count p → cell_of p j < cell_count p
  cell_inside j h = digits_lt {q = message_row p j} {m = p.numbers.rows} {r = message_column p j} {c = n p} (symbol_row j h) (symbol_column j)

-- height and symbol of a level
pub level_height : (q h s : ℕ) → s < q → (h * q + s) / q ≡ h
level_height q h s b = digits_div h {m = q} {r = s} b

pub level_symbol : (q h s : ℕ) → s < q → (h * q + s) % q ≡ s
level_symbol q h s b = digits_mod h {m = q} {r = s} b
