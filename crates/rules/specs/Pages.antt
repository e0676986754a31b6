-- A page of levels and its contents.
use Rattle.std.specs.Prelude.{◌≡◌, ℕ, ◌+◌, ◌-◌, ◌*◌, ◌/◌, ◌%◌, ◌<◌, List, map, length, slice_index}
use Rattle.std.specs.List.{range_with_len}
use Rattle.basics.specs.Lists.{row_of}
use Rattle.fields.specs.Rings.{FieldOps}
use Rattle.algebra.specs.Rows.{CodeRow}
use Rattle.plans.specs.declared.numbers.Numbers.{Numbers}

-- a page's field and numbers, which no call changes
pub record Setup : Type 0 where
  pub field : FieldOps
  pub numbers : Numbers

-- what calls change: the marked columns, and the cells, row after row
pub record State : Type 0 where
  pub marking : List ℕ
  pub cells : List ℕ

-- what a caller brings to a write, or has filled by a read: message symbols and heights, row after row
pub record Buffers : Type 0 where
  pub symbols : List ℕ
  pub heights : List ℕ

-- the list f 0, f 1, .. of m numbers
abbrev pub tabled : ℕ → (ℕ → ℕ) → List ℕ
tabled m f = map f (range_with_len 0 m)

-- the symbols of levels: their remainders by the order
abbrev pub symbols_of : ℕ → List ℕ → List ℕ
symbols_of q xs = map (λ x. x % q) xs

module _ (p : Setup) where
  -- Q, the field's order
  abbrev pub q : ℕ
  q = p.field.ring.order

  -- n, how many columns there are
  abbrev pub n : ℕ
  n = p.numbers.columns

  -- r, how many of them are check columns, the first ones
  abbrev pub r : ℕ
  r = p.numbers.checks

  -- how many cells, and how many message symbols, the page has
  abbrev pub cell_count : ℕ
  cell_count = p.numbers.rows * n

  abbrev pub symbol_count : ℕ
  symbol_count = p.numbers.rows * (n - r)

  -- the row and the column of message symbol j, and its cell: each row's messages stand in its columns r to n - 1
  abbrev pub message_row : ℕ → ℕ
  message_row j = j / (n - r)

  abbrev pub message_column : ℕ → ℕ
  message_column j = r + j % (n - r)

  abbrev pub cell_of : ℕ → ℕ
  cell_of j = message_row j * n + message_column j

  -- the contents of a page of levels: a level is height × Q + symbol
  abbrev pub contents : List ℕ → Buffers
  contents xs = record {
    symbols = tabled symbol_count (λ j. slice_index xs (cell_of j) % q);
    heights = tabled cell_count (λ i. slice_index xs i / q);
  }

  -- xs is a page of levels with these contents, whose rows of symbols are code rows
  pub record Holds (b : Buffers) (xs : List ℕ) : Type 0 where
    pub size : length xs ≡ cell_count
    pub code : (k : ℕ) → k < p.numbers.rows → CodeRow p.field r (symbols_of q (row_of n k xs))
    pub has : b ≡ contents xs

  -- xs is that page, and there is no other
  pub record Written (b : Buffers) (xs : List ℕ) : Type 0 where
    pub holds : Holds b xs
    pub only : (zs : List ℕ) → Holds b zs → zs ≡ xs
