-- The image of a page: blocks of 512 bytes, numbers with their low byte first.
use Rattle.std.specs.Prelude.{ℕ, zero, suc, ◌+◌, ◌-◌, ◌*◌, ◌/◌, ◌%◌, Bool, cond, ◌&&◌, List, [], ◌∷◌, ◌++◌, length, ◌==◌, nat_lt, slice_index}
use Rattle.plans.specs.declared.numbers.Numbers.{Numbers}
use Rattle.rules.specs.Pages.{tabled}
use Rattle.rules.specs.Reach.{total}

-- what an image holds: a kind number, the page's numbers, its marking, and its cells
pub record Stored : Type 0 where
  pub kind : ℕ
  pub numbers : Numbers
  pub marking : List ℕ
  pub cells : List ℕ

-- the bytes of a number, the lowest first
abbrev pub two_bytes : ℕ → List ℕ
two_bytes x = x % 256 ∷ x / 256 % 256 ∷ []

abbrev pub four_bytes : ℕ → List ℕ
four_bytes x = x % 256 ∷ x / 256 % 256 ∷ x / 65536 % 256 ∷ x / 16777216 % 256 ∷ []

-- byte i of a list of numbers that are stored two bytes each; after the last of them it is 0, which is filler
unfoldable pub words_at : List ℕ → ℕ → ℕ
words_at xs i = slice_index (two_bytes (slice_index xs (i / 2))) (i % 2)

-- the first word of every image, and its edition
abbrev pub first_bytes : List ℕ
first_bytes = 0x41 ∷ 0x4C ∷ 0x4D ∷ 0x50 ∷ 1 ∷ []

-- bytes 0 to 15: the first word, the edition, the kind, n, r, R, H, D, how many columns are marked, and filler
abbrev pub bytes_of_head : ℕ → Numbers → ℕ → List ℕ
bytes_of_head kind p count =
    first_bytes ++ kind ∷ p.columns % 256 ∷ p.columns / 256 % 256 ∷ p.checks ∷ p.rows
    ∷ p.heights % 256 ∷ p.heights / 256 % 256 ∷ p.drift % 256 ∷ p.drift / 256 % 256 ∷ count ∷ 0 ∷ []

-- byte j of block 0, before its check: after those come the marked columns, and filler
unfoldable pub head_at : ℕ → Numbers → List ℕ → ℕ → ℕ
head_at kind p ms j = cond (nat_lt j 16) (slice_index (bytes_of_head kind p (length ms)) j) (words_at ms (j - 16))

-- byte j of block b, before its check: a block after block 0 holds 508 bytes of the readings
abbrev pub plain_at : Stored → ℕ → ℕ → ℕ
plain_at s zero j = head_at s.kind s.numbers s.marking j
plain_at s (suc b) j = words_at s.cells (508 * b + j)

-- the check of block b, whose bytes are f: 1 + b + the sum of (j + 1) × byte j, for j from 0 to 507
unfoldable pub check_value : ℕ → (ℕ → ℕ) → ℕ
check_value b f = 1 + b + total 508 (λ j. (j + 1) * f j)

-- block b with its check in bytes 508 to 511
unfoldable pub sealed_at : ℕ → (ℕ → ℕ) → ℕ → ℕ
sealed_at b f j = cond (nat_lt j 508) (f j) (slice_index (four_bytes (check_value b f)) (j - 508))

-- bytes 508 to 511 of block b, whose bytes are f, are its check
unfoldable pub sealed : ℕ → (ℕ → ℕ) → Bool
sealed b f =
    (f 508 == slice_index (four_bytes (check_value b f)) 0 && f 509 == slice_index (four_bytes (check_value b f)) 1)
    && (f 510 == slice_index (four_bytes (check_value b f)) 2 && f 511 == slice_index (four_bytes (check_value b f)) 3)

-- byte i of the image
unfoldable pub image_at : Stored → ℕ → ℕ
image_at s i = sealed_at (i / 512) (plain_at s (i / 512)) (i % 512)

-- how many level blocks hold this many readings
abbrev pub blocks_of_levels : ℕ → ℕ
blocks_of_levels count = (count + 253) / 254

-- how many cells a page has
abbrev pub cell_count : Numbers → ℕ
cell_count p = p.rows * p.columns

-- how many bytes the image of a page has
abbrev pub image_size : Numbers → ℕ
image_size p = 512 * (1 + blocks_of_levels (cell_count p))

-- the image
abbrev pub image_of : Stored → List ℕ
image_of s = tabled (image_size s.numbers) (image_at s)
