-- What bytes are an image, and what an image holds.
use Rattle.std.specs.Prelude.{ℕ, ◌+◌, ◌-◌, ◌*◌, ◌/◌, ◌%◌, Bool, cond, not, ◌&&◌, ◌||◌, List, Option, ◌==◌, nat_le, nat_lt, slice_index}
use Rattle.basics.specs.Checks.{check, ◌or_else◌, lowest, told}
use Rattle.plans.specs.declared.numbers.Numbers.{Numbers}
use Rattle.plans.specs.Orders.{outside}
use Rattle.plans.specs.Marks.{marking_fault}
use Rattle.rules.specs.Pages.{tabled}
use Rattle.rules.specs.Views.{kind_fault}
use Rattle.images.specs.Format.{Stored, first_bytes, sealed, blocks_of_levels, cell_count, image_size}
use Rattle.images.specs.declared.fault.ImageFault.{ImageFault}
use Rattle.images.specs.declared.fault.ImageFault.TheVariants.{Length, Check, Word, Header, Marking, Blocks, Filler}

-- a list of bytes by its places
abbrev pub bytes_at : List ℕ → ℕ → ℕ
bytes_at xs i = slice_index xs i

-- the number of two bytes from place i on
abbrev pub word_at : (ℕ → ℕ) → ℕ → ℕ
word_at at i = at i + 256 * at (i + 1)

-- where byte i of the readings stands
abbrev pub stream_place : ℕ → ℕ
stream_place i = 512 * (1 + i / 508) + i % 508

-- reading c
abbrev pub reading_at : (ℕ → ℕ) → ℕ → ℕ
reading_at at c = at (stream_place (2 * c)) + 256 * at (stream_place (2 * c + 1))

module _ (at : ℕ → ℕ) where
  -- the numbers that the header names
  abbrev pub numbers_in : Numbers
  numbers_in = record { columns = word_at at 6; checks = at 8; rows = at 9; heights = word_at at 10; drift = word_at at 12 }

  -- the columns that it names as marked
  abbrev pub marking_in : List ℕ
  marking_in = tabled (at 14) (λ i. word_at at (16 + 2 * i))

  -- all that the bytes hold
  abbrev pub stored_in : Stored
  stored_in = record { kind = at 5; numbers = numbers_in; marking = marking_in; cells = tabled (cell_count numbers_in) (reading_at at) }

  -- place i is filler: in block 0 byte 15 and what follows the marked columns, and in a level block what follows the last reading
  abbrev pub filler_here : ℕ → Bool
  filler_here i =
      cond (nat_lt i 512) (i == 15 || (nat_le (16 + 2 * at 14) i && nat_lt i 508))
      (nat_lt (i % 512) 508 && nat_le (2 * cell_count numbers_in) (508 * (i / 512 - 1) + i % 512))

  -- a block whose check is wrong
  abbrev pub seal_fault : ℕ → Option ImageFault
  seal_fault b = check (not (sealed b (λ j. at (512 * b + j)))) (Check b)

  -- a byte of the first word or the edition that is wrong
  abbrev pub word_fault : ℕ → Option ImageFault
  word_fault i = check (not (at i == slice_index first_bytes i)) (Word i)

  -- filler that is not 0
  abbrev pub filler_fault : ℕ → Option ImageFault
  filler_fault i = check (filler_here i && not (at i == 0)) (Filler (i / 512) (i % 512))

  -- why size bytes are no image
  abbrev pub open_fault : ℕ → Option ImageFault
  open_fault size =
      check (not (size % 512 == 0) || outside 1024 17408 size) Length
      or_else lowest 0 (size / 512) seal_fault
      or_else lowest 0 5 word_fault
      or_else told Header (kind_fault (at 5) numbers_in)
      or_else told Marking (marking_fault numbers_in marking_in)
      or_else check (not (size == image_size numbers_in)) (Blocks (1 + blocks_of_levels (cell_count numbers_in)))
      or_else lowest 0 size filler_fault
