-- Which rows can be filled, and what filling leaves.
use Rattle.std.specs.Prelude.{◌≡◌, ℕ, zero, suc, ◌+◌, ◌-◌, ◌*◌, ◌%◌, ◌<◌, ◌≤◌, min, true, cond, not, ◌||◌, List, length, Option, ◌==◌, ◌≢◌, nat_lt, slice_index}
use Rattle.basics.specs.Checks.{check, ◌or_else◌}
use Rattle.basics.specs.Lists.{row_of}
use Rattle.fields.specs.Rings.{RingOps, FieldOps, taken, power, entry}
use Rattle.algebra.specs.Rows.{rising, among, Filled}
use Rattle.algebra.specs.Polynomials.{filler}
use Rattle.codes.specs.declared.fill.FillFault.{FillFault}
use Rattle.codes.specs.declared.fill.FillFault.TheVariants.{Width, Columns, Length}

-- what filling the columns ms of rows of n symbols is refused for, over a field of Q elements, with size symbols in all: n is 1
-- to the smaller of Q - 1 and 256; there are at most 64 columns ms, rising and below n; the rows are whole
abbrev pub fill_fault : ℕ → ℕ → List ℕ → ℕ → Option FillFault
fill_fault q n ms size =
    check (nat_lt n 1 || nat_lt (min (q - 1) 256) n) Width
    or_else check (nat_lt 64 (length ms) || not (rising 0 n ms)) Columns
    or_else check (not (size % n == 0)) Length

-- what holds of a row's columns where it is not refused
pub record FitsRow (q n : ℕ) (ms : List ℕ) : Type 0 where
  pub some : 0 < n
  pub points : n < q
  pub few : n ≤ 256
  pub checks : length ms ≤ 64
  pub columns : rising 0 n ms ≡ true

-- and of the rows
pub record Fits (q n : ℕ) (ms : List ℕ) (size : ℕ) : Type 0 where
  pub row : FitsRow q n ms
  pub whole : size % n ≡ 0

-- in the rows below n, which there are, and the lanes below w, entry j of row i is g i j
pub record Tabled (n w : ℕ) (g : ℕ → ℕ → ℕ) (table : List (List ℕ)) : Type 0 where
  pub long : n ≤ length table
  pub is : (i j : ℕ) → i < n → j < w → entry table i j ≡ g i j

-- the powers 1 and up of the points, a row for each point
abbrev pub power_of : RingOps → (ℕ → ℕ) → ℕ → ℕ → ℕ
power_of o point i j = power o (point i) (j + 1)

-- what 1 of syndrome s + 1 adds to the k-th of the columns ms, when these are filled
abbrev pub filler_of : RingOps → (ℕ → ℕ) → (ℕ → ℕ) → List ℕ → ℕ → ℕ → ℕ
filler_of o inv point ms = filler o inv (length ms) (λ i. point (slice_index ms i))

-- c(0) x^(j - 1) + .. + c(j - 1), as Horner's rule takes it
unfoldable pub nested : RingOps → ℕ → (ℕ → ℕ) → ℕ → ℕ
nested o x c zero = 0
nested o x c (suc j) = o.add (o.mul x (nested o x c j)) (c j)

-- ys is xs with the first n of the values vs at the first n of the columns ms
pub record Placed (n : ℕ) (ms vs xs ys : List ℕ) : Type 0 where
  pub long : length ys ≡ length xs
  pub at : (k : ℕ) → k < n → slice_index ys (slice_index ms k) ≡ slice_index vs k
  pub off : (i : ℕ) → ((k : ℕ) → k < n → slice_index ms k ≢ i) → slice_index ys i ≡ slice_index xs i

-- the row holds the symbols of xs, with 0 in place of those of the order q or above, and in the columns ms
pub record Copied (q : ℕ) (ms : List ℕ) (xs row : List ℕ) : Type 0 where
  pub long : length row ≡ 256
  pub is : (k : ℕ) → k < length xs → slice_index row k ≡ cond (among k ms) 0 (taken q (slice_index xs k))

-- each row of ys is the row of xs with the columns ms filled
pub record FilledRows (f : FieldOps) (n : ℕ) (ms xs ys : List ℕ) : Type 0 where
  pub long : length ys ≡ length xs
  pub rows : (k : ℕ) → k * n + n ≤ length xs → Filled f ms (row_of n k xs) (row_of n k ys)
