-- Which rows can be corrected, and what correcting leaves.
use Rattle.std.specs.Prelude.{◌≡◌, ℕ, ◌+◌, ◌-◌, ◌*◌, ◌%◌, ◌<◌, ◌≤◌, min, Bool, true, false, cond, not, ◌||◌, List, length, take, Some, None, Option, ◌==◌, nat_lt, slice_index, slice_index_or}
use Rattle.basics.specs.Checks.{check, ◌or_else◌}
use Rattle.basics.specs.Lists.{row_of}
use Rattle.fields.specs.Rings.{RingOps, FieldOps, Inverses, Points}
use Rattle.algebra.specs.Rows.{moment, rising, among, taken_row, CloseRow, Corrected}
use Rattle.algebra.specs.Polynomials.{product}
use Rattle.algebra.specs.Recurrences.{at}
use Rattle.codes.specs.Fill.{Tabled, power_of}
use Rattle.algebra.specs.Coefficients.{value_at}
use Rattle.codes.specs.declared.correct.CorrectFault.{CorrectFault}
use Rattle.codes.specs.declared.correct.CorrectFault.TheVariants.{Width, Checks, Marking, Length, Lost}
use Rattle.codes.specs.declared.correct.Tables.{Tables}
use Rattle.codes.specs.declared.correct.Damage.{Damage}

-- what correcting rows of n symbols with r checks and the marked columns ms is refused for, over a field of Q elements, with size
-- symbols in all: n is 1 to the smaller of Q - 1 and 256; r is at most 64; there are at most r columns ms, rising and below n; the
-- rows are whole
abbrev pub correct_fault : ℕ → ℕ → ℕ → List ℕ → ℕ → Option CorrectFault
correct_fault q n r ms size =
    check (nat_lt n 1 || nat_lt (min (q - 1) 256) n) Width
    or_else check (nat_lt 64 r) Checks
    or_else check (nat_lt r (length ms) || not (rising 0 n ms)) Marking
    or_else check (not (size % n == 0)) Length

-- what a fault says of that: a row is lost only where nothing is refused
abbrev pub refusal : CorrectFault → Option CorrectFault
refusal Width = Some Width
refusal Checks = Some Checks
refusal Marking = Some Marking
refusal Length = Some Length
refusal (Lost k) = None

-- each row of ys is the one code row that is close enough to the row of xs
pub record CorrectedRows (f : FieldOps) (n r : ℕ) (ms xs ys : List ℕ) : Type 0 where
  pub long : length ys ≡ length xs
  pub rows : (k : ℕ) → k * n + n ≤ length xs → Corrected f r ms (taken_row f.ring.order (row_of n k xs)) (row_of n k ys)

-- row k is lost: no code row is close enough to it. The rows before it are corrected, and from there on all is as it was
pub record LostRow (f : FieldOps) (n r : ℕ) (ms : List ℕ) (k : ℕ) (xs ys : List ℕ) : Type 0 where
  pub whole : k * n + n ≤ length xs
  pub long : length ys ≡ length xs
  pub before : (j : ℕ) → j < k → Corrected f r ms (taken_row f.ring.order (row_of n j xs)) (row_of n j ys)
  pub none : (cs : List ℕ) → CloseRow f r ms (taken_row f.ring.order (row_of n k xs)) cs → ⊥
  pub rest : (i : ℕ) → k * n ≤ i → slice_index ys i ≡ slice_index xs i

-- what a fault leaves
abbrev pub Left : FieldOps → ℕ → ℕ → List ℕ → List ℕ → List ℕ → CorrectFault → Type 0
Left f n r ms xs ys Width = ys ≡ xs
Left f n r ms xs ys Checks = ys ≡ xs
Left f n r ms xs ys Marking = ys ≡ xs
Left f n r ms xs ys Length = ys ≡ xs
Left f n r ms xs ys (Lost k) = LostRow f n r ms k xs ys

-- what holds of a row where nothing is refused
pub record FitsChecks (q n r : ℕ) (ms : List ℕ) : Type 0 where
  pub some : 0 < n
  pub points : n < q
  pub few : n ≤ 256
  pub checks : r ≤ 64
  pub marks : length ms ≤ r
  pub columns : rising 0 n ms ≡ true

-- the flags bs below n are t
pub record Flagged (n : ℕ) (t : ℕ → Bool) (bs : List Bool) : Type 0 where
  pub is : (k : ℕ) → k < n → slice_index_or bs k false ≡ t k

-- the symbol s of column k, where x is the inverse of its point: in a damaged column Forney's value is subtracted, minus the value of
-- the first r coefficients of the one polynomial divided by that of the other
abbrev pub repaired_at : RingOps → (ℕ → ℕ) → Damage → ℕ → ℕ → ℕ → ℕ → ℕ
repaired_at o inv d r k x s =
    cond (slice_index_or d.columns k false) (o.add s (o.neg (o.neg (o.mul (value_at o (take r d.above) x) (inv (value_at o (take r d.below) x)))))) s

-- the answer b says whether P holds
pub record Tells (b : Bool) (P : Type 0) : Type 0 where
  pub yes : b ≡ true → P
  pub no : b ≡ false → P → ⊥

-- the tables are those of the marked columns ms, and the field keeps its rules
pub record Ready (f : FieldOps) (inv : ℕ → ℕ) (ms : List ℕ) (t : Tables) : Type 0 where
  pub fits : FitsChecks f.ring.order t.width t.checks ms
  pub inverses : Inverses f.ring inv
  pub points : Points f.ring f.point
  pub powers_are : Tabled t.width t.checks (power_of f.ring f.point) t.powers
  pub inverses_are : (k : ℕ) → k < t.width → slice_index t.inverses k ≡ inv (f.point k)
  pub marks_are : Flagged t.width (λ k. among k ms) t.marks
  pub locator_is : (j : ℕ) → j < 65 → slice_index t.locator j ≡ product f.ring t.width (λ k. among k ms) f.point j

-- ss are the syndromes 1 to r of the first n symbols of the row
pub record Syndromes (f : FieldOps) (n r : ℕ) (row ss : List ℕ) : Type 0 where
  pub is : (j : ℕ) → j < r → slice_index ss j ≡ moment f.ring n f.point (at (take n row)) (j + 1)

-- no code row is close enough to the row xs, and ys is xs
pub record LostSymbols (f : FieldOps) (r : ℕ) (ms xs ys : List ℕ) : Type 0 where
  pub same : ys ≡ xs
  pub none : (cs : List ℕ) → CloseRow f r ms (taken_row f.ring.order xs) cs → ⊥
