-- The marking of a page, and what one more marked column makes of it.
use Rattle.std.specs.Prelude.{◌≡◌, ℕ, ◌-◌, ◌<◌, ◌≤◌, min, max, Bool, true, ◌&&◌, ◌||◌, List, [], ◌∷◌, length, Some, None, Option, nat_le, nat_lt, slice_index}
use Rattle.basics.specs.Checks.{check, ◌or_else◌, lowest}
use Rattle.algebra.specs.Rows.{among, rising}
use Rattle.plans.specs.declared.numbers.Numbers.{Numbers}
use Rattle.plans.specs.declared.fault.Refusal.{Refusal}
use Rattle.plans.specs.declared.fault.MarkFault.{MarkFault}
use Rattle.plans.specs.declared.fault.MarkFault.TheVariants.{Column, Marked, Full}
use Rattle.plans.specs.declared.fault.MarkingFault.{MarkingFault}
use Rattle.plans.specs.declared.fault.MarkingFault.TheVariants as marking

-- a rising list with column c more: each place keeps the smaller and hands the larger on
abbrev pub inserted : ℕ → List ℕ → List ℕ
inserted c [] = c ∷ []
inserted c (m ∷ ms) = min c m ∷ inserted (max c m) ms

-- what marking column c is refused for, where the columns ms are marked: it is not below n; it is marked; r columns are marked, or 64,
-- which is as many as there is room for and as any order allows
abbrev pub mark_fault : Numbers → List ℕ → ℕ → Option MarkFault
mark_fault p ms c =
    check (nat_le p.columns c) (Column c)
    or_else check (among c ms) (Marked c)
    or_else check (nat_le (min 64 p.checks) (length ms)) (Full c)

-- the columns that are marked after it
abbrev pub marked_by : Option MarkFault → ℕ → List ℕ → List ℕ
marked_by None c ms = inserted c ms
marked_by (Some f) c ms = ms

-- the place of a column in a rising list that has not got it: those before are smaller, and the rest are larger
pub record IsPlace (c : ℕ) (ms : List ℕ) (place : ℕ) : Type 0 where
  pub inside : place ≤ length ms
  pub before : (k : ℕ) → k < place → slice_index ms k < c
  pub after : (k : ℕ) → place ≤ k → k < length ms → c < slice_index ms k

-- the refusal of a mark: its number, and the column as the second place
abbrev pub mark_refusal : MarkFault → Refusal
mark_refusal (Column c) = record { number = 14; first = 0; second = c }
mark_refusal (Marked c) = record { number = 15; first = 0; second = c }
mark_refusal (Full c) = record { number = 16; first = 0; second = c }

-- the column in place i of a list is not below n, or not above the one before it
abbrev pub wrong_column : ℕ → List ℕ → ℕ → Bool
wrong_column n ms i = nat_le n (slice_index ms i) || (nat_lt 0 i && nat_le (slice_index ms i) (slice_index ms (i - 1)))

-- the first column of the list ms that is wrong
abbrev pub columns_fault : ℕ → List ℕ → Option MarkingFault
columns_fault n ms = lowest 0 (length ms) (λ i. check (wrong_column n ms i) (marking.Column i))

-- why the list ms is no marking: it has more than r columns, or than 64; or a column is wrong
abbrev pub marking_fault : Numbers → List ℕ → Option MarkingFault
marking_fault p ms = check (nat_lt (min 64 p.checks) (length ms)) marking.Long or_else columns_fault p.columns ms

-- what holds of a list that is a marking
pub record FitsMarking (p : Numbers) (ms : List ℕ) : Type 0 where
  pub room : length ms ≤ 64
  pub few : length ms ≤ p.checks
  pub rises : rising 0 p.columns ms ≡ true
