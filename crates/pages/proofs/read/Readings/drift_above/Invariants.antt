use Rattle.std.proofs.Common.{◌≡◌, ℕ, ◌-◌, not, ◌&&◌, ltb, length, get_or}
use Rattle.basics.specs.Checks.{check, lowest}
use Rattle.algebra.specs.Rows.{among}
use Rattle.rules.specs.Reach.{drift}
use Rattle.pages.specs.Readings.{of_page, seen}
use Rattle.pages.proofs.read.Readings.drift_above.Given as goal

-- the columns that are left decide
abbrev pub invariant-loop-i : goal.invariant-loop-i
invariant-loop-i g l =
    (m : ℕ → ℕ) → ((x y : ℕ) → goal.L-post g l.limit x y → y ≡ m x)
    → let at = λ (i : ℕ). check (not (among i (seen l.self).marking) && ltb (m (get_or l.readings i 0)) (drift (of_page l.self) (get_or l.readings i 0) (get_or l.symbols i 0))) i in
    lowest 0 (length l.readings) at ≡ lowest l.i (length l.readings - l.i) at
