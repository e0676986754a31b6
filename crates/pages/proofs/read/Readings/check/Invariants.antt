use Rattle.std.proofs.Common.{◌≡◌, ◌-◌, length}
use Rattle.basics.specs.Checks.{lowest}
use Rattle.rules.specs.Calls.{reading_fault}
use Rattle.pages.specs.Readings.{of_page, seen}
use Rattle.pages.proofs.read.Readings.check.Given as goal

-- the places that are left decide
abbrev pub invariant-loop-i : goal.invariant-loop-i
invariant-loop-i g l =
    let at = reading_fault (of_page l.self) (seen l.self) in
    lowest 0 (length l.cells) at ≡ lowest l.i (length l.cells - l.i) at
