use Rattle.std.proofs.Common.{◌≡◌, ◌-◌, length}
use Rattle.basics.specs.Checks.{lowest}
use Rattle.rules.specs.Calls.{height_fault}
use Rattle.pages.specs.Views.{over}
use Rattle.pages.proofs.page.Page.check_heights.Given as goal

-- the places that are left decide
abbrev pub invariant-loop-i : goal.invariant-loop-i
invariant-loop-i g l =
    let at = height_fault (over l.self) l.heights in
    lowest 0 (length l.heights) at ≡ lowest l.i (length l.heights - l.i) at
