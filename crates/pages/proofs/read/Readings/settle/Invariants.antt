use Rattle.basics.specs.Lists.{Updated}
use Rattle.rules.specs.Views.{settled_at}
use Rattle.pages.specs.Readings.{of_page, seen}
use Rattle.pages.proofs.read.Readings.settle.Given as goal

abbrev pub invariant-loop-i : goal.invariant-loop-i
invariant-loop-i g l =
    Updated l.i (settled_at (of_page l.self) (seen l.self).marking (seen l.self).cells l.initial.levels) l.initial.levels l.levels
