use Rattle.std.proofs.Common.{◌%◌, get_or}
use Rattle.basics.specs.Lists.{Updated}
use Rattle.rules.specs.Pages.{q}
use Rattle.pages.specs.Readings.{of_page, seen}
use Rattle.pages.proofs.read.Readings.lay.Given as goal

abbrev pub invariant-loop-i : goal.invariant-loop-i
invariant-loop-i g l = Updated l.i (λ i. get_or (seen l.self).cells i 0 % q (of_page l.self)) l.initial.symbols l.symbols
