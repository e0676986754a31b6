use Rattle.basics.specs.Lists.{Updated}
use Rattle.rules.specs.Views.{level_at}
use Rattle.pages.proofs.page.Page.add_heights.Given as goal

abbrev pub invariant-loop-i : goal.invariant-loop-i
invariant-loop-i g l = Updated l.i (level_at (g.F.Ring.ops l.self.field).order l.heights l.initial.cells) l.initial.cells l.cells
