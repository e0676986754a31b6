use Rattle.basics.specs.Lists.{Updated}
use Rattle.rules.specs.Views.{laid_entry}
use Rattle.pages.specs.Views.{over}
use Rattle.pages.proofs.page.Page.lay_symbols.Given as goal

abbrev pub invariant-loop-i : goal.invariant-loop-i
invariant-loop-i g l = Updated l.i (laid_entry (over l.self) l.symbols) l.initial.cells l.cells
