use Rattle.std.proofs.Common.{◌%◌, ◌<◌, get_or, arith}
use Rattle.std.proofs.lemmas.List.FromFn.{fill_by_all}
use Rattle.rules.specs.Pages.{q, cell_of, symbol_count}
use Rattle.pages.specs.Views.{over}
use Rattle.rules.proofs.Levels.{cell_inside}
use Rattle.pages.proofs.page.Page.fill_symbols.Goals as goal

pub cell_of-requires : goal.cell_of-requires
cell_of-requires g c = omega (arith, c.requires.long)

pub bounds-levels-cell_of : goal.bounds-levels-cell_of
bounds-levels-cell_of g c =
    let p = over c.args.self.now in
    let h : c.loop-j.j < symbol_count p = omega (arith, c.requires.long) in
    omega (arith, c.cell_of.ensures, cell_inside p c.args.self.now.ranges c.loop-j.j h, c.requires.levels)

pub returns : goal.returns
returns g c =
    let p = over c.args.self.now in
    fill_by_all (λ j. get_or c.args.levels.now (cell_of p j) 0 % q p) c.loop-j.symbols (symbol_count p) 0 (omega (arith, c.requires.long)) (λ k h. c.loop-j.invariant k (omega (arith, c.requires.long)))
