use Rattle.std.proofs.Common.{◌/◌, get_or, arith}
use Rattle.std.proofs.lemmas.List.FromFn.{fill_by_all}
use Rattle.rules.specs.Pages.{q, cell_count}
use Rattle.pages.specs.Views.{over}
use Rattle.pages.proofs.page.Page.fill_heights.Goals as goal

pub returns : goal.returns
returns g c =
    let p = over c.args.self.now in
    fill_by_all (λ i. get_or c.args.levels.now i 0 / q p) c.loop-i.heights (cell_count p) 0 (omega (arith, c.requires.long)) (λ k h. c.loop-i.invariant k (omega (arith, c.requires.long)))
