use Rattle.rules.proofs.Reading.{readings}
use Rattle.rules.proofs.Runs.{run_law}
use Rattle.pages.specs.Views.{over}
use Rattle.pages.proofs.page.Page.keeps.Goals as goal

pub returns : goal.returns
returns g c =
    let p = over c.args.self.now in let s = c.args.self.now in
    let laws = g.met.F.Ring.ring s.field in
    record {
      law = readings p (g.F.Field.inv s.field) laws c.rules.ensures.inverses c.rules.ensures.points;
      runs = run_law p (g.F.Field.inv s.field) laws c.rules.ensures.inverses c.rules.ensures.points;
    }
