use Rattle.std.proofs.Common.{◌∙◌}
use Rattle.algebra.proofs.Coefficients.{horner}
use Rattle.algebra.proofs.poly.evaluate.Goals as goal

pub returns : goal.returns
returns g c =
    let r = c.args.ring.now in
    c.horner.ensures ∙ horner (g.R.Ring.ops r) (g.met.R.Ring.ring r) c.args.x c.args.coefficients.now
