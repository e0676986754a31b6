use Rattle.std.proofs.Common.{sym, ◌∙◌, ap₂, arith}
use Rattle.fields.proofs.Lanes.{sum_more}
use Rattle.algebra.proofs.Coefficients.{product_start, product_all}
use Rattle.algebra.proofs.poly.product_at.Goals as goal

pub loop-j-init : goal.loop-j-init
loop-j-init g c =
    let f = c.args.ring.now in
    (omega arith, product_start (g.R.Ring.ops f) (g.met.R.Ring.ring f) c.args.a.now c.args.b.now c.args.m _ (λ h. omega arith))

pub loop-j-preserved : goal.loop-j-preserved
loop-j-preserved g c =
    let o = g.R.Ring.ops c.args.ring.now in
    (omega arith, c.add-total.ensures ∙ ap₂ o.add c.loop-j.invariant.1 c.mul.ensures ∙ sym (sum_more o c.loop-j.j _))

pub returns : goal.returns
returns g c =
    let f = c.args.ring.now in
    c.loop-j.invariant.1 ∙ product_all (g.R.Ring.ops f) (g.met.R.Ring.ring f) c.args.a.now c.args.b.now c.args.m c.loop-j.j c.loop-j.invariant.0 (λ h. omega arith)
