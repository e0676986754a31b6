use Rattle.std.proofs.Common.{◌≡◌, ◌+◌, refl, ap, ◌∙◌, add-one}
use Rattle.fields.specs.Rings.{power}
use Rattle.basics.proofs.Updating.{updated_none, updated_more}
use Rattle.codes.proofs.rows.powers_of.Goals as goal

pub loop-j-init : goal.loop-j-init
unfolding power
loop-j-init g c = (refl, updated_none _ _)

pub loop-j-preserved : goal.loop-j-preserved
unfolding power
loop-j-preserved g c =
    let o = g.R.Ring.ops c.args.ring.now in let j = c.loop-j.j in
    let e : c.mul-last.result ≡ power o c.args.a (j + 1) = rw (add-one j) (c.mul-last.ensures ∙ ap (o.mul c.args.a) c.loop-j.invariant.0) in
    (e, updated_more _ _ j _ _ c.loop-j.invariant.1 c.loop-j-test.true e)
