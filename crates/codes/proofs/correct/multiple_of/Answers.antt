use Rattle.std.proofs.Common.{refl, ap, ◌∙◌, add-one}
use Rattle.algebra.specs.Polynomials.{multiple}
use Rattle.codes.proofs.correct.multiple_of.Goals as goal

pub loop-turn-init : goal.loop-turn-init
unfolding multiple
loop-turn-init g c = refl

pub loop-turn-preserved : goal.loop-turn-preserved
unfolding multiple
loop-turn-preserved g c = rw (add-one c.loop-turn._turn) (c.add-total.ensures ∙ ap ((g.R.Ring.ops c.args.ring.now).add c.args.a) c.loop-turn.invariant)
