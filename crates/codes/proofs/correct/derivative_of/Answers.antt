use Rattle.std.proofs.Common.{ℕ, get_or, ap, ◌∙◌, add-one}
use Rattle.basics.proofs.Updating.{updated_more}
use Rattle.algebra.specs.Polynomials.{multiple}
use Rattle.codes.proofs.correct.derivative_of.Goals as goal

pub loop-j-preserved : goal.loop-j-preserved
loop-j-preserved g c =
    updated_more _ _ c.loop-j.j _ _ c.loop-j.invariant c.loop-j-test.true
    (c.multiple_of.ensures ∙ ap (λ (n : ℕ). multiple (g.R.Ring.ops c.args.ring.now) n (get_or c.args.c.now n 0)) (add-one c.loop-j.j))
