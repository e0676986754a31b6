use Rattle.std.proofs.Common.{true, get_or, refl}
use Rattle.codes.proofs.Nested.{product_none, product_more}
use Rattle.codes.proofs.fill.locator.Goals as goal

pub loop-point-init : goal.loop-point-init
loop-point-init g c = product_none _ _ _ _ c.one-locator.ensures

pub loop-point-preserved : goal.loop-point-preserved
loop-point-preserved g c =
    product_more (g.R.Ring.ops c.args.ring.now) (λ _. true) (λ k. get_or c.args.points.now k 0) c.loop-point.point-index _ c.loop-point.locator _ refl refl c.loop-point.invariant c.times_factor-locator.ensures
