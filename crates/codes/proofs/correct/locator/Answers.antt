use Rattle.std.proofs.Common.{ℕ, Bool, false, List, get_or, ap, ◌∙◌}
use Rattle.codes.proofs.Nested.{product_none, product_more, product_kept}
use Rattle.codes.proofs.correct.locator.Goals as goal
use Rattle.codes.proofs.correct.locator.Goals.{then-flagged, else-flagged}

pub loop-k-init : goal.loop-k-init
loop-k-init g c = product_none _ _ _ _ c.one-locator.ensures

pub loop-k-preserved : goal.loop-k-preserved
loop-k-preserved g c =
    let o = g.F.Ring.ops c.args.field.now in let t : ℕ → Bool = λ k. get_or c.args.columns.now k false in let p = g.F.Field.points c.args.field.now in let k = c.loop-k.k in
    elim c.if-flagged.branch [
      | then-flagged w ↦ λ j h. ap (λ (cs : List ℕ). get_or cs j 0) w.locator-is
          ∙ product_more o t p k _ c.loop-k.locator _ w.if-flagged.true w.point.ensures.value c.loop-k.invariant w.times_factor-locator.ensures j h
      | else-flagged w ↦ λ j h. ap (λ (cs : List ℕ). get_or cs j 0) w.locator-is ∙ product_kept o t p k c.loop-k.locator w.if-flagged.false c.loop-k.invariant j h
    ]
