use Rattle.std.proofs.Common.{◌<◌, [], length, ◌∙◌, arith}
use Rattle.std.proofs.lemmas.List.{length-take, get_or-take}
use Rattle.basics.proofs.Updating.{get_d_zeros}
use Rattle.codes.specs.Fill.{nested}
use Rattle.codes.proofs.Nested.{nested_more}
use Rattle.codes.proofs.Tables.{lanes}
use Rattle.codes.proofs.fill.values.Goals as goal

pub loop-terms-init : goal.loop-terms-init
unfolding nested
loop-terms-init g c = λ k h. get_d_zeros 64 k

pub loop-terms-preserved : goal.loop-terms-preserved
loop-terms-preserved g c =
    let i = c.loop-terms.terms-index in let z = length-take (length c.args.points.now) c.args.table.now in let h : i < (length c.args.points.now) = omega arith in
    let e = get_or-take (length c.args.points.now) c.args.table.now i [] h in
    λ k h. rw (← e) (lanes c.requires c.horner_step-sums.ensures k h) ∙ nested_more _ _ _ _ _ (c.loop-terms.invariant k h)
