use Rattle.std.proofs.Common.{◌≡◌, ℕ, ◌+◌, ◌<◌, length, get_or, ap, ◌∙◌, arith}
use lib.ListN.{get_or-replicate}
use Rattle.basics.proofs.Updating.{get_d_zeros}
use Rattle.codes.specs.Fill.{nested}
use Rattle.codes.proofs.Nested.{nested_more}
use Rattle.codes.proofs.Tables.{tabled_none, tabled_more, lanes}
use Rattle.codes.proofs.fill.quotients.Goals as goal

pub loop-j-init : goal.loop-j-init
unfolding nested
loop-j-init g c = (tabled_none _ _ _, λ k h. get_d_zeros 64 k)

pub loop-j-preserved : goal.loop-j-preserved
loop-j-preserved g c =
    let o = g.R.Ring.ops c.args.ring.now in let j = c.loop-j.j in let h : j < length c.loop-j.quotient-items = omega arith in
    let last : (k : ℕ) → k < length c.args.points.now → get_or c.horner_step-last.result k 0 ≡ nested o (get_or c.args.points.now k 0) (λ i. get_or c.args.locator.now i 0) (j + 1) =
    λ k i. lanes c.requires c.horner_step-last.ensures k i
    ∙ ap (λ (t : ℕ). o.add (o.mul (get_or c.args.points.now k 0) (get_or c.loop-j.last k 0)) t) (get_or-replicate 64 k (get_or c.args.locator.now j 0) 0 (omega (arith, c.requires)))
    ∙ nested_more o _ (λ i. get_or c.args.locator.now i 0) j _ (c.loop-j.invariant.1 k i) in
    (tabled_more _ _ _ j _ c.loop-j.invariant.0 h last, last)
