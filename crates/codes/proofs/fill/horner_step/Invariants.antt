use Rattle.std.proofs.Common.{get_or, replicate}
use Rattle.basics.specs.Lists.{Updated}
use Rattle.codes.proofs.fill.horner_step.Given as goal

abbrev pub invariant-loop-k : goal.invariant-loop-k
invariant-loop-k g l = let o = g.R.Ring.ops l.ring in Updated l.k (λ k. o.add (o.mul (get_or l.points k 0) (get_or l.sums k 0)) (get_or l.terms k 0)) (replicate 64 0) l.next
