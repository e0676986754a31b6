use Rattle.std.proofs.Common.{get_or, replicate}
use Rattle.basics.specs.Lists.{Updated}
use Rattle.codes.proofs.fill.weights.Given as goal

abbrev pub invariant-loop-k : goal.invariant-loop-k
invariant-loop-k g l = let o = g.F.Ring.ops l.field in Updated l.k (λ k. o.neg (g.F.Field.inv l.field (o.mul (get_or l.points k 0) (get_or l.values k 0)))) (replicate 64 0) l.weights
