use Rattle.std.proofs.Common.{get_or, replicate}
use Rattle.basics.specs.Lists.{Updated}
use Rattle.codes.proofs.fill.points_of.Given as goal

abbrev pub invariant-loop-k : goal.invariant-loop-k
invariant-loop-k g l = Updated l.k (λ k. g.F.Field.points l.field (get_or l.columns k 0)) (replicate 64 0) l.points
