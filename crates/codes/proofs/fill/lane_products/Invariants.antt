use Rattle.std.proofs.Common.{get_or, replicate}
use Rattle.basics.specs.Lists.{Updated}
use Rattle.codes.proofs.fill.lane_products.Given as goal

abbrev pub invariant-loop-k : goal.invariant-loop-k
invariant-loop-k g l = Updated l.k (λ k. (g.R.Ring.ops l.ring).mul (get_or l.xs k 0) (get_or l.ys k 0)) (replicate 64 0) l.products
