use Rattle.std.proofs.Common.{get_or}
use Rattle.basics.specs.Lists.{Updated}
use Rattle.fields.proofs.Ring.scale_add.Given as goal

abbrev pub invariant-loop-l : goal.invariant-loop-l
invariant-loop-l g l =
    let o = g.Self.Ring.ops l.self in
    Updated l.l (λ k. o.add (get_or l.initial.sum-items k 0) (o.mul l.a (get_or l.xs k 0))) l.initial.sum-items l.sum-items
