use Rattle.std.proofs.Common.{get_or}
use Rattle.basics.specs.Lists.{Updated}
use Rattle.fields.specs.Kinds.{ops_of}
use Rattle.fields.specs.Numbered.{number_of}
use Rattle.fields.proofs.kind.KindFieldRing.scale_add.Given as goal

abbrev pub invariant-loop-l : goal.invariant-loop-l
invariant-loop-l l =
    let o = ops_of (number_of l.self) in
    Updated l.l (λ k. o.add (get_or l.initial.sum-items k 0) (o.mul l.a (get_or l.xs k 0))) l.initial.sum-items l.sum-items
