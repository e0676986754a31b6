use Rattle.std.proofs.Common.{◌≡◌, map}
use Rattle.std.specs.List.{fold}
use Rattle.fields.specs.Kinds.{ops_of}
use Rattle.fields.specs.Numbered.{number_of}
use Rattle.fields.proofs.kind.KindFieldRing.horner.Given as goal

abbrev pub invariant-loop-coefficient : goal.invariant-loop-coefficient
invariant-loop-coefficient l =
    let o = ops_of (number_of l.self) in
    l.value ≡ fold (λ v c. o.add c (o.mul l.x v)) 0 (map (λ c. c.now) l.yielded)
