use Rattle.std.proofs.Common.{◌≡◌, ◌+◌}
use Rattle.basics.specs.Lists.{Updated}
use Rattle.fields.specs.Rings.{power}
use Rattle.codes.proofs.rows.powers_of.Given as goal

abbrev pub invariant-loop-j : goal.invariant-loop-j
invariant-loop-j g l =
    let o = g.R.Ring.ops l.ring in
    (l.last ≡ power o l.a l.j) × Updated l.j (λ j. power o l.a (j + 1)) l.initial.power-items l.power-items
