use Rattle.std.proofs.Common.{◌≡◌}
use Rattle.algebra.specs.Polynomials.{multiple}
use Rattle.codes.proofs.correct.multiple_of.Given as goal

abbrev pub invariant-loop-turn : goal.invariant-loop-turn
invariant-loop-turn g l = l.total ≡ multiple (g.R.Ring.ops l.ring) l._turn l.a
