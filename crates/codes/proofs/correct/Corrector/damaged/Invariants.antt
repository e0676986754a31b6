use Rattle.std.proofs.Common.{◌+◌, false, ◌||◌, eqb, get_or, take}
use Rattle.codes.specs.Correct.{Flagged}
use Rattle.algebra.specs.Coefficients.{value_at}
use Rattle.codes.proofs.correct.Corrector.damaged.Given as goal

abbrev pub invariant-loop-k : goal.invariant-loop-k
invariant-loop-k g l =
    let t = l.self.tables in
    Flagged l.k (λ k. get_or t.marks k false || eqb (value_at (g.F.Ring.ops l.self.field.now) (take (l.found.l + 1) l.found.c) (get_or t.inverses k 0)) 0) l.column-items
