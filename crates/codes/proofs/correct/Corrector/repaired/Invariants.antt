use Rattle.std.proofs.Common.{get_or}
use Rattle.basics.specs.Lists.{Updated}
use Rattle.codes.specs.Correct.{repaired_at}
use Rattle.codes.proofs.correct.Corrector.repaired.Given as goal

abbrev pub invariant-loop-k : goal.invariant-loop-k
invariant-loop-k g l =
    let f = l.self.field.now in let t = l.self.tables in
    Updated l.k (λ k. repaired_at (g.F.Ring.ops f) (g.F.Field.inv f) l.damage t.checks k (get_or t.inverses k 0) (get_or l.row k 0)) l.initial.symbol-items l.symbol-items
