use Rattle.std.proofs.Common.{◌≡◌, false, not, ◌||◌, eqb, get_or}
use Rattle.algebra.specs.Rows.{count}
use Rattle.codes.proofs.correct.Corrector.distance.Given as goal

abbrev pub invariant-loop-k : goal.invariant-loop-k
invariant-loop-k g l = l.total ≡ count l.k (λ k. not (get_or l.self.tables.marks k false || eqb (get_or l.a k 0) (get_or l.b k 0)))
