use Rattle.std.proofs.Common.{length, arith}
use Rattle.algebra.specs.Recurrences.{at}
use Rattle.algebra.proofs.Correct.{least_short}
use Rattle.codes.proofs.correct.shortest.Goals as goal

pub invariant_of-result-2 : goal.invariant_of-result-2
invariant_of-result-2 g c =
    let values = c.args.values.now in let found = c.in-Some.ensures in
    record { short = omega (arith, found.0, least_short (at values) (length values) c.in-Some.l (at c.shortest_recurrence.new.c) found.1) }
