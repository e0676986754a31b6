use Rattle.codes.specs.Fill.{Placed}
use Rattle.codes.proofs.rows.place.Given as goal

abbrev pub invariant-loop-k : goal.invariant-loop-k
invariant-loop-k l = Placed l.k l.columns l.values l.initial.row l.row
