use Rattle.std.proofs.Common.{◌∙◌, arith}
use Rattle.algebra.proofs.Coefficients.{times_first, times_entry}
use Rattle.algebra.proofs.poly.times_at.Goals as goal

pub returns-then-j-eq0 : goal.returns-then-j-eq0
returns-then-j-eq0 g c = times_first _ _ c.args.c.now c.args.j c.if-j-eq0.true

pub returns-else-j-eq0 : goal.returns-else-j-eq0
returns-else-j-eq0 g c = c.add.ensures ∙ times_entry _ c.args.a c.args.c.now c.args.j _ _ (omega arith) c.mul.ensures c.neg.ensures
