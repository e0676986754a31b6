use Rattle.std.proofs.Common.{arith}
use Rattle.solver.proofs.Steps.{gap_from_product, held_same, held_kept, held_grown}
use Rattle.solver.proofs.step.Goals as goal

pub returns-then-x-eq0 : goal.returns-then-x-eq0
returns-then-x-eq0 g c =
    let r = g.met.F.Ring.ring c.args.field.now in let a = c.args in let t = c.requires.held.tally in
    held_same _ r a.values.now a.c.now a.before.now a.i a.l c.product_at-x.result c.requires.held
    (gap_from_product _ r a.values.now a.c.now a.i a.l _ (omega arith) c.product_at-x.ensures) c.if-x-eq0.true

pub returns-then-i-l : goal.returns-then-i-l
returns-then-i-l g c =
    let r = g.met.F.Ring.ring c.args.field.now in let a = c.args in let t = c.requires.held.tally in
    held_kept _ r a.values.now a.c.now a.before.now a.i a.l c.product_at-x.result c.requires.held
    (gap_from_product _ r a.values.now a.c.now a.i a.l _ (omega arith) c.product_at-x.ensures) (omega arith)
    c.mul.result c.neg-a.result c.mul.ensures c.neg-a.ensures c.mend.new.c c.mend.ensures (omega arith)

pub returns : goal.returns
returns g c =
    let r = g.met.F.Ring.ring c.args.field.now in let a = c.args in let t = c.requires.held.tally in
    held_grown _ r a.values.now a.c.now a.before.now a.i a.l c.product_at-x.result c.requires.held
    (gap_from_product _ r a.values.now a.c.now a.i a.l _ (omega arith) c.product_at-x.ensures) (omega arith)
    c.mul.result c.neg-a.result c.mul.ensures c.neg-a.ensures c.mend-2.new.c c.mend-2.ensures (omega arith)
    (g.F.Field.inv c.args.field.now) c.inverse.ensures.rule c.inverse.result c.inverse.ensures.value
