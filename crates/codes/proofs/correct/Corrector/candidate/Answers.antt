use Rattle.std.proofs.Common.{arith}
use Rattle.codes.proofs.Repairing.{Worked, repaired_in, repaired_only}
use Rattle.codes.proofs.Weighing.{product_part}
use Rattle.codes.proofs.correct.Corrector.candidate.Goals as goal

pub returns : goal.returns
returns g c =
    let me = c.args.self.now in let f = me.field.now in let o = g.F.Ring.ops f in let t = me.tables in let row = c.args.row.now in let ms = me.marked.now in
    let w : Worked (record { ring = o; point = g.F.Field.points f }) (g.F.Field.inv f) ms t row c.args.syndromes.now c.times_syndromes-rest.result
    c.shortest-found.result.l c.shortest-found.result.c c.locator-locator.result
    (record { columns = c.damaged-columns.result; above = c.times_syndromes.result; below = c.derivative_of.result }) c.repaired.result =
    record {
      ready = me.ready;
      row_long = omega arith;
      row_in = c.requires.elements;
      c_long = c.shortest-found.ensures.long;
      syndromes_are = c.requires.syndromes;
      rest_is = c.times_syndromes-rest.ensures;
      found_is = c.shortest-found.ensures.shortest;
      columns_are = c.damaged-columns.ensures;
      locator_is = product_part o (g.F.Field.points f) t.width c.damaged-columns.result c.locator-locator.result (omega (arith, me.ready.fits.few)) c.locator-locator.ensures;
      above_is = c.times_syndromes.ensures;
      below_is = c.derivative_of.ensures;
      row_is = c.repaired.ensures;
    } in
    record {
      elements = repaired_in _ _ (g.met.F.Ring.ring f) _ _ _ _ _ _ _ _ _ _ w;
      only = repaired_only _ _ (g.met.F.Ring.ring f) _ _ _ _ _ _ _ _ _ _ w;
    }
