use Rattle.std.proofs.Common.{arith}
use Rattle.codes.proofs.Repairing.{combined_syndromes}
use Rattle.codes.proofs.correct.Corrector.syndromes_of.Goals as goal

pub returns : goal.returns
returns g c =
    let me = c.args.self.now in let f = me.field.now in let t = me.tables in let fits = me.ready.fits in
    combined_syndromes (record { ring = g.F.Ring.ops f; point = g.F.Field.points f }) (g.met.F.Ring.ring f) t.width t.checks c.args.row.now t.powers c.combine.result
    (omega (arith, fits.few)) fits.checks me.ready.powers_are c.combine.ensures
