use Rattle.std.proofs.Common.{take, refl, arith}
use Rattle.fields.specs.Rings.{FieldOps}
use Rattle.codes.proofs.Nearing.{zero_part, code_from_zero, close_self}
use Rattle.codes.proofs.correct.Corrector.decode.Goals as goal

pub returns-then-all_zero : goal.returns-then-all_zero
returns-then-all_zero g c =
    let me = c.args.self.now in let f = me.field.now in let t = me.tables in let row = c.args.row.now in let k : FieldOps = record { ring = g.F.Ring.ops f; point = g.F.Field.points f } in
    close_self k t.checks me.marked.now (take t.width row)
    (code_from_zero k t.width t.checks row c.syndromes_of-syndromes.result me.ready.fits.few (omega arith) c.syndromes_of-syndromes.ensures c.requires
    (zero_part t.checks c.syndromes_of-syndromes.result (omega (arith, me.ready.fits.checks)) (c.if-all_zero.ensures.yes refl)))
    me.ready.fits.marks
