use Rattle.std.proofs.Common.{sym, refl, true≢false, arith}
use Rattle.codes.proofs.Nearing.{part_zero, zero_part, zero_from_code, close_tells}
use Rattle.codes.proofs.correct.Corrector.is_close.Goals as goal

pub returns-then-not-all_zero : goal.returns-then-not-all_zero
returns-then-not-all_zero g c =
    let me = c.args.self.now in let f = me.field.now in let t = me.tables in
    record {
      yes = λ e. absurd (true≢false (sym e));
      no = λ _ near. c.if-not-all_zero.ensures.no refl (part_zero t.checks c.syndromes_of-left.result (zero_from_code (record { ring = g.F.Ring.ops f; point = g.F.Field.points f }) t.width t.checks
          c.args.repaired.now c.syndromes_of-left.result me.ready.fits.few (omega arith) c.syndromes_of-left.ensures near.code));
    }

pub returns : goal.returns
returns g c =
    let me = c.args.self.now in let f = me.field.now in let t = me.tables in
    close_tells (record { ring = g.F.Ring.ops f; point = g.F.Field.points f }) t.width t.checks me.marked.now t.marks c.args.row.now c.args.repaired.now
    c.syndromes_of-left.result c.distance.result me.ready.fits.few (omega arith) (omega arith) me.ready.marks_are c.syndromes_of-left.ensures c.requires
    (zero_part t.checks c.syndromes_of-left.result (omega (arith, me.ready.fits.checks)) (c.if-not-all_zero.ensures.yes refl)) c.distance.ensures.value
