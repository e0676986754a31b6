use Rattle.std.proofs.Common.{◌≡◌, ℕ, ◌+◌, ◌-◌, ◌*◌, ◌≤◌, false, List, length, take, drop, get_or, ap, ◌∙◌, subst, arith}
use Rattle.algebra.specs.Rows.{among, taken_row, CloseRow}
use Rattle.codes.specs.Correct.{FitsChecks}
use Rattle.codes.proofs.Flagging.{flagged_end}
use Rattle.codes.proofs.Rowing.{until_more, once_lent, same_lent, row_inside}
use Rattle.codes.proofs.Restoring.{Restored, restored_all, lost_here}
use Rattle.codes.proofs.Weighing.{product_tests, product_part}
use Rattle.codes.proofs.correct.correct_rows.Goals as goal

pub invariant_of-corrector : goal.invariant_of-corrector
invariant_of-corrector g c =
    let f = c.in_ok-check.ensures.fits in let n = c.args.width in let ms = c.args.marked.now in let few = f.few in let field = c.args.field.now in
    record {
      ready = record {
        fits = subst (λ (q : ℕ). FitsChecks q n c.args.checks ms) c.order.ensures f;
        inverses = c.rules.ensures.inverses;
        points = c.rules.ensures.points;
        powers_are = c.power_table.ensures;
        inverses_are = λ k i. c.inverse_points.ensures.new k i (omega arith);
        marks_are = flagged_end few c.flags-marks.ensures;
        locator_is = λ j i. product_part (g.F.Ring.ops field) (g.F.Field.points field) n c.flags-marks.result c.locator.result (omega arith) c.locator.ensures j i
            ∙ ap (λ (p : ℕ → ℕ). p j) (product_tests (g.F.Ring.ops field) n (λ k. get_or c.flags-marks.result k false) (λ k. among k ms) (g.F.Field.points field)
            (λ k l. c.flags-marks.ensures.is k (omega arith)));
      };
    }

pub loop-k-preserved : goal.loop-k-preserved
loop-k-preserved g c =
    let f = c.in_ok-check.ensures.fits in let n = c.args.width in let k = c.loop-k.k in let size = length c.args.rows.now in
    let h : k * n + n ≤ size = row_inside k n size f.some c.loop-k-test.true in
    let long = c.loop-k.invariant.long in let inside : k * n + n ≤ length c.loop-k.rows = omega arith in let wide : k * n + n - k * n ≡ n = omega arith in
    until_more _ _ _ k c.loop-k.rows _ c.loop-k.invariant
    (once_lent _ n (k * n) (k * n + n - k * n) c.loop-k.rows c.correct.new.symbols wide inside (omega arith) (omega arith)
    (subst (λ (m : ℕ). Restored (record { ring = g.F.Ring.ops c.args.field.now; point = g.F.Field.points c.args.field.now }) c.args.checks c.args.marked.now (take m (drop (k * n) c.loop-k.rows)) c.correct.new.symbols)
    wide c.in-Some.ensures))

pub returns-in_default-clause-corrected : goal.returns-in_default-clause-corrected
returns-in_default-clause-corrected g c =
    let e = c.in_ok-check.ensures in let n = c.args.width in let k = c.loop-k.k in let size = length c.args.rows.now in
    let h = row_inside k n size e.fits.some c.loop-k-test.true in
    let field = c.args.field.now in let lost = (c.in_default.ensures).same in let none = (c.in_default.ensures).none in
    let long = c.loop-k.invariant.long in let inside : k * n + n ≤ length c.loop-k.rows = omega arith in let wide : k * n + n - k * n ≡ n = omega arith in
    lost_here _ _ _ _ _ k c.loop-k.rows _ h c.loop-k.invariant
    (same_lent n (k * n) (k * n + n - k * n) c.loop-k.rows c.correct.new.symbols wide inside (omega arith) (omega arith)
    (subst (λ (m : ℕ). c.correct.new.symbols ≡ take m (drop (k * n) c.loop-k.rows)) wide lost))
    (subst (λ (m : ℕ). (cs : List ℕ) → CloseRow (record { ring = g.F.Ring.ops field; point = g.F.Field.points field }) c.args.checks c.args.marked.now
    (taken_row (g.F.Ring.ops field).order (take m (drop (k * n) c.loop-k.rows))) cs → ⊥) wide none)

pub returns-clause-corrected : goal.returns-clause-corrected
returns-clause-corrected g c = restored_all _ _ _ _ _ c.loop-k.k _ c.in_ok-check.ensures.fits.some c.loop-k-test.false c.loop-k.invariant
