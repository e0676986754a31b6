use Rattle.std.proofs.Common.{ℕ, length, Err, ap, ◌∙◌}
use Rattle.std.proofs.lemmas.Result.{err_from_is_err_and}
use Rattle.basics.specs.Checks.{verdict, lowest}
use Rattle.basics.proofs.Checking.{loop_stops, loop_goes_on, loop_ends}
use Rattle.rules.specs.Calls.{reading_fault}
use Rattle.pages.specs.Readings.{of_page, seen}
use Rattle.pages.proofs.read.Readings.check.Goals as goal

pub returns-in_err-check_reading : goal.returns-in_err-check_reading
returns-in_err-check_reading g c =
    let r = c.args.self.now in let at = reading_fault (of_page r) (seen r) in let l = c.loop-i in
    let x = err_from_is_err_and c.from_residual.result c.from_residual.ensures.1 in
    loop_stops at (length r.cells.now) l.i l.invariant _ c.from_residual.result c.loop-i-test.true c.in_err-check_reading.ensures (x.1 ∙ ap Err x.2)
    ∙ ap (λ (m : ℕ). verdict (lowest 0 m at)) r.size

pub loop-i-preserved : goal.loop-i-preserved
loop-i-preserved g c =
    let r = c.args.self.now in let l = c.loop-i in
    loop_goes_on (reading_fault (of_page r) (seen r)) (length r.cells.now) l.i l.invariant c.loop-i-test.true c.in_ok-check_reading.ensures

pub returns : goal.returns
returns g c =
    let r = c.args.self.now in let at = reading_fault (of_page r) (seen r) in let l = c.loop-i in
    loop_ends at (length r.cells.now) l.i l.invariant c.loop-i-test.false ∙ ap (λ (m : ℕ). verdict (lowest 0 m at)) r.size
