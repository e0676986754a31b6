use Rattle.std.proofs.Common.{length, Err, ap, ◌∙◌}
use Rattle.std.proofs.lemmas.Result.{err_from_is_err_and}
use Rattle.basics.proofs.Checking.{loop_stops, loop_goes_on, loop_ends}
use Rattle.rules.specs.Calls.{height_fault}
use Rattle.pages.specs.Views.{over}
use Rattle.pages.proofs.page.Page.check_heights.Goals as goal

pub returns-in_err-check_height : goal.returns-in_err-check_height
returns-in_err-check_height g c =
    let xs = c.args.heights.now in let at = height_fault (over c.args.self.now) xs in let l = c.loop-i in
    let x = err_from_is_err_and c.from_residual.result c.from_residual.ensures.1 in
    loop_stops at (length xs) l.i l.invariant _ c.from_residual.result c.loop-i-test.true c.in_err-check_height.ensures (x.1 ∙ ap Err x.2)

pub loop-i-preserved : goal.loop-i-preserved
loop-i-preserved g c =
    let xs = c.args.heights.now in let l = c.loop-i in
    loop_goes_on (height_fault (over c.args.self.now) xs) (length xs) l.i l.invariant c.loop-i-test.true c.in_ok-check_height.ensures

pub returns : goal.returns
returns g c =
    let xs = c.args.heights.now in let l = c.loop-i in
    loop_ends (height_fault (over c.args.self.now) xs) (length xs) l.i l.invariant c.loop-i-test.false
