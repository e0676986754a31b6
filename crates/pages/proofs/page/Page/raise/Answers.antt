use Rattle.std.proofs.Common.{Err, sym, ap, ◌∙◌}
use Rattle.std.proofs.lemmas.Result.{err_from_is_err_and}
use Rattle.basics.proofs.Checking.{some_first}
use Rattle.rules.specs.Calls.{raise}
use Rattle.rules.specs.Views.{state}
use Rattle.rules.proofs.Steps.{step_refused}
use Rattle.pages.specs.Views.{over}
use Rattle.pages.proofs.page.Page.raise.Goals as goal

pub returns-in_err-place : goal.returns-in_err-place
returns-in_err-place g c =
    let p = over c.args.self.now in
    let x = err_from_is_err_and c.from_residual.result c.from_residual.ensures.1 in
    step_refused p (state c.args.self.now.plan c.args.cells.now) (raise c.args.row c.args.column c.args.amount) c.from_residual.result _
    (some_first _ _ _ (sym c.in_err-place.ensures.fault)) (x.1 ∙ ap Err x.2)
