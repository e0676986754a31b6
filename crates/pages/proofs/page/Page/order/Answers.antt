use Rattle.std.proofs.Common.{◌≡◌, is_err, Some, sym, ap, ◌∙◌}
use Rattle.std.proofs.lemmas.Result.{err_from_is_err_and, IfOk-from_err}
use Rattle.basics.specs.Checks.{fault_of}
use Rattle.basics.proofs.Checking.{some_from_verdict}
use Rattle.plans.specs.Orders.{order_fault, told_order}
use Rattle.pages.proofs.page.Page.order.Goals as goal

pub returns-in_err-check : goal.returns-in_err-check
returns-in_err-check g c =
    let p = err_from_is_err_and c.from_residual.result c.from_residual.ensures.1 in
    let e : fault_of c.from_residual.result ≡ order_fault (g.F.Ring.ops c.args.field).order c.args.numbers =
    ap fault_of p.1 ∙ ap Some p.2 ∙ sym (some_from_verdict _ _ c.in_err-check.ensures.fault) ∙ ap (λ q. order_fault q c.args.numbers) c.order.ensures in
    record {
      fault = e;
      refusal = ap told_order e;
      page = IfOk-from_err c.from_residual.result _ (ap is_err p.1);
    }
