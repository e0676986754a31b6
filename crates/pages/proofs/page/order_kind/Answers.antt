use Rattle.std.proofs.Common.{◌≡◌, ℕ, false, sym, ap, ◌∙◌, rules}
use Rattle.std.proofs.lemmas.Bool.{le-ltb, or_from}
use Rattle.basics.specs.Checks.{check, fault_of, ◌or_else◌}
use Rattle.fields.specs.Kinds.{ops_of, order_of}
use Rattle.fields.specs.Seven.{order_is}
use Rattle.plans.specs.Orders.{outside, order_fault, told_order}
use Rattle.plans.specs.declared.fault.OrderFault.TheVariants.{Kind}
use Rattle.rules.specs.Views.{kind_fault}
use Rattle.pages.proofs.page.order_kind.Goals as goal

pub returns : goal.returns
returns c =
    let k = c.args.kind in let m = c.args.numbers in let f = c.in_ok-field.ensures in
    let inside : outside 1 7 k ≡ false = or_from _ _ (le-ltb k 1 f.1) (le-ltb 7 k f.2) in
    let e : fault_of c.order.result ≡ kind_fault k m =
    c.order.ensures.fault ∙ ap (λ (j : ℕ). order_fault (ops_of j).order m) f.0 ∙ ap (λ (q : ℕ). order_fault q m) (sym (order_is k (f.1, f.2)))
    ∙ sym (ap (λ b. check b Kind or_else order_fault (order_of k) m) inside) in
    record { fault = e; refusal = ap told_order e; page = search rules }
