use Rattle.std.proofs.Common.{◌+◌, ◌*◌, ◌<◌, ap, subst, arith, rules}
use Rattle.std.proofs.lemmas.Nat.{mul-add-lt}
use Rattle.plans.specs.declared.numbers.Numbers.{Numbers}
use Rattle.pages.proofs.page.Page.place.Goals as goal

pub returns : goal.returns
returns g c =
    let m = c.args.self.now.plan.numbers in let same = c.numbers-numbers.ensures in
    let row : c.args.row < m.rows = subst (λ (n : Numbers). c.args.row < n.rows) same (omega arith) in
    let column : c.args.column < m.columns = subst (λ (n : Numbers). c.args.column < n.columns) same (omega arith) in
    let number = ap (λ (n : Numbers). c.args.row * n.columns + c.args.column) same in
    record {
      fault = search rules;
      number = number;
      inside = omega (arith, number, mul-add-lt c.args.row m.columns c.args.column m.rows row column, c.in_ok-check_cells.ensures.size);
    }
