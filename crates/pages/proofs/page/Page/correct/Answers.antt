use Rattle.std.proofs.Common.{◌≡◌, ℕ, ◌<◌, ◌≤◌, length, IfSome, None, Option, sym, ap, ◌∙◌, subst, arith}
use Rattle.std.proofs.lemmas.List.{length-take}
use Rattle.codes.specs.Correct.{correct_fault, refusal, CorrectedRows, Left}
use Rattle.rules.specs.Pages.{q, n, r}
use Rattle.rules.specs.Views.{marking, CorrectedTo, rows_before}
use Rattle.pages.specs.Views.{over}
use Rattle.rules.proofs.Correcting.{correct_fits, all_corrected, some_lost, handed_on}
use Rattle.pages.proofs.page.Page.correct.Goals as goal

pub returns-in-Ok : goal.returns-in-Ok
returns-in-Ok g c =
    let p = over c.args.self.now in let ms = marking c.args.self.now.plan in
    let xs = c.args.symbols.now in let ys = c.correct_rows.new.rows in
    record {
      corrected = all_corrected p c.args.self.now.ranges ms xs ys c.requires
          (handed_on p c.numbers-numbers.result ms c.marking.result.now xs ys c.numbers-numbers.ensures c.marking.ensures (λ n r _ ns. CorrectedRows p.field n r ns xs ys) c.in-Ok.ensures.corrected);
      inside = tt;
    }

pub returns-in-Err : goal.returns-in-Err
returns-in-Err g c =
    let plan = c.args.self.now.plan in
    let p = over c.args.self.now in let ms = marking plan in
    let xs = c.args.symbols.now in let ys = c.correct_rows.new.rows in let e = c.numbers-numbers.ensures in
    let few : length ms ≤ r p = omega (arith, length-take plan.count plan.marked, plan.fits) in
    let fits : correct_fault (q p) (n p) (r p) ms (length xs) ≡ None = ap (correct_fault (q p) (n p) (r p) ms) c.requires ∙ correct_fits (q p) p.numbers ms c.args.self.now.ranges few plan.rises in
    let lost = some_lost p c.args.self.now.ranges ms xs ys c.requires c.in-Err.fault
    (sym fits ∙ handed_on p c.numbers-numbers.result ms c.marking.result.now xs ys e c.marking.ensures (λ n r _ ns. correct_fault (q p) n r ns (length xs) ≡ refusal c.in-Err.fault) c.in-Err.ensures.fault)
    (handed_on p c.numbers-numbers.result ms c.marking.result.now xs ys e c.marking.ensures (λ n r _ ns. Left p.field n r ns xs ys c.in-Err.fault) c.in-Err.ensures.corrected) in
    record {
      corrected = subst (λ (o : Option ℕ). CorrectedTo p ms (rows_before p o) xs ys) (sym c.lost_row.ensures) lost.0;
      inside = subst (λ (o : Option ℕ). IfSome o (λ k. k < p.numbers.rows)) (sym c.lost_row.ensures) lost.1;
    }
