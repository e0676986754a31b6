use Rattle.std.proofs.Common.{◌≡◌, ℕ, ◌-◌, min, cond, ltb, get_or, sym, ap, ◌∙◌, arith}
use Rattle.rules.specs.Reach.{dead, total}
use Rattle.rules.specs.Pages.{cell_count}
use Rattle.pages.specs.Readings.{of_page, seen}
use Rattle.rules.proofs.Drifts.{total_more, total_empty, one_if_above}
use Rattle.rules.proofs.Fitting.{few_cells}
use Rattle.pages.proofs.read.Readings.tally.Goals as goal

pub loop-i-init : goal.loop-i-init
loop-i-init g c = (omega arith, omega arith, sym (total_empty _), sym (total_empty _))

pub overflow_add-risen : goal.overflow_add-risen
overflow_add-risen g c = let p = of_page c.args.self.now in omega (arith, c.requires, few_cells p c.args.self.now.page.now.ranges)

pub loop-i-preserved : goal.loop-i-preserved
loop-i-preserved g c =
    let s = c.args.self.now in let p = of_page s in
    let l = c.loop-i in let ys = (seen c.args.self.now).cells in let xs = c.args.levels.now in let ms = (seen s).marking in
    let d = total_more l.i (λ i. cond (dead p ms i) 0 (cond (ltb (get_or xs i 0) (get_or ys i 0)) 1 0)) in
    let k = total_more l.i (λ i. cond (dead p ms i) 0 (get_or ys i 0 - get_or xs i 0)) in
    let one = one_if_above (dead p ms l.i) (get_or xs l.i 0) (get_or ys l.i 0) ∙ ap (λ a. min a 1) (sym c.rise-above.ensures) in (
      omega arith,
      omega arith,
      omega (arith, d, one, l.invariant.2, c.min.ensures),
      omega (arith, k, l.invariant.3, c.rise-above.ensures),
    )

pub returns : goal.returns
returns g c =
    let p = of_page c.args.self.now in let e : c.loop-i.i ≡ cell_count p = omega (arith, c.requires) in
    let ys = (seen c.args.self.now).cells in let xs = c.args.levels.now in let ms = (seen c.args.self.now).marking in
    record {
      drifted = c.loop-i.invariant.2 ∙ ap (λ (m : ℕ). total m (λ i. cond (dead p ms i) 0 (cond (ltb (get_or xs i 0) (get_or ys i 0)) 1 0))) e;
      risen = c.loop-i.invariant.3 ∙ ap (λ (m : ℕ). total m (λ i. cond (dead p ms i) 0 (get_or ys i 0 - get_or xs i 0))) e;
    }
