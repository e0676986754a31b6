use Rattle.std.proofs.Common.{ℕ, ◌-◌, ◌*◌, ◌≤◌, drop, Err, sym, ap, ap₂, ◌∙◌, inl, inr, arith}
use Rattle.std.proofs.lemmas.Bool.{cases_lt}
use Rattle.std.proofs.lemmas.Result.{err_from_is_err_and}
use Rattle.basics.specs.Checks.{verdict, lowest}
use Rattle.basics.specs.Lists.{row_of}
use Rattle.basics.proofs.Checking.{loop_stops, loop_goes_on, loop_ends}
use Rattle.rules.specs.Pages.{n}
use Rattle.rules.specs.Reach.{drift_fault}
use Rattle.rules.specs.Views.{row_drift}
use Rattle.rules.proofs.Writing.{row_taken, row_left}
use Rattle.pages.specs.Readings.{of_page, seen}
use Rattle.pages.proofs.read.Readings.check_drifts.Goals as goal

pub returns-in_err-check_drift : goal.returns-in_err-check_drift
returns-in_err-check_drift g c =
    let r = c.args.self.now in let p = of_page r in let s = seen r in let cs = c.args.symbols.now in
    let at = row_drift p s.marking s.cells cs in let v = c.loop-k.invariant in let t = c.in-Some.ensures.steps in let k = c.loop-k.k-iterator.count in
    let ys = row_taken (n p) k s.cells c.in-Some.readings.now c.next.new.self.iter.iter.a.rest.now (sym v.3 ∙ t.0.0.0.1.0) (t.0.0.0.1.1 ∙ v.1) in
    let zs = row_taken (n p) k cs c.in-Some.symbols.now c.next.new.self.iter.iter.b.rest.now (sym v.4 ∙ t.0.0.1.1.0) (t.0.0.1.1.1 ∙ v.2) in
    let e = ap₂ (drift_fault p s.marking c.in-Some.k) ys.0 zs.0 ∙ ap (λ (j : ℕ). drift_fault p s.marking j (row_of (n p) k s.cells) (row_of (n p) k cs)) t.1 in
    let x = err_from_is_err_and c.from_residual.result c.from_residual.ensures.1 in
    loop_stops at c.args.rows k v.5 _ c.from_residual.result (omega (arith, t.0.1, v.0)) (c.in_err-check_drift.ensures ∙ ap verdict e) (x.1 ∙ ap Err x.2)

pub loop-k-preserved : goal.loop-k-preserved
loop-k-preserved g c =
    let r = c.args.self.now in let p = of_page r in let s = seen r in let cs = c.args.symbols.now in
    let at = row_drift p s.marking s.cells cs in let v = c.loop-k.invariant in let t = c.in-Some.ensures.steps in let k = c.loop-k.k-iterator.count in
    let ys = row_taken (n p) k s.cells c.in-Some.readings.now c.next.new.self.iter.iter.a.rest.now (sym v.3 ∙ t.0.0.0.1.0) (t.0.0.0.1.1 ∙ v.1) in
    let zs = row_taken (n p) k cs c.in-Some.symbols.now c.next.new.self.iter.iter.b.rest.now (sym v.4 ∙ t.0.0.1.1.0) (t.0.0.1.1.1 ∙ v.2) in
    let e = ap₂ (drift_fault p s.marking c.in-Some.k) ys.0 zs.0 ∙ ap (λ (j : ℕ). drift_fault p s.marking j (row_of (n p) k s.cells) (row_of (n p) k cs)) t.1 in
    let next = loop_goes_on at c.args.rows k v.5 (omega (arith, t.0.1, v.0)) (c.in_ok-check_drift.ensures ∙ ap verdict e) in (
      omega (arith, t.0.1, t.2, v.0),
      t.0.0.0.0 ∙ v.1,
      t.0.0.1.0 ∙ v.2,
      ys.1 ∙ ap (λ (i : ℕ). drop (i * n p) s.cells) (sym t.2),
      zs.1 ∙ ap (λ (i : ℕ). drop (i * n p) cs) (sym t.2),
      next ∙ ap (λ (i : ℕ). lowest i (c.args.rows - i) at) (sym t.2),
    )

pub returns : goal.returns
returns g c =
    let r = c.args.self.now in let p = of_page r in let s = seen r in let cs = c.args.symbols.now in
    let at = row_drift p s.marking s.cells cs in let v = c.loop-k.invariant in let t = c.in-None.ensures.steps in let k = c.loop-k.k-iterator.count in
    let past : c.args.rows ≤ k = elim (cases_lt 0 c.loop-k.k-iterator.iter.n) [
      | inl h ↦ elim (t.0 h) [
        | inl a ↦ omega (arith, c.requires.rows, row_left p s.cells r.size k _ v.3 (omega (arith, a.1.1.0, v.1)))
        | inr b ↦ omega (arith, c.requires.rows, row_left p cs c.requires.symbols k _ v.4 (omega (arith, b.1.1.0, v.2)))
      ]
      | inr z ↦ omega (arith, v.0)
    ] in
    loop_ends at c.args.rows k v.5 past
