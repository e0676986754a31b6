-- What correcting the rows of an ordered page came to.
use Rattle.std.proofs.Common.{◌≡◌, ℕ, ◌+◌, ◌-◌, ◌*◌, ◌%◌, ◌<◌, ◌≤◌, min, true, false, not, ◌||◌, eqb, ltb, List, length, IfSome, None, ◌∙◌, subst, inl, inr, arith}
use native.Mathlib.Nat.{mul-mod_left}
use Rattle.std.proofs.lemmas.Nat.{mul-le}
use Rattle.std.proofs.lemmas.Bool.{le-ltb, eq-eqb, or_from, not_from_true, cases_lt}
use Rattle.basics.proofs.Checking.{check_false, first_passes, others_pass}
use Rattle.algebra.specs.Rows.{rising}
use Rattle.codes.specs.Correct.{correct_fault, refusal, CorrectedRows, Left}
use Rattle.codes.specs.declared.correct.CorrectFault.{CorrectFault}
use Rattle.codes.specs.declared.correct.CorrectFault.TheVariants.{Width, Checks, Marking, Length, Lost}
use Rattle.plans.specs.Orders.{Ranges}
use Rattle.plans.specs.declared.numbers.Numbers.{Numbers}
use Rattle.rules.specs.Pages.{Setup, q, n, r, cell_count}
use Rattle.rules.specs.Views.{CorrectedTo, rows_before, row_lost}
use Rattle.rules.proofs.Writing.{row_fits}

-- the rows of an ordered page can be corrected
pub correct_fits : (q : ℕ) (p : Numbers) (ms : List ℕ) → Ranges q p → length ms ≤ p.checks → rising 0 p.columns ms ≡ true
    → correct_fault q p.columns p.checks ms (p.rows * p.columns) ≡ None
correct_fits q p ms g few rises =
    let two = g.two_columns in let below = g.points in let columns = g.columns_few in let checks = g.checks_few in
    let a : (ltb p.columns 1 || ltb (min (q - 1) 256) p.columns) ≡ false = or_from _ _ (le-ltb p.columns 1 (omega arith)) (le-ltb (min (q - 1) 256) p.columns (omega arith)) in
    let b : ltb 64 p.checks ≡ false = le-ltb 64 p.checks checks in
    let c : (ltb p.checks (length ms) || not (rising 0 p.columns ms)) ≡ false = or_from _ _ (le-ltb p.checks (length ms) few) (not_from_true _ rises) in
    let d : not (eqb (p.rows * p.columns % p.columns) 0) ≡ false = not_from_true _ (eq-eqb _ _ (mul-mod_left p.rows p.columns)) in
    others_pass _ _ _ (check_false _ Width a) (check_false _ Checks b) ∙ first_passes _ _ (check_false _ Marking c) ∙ check_false _ Length d

-- a row that lies in the page is one of its rows
row_of : (k n rows : ℕ) → 0 < n → k * n + n ≤ rows * n → k < rows
row_of k n rows pos h = elim (cases_lt k rows) [ inl l ↦ l | inr l ↦ absurd (omega (arith, mul-le rows n k n l (omega arith))) ]

module _ (p : Setup) (g : Ranges (q p) p.numbers) (ms xs ys : List ℕ) (long : length xs ≡ cell_count p) where
  pub all_corrected : CorrectedRows p.field (n p) (r p) ms xs ys → CorrectedTo p ms p.numbers.rows xs ys
  all_corrected c = record {
    long = c.long;
    some = omega arith;
    before = λ k h. (c.rows k (omega (arith, row_fits p k h, long))).close;
    none = λ h. absurd (omega arith);
  }

  -- the faults but for a lost row are of other numbers
  pub some_lost : (e : CorrectFault) → None ≡ refusal e → Left p.field (n p) (r p) ms xs ys e
      → CorrectedTo p ms (rows_before p (row_lost e)) xs ys × IfSome (row_lost e) (λ k. k < p.numbers.rows)
  some_lost Width e l = let z : ◌≡◌ {A = ℕ} 0 1 = cc in absurd (omega arith)
  some_lost Checks e l = let z : ◌≡◌ {A = ℕ} 0 1 = cc in absurd (omega arith)
  some_lost Marking e l = let z : ◌≡◌ {A = ℕ} 0 1 = cc in absurd (omega arith)
  some_lost Length e l = let z : ◌≡◌ {A = ℕ} 0 1 = cc in absurd (omega arith)
  some_lost (Lost k) e l =
      let h = row_of k (n p) p.numbers.rows (omega (arith, g.two_columns)) (omega (arith, l.whole, long)) in
      (record { long = l.long; some = omega arith; before = λ j i. (l.before j i).close; none = λ _. l.none }, h)

-- the same, for numbers and marks that the code hands on
pub handed_on : (p : Setup) (m : Numbers) (ms ns xs ys : List ℕ) → m ≡ p.numbers → ns ≡ ms
    → (P : ℕ → ℕ → ℕ → List ℕ → Type 0) → P m.columns m.checks m.rows ns → P (n p) (r p) p.numbers.rows ms
handed_on p m ms ns xs ys e f P h = subst (λ (k : Numbers). P k.columns k.checks k.rows ms) e (subst (P m.columns m.checks m.rows) f h)
