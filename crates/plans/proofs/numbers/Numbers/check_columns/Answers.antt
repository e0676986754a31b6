use Rattle.std.proofs.Common.{◌≡◌, ℕ, ◌+◌, ◌-◌, true, length, get_or, sym, ap, ◌∙◌, arith}
use Rattle.std.proofs.lemmas.Bool.{or_left, le-leb}
use Rattle.basics.specs.Checks.{check, verdict}
use Rattle.basics.proofs.Checking.{lowest_stop, lowest_more, loop_ends, check_false}
use Rattle.plans.specs.Marks.{wrong_column}
use Rattle.plans.specs.declared.fault.MarkingFault.TheVariants.{Column}
use Rattle.plans.proofs.Marking.{column_low, column_fine}
use Rattle.plans.proofs.numbers.Numbers.check_columns.Goals.{then-column-low-via-then-column-low, then-column-low-via-else-column-low+then-column-self}
use Rattle.plans.proofs.numbers.Numbers.check_columns.Goals as goal

pub returns-then-column-low : goal.returns-then-column-low
returns-then-column-low c =
    let n = c.args.self.now.columns in let xs = c.args.marking.now in let at = λ (i : ℕ). check (wrong_column n xs i) (Column i) in
    let l = c.loop-i in
    let wrong : wrong_column n xs l.i ≡ true = elim c.then-column-low.branch [
      | then-column-low-via-then-column-low w ↦ column_low n xs l.i l.low l.invariant.1 l.invariant.2 w.if-column-low.true
      | then-column-low-via-else-column-low+then-column-self w ↦ or_left _ _ (le-leb n (get_or xs l.i 0) w.if-column-self.true)
    ] in
    ap verdict (sym (l.invariant.0 ∙ lowest_stop at (length xs) l.i _ c.loop-i-test.true (ap (λ b. check b (Column l.i)) wrong)))

pub loop-i-preserved : goal.loop-i-preserved
loop-i-preserved c =
    let n = c.args.self.now.columns in let xs = c.args.marking.now in let at = λ (i : ℕ). check (wrong_column n xs i) (Column i) in
    let l = c.loop-i in let e : l.i ≡ (l.i + 1) - 1 = omega arith in (
      l.invariant.0 ∙ lowest_more at (length xs) l.i (omega arith)
          (check_false _ _ (column_fine n xs l.i l.low l.invariant.1 l.invariant.2 (omega arith) (omega arith))),
      λ z. absurd (omega arith),
      λ h. ap (λ (k : ℕ). get_or xs k 0 + 1) e,
    )

pub returns : goal.returns
returns c =
    let xs = c.args.marking.now in let l = c.loop-i in
    loop_ends (λ i. check (wrong_column c.args.self.now.columns xs i) (Column i)) (length xs) l.i l.invariant.0 (omega arith)
