use Rattle.std.proofs.Common.{◌≡◌, ℕ, Err, sym, ap, ◌∙◌, subst, arith}
use Rattle.std.proofs.lemmas.Result.{err_from_is_err_and}
use Rattle.basics.specs.Checks.{lowest}
use Rattle.basics.proofs.Checking.{some_from_verdict, none_from_verdict}
use Rattle.rules.specs.declared.fault.PageFault.TheVariants.{Lost}
use Rattle.rules.specs.Reach.{Unfound}
use Rattle.rules.specs.Views.{PageDecoded, rows_before, row_drift}
use Rattle.rules.proofs.Decoding.{unfound_drift, unfound_lost, found_levels}
use Rattle.pages.specs.Readings.{of_page, seen}
use Rattle.pages.proofs.read.Readings.decode.Goals as goal

pub check_drifts-requires-clause-rows : goal.check_drifts-requires-clause-rows
check_drifts-requires-clause-rows g c = omega (arith, c.rows_before.ensures, c.correct-lost.ensures.corrected.some)

pub returns-in_err-check_drifts : goal.returns-in_err-check_drifts
returns-in_err-check_drifts g c =
    let r = c.args.self.now in let p = of_page r in let s = seen r in let good = rows_before p c.correct-lost.result in
    let x = err_from_is_err_and c.from_residual.result c.from_residual.ensures.1 in
    let at = row_drift p s.marking s.cells c.correct-lost.new.symbols in
    let w = unfound_drift p s c.args.levels.now c.lay.new.symbols c.correct-lost.new.symbols good (record {
      ranges = r.page.now.ranges;
      cells = r.size;
      page = c.requires.levels;
      readable = c.requires.readable;
      lays = c.lay.ensures;
      corrects = c.correct-lost.ensures.corrected;
    }) in
    subst (PageDecoded p s c.correct-lost.new.symbols) (sym (x.1 ∙ ap Err x.2))
    (w _ (sym (ap (λ (k : ℕ). lowest 0 k at) c.rows_before.ensures) ∙ some_from_verdict (lowest 0 c.rows_before.result at) _ c.in_err-check_drifts.ensures))

pub returns-in-Some : goal.returns-in-Some
returns-in-Some g c =
    let r = c.args.self.now in let p = of_page r in let s = seen r in let good = rows_before p c.correct-lost.result in
    let at = row_drift p s.marking s.cells c.correct-lost.new.symbols in
    let w = unfound_lost p s c.args.levels.now c.lay.new.symbols c.correct-lost.new.symbols good (record {
      ranges = r.page.now.ranges;
      cells = r.size;
      page = c.requires.levels;
      readable = c.requires.readable;
      lays = c.lay.ensures;
      corrects = c.correct-lost.ensures.corrected;
    }) in
    let fine = sym (ap (λ (k : ℕ). lowest 0 k at) c.rows_before.ensures) ∙ none_from_verdict (lowest 0 c.rows_before.result at) c.in_ok-check_drifts.ensures in
    let row : good ≡ c.in-Some.row = ap (rows_before p) c.in-Some.is in
    subst (λ (k : ℕ). Unfound p s (Lost k)) row (w (omega (arith, row, c.in-Some.ensures.inside)) fine)

pub returns : goal.returns
returns g c =
    let r = c.args.self.now in let p = of_page r in let s = seen r in let good = rows_before p c.correct-lost.result in
    let at = row_drift p s.marking s.cells c.correct-lost.new.symbols in
    let w = found_levels p s c.args.levels.now c.lay.new.symbols c.correct-lost.new.symbols good (record {
      ranges = r.page.now.ranges;
      cells = r.size;
      page = c.requires.levels;
      readable = c.requires.readable;
      lays = c.lay.ensures;
      corrects = c.correct-lost.ensures.corrected;
    }) in
    let fine = sym (ap (λ (k : ℕ). lowest 0 k at) c.rows_before.ensures) ∙ none_from_verdict (lowest 0 c.rows_before.result at) c.in_ok-check_drifts.ensures in
    w c.settle.new.levels (omega (arith, ap (rows_before p) c.in_default.is)) fine c.settle.ensures
