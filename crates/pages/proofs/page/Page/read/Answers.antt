use Rattle.std.proofs.Common.{Ok, Err, sym, ap, ap₂, ◌∙◌}
use Rattle.std.proofs.lemmas.Result.{err_from_is_err_and}
use Rattle.basics.proofs.Checking.{none_from_verdict}
use Rattle.rules.specs.Views.{state, buffers}
use Rattle.rules.proofs.Steps.{recovered_as, read_refused, read_recovered}
use Rattle.pages.specs.Views.{over}
use Rattle.pages.specs.Readings.{of_page, seen}
use Rattle.pages.proofs.page.Page.read.Goals as goal

pub returns-in_err-counts-clause-step : goal.returns-in_err-counts-clause-step
returns-in_err-counts-clause-step g c =
    let p = over c.args.self.now in let s = state c.args.self.now.plan c.args.cells.now in
    let r = c.in_ok-readings.readings in let w = c.in_ok-readings.ensures in
    let xs = c.recover.new.levels in let f = c.in_err-counts.field-0.0 in
    let x = err_from_is_err_and c.from_residual-in_err-counts.result c.from_residual-in_err-counts.ensures.1 in
    read_refused p s xs (sym w.fault) (buffers c.args.symbols.now c.args.heights.now) (none_from_verdict _ c.in_ok-check_buffers.ensures.fault)
    f c.from_residual-in_err-counts.result (recovered_as p (of_page r) s (seen r) xs (Err f) w.page c.in_err-counts.ensures) (x.1 ∙ ap Err x.2)

pub returns-clause-step : goal.returns-clause-step
returns-clause-step g c =
    let p = over c.args.self.now in let s = state c.args.self.now.plan c.args.cells.now in
    let r = c.in_ok-readings.readings in let w = c.in_ok-readings.ensures in
    let xs = c.recover.new.levels in let k = c.in_ok-counts.counts in
    read_recovered p s xs (sym w.fault) (buffers c.args.symbols.now c.args.heights.now) (none_from_verdict _ c.in_ok-check_buffers.ensures.fault)
    (buffers c.fill_symbols.new.symbols c.fill_heights.new.heights) k (recovered_as p (of_page r) s (seen r) xs (Ok k) w.page c.in_ok-counts.ensures)
    (ap₂ buffers c.fill_symbols.ensures c.fill_heights.ensures)
