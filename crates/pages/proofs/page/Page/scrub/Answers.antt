use Rattle.std.proofs.Common.{Ok, Err, sym, ap, ◌∙◌}
use Rattle.std.proofs.lemmas.Result.{err_from_is_err_and}
use Rattle.rules.specs.Views.{state}
use Rattle.rules.proofs.Steps.{recovered_as, scrub_refused, scrub_recovered}
use Rattle.pages.specs.Views.{over}
use Rattle.pages.specs.Readings.{of_page, seen}
use Rattle.pages.proofs.page.Page.scrub.Goals as goal

pub returns-in_err-pair : goal.returns-in_err-pair
returns-in_err-pair g c =
    let p = over c.args.self.now in let s = state c.args.self.now.plan c.args.cells.now in
    let r = c.in_ok-readings.readings in let w = c.in_ok-readings.ensures in
    let xs = c.recover.new.levels in let f = c.in_err-pair.field-0.0 in
    let x = err_from_is_err_and c.from_residual-in_err-pair.result c.from_residual-in_err-pair.ensures.1 in
    scrub_refused p s xs (sym w.fault) f c.from_residual-in_err-pair.result
    (recovered_as p (of_page r) s (seen r) xs (Err f) w.page c.in_err-pair.ensures) (x.1 ∙ ap Err x.2)

pub returns : goal.returns
returns g c =
    let p = over c.args.self.now in let s = state c.args.self.now.plan c.args.cells.now in
    let r = c.in_ok-readings.readings in let w = c.in_ok-readings.ensures in
    let xs = c.recover.new.levels in let k = c.in_ok-pair.pair in
    scrub_recovered p s xs (sym w.fault) c.copy_from_slice.new.self k (recovered_as p (of_page r) s (seen r) xs (Ok k) w.page c.in_ok-pair.ensures)
    c.copy_from_slice.ensures.after
