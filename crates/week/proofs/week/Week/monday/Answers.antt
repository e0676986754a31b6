use Rattle.std.proofs.Common.{replicate}
use Rattle.rules.specs.Views.{state, buffers}
use Rattle.pages.specs.Views.{over}
use Rattle.week.proofs.Reading.{passed_on, wrote}
use Rattle.week.proofs.week.Week.monday.Goals as goal

pub returns : goal.returns
returns c =
    let page = c.in_ok-page.page in let b = buffers c.args.label.now.symbols c.args.label.now.heights in
    wrote (over page) (state page.plan (replicate 320 0)) (state page.plan c.write.new.cells) b b c.write.result c.write.ensures
    (passed_on _ c.write.result c.in_ok-map_err.field-0 _ c.in_ok-map_err.ensures.cases c.in_ok-map_err.ensures.variant)
