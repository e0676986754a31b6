use Rattle.std.proofs.Common.{sym, ◌∙◌}
use Rattle.std.specs.Cmp.Lexicographic.{same_text}
use Rattle.std.proofs.lemmas.Bool.{not-false}
use Rattle.rules.specs.Views.{state, buffers}
use Rattle.pages.specs.Views.{over}
use Rattle.week.proofs.Reading.{passed_on, whatever, told}
use Rattle.week.proofs.week.read.Goals as goal

pub returns : goal.returns
returns c =
    let page = c.args.page.now in let written = c.args.written.now in let kept = c.kept_by-kept in
    let symbols = same_text _ _ (sym (not-false _ (sym c.if-ne.ensures))) in let heights = same_text _ _ (sym (not-false _ (sym c.if-ne-2.ensures))) in
    whatever _ _ (told (over page) (state page.plan c.args.cells.now) _ (buffers c.read.new.symbols c.read.new.heights) (buffers written.symbols written.heights) 320 _ _ _ c.read.ensures.step
    (passed_on _ c.read.result (c.in_ok-drifted.drifted, c.in_ok-drifted.risen) _ c.in_ok-drifted.ensures.cases c.in_ok-drifted.ensures.variant)
    (symbols ∙ kept.ensures.symbols) (heights ∙ kept.ensures.heights))
