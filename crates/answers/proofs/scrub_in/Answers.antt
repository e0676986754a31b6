use Rattle.std.proofs.Common.{length, Ok, Err, sym, refl, ap, ◌∙◌, subst, ap₂}
use Rattle.std.proofs.lemmas.Result.{err_from_is_err_and}
use Rattle.fields.specs.Numbered.{number_of}
use Rattle.rules.specs.Pages.{tabled}
use Rattle.images.specs.Format.{cell_count, image_of}
use Rattle.images.specs.Opening.{bytes_at, reading_at}
use Rattle.images.specs.Opened.{Shows}
use Rattle.answers.specs.Answers.{outcome_of, Scrubbed}
use Rattle.answers.proofs.Opening.{never}
use Rattle.answers.proofs.Scrubbing.{scrubs_held, gives_held, saves_held, stored_held, scrub_refuses, scrub_leaves}
use Rattle.answers.proofs.scrub_in.Goals as goal

pub returns-in_err-cells : goal.returns-in_err-cells
returns-in_err-cells c =
    let o = c.requires.opened in let page = c.args.opened.now.page in
    absurd (never _ _ (gives_held c.args.image.now (number_of page.field) page.plan o.page.kind o.page.numbers o.page.marked (length c.args.cells.now) o.image c.requires.room) c.in_err-cells.ensures.fault)

pub returns-in_err-risen : goal.returns-in_err-risen
returns-in_err-risen c =
    let xs = c.args.image.now in let o = c.requires.opened in let page = c.page-page.result.now in
    let shown = subst (λ p. Shows (bytes_at xs) p) (sym c.page-page.ensures) o.page in
    let x = err_from_is_err_and c.from_residual-in_err-risen.result c.from_residual-in_err-risen.ensures.1 in
    let cells = c.in_ok-cells.ensures.cells ∙ ap₂ tabled (ap cell_count o.page.numbers) (ap reading_at o.bytes) in
    subst (λ w. Scrubbed xs (outcome_of w) xs) (sym (x.1 ∙ ap Err x.2))
    (scrub_refuses xs o.image c.in_err-risen.field-0.0 c.scrub.new.cells xs refl
    (scrubs_held xs (number_of page.field) page.plan shown.kind shown.numbers shown.marked c.cells.new.cells c.scrub.new.cells (Err c.in_err-risen.field-0.0) cells c.in_err-risen.ensures))

pub returns-in_err-save : goal.returns-in_err-save
returns-in_err-save c =
    let xs = c.args.image.now in let o = c.requires.opened in let page = c.page-page.result.now in
    let shown = subst (λ p. Shows (bytes_at xs) p) (sym c.page-page.ensures) o.page in
    let count = c.scrub.auto.cells ∙ c.cells.auto.cells ∙ c.requires.room ∙ ap (λ p. cell_count p.plan.numbers) (sym c.page-page.ensures) in
    absurd (never _ _ (saves_held xs (number_of page.field) page.plan shown.kind shown.numbers shown.marked (length c.scrub.new.cells) o.image count) c.in_err-save.ensures.fault)

pub returns : goal.returns
returns c =
    let xs = c.args.image.now in let o = c.requires.opened in let page = c.page-page.result.now in
    let shown = subst (λ p. Shows (bytes_at xs) p) (sym c.page-page.ensures) o.page in
    let cells = c.in_ok-cells.ensures.cells ∙ ap₂ tabled (ap cell_count o.page.numbers) (ap reading_at o.bytes) in
    scrub_leaves xs o.image _ c.in_ok-risen.risen c.scrub.new.cells c.save.new.image
    (c.in_ok-save.ensures.image ∙ ap image_of (stored_held xs (number_of page.field) page.plan shown.kind shown.numbers shown.marked c.scrub.new.cells))
    (scrubs_held xs (number_of page.field) page.plan shown.kind shown.numbers shown.marked c.cells.new.cells c.scrub.new.cells (Ok (_, c.in_ok-risen.risen)) cells c.in_ok-risen.ensures)
