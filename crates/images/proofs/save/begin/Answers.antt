use Rattle.std.proofs.Common.{ℕ, ◌+◌, ◌*◌, List, length, sym, ap, ◌∙◌, ap₂}
use Rattle.basics.specs.Checks.{told}
use Rattle.basics.proofs.Checking.{first_passes, none_from_verdict}
use Rattle.fields.specs.Numbered.{number_of}
use Rattle.rules.specs.Pages.{tabled}
use Rattle.rules.specs.Calls.{numbers_fault}
use Rattle.rules.specs.Views.{of_kind}
use Rattle.images.specs.Format.{head_at, sealed_at, blocks_of_levels, cell_count}
use Rattle.images.specs.declared.fault.SaveFault.TheVariants.{Page}
use Rattle.images.proofs.Saving.{image_fine}
use Rattle.images.proofs.save.begin.Goals as goal

pub returns-clause-fault : goal.returns-clause-fault
returns-clause-fault c =
    let page = c.args.page.now in let p = of_kind (number_of page.field) page.plan.numbers in
    let count = c.cell_count-cells.ensures ∙ ap cell_count c.numbers-numbers.ensures in
    sym (first_passes (told Page (numbers_fault p)) _ (ap (told Page) (none_from_verdict (numbers_fault p) c.in_ok-check.ensures.fault))
    ∙ image_fine (cell_count p.numbers) (length c.args.image.now) (c.in_ok-check_image.ensures.size ∙ ap (λ n. 512 * (1 + blocks_of_levels n)) count))

pub returns-clause-image : goal.returns-clause-image
returns-clause-image c = c.put_block.ensures _ (c.head_block-head.ensures
    ∙ ap₂ (λ (head : List ℕ → ℕ → ℕ) ms. tabled 512 (sealed_at 0 (head ms))) (ap₂ head_at (c.kind.ensures ∙ ap number_of c.field.ensures) c.numbers-numbers.ensures) c.marked.ensures)
