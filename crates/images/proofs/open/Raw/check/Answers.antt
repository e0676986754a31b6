use Rattle.std.proofs.Common.{ℕ, ◌/◌, ◌≤◌, IfOk, Err, sym, ap, ◌∙◌, subst}
use Rattle.std.proofs.lemmas.Result.{err_from_is_err_and}
use Rattle.basics.specs.Checks.{lowest, told, fault_of}
use Rattle.basics.proofs.Checking.{both_none, first_passes, none_from_verdict}
use Rattle.rules.specs.Views.{kind_fault}
use Rattle.images.specs.Format.{cell_count}
use Rattle.images.specs.Opening.{bytes_at, numbers_in, seal_fault, word_fault}
use Rattle.images.specs.Opened.{Shows}
use Rattle.images.specs.declared.fault.ImageFault.TheVariants.{Header}
use Rattle.images.proofs.Opening.{told_none, few_cells, some_of_two}
use Rattle.images.proofs.open.Raw.check.Goals as goal

pub returns-in_err-page : goal.returns-in_err-page
returns-in_err-page c =
    let at = bytes_at c.args.self.now.bytes in let size = c.args.self.now.size in
    let x = err_from_is_err_and c.from_residual-in_err-page.result c.from_residual-in_err-page.ensures.1 in
    let r = x.1 ∙ ap Err x.2 in
    record {
      fault = ap fault_of r ∙ sym (
          first_passes _ _ (none_from_verdict _ c.in_ok-check_size.ensures.fault) ∙ first_passes (lowest 0 (size / 512) (seal_fault at)) _ (none_from_verdict _ c.in_ok-check_seals.ensures)
          ∙ first_passes (lowest 0 5 (word_fault at)) _ (none_from_verdict _ c.in_ok-check_word.ensures) ∙ some_of_two (told Header (kind_fault (at 5) (numbers_in at))) _ _ _ (sym c.in_err-page.ensures.fault)
          );
      page = subst (λ v. IfOk v (Shows at)) (sym r) tt;
    }

pub check_blocks-requires : goal.check_blocks-requires
check_blocks-requires c =
    let at = bytes_at c.args.self.now.bytes in let p = c.in_ok-page.ensures in
    let count = c.cell_count-cells.ensures ∙ ap cell_count (c.numbers.ensures ∙ p.page.numbers) in
    subst (λ (k : ℕ). k ≤ 8192) (sym count) (few_cells (at 5) (numbers_in at) (told_none Header _ (both_none _ _ (sym p.fault)).0))
