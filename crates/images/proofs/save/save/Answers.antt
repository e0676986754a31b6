use Rattle.std.proofs.Common.{◌≡◌, ℕ, ◌+◌, ◌*◌, length, Ok, sym, ap, ◌∙◌, subst, arith}
use Rattle.basics.specs.Checks.{verdict}
use Rattle.basics.proofs.Checking.{none_from_verdict, made_verdict}
use Rattle.fields.specs.Numbered.{number_of}
use Rattle.rules.specs.Views.{of_kind}
use Rattle.images.specs.Format.{blocks_of_levels, cell_count, image_of}
use Rattle.images.specs.Saving.{LevelsSet, count_after, closed, stored}
use Rattle.images.proofs.Imaging.{begins_head, begins_more, begins_all}
use Rattle.images.proofs.Both.{image_law}
use Rattle.images.proofs.Saving.{savable, put_fine, close_fine, begun_size, save_fine, accepted, kept_or}
use Rattle.images.proofs.save.save.Goals as goal

pub loop-block-init : goal.loop-block-init
loop-block-init c =
    let page = c.args.page.now in let b = c.in_ok-begun.ensures in
    let p = of_kind (number_of page.field) page.plan.numbers in
    let count : length c.args.cells.now ≡ cell_count page.plan.numbers = c.in_ok-check_cells.ensures.size ∙ c.cell_count.ensures ∙ ap cell_count c.numbers.ensures in (
      b.begun.1,
      b.begun.0 ∙ sym count,
      b.begun.2,
      omega (arith, begun_size p (length c.args.image.now) b.fault, ap blocks_of_levels count),
      begins_head (stored (number_of page.field) page.plan c.args.cells.now) c.args.image.now c.begin.new.image b.image,
    )

pub loop-block-preserved : goal.loop-block-preserved
loop-block-preserved c =
    let l = c.loop-block in let page = c.args.page.now in let s = stored (number_of page.field) page.plan c.args.cells.now in
    let size : length l.image ≡ 512 * (1 + blocks_of_levels l.begun.cells) = l.invariant.3 ∙ ap (λ n. 512 * (1 + blocks_of_levels n)) (sym l.invariant.1) in
    let ok : c.put.result ≡ Ok tt = c.put.ensures.fault
    ∙ ap verdict (put_fine l.begun.cells l.begun.put (length c.args.cells.now) (length l.image) (sym l.invariant.1) size (omega (arith, l.invariant.0, l.invariant.1, ap blocks_of_levels l.invariant.1, c.loop-block-test.true, c.level_blocks-block-end.ensures))) in
    let set = accepted tt l.image c.put.new.image (LevelsSet l.begun.put c.args.cells.now l.image c.put.new.image) ok c.put.ensures.image in (
      c.put.ensures.count ∙ ap (λ r. count_after r l.begun.put) ok ∙ ap (λ n. n + 1) l.invariant.0,
      c.put.ensures.cells ∙ l.invariant.1,
      c.put.ensures.owed ∙ l.invariant.2,
      set.long ∙ l.invariant.3,
      begins_more s l._block l.image c.put.new.image l.invariant.4 (subst (λ (b : ℕ). LevelsSet b c.args.cells.now l.image c.put.new.image) l.invariant.0 set),
    )

pub returns : goal.returns
returns c =
    let l = c.loop-block in let page = c.args.page.now in let s = stored (number_of page.field) page.plan c.args.cells.now in
    let p = of_kind (number_of page.field) page.plan.numbers in let b = c.in_ok-begun.ensures in
    let count : length c.args.cells.now ≡ cell_count page.plan.numbers = c.in_ok-check_cells.ensures.size ∙ c.cell_count.ensures ∙ ap cell_count c.numbers.ensures in
    let size : length l.image ≡ 512 * (1 + blocks_of_levels l.begun.cells) = l.invariant.3 ∙ ap (λ n. 512 * (1 + blocks_of_levels n)) (sym l.invariant.1) in
    let all : l._block ≡ blocks_of_levels (length c.args.cells.now) = omega (arith, c.loop-block-test.false, l.auto._block-end, c.level_blocks-block-end.ensures) in
    let fine = close_fine l.begun.cells l.begun.put (length l.image) size (omega (arith, l.invariant.0, ap blocks_of_levels l.invariant.1, all)) in
    let ok : c.close.result ≡ Ok tt = c.close.ensures.fault ∙ ap verdict fine in
    record {
      fault = ok ∙ ap verdict (sym (save_fine p (length c.args.cells.now) (length c.args.image.now) b.fault count));
      image = kept_or tt c.args.image.now c.close.new.image (c.close.new.image ≡ image_of s) ok
          (c.close.ensures.image ∙ ap (λ o. closed o l.image) fine
          ∙ begins_all s (1 + l._block) l.image (omega (arith, all, ap blocks_of_levels count)) (omega (arith, l.invariant.3, ap blocks_of_levels count)) l.invariant.4);
      savable = made_verdict _ _ c.close.ensures.fault (λ _. savable page c.args.cells.now (none_from_verdict _ c.in_ok-check.ensures.fault) count (λ i. omega (arith, c.type_inv.cells i)));
      law = image_law;
    }
