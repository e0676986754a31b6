-- Saving a whole image: no put of it is refused, and nor is its close.
use Rattle.std.proofs.Common.{◌≡◌, ℕ, ◌+◌, ◌*◌, ◌<◌, ◌≤◌, min, not, eqb, ltb, List, length, get_or, None, Ok, Result, sym, ap, ◌∙◌, subst, arith}
use Rattle.std.proofs.lemmas.List.{length-take}
use Rattle.std.proofs.lemmas.Bool.{or_from, eq-eqb, eqb-true, lt-leb, le-ltb, not-false}
use Rattle.basics.specs.Checks.{check, told}
use Rattle.basics.proofs.Checking.{both_none, check_none, check_false, others_pass, first_passes}
use Rattle.fields.specs.declared.Field as field
use Rattle.fields.specs.declared.Ring as ring
use Rattle.fields.specs.declared.kind.KindField.{KindField}
use Rattle.fields.specs.Numbered.{number_of}
use Rattle.fields.specs.Seven.{number_in, order_is}
use Rattle.plans.specs.Orders.{order_fault, outside}
use Rattle.plans.specs.declared.fault.OrderFault.TheVariants.{Kind}
use Rattle.plans.specs.declared.fault.MarkingFault.TheVariants.{Long}
use Rattle.plans.proofs.Marking.{columns_fine}
use Rattle.pages.specs.declared.page.Page.{Page}
use Rattle.rules.specs.Pages.{Setup}
use Rattle.rules.specs.Views.{marking, of_kind}
use Rattle.rules.specs.Calls.{numbers_fault}
use Rattle.rules.specs.declared.fault.Buffer.TheVariants.{Cells}
use Rattle.rules.specs.declared.fault.PageFault.TheVariants.{Length, Order}
use Rattle.images.specs.Format.{blocks_of_levels, cell_count, image_size}
use Rattle.images.specs.Laws.{Savable}
use Rattle.images.specs.Saving.{OrKept, begin_fault, image_fault, put_fault, close_fault, save_fault, stored}
use Rattle.images.specs.declared.fault.SaveFault.TheVariants as save
use Rattle.images.proofs.Opening.{told_none}

-- a buffer as long as the image
pub image_fine : (cells size : ℕ) → size ≡ 512 * (1 + blocks_of_levels cells) → image_fault cells size ≡ None
image_fine cells size e = check_false _ _ (ap not (eq-eqb _ _ e))

pub put_fine : (cells done count size : ℕ) → count ≡ cells → size ≡ 512 * (1 + blocks_of_levels cells) → done < blocks_of_levels cells → put_fault cells done count size ≡ None
put_fine cells done count size ec es h =
    others_pass (check (not (eqb count cells)) (save.Page (Length Cells))) (image_fault cells size) _ (check_false _ _ (ap not (eq-eqb _ _ ec))) (image_fine cells size es)
    ∙ check_false _ _ (lt-leb _ _ h)

pub close_fine : (cells done size : ℕ) → size ≡ 512 * (1 + blocks_of_levels cells) → blocks_of_levels cells ≤ done → close_fault cells done size ≡ None
close_fine cells done size es h = first_passes (image_fault cells size) _ (image_fine cells size es) ∙ check_false _ _ (le-ltb _ _ h)

-- a begun image has a buffer as long as it is
pub begun_size : (p : Setup) (size : ℕ) → None ≡ begin_fault p size → size ≡ image_size p.numbers
begun_size p size e = eqb-true _ _ (not-false _ (check_none _ _ (both_none (told save.Page (numbers_fault p)) _ (sym e)).1))

-- what was begun with a page in order, and cells and a buffer of its lengths, is not refused
pub save_fine : (p : Setup) (count size : ℕ) → None ≡ begin_fault p size → count ≡ cell_count p.numbers → save_fault p count size ≡ None
save_fine p count size e ec =
    others_pass (told save.Page (numbers_fault p)) (check (not (eqb count (cell_count p.numbers))) (save.Page (Length Cells))) _
    (both_none (told save.Page (numbers_fault p)) _ (sym e)).0 (check_false _ _ (ap not (eq-eqb _ _ ec)))
    ∙ image_fine (cell_count p.numbers) size (begun_size p size e)

-- what the page and cells of its lengths hold can be saved
pub savable : {f : field.Ghosts KindField} {r : ring.Ghosts KindField} (page : Page KindField f r) (cells : List ℕ) → numbers_fault (of_kind (number_of page.field) page.plan.numbers) ≡ None
    → length cells ≡ cell_count page.plan.numbers → ((c : ℕ) → get_or cells c 0 < 65536) → Savable (stored (number_of page.field) page.plan cells)
unfolding numbers_fault
savable page cells e size fit =
    let k = number_of page.field in let p = page.plan.numbers in let ms = marking page.plan in let within = number_in page.field in
    record {
      ordered = first_passes (check (outside 1 7 k) Kind) _ (check_false _ _ (or_from _ _ (le-ltb k 1 within.0) (le-ltb 7 k within.1)))
          ∙ ap (λ q. order_fault q p) (order_is k within) ∙ told_none Order _ e;
      marked = first_passes (check (ltb (min 64 p.checks) (length ms)) Long) _ (check_false _ _ (le-ltb (min 64 p.checks) (length ms) (omega (arith, length-take page.plan.count page.plan.marked, page.plan.room, page.plan.fits))))
          ∙ columns_fine p.columns ms page.plan.rises;
      size = size;
      cells_fit = fit;
    }

-- what an accepted call leaves
pub accepted : {T F : Type 0} {r : Result T F} (v : T) (xs zs : List ℕ) (P : Type 0) → r ≡ Ok v → OrKept r xs zs P → P
accepted {T} {F} v xs zs P e h = subst (λ (x : Result T F). OrKept x xs zs P) e h

pub kept_or : {T F : Type 0} {r : Result T F} (v : T) (xs zs : List ℕ) (P : Type 0) → r ≡ Ok v → P → OrKept r xs zs P
kept_or {T} {F} v xs zs P e h = subst (λ (x : Result T F). OrKept x xs zs P) (sym e) h
