-- Bytes that open, and bytes that do not.
use Rattle.std.proofs.Common.{◌≡◌, ℕ, ◌%◌, ◌<◌, ◌≤◌, not, ◌||◌, eqb, ltb, List, length, get_or, Some, None, Err, Option, sym, ap, ◌∙◌, inl, inr}
use Rattle.std.proofs.Math.Bool.{or-true}
use Rattle.std.proofs.Math.Path.{fun_ext}
use Rattle.std.proofs.lemmas.Bool.{cases_lt, lt-ltb, ltb-false, or_parts, eq-eqb}
use Rattle.basics.specs.Checks.{check, told, verdict}
use Rattle.basics.proofs.Checking.{both_none, check_none, check_false, first_passes, others_pass, some_first, some_from_verdict}
use Rattle.fields.specs.Kinds.{order_of, ops_of}
use Rattle.fields.specs.Seven.{laws, order_is}
use Rattle.plans.specs.Orders.{order_fault, outside, Ranges}
use Rattle.plans.proofs.Ranged.{ranges}
use Rattle.plans.specs.declared.fault.OrderFault.{OrderFault}
use Rattle.plans.specs.declared.fault.OrderFault.TheVariants.{Kind}
use Rattle.rules.specs.Pages.{State}
use Rattle.rules.specs.Calls.{numbers_fault, handed}
use Rattle.rules.specs.Views.{kind_fault, of_kind}
use Rattle.rules.specs.declared.fault.Buffer.TheVariants.{Cells}
use Rattle.rules.specs.declared.fault.PageFault.TheVariants as page
use Rattle.images.specs.Format.{cell_count, image_size}
use Rattle.images.specs.Opening.{bytes_at, numbers_in, open_fault}
use Rattle.images.specs.Opened.{cells_fault}
use Rattle.images.specs.Saving.{save_fault}
use Rattle.images.specs.declared.fault.ImageFault.TheVariants.{Length}
use Rattle.images.specs.declared.fault.SaveFault.TheVariants.{Page}
use Rattle.images.proofs.Opening.{few_cells, few_bytes, passed}
use Rattle.images.proofs.Saving.{image_fine}

-- a check that passes refuses nothing
pub never : {F : Type 0} (o : Option F) (f : F) → o ≡ None → Err f ≡ verdict o → ⊥
never o f e w = let z = some_from_verdict o f w in cc

-- where there are too many bytes, none is looked at
too_many : (at : ℕ → ℕ) (size : ℕ) → 17408 < size → open_fault at size ≡ Some Length
too_many at size h =
    let a = not (eqb (size % 512) 0) in let b = ltb size 1024 in
    some_first (check (a || outside 1024 17408 size) Length) _ Length
    (ap (λ t. check (a || (b || t)) Length) (lt-ltb 17408 size h) ∙ ap (λ t. check (a || t) Length) (or-true b) ∙ ap (λ t. check t Length) (or-true a))

-- a copy of as many bytes as an image can have opens as they do
pub raw_opens : (xs ys : List ℕ) (size : ℕ) → size ≡ length xs → (length xs ≤ 17408 → (i : ℕ) → get_or ys i 0 ≡ get_or xs i 0)
    → open_fault (bytes_at ys) size ≡ open_fault (bytes_at xs) (length xs)
raw_opens xs ys size e h = ap (open_fault (bytes_at ys)) e ∙ elim (cases_lt 17408 (length xs)) [
  | inl l ↦ too_many (bytes_at ys) (length xs) l ∙ sym (too_many (bytes_at xs) (length xs) l)
  | inr l ↦ let same : bytes_at ys ≡ bytes_at xs = fun_ext (h l) in ap (λ (at : ℕ → ℕ). open_fault at (length xs)) same
]

-- bytes that open
module _ (at : ℕ → ℕ) (size : ℕ) (o : open_fault at size ≡ None) where
  -- are as many as the page's image has
  whole : size ≡ image_size (numbers_in at)
  whole = (passed at size o).size_is

  -- and their page is in order
  ordered : kind_fault (at 5) (numbers_in at) ≡ None
  ordered = (passed at size o).ordered

  pub few_readings : cell_count (numbers_in at) ≤ 8192
  few_readings = few_cells (at 5) (numbers_in at) ordered

  checked_order : (check (outside 1 7 (at 5)) Kind ≡ None) × (order_fault (order_of (at 5)) (numbers_in at) ≡ None)
  checked_order = both_none (check (outside 1 7 (at 5)) Kind) (order_fault (order_of (at 5)) (numbers_in at)) ordered

  pub kind_in : (1 ≤ at 5) × (at 5 ≤ 7)
  kind_in = let inside = or_parts _ _ (check_none _ Kind checked_order.0) in (ltb-false (at 5) 1 inside.0, ltb-false 7 (at 5) inside.1)

  numbered : order_fault (ops_of (at 5)).order (numbers_in at) ≡ None
  numbered = ap (λ (q : ℕ). order_fault q (numbers_in at)) (sym (order_is (at 5) kind_in)) ∙ checked_order.1

  pub in_range : Ranges (ops_of (at 5)).order (numbers_in at)
  in_range = ranges (ops_of (at 5)).order (numbers_in at) (laws (at 5) kind_in).low numbered

  in_order : numbers_fault (of_kind (at 5) (numbers_in at)) ≡ None
  unfolding numbers_fault
  in_order = ap (λ (x : Option OrderFault). elim x [ Some f ↦ Some (page.Order f) | None ↦ None ]) numbered

  -- so what is done with it is not refused
  pub gives_cells : (count : ℕ) → count ≡ cell_count (numbers_in at) → cells_fault (of_kind (at 5) (numbers_in at)) count ≡ None
  gives_cells count e = first_passes (numbers_fault (of_kind (at 5) (numbers_in at))) _ in_order ∙ check_false _ _ (ap not (eq-eqb _ _ e))

  pub takes_cells : (s : State) → length s.cells ≡ cell_count (numbers_in at) → handed (of_kind (at 5) (numbers_in at)) s ≡ None
  takes_cells s e = gives_cells (length s.cells) e

  pub saves : (count : ℕ) → count ≡ cell_count (numbers_in at) → save_fault (of_kind (at 5) (numbers_in at)) count size ≡ None
  saves count e =
      others_pass (told Page (numbers_fault (of_kind (at 5) (numbers_in at)))) (check (not (eqb count (cell_count (numbers_in at)))) (Page (page.Length Cells))) _
      (ap (told Page) in_order) (check_false _ _ (ap not (eq-eqb _ _ e))) ∙ image_fine (cell_count (numbers_in at)) size whole

-- and a copy of them is what they are
pub raw_bytes : (xs ys : List ℕ) → open_fault (bytes_at xs) (length xs) ≡ None → (length xs ≤ 17408 → (i : ℕ) → get_or ys i 0 ≡ get_or xs i 0) → bytes_at ys ≡ bytes_at xs
raw_bytes xs ys o h = fun_ext (h (few_bytes (bytes_at xs) (length xs) o))
