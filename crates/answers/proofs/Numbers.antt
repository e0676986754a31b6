-- Which refusals a scrub comes to.
use Rattle.std.proofs.Common.{◌≡◌, ℕ, ◌/◌, ◌%◌, ◌≤◌, Bool, true, false, List, Some, None, Ok, Err, Option, Result, subst, inl, inr, arith, lit≤}
use Rattle.basics.specs.Checks.{check, lowest, ◌or_else◌}
use Rattle.basics.proofs.Checking.{lowest_found}
use Rattle.plans.specs.declared.fault.Refusal.{Refusal}
use Rattle.rules.specs.Pages.{Setup, State, n, cell_count}
use Rattle.rules.specs.Reach.{far_fault, under_fault, RowFault, none_close, not_risen}
use Rattle.rules.specs.Calls.{reading_fault}
use Rattle.rules.specs.Views.{readings_fault}
use Rattle.rules.specs.Refusals.{page_refusal}
use Rattle.rules.specs.declared.fault.PageFault.{PageFault}
use Rattle.rules.specs.declared.fault.PageFault.TheVariants.{Reading, Far, Under}
use Rattle.images.specs.Refusals.{image_refusal}
use Rattle.images.specs.declared.fault.ImageFault.{ImageFault}
use Rattle.images.specs.declared.fault.ImageFault.TheVariants.{Length, Check, Word, Header, Marking, Blocks, Filler}
use Rattle.answers.specs.Answers.{refusal_in, page_in, state_in, Says, Comes, Scrubbed, unopened, unread, unreached, scrubbed}

-- a check, and the lowest of many, say one of their own
from_check : {F : Type 0} (b : Bool) (g f : F) → check b g ≡ Some f → g ≡ f
from_check true g f e = cc
from_check false g f e = absurd cc

from_lowest : {F : Type 0} (P : F → Type 0) (at : ℕ → Option F) (m : ℕ) (f : F) → ((k : ℕ) (g : F) → at k ≡ Some g → P g) → lowest 0 m at ≡ Some f → P f
from_lowest P at m f h e = let w = lowest_found at m 0 f e in h w.0 f w.3

from_both : {F : Type 0} (P : F → Type 0) (a b : Option F) (f : F) → (a ≡ Some f → P f) → (b ≡ Some f → P f) → (a or_else b) ≡ Some f → P f
from_both P (Some g) b f h k e = h e
from_both P None b f h k e = k e

-- the refusals of readings, and of opening
abbrev OfPage : PageFault → Type 0
OfPage f = (21 ≤ (page_refusal f).number) × ((page_refusal f).number ≤ 24)

module _ (p : Setup) where
  of_reading : (s : State) (f : PageFault) → readings_fault p s ≡ Some f → OfPage f
  of_reading s f = from_lowest OfPage (reading_fault p s) (cell_count p) f (λ i g e. subst OfPage (from_check _ (Reading (i / n p) (i % n p)) g e) (lit≤ tt, lit≤ tt))

  of_row : {ms ys : List ℕ} {k : ℕ} {f : PageFault} → RowFault p ms k ys f → OfPage f
  of_row (none_close none) = (lit≤ tt, lit≤ tt)
  of_row {ms} {ys} {k} (not_risen f cs c e) =
      from_both OfPage (lowest 0 (n p) (far_fault p ms k ys cs)) (lowest 0 (n p) (under_fault p ms k ys cs)) f
      (from_lowest OfPage (far_fault p ms k ys cs) (n p) f (λ i g e. subst OfPage (from_check _ (Far k i) g e) (lit≤ tt, lit≤ tt)))
      (from_lowest OfPage (under_fault p ms k ys cs) (n p) f (λ i g e. subst OfPage (from_check _ (Under k i) g e) (lit≤ tt, lit≤ tt))) e

of_image : (f : ImageFault) → (31 ≤ (image_refusal f).number) × ((image_refusal f).number ≤ 37)
of_image Length = (lit≤ tt, lit≤ tt)
of_image (Check b) = (lit≤ tt, lit≤ tt)
of_image (Word i) = (lit≤ tt, lit≤ tt)
of_image (Header f) = (lit≤ tt, lit≤ tt)
of_image (Marking f) = (lit≤ tt, lit≤ tt)
of_image (Blocks m) = (lit≤ tt, lit≤ tt)
of_image (Filler b j) = (lit≤ tt, lit≤ tt)

-- what is said of an outcome
none_comes : (w k : ℕ) (o : Result ℕ Refusal) → Says w o → o ≡ Ok k → Comes (w / 4294967296)
none_comes w k (Ok j) a e = inl (omega (arith, a.1))
none_comes w k (Err r) a e = absurd cc

refusal_comes : (w : ℕ) (r : Refusal) (o : Result ℕ Refusal) → Says w o → o ≡ Err r → Comes r.number → Comes (w / 4294967296)
refusal_comes w r (Ok j) a e h = absurd cc
refusal_comes w r (Err t) a e h = let z : r ≡ refusal_in w = cc in subst (λ (x : Refusal). Comes x.number) z h

pub comes : (xs zs : List ℕ) (w : ℕ) (o : Result ℕ Refusal) → Says w o → Scrubbed xs o zs → Comes (w / 4294967296)
comes xs zs w o a (unopened f _ e _) = refusal_comes w (image_refusal f) o a e (inr (inr (of_image f)))
comes xs zs w o a (unread f _ h e _) = refusal_comes w (page_refusal f) o a e (inr (inl (of_reading (page_in xs) (state_in xs) f h)))
comes xs zs w o a (unreached f _ _ u e _) = refusal_comes w (page_refusal f) o a e (inr (inl (of_row (page_in xs) u.fault)))
comes xs zs w o a (scrubbed ls _ _ _ e _) = none_comes w _ o a e
