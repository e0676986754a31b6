-- What a scrub of the page that bytes show makes of them.
use Rattle.std.proofs.Common.{◌≡◌, ℕ, List, length, Some, None, Ok, Err, Option, Result, refl, ap, ◌∙◌, subst, ap₂}
use Rattle.std.proofs.lemmas.List.FromFn.{length-map-range_with_len}
use Rattle.basics.proofs.Checking.{first_passes}
use Rattle.plans.specs.declared.numbers.Numbers.{Numbers}
use Rattle.plans.specs.declared.plan.Plan.{Plan}
use Rattle.plans.specs.declared.fault.Refusal.{Refusal}
use Rattle.rules.specs.Pages.{Setup, State}
use Rattle.rules.specs.Calls.{Event, refused, counted, event, scrub, brought, handed, fault, unfound, found, Follows}
use Rattle.rules.specs.Views.{marking, state, of_kind, readings_fault, Scrubs}
use Rattle.rules.specs.Refusals.{page_refusal}
use Rattle.rules.specs.declared.fault.PageFault.{PageFault}
use Rattle.images.specs.Format.{cell_count, image_of}
use Rattle.images.specs.Opening.{bytes_at, reading_at}
use Rattle.images.specs.Opened.{cells_fault}
use Rattle.images.specs.Saving.{save_fault, stored}
use Rattle.answers.specs.Answers.{no_image, held, page_in, state_in, with_cells, Scrubbed, unread, unreached, scrubbed}
use Rattle.answers.proofs.Opening.{gives_cells, takes_cells, saves}

-- a page of which the bytes show the kind, the numbers and the marking
module _ (xs : List ℕ) (kind : ℕ) (plan : Plan) (k : kind ≡ (held xs).kind) (n : plan.numbers ≡ (held xs).numbers) (m : marking plan ≡ (held xs).marking) where
  same_page : of_kind kind plan.numbers ≡ page_in xs
  same_page = ap₂ of_kind k n

  -- its scrub, with the cells that they hold, is that of the page and the cells in the bytes
  pub scrubs_held : (cells zs : List ℕ) (x : Result (ℕ × ℕ) PageFault) → cells ≡ (held xs).cells
      → Scrubs (of_kind kind plan.numbers) (state plan cells) x zs → Scrubs (page_in xs) (state_in xs) x zs
  scrubs_held cells zs x e step =
      subst (λ (p : Setup). Scrubs p (state_in xs) x zs) same_page
      (subst (λ (s : State). Scrubs (of_kind kind plan.numbers) s x zs) (ap₂ (λ (ms cs : List ℕ). record { marking = ms; cells = cs }) m e) step)

  -- is not refused when the cells are taken
  pub gives_held : (count : ℕ) → no_image xs ≡ None → count ≡ cell_count plan.numbers → cells_fault (of_kind kind plan.numbers) count ≡ None
  gives_held count o e = ap (λ (p : Setup). cells_fault p count) same_page ∙ gives_cells (bytes_at xs) (length xs) o count (e ∙ ap cell_count n)

  -- and not when it is saved
  pub saves_held : (count : ℕ) → no_image xs ≡ None → count ≡ cell_count plan.numbers → save_fault (of_kind kind plan.numbers) count (length xs) ≡ None
  saves_held count o e = ap (λ (p : Setup). save_fault p count (length xs)) same_page ∙ saves (bytes_at xs) (length xs) o count (e ∙ ap cell_count n)

  -- what is saved with other cells
  pub stored_held : (zs : List ℕ) → stored kind plan zs ≡ with_cells xs zs
  stored_held zs =
      ap₂ (λ (a : ℕ) (b : Numbers). record { kind = a; numbers = b; marking = marking plan; cells = zs }) k n
      ∙ ap (λ (ms : List ℕ). record { kind = (held xs).kind; numbers = (held xs).numbers; marking = ms; cells = zs }) m

module _ (xs : List ℕ) (o : no_image xs ≡ None) where
  abbrev p : Setup
  p = page_in xs

  abbrev s : State
  s = state_in xs

  -- a step is judged by the readings, since the page and the number of its cells are in order
  judged : (e : Event) → Follows p e (fault p s scrub) → Follows p e (readings_fault p s)
  judged e step = subst (Follows p e) (first_passes (handed p s) _ (takes_cells (bytes_at xs) (length xs) o s (length-map-range_with_len (reading_at (bytes_at xs)) 0 (cell_count (held xs).numbers)))) step

  -- a scrub that is refused
  module _ (f : PageFault) (zs ws : List ℕ) (same : ws ≡ xs) where
    abbrev refusal : Event
    refusal = event s scrub (refused (page_refusal f)) (brought scrub) (record { marking = s.marking; cells = zs })

    told_so : (g : PageFault) → refused (page_refusal f) ≡ refused (page_refusal g) → ◌≡◌ {A = Result ℕ Refusal} (Err (page_refusal f)) (Err (page_refusal g))
    told_so g w = cc

    refuses : (r : Option PageFault) → readings_fault p s ≡ r → Follows p refusal r → Scrubbed xs (Err (page_refusal f)) ws
    refuses (Some g) is h = unread g o is (told_so g h.why) same
    refuses None is (unfound g u h) = unreached g o is u (told_so g h.why) same
    refuses None is (found ys u h) = let z = h.answers in absurd cc

    pub scrub_refuses : Scrubs p s (Err f) zs → Scrubbed xs (Err (page_refusal f)) ws
    scrub_refuses step = refuses (readings_fault p s) refl (judged refusal step)

  -- a scrub that is not, and a save of what it leaves
  module _ (d k : ℕ) (zs ws : List ℕ) (saved : ws ≡ image_of (with_cells xs zs)) where
    abbrev counting : Event
    counting = event s scrub (counted d k) (brought scrub) (record { marking = s.marking; cells = zs })

    leaves : (r : Option PageFault) → readings_fault p s ≡ r → Follows p counting r → Scrubbed xs (Ok k) ws
    leaves (Some g) is h = let z = h.why in absurd cc
    leaves None is (unfound g u h) = let z = h.why in absurd cc
    leaves None is (found ys u h) =
        let z = h.answers in let y : zs ≡ ys = ap (λ (t : State). t.cells) h.after_is in
        scrubbed ys o is u (cc) (saved ∙ ap (λ cs. image_of (with_cells xs cs)) y)

    pub scrub_leaves : Scrubs p s (Ok (d, k)) zs → Scrubbed xs (Ok k) ws
    scrub_leaves step = leaves (readings_fault p s) refl (judged counting step)
