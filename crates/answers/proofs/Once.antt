-- That a scrub of bytes has one answer and leaves one list of bytes.
use Rattle.std.proofs.Common.{◌≡◌, ℕ, List, length, Some, None, Ok, Err, Result, sym, ap, ◌∙◌, subst}
use Rattle.std.proofs.lemmas.List.FromFn.{length-map-range_with_len}
use Rattle.fields.specs.Rings.{Inverses, Points}
use Rattle.fields.specs.Kinds.{ops_of, generator_of, inverse_of, point_of}
use Rattle.fields.specs.Seven.{laws}
use Rattle.plans.specs.declared.fault.Refusal.{Refusal}
use Rattle.rules.specs.Reach.{risen, Found, Unfound}
use Rattle.rules.specs.Refusals.{page_refusal}
use Rattle.rules.specs.declared.fault.PageFault.{PageFault}
use Rattle.rules.proofs.Reaching.{found_is, never_unfound, one_fault}
use Rattle.images.specs.Format.{cell_count, image_of}
use Rattle.images.specs.Opening.{bytes_at, reading_at}
use Rattle.images.specs.Refusals.{image_refusal}
use Rattle.images.specs.declared.fault.ImageFault.{ImageFault}
use Rattle.answers.specs.Answers.{no_image, held, page_in, state_in, with_cells, Scrubbed, unopened, unread, unreached, scrubbed, Says, OneAnswer}
use Rattle.answers.proofs.Opening.{kind_in, in_range}

module _ (xs : List ℕ) where
  -- what cells decode to is one thing
  pub record Once : Type 0 where
    pub one_fault : (f g : PageFault) → Unfound (page_in xs) (state_in xs) f → Unfound (page_in xs) (state_in xs) g → f ≡ g
    pub one_page : (ys zs : List ℕ) → Found (page_in xs) (state_in xs) ys → Found (page_in xs) (state_in xs) zs → ys ≡ zs
    pub never : (f : PageFault) (ys : List ℕ) → Unfound (page_in xs) (state_in xs) f → Found (page_in xs) (state_in xs) ys → ⊥

  abbrev OneOutcome : Type 0
  OneOutcome = (v w : Result ℕ Refusal) (ys zs : List ℕ) → Scrubbed xs v ys → Scrubbed xs w zs → (v ≡ w) × (ys ≡ zs)

  -- an outcome is said by one answer
  one_said : (v w : ℕ) (o : Result ℕ Refusal) → Says v o → Says w o → v ≡ w
  one_said v w (Ok k) a b = a.0 ∙ sym b.0
  one_said v w (Err r) a b = a.0 ∙ sym b.0

  answered_once : OneOutcome → OneAnswer xs
  answered_once one v w ys zs a b =
      let z = one a.0 b.0 ys zs a.2 b.2 in (one_said v w b.0 (subst (Says v) z.0 a.1) b.1, z.1)

  one_refusal : (f : ImageFault) → no_image xs ≡ Some f → OneOutcome
  one_refusal f o v w ys zs (unopened g a b c) (unopened h d e i) = let z : g ≡ h = cc in (b ∙ ap (λ k. Err (image_refusal k)) z ∙ sym e, c ∙ sym i)
  one_refusal f o v w ys zs (unopened g a b c) (unread h d _ _ _) = absurd cc
  one_refusal f o v w ys zs (unopened g a b c) (unreached h d _ _ _ _) = absurd cc
  one_refusal f o v w ys zs (unopened g a b c) (scrubbed ls d _ _ _ _) = absurd cc
  one_refusal f o v w ys zs (unread g a _ _ _) s = absurd cc
  one_refusal f o v w ys zs (unreached g a _ _ _ _) s = absurd cc
  one_refusal f o v w ys zs (scrubbed ls a _ _ _ _) s = absurd cc

  pub one_unopened : (f : ImageFault) → no_image xs ≡ Some f → OneAnswer xs
  one_unopened f o = answered_once (one_refusal f o)

  module _ (o : no_image xs ≡ None) (once : Once) where
    one_opened : OneOutcome
    one_opened v w ys zs (unopened g a _ _) s = absurd cc
    one_opened v w ys zs (unread g _ a b c) (unopened h d _ _) = absurd cc
    one_opened v w ys zs (unread g _ a b c) (unread h _ d e i) = let z : g ≡ h = cc in (b ∙ ap (λ k. Err (page_refusal k)) z ∙ sym e, c ∙ sym i)
    one_opened v w ys zs (unread g _ a b c) (unreached h _ d _ _ _) = absurd cc
    one_opened v w ys zs (unread g _ a b c) (scrubbed ls _ d _ _ _) = absurd cc
    one_opened v w ys zs (unreached g _ a u b c) (unopened h d _ _) = absurd cc
    one_opened v w ys zs (unreached g _ a u b c) (unread h _ d _ _) = absurd cc
    one_opened v w ys zs (unreached g _ a u b c) (unreached h _ d t e i) = (b ∙ ap (λ k. Err (page_refusal k)) (once.one_fault g h u t) ∙ sym e, c ∙ sym i)
    one_opened v w ys zs (unreached g _ a u b c) (scrubbed ls _ d t _ _) = absurd (once.never g ls u t)
    one_opened v w ys zs (scrubbed ls _ a u b c) (unopened h d _ _) = absurd cc
    one_opened v w ys zs (scrubbed ls _ a u b c) (unread h _ d _ _) = absurd cc
    one_opened v w ys zs (scrubbed ls _ a u b c) (unreached h _ d t _ _) = absurd (once.never h ls t u)
    one_opened v w ys zs (scrubbed ls _ a u b c) (scrubbed ms _ d t e i) =
        let z = once.one_page ls ms u t in
        (b ∙ ap (λ k. Ok (risen (page_in xs) (held xs).marking (held xs).cells k)) z ∙ sym e, c ∙ ap (λ k. image_of (with_cells xs k)) z ∙ sym i)

  -- by the rules of the kind's inverses and points
  pub one_of_kind : no_image xs ≡ None → (let o = ops_of (held xs).kind in Inverses o (inverse_of o) × Points o (point_of o (generator_of (held xs).kind))) → OneAnswer xs
  one_of_kind o (is, ps) =
      let at = bytes_at xs in let p = page_in xs in let s = state_in xs in let l = laws (at 5) (kind_in at (length xs) o) in
      let rg = in_range at (length xs) o in let inv = inverse_of (ops_of (at 5)) in
      answered_once (one_opened o (record {
        one_fault = one_fault p inv l is ps rg s (length-map-range_with_len (reading_at at) 0 (cell_count (held xs).numbers));
        one_page = λ ys zs u t. found_is p inv l is ps rg s zs ys t.reach u ∙ sym t.low;
        never = λ f ys u t. never_unfound p inv l is ps rg s ys t.reach f u;
      }))
