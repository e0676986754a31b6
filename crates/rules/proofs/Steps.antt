-- How what a call did makes a step.
use Rattle.std.proofs.Common.{◌≡◌, ℕ, List, Some, None, Ok, Err, Result, sym, refl, ap, ◌∙◌, subst, ap₂, inl, inr}
use Rattle.basics.proofs.Checking.{first_passes, others_pass}
use Rattle.rules.specs.Pages.{Setup, State, Buffers, contents}
use Rattle.rules.specs.Reach.{drifted, risen, Found, Unfound}
use Rattle.rules.specs.Calls.{Call, read, scrub, counted, event, brought, handed, buffers_fault, fault, unfound, found, Follows, Step}
use Rattle.rules.specs.Views.{answered, counts, readings_fault, Recovered, Reads, Scrubs}
use Rattle.rules.specs.declared.fault.PageFault.{PageFault}

module _ (p : Setup) (s : State) where
  -- a call that hands the fault of its checks on
  pub step_refused : (c : Call) (x : Result (Unit {0}) PageFault) (f : PageFault) → fault p s c ≡ Some f → x ≡ Err f → Step p (event s c (answered x) (brought c) s)
  step_refused c x f w e = subst (Follows p (event s c (answered x) (brought c) s)) (sym w) (record { why = ap answered e; kept = refl; buffers_kept = refl })

  -- a read and a scrub that a check refuses
  pub read_stopped : (b : Buffers) (f : PageFault) (x : Result (ℕ × ℕ) PageFault) → fault p s (read b) ≡ Some f → x ≡ Err f → Reads p s b x b
  read_stopped b f x w e = subst (Follows p (event s (read b) (counts x) b s)) (sym w) (record { why = ap counts e; kept = refl; buffers_kept = refl })

  pub scrub_stopped : (f : PageFault) (x : Result (ℕ × ℕ) PageFault) → fault p s scrub ≡ Some f → x ≡ Err f → Scrubs p s x s.cells
  scrub_stopped f x w e = subst (Follows p (event s scrub (counts x) (brought scrub) s)) (sym w) (record { why = ap counts e; kept = refl; buffers_kept = refl })

  module _ (b : Buffers) (passed : fault p s (read b) ≡ None) where
    -- a read that decoding refuses
    read_unfound : (f : PageFault) (x : Result (ℕ × ℕ) PageFault) → Unfound p s f → x ≡ Err f → Reads p s b x b
    read_unfound f x u e =
        subst (Follows p (event s (read b) (counts x) b s)) (sym passed) (unfound f u (record { why = ap counts e; kept = refl; buffers_kept = refl }))

    -- a read that finds its page
    read_found : (u : Buffers) (xs : List ℕ) (d k : ℕ) → Found p s xs → d ≡ drifted p s.marking s.cells xs → k ≡ risen p s.marking s.cells xs
        → u ≡ contents p xs → Reads p s b (Ok (d, k)) u
    read_found u xs d k f ed ek eu =
        subst (Follows p (event s (read b) (counted d k) u s)) (sym passed) (found xs f (record { answers = ap₂ counted ed ek; buffers_are = eu; after_is = refl }))

  module _ (passed : fault p s scrub ≡ None) where
    -- a scrub that decoding refuses
    scrub_unfound : (f : PageFault) (x : Result (ℕ × ℕ) PageFault) → Unfound p s f → x ≡ Err f → Scrubs p s x s.cells
    scrub_unfound f x u e =
        subst (Follows p (event s scrub (counts x) (brought scrub) s)) (sym passed) (unfound f u (record { why = ap counts e; kept = refl; buffers_kept = refl }))

    -- a scrub that finds its page, and leaves the cells zs
    scrub_found : (zs xs : List ℕ) (d k : ℕ) → Found p s xs → d ≡ drifted p s.marking s.cells xs → k ≡ risen p s.marking s.cells xs → zs ≡ xs
        → Scrubs p s (Ok (d, k)) zs
    scrub_found zs xs d k f ed ek ez =
        subst (Follows p (event s scrub (counted d k) (brought scrub) (record { marking = s.marking; cells = zs }))) (sym passed)
        (found xs f (record { answers = ap₂ counted ed ek; buffers_are = refl; after_is = ap (λ cs. record { marking = s.marking; cells = cs }) ez }))

-- what was recovered of the same page and state
pub recovered_as : (p o : Setup) (s t : State) (xs : List ℕ) (x : Result (ℕ × ℕ) PageFault) → (o ≡ p) × (t ≡ s) → Recovered o t xs x → Recovered p s xs x
recovered_as p o s t xs x e w = subst (λ (v : Setup). Recovered v s xs x) e.0 (subst (λ (v : State). Recovered o v xs x) e.1 w)

-- what a read and a scrub answer where their own checks pass and the cells are recovered, or are not
module _ (p : Setup) (s : State) (xs : List ℕ) (fit : handed p s ≡ None) where
  module _ (b : Buffers) (fine : buffers_fault p b ≡ None) where
    read_fault : fault p s (read b) ≡ readings_fault p s
    read_fault = others_pass (handed p s) (buffers_fault p b) _ fit fine

    pub read_refused : (f : PageFault) (x : Result (ℕ × ℕ) PageFault) → Recovered p s xs (Err f) → x ≡ Err f → Reads p s b x b
    read_refused f x (inl w) e = read_stopped p s b f x (read_fault ∙ w) e
    read_refused f x (inr w) e = read_unfound p s b (read_fault ∙ w.0) f x w.1 e

    pub read_recovered : (u : Buffers) (c : ℕ × ℕ) → Recovered p s xs (Ok c) → u ≡ contents p xs → Reads p s b (Ok c) u
    read_recovered u c w e = read_found p s b (read_fault ∙ w.0) u xs c.0 c.1 w.1 w.2 w.3 e

  scrub_fault : fault p s scrub ≡ readings_fault p s
  scrub_fault = first_passes (handed p s) _ fit

  pub scrub_refused : (f : PageFault) (x : Result (ℕ × ℕ) PageFault) → Recovered p s xs (Err f) → x ≡ Err f → Scrubs p s x s.cells
  scrub_refused f x (inl w) e = scrub_stopped p s f x (scrub_fault ∙ w) e
  scrub_refused f x (inr w) e = scrub_unfound p s (scrub_fault ∙ w.0) f x w.1 e

  pub scrub_recovered : (zs : List ℕ) (c : ℕ × ℕ) → Recovered p s xs (Ok c) → zs ≡ xs → Scrubs p s (Ok c) zs
  scrub_recovered zs c w e = scrub_found p s (scrub_fault ∙ w.0) zs xs c.0 c.1 w.1 w.2 w.3 e
