-- Lemmas on checks in their order.
use Rattle.std.proofs.Common.{◌≡◌, ℕ, zero, suc, ◌+◌, ◌-◌, ◌<◌, ◌≤◌, Bool, true, false, IfOk, Some, None, Ok, Err, Option, Result, sym, refl, ap, ◌∙◌, subst, ap₂, inl, inr, arith}
use Rattle.std.proofs.lemmas.Bool.{cases_lt}
use Rattle.basics.specs.Checks.{check, ◌or_else◌, lowest, verdict}

module _ {F : Type 0} where
  -- what a verdict says of the checks
  pub none_from_verdict : (o : Option F) → Ok tt ≡ verdict o → o ≡ None
  none_from_verdict None e = refl
  none_from_verdict (Some f) e = cc

  pub some_from_verdict : (o : Option F) (f : F) → Err f ≡ verdict o → o ≡ Some f
  some_from_verdict None f e = cc
  some_from_verdict (Some g) f e = cc

  -- checks that all pass
  pub both_none : (a b : Option F) → (a or_else b) ≡ None → (a ≡ None) × (b ≡ None)
  both_none None b e = (refl, e)
  both_none (Some f) b e = let z : ◌≡◌ {A = ℕ} 0 1 = cc in absurd (omega arith)

  -- a check that fails stops the others
  pub some_first : (a b : Option F) (f : F) → a ≡ Some f → (a or_else b) ≡ Some f
  some_first a b f e = ap (λ o. o or_else b) e

  pub check_none : (b : Bool) (f : F) → check b f ≡ None → b ≡ false
  check_none true f e = cc
  check_none false f e = refl

  pub check_false : (b : Bool) (f : F) → b ≡ false → check b f ≡ None
  check_false b f e = ap (λ t. check t f) e

  -- checks of every place
  pub lowest_none : (at : ℕ → Option F) (m i k : ℕ) → lowest i m at ≡ None → i ≤ k → k < i + m → at k ≡ None
  lowest_none at zero i k e l h = absurd (omega arith)
  lowest_none at (suc m) i k e l h =
      let p = both_none (at i) (lowest (i + 1) m at) e in
      elim (cases_lt i k) [
        | inl more ↦ lowest_none at m (i + 1) k p.1 (omega arith) (omega arith)
        | inr here ↦ let z : k ≡ i = omega arith in ap at z ∙ p.0
      ]

  pub none_lowest : (at : ℕ → Option F) (m i : ℕ) → ((k : ℕ) → i ≤ k → k < i + m → at k ≡ None) → lowest i m at ≡ None
  none_lowest at zero i h = refl
  none_lowest at (suc m) i h =
      ap (λ o. o or_else lowest (i + 1) m at) (h i (omega arith) (omega arith)) ∙ none_lowest at m (i + 1) (λ k a b. h k (omega arith) (omega arith))

  -- one place looked at: it stops, or the rest decides
  pub lowest_stop : (at : ℕ → Option F) (m i : ℕ) (f : F) → i < m → at i ≡ Some f → lowest i (m - i) at ≡ Some f
  lowest_stop at m i f h e = let z : m - i ≡ suc (m - (i + 1)) = omega arith in ap (λ k. lowest i k at) z ∙ ap (λ o. o or_else lowest (i + 1) (m - (i + 1)) at) e

  pub lowest_more : (at : ℕ → Option F) (m i : ℕ) → i < m → at i ≡ None → lowest i (m - i) at ≡ lowest (i + 1) (m - (i + 1)) at
  lowest_more at m i h e = let z : m - i ≡ suc (m - (i + 1)) = omega arith in ap (λ k. lowest i k at) z ∙ ap (λ o. o or_else lowest (i + 1) (m - (i + 1)) at) e

  pub lowest_all : (at : ℕ → Option F) (m i : ℕ) → m ≤ i → lowest i (m - i) at ≡ None
  lowest_all at m i h = let z : m - i ≡ 0 = omega arith in ap (λ k. lowest i k at) z

  -- a loop over m places that hands the first fault on, where the places from i on decide: it stops at i, goes on, or has come to the end
  module _ (at : ℕ → Option F) (m i : ℕ) (left : lowest 0 m at ≡ lowest i (m - i) at) where
    pub loop_stops : (f : F) (r : Result (Unit {0}) F) → i < m → Err f ≡ verdict (at i) → r ≡ Err f → r ≡ verdict (lowest 0 m at)
    loop_stops f r h w e = e ∙ ap verdict (sym (left ∙ lowest_stop at m i f h (some_from_verdict (at i) f w)))

    pub loop_goes_on : i < m → Ok tt ≡ verdict (at i) → lowest 0 m at ≡ lowest (i + 1) (m - (i + 1)) at
    loop_goes_on h w = left ∙ lowest_more at m i h (none_from_verdict (at i) w)

    pub loop_ends : m ≤ i → Ok tt ≡ verdict (lowest 0 m at)
    loop_ends h = ap verdict (sym (left ∙ lowest_all at m i h))

  -- checks that agree at every place
  pub lowest_same : (at on : ℕ → Option F) (m i : ℕ) → ((k : ℕ) → i ≤ k → k < i + m → at k ≡ on k) → lowest i m at ≡ lowest i m on
  lowest_same at on zero i h = refl
  lowest_same at on (suc m) i h = ap₂ (λ a b. a or_else b) (h i (omega arith) (omega arith)) (lowest_same at on m (i + 1) (λ k a b. h k (omega arith) (omega arith)))

  -- the first passes
  pub first_passes : (a b : Option F) → a ≡ None → (a or_else b) ≡ b
  first_passes a b e = ap (λ x. x or_else b) e

  -- the last of several checks decides where the others pass
  pub others_pass : (a b c : Option F) → a ≡ None → b ≡ None → (a or_else b or_else c) ≡ c
  others_pass a b c e f = ap₂ (λ x y. x or_else y or_else c) e f

  -- what holds where the checks pass is what a verdict makes
  pub made_verdict : {r : Result (Unit {0}) F} (o : Option F) (P : Type 0) → r ≡ verdict o → (o ≡ None → P) → IfOk r (λ _. P)
  made_verdict {r} o P e f = subst (λ v. IfOk v (λ _. P)) (sym e) (at o f)
    where
      at : (o : Option F) → (o ≡ None → P) → IfOk (verdict o) (λ _. P)
      at None f = f refl
      at (Some _) f = tt

  -- the lowest place that fails
  pub lowest_found : (at : ℕ → Option F) (m i : ℕ) (f : F) → lowest i m at ≡ Some f → (k : ℕ) × (i ≤ k) × (k < i + m) × (at k ≡ Some f) × ((j : ℕ) → i ≤ j → j < k → at j ≡ None)
  lowest_found at zero i f e = let z : ◌≡◌ {A = ℕ} 0 1 = cc in absurd (omega arith)
  lowest_found at (suc m) i f e = on (at i) refl (lowest_found at m (i + 1) f)
    where
      on : (o : Option F) → at i ≡ o → (lowest (i + 1) m at ≡ Some f → (k : ℕ) × (i + 1 ≤ k) × (k < i + 1 + m) × (at k ≡ Some f) × ((j : ℕ) → i + 1 ≤ j → j < k → at j ≡ None))
          → (k : ℕ) × (i ≤ k) × (k < i + suc m) × (at k ≡ Some f) × ((j : ℕ) → i ≤ j → j < k → at j ≡ None)
      on (Some g) h again = (i, omega arith, omega arith, h ∙ sym (some_first (at i) (lowest (i + 1) m at) g h) ∙ e, λ j a b. absurd (omega arith))
      on None h again =
          let (k, a, b, c, d) = again (sym (first_passes (at i) (lowest (i + 1) m at) h) ∙ e) in
          (k, omega arith, omega arith, c, λ j x y. elim (cases_lt i j) [ inl l ↦ d j (omega arith) y | inr l ↦ let z : j ≡ i = omega arith in ap at z ∙ h ])
