-- Recurrences: two that fit the same values, of lengths that add up to at most i, agree at i; and what a recurrence leaves of moments.
use Rattle.std.proofs.Common.{◌≡◌, ℕ, suc, ◌+◌, ◌-◌, ◌<◌, ◌≤◌, sym, ap, ◌∙◌, ap₂, arith}
use Rattle.fields.specs.Rings.{RingOps, sum, power}
use Rattle.algebra.specs.Rows.{moment}
use Rattle.algebra.specs.Polynomials.{turned}
use Rattle.algebra.specs.Recurrences.{gap, Fits}
use Rattle.algebra.proofs.Ring.{Solid}
use Rattle.algebra.proofs.Solve.{ring, mul_zero, one_mul}
use Rattle.algebra.proofs.Sum.{sum_in, sum_first, sum_same, sum_zero, sum_scale, sum_swap, power_add}

module _ {o : RingOps} (l : Solid o) where
  open o use {order as q, neg, add as ◌⊕◌, mul as ◌⊗◌}

  infixl 60 ◌⊕◌
  infixl 70 ◌⊗◌
  -- gaps of gaps, in either order
  gap_swap : (m n i : ℕ) (b c f : ℕ → ℕ)
      → sum o (suc m) (λ j. b j ⊗ gap o n c f (i - j)) ≡ sum o (suc n) (λ k. c k ⊗ gap o m b f (i - k))
  gap_swap m n i b c f =
      sum_same l (suc m) (λ j. b j ⊗ gap o n c f (i - j)) (λ j. sum o (suc n) (λ k. b j ⊗ (c k ⊗ f (i - j - k))))
      (λ j _. sym (sum_scale l (suc n) (b j) (λ k. c k ⊗ f (i - j - k))))
      ∙ sum_swap l (suc m) (suc n) (λ j k. b j ⊗ (c k ⊗ f (i - j - k)))
      ∙ sum_same l (suc n) (λ k. sum o (suc m) (λ j. b j ⊗ (c k ⊗ f (i - j - k)))) (λ k. c k ⊗ gap o m b f (i - k)) (λ k _.
      sum_same l (suc m) (λ j. b j ⊗ (c k ⊗ f (i - j - k))) (λ j. c k ⊗ (b j ⊗ f (i - k - j)))
      (λ j _. ap (λ t. b j ⊗ (c k ⊗ f t)) (turn i j k) ∙ simp (ring, l))
      ∙ sum_scale l (suc m) (c k) (λ j. b j ⊗ f (i - k - j)))
    where
      turn : (i j k : ℕ) → i - j - k ≡ i - k - j
      turn i j k = omega arith

  -- NO SHORTER ONE: if c of length n fits below i, and b of length m ≤ i - n fits below i + 1, then c has no gap at i
  pub no_gap : (m n i : ℕ) (b c f : ℕ → ℕ) → m + n ≤ i → b 0 ≡ 1 → Fits o n c f i → Fits o m b f (suc i) → gap o n c f i ≡ 0
  no_gap m n i b c f h e fc fb =
      sym (sum_first l m (λ j. b j ⊗ gap o n c f (i - j)) ∙ ap₂ ◌⊕◌ first others ∙ l.add_zero (gap o n c f i) (sum_in l (suc n) (λ j. c j ⊗ f (i - j))))
      ∙ gap_swap m n i b c f
      ∙ sum_zero l (suc n) (λ k. c k ⊗ gap o m b f (i - k)) (λ k g. ap (λ t. c k ⊗ t) (fb (i - k) (omega arith) (omega arith)) ∙ mul_zero l (c k))
    where
      first : b 0 ⊗ gap o n c f (i - 0) ≡ gap o n c f i
      first = let z : i - 0 ≡ i = omega arith in ap₂ (λ u v. u ⊗ gap o n c f v) e z ∙ one_mul l (gap o n c f i) (sum_in l (suc n) (λ j. c j ⊗ f (i - j)))

      others : sum o m (λ j. b (suc j) ⊗ gap o n c f (i - suc j)) ≡ 0
      others = sum_zero l m (λ j. b (suc j) ⊗ gap o n c f (i - suc j))
          (λ j g. ap (λ t. b (suc j) ⊗ t) (fc (i - suc j) (omega arith) (omega arith)) ∙ mul_zero l (b (suc j)))

  -- what is left of moments by a recurrence: moments of the weights times its values
  pub gap_moment : (t n : ℕ) (p w c : ℕ → ℕ) (i : ℕ) → n ≤ i
      → gap o n c (moment o t p w) i ≡ moment o t p (λ k. w k ⊗ turned o n c (p k)) (i - n)
  gap_moment t n p w c i h =
      sum_same l (suc n) (λ j. c j ⊗ moment o t p w (i - j)) (λ j. sum o t (λ k. c j ⊗ (w k ⊗ power o (p k) (i - j))))
      (λ j _. sym (sum_scale l t (c j) (λ k. w k ⊗ power o (p k) (i - j))))
      ∙ sum_swap l (suc n) t (λ j k. c j ⊗ (w k ⊗ power o (p k) (i - j)))
      ∙ sum_same l t (λ k. sum o (suc n) (λ j. c j ⊗ (w k ⊗ power o (p k) (i - j)))) (λ k. w k ⊗ turned o n c (p k) ⊗ b k) (λ k _.
      sum_same l (suc n) (λ j. c j ⊗ (w k ⊗ power o (p k) (i - j))) (λ j. (w k ⊗ b k) ⊗ (c j ⊗ power o (p k) (n - j)))
      (λ j g. ap (λ e. c j ⊗ (w k ⊗ e)) (split (p k) j g) ∙ grouped (c j) (w k) (b k) (power o (p k) (n - j)))
      ∙ sum_scale l (suc n) (w k ⊗ b k) (λ j. c j ⊗ power o (p k) (n - j))
      ∙ swapped (w k) (b k) (turned o n c (p k)))
    where
      b : ℕ → ℕ
      b k = power o (p k) (i - n)

      split : (a j : ℕ) → j < suc n → power o a (i - j) ≡ power o a (i - n) ⊗ power o a (n - j)
      split a j g = let e : i - j ≡ (i - n) + (n - j) = omega arith in ap (power o a) e ∙ power_add l a (i - n) (n - j)

      grouped : (x y u v : ℕ) → x ⊗ (y ⊗ (u ⊗ v)) ≡ y ⊗ u ⊗ (x ⊗ v)
      grouped x y u v = simp (ring, l)

      swapped : (x y z : ℕ) → x ⊗ y ⊗ z ≡ x ⊗ z ⊗ y
      swapped x y z = simp (ring, l)
