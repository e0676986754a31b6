-- A polynomial of degree below n with n distinct roots is 0.
use Rattle.std.proofs.Common.{◌≡◌, ℕ, zero, suc, ◌<◌, sym, refl, ap, ◌∙◌, arith}
use Rattle.fields.specs.Rings.{RingOps, sum, power}
use Rattle.algebra.specs.Rows.{moment}
use Rattle.algebra.specs.Polynomials.{unit, value}
use Rattle.algebra.proofs.Ring.{Solid, Divides}
use Rattle.algebra.proofs.Solve.{ring, mul_zero}
use Rattle.algebra.proofs.Sum.{sum_only, sum_same, sum_zero, sum_scale, sum_swap}
use Rattle.algebra.proofs.Moments.{Apart}
use Rattle.algebra.proofs.Weights.{weights}

pub unit_same : (k : ℕ) → unit k k ≡ 1
unit_same zero = refl
unit_same (suc k) = unit_same k

pub unit_off : (k j : ℕ) → (k ≡ j → ⊥) → unit k j ≡ 0
unit_off zero zero h = absurd (h refl)
unit_off zero (suc j) h = refl
unit_off (suc k) zero h = refl
unit_off (suc k) (suc j) h = unit_off k j (λ e. h (ap suc e))

module _ {o : RingOps} (l : Solid o) where
  open o use {order as q, neg, add as ◌⊕◌, mul as ◌⊗◌}

  infixl 60 ◌⊕◌
  infixl 70 ◌⊗◌
  pub unit_in : (k j : ℕ) → unit k j < q
  unit_in zero zero = l.above
  unit_in zero (suc j) = omega (arith, l.above)
  unit_in (suc k) zero = omega (arith, l.above)
  unit_in (suc k) (suc j) = unit_in k j

  -- a sum with one term left
  pub sum_unit : (n k : ℕ) (c : ℕ → ℕ) → k < n → c k < q → sum o n (λ j. c j ⊗ unit k j) ≡ c k
  sum_unit n k c h i =
      sum_only l n k (λ j. c j ⊗ unit k j) h (l.mul_in _ _) (λ j g e. ap (λ t. c j ⊗ t) (unit_off k j (λ f. e (sym f))) ∙ mul_zero l (c j))
      ∙ ap (λ t. c k ⊗ t) (unit_same k) ∙ l.mul_one (c k) i

  -- coefficients against moments are weights against values
  pub values_moments : (n m : ℕ) (p w c : ℕ → ℕ)
      → sum o m (λ j. c j ⊗ moment o n p w j) ≡ sum o n (λ i. w i ⊗ value o m c (p i))
  values_moments n m p w c =
      sum_same l m (λ j. c j ⊗ moment o n p w j) (λ j. sum o n (λ i. c j ⊗ (w i ⊗ power o (p i) j)))
      (λ j _. sym (sum_scale l n (c j) (λ i. w i ⊗ power o (p i) j)))
      ∙ sum_swap l m n (λ j i. c j ⊗ (w i ⊗ power o (p i) j))
      ∙ sum_same l n (λ i. sum o m (λ j. c j ⊗ (w i ⊗ power o (p i) j))) (λ i. w i ⊗ value o m c (p i))
      (λ i _. sum_same l m (λ j. c j ⊗ (w i ⊗ power o (p i) j)) (λ j. w i ⊗ (c j ⊗ power o (p i) j)) (λ j _. simp (ring, l))
      ∙ sum_scale l m (w i) (λ j. c j ⊗ power o (p i) j))

  -- ROOTS: n coefficients and n distinct roots: every coefficient is 0
  pub roots : {inv : ℕ → ℕ} → Divides o inv → (n : ℕ) (p c : ℕ → ℕ) → Apart q n p → ((i : ℕ) → i < n → value o n c (p i) ≡ 0)
      → (k : ℕ) → k < n → c k < q → c k ≡ 0
  unfolding power
  roots d n p c a z k h i =
      let (w, m) = weights l d n 0 p (unit k) a (λ _ _. omega arith) (unit_in k) in
      sym (sum_unit n k c h i)
      ∙ sum_same l n (λ j. c j ⊗ unit k j) (λ j. c j ⊗ moment o n p w j) (λ j g. ap (λ t. c j ⊗ t) (sym (m.meets j (omega arith) (omega arith))))
      ∙ values_moments n n p w c
      ∙ sum_zero l n (λ i. w i ⊗ value o n c (p i)) (λ i g. ap (λ t. w i ⊗ t) (z i g) ∙ mul_zero l (w i))

  -- AT MOST n ROOTS: a polynomial of degree at most n with constant 1 has no n + 1 distinct roots
  pub few_roots : {inv : ℕ → ℕ} → Divides o inv → (n : ℕ) (p c : ℕ → ℕ) → c 0 ≡ 1 → Apart q (suc n) p
      → ((i : ℕ) → i < suc n → value o (suc n) c (p i) ≡ 0) → ⊥
  few_roots d n p c e a z = omega (arith, l.above, roots d (suc n) p c a z 0 (omega arith) (omega (arith, l.above)))
