-- Values at the inverse of a point, and turned values at the point: each is 0 where the other is.
use Rattle.std.proofs.Common.{◌≡◌, ℕ, zero, suc, ◌+◌, ◌-◌, ◌<◌, Bool, true, sym, ap, ◌∙◌, ap₂, arith}
use Rattle.fields.specs.Rings.{RingOps, power}
use Rattle.algebra.specs.Polynomials.{product, turned, value}
use Rattle.algebra.specs.Rows.{count}
use Rattle.algebra.proofs.Ring.{Solid, Divides}
use Rattle.algebra.proofs.Solve.{ring, mul_zero, zero_from_mul}
use Rattle.algebra.proofs.Sum.{sum_in, power_in, power_add, sum_same, sum_scale, power_nonzero}
use Rattle.algebra.proofs.Polys.{product_root}

module _ {o : RingOps} (l : Solid o) where
  open o use {order as q, neg, add as ◌⊕◌, mul as ◌⊗◌}

  infixl 60 ◌⊕◌
  infixl 70 ◌⊗◌
  power_inverse : (a x j : ℕ) → a ⊗ x ≡ 1 → power o a j ⊗ power o x j ≡ 1
  unfolding power
  power_inverse a x zero e = l.mul_one 1 l.above
  power_inverse a x (suc j) e = paired a (power o a j) x (power o x j) ∙ ap₂ ◌⊗◌ e (power_inverse a x j e) ∙ l.mul_one 1 l.above
    where
      paired : (s t u v : ℕ) → s ⊗ t ⊗ (u ⊗ v) ≡ s ⊗ u ⊗ (t ⊗ v)
      paired s t u v = simp (ring, l)

  pub turned_value : (n a x : ℕ) (c : ℕ → ℕ) → a ⊗ x ≡ 1 → turned o n c a ≡ power o a n ⊗ value o (suc n) c x
  turned_value n a x c e =
      sum_same l (suc n) (λ j. c j ⊗ power o a (n - j)) (λ j. power o a n ⊗ (c j ⊗ power o x j))
      (λ j h. sym (ap (λ t. t ⊗ (c j ⊗ power o x j)) (split j h) ∙ grouped (power o a (n - j)) (power o a j) (c j) (power o x j)
      ∙ ap (λ t. c j ⊗ power o a (n - j) ⊗ t) (power_inverse a x j e) ∙ l.mul_one _ (l.mul_in _ _)))
      ∙ sum_scale l (suc n) (power o a n) (λ j. c j ⊗ power o x j)
    where
      split : (j : ℕ) → j < suc n → power o a n ≡ power o a (n - j) ⊗ power o a j
      split j h = let i : n ≡ (n - j) + j = omega arith in ap (power o a) i ∙ power_add l a (n - j) j

      grouped : (s t u v : ℕ) → s ⊗ t ⊗ (u ⊗ v) ≡ u ⊗ s ⊗ (t ⊗ v)
      grouped s t u v = simp (ring, l)

  module _ {inv : ℕ → ℕ} (d : Divides o inv) where
    pub turned_root : (n a : ℕ) (c : ℕ → ℕ) → a < q → 0 < a → value o (suc n) c (inv a) ≡ 0 → turned o n c a ≡ 0
    turned_root n a c h g e = turned_value n a (inv a) c (d.mul_inv a h g) ∙ ap (λ t. power o a n ⊗ t) e ∙ mul_zero l _

    pub value_root : (n a : ℕ) (c : ℕ → ℕ) → a < q → 0 < a → turned o n c a ≡ 0 → value o (suc n) c (inv a) ≡ 0
    value_root n a c h g e = zero_from_mul l d (power o a n) (value o (suc n) c (inv a)) (power_in l a n) (power_nonzero l d a n h g) (sum_in l (suc n) _)
        (sym (turned_value n a (inv a) c (d.mul_inv a h g)) ∙ e)

    -- the product is 0 at the inverse of each marked point
    pub product_value : (n : ℕ) (t : ℕ → Bool) (p : ℕ → ℕ) (k : ℕ) → k < n → p k < q → 0 < p k → t k ≡ true
        → value o (suc (count n t)) (product o n t p) (inv (p k)) ≡ 0
    product_value n t p k h i z e = value_root (count n t) (p k) (product o n t p) i z (product_root l n t p k h e)
