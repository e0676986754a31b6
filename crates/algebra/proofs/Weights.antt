-- For n distinct points and any n targets there are weights with those moments.
use Rattle.std.proofs.Common.{◌≡◌, ℕ, zero, suc, ◌+◌, ◌<◌, ◌≤◌, sym, ap, ◌∙◌, arith}
use native.Mathlib.Decide.{le_ind}
use Rattle.fields.specs.Rings.{RingOps, power}
use Rattle.algebra.specs.Rows.{moment}
use Rattle.algebra.proofs.Ring.{Solid, Divides}
use Rattle.algebra.proofs.Solve.{mul_zero, add_cancel, divide_mul}
use Rattle.algebra.proofs.Sum.{sum_in, power_in, sum_first, sum_same}
use Rattle.algebra.proofs.Moments.{Apart, apart_tail, apart_first, moment_shift, moment_rest}

-- a first value, and then the others
abbrev pub first : ℕ → (ℕ → ℕ) → ℕ → ℕ
first x f zero = x
first x f (suc k) = f k

-- weights with the n moments of s from b on
pub record Meets (o : RingOps) (n b : ℕ) (p s w : ℕ → ℕ) : Type 0 where
  pub inside : (k : ℕ) → w k < o.order
  pub meets : (j : ℕ) → b ≤ j → j < b + n → moment o n p w j ≡ s j

module _ {o : RingOps} (l : Solid o) {inv : ℕ → ℕ} (d : Divides o inv) where
  open o use {order as q, neg, add as ◌⊕◌, mul as ◌⊗◌}

  infixl 60 ◌⊕◌
  infixl 70 ◌⊗◌
  -- the weights for all points from those v for the others, at the targets s (j+1) - p 0 × s j
  module _ (n b : ℕ) (p s v : ℕ → ℕ) where
    rest : ℕ → ℕ
    rest k = v k ⊗ inv (p (suc k) ⊕ neg (p 0))

    head : ℕ
    head = (s b ⊕ neg (moment o n (λ k. p (suc k)) rest b)) ⊗ inv (power o (p 0) b)

    module _ (a : Apart q (suc n) p) (alive : 0 < power o (p 0) b) (s-in : (j : ℕ) → s j < q)
        (c : Meets o n b (λ k. p (suc k)) (λ j. s (suc j) ⊕ neg (p 0) ⊗ s j) v) where
      abbrev whole : ℕ → ℕ
      whole j = moment o (suc n) p (first head rest) j

      whole_first : whole b ≡ s b
      unfolding head
      whole_first = sum_first l n (λ k. first head rest k ⊗ power o (p k) b)
          ∙ ap (λ t. t ⊕ r) (divide_mul l d (s b ⊕ neg r) (power o (p 0) b) (power_in l (p 0) b) alive (l.add_in _ _))
          ∙ l.add_assoc (s b) (neg r) r ∙ ap (λ t. s b ⊕ t) (l.add_comm (neg r) r ∙ l.add_neg r) ∙ l.add_zero (s b) (s-in b)
        where
          r : ℕ
          r = moment o n (λ k. p (suc k)) rest b

      -- times (point - first point), the weights are those of the others
      whole_shift : (j : ℕ) → b ≤ j → j < b + n → whole (suc j) ⊕ neg (p 0) ⊗ whole j ≡ s (suc j) ⊕ neg (p 0) ⊗ s j
      unfolding rest
      whole_shift j h g = sym (moment_shift l (suc n) p (first head rest) (neg (p 0)) j)
          ∙ moment_rest l n p (λ k. first head rest k ⊗ (p k ⊕ neg (p 0))) j (ap (λ u. head ⊗ u) (l.add_neg (p 0)) ∙ mul_zero l head)
          ∙ sum_same l n (λ k. rest k ⊗ (p (suc k) ⊕ neg (p 0)) ⊗ power o (p (suc k)) j) (λ k. v k ⊗ power o (p (suc k)) j)
          (λ k i. ap (λ t. t ⊗ power o (p (suc k)) j) (divide_mul l d (v k) (p (suc k) ⊕ neg (p 0)) (l.add_in _ _) (apart_first l d n p a k i) (c.inside k)))
          ∙ c.meets j h g

      whole_all : (j : ℕ) → b ≤ j → j < b + suc n → whole j ≡ s j
      whole_all = le_ind (λ j. j < b + suc n → whole j ≡ s j) (λ _. whole_first) (λ j h ih g.
          add_cancel l (neg (p 0) ⊗ s j) (whole (suc j)) (s (suc j)) (sum_in l (suc n) _) (s-in (suc j))
          (l.add_comm _ _ ∙ ap (λ t. whole (suc j) ⊕ neg (p 0) ⊗ t) (sym (ih (omega arith))) ∙ whole_shift j h (omega arith) ∙ l.add_comm _ _))

      whole_in : (k : ℕ) → first head rest k < q
      unfolding head rest
      whole_in zero = l.mul_in _ _
      whole_in (suc k) = l.mul_in _ _

  -- ANY MOMENTS CAN BE MET
  pub weights : (n b : ℕ) (p s : ℕ → ℕ) → Apart q n p → ((k : ℕ) → k < n → 0 < power o (p k) b) → ((j : ℕ) → s j < q) → (w : ℕ → ℕ) × Meets o n b p s w
  weights zero b p s a z i = ((λ k. 0), record { inside = λ k. omega (arith, l.above); meets = λ j h g. absurd (omega arith) })
  weights (suc n) b p s a z i =
      let (v, c) = weights n b (λ k. p (suc k)) (λ j. s (suc j) ⊕ neg (p 0) ⊗ s j) (apart_tail q n p a) (λ k h. z (suc k) (omega arith)) (λ j. l.add_in _ _) in
      (first (head n b p s v) (rest n b p s v), record { inside = whole_in n b p s v a (z 0 (omega arith)) i c; meets = whole_all n b p s v a (z 0 (omega arith)) i c })
