-- Moments of weights at points: few points and enough moments 0 leave every weight 0, and any moments can be met.
use Rattle.std.proofs.Common.{◌≡◌, ℕ, zero, suc, ◌+◌, ◌-◌, ◌<◌, ◌≤◌, Bool, true, false, cond, sym, refl, ap, ◌∙◌, ap₂, arith}
use Rattle.fields.specs.Rings.{RingOps, sum, power}
use Rattle.algebra.specs.Rows.{count, moment}
use Rattle.algebra.proofs.Ring.{Solid, Divides}
use Rattle.algebra.proofs.Solve.{ring, distrib_right, zero_from_mul, mul_zero, zero_mul, zero_add, equal_from_difference, positive}
use Rattle.algebra.proofs.Sum.{sum_in, power_in, sum_first, sum_same, sum_zero, sum_add, sum_scale}

-- the points p k, k below n, are below q and distinct
pub record Apart (q n : ℕ) (p : ℕ → ℕ) : Type 0 where
  pub inside : (k : ℕ) → k < n → p k < q
  pub distinct : (i j : ℕ) → i < n → j < n → p i ≡ p j → i ≡ j

pub apart_tail : (q n : ℕ) (p : ℕ → ℕ) → Apart q (suc n) p → Apart q n (λ k. p (suc k))
apart_tail q n p a = record {
  inside = λ k h. a.inside (suc k) (omega arith);
  distinct = λ i j hi hj e. omega (arith, a.distinct (suc i) (suc j) (omega arith) (omega arith) e);
}

module _ {o : RingOps} (l : Solid o) where
  open o use {order as q, neg, add as ◌⊕◌, mul as ◌⊗◌}

  infixl 60 ◌⊕◌
  infixl 70 ◌⊗◌
  -- a moment is linear in the weights
  pub moment_add : (n : ℕ) (p v w : ℕ → ℕ) (j : ℕ)
      → moment o n p (λ k. v k ⊕ w k) j ≡ moment o n p v j ⊕ moment o n p w j
  moment_add n p v w j =
      sum_same l n (λ k. (v k ⊕ w k) ⊗ power o (p k) j) (λ k. v k ⊗ power o (p k) j ⊕ w k ⊗ power o (p k) j) (λ k h. distrib_right l (power o (p k) j) (v k) (w k))
      ∙ sum_add l n (λ k. v k ⊗ power o (p k) j) (λ k. w k ⊗ power o (p k) j)

  pub moment_scale : (n b : ℕ) (p w : ℕ → ℕ) (j : ℕ) → moment o n p (λ k. b ⊗ w k) j ≡ b ⊗ moment o n p w j
  moment_scale n b p w j =
      sum_same l n (λ k. b ⊗ w k ⊗ power o (p k) j) (λ k. b ⊗ (w k ⊗ power o (p k) j)) (λ k h. l.mul_assoc b (w k) (power o (p k) j))
      ∙ sum_scale l n b (λ k. w k ⊗ power o (p k) j)

  -- weights times (point + b): one moment up, plus b times the moment
  pub moment_shift : (n : ℕ) (p w : ℕ → ℕ) (b j : ℕ)
      → moment o n p (λ k. w k ⊗ (p k ⊕ b)) j ≡ moment o n p w (suc j) ⊕ b ⊗ moment o n p w j
  unfolding power
  moment_shift n p w b j =
      sum_same l n (λ k. w k ⊗ (p k ⊕ b) ⊗ power o (p k) j) (λ k. w k ⊗ (p k ⊗ power o (p k) j) ⊕ b ⊗ (w k ⊗ power o (p k) j)) (λ k h. simp (ring, l))
      ∙ sum_add l n (λ k. w k ⊗ (p k ⊗ power o (p k) j)) (λ k. b ⊗ (w k ⊗ power o (p k) j))
      ∙ ap (λ t. sum o n (λ k. w k ⊗ (p k ⊗ power o (p k) j)) ⊕ t) (sum_scale l n b (λ k. w k ⊗ power o (p k) j))

  -- a moment one up: each weight times its point
  pub moment_up : (n : ℕ) (p w : ℕ → ℕ) (j : ℕ) → moment o n p w (suc j) ≡ moment o n p (λ k. w k ⊗ p k) j
  unfolding power
  moment_up n p w j = sum_same l n (λ k. w k ⊗ (p k ⊗ power o (p k) j)) (λ k. w k ⊗ p k ⊗ power o (p k) j) (λ k _. sym (l.mul_assoc _ _ _))

  -- with weight 0 at the first point, only the others count
  pub moment_rest : (n : ℕ) (p w : ℕ → ℕ) (j : ℕ) → w 0 ≡ 0
      → moment o (suc n) p w j ≡ moment o n (λ k. p (suc k)) (λ k. w (suc k)) j
  moment_rest n p w j e = sum_first l n (λ k. w k ⊗ power o (p k) j) ∙ ap (λ t. t ⊗ power o (p 0) j ⊕ rest) e ∙ ap (λ t. t ⊕ rest) (zero_mul l (power o (p 0) j)) ∙ zero_add l rest (sum_in l n _)
    where
      rest : ℕ
      rest = moment o n (λ k. p (suc k)) (λ k. w (suc k)) j

-- m moments from s on are 0, and at most m weights, those that t marks, are not 0 (a point may be 0 only where s is)
pub record Silent (o : RingOps) (n m s : ℕ) (p w : ℕ → ℕ) (t : ℕ → Bool) : Type 0 where
  pub points : Apart o.order n p
  pub nonzero : (k : ℕ) → k < n → 0 < power o (p k) s
  pub weights : (k : ℕ) → k < n → w k < o.order
  pub few : count n t ≤ m
  pub off : (k : ℕ) → k < n → t k ≡ false → w k ≡ 0
  pub zero_at : (j : ℕ) → s ≤ j → j < s + m → moment o n p w j ≡ 0

module _ {o : RingOps} (l : Solid o) {inv : ℕ → ℕ} (d : Divides o inv) where
  open o use {order as q, neg, add as ◌⊕◌, mul as ◌⊗◌}

  infixl 60 ◌⊕◌
  infixl 70 ◌⊗◌
  -- what is shown by induction on the number of points
  abbrev Vanish : ℕ → Type 0
  Vanish n = (m s : ℕ) (p w : ℕ → ℕ) (t : ℕ → Bool) → Silent o n m s p w t → (k : ℕ) → k < n → w k ≡ 0

  -- from the first and the others to all
  both : (n : ℕ) (w : ℕ → ℕ) → w 0 ≡ 0 → ((k : ℕ) → k < n → w (suc k) ≡ 0) → (k : ℕ) → k < suc n → w k ≡ 0
  both n w e f zero h = e
  both n w e f (suc k) h = f k (omega arith)

  -- where the first weight is known to be 0
  vanish_rest : (n : ℕ) → Vanish n → (m s : ℕ) (p w : ℕ → ℕ) (t : ℕ → Bool) → Silent o (suc n) m s p w t → w 0 ≡ 0
      → count n (λ k. t (suc k)) ≤ m → (k : ℕ) → k < suc n → w k ≡ 0
  vanish_rest n ih m s p w t c e few = both n w e (ih m s (λ k. p (suc k)) (λ k. w (suc k)) (λ k. t (suc k)) (record {
    points = apart_tail q n p c.points;
    nonzero = λ k h. c.nonzero (suc k) (omega arith);
    weights = λ k h. c.weights (suc k) (omega arith);
    few = few;
    off = λ k h. c.off (suc k) (omega arith);
    zero_at = λ j a b. sym (moment_rest l n p w j e) ∙ c.zero_at j a b;
  }))

  -- the weights times (point - first point): one point less, one moment less
  less : (n m s : ℕ) (p w : ℕ → ℕ) (t : ℕ → Bool) → Silent o (suc n) m s p w t → count n (λ k. t (suc k)) < m
      → Silent o n (m - 1) s (λ k. p (suc k)) (λ k. w (suc k) ⊗ (p (suc k) ⊕ neg (p 0))) (λ k. t (suc k))
  less n m s p w t c few = record {
    points = apart_tail q n p c.points;
    nonzero = λ k h. c.nonzero (suc k) (omega arith);
    weights = λ k h. l.mul_in _ _;
    few = omega arith;
    off = λ k h e. ap (λ v. v ⊗ (p (suc k) ⊕ neg (p 0))) (c.off (suc k) (omega arith) e) ∙ zero_mul l _;
    zero_at = λ j a b. sym (moment_rest l n p v j (ap (λ u. w 0 ⊗ u) (l.add_neg (p 0)) ∙ mul_zero l (w 0)))
        ∙ moment_shift l (suc n) p w (neg (p 0)) j
        ∙ ap₂ (λ x y. x ⊕ neg (p 0) ⊗ y) (c.zero_at (suc j) (omega arith) (omega arith)) (c.zero_at j a (omega arith))
        ∙ zero_add l _ (l.mul_in _ _) ∙ mul_zero l (neg (p 0));
  }
    where
      v : ℕ → ℕ
      v k = w k ⊗ (p k ⊕ neg (p 0))

  -- points other than the first differ from it
  pub apart_first : (n : ℕ) (p : ℕ → ℕ) → Apart q (suc n) p → (k : ℕ) → k < n → 0 < p (suc k) ⊕ neg (p 0)
  apart_first n p a k h = positive (λ e. omega (
    arith,
    a.distinct (suc k) 0 (omega arith) (omega arith)
        (equal_from_difference l (p (suc k)) (p 0) (a.inside (suc k) (omega arith)) (a.inside 0 (omega arith)) e),
  ))

  -- where all other weights are 0, so is the first
  vanish_first : (n s : ℕ) (p w : ℕ → ℕ) → 0 < power o (p 0) s → w 0 < q → moment o (suc n) p w s ≡ 0
      → ((k : ℕ) → k < n → w (suc k) ≡ 0) → w 0 ≡ 0
  vanish_first n s p w a i z others = zero_from_mul l d (power o (p 0) s) (w 0) (power_in l (p 0) s) a i
      (l.mul_comm (power o (p 0) s) (w 0) ∙ sym (l.add_zero _ (l.mul_in _ _))
      ∙ ap (λ v. w 0 ⊗ power o (p 0) s ⊕ v) (sym (sum_zero l n (λ k. w (suc k) ⊗ power o (p (suc k)) s)
      (λ k h. ap (λ v. v ⊗ power o (p (suc k)) s) (others k h) ∙ zero_mul l _)))
      ∙ sym (sum_first l n (λ k. w k ⊗ power o (p k) s)) ∙ z)

  vanish_step : (n : ℕ) → Vanish n → Vanish (suc n)
  unfolding count
  vanish_step n ih m s p w t c = go (t 0) refl c.few
    where
      others : count n (λ k. t (suc k)) < m → (k : ℕ) → k < n → w (suc k) ≡ 0
      others few k h = zero_from_mul l d (p (suc k) ⊕ neg (p 0)) (w (suc k)) (l.add_in _ _) (apart_first n p c.points k h) (c.weights (suc k) (omega arith))
          (l.mul_comm _ _ ∙ ih (m - 1) s (λ k. p (suc k)) (λ k. w (suc k) ⊗ (p (suc k) ⊕ neg (p 0))) (λ k. t (suc k)) (less n m s p w t c few) k h)

      go : (b : Bool) → t 0 ≡ b → cond b 1 0 + count n (λ k. t (suc k)) ≤ m → (k : ℕ) → k < suc n → w k ≡ 0
      go true e few = both n w (vanish_first n s p w (c.nonzero 0 (omega arith)) (c.weights 0 (omega arith)) (c.zero_at s (omega arith) (omega arith)) (others (omega arith))) (others (omega arith))
      go false e few = vanish_rest n ih m s p w t c (c.off 0 (omega arith) e) (omega arith)

  -- FEW POINTS, ENOUGH MOMENTS: all weights are 0
  pub vanish : (n : ℕ) → Vanish n
  vanish zero = λ m s p w t c k h. absurd (omega arith)
  vanish (suc n) = vanish_step n (vanish n)
