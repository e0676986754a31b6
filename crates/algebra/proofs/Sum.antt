-- Sums over the numbers below n, and powers.
use Rattle.std.proofs.Common.{◌≡◌, ℕ, zero, suc, ◌+◌, ◌-◌, ◌<◌, ◌≤◌, sym, refl, ap, ◌∙◌, ap₂, suc-add, zero-add, arith}
use native.Mathlib.Decide.{le_ind}
use Rattle.fields.specs.Rings.{RingOps, sum, power}
use Rattle.algebra.proofs.Ring.{Solid, Divides}
use Rattle.algebra.proofs.Solve.{ring, mul_zero, zero_mul, zero_add as zero_plus, one_mul, nonzero_mul, neg_add, neg_zero}

module _ {o : RingOps} (l : Solid o) where
  open o use {order as q, neg, add as ◌⊕◌, mul as ◌⊗◌}

  infixl 60 ◌⊕◌
  infixl 70 ◌⊗◌
  pub sum_in : (n : ℕ) (f : ℕ → ℕ) → sum o n f < q
  unfolding sum
  sum_in zero f = omega (arith, l.above)
  sum_in (suc n) f = l.add_in _ _

  pub power_in : (a j : ℕ) → power o a j < q
  unfolding power
  power_in a zero = l.above
  power_in a (suc j) = l.mul_in _ _

  -- a sum by its last term, and by its first
  pub sum_last : (n : ℕ) (f : ℕ → ℕ) → sum o (suc n) f ≡ sum o n f ⊕ f n
  unfolding sum
  sum_last n f = refl

  pub sum_first : (n : ℕ) (f : ℕ → ℕ) → sum o (suc n) f ≡ f 0 ⊕ sum o n (λ k. f (suc k))
  unfolding sum
  sum_first zero f = l.add_comm 0 (f 0)
  sum_first (suc n) f = ap (λ t. t ⊕ f (suc n)) (sum_first n f) ∙ l.add_assoc (f 0) (sum o n (λ k. f (suc k))) (f (suc n))

  pub sum_same : (n : ℕ) (f g : ℕ → ℕ) → ((k : ℕ) → k < n → f k ≡ g k) → sum o n f ≡ sum o n g
  unfolding sum
  sum_same zero f g e = refl
  sum_same (suc n) f g e = ap₂ ◌⊕◌ (sum_same n f g (λ k h. e k (omega arith))) (e n (omega arith))

  pub sum_zero : (n : ℕ) (f : ℕ → ℕ) → ((k : ℕ) → k < n → f k ≡ 0) → sum o n f ≡ 0
  unfolding sum
  sum_zero zero f e = refl
  sum_zero (suc n) f e = ap₂ ◌⊕◌ (sum_zero n f (λ k h. e k (omega arith))) (e n (omega arith)) ∙ l.add_zero 0 (omega (arith, l.above))

  pub sum_add : (n : ℕ) (f g : ℕ → ℕ) → sum o n (λ k. f k ⊕ g k) ≡ sum o n f ⊕ sum o n g
  unfolding sum
  sum_add zero f g = sym (l.add_zero 0 (omega (arith, l.above)))
  sum_add (suc n) f g = ap (λ t. t ⊕ (f n ⊕ g n)) (sum_add n f g) ∙ simp (ring, l)

  pub sum_neg : (n : ℕ) (f : ℕ → ℕ) → sum o n (λ k. neg (f k)) ≡ neg (sum o n f)
  unfolding sum
  sum_neg zero f = sym (neg_zero l)
  sum_neg (suc n) f = ap (λ t. t ⊕ neg (f n)) (sum_neg n f) ∙ sym (neg_add l (sum o n f) (f n))

  pub sum_scale : (n a : ℕ) (f : ℕ → ℕ) → sum o n (λ k. a ⊗ f k) ≡ a ⊗ sum o n f
  unfolding sum
  sum_scale zero a f = sym (mul_zero l a)
  sum_scale (suc n) a f = ap (λ t. t ⊕ a ⊗ f n) (sum_scale n a f) ∙ sym (l.distrib a (sum o n f) (f n))

  pub sum_swap : (n m : ℕ) (f : ℕ → ℕ → ℕ) → sum o n (λ i. sum o m (λ j. f i j)) ≡ sum o m (λ j. sum o n (λ i. f i j))
  unfolding sum
  sum_swap zero m f = sym (sum_zero m (λ j. 0) (λ _ _. refl))
  sum_swap (suc n) m f = ap (λ t. t ⊕ sum o m (λ j. f n j)) (sum_swap n m f) ∙ sym (sum_add m (λ j. sum o n (λ i. f i j)) (λ j. f n j))

  -- the terms in the other order
  pub sum_reverse : (n : ℕ) (f : ℕ → ℕ) → sum o n f ≡ sum o n (λ k. f (n - 1 - k))
  unfolding sum
  sum_reverse zero f = refl
  sum_reverse (suc n) f = l.add_comm (sum o n f) (f n)
      ∙ ap₂ ◌⊕◌ (ap f start) (sum_reverse n f ∙ sum_same n (λ k. f (n - 1 - k)) (λ k. f (suc n - 1 - suc k)) (λ k h. ap f (down k h)))
      ∙ sym (sum_first n (λ k. f (suc n - 1 - k)))
    where
      start : n ≡ suc n - 1 - 0
      start = omega arith

      down : (k : ℕ) → k < n → n - 1 - k ≡ suc n - 1 - suc k
      down k h = omega arith

  -- a sum of which all terms but one are 0
  pub sum_only : (n k : ℕ) (f : ℕ → ℕ) → k < n → f k < q → ((i : ℕ) → i < n → (i ≡ k → ⊥) → f i ≡ 0) → sum o n f ≡ f k
  sum_only zero k f h i z = absurd (omega arith)
  sum_only (suc n) zero f h i z = sum_first n f
      ∙ ap (λ t. f 0 ⊕ t) (sum_zero n (λ j. f (suc j)) (λ j g. z (suc j) (omega arith) (λ e. omega arith))) ∙ l.add_zero (f 0) i
  sum_only (suc n) (suc k) f h i z = sum_first n f
      ∙ ap₂ ◌⊕◌ (z 0 (omega arith) (λ e. omega arith)) (sum_only n k (λ j. f (suc j)) (omega arith) i (λ j g e. z (suc j) (omega arith) (λ s. e (omega arith))))
      ∙ zero_plus l (f (suc k)) i

  -- a sum of which the last term, or all from the m-th on, are 0
  pub sum_less : (n : ℕ) (c g : ℕ → ℕ) → c n ≡ 0 → sum o (suc n) (λ j. c j ⊗ g j) ≡ sum o n (λ j. c j ⊗ g j)
  unfolding sum
  sum_less n c g e = ap (λ t. sum o n (λ j. c j ⊗ g j) ⊕ t) (ap (λ t. t ⊗ g n) e ∙ zero_mul l (g n)) ∙ l.add_zero _ (sum_in n _)

  pub sum_beyond : (m : ℕ) (c g : ℕ → ℕ) → ((j : ℕ) → m ≤ j → c j ≡ 0) → (n : ℕ) → m ≤ n → sum o n (λ j. c j ⊗ g j) ≡ sum o m (λ j. c j ⊗ g j)
  sum_beyond m c g e = le_ind (λ n. sum o n (λ j. c j ⊗ g j) ≡ sum o m (λ j. c j ⊗ g j)) refl (λ n h ih. sum_less n c g (e n h) ∙ ih)

  pub power_add : (a i j : ℕ) → power o a (i + j) ≡ power o a i ⊗ power o a j
  unfolding power
  power_add a zero j = rw zero-add (sym (one_mul l (power o a j) (power_in a j)))
  power_add a (suc i) j = rw suc-add (ap (λ t. a ⊗ t) (power_add a i j) ∙ sym (l.mul_assoc a (power o a i) (power o a j)))

  pub power_nonzero : {inv : ℕ → ℕ} → Divides o inv → (a j : ℕ) → a < q → 0 < a → 0 < power o a j
  unfolding power
  power_nonzero d a zero h g = omega arith
  power_nonzero d a (suc j) h g = nonzero_mul l d a (power o a j) h g (power_in a j) (power_nonzero d a j h g)
