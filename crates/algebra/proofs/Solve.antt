-- A ring solver: rules that sort both sides of an equation, for use with a law record: `simp (ring, l)`.
use Rattle.std.proofs.Common.{◌≡◌, ℕ, ◌<◌, sym, ap, ◌∙◌, ap₂, arith}
use Rattle.fields.specs.Rings.{RingOps}
use Rattle.algebra.proofs.Ring.{Solid, Divides}

-- a number that is not 0
pub positive : {a : ℕ} → (a ≡ 0 → ⊥) → 0 < a
positive f = omega arith

module _ {o : RingOps} (l : Solid o) where
  open o use {order as q, neg, add as ◌⊕◌, mul as ◌⊗◌}

  infixl 60 ◌⊕◌
  infixl 70 ◌⊗◌
  pub add_assoc : (a b c : ℕ) → a ⊕ b ⊕ c ≡ a ⊕ (b ⊕ c)
  add_assoc = l.add_assoc

  pub add_comm : (a b : ℕ) → a ⊕ b ≡ b ⊕ a
  add_comm = l.add_comm

  pub add_left : (a b c : ℕ) → a ⊕ (b ⊕ c) ≡ b ⊕ (a ⊕ c)
  add_left a b c = sym (l.add_assoc a b c) ∙ ap (λ t. t ⊕ c) (l.add_comm a b) ∙ l.add_assoc b a c

  pub mul_assoc : (a b c : ℕ) → a ⊗ b ⊗ c ≡ a ⊗ (b ⊗ c)
  mul_assoc = l.mul_assoc

  pub mul_comm : (a b : ℕ) → a ⊗ b ≡ b ⊗ a
  mul_comm = l.mul_comm

  pub mul_left : (a b c : ℕ) → a ⊗ (b ⊗ c) ≡ b ⊗ (a ⊗ c)
  mul_left a b c = sym (l.mul_assoc a b c) ∙ ap (λ t. t ⊗ c) (l.mul_comm a b) ∙ l.mul_assoc b a c

  pub distrib : (a b c : ℕ) → a ⊗ (b ⊕ c) ≡ a ⊗ b ⊕ a ⊗ c
  distrib = l.distrib

  pub distrib_right : (a b c : ℕ) → (b ⊕ c) ⊗ a ≡ b ⊗ a ⊕ c ⊗ a
  distrib_right a b c = simp (l.mul_comm, l.distrib)

  pub add_zero : (a : ℕ) → a < q → a ⊕ 0 ≡ a
  add_zero = l.add_zero

  pub zero_add : (a : ℕ) → a < q → 0 ⊕ a ≡ a
  zero_add a h = l.add_comm 0 a ∙ l.add_zero a h

  pub cancel : (a b : ℕ) → b < q → a ⊕ (neg a ⊕ b) ≡ b
  cancel a b h = sym (l.add_assoc a (neg a) b) ∙ ap (λ t. t ⊕ b) (l.add_neg a) ∙ zero_add b h

  pub cancel_left : (a b : ℕ) → b < q → neg a ⊕ (a ⊕ b) ≡ b
  cancel_left a b h = add_left (neg a) a b ∙ cancel a b h

  -- equal sums with one summand the same
  pub add_cancel : (a b c : ℕ) → b < q → c < q → a ⊕ b ≡ a ⊕ c → b ≡ c
  add_cancel a b c hb hc e = sym (cancel_left a b hb) ∙ ap (λ t. neg a ⊕ t) e ∙ cancel_left a c hc

  pub mul_zero : (a : ℕ) → a ⊗ 0 ≡ 0
  mul_zero a = add_cancel (a ⊗ 0) (a ⊗ 0) 0 (l.mul_in a 0) (omega (arith, l.above))
      (sym (l.distrib a 0 0) ∙ ap (λ t. a ⊗ t) (l.add_zero 0 (omega (arith, l.above))) ∙ sym (l.add_zero (a ⊗ 0) (l.mul_in a 0)))

  pub zero_mul : (a : ℕ) → 0 ⊗ a ≡ 0
  zero_mul a = l.mul_comm 0 a ∙ mul_zero a

  pub mul_one : (a : ℕ) → a < q → a ⊗ 1 ≡ a
  mul_one = l.mul_one

  pub one_mul : (a : ℕ) → a < q → 1 ⊗ a ≡ a
  one_mul a h = l.mul_comm 1 a ∙ l.mul_one a h

  abbrev pub add_in : (a b : ℕ) → a ⊕ b < q
  add_in = l.add_in

  abbrev pub mul_in : (a b : ℕ) → a ⊗ b < q
  mul_in = l.mul_in

  abbrev pub neg_in : (a : ℕ) → neg a < q
  neg_in = l.neg_in

  pub add_neg : (a : ℕ) → a ⊕ neg a ≡ 0
  add_neg = l.add_neg

  -- what makes a sum 0 is the negative
  pub neg_unique : (a b : ℕ) → b < q → a ⊕ b ≡ 0 → b ≡ neg a
  neg_unique a b h e = add_cancel a b (neg a) h (l.neg_in a) (e ∙ sym (l.add_neg a))

-- sums and products multiplied out and sorted; 0 and 1 go
pub ruleset ring = (distrib, distrib_right, mul_assoc, mul_comm, mul_left, add_assoc, add_comm, add_left, mul_zero, zero_mul, add_zero, zero_add, mul_one, one_mul, add_in, mul_in, neg_in)

module _ {o : RingOps} (l : Solid o) where
  open o use {order as q, neg, add as ◌⊕◌, mul as ◌⊗◌}

  infixl 60 ◌⊕◌
  infixl 70 ◌⊗◌
  pub neg_add : (a b : ℕ) → neg (a ⊕ b) ≡ neg a ⊕ neg b
  neg_add a b = sym (neg_unique l (a ⊕ b) (neg a ⊕ neg b) (l.add_in _ _)
      (pairs ∙ ap₂ ◌⊕◌ (l.add_neg a) (l.add_neg b) ∙ l.add_zero 0 (omega (arith, l.above))))
    where
      pairs : a ⊕ b ⊕ (neg a ⊕ neg b) ≡ (a ⊕ neg a) ⊕ (b ⊕ neg b)
      pairs = simp (ring, l)

  pub neg_mul : (a b : ℕ) → neg (a ⊗ b) ≡ neg a ⊗ b
  neg_mul a b = sym (neg_unique l (a ⊗ b) (neg a ⊗ b) (l.mul_in _ _)
      (sym (distrib_right l b a (neg a)) ∙ simp (l.add_neg, zero_mul, l)))

  pub neg_left : (a b : ℕ) → neg a ⊗ b ≡ neg (a ⊗ b)
  neg_left a b = sym (neg_mul a b)

  pub neg_right : (a b : ℕ) → a ⊗ neg b ≡ neg (a ⊗ b)
  neg_right a b = l.mul_comm a (neg b) ∙ sym (neg_mul b a) ∙ ap neg (l.mul_comm b a)

  pub neg_neg : (a : ℕ) → a < q → neg (neg a) ≡ a
  neg_neg a h = sym (neg_unique l (neg a) a h (l.add_comm (neg a) a ∙ l.add_neg a))

  pub neg_zero : neg 0 ≡ 0
  neg_zero = sym (zero_add l (neg 0) (l.neg_in 0)) ∙ l.add_neg 0

  -- a difference is 0 only between equals
  pub equal_from_difference : (a b : ℕ) → a < q → b < q → a ⊕ neg b ≡ 0 → a ≡ b
  equal_from_difference a b ha hb e = add_cancel l (neg b) a b ha hb (l.add_comm (neg b) a ∙ e ∙ sym (l.add_neg b) ∙ l.add_comm b (neg b))

-- differences too
pub ruleset signed = (neg_left, neg_right, neg_add, neg_neg, neg_zero, add_neg, cancel, cancel_left, ring)

module _ {o : RingOps} (l : Solid o) {inv : ℕ → ℕ} (d : Divides o inv) where
  open o use {order as q, neg, add as ◌⊕◌, mul as ◌⊗◌}

  infixl 60 ◌⊕◌
  infixl 70 ◌⊗◌
  -- a nonzero factor of 0 leaves 0
  pub zero_from_mul : (a b : ℕ) → a < q → 0 < a → b < q → a ⊗ b ≡ 0 → b ≡ 0
  zero_from_mul a b ha h hb e = sym (one_mul l b hb) ∙ ap (λ t. t ⊗ b) (sym (d.mul_inv a ha h)) ∙ regroup ∙ ap (λ t. inv a ⊗ t) e ∙ mul_zero l (inv a)
    where
      regroup : a ⊗ inv a ⊗ b ≡ inv a ⊗ (a ⊗ b)
      regroup = simp (ring, l)

  pub nonzero_mul : (a b : ℕ) → a < q → 0 < a → b < q → 0 < b → 0 < a ⊗ b
  nonzero_mul a b ha h hb g = positive (λ e. omega (arith, zero_from_mul a b ha h hb e))

  -- equal products with one nonzero factor the same
  pub mul_cancel : (a b c : ℕ) → a < q → 0 < a → b < q → c < q → a ⊗ b ≡ a ⊗ c → b ≡ c
  mul_cancel a b c ha h hb hc e = equal_from_difference l b c hb hc (zero_from_mul a (b ⊕ neg c) ha h (l.add_in _ _)
      (l.distrib a b (neg c) ∙ ap₂ ◌⊕◌ e (l.mul_comm a (neg c) ∙ sym (neg_mul l c a) ∙ ap neg (l.mul_comm c a)) ∙ l.add_neg (a ⊗ c)))

  -- dividing by a nonzero number
  pub divide_mul : (a b : ℕ) → b < q → 0 < b → a < q → a ⊗ inv b ⊗ b ≡ a
  divide_mul a b hb h ha = l.mul_assoc a (inv b) b ∙ ap (λ t. a ⊗ t) (l.mul_comm (inv b) b ∙ d.mul_inv b hb h) ∙ l.mul_one a ha
