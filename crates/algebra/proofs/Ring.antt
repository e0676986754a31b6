-- The laws of a ring at every number, with no side conditions.
use Rattle.std.proofs.Common.{◌≡◌, ℕ, ◌<◌, sym, ap, ◌∙◌, arith}
use Rattle.fields.specs.Rings.{RingOps, RingLaws, Inverses, taken}
use Rattle.fields.specs.Guard.{taken_in, taken_same}

-- a ring on the numbers below its order, with laws that hold at every number
pub record Solid (o : RingOps) : Type 0 where
  pub above : 1 < o.order
  pub neg_in : (a : ℕ) → o.neg a < o.order
  pub add_in : (a b : ℕ) → o.add a b < o.order
  pub mul_in : (a b : ℕ) → o.mul a b < o.order
  pub add_assoc : (a b c : ℕ) → o.add (o.add a b) c ≡ o.add a (o.add b c)
  pub add_comm : (a b : ℕ) → o.add a b ≡ o.add b a
  pub mul_assoc : (a b c : ℕ) → o.mul (o.mul a b) c ≡ o.mul a (o.mul b c)
  pub mul_comm : (a b : ℕ) → o.mul a b ≡ o.mul b a
  pub distrib : (a b c : ℕ) → o.mul a (o.add b c) ≡ o.add (o.mul a b) (o.mul a c)
  pub add_neg : (a : ℕ) → o.add a (o.neg a) ≡ 0
  pub add_zero : (a : ℕ) → a < o.order → o.add a 0 ≡ a
  pub mul_one : (a : ℕ) → a < o.order → o.mul a 1 ≡ a

module _ (o : RingOps) (l : RingLaws o) where
  -- an argument as the operations take it, not to be opened
  c : ℕ → ℕ
  c a = taken o.order a

  c_in : (a : ℕ) → c a < o.order
  unfolding c
  c_in a = taken_in o.order a (omega (arith, l.low))

  c_same : (a : ℕ) → a < o.order → c a ≡ a
  unfolding c
  c_same a h = taken_same o.order a h

  -- each operation takes its arguments so
  neg_c : (a : ℕ) → o.neg (c a) ≡ o.neg a
  unfolding c
  neg_c a = sym (l.neg_taken a)

  add_c : (a b : ℕ) → o.add (c a) (c b) ≡ o.add a b
  unfolding c
  add_c a b = sym (l.add_taken a b)

  mul_c : (a b : ℕ) → o.mul (c a) (c b) ≡ o.mul a b
  unfolding c
  mul_c a b = sym (l.mul_taken a b)

  add_left_c : (a b : ℕ) → b < o.order → o.add (c a) b ≡ o.add a b
  add_left_c a b h = ap (λ t. o.add (c a) t) (sym (c_same b h)) ∙ add_c a b

  add_right_c : (a b : ℕ) → a < o.order → o.add a (c b) ≡ o.add a b
  add_right_c a b h = ap (λ t. o.add t (c b)) (sym (c_same a h)) ∙ add_c a b

  mul_left_c : (a b : ℕ) → b < o.order → o.mul (c a) b ≡ o.mul a b
  mul_left_c a b h = ap (λ t. o.mul (c a) t) (sym (c_same b h)) ∙ mul_c a b

  mul_right_c : (a b : ℕ) → a < o.order → o.mul a (c b) ≡ o.mul a b
  mul_right_c a b h = ap (λ t. o.mul t (c b)) (sym (c_same a h)) ∙ mul_c a b

  -- each law is the given one at arguments so taken
  pub solid : Solid o
  solid = record {
    above = omega (arith, l.low);
    neg_in = l.neg_in;
    add_in = l.add_in;
    mul_in = l.mul_in;
    add_assoc = λ a b d. simp (add_c, add_left_c, add_right_c, l.add_in) at (l.add_assoc (c a) (c b) (c d) (c_in a) (c_in b) (c_in d));
    add_comm = λ a b. simp add_c at (l.add_comm (c a) (c b) (c_in a) (c_in b));
    mul_assoc = λ a b d. simp (mul_c, mul_left_c, mul_right_c, l.mul_in) at (l.mul_assoc (c a) (c b) (c d) (c_in a) (c_in b) (c_in d));
    mul_comm = λ a b. simp mul_c at (l.mul_comm (c a) (c b) (c_in a) (c_in b));
    distrib = λ a b d. simp (add_c, mul_c, mul_left_c, l.add_in) at (l.distrib (c a) (c b) (c d) (c_in a) (c_in b) (c_in d));
    add_neg = λ a. simp (neg_c, add_left_c, l.neg_in) at (l.add_neg (c a) (c_in a));
    add_zero = l.add_zero;
    mul_one = l.mul_one;
  }

-- each number other than 0 below the order has an inverse
pub record Divides (o : RingOps) (inv : ℕ → ℕ) : Type 0 where
  pub inv_in : (a : ℕ) → inv a < o.order
  pub mul_inv : (a : ℕ) → a < o.order → 0 < a → o.mul a (inv a) ≡ 1

pub divides : (o : RingOps) (inv : ℕ → ℕ) → Inverses o inv → Divides o inv
divides o inv i = record { inv_in = i.inv_in; mul_inv = i.mul_inv }
