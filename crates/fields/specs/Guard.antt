-- Laws on the numbers below q are laws of the guarded operations.
use Rattle.std.specs.Prelude.{◌≡◌, ℕ, ◌<◌, ◌≤◌, Bool, true, false, cond, T, nat_lt, refl}
use Rattle.std.proofs.Common.{sym, ap, arith, lt→ltb, ltb→lt}
use Rattle.fields.specs.Rings.{RingLaws, taken}
use Rattle.fields.specs.Kinds.{guarded}

pub record Laws (q : ℕ) (n : ℕ → ℕ) (s p : ℕ → ℕ → ℕ) : Type 0 where
  pub low : 3 ≤ q
  pub high : q ≤ 4096
  pub neg_in : (a : ℕ) → a < q → n a < q
  pub add_in : (a b : ℕ) → a < q → b < q → s a b < q
  pub mul_in : (a b : ℕ) → a < q → b < q → p a b < q
  pub add_assoc : (a b c : ℕ) → a < q → b < q → c < q → s (s a b) c ≡ s a (s b c)
  pub add_comm : (a b : ℕ) → a < q → b < q → s a b ≡ s b a
  pub add_zero : (a : ℕ) → a < q → s a 0 ≡ a
  pub add_neg : (a : ℕ) → a < q → s a (n a) ≡ 0
  pub mul_assoc : (a b c : ℕ) → a < q → b < q → c < q → p (p a b) c ≡ p a (p b c)
  pub mul_comm : (a b : ℕ) → a < q → b < q → p a b ≡ p b a
  pub mul_one : (a : ℕ) → a < q → p a 1 ≡ a
  pub distrib : (a b c : ℕ) → a < q → b < q → c < q → p a (s b c) ≡ s (p a b) (p a c)

pub taken_same : (q a : ℕ) → a < q → taken q a ≡ a
taken_same q a h = on (nat_lt a q) (lt→ltb a q h) where
  on : (b : Bool) → T b → cond b a 0 ≡ a
  on true t = refl
  on false t = absurd t

pub taken_in : (q a : ℕ) → 0 < q → taken q a < q
taken_in q a h = on (nat_lt a q) (ltb→lt a q) where
  on : (b : Bool) → (T b → a < q) → cond b a 0 < q
  on true f = f tt
  on false f = h

module _ (q : ℕ) (n : ℕ → ℕ) (s p : ℕ → ℕ → ℕ) (l : Laws q n s p) where
  t : (a : ℕ) → taken q a < q
  t a = let z = l.low in taken_in q a (omega arith)

  same : (a : ℕ) → taken q (taken q a) ≡ taken q a
  same a = taken_same q (taken q a) (t a)

  k : (a : ℕ) → a < q → taken q a ≡ a
  k = taken_same q

  -- 0 and 1 are below q
  zero_in : 0 < q
  zero_in = let z = l.low in omega arith

  one_in : 1 < q
  one_in = let z = l.low in omega arith

  pub guard : RingLaws (guarded q n s p)
  guard = record {
    low = l.low;
    high = l.high;
    neg_in = λ a. l.neg_in _ (t a);
    add_in = λ a b. l.add_in _ _ (t a) (t b);
    mul_in = λ a b. l.mul_in _ _ (t a) (t b);
    neg_taken = λ a. ap n (sym (same a));
    add_taken = λ a b. cc (same a, same b);
    mul_taken = λ a b. cc (same a, same b);
    add_assoc = λ a b c ha hb hc. cc (k a ha, k b hb, k c hc, k _ (l.add_in a b ha hb), k _ (l.add_in b c hb hc), l.add_assoc a b c ha hb hc);
    add_comm = λ a b ha hb. l.add_comm _ _ (t a) (t b);
    add_zero = λ a ha. cc (k a ha, k 0 zero_in, l.add_zero a ha);
    add_neg = λ a ha. cc (k a ha, k _ (l.neg_in a ha), l.add_neg a ha);
    mul_assoc = λ a b c ha hb hc. cc (k a ha, k b hb, k c hc, k _ (l.mul_in a b ha hb), k _ (l.mul_in b c hb hc), l.mul_assoc a b c ha hb hc);
    mul_comm = λ a b ha hb. l.mul_comm _ _ (t a) (t b);
    mul_one = λ a ha. cc (k a ha, k 1 one_in, l.mul_one a ha);
    distrib = λ a b c ha hb hc. cc (k a ha, k b hb, k c hc, k _ (l.add_in b c hb hc), k _ (l.mul_in a b ha hb), k _ (l.mul_in a c ha hc), l.distrib a b c ha hb hc);
  }
