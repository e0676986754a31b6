-- The tables of powers, logarithms and inverses are right: one test over each table, which the checker computes.
use Rattle.std.specs.Prelude.{◌≡◌, ℕ, zero, suc, ◌+◌, ◌<◌, ◌≤◌, Bool, true, false, cond, not, ◌&&◌, T, List, [], ◌∷◌, length, ◌==◌, nat_le, nat_lt, slice_index, slice_index_or}
use Rattle.std.proofs.Common.{sym, ap, ◌∙◌, subst, add-zero, zero-add, add-suc, suc-add, le_of_suc-le-suc, le_antisymm, not-suc-le-zero, add-one, one-add, arith, eqb→eq, ltb→lt, leb→le}
use Rattle.std.proofs.Math.Dec.{nleb→lt}
use Rattle.fields.specs.Rings.{RingOps, power}
use Rattle.fields.specs.Kinds.{Powers, Logarithms, InverseTable}

pub both : (a b : Bool) → T (a && b) → T a × T b
both true b t = (tt, t)
both false b t = absurd t

-- each number below n passes the test
abbrev pub below : ℕ → (ℕ → Bool) → Bool
below zero f = true
below (suc n) f = f n && below n f

pub below_at : (n : ℕ) (f : ℕ → Bool) → T (below n f) → (i : ℕ) → i < n → T (f i)
below_at zero f t i h = absurd (not-suc-le-zero h)
below_at (suc n) f t i h = on (below_at n f (both _ _ t).1 i) (nat_le n i) (leb→le n i) (nleb→lt n i) where
  on : (i < n → T (f i)) → (b : Bool) → (T b → n ≤ i) → (T (not b) → i < n) → T (f i)
  on again true e _ = subst (λ (k : ℕ). T (f k)) (le_antisymm (e tt) (le_of_suc-le-suc h)) (both _ _ t).0
  on again false _ e = again (e tt)

-- where x is 1, so is the test
one_is : (x : ℕ) (b : Bool) → T (cond (x == 1) b true) → x ≡ 1 → T b
one_is x b t e = subst (λ (n : ℕ). T (cond (n == 1) b true)) e t

-- each entry from place k on, the first of them x: it is the power, it is not 0, and 1 at place 0 alone; the next after the last is 1
abbrev pub steps : RingOps → ℕ → ℕ → ℕ → List ℕ → Bool
steps o g k x [] = x == 1
steps o g k x (e ∷ es) = (e == x && (nat_lt 0 e && cond (e == 1) (k == 0) true)) && steps o g (suc k) (o.mul g x) es

abbrev pub powers_test : RingOps → ℕ → List ℕ → Bool
powers_test o g es = length es + 1 == o.order && steps o g 0 1 es

-- each entry from that of element a on passes the test of its element
abbrev pub entries : (ℕ → ℕ → Bool) → ℕ → List ℕ → Bool
entries ok a [] = true
entries ok a (e ∷ es) = ok a e && entries ok (suc a) es

-- a table over all elements, whose entry at 0 is 0, and whose others pass the test of their element
abbrev pub table_test : RingOps → (ℕ → ℕ → Bool) → List ℕ → Bool
table_test o ok [] = false
table_test o ok (z ∷ es) = z == 0 && (length es + 1 == o.order && entries ok 1 es)

-- the power of g with the exponent e is a
abbrev pub is_log : RingOps → ℕ → ℕ → ℕ → Bool
is_log o g a e = nat_lt (e + 1) o.order && power o g e == a

-- a times e is 1
abbrev pub is_inverse : RingOps → ℕ → ℕ → Bool
is_inverse o a e = nat_lt e o.order && o.mul a e == 1

entry_at : (ok : ℕ → ℕ → Bool) (es : List ℕ) (a : ℕ) → T (entries ok a es) → (i : ℕ) → i < length es → T (ok (a + i) (slice_index es i))
entry_at ok [] a t i h = absurd (not-suc-le-zero h)
entry_at ok (e ∷ es) a t zero h = rw add-zero (both _ _ t).0
entry_at ok (e ∷ es) a t (suc i) h = rw (add-suc a i, ← suc-add a i) (entry_at ok es (suc a) (both _ _ t).1 i (le_of_suc-le-suc h))

-- what the test of a table says of it
pub record Tested (o : RingOps) (ok : ℕ → ℕ → Bool) (es : List ℕ) : Type 0 where
  pub long : length es ≡ o.order
  pub at_zero : slice_index_or es 0 0 ≡ 0
  pub at : (a : ℕ) → 0 < a → a < o.order → T (ok a (slice_index es a))

pub tested : (o : RingOps) (ok : ℕ → ℕ → Bool) (es : List ℕ) → T (table_test o ok es) → Tested o ok es
tested o ok [] t = absurd t
tested o ok (z ∷ es) t =
    let u = both _ _ t in let v = both _ _ u.1 in
    let e : length es + 1 ≡ o.order = eqb→eq _ _ v.0 in
    record { long = sym (add-one (length es)) ∙ e; at_zero = eqb→eq _ _ u.0; at = each e v.1 }
  where
    each : length es + 1 ≡ o.order → T (entries ok 1 es) → (a : ℕ) → 0 < a → a < o.order → T (ok a (slice_index (z ∷ es) a))
    each e s zero p h = absurd (not-suc-le-zero p)
    each e s (suc a) p h = let l : a < length es = omega arith in rw (← one-add a) (entry_at ok es 1 s a l)

pub inverses_of : (o : RingOps) (is : List ℕ) → T (table_test o (is_inverse o) is) → InverseTable o is
inverses_of o is t =
    let u = tested o (is_inverse o) is t in
    record {
      long = u.long;
      at_zero = u.at_zero;
      inv_in = λ a p h. ltb→lt _ _ (both _ _ (u.at a p h)).0;
      mul_entry = λ a p h. eqb→eq _ _ (both _ _ (u.at a p h)).1;
    }

module _ (o : RingOps) (g : ℕ) where
  rest : (e : ℕ) (es : List ℕ) (k : ℕ) → T (steps o g k (power o g k) (e ∷ es)) → T (steps o g (suc k) (power o g (suc k)) es)
  unfolding power
  rest e es k t = (both _ _ t).1

  step_at : (es : List ℕ) (k : ℕ) → T (steps o g k (power o g k) es) → (i : ℕ) → i < length es → (slice_index es i ≡ power o g (k + i)) × (0 < slice_index es i) × (slice_index es i ≡ 1 → k + i ≡ 0)
  step_at [] k t i h = absurd (not-suc-le-zero h)
  step_at (e ∷ es) k t zero h =
      let u = (both _ _ t).0 in let v = both _ _ u in let w = both _ _ v.1 in
      rw add-zero (eqb→eq _ _ v.0, ltb→lt _ _ w.0, λ p. eqb→eq _ _ (one_is _ _ w.1 p))
  step_at (e ∷ es) k t (suc i) h =
      rw (add-suc k i, ← suc-add k i) (step_at es (suc k) (rest e es k t) i (le_of_suc-le-suc h))

  end_at : (es : List ℕ) (k : ℕ) → T (steps o g k (power o g k) es) → power o g (k + length es) ≡ 1
  end_at [] k t = rw add-zero (eqb→eq _ _ t)
  end_at (e ∷ es) k t = rw (add-suc k (length es), ← suc-add k (length es)) (end_at es (suc k) (rest e es k t))

  powers_from : (es : List ℕ) → length es + 1 ≡ o.order → T (steps o g 0 (power o g 0) es) → Powers o g es
  powers_from es e s =
      let at : (i : ℕ) → i + 1 < o.order → (slice_index es i ≡ power o g (0 + i)) × (0 < slice_index es i) × (slice_index es i ≡ 1 → 0 + i ≡ 0) = λ i h. step_at es 0 s i (omega arith) in
      record {
        long = e;
        is = λ i h. (at i h).0 ∙ ap (power o g) (zero-add i);
        nonzero = λ i h. (at i h).1;
        one_once = λ i h p. sym (zero-add i) ∙ (at i h).2 p;
        round = ap (power o g) (sym (zero-add (length es))) ∙ end_at es 0 s;
      }

  pub powers_of : (es : List ℕ) → T (powers_test o g es) → Powers o g es
  unfolding power
  powers_of es t = powers_from es (eqb→eq _ _ (both _ _ t).0) (both _ _ t).1

  pub logs_of : (ls : List ℕ) → T (table_test o (is_log o g) ls) → Logarithms o g ls
  logs_of ls t =
      let u = tested o (is_log o g) ls t in
      record {
        long = u.long;
        log_in = λ a p h. ltb→lt _ _ (both _ _ (u.at a p h)).0;
        power_log = λ a p h. eqb→eq _ _ (both _ _ (u.at a p h)).1;
      }
