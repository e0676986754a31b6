-- Products and values of polynomials, as the loops take them.
use Rattle.std.proofs.Common.{◌≡◌, ℕ, zero, suc, ◌+◌, ◌-◌, ◌<◌, ◌≤◌, List, [], ◌∷◌, reverse, length, get_or, sym, refl, ap, ◌∙◌, arith}
use Rattle.std.specs.List.{fold}
use Rattle.std.proofs.lemmas.List.Sums.{fold-append}
use native.Mathlib.Decide.{dec_le}
use Rattle.std.proofs.lemmas.List.{get_or_past, reverse-append}
use Rattle.std.proofs.lemmas.Bool.Decides.{nat_tests}
use Rattle.fields.specs.Rings.{RingOps, RingLaws, sum, power, taken}
use Rattle.algebra.specs.Polynomials.{times}
use Rattle.algebra.proofs.Ring.{Solid, solid}
use Rattle.algebra.proofs.Solve.{ring, mul_zero}
use Rattle.algebra.proofs.Sum.{sum_first, sum_same, sum_zero, sum_scale, sum_beyond}
use Rattle.algebra.specs.Coefficients.{product_entry, value_at}

module _ (o : RingOps) (laws : RingLaws o) where
  l : Solid o
  l = solid o laws

  -- the places before which b has none
  pub product_start : (a b : List ℕ) (m n : ℕ) → (0 < n → length b + n ≤ m + 1) → 0 ≡ sum o n (λ j. o.mul (get_or a j 0) (get_or b (m - j) 0))
  product_start a b m n h =
      sym (sum_zero l n (λ j. o.mul (get_or a j 0) (get_or b (m - j) 0)) (λ k g. ap (o.mul (get_or a k 0)) (get_or_past b (m - k) 0 (past k g)) ∙ mul_zero l _))
    where
      past : (k : ℕ) → k < n → length b ≤ m - k
      past k g = let e = h (omega arith) in omega arith

  -- the places from which on a has none
  pub product_all : (a b : List ℕ) (m n : ℕ) → n ≤ m + 1 → (n < length a → m + 1 ≤ n)
      → sum o n (λ j. o.mul (get_or a j 0) (get_or b (m - j) 0)) ≡ product_entry o a b m
  product_all a b m n h f = elim (dec_le (length a) n) [
    | yes past ↦ sym (sum_beyond l n (λ j. get_or a j 0) (λ j. get_or b (m - j) 0) (λ j g. get_or_past a j 0 (omega arith)) (suc m) (omega arith))
    | no more ↦ let e : n ≡ suc m = omega (arith, f (omega arith)) in ap (λ (k : ℕ). sum o k (λ j. o.mul (get_or a j 0) (get_or b (m - j) 0))) e
  ]

  -- times 1, a number is what it is taken as
  one_taken : (c : ℕ) → o.mul c 1 ≡ taken o.order c
  one_taken c =
      let low = laws.low in
      let inside : taken o.order c < o.order = grind (arith, nat_tests) in
      let one : taken o.order 1 ≡ 1 = grind (arith, nat_tests) in
      laws.mul_taken c 1 ∙ ap (o.mul (taken o.order c)) one ∙ laws.mul_one _ inside

  add_one_taken : (c y : ℕ) → o.add (o.mul c 1) y ≡ o.add c y
  add_one_taken c y =
      let low = laws.low in
      let same : taken o.order (taken o.order c) ≡ taken o.order c = grind (arith, nat_tests) in
      ap (λ t. o.add t y) (one_taken c) ∙ laws.add_taken (taken o.order c) y ∙ ap (λ t. o.add t (taken o.order y)) same ∙ sym (laws.add_taken c y)

  -- Horner's rule
  pub value_cons : (c : ℕ) (cs : List ℕ) (x : ℕ) → value_at o (c ∷ cs) x ≡ o.add c (o.mul x (value_at o cs x))
  unfolding power l
  value_cons c cs x =
      sum_first l (length cs) (λ j. o.mul (get_or (c ∷ cs) j 0) (power o x j))
      ∙ add_one_taken c _
      ∙ ap (o.add c) (sum_same l (length cs) (λ j. o.mul (get_or cs j 0) (o.mul x (power o x j))) (λ j. o.mul x (o.mul (get_or cs j 0) (power o x j))) (λ j _. turn (get_or cs j 0) (power o x j))
      ∙ sum_scale l (length cs) x (λ j. o.mul (get_or cs j 0) (power o x j)))
    where
      turn : (a b : ℕ) → o.mul a (o.mul x b) ≡ o.mul x (o.mul a b)
      turn a b = simp (ring, l)

-- Horner's rule over all coefficients, the last first
pub horner : (o : RingOps) (laws : RingLaws o) (x : ℕ) (cs : List ℕ) → fold (λ v c. o.add c (o.mul x v)) 0 (reverse cs) ≡ value_at o cs x
unfolding sum
horner o laws x [] = refl
horner o laws x (c ∷ cs) =
    ap (fold (λ v c. o.add c (o.mul x v)) 0) (reverse-append (c ∷ []) cs)
    ∙ fold-append (λ v c. o.add c (o.mul x v)) 0 (reverse cs) (c ∷ [])
    ∙ ap (λ v. o.add c (o.mul x v)) (horner o laws x cs) ∙ sym (value_cons o laws c cs x)

-- one more factor, coefficient by coefficient
pub times_first : (o : RingOps) (a : ℕ) (c : List ℕ) (j : ℕ) → j ≡ 0 → get_or c 0 0 ≡ times o a (λ j. get_or c j 0) j
unfolding times
times_first o a c j e = rw e refl

pub times_entry : (o : RingOps) (a : ℕ) (c : List ℕ) (j m n : ℕ) → 1 ≤ j → m ≡ o.mul a (get_or c (j - 1) 0) → n ≡ o.neg m
    → o.add (get_or c j 0) n ≡ times o a (λ j. get_or c j 0) j
unfolding times
times_entry o a c zero m n h e f = absurd (omega arith)
times_entry o a c (suc j) m n h e f = let i : suc j - 1 ≡ j = omega arith in ap (o.add (get_or c (suc j) 0)) (f ∙ ap o.neg (e ∙ ap (λ t. o.mul a (get_or c t 0)) i))
