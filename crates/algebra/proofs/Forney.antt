-- Forney's value: each weight from its point, the syndromes and the product over the damaged columns.
use Rattle.std.proofs.Common.{◌≡◌, ℕ, zero, suc, ◌-◌, ◌<◌, ◌≤◌, Bool, true, false, sym, refl, ap, ◌∙◌, ap₂, arith}
use Rattle.fields.specs.Rings.{RingOps, sum, power}
use Rattle.algebra.specs.Rows.{count, moment}
use Rattle.algebra.specs.Polynomials.{times, product, value, multiple, derivative, quotient}
use Rattle.algebra.specs.Recurrences.{gap}
use Rattle.algebra.proofs.Count.{count_some}
use Rattle.algebra.proofs.Ring.{Solid, Divides}
use Rattle.algebra.proofs.Solve.{ring, signed, mul_zero, zero_mul, zero_add, nonzero_mul, equal_from_difference, positive}
use Rattle.algebra.proofs.Sum.{sum_in, sum_first, sum_same, sum_add, sum_scale, sum_swap, sum_only, sum_less, sum_beyond}
use Rattle.algebra.proofs.Moments.{Apart, moment_up}
use Rattle.algebra.proofs.Recur.{gap_moment}
use Rattle.algebra.proofs.Polys.{product_normal, product_root, sum_times}
use Rattle.algebra.proofs.Inverse.{turned_root, value_root}
use Rattle.algebra.proofs.Quotient.{quotient_times, quotient_beyond, without_others, without_itself}
use Rattle.algebra.proofs.Find.{Only}

-- c times the syndromes s 1, s 2, ..
abbrev pub evaluator : RingOps → (ℕ → ℕ) → (ℕ → ℕ) → ℕ → ℕ
evaluator o c s m = gap o m c (λ j. s (suc j)) m

-- the derivative of x to the j
slope : RingOps → ℕ → ℕ → ℕ
slope o x zero = 0
slope o x (suc j) = multiple o (suc j) (power o x j)

module _ {o : RingOps} (l : Solid o) where
  open o use {order as q, neg, add as ◌⊕◌, mul as ◌⊗◌}

  infixl 60 ◌⊕◌
  infixl 70 ◌⊗◌
  multiple_scale : (n a b : ℕ) → multiple o n (a ⊗ b) ≡ a ⊗ multiple o n b
  unfolding multiple
  multiple_scale zero a b = sym (mul_zero l a)
  multiple_scale (suc n) a b = ap (λ t. a ⊗ b ⊕ t) (multiple_scale n a b) ∙ sym (l.distrib a b (multiple o n b))

  multiple_move : (n a b : ℕ) → multiple o n a ⊗ b ≡ a ⊗ multiple o n b
  multiple_move n a b = l.mul_comm _ b ∙ sym (multiple_scale n b a) ∙ ap (multiple o n) (l.mul_comm b a) ∙ multiple_scale n a b

  slope_more : (x j : ℕ) → slope o x (suc j) ≡ power o x j ⊕ x ⊗ slope o x j
  unfolding slope multiple power
  slope_more x zero = ap (λ t. 1 ⊕ t) (sym (mul_zero l x))
  slope_more x (suc j) = ap (λ t. x ⊗ power o x j ⊕ t) (multiple_scale (suc j) x (power o x j))

  derivative_value : (r x : ℕ) (c : ℕ → ℕ) → value o r (derivative o c) x ≡ sum o (suc r) (λ j. c j ⊗ slope o x j)
  unfolding slope
  derivative_value r x c = sym (sum_first l r (λ j. c j ⊗ slope o x j) ∙ ap (λ t. t ⊕ rest) (mul_zero l (c 0)) ∙ zero_add l rest (sum_in l r _)
      ∙ sum_same l r (λ j. c (suc j) ⊗ multiple o (suc j) (power o x j)) (λ j. multiple o (suc j) (c (suc j)) ⊗ power o x j)
      (λ j _. sym (multiple_move (suc j) (c (suc j)) (power o x j))))
    where
      rest : ℕ
      rest = sum o r (λ j. c (suc j) ⊗ multiple o (suc j) (power o x j))

  -- the derivative of c times 1 - a z, where a x = 1
  derivative_times : (r a x : ℕ) (c : ℕ → ℕ) → c r ≡ 0 → a ⊗ x ≡ 1
      → value o r (derivative o (times o a c)) x ≡ neg (a ⊗ value o r c x)
  derivative_times r a x c e i =
      derivative_value r x (times o a c)
      ∙ sum_times l r a c g
      ∙ ap₂ (λ u v. u ⊕ neg (a ⊗ v)) (sum_less l r c g e)
      (sum_same l r (λ j. c j ⊗ g (suc j)) (λ j. c j ⊗ power o x j ⊕ x ⊗ (c j ⊗ g j)) (λ j _. ap (λ t. c j ⊗ t) (slope_more x j) ∙ apart (c j) (power o x j) (g j))
      ∙ sum_add l r (λ j. c j ⊗ power o x j) (λ j. x ⊗ (c j ⊗ g j))
      ∙ ap (λ t. value o r c x ⊕ t) (sum_scale l r x (λ j. c j ⊗ g j)))
      ∙ joined (sum o r (λ j. c j ⊗ g j)) (value o r c x) (sum_in l r _)
    where
      g : ℕ → ℕ
      g = slope o x

      apart : (s t u : ℕ) → s ⊗ (t ⊕ x ⊗ u) ≡ s ⊗ t ⊕ x ⊗ (s ⊗ u)
      apart s t u = simp (ring, l)

      spelled : (s v : ℕ) → s ⊕ neg (a ⊗ (v ⊕ x ⊗ s)) ≡ s ⊕ (neg (a ⊗ x ⊗ s) ⊕ neg (a ⊗ v))
      spelled s v = simp (signed, l)

      joined : (s v : ℕ) → s < q → s ⊕ neg (a ⊗ (v ⊕ x ⊗ s)) ≡ neg (a ⊗ v)
      joined s v h = spelled s v ∙ ap (λ t. s ⊕ (neg (t ⊗ s) ⊕ neg (a ⊗ v))) i ∙ simp (signed, l)

  -- the value of the evaluator: weights times points times the values of the quotients
  evaluator_value : (n r x : ℕ) (p w c s : ℕ → ℕ) → ((j : ℕ) → 1 ≤ j → j ≤ r → s j ≡ moment o n p w j)
      → value o r (evaluator o c s) x ≡ sum o n (λ i. w i ⊗ p i ⊗ value o r (quotient o (p i) c) x)
  unfolding power
  evaluator_value n r x p w c s e =
      sum_same l r (λ m. evaluator o c s m ⊗ power o x m) (λ m. sum o n (λ i. power o x m ⊗ (v i ⊗ b i m)))
      (λ m h. l.mul_comm _ _ ∙ ap (λ t. power o x m ⊗ t) (coefficient m h) ∙ sym (sum_scale l n (power o x m) (λ i. v i ⊗ b i m)))
      ∙ sum_swap l r n (λ m i. power o x m ⊗ (v i ⊗ b i m))
      ∙ sum_same l n (λ i. sum o r (λ m. power o x m ⊗ (v i ⊗ b i m))) (λ i. v i ⊗ value o r (b i) x) (λ i _.
      sum_same l r (λ m. power o x m ⊗ (v i ⊗ b i m)) (λ m. v i ⊗ (b i m ⊗ power o x m)) (λ m _. turn (power o x m) (v i) (b i m))
      ∙ sum_scale l r (v i) (λ m. b i m ⊗ power o x m))
    where
      v : ℕ → ℕ
      v i = w i ⊗ p i

      b : ℕ → ℕ → ℕ
      b i = quotient o (p i) c

      turn : (s t u : ℕ) → s ⊗ (t ⊗ u) ≡ t ⊗ (u ⊗ s)
      turn s t u = simp (ring, l)

      coefficient : (m : ℕ) → m < r → evaluator o c s m ≡ sum o n (λ i. v i ⊗ b i m)
      coefficient m h =
          let z : m - m ≡ 0 = omega arith in
          sum_same l (suc m) (λ j. c j ⊗ s (suc (m - j))) (λ j. c j ⊗ moment o n p v (m - j))
          (λ j _. ap (λ t. c j ⊗ t) (e (suc (m - j)) (omega arith) (omega arith) ∙ moment_up l n p w (m - j)))
          ∙ gap_moment l n m p v c m (omega arith)
          ∙ ap (moment o n p (λ i. v i ⊗ b i m)) z
          ∙ sum_same l n (λ i. v i ⊗ b i m ⊗ 1) (λ i. v i ⊗ b i m) (λ i _. l.mul_one _ (l.mul_in _ _))

  module _ {inv : ℕ → ℕ} (d : Divides o inv) where
    -- the weights w at the points p, nonzero only where u marks, at most r of them; their moments 1 to r are s
    module _ (n r : ℕ) (u : ℕ → Bool) (p w s : ℕ → ℕ) (a : Apart q n p) (alive : (k : ℕ) → k < n → 0 < p k) (off : Only n u w)
        (few : count n u ≤ r) (is : (j : ℕ) → 1 ≤ j → j ≤ r → s j ≡ moment o n p w j) where
      abbrev Ψ : ℕ → ℕ
      Ψ = product o n u p

      abbrev Without : ℕ → ℕ → ℕ
      Without k = quotient o (p k) Ψ

      past : (k : ℕ) → k < n → u k ≡ true → (j : ℕ) → count n u ≤ j → Without k j ≡ 0
      past k h e = quotient_beyond l (count n u) (p k) Ψ (product_normal l n u p) (product_root l n u p k h e)

      cut : (k : ℕ) → k < n → u k ≡ true → (x : ℕ) → value o r (Without k) x ≡ value o (suc (count n u - 1)) (Without k) x
      cut k h e x = sum_beyond l (suc (count n u - 1)) (Without k) (power o x) (λ j y. past k h e j (omega arith)) r (omega (arith, count_some n k u h e))

      -- without another, the product is 0
      others : (i k : ℕ) → i < n → k < n → u i ≡ true → u k ≡ true → (i ≡ k → ⊥) → value o r (Without i) (inv (p k)) ≡ 0
      others i k hi hk ei ek f = cut i hi ei (inv (p k)) ∙ value_root l d (count n u - 1) (p k) (Without i) (a.inside k hk) (alive k hk)
          (without_others l d n u p a i hi ei k hk ek (λ s. f (sym s)))

      -- without itself, it is not
      itself : (k : ℕ) → k < n → u k ≡ true → 0 < value o r (Without k) (inv (p k))
      itself k h e = positive (λ z. omega (
        arith,
        without_itself l d n u p a k h e,
        turned_root l d (count n u - 1) (p k) (Without k) (a.inside k h) (alive k h) (sym (cut k h e (inv (p k))) ∙ z),
      ))

      -- FORNEY: the weight at each marked point
      pub forney : (k : ℕ) → k < n → u k ≡ true → w k < q
          → neg (value o r (evaluator o (product o n u p) s) (inv (p k)) ⊗ inv (value o r (derivative o (product o n u p)) (inv (p k)))) ≡ w k
      forney k h e i = ap₂ (λ y z. neg (y ⊗ inv z)) above below ∙ divided (w k) (p k ⊗ v) i (l.mul_in _ _) (nonzero_mul l d (p k) v (a.inside k h) (alive k h) (sum_in l r _) (itself k h e))
        where
          x : ℕ
          x = inv (p k)

          v : ℕ
          v = value o r (Without k) x

          none : (j : ℕ) → j < n → (j ≡ k → ⊥) → (b : Bool) → u j ≡ b → w j ⊗ p j ⊗ value o r (Without j) x ≡ 0
          none j g f true b = ap (λ t. w j ⊗ p j ⊗ t) (others j k g h b e f) ∙ mul_zero l _
          none j g f false b = ap (λ t. t ⊗ p j ⊗ value o r (Without j) x) (off j g b) ∙ ap (λ t. t ⊗ value o r (Without j) x) (zero_mul l (p j)) ∙ zero_mul l _

          above : value o r (evaluator o Ψ s) x ≡ w k ⊗ (p k ⊗ v)
          above = evaluator_value n r x p w Ψ s is
              ∙ sum_only l n k (λ j. w j ⊗ p j ⊗ value o r (Without j) x) h (l.mul_in _ _) (λ j g f. none j g f (u j) refl)
              ∙ l.mul_assoc (w k) (p k) v

          below : value o r (derivative o Ψ) x ≡ neg (p k ⊗ v)
          below = sum_same l r (λ j. derivative o Ψ j ⊗ power o x j) (λ j. derivative o (times o (p k) (Without k)) j ⊗ power o x j)
              (λ j _. ap (λ t. multiple o (suc j) t ⊗ power o x j) (sym (quotient_times l (count n u) (p k) Ψ (product_normal l n u p) (suc j))))
              ∙ derivative_times r (p k) x (Without k) (past k h e r few) (d.mul_inv (p k) (a.inside k h) (alive k h))

          divided : (y z : ℕ) → y < q → z < q → 0 < z → neg (y ⊗ z ⊗ inv (neg z)) ≡ y
          divided y z hy hz g = turned_over ∙ ap (λ t. y ⊗ t) (d.mul_inv (neg z) (l.neg_in z) (positive (λ f. omega (arith, negated f)))) ∙ l.mul_one y hy
            where
              turned_over : neg (y ⊗ z ⊗ inv (neg z)) ≡ y ⊗ (neg z ⊗ inv (neg z))
              turned_over = simp (signed, l)

              negated : neg z ≡ 0 → z ≡ 0
              negated f = let low : 0 < q = omega (arith, l.above) in equal_from_difference l z 0 hz low (ap (λ t. z ⊕ t) (simp (signed, l)) ∙ ap (λ t. z ⊕ t) (sym f) ∙ l.add_neg z)
