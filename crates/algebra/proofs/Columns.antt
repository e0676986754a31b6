-- Rising columns, and weights spread on columns.
use Rattle.std.proofs.Common.{◌≡◌, ℕ, zero, suc, ◌<◌, ◌≤◌, true, false, eqb, ◌⊎◌, List, [], ◌∷◌, length, get_or, sym, refl, ap, ◌∙◌, inl, inr, true≢false, arith}
use Rattle.std.proofs.lemmas.Bool.{cases_Bool, and_parts, leb-true, ltb-true, eqb-true, eq-eqb, or_cases, or_left, or_right}
use Rattle.fields.specs.Rings.{RingOps, sum, power}
use Rattle.algebra.specs.Rows.{count, moment, among, rising}
use Rattle.algebra.specs.Polynomials.{unit}
use Rattle.algebra.proofs.Count.{count_some, count_apart, count_among}
use Rattle.algebra.proofs.Ring.{Solid}
use Rattle.algebra.proofs.Solve.{ring, mul_zero}
use Rattle.algebra.proofs.Sum.{power_in, sum_only, sum_same, sum_zero, sum_scale, sum_swap}
use Rattle.algebra.proofs.Roots.{sum_unit, unit_same, unit_off}

-- rising columns: the first one, and the others
pub record Rises (b n m : ℕ) (ms : List ℕ) : Type 0 where
  pub from : b ≤ m
  pub below : m < n
  pub rest : rising (suc m) n ms ≡ true

pub rises : (b n m : ℕ) (ms : List ℕ) → rising b n (m ∷ ms) ≡ true → Rises b n m ms
rises b n m ms e = let (x, y) = and_parts _ _ e in let (u, v) = and_parts _ _ y in record { from = leb-true b m x; below = ltb-true m n u; rest = v }

-- each is from b on and below n
pub rising_from : (b n : ℕ) (ms : List ℕ) → rising b n ms ≡ true → (k : ℕ) → k < length ms → b ≤ get_or ms k 0
rising_from b n [] e k h = absurd (omega arith)
rising_from b n (m ∷ ms) e zero h = (rises b n m ms e).from
rising_from b n (m ∷ ms) e (suc k) h = let a = rises b n m ms e in omega (arith, rising_from (suc m) n ms a.rest k (omega arith))

pub rising_below : (b n : ℕ) (ms : List ℕ) → rising b n ms ≡ true → (k : ℕ) → k < length ms → get_or ms k 0 < n
rising_below b n [] e k h = absurd (omega arith)
rising_below b n (m ∷ ms) e zero h = (rises b n m ms e).below
rising_below b n (m ∷ ms) e (suc k) h = rising_below (suc m) n ms (rises b n m ms e).rest k (omega arith)

-- no two are the same
pub rising_apart : (b n : ℕ) (ms : List ℕ) → rising b n ms ≡ true → (i j : ℕ) → i < length ms → j < length ms → get_or ms i 0 ≡ get_or ms j 0 → i ≡ j
rising_apart b n [] e i j hi hj s = absurd (omega arith)
rising_apart b n (m ∷ ms) e zero zero hi hj s = refl
rising_apart b n (m ∷ ms) e zero (suc j) hi hj s = absurd (omega (arith, rising_from (suc m) n ms (rises b n m ms e).rest j (omega arith)))
rising_apart b n (m ∷ ms) e (suc i) zero hi hj s = absurd (omega (arith, rising_from (suc m) n ms (rises b n m ms e).rest i (omega arith)))
rising_apart b n (m ∷ ms) e (suc i) (suc j) hi hj s = ap suc (rising_apart (suc m) n ms (rises b n m ms e).rest i j (omega arith) (omega arith) s)

-- each entry is among them, and what is among them is an entry
pub among_entry : (ms : List ℕ) (k : ℕ) → k < length ms → among (get_or ms k 0) ms ≡ true
among_entry [] k h = absurd (omega arith)
among_entry (m ∷ ms) zero h = or_left _ _ (eq-eqb m m refl)
among_entry (m ∷ ms) (suc k) h = or_right _ _ (among_entry ms k (omega arith))

pub entry_among : (i : ℕ) (ms : List ℕ) → among i ms ≡ true → (k : ℕ) × ((k < length ms) × (get_or ms k 0 ≡ i))
entry_among i [] e = absurd (true≢false (sym e))
entry_among i (m ∷ ms) e = go (entry_among i ms) (or_cases _ _ e)
  where
    go : (among i ms ≡ true → (k : ℕ) × ((k < length ms) × (get_or ms k 0 ≡ i))) → (eqb i m ≡ true) ⊎ (among i ms ≡ true)
        → (k : ℕ) × ((k < length (m ∷ ms)) × (get_or (m ∷ ms) k 0 ≡ i))
    go ih (inl a) = (0, (omega arith, sym (eqb-true i m a)))
    go ih (inr a) = let (k, (h, b)) = ih a in (suc k, (omega arith, b))

-- each of them is counted once
pub rising_count : (b n : ℕ) (ms : List ℕ) → rising b n ms ≡ true → count n (λ k. among k ms) ≡ length ms
rising_count b n ms e = omega (arith, count_among n ms, least b ms e)
  where
    least : (b : ℕ) (ms : List ℕ) → rising b n ms ≡ true → length ms ≤ count n (λ k. among k ms)
    least b [] e = omega arith
    least b (m ∷ ms) e =
        let a = rises b n m ms e in
        omega (
          arith,
          count_some n m (λ k. eqb k m) a.below (eq-eqb m m refl),
          least (suc m) ms a.rest,
          count_apart n (λ k. eqb k m) (λ k. among k ms) (λ k h. later (suc m) ms k a.rest (omega (arith, eqb-true k m h))),
        )
      where
        later : (b : ℕ) (ms : List ℕ) (k : ℕ) → rising b n ms ≡ true → k < b → among k ms ≡ false
        later b ms k e h = elim (cases_Bool (among k ms)) [
          | inl p ↦ let (j, (i, q)) = entry_among k ms p in absurd (omega (arith, rising_from b n ms e j i))
          | inr p ↦ p
        ]

-- the weights w k, k below r, each at its column col k
abbrev pub scatter : RingOps → ℕ → (ℕ → ℕ) → (ℕ → ℕ) → ℕ → ℕ
scatter o r col w i = sum o r (λ k. o.mul (w k) (unit (col k) i))

module _ {o : RingOps} (l : Solid o) where
  open o use {order as q, neg, add as ◌⊕◌, mul as ◌⊗◌}

  infixl 60 ◌⊕◌
  infixl 70 ◌⊗◌
  pub scatter_on : (r : ℕ) (col w : ℕ → ℕ) (k : ℕ) → k < r → w k < q → ((j : ℕ) → j < r → col j ≡ col k → j ≡ k) → scatter o r col w (col k) ≡ w k
  scatter_on r col w k h i a = sum_only l r k (λ j. w j ⊗ unit (col j) (col k)) h (l.mul_in _ _)
      (λ j g e. ap (λ t. w j ⊗ t) (unit_off (col j) (col k) (λ s. e (a j g s))) ∙ mul_zero l (w j))
      ∙ ap (λ t. w k ⊗ t) (unit_same (col k)) ∙ l.mul_one (w k) i

  pub scatter_off : (r : ℕ) (col w : ℕ → ℕ) (i : ℕ) → ((k : ℕ) → k < r → col k ≡ i → ⊥) → scatter o r col w i ≡ 0
  scatter_off r col w i h = sum_zero l r (λ k. w k ⊗ unit (col k) i) (λ k g. ap (λ t. w k ⊗ t) (unit_off (col k) i (h k g)) ∙ mul_zero l (w k))

  -- their moments are those of the weights at the columns' points
  pub scatter_moment : (n r : ℕ) (p col w : ℕ → ℕ) (j : ℕ) → ((k : ℕ) → k < r → col k < n)
      → moment o n p (scatter o r col w) j ≡ moment o r (λ k. p (col k)) w j
  scatter_moment n r p col w j h =
      sum_same l n (λ i. scatter o r col w i ⊗ a i) (λ i. sum o r (λ k. a i ⊗ (w k ⊗ unit (col k) i)))
      (λ i _. l.mul_comm _ _ ∙ sym (sum_scale l r (a i) (λ k. w k ⊗ unit (col k) i)))
      ∙ sum_swap l n r (λ i k. a i ⊗ (w k ⊗ unit (col k) i))
      ∙ sum_same l r (λ k. sum o n (λ i. a i ⊗ (w k ⊗ unit (col k) i))) (λ k. w k ⊗ a (col k)) (λ k g.
      sum_same l n (λ i. a i ⊗ (w k ⊗ unit (col k) i)) (λ i. w k ⊗ (a i ⊗ unit (col k) i)) (λ i _. simp (ring, l))
      ∙ sum_scale l n (w k) (λ i. a i ⊗ unit (col k) i)
      ∙ ap (λ t. w k ⊗ t) (sum_unit l n (col k) a (h k g) (power_in l (p (col k)) j)))
    where
      a : ℕ → ℕ
      a i = power o (p i) j
