-- The steps of the decoder, and that they give the code row that is close enough.
use Rattle.std.proofs.Common.{◌≡◌, ℕ, suc, ◌+◌, ◌-◌, ◌*◌, ◌<◌, ◌≤◌, Bool, true, false, cond, not, ◌||◌, eqb, ◌⊎◌, sym, refl, ap, ◌∙◌, inl, inr, true≢false, arith}
use Rattle.std.proofs.lemmas.Bool.{or_parts, or_cases, not-true, not-false, eqb-true, eqb-false, eq-eqb, ne_eqb}
use Rattle.fields.specs.Rings.{RingOps}
use Rattle.algebra.specs.Rows.{count, moment}
use Rattle.algebra.specs.Polynomials.{product, value, derivative, turned}
use Rattle.algebra.specs.Recurrences.{gap, Least}
use Rattle.algebra.proofs.Count.{count_or, count_same}
use Rattle.algebra.proofs.Ring.{Solid, Divides}
use Rattle.algebra.proofs.Solve.{signed, neg_zero, equal_from_difference, positive}
use Rattle.algebra.proofs.Sum.{sum_in, sum_same}
use Rattle.algebra.proofs.Moments.{Apart}
use Rattle.algebra.proofs.Distance.{moment_minus}
use Rattle.algebra.proofs.Polys.{product_root, product_nonroot, turned_same, spread}
use Rattle.algebra.proofs.Inverse.{turned_root, value_root}
use Rattle.algebra.proofs.Find.{Only, kept, kept_marked, kept_none, kept_some, filtered, least_product}
use Rattle.algebra.proofs.Forney.{evaluator, forney}

-- The steps, for n columns with the points p and the row y; g marks columns.

-- the syndromes from 1 on times the product over the marked columns, from where it is a recurrence
abbrev pub remaining : RingOps → ℕ → (ℕ → ℕ) → (ℕ → ℕ) → (ℕ → Bool) → ℕ → ℕ
remaining o n p y g m = gap o (count n g) (product o n g p) (moment o n p y) (suc (m + count n g))

-- the columns at whose points' inverses c, of length s, is 0, and the marked ones
abbrev pub damaged : RingOps → (ℕ → ℕ) → (ℕ → ℕ) → (ℕ → Bool) → ℕ → (ℕ → ℕ) → ℕ → Bool
damaged o inv p g s c k = g k || eqb (value o (suc s) c (inv (p k))) 0

-- what Forney's formula says of column k, where v marks the damaged ones and there are r syndromes
abbrev pub correction : RingOps → (ℕ → ℕ) → ℕ → (ℕ → ℕ) → (ℕ → ℕ) → ℕ → (ℕ → Bool) → ℕ → ℕ
correction o inv n p y r v k = o.neg (o.mul (value o r (evaluator o (product o n v p) (moment o n p y)) (inv (p k)))
    (inv (value o r (derivative o (product o n v p)) (inv (p k)))))

-- the row with the corrections subtracted in the damaged columns
abbrev pub corrected : RingOps → (ℕ → ℕ) → ℕ → (ℕ → ℕ) → (ℕ → ℕ) → ℕ → (ℕ → Bool) → ℕ → ℕ
corrected o inv n p y r v k = cond (v k) (o.add (y k) (o.neg (correction o inv n p y r v k))) (y k)

-- the columns that g does not mark and where the rows differ
abbrev pub errors : (ℕ → Bool) → (ℕ → ℕ) → (ℕ → ℕ) → ℕ → Bool
errors g x y k = not (g k || eqb (x k) (y k))

-- x is a code row of n columns with r checks, close enough to y where g marks columns
pub record Close (o : RingOps) (n r : ℕ) (p : ℕ → ℕ) (g : ℕ → Bool) (x y : ℕ → ℕ) : Type 0 where
  pub points : Apart o.order n p
  pub alive : (k : ℕ) → k < n → 0 < p k
  pub x_in : (k : ℕ) → k < n → x k < o.order
  pub y_in : (k : ℕ) → k < n → y k < o.order
  pub balanced : (j : ℕ) → 1 ≤ j → j ≤ r → moment o n p x j ≡ 0
  pub few : 2 * count n (errors g x y) + count n g ≤ r

module _ {o : RingOps} (l : Solid o) {inv : ℕ → ℕ} (d : Divides o inv) where
  open o use {order as q, neg, add as ◌⊕◌, mul as ◌⊗◌}

  infixl 60 ◌⊕◌
  infixl 70 ◌⊗◌
  module _ (n r : ℕ) (p : ℕ → ℕ) (g : ℕ → Bool) (x y : ℕ → ℕ) (near : Close o n r p g x y) where
    -- what was added to the code row
    abbrev noise : ℕ → ℕ
    noise k = y k ⊕ neg (x k)

    abbrev u : ℕ → Bool
    u = errors g x y

    noise_none : (k : ℕ) → x k ≡ y k → noise k ≡ 0
    noise_none k e = ap (λ t. y k ⊕ neg t) e ∙ l.add_neg (y k)

    noise_some : (k : ℕ) → k < n → (x k ≡ y k → ⊥) → 0 < noise k
    noise_some k h f = positive (λ e. f (sym (equal_from_difference l (y k) (x k) (near.y_in k h) (near.x_in k h) e)))

    -- the syndromes are those of what was added
    noise_moment : (j : ℕ) → 1 ≤ j → j ≤ r → moment o n p y j ≡ moment o n p noise j
    noise_moment j a b = sym (moment_minus l n p y x j ∙ ap (λ t. moment o n p y j ⊕ neg t) (near.balanced j a b)
        ∙ ap (λ t. moment o n p y j ⊕ t) (neg_zero l) ∙ l.add_zero _ (sum_in l n _))

    remaining_moment : (m : ℕ) → m < r - count n g → remaining o n p y g m ≡ moment o n p (kept l n g p noise) m
    remaining_moment m h =
        sum_same l (suc (count n g)) (λ j. c j ⊗ moment o n p y (suc (m + count n g) - j)) (λ j. c j ⊗ moment o n p noise (suc (m + count n g) - j))
        (λ j i. ap (λ t. c j ⊗ t) (noise_moment (suc (m + count n g) - j) (omega arith) (omega arith)))
        ∙ filtered l n g p noise m
      where
        c : ℕ → ℕ
        c = product o n g p

    -- neither marked nor different
    untouched : (k : ℕ) → u k ≡ false → (g k ≡ true) ⊎ (x k ≡ y k)
    untouched k e = go (or_cases _ _ (not-false _ e))
      where
        go : (g k ≡ true) ⊎ (eqb (x k) (y k) ≡ true) → (g k ≡ true) ⊎ (x k ≡ y k)
        go (inl a) = inl a
        go (inr b) = inr (eqb-true _ _ b)

    kept_off : Only n u (kept l n g p noise)
    kept_off k h e = go (untouched k e)
      where
        go : (g k ≡ true) ⊎ (x k ≡ y k) → kept l n g p noise k ≡ 0
        go (inl a) = kept_marked l n g p noise k h a
        go (inr b) = kept_none l n g p noise k (noise_none k b)

    kept_on : (k : ℕ) → k < n → u k ≡ true → 0 < kept l n g p noise k
    kept_on k h e = let (a, b) = or_parts _ _ (not-true _ e) in
        kept_some l d n g p noise k near.points h (near.alive k h) a (l.add_in _ _) (noise_some k h (eqb-false _ _ b))

    module _ (s : ℕ) (c : ℕ → ℕ) (found : Least o (remaining o n p y g) (r - count n g) s c) where
      -- WHAT THE SOLVER FOUND is the product over the errors
      pub found_product : (s ≡ count n u) × ((j : ℕ) → c j ≡ product o n u p j)
      found_product = least_product l d n (r - count n g) u p (kept l n g p noise) near.points (λ k _. l.mul_in _ _) kept_off kept_on (omega (arith, near.few))
          (remaining o n p y g) remaining_moment s c found

      found_turned : (k : ℕ) → turned o s c (p k) ≡ spread l n u p (p k)
      found_turned k = turned_same l s (p k) c (product o n u p) found_product.1 ∙ ap (λ m. turned o m (product o n u p) (p k)) found_product.0

      -- ITS ROOTS are the errors
      pub found_roots : (k : ℕ) → k < n → eqb (value o (suc s) c (inv (p k))) 0 ≡ u k
      found_roots k h = go (u k) refl
        where
          go : (b : Bool) → u k ≡ b → eqb (value o (suc s) c (inv (p k))) 0 ≡ b
          go true e = eq-eqb _ _ (value_root l d s (p k) c (near.points.inside k h) (near.alive k h) (found_turned k ∙ product_root l n u p k h e))
          go false e = ne_eqb (value o (suc s) c (inv (p k))) 0 (λ z. omega (
            arith,
            sym (found_turned k) ∙ turned_root l d s (p k) c (near.points.inside k h) (near.alive k h) z,
            product_nonroot l d n u p (p k) (near.points.inside k h) near.points.inside
                (λ j i f a. true≢false (sym f ∙ ap u (sym (near.points.distinct k j h i a)) ∙ e)),
          ))

      abbrev v : ℕ → Bool
      v = damaged o inv p g s c

      v_few : count n v ≤ r
      v_few = omega (arith, near.few, count_or n g u, count_same n v (λ k. g k || u k) (λ k h. ap (λ b. g k || b) (found_roots k h)))

      undamaged : (k : ℕ) → k < n → v k ≡ false → x k ≡ y k
      undamaged k h e = let (a, b) = or_parts _ _ e in go a (untouched k (sym (found_roots k h) ∙ b))
        where
          go : g k ≡ false → (g k ≡ true) ⊎ (x k ≡ y k) → x k ≡ y k
          go a (inl b) = absurd (true≢false (sym b ∙ a))
          go a (inr b) = b

      -- FORNEY'S VALUES are what was added
      pub found_correction : (k : ℕ) → k < n → v k ≡ true → correction o inv n p y r v k ≡ noise k
      found_correction k h e = forney l d n r v p noise (moment o n p y) near.points near.alive (λ k h e. noise_none k (undamaged k h e)) v_few noise_moment k h e (l.add_in _ _)

      -- THE DECODER GIVES THE CODE ROW
      pub decodes : (k : ℕ) → k < n → corrected o inv n p y r (damaged o inv p g s c) k ≡ x k
      decodes k h = go (v k) refl
        where
          back : y k ⊕ neg (noise k) ≡ x k
          back = let i : x k < q = near.x_in k h in simp (signed, l)

          go : (b : Bool) → v k ≡ b → cond b (y k ⊕ neg (correction o inv n p y r v k)) (y k) ≡ x k
          go true e = ap (λ t. y k ⊕ neg t) (found_correction k h e) ∙ back
          go false e = sym (undamaged k h e)
