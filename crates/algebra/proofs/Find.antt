-- What a least fitting recurrence of the syndromes is: the product over the errors.
use Rattle.std.proofs.Common.{◌≡◌, ℕ, suc, ◌+◌, ◌-◌, ◌*◌, ◌<◌, ◌≤◌, Bool, true, false, sym, refl, ap, ◌∙◌, subst, true≢false, arith}
use Rattle.fields.specs.Rings.{RingOps, power}
use Rattle.algebra.specs.Rows.{count, moment}
use Rattle.algebra.specs.Polynomials.{Normal, product, turned}
use Rattle.algebra.specs.Recurrences.{gap, Fits, Least}
use Rattle.algebra.proofs.Ring.{Solid, Divides}
use Rattle.algebra.proofs.Solve.{mul_zero, zero_mul, zero_from_mul, nonzero_mul}
use Rattle.algebra.proofs.Sum.{sum_in, sum_same, sum_zero}
use Rattle.algebra.proofs.Moments.{Apart, moment_up, vanish}
use Rattle.algebra.proofs.Recur.{gap_moment}
use Rattle.algebra.proofs.Polys.{product_normal, product_root, product_nonroot, spread}
use Rattle.algebra.proofs.Quotient.{Rooted, root_count, is_product}

-- the weights are 0 but where u marks
abbrev pub Only : ℕ → (ℕ → Bool) → (ℕ → ℕ) → Type 0
Only n u w = (k : ℕ) → k < n → u k ≡ false → w k ≡ 0

module _ {o : RingOps} (l : Solid o) where
  open o use {order as q, neg, add as ◌⊕◌, mul as ◌⊗◌}

  infixl 60 ◌⊕◌
  infixl 70 ◌⊗◌
  -- the weights that the factors of the points that g marks leave
  abbrev pub kept : ℕ → (ℕ → Bool) → (ℕ → ℕ) → (ℕ → ℕ) → ℕ → ℕ
  kept n g p w k = w k ⊗ spread l n g p (p k) ⊗ p k

  -- WHAT THE FACTORS LEAVE of the moments from 1 on is the moments of those weights
  pub filtered : (n : ℕ) (g : ℕ → Bool) (p w : ℕ → ℕ) (m : ℕ)
      → gap o (count n g) (product o n g p) (moment o n p w) (suc (m + count n g)) ≡ moment o n p (kept n g p w) m
  filtered n g p w m =
      let e : suc (m + count n g) - count n g ≡ suc m = omega arith in
      gap_moment l n (count n g) p w (product o n g p) (suc (m + count n g)) (omega arith)
      ∙ ap (moment o n p (λ k. w k ⊗ spread l n g p (p k))) e
      ∙ moment_up l n p (λ k. w k ⊗ spread l n g p (p k)) m

  -- none at a marked point, none where there was none
  pub kept_marked : (n : ℕ) (g : ℕ → Bool) (p w : ℕ → ℕ) (k : ℕ) → k < n → g k ≡ true → kept n g p w k ≡ 0
  kept_marked n g p w k h e = ap (λ v. w k ⊗ v ⊗ p k) (product_root l n g p k h e) ∙ ap (λ v. v ⊗ p k) (mul_zero l (w k)) ∙ zero_mul l (p k)

  pub kept_none : (n : ℕ) (g : ℕ → Bool) (p w : ℕ → ℕ) (k : ℕ) → w k ≡ 0 → kept n g p w k ≡ 0
  kept_none n g p w k e = ap (λ v. v ⊗ spread l n g p (p k) ⊗ p k) e ∙ ap (λ v. v ⊗ p k) (zero_mul l _) ∙ zero_mul l (p k)

  -- some at each other
  pub kept_some : {inv : ℕ → ℕ} → Divides o inv → (n : ℕ) (g : ℕ → Bool) (p w : ℕ → ℕ) (k : ℕ) → Apart q n p → k < n → 0 < p k → g k ≡ false
      → w k < q → 0 < w k → 0 < kept n g p w k
  kept_some d n g p w k a h z e i f = nonzero_mul l d (w k ⊗ spread l n g p (p k)) (p k) (l.mul_in _ _)
      (nonzero_mul l d (w k) (spread l n g p (p k)) i f (sum_in l _ _)
      (product_nonroot l d n g p (p k) (a.inside k h) a.inside (λ j u v s. true≢false (sym v ∙ ap g (sym (a.distinct k j h u s)) ∙ e))))
      (a.inside k h) z

  pub fits_same : (n m : ℕ) (c f g : ℕ → ℕ) → ((i : ℕ) → i < m → f i ≡ g i) → Fits o n c f m → Fits o n c g m
  fits_same n m c f g e fits i h u = sum_same l (suc n) (λ j. c j ⊗ g (i - j)) (λ j. c j ⊗ f (i - j)) (λ j _. ap (λ v. c j ⊗ v) (sym (e (i - j) (omega arith)))) ∙ fits i h u

  -- THE PRODUCT OVER THE ERRORS FITS their moments
  pub product_fits : (n : ℕ) (u : ℕ → Bool) (p w : ℕ → ℕ) (m : ℕ) → Only n u w → Fits o (count n u) (product o n u p) (moment o n p w) m
  product_fits n u p w m off i h _ =
      gap_moment l n (count n u) p w (product o n u p) i h
      ∙ sum_zero l n (λ k. w k ⊗ spread l n u p (p k) ⊗ power o (p k) (i - count n u))
      (λ k g. ap (λ v. v ⊗ power o (p k) (i - count n u)) (none k g (u k) refl) ∙ zero_mul l _)
    where
      none : (k : ℕ) → k < n → (b : Bool) → u k ≡ b → w k ⊗ spread l n u p (p k) ≡ 0
      none k g true e = ap (λ v. w k ⊗ v) (product_root l n u p k g e) ∙ mul_zero l (w k)
      none k g false e = ap (λ v. v ⊗ spread l n u p (p k)) (off k g e) ∙ zero_mul l _

  module _ {inv : ℕ → ℕ} (d : Divides o inv) where
    -- EVERY ERROR IS A ROOT: c of length s fits the first m moments of weights that u marks
    pub fitting_roots : (n s m : ℕ) (u : ℕ → Bool) (p w c : ℕ → ℕ) → Apart q n p → Only n u w → count n u + s ≤ m
        → Fits o s c (moment o n p w) m → (k : ℕ) → k < n → w k < q → 0 < w k → turned o s c (p k) ≡ 0
    unfolding power
    fitting_roots n s m u p w c a off h fits k g i z = zero_from_mul l d (w k) (turned o s c (p k)) i z (sum_in l (suc s) _)
        (vanish l d n (m - s) 0 p v u (record {
          points = a;
          nonzero = λ _ _. omega arith;
          weights = λ _ _. l.mul_in _ _;
          few = omega arith;
          off = λ k g e. ap (λ x. x ⊗ turned o s c (p k)) (off k g e) ∙ zero_mul l _;
          zero_at = λ j x y. moved j ∙ fits (j + s) (omega arith) (omega arith);
        }) k g)
      where
        v : ℕ → ℕ
        v k = w k ⊗ turned o s c (p k)

        moved : (j : ℕ) → moment o n p v j ≡ gap o s c (moment o n p w) (j + s)
        moved j = let e : j ≡ j + s - s = omega arith in ap (moment o n p v) e ∙ sym (gap_moment l n s p w c (j + s) (omega arith))

    -- n columns with the points p, and weights w, nonzero where u marks and there only
    module _ (n m : ℕ) (u : ℕ → Bool) (p w : ℕ → ℕ) (a : Apart q n p) (w-in : (k : ℕ) → k < n → w k < q) (off : Only n u w)
        (on : (k : ℕ) → k < n → u k ≡ true → 0 < w k) (enough : 2 * count n u ≤ m) where
      -- WHAT FITS, NO LONGER THAN THE ERRORS, IS THEIR PRODUCT
      pub fitting_product : (s : ℕ) (c : ℕ → ℕ) → Normal q s c → Fits o s c (moment o n p w) m → s ≤ count n u
          → (s ≡ count n u) × ((j : ℕ) → c j ≡ product o n u p j)
      fitting_product s c i fits short = (same, is_product l d n u p c a (subst (λ x. Normal q x c) same i) (subst (λ x. Rooted l n x u p c) same rooted))
        where
          rooted : Rooted l n s u p c
          rooted k h e = fitting_roots n s m u p w c a off (omega arith) fits k h (w-in k h) (on k h e)

          same : s ≡ count n u
          same = omega (arith, root_count l d n s u p c a i rooted)

      -- WHAT THE SOLVER FINDS, from values that are those moments
      pub least_product : (f : ℕ → ℕ) → ((i : ℕ) → i < m → f i ≡ moment o n p w i) → (s : ℕ) (c : ℕ → ℕ) → Least o f m s c
          → (s ≡ count n u) × ((j : ℕ) → c j ≡ product o n u p j)
      least_product f e s c x = fitting_product s c x.normal (fits_same s m c f (moment o n p w) e x.fits)
          (x.least (count n u) (product o n u p) (product_normal l n u p).constant
          (fits_same (count n u) m (product o n u p) (moment o n p w) f (λ i h. sym (e i h)) (product_fits n u p w m off)))
