-- Products of factors 1 - a z, as coefficients: their degree, their constant, their roots.
use Rattle.std.proofs.Common.{◌≡◌, ℕ, zero, suc, ◌-◌, ◌<◌, Bool, true, false, cond, sym, refl, ap, ◌∙◌, subst, ap₂, subst₂, true≢false, arith}
use native.Mathlib.Decide.{dec_lt}
use Rattle.fields.specs.Rings.{RingOps, sum, power}
use Rattle.algebra.specs.Polynomials.{unit, Normal, times, product, turned}
use Rattle.algebra.specs.Rows.{count}
use Rattle.algebra.proofs.Count.{count_on, count_off}
use Rattle.algebra.proofs.Ring.{Solid, Divides}
use Rattle.algebra.proofs.Solve.{ring, signed, mul_zero, zero_mul, nonzero_mul, equal_from_difference, positive}
use Rattle.algebra.proofs.Sum.{sum_in, sum_first, sum_last, sum_same, sum_add, sum_scale, sum_reverse}
use Rattle.algebra.proofs.Roots.{unit_in, unit_off}

module _ {o : RingOps} (l : Solid o) where
  open o use {order as q, neg, add as ◌⊕◌, mul as ◌⊗◌}

  infixl 60 ◌⊕◌
  infixl 70 ◌⊗◌
  -- a sum against c times 1 - a z, as two against c
  pub sum_times : (n a : ℕ) (c g : ℕ → ℕ) → sum o (suc n) (λ j. times o a c j ⊗ g j)
      ≡ sum o (suc n) (λ j. c j ⊗ g j) ⊕ neg (a ⊗ sum o n (λ j. c j ⊗ g (suc j)))
  unfolding times
  sum_times n a c g =
      sum_first l n (λ j. times o a c j ⊗ g j)
      ∙ ap (λ t. c 0 ⊗ g 0 ⊕ t)
      (sum_same l n (λ j. (c (suc j) ⊕ neg (a ⊗ c j)) ⊗ g (suc j)) (λ j. c (suc j) ⊗ g (suc j) ⊕ neg a ⊗ (c j ⊗ g (suc j)))
      (λ j _. each (c (suc j)) (c j) (g (suc j)))
      ∙ sum_add l n (λ j. c (suc j) ⊗ g (suc j)) (λ j. neg a ⊗ (c j ⊗ g (suc j)))
      ∙ ap (λ t. sum o n (λ j. c (suc j) ⊗ g (suc j)) ⊕ t) (sum_scale l n (neg a) (λ j. c j ⊗ g (suc j))))
      ∙ joined (c 0 ⊗ g 0) (sum o n (λ j. c (suc j) ⊗ g (suc j))) (sum o n (λ j. c j ⊗ g (suc j)))
      ∙ ap (λ t. t ⊕ neg (a ⊗ sum o n (λ j. c j ⊗ g (suc j)))) (sym (sum_first l n (λ j. c j ⊗ g j)))
    where
      each : (x y z : ℕ) → (x ⊕ neg (a ⊗ y)) ⊗ z ≡ x ⊗ z ⊕ neg a ⊗ (y ⊗ z)
      each x y z = simp (signed, l)

      joined : (x y z : ℕ) → x ⊕ (y ⊕ neg a ⊗ z) ≡ x ⊕ y ⊕ neg (a ⊗ z)
      joined x y z = simp (signed, l)

  -- one more coefficient, as Horner takes it
  pub turned_more : (n x : ℕ) (c : ℕ → ℕ) → c (suc n) < q → turned o (suc n) c x ≡ x ⊗ turned o n c x ⊕ c (suc n)
  unfolding power
  turned_more n x c h =
      sum_last l (suc n) (λ j. c j ⊗ power o x (suc n - j))
      ∙ ap₂ ◌⊕◌
      (sum_same l (suc n) (λ j. c j ⊗ power o x (suc n - j)) (λ j. x ⊗ (c j ⊗ power o x (n - j))) (λ j g. ap (λ t. c j ⊗ power o x t) (down j g) ∙ simp (ring, l))
      ∙ sum_scale l (suc n) x (λ j. c j ⊗ power o x (n - j)))
      (ap (λ t. c (suc n) ⊗ power o x t) none ∙ l.mul_one (c (suc n)) h)
    where
      down : (j : ℕ) → j < suc n → suc n - j ≡ suc (n - j)
      down j g = omega arith

      none : suc n - suc n ≡ 0
      none = omega arith

  pub turned_first : (x : ℕ) (c : ℕ → ℕ) → c 0 < q → turned o 0 c x ≡ c 0
  unfolding sum power
  turned_first x c h = let e : 0 - 0 ≡ 0 = omega arith in ap (λ t. 0 ⊕ c 0 ⊗ power o x t) e ∙ simp (ring, l, h)

  pub turned_same : (n x : ℕ) (b c : ℕ → ℕ) → ((j : ℕ) → b j ≡ c j) → turned o n b x ≡ turned o n c x
  turned_same n x b c e = sum_same l (suc n) (λ j. b j ⊗ power o x (n - j)) (λ j. c j ⊗ power o x (n - j)) (λ j _. ap (λ t. t ⊗ power o x (n - j)) (e j))

  -- its terms in the other order
  pub turned_reverse : (n x : ℕ) (c : ℕ → ℕ) → turned o n c x ≡ sum o (suc n) (λ j. c (n - j) ⊗ power o x j)
  turned_reverse n x c =
      sum_reverse l (suc n) (λ j. c j ⊗ power o x (n - j))
      ∙ sum_same l (suc n) (λ j. c (suc n - 1 - j) ⊗ power o x (n - (suc n - 1 - j))) (λ j. c (n - j) ⊗ power o x j)
      (λ j h. ap₂ (λ u v. c u ⊗ power o x v) (down j) (back j h))
    where
      down : (j : ℕ) → suc n - 1 - j ≡ n - j
      down j = omega arith

      back : (j : ℕ) → j < suc n → n - (suc n - 1 - j) ≡ j
      back j h = omega arith

  -- the turned value of c times 1 - a z
  pub turned_times : (n a x : ℕ) (c : ℕ → ℕ) → Normal q n c → turned o (suc n) (times o a c) x ≡ (x ⊕ neg a) ⊗ turned o n c x
  turned_times n a x c m =
      sum_times (suc n) a c (λ j. power o x (suc n - j))
      ∙ ap₂ (λ u v. u ⊕ neg (a ⊗ v)) (turned_more n x c (m.inside (suc n)) ∙ ap (λ t. x ⊗ y ⊕ t) (m.beyond (suc n) (omega arith)))
      (sum_same l (suc n) (λ j. c j ⊗ power o x (suc n - suc j)) (λ j. c j ⊗ power o x (n - j)) (λ j _. ap (λ t. c j ⊗ power o x t) (down j)))
      ∙ joined y
    where
      y : ℕ
      y = turned o n c x

      down : (j : ℕ) → suc n - suc j ≡ n - j
      down j = omega arith

      joined : (v : ℕ) → x ⊗ v ⊕ 0 ⊕ neg (a ⊗ v) ≡ (x ⊕ neg a) ⊗ v
      joined v = simp (signed, l)

  pub times_normal : (n a : ℕ) (c : ℕ → ℕ) → Normal q n c → Normal q (suc n) (times o a c)
  unfolding times
  times_normal n a c m = record { inside = inside; constant = m.constant; beyond = beyond }
    where
      inside : (j : ℕ) → times o a c j < q
      inside zero = m.inside 0
      inside (suc j) = l.add_in _ _

      beyond : (j : ℕ) → suc n < j → times o a c j ≡ 0
      beyond zero h = absurd (omega arith)
      beyond (suc j) h = let low : 0 < q = omega (arith, l.above) in
          ap₂ (λ u v. u ⊕ neg (a ⊗ v)) (m.beyond (suc j) (omega arith)) (m.beyond j (omega arith)) ∙ simp (signed, l)

  -- one more column, marked or not
  pub product_on : (n : ℕ) (t : ℕ → Bool) (p : ℕ → ℕ) → t n ≡ true → product o (suc n) t p ≡ times o (p n) (product o n t p)
  unfolding product
  product_on n t p e = ap (λ b. cond b (times o (p n) (product o n t p)) (product o n t p)) e

  pub product_off : (n : ℕ) (t : ℕ → Bool) (p : ℕ → ℕ) → t n ≡ false → product o (suc n) t p ≡ product o n t p
  unfolding product
  product_off n t p e = ap (λ b. cond b (times o (p n) (product o n t p)) (product o n t p)) e

  pub unit_normal : Normal q 0 (unit 0)
  unit_normal = record { inside = unit_in l 0; constant = refl; beyond = λ j h. unit_off 0 j (λ e. omega arith) }

  -- THE PRODUCT has constant 1 and the degree that it has factors
  pub product_normal : (n : ℕ) (t : ℕ → Bool) (p : ℕ → ℕ) → Normal q (count n t) (product o n t p)
  unfolding product count
  product_normal zero t p = unit_normal
  product_normal (suc n) t p = go (t n) refl (product_normal n t p)
    where
      go : (b : Bool) → t n ≡ b → Normal q (count n t) (product o n t p) → Normal q (count (suc n) t) (product o (suc n) t p)
      go true e m = subst₂ (Normal q) (sym (count_on n t e)) (sym (product_on n t p e)) (times_normal (count n t) (p n) (product o n t p) m)
      go false e m = subst₂ (Normal q) (sym (count_off n t e)) (sym (product_off n t p e)) m

  -- the turned value of the product, at any x
  abbrev pub spread : ℕ → (ℕ → Bool) → (ℕ → ℕ) → ℕ → ℕ
  spread n t p x = turned o (count n t) (product o n t p) x

  spread_none : (t : ℕ → Bool) (p : ℕ → ℕ) (x : ℕ) → spread 0 t p x ≡ 1
  unfolding product count
  spread_none t p x = turned_first x (unit 0) l.above

  spread_on : (n : ℕ) (t : ℕ → Bool) (p : ℕ → ℕ) (x : ℕ) → t n ≡ true → spread (suc n) t p x ≡ (x ⊕ neg (p n)) ⊗ spread n t p x
  spread_on n t p x e = ap₂ (λ m c. turned o m c x) (count_on n t e) (product_on n t p e) ∙ turned_times (count n t) (p n) x (product o n t p) (product_normal n t p)

  spread_off : (n : ℕ) (t : ℕ → Bool) (p : ℕ → ℕ) (x : ℕ) → t n ≡ false → spread (suc n) t p x ≡ spread n t p x
  spread_off n t p x e = ap₂ (λ m c. turned o m c x) (count_off n t e) (product_off n t p e)

  -- ITS ROOTS: 0 at each marked point
  pub product_root : (n : ℕ) (t : ℕ → Bool) (p : ℕ → ℕ) (k : ℕ) → k < n → t k ≡ true → spread n t p (p k) ≡ 0
  product_root zero t p k h e = absurd (omega arith)
  product_root (suc n) t p k h e = go (t n) refl (dec_lt k n) (product_root n t p k)
    where
      at : k ≡ n → p k ⊕ neg (p n) ≡ 0
      at i = ap (λ t. p t ⊕ neg (p n)) i ∙ l.add_neg (p n)

      go : (b : Bool) → t n ≡ b → Dec (k < n) → (k < n → t k ≡ true → spread n t p (p k) ≡ 0) → spread (suc n) t p (p k) ≡ 0
      go true f (yes g) ih = spread_on n t p (p k) f ∙ ap (λ v. (p k ⊕ neg (p n)) ⊗ v) (ih g e) ∙ mul_zero l _
      go true f (no g) ih = spread_on n t p (p k) f ∙ ap (λ v. v ⊗ spread n t p (p k)) (at (omega arith)) ∙ zero_mul l _
      go false f (yes g) ih = spread_off n t p (p k) f ∙ ih g e
      go false f (no g) ih = let i : k ≡ n = omega arith in absurd (true≢false (sym e ∙ ap t i ∙ f))

  -- and at no other
  pub product_nonroot : {inv : ℕ → ℕ} → Divides o inv → (n : ℕ) (t : ℕ → Bool) (p : ℕ → ℕ) (x : ℕ) → x < q → ((k : ℕ) → k < n → p k < q)
      → ((k : ℕ) → k < n → t k ≡ true → x ≡ p k → ⊥) → 0 < spread n t p x
  product_nonroot d zero t p x i z h = rw (spread_none t p x) (omega arith)
  product_nonroot d (suc n) t p x i z h = go (t n) refl (product_nonroot d n t p x i (λ k g. z k (omega arith)) (λ k g. h k (omega arith)))
    where
      go : (b : Bool) → t n ≡ b → 0 < spread n t p x → 0 < spread (suc n) t p x
      go true e ih = subst (λ v. 0 < v) (sym (spread_on n t p x e)) (nonzero_mul l d (x ⊕ neg (p n)) (spread n t p x) (l.add_in _ _)
          (positive (λ f. h n (omega arith) e (equal_from_difference l x (p n) i (z n (omega arith)) f))) (sum_in l _ _) ih)
      go false e ih = subst (λ v. 0 < v) (sym (spread_off n t p x e)) ih
