-- Dividing by 1 - a z: a polynomial with constant 1 is the product over its roots, if it has as many as its degree.
use Rattle.std.proofs.Common.{◌≡◌, ℕ, zero, suc, ◌-◌, ◌<◌, ◌≤◌, Bool, true, false, sym, refl, ap, ◌∙◌, subst, ap₂, arith}
use native.Mathlib.Decide.{le_ind, ℕ_discrete}
use Rattle.fields.specs.Rings.{RingOps}
use Rattle.algebra.specs.Polynomials.{unit, Normal, times, product, turned, quotient}
use Rattle.algebra.specs.Rows.{count}
use Rattle.algebra.proofs.Count.{count_some, count_on, count_off}
use Rattle.algebra.proofs.Ring.{Solid, Divides}
use Rattle.algebra.proofs.Solve.{ring, cancel_left, zero_from_mul, equal_from_difference, positive}
use Rattle.algebra.proofs.Sum.{sum_in}
use Rattle.algebra.proofs.Moments.{Apart}
use Rattle.algebra.proofs.Polys.{product_on, product_off, product_normal, product_root, turned_more, turned_first, turned_same, turned_times}

-- the first n points stay apart without the last
pub apart_less : (q n : ℕ) (p : ℕ → ℕ) → Apart q (suc n) p → Apart q n p
apart_less q n p a = record { inside = λ k h. a.inside k (omega arith); distinct = λ i j hi hj e. a.distinct i j (omega arith) (omega arith) e }

module _ {o : RingOps} (l : Solid o) where
  open o use {order as q, neg, add as ◌⊕◌, mul as ◌⊗◌}

  infixl 60 ◌⊕◌
  infixl 70 ◌⊗◌
  pub quotient_times : (n a : ℕ) (c : ℕ → ℕ) → Normal q n c → (j : ℕ) → times o a (quotient o a c) j ≡ c j
  unfolding times
  quotient_times n a c m zero = turned_first l a c (m.inside 0)
  quotient_times n a c m (suc j) =
      ap (λ v. v ⊕ neg (a ⊗ turned o j c a)) (turned_more l j a c (m.inside (suc j))) ∙ left (a ⊗ turned o j c a) (c (suc j)) (m.inside (suc j))
    where
      left : (u v : ℕ) → v < q → u ⊕ v ⊕ neg u ≡ v
      left u v h = l.add_comm (u ⊕ v) (neg u) ∙ cancel_left l u v h

  -- past the degree, a root leaves nothing
  pub quotient_beyond : (n a : ℕ) (c : ℕ → ℕ) → Normal q n c → turned o n c a ≡ 0 → (j : ℕ) → n ≤ j → quotient o a c j ≡ 0
  quotient_beyond n a c m e = le_ind (λ j. turned o j c a ≡ 0) e (λ j h ih. let low : 0 < q = omega (arith, l.above) in
      turned_more l j a c (m.inside (suc j)) ∙ ap₂ (λ u v. a ⊗ u ⊕ v) ih (m.beyond (suc j) (omega arith)) ∙ simp (ring, l))

  pub quotient_normal : (n a : ℕ) (c : ℕ → ℕ) → Normal q (suc n) c → turned o (suc n) c a ≡ 0 → Normal q n (quotient o a c)
  quotient_normal n a c m e = record {
    inside = λ j. sum_in l (suc j) _;
    constant = turned_first l a c (m.inside 0) ∙ m.constant;
    beyond = λ j h. quotient_beyond (suc n) a c m e j (omega arith);
  }

  -- c of constant 1 and degree n, with a root at a: its turned values
  pub turned_quotient : (n a x : ℕ) (c : ℕ → ℕ) → Normal q (suc n) c → turned o (suc n) c a ≡ 0
      → turned o (suc n) c x ≡ (x ⊕ neg a) ⊗ turned o n (quotient o a c) x
  turned_quotient n a x c m e =
      turned_same l (suc n) x c (times o a (quotient o a c)) (λ j. sym (quotient_times (suc n) a c m j))
      ∙ turned_times l n a x (quotient o a c) (quotient_normal n a c m e)

  times_same : (a : ℕ) (b c : ℕ → ℕ) → ((j : ℕ) → b j ≡ c j) → (j : ℕ) → times o a b j ≡ times o a c j
  unfolding times
  times_same a b c e zero = e 0
  times_same a b c e (suc j) = ap₂ (λ u v. u ⊕ neg (a ⊗ v)) (e (suc j)) (e j)

  -- t marks roots of c only
  abbrev pub Rooted : ℕ → ℕ → (ℕ → Bool) → (ℕ → ℕ) → (ℕ → ℕ) → Type 0
  Rooted n m t p c = (k : ℕ) → k < n → t k ≡ true → turned o m c (p k) ≡ 0

  module _ {inv : ℕ → ℕ} (d : Divides o inv) where
    -- other roots are roots of the quotient
    pub root_left : (n a x : ℕ) (c : ℕ → ℕ) → Normal q (suc n) c → turned o (suc n) c a ≡ 0 → a < q → x < q → (x ≡ a → ⊥)
        → turned o (suc n) c x ≡ 0 → turned o n (quotient o a c) x ≡ 0
    root_left n a x c m e i g f z = zero_from_mul l d (x ⊕ neg a) (turned o n (quotient o a c) x) (l.add_in _ _)
        (positive (λ h. f (equal_from_difference l x a g i h))) (sum_in l (suc n) _) (sym (turned_quotient n a x c m e) ∙ z)

    rooted_left : (n m : ℕ) (t : ℕ → Bool) (p c : ℕ → ℕ) → Apart q (suc n) p → Normal q (suc m) c → t n ≡ true → Rooted (suc n) (suc m) t p c
        → Rooted n m t p (quotient o (p n) c)
    rooted_left n m t p c a i e r k h f = root_left m (p n) (p k) c i (r n (omega arith) e) (a.inside n (omega arith)) (a.inside k (omega arith))
        (λ g. omega (arith, a.distinct k n (omega arith) (omega arith) g)) (r k (omega arith) f)

    -- AT MOST m ROOTS
    pub root_count : (n m : ℕ) (t : ℕ → Bool) (p c : ℕ → ℕ) → Apart q n p → Normal q m c → Rooted n m t p c → count n t ≤ m
    unfolding count
    root_count zero m t p c a i r = omega arith
    root_count (suc n) m t p c a i r = go (t n) refl m i r (root_count n)
      where
        go : (b : Bool) → t n ≡ b → (m : ℕ) → Normal q m c → Rooted (suc n) m t p c
            → ((m : ℕ) (t : ℕ → Bool) (p c : ℕ → ℕ) → Apart q n p → Normal q m c → Rooted n m t p c → count n t ≤ m) → count (suc n) t ≤ m
        go true e zero i r ih = absurd (omega (arith, i.constant, turned_first l (p n) c (i.inside 0), r n (omega arith) e))
        go true e (suc m) i r ih = omega (
          arith,
          count_on n t e,
          ih m t p (quotient o (p n) c) (apart_less q n p a)
              (quotient_normal m (p n) c i (r n (omega arith) e)) (rooted_left n m t p c a i e r),
        )
        go false e m i r ih = omega (arith, count_off n t e, ih m t p c (apart_less q n p a) i (λ k h. r k (omega arith)))

    -- AS MANY ROOTS AS ITS DEGREE: it is the product
    pub is_product : (n : ℕ) (t : ℕ → Bool) (p c : ℕ → ℕ) → Apart q n p → Normal q (count n t) c → Rooted n (count n t) t p c
        → (j : ℕ) → c j ≡ product o n t p j
    unfolding count product
    is_product zero t p c a i r j = constant j
      where
        constant : (j : ℕ) → c j ≡ unit 0 j
        constant zero = i.constant
        constant (suc j) = i.beyond (suc j) (omega arith)
    is_product (suc n) t p c a i r j = go (t n) refl (is_product n t p)
      where
        go : (b : Bool) → t n ≡ b → ((c : ℕ → ℕ) → Apart q n p → Normal q (count n t) c → Rooted n (count n t) t p c → (j : ℕ) → c j ≡ product o n t p j)
            → c j ≡ product o (suc n) t p j
        go true e ih =
            let i' : Normal q (suc (count n t)) c = subst (λ m. Normal q m c) (count_on n t e) i in
            let r' : Rooted (suc n) (suc (count n t)) t p c = subst (λ m. Rooted (suc n) m t p c) (count_on n t e) r in
            sym (quotient_times (suc (count n t)) (p n) c i' j)
            ∙ times_same (p n) (quotient o (p n) c) (product o n t p)
            (ih (quotient o (p n) c) (apart_less q n p a) (quotient_normal (count n t) (p n) c i' (r' n (omega arith) e)) (rooted_left n (count n t) t p c a i' e r')) j
            ∙ ap (λ b. b j) (sym (product_on l n t p e))
        go false e ih = ih c (apart_less q n p a) (subst (λ m. Normal q m c) (count_off n t e) i)
            (λ k h. subst (λ m. Rooted (suc n) m t p c) (count_off n t e) r k (omega arith)) j ∙ ap (λ b. b j) (sym (product_off l n t p e))

    -- the product without the factor of one of its columns, k
    module _ (n : ℕ) (t : ℕ → Bool) (p : ℕ → ℕ) (a : Apart q n p) (k : ℕ) (h : k < n) (e : t k ≡ true) where
      degree : count n t ≡ suc (count n t - 1)
      degree = omega (arith, count_some n k t h e)

      normal : Normal q (suc (count n t - 1)) (product o n t p)
      normal = subst (λ m. Normal q m (product o n t p)) degree (product_normal l n t p)

      root : (i : ℕ) → i < n → t i ≡ true → turned o (suc (count n t - 1)) (product o n t p) (p i) ≡ 0
      root i g b = subst (λ m. turned o m (product o n t p) (p i) ≡ 0) degree (product_root l n t p i g b)

      -- ITS OTHER ROOTS are left
      pub without_others : (i : ℕ) → i < n → t i ≡ true → (i ≡ k → ⊥) → turned o (count n t - 1) (quotient o (p k) (product o n t p)) (p i) ≡ 0
      without_others i g b f = root_left (count n t - 1) (p k) (p i) (product o n t p) normal (root k h e) (a.inside k h) (a.inside i g)
          (λ s. f (a.distinct i k g h s)) (root i g b)

      -- and this one is not
      pub without_itself : 0 < turned o (count n t - 1) (quotient o (p k) (product o n t p)) (p k)
      without_itself = positive (λ z. omega (
        arith,
        degree,
        root_count n (count n t - 1) t p (quotient o (p k) (product o n t p)) a (quotient_normal (count n t - 1) (p k) (product o n t p) normal (root k h e))
            (λ i g b. at z i g b (ℕ_discrete i k)),
      ))
        where
          at : turned o (count n t - 1) (quotient o (p k) (product o n t p)) (p k) ≡ 0 → (i : ℕ) → i < n → t i ≡ true → Dec (i ≡ k)
              → turned o (count n t - 1) (quotient o (p k) (product o n t p)) (p i) ≡ 0
          at z i g b (yes s) = ap (λ m. turned o (count n t - 1) (quotient o (p k) (product o n t p)) (p m)) s ∙ z
          at z i g b (no f) = without_others i g b f
