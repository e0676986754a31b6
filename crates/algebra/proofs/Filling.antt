-- How r columns are filled by a table: each gets, for every syndrome, so much of it as the table says.
use Rattle.std.proofs.Common.{◌≡◌, ℕ, suc, ◌-◌, ◌<◌, ◌≤◌, true, false, cond, ◌⊎◌, List, length, get_or, sym, refl, ap, ◌∙◌, subst, ap₂, inl, inr, arith}
use Rattle.std.proofs.lemmas.Bool.{both_ways, cases_Bool, cond-true, cond-false, cond_both}
use Rattle.fields.specs.Rings.{RingOps, FieldOps, RingLaws, Inverses, Points, taken, sum, power}
use Rattle.fields.specs.Guard.{taken_in}
use Rattle.algebra.specs.Rows.{moment, syndrome, CodeRow, among, rising, Filled}
use Rattle.algebra.specs.Polynomials.{turned, quotient, gamma, weight, filler, value}
use Rattle.algebra.proofs.Count.{count_all, count_among}
use Rattle.algebra.proofs.Ring.{Solid, Divides, solid, divides}
use Rattle.algebra.proofs.Solve.{signed, mul_zero, zero_add, neg_neg, nonzero_mul}
use Rattle.algebra.proofs.Sum.{sum_in, sum_same, sum_neg, sum_scale, sum_only, power_nonzero}
use Rattle.algebra.proofs.Moments.{Apart, moment_add, moment_up}
use Rattle.algebra.proofs.Weights.{weights, Meets}
use Rattle.algebra.proofs.Roots.{values_moments}
use Rattle.algebra.proofs.Columns.{rising_below, rising_apart, among_entry, entry_among, scatter, scatter_on, scatter_off, scatter_moment}
use Rattle.algebra.proofs.Distance.{same_code_rows}
use Rattle.algebra.proofs.Polys.{turned_reverse}
use Rattle.algebra.proofs.Quotient.{without_others, without_itself}

module _ {o : RingOps} (l : Solid o) {inv : ℕ → ℕ} (d : Divides o inv) (r : ℕ) (p : ℕ → ℕ) (a : Apart o.order r p)
    (alive : (k : ℕ) → k < r → 0 < p k) where
  open o use {order as q, neg, add as ◌⊕◌, mul as ◌⊗◌}

  infixl 60 ◌⊕◌
  infixl 70 ◌⊗◌
  -- the product without the factor of column k
  abbrev without : ℕ → ℕ → ℕ
  without k = quotient o (p k) (gamma o r p)

  -- its turned value is 0 at the other points, and not at its own
  others : (k m : ℕ) → k < r → m < r → (m ≡ k → ⊥) → turned o (r - 1) (without k) (p m) ≡ 0
  others k m h g f = subst (λ c. turned o (c - 1) (without k) (p m) ≡ 0) (count_all r) (without_others l d r (λ _. true) p a k h refl m g refl f)

  itself : (k : ℕ) → k < r → 0 < turned o (r - 1) (without k) (p k)
  itself k h = subst (λ c. 0 < turned o (c - 1) (without k) (p k)) (count_all r) (without_itself l d r (λ _. true) p a k h refl)

  -- column k of the table, as a polynomial
  filler_value : (k x : ℕ) → k < r → value o r (λ s. filler o inv r p s k) x ≡ neg (weight o inv r p k) ⊗ turned o (r - 1) (without k) x
  filler_value k x h =
      sum_same l r (λ s. neg u ⊗ without k (r - 1 - s) ⊗ power o x s) (λ s. neg u ⊗ (without k (r - 1 - s) ⊗ power o x s)) (λ s _. l.mul_assoc _ _ _)
      ∙ sum_scale l r (neg u) (λ s. without k (r - 1 - s) ⊗ power o x s)
      ∙ ap (λ t. neg u ⊗ t) (ap (λ m. sum o m (λ s. without k (r - 1 - s) ⊗ power o x s)) all ∙ sym (turned_reverse l (r - 1) x (without k)))
    where
      u : ℕ
      u = weight o inv r p k

      all : r ≡ suc (r - 1)
      all = omega arith

  -- what the table gives of moments, negated, are the weights
  given : (w : ℕ → ℕ) (k : ℕ) → k < r → w k < q → sum o r (λ i. neg (moment o r p w (suc i)) ⊗ filler o inv r p i k) ≡ w k
  given w k h i =
      sum_same l r (λ i. neg (moment o r p w (suc i)) ⊗ c i) (λ i. neg (c i ⊗ moment o r p v i)) (λ i _. ap (λ t. neg t ⊗ c i) (moment_up l r p w i) ∙ simp (signed, l))
      ∙ sum_neg l r (λ i. c i ⊗ moment o r p v i)
      ∙ ap neg (values_moments l r r p v c
      ∙ sum_only l r k (λ m. v m ⊗ value o r c (p m)) h (l.mul_in _ _) (λ m g f. ap (λ t. v m ⊗ t) (filler_value k (p m) h ∙ ap (λ t. neg u ⊗ t) (others k m h g f) ∙ mul_zero l (neg u)) ∙ mul_zero l (v m))
      ∙ ap (λ t. v k ⊗ t) (filler_value k (p k) h))
      ∙ grouped (w k) (p k) u y
      ∙ ap (λ t. w k ⊗ t) (d.mul_inv (p k ⊗ y) (l.mul_in _ _) (nonzero_mul l d (p k) y (a.inside k h) (alive k h) (sum_in l _ _) (itself k h)))
      ∙ l.mul_one (w k) i
    where
      c : ℕ → ℕ
      c i = filler o inv r p i k

      v : ℕ → ℕ
      v m = w m ⊗ p m

      u : ℕ
      u = weight o inv r p k

      y : ℕ
      y = turned o (r - 1) (without k) (p k)

      grouped : (s t u z : ℕ) → neg (s ⊗ t ⊗ (neg u ⊗ z)) ≡ s ⊗ (t ⊗ z ⊗ u)
      grouped s t u z = simp (signed, l)

  -- THE TABLE FILLS: the columns filled by it have the moments that take s away
  pub fills : (s : ℕ → ℕ) → ((i : ℕ) → s i < q) → (j : ℕ) → 1 ≤ j → j ≤ r
      → moment o r p (λ k. sum o r (λ i. s i ⊗ filler o inv r p i k)) j ≡ neg (s (j - 1))
  fills s s-in j h g =
      let (w, m) = weights l d r 1 p (λ j. neg (s (j - 1))) a (λ k i. power_nonzero l d (p k) 1 (a.inside k i) (alive k i)) (λ j. l.neg_in _) in
      sum_same l r (λ k. sum o r (λ i. s i ⊗ filler o inv r p i k) ⊗ power o (p k) j) (λ k. w k ⊗ power o (p k) j) (λ k i. ap (λ t. t ⊗ power o (p k) j)
      (sum_same l r (λ i. s i ⊗ filler o inv r p i k) (λ i. neg (moment o r p w (suc i)) ⊗ filler o inv r p i k) (λ i e. ap (λ t. t ⊗ filler o inv r p i k) (back w m i e))
      ∙ given w k i (m.inside k)))
      ∙ m.meets j h (omega arith)
    where
      back : (w : ℕ → ℕ) → Meets o r 1 p (λ j. neg (s (j - 1))) w → (i : ℕ) → i < r → s i ≡ neg (moment o r p w (suc i))
      back w m i h = let e : suc i - 1 ≡ i = omega arith in sym (ap neg (m.meets (suc i) (omega arith) (omega arith) ∙ ap (λ t. neg (s t)) e) ∙ neg_neg l (s i) (s-in i))

module _ (f : FieldOps) (inv : ℕ → ℕ) (laws : RingLaws f.ring) (i : Inverses f.ring inv) (p : Points f.ring f.point) where
  open f.ring use {order as q, neg, add as ◌⊕◌, mul as ◌⊗◌}

  infixl 60 ◌⊕◌
  infixl 70 ◌⊗◌
  l : Solid f.ring
  l = solid f.ring laws

  -- zs is xs, its entries taken as elements, with 0 in the columns ms; ys is zs with these columns filled by the table
  module _ (ms xs zs ys : List ℕ) (up : rising 0 (length xs) ms ≡ true) (short : length xs < q)
      (long-z : length zs ≡ length xs) (start : (i : ℕ) → i < length xs → get_or zs i 0 ≡ cond (among i ms) 0 (taken q (get_or xs i 0)))
      (long-y : length ys ≡ length xs) (same : (i : ℕ) → i < length xs → among i ms ≡ false → get_or ys i 0 ≡ get_or zs i 0)
      (filled : (k : ℕ) → k < length ms → get_or ys (get_or ms k 0) 0
      ≡ sum f.ring (length ms) (λ s. syndrome f zs (suc s) ⊗ filler f.ring inv (length ms) (λ k. f.point (get_or ms k 0)) s k)) where
    abbrev col : ℕ → ℕ
    col k = get_or ms k 0

    -- what the columns get
    w : ℕ → ℕ
    w k = sum f.ring (length ms) (λ s. syndrome f zs (suc s) ⊗ filler f.ring inv (length ms) (λ k. f.point (get_or ms k 0)) s k)

    inside : (k : ℕ) → k < length ms → col k < length xs
    inside = rising_below 0 (length xs) ms up

    apart : Apart q (length ms) (λ k. f.point (col k))
    apart = record {
      inside = λ k h. p.point_in _;
      distinct = λ i j hi hj e. rising_apart 0 (length xs) ms up i j hi hj
          (p.point_apart (col i) (col j) (omega (arith, inside i hi)) (omega (arith, inside j hj)) e);
    }

    kept_in : (i : ℕ) → i < length xs → get_or zs i 0 < q
    kept_in i h = rw (start i h) (cond_both (among i ms) 0 (taken q (get_or xs i 0)) (λ v. v < q) (λ _. omega arith) (λ _. taken_in q (get_or xs i 0) (omega arith)))

    -- ys is zs and, on the columns, what they get
    parts : (i : ℕ) → i < length xs → get_or ys i 0 ≡ get_or zs i 0 ⊕ scatter f.ring (length ms) col w i
    unfolding w
    parts i h = go (cases_Bool (among i ms))
      where
        at : (k : ℕ) → k < length ms → col k ≡ i → get_or zs i 0 ≡ 0 → get_or ys (col k) 0 ≡ get_or zs i 0 ⊕ scatter f.ring (length ms) col w (col k)
        at k g e z = filled k g ∙ sym (ap₂ ◌⊕◌ z (scatter_on l (length ms) col w k g (sum_in l _ _) (λ j u s. rising_apart 0 (length xs) ms up j k u g s)) ∙ zero_add l _ (sum_in l _ _))

        go : (among i ms ≡ true) ⊎ (among i ms ≡ false) → get_or ys i 0 ≡ get_or zs i 0 ⊕ scatter f.ring (length ms) col w i
        go (inl a) = let (k, (g, e)) = entry_among i ms a in
            subst (λ c. get_or ys c 0 ≡ get_or zs i 0 ⊕ scatter f.ring (length ms) col w c) e (at k g e (start i h ∙ cond-true _ _ _ a))
        go (inr a) = same i h a ∙ sym (ap (λ t. get_or zs i 0 ⊕ t)
            (scatter_off l (length ms) col w i (λ k g e. both_ways (among i ms) a (ap (λ c. among c ms) (sym e) ∙ among_entry ms k g))) ∙ l.add_zero _ (kept_in i h))

    balanced : (j : ℕ) → 1 ≤ j → j ≤ length ms → syndrome f ys j ≡ 0
    unfolding w
    balanced j a b =
        let e : suc (j - 1) ≡ j = omega arith in
        ap (λ n. moment f.ring n f.point (λ i. get_or ys i 0) j) long-y
        ∙ sum_same l (length xs) (λ i. get_or ys i 0 ⊗ power f.ring (f.point i) j)
        (λ i. (get_or zs i 0 ⊕ scatter f.ring (length ms) col w i) ⊗ power f.ring (f.point i) j) (λ i h. ap (λ t. t ⊗ power f.ring (f.point i) j) (parts i h))
        ∙ moment_add l (length xs) f.point (λ i. get_or zs i 0) (scatter f.ring (length ms) col w) j
        ∙ ap₂ ◌⊕◌ (ap (λ n. moment f.ring n f.point (λ i. get_or zs i 0) j) (sym long-z))
        (scatter_moment l (length xs) (length ms) f.point col w j inside
        ∙ fills l (divides f.ring inv i) (length ms) (λ k. f.point (col k)) apart (λ k h. p.point_nonzero (col k) (omega (arith, inside k h)))
        (λ s. syndrome f zs (suc s)) (λ s. sum_in l _ _) j a b
        ∙ ap (λ s. neg (syndrome f zs s)) e)
        ∙ l.add_neg _

    elements : (i : ℕ) → i < length xs → get_or ys i 0 < q
    elements i h = rw (parts i h) (l.add_in _ _)

    code : CodeRow f (length ms) ys
    code = record { elements = λ i h. elements i (omega arith); balanced = balanced }

    kept : (i : ℕ) → i < length xs → among i ms ≡ false → get_or ys i 0 ≡ taken q (get_or xs i 0)
    kept i h a = same i h a ∙ start i h ∙ cond-false _ _ _ a

    -- A ROW FILLED BY THE TABLE is the code row that agrees with xs in the other columns, and there is no other
    pub filled_row : Filled f ms xs ys
    filled_row = record {
      is = record { long = long-y; code = code; kept = kept };
      only = λ us g. same_code_rows f inv laws i p (length ms) us ys (λ k. among k ms) g.code code (g.long ∙ sym long-y) (omega (arith, g.long))
          (count_among (length us) ms) (λ k h a. g.kept k (omega (arith, g.long)) a ∙ sym (kept k (omega (arith, g.long)) a));
    }
