-- Code rows that differ in few columns are equal.
use Rattle.std.proofs.Common.{◌≡◌, ℕ, ◌+◌, ◌*◌, ◌<◌, ◌≤◌, Bool, false, not, ◌||◌, eqb, List, [], length, get_or, sym, refl, ap, ◌∙◌, ap₂, zero-add, arith}
use Rattle.std.proofs.lemmas.List.{ext_get_or}
use Rattle.std.proofs.lemmas.Bool.{or_parts, not-false, eqb-true}
use Rattle.fields.specs.Rings.{RingOps, FieldOps, RingLaws, Inverses, Points, power}
use Rattle.algebra.specs.Rows.{count, moment, CodeRow, among, differing}
use Rattle.algebra.proofs.Count.{count_or, count_among, differing_count}
use Rattle.algebra.proofs.Ring.{Solid, solid, divides}
use Rattle.algebra.proofs.Solve.{neg_mul, equal_from_difference, distrib_right}
use Rattle.algebra.proofs.Sum.{sum_same, sum_add, sum_neg, power_nonzero}
use Rattle.algebra.proofs.Moments.{Apart, vanish}

module _ {o : RingOps} (l : Solid o) where
  open o use {order as q, neg, add as ◌⊕◌, mul as ◌⊗◌}

  infixl 60 ◌⊕◌
  infixl 70 ◌⊗◌
  -- the moments of a difference
  pub moment_minus : (n : ℕ) (p x y : ℕ → ℕ) (j : ℕ)
      → moment o n p (λ k. x k ⊕ neg (y k)) j ≡ moment o n p x j ⊕ neg (moment o n p y j)
  moment_minus n p x y j =
      sum_same l n (λ k. (x k ⊕ neg (y k)) ⊗ a k) (λ k. x k ⊗ a k ⊕ neg (y k ⊗ a k))
      (λ k h. distrib_right l (a k) (x k) (neg (y k)) ∙ ap (λ t. x k ⊗ a k ⊕ t) (sym (neg_mul l (y k) (a k))))
      ∙ sum_add l n (λ k. x k ⊗ a k) (λ k. neg (y k ⊗ a k))
      ∙ ap (λ t. moment o n p x j ⊕ t) (sum_neg l n (λ k. y k ⊗ a k))
    where
      a : ℕ → ℕ
      a k = power o (p k) j

-- the points of columns below n are distinct
pub columns_apart : (f : FieldOps) → Points f.ring f.point → (n : ℕ) → n < f.ring.order → Apart f.ring.order n f.point
columns_apart f p n h = record { inside = λ k _. p.point_in k; distinct = λ a b ha hb. p.point_apart a b (omega arith) (omega arith) }

module _ (f : FieldOps) (inv : ℕ → ℕ) (laws : RingLaws f.ring) (i : Inverses f.ring inv) (p : Points f.ring f.point) where
  l : Solid f.ring
  l = solid f.ring laws

  -- two code rows that differ at most where the test t says, in at most r columns, are equal
  pub same_code_rows : (r : ℕ) (xs ys : List ℕ) (t : ℕ → Bool) → CodeRow f r xs → CodeRow f r ys → length xs ≡ length ys → length xs < f.ring.order
      → count (length xs) t ≤ r → ((k : ℕ) → k < length xs → t k ≡ false → get_or xs k 0 ≡ get_or ys k 0) → xs ≡ ys
  same_code_rows r xs ys t cx cy e short few off = ext_get_or 0 xs ys e (λ k h.
      equal_from_difference l (get_or xs k 0) (get_or ys k 0) (cx.elements k h) (cy.elements k (omega arith))
      (vanish l (divides f.ring inv i) (length xs) r 1 f.point (λ k. f.ring.add (get_or xs k 0) (f.ring.neg (get_or ys k 0))) t (record {
        points = columns_apart f p (length xs) short;
        nonzero = λ k h. power_nonzero l (divides f.ring inv i) (f.point k) 1 (p.point_in k) (p.point_nonzero k (omega arith));
        weights = λ k h. laws.add_in _ _;
        few = few;
        off = λ k h z. ap (λ v. f.ring.add v (f.ring.neg (get_or ys k 0))) (off k h z) ∙ l.add_neg (get_or ys k 0);
        zero_at = λ j a b. moment_minus l (length xs) f.point (λ k. get_or xs k 0) (λ k. get_or ys k 0) j
            ∙ ap₂ (λ u v. f.ring.add u (f.ring.neg v)) (balanced_moment xs cx refl j a (omega arith)) (balanced_moment ys cy e j a (omega arith))
            ∙ l.add_neg 0;
      }) k h))
    where
      balanced_moment : (cs : List ℕ) → CodeRow f r cs → length xs ≡ length cs → (j : ℕ) → 1 ≤ j → j ≤ r
          → moment f.ring (length xs) f.point (λ k. get_or cs k 0) j ≡ 0
      balanced_moment cs c h j a b = rw h (c.balanced j a b)

  -- DISTANCE: two code rows that differ in at most r columns are equal
  pub code_rows_apart : (r : ℕ) (xs ys : List ℕ) → CodeRow f r xs → CodeRow f r ys → length xs ≡ length ys → length xs < f.ring.order
      → differing [] 0 xs ys ≤ r → xs ≡ ys
  code_rows_apart r xs ys cx cy e short few = same_code_rows r xs ys (λ k. not (eqb (get_or xs k 0) (get_or ys k 0))) cx cy e short
      (omega (arith, differing_count [] 0 xs ys e)) (λ k h z. eqb-true _ _ (not-false _ z))

  -- IN REACH OF ONE ROW: two code rows that are each close enough to zs are equal
  pub one_code_row : (r : ℕ) (ms xs ys zs : List ℕ) → CodeRow f r xs → CodeRow f r ys → length xs ≡ length zs → length ys ≡ length zs → length zs < f.ring.order
      → 2 * differing ms 0 xs zs + length ms ≤ r → 2 * differing ms 0 ys zs + length ms ≤ r → xs ≡ ys
  one_code_row r ms xs ys zs cx cy ex ey short nx ny = same_code_rows r xs ys (λ k. among k ms || (u xs k || u ys k)) cx cy (ex ∙ sym ey) (omega arith)
      (omega (
        arith,
        count_or (length xs) (λ k. among k ms) (λ k. u xs k || u ys k),
        count_or (length xs) (u xs) (u ys),
        count_among (length xs) ms,
        simp zero-add at (differing_count ms 0 xs zs ex),
        rw (ey ∙ sym ex) at (simp zero-add at (differing_count ms 0 ys zs ey)),
      ))
      (λ k h z. same k (or_parts _ _ z))
    where
      u : List ℕ → ℕ → Bool
      u cs k = not (among k ms || eqb (get_or cs k 0) (get_or zs k 0))

      as_other : (cs : List ℕ) (k : ℕ) → among k ms ≡ false → u cs k ≡ false → get_or cs k 0 ≡ get_or zs k 0
      as_other cs k a b = eqb-true _ _ (ap (λ v. v || eqb (get_or cs k 0) (get_or zs k 0)) (sym a) ∙ not-false _ b)

      same : (k : ℕ) → (among k ms ≡ false) × ((u xs k || u ys k) ≡ false) → get_or xs k 0 ≡ get_or ys k 0
      same k (a, b) = let c = or_parts _ _ b in as_other xs k a c.0 ∙ sym (as_other ys k a c.1)
