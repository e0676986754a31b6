-- Whether a row is a code row that is close enough, from its syndromes and the columns that differ.
use Rattle.std.proofs.Common.{◌≡◌, ℕ, suc, ◌+◌, ◌-◌, ◌*◌, ◌<◌, ◌≤◌, Bool, false, not, ◌||◌, eqb, leb, List, length, get_or, take, sym, refl, ap, ◌∙◌, subst, ap₂, zero-add, arith}
use Rattle.std.proofs.lemmas.List.{length-take, get_or-take}
use Rattle.std.proofs.lemmas.Bool.{eq-eqb, or_right, leb-true, leb-false}
use Rattle.fields.specs.Rings.{FieldOps}
use Rattle.algebra.specs.Rows.{count, moment, among, differing, CodeRow, CloseRow}
use Rattle.algebra.specs.Recurrences.{at}
use Rattle.algebra.proofs.Count.{count_same, count_none, differing_count}
use Rattle.codes.specs.Correct.{Flagged, Tells, Syndromes}

-- the first n symbols of a row of 256
pub part_long : (n : ℕ) (row : List ℕ) → n ≤ 256 → length row ≡ 256 → length (take n row) ≡ n
part_long n row h e = length-take n row ∙ omega arith

-- the first r of some values, where all of them are 0
pub zero_part : (r : ℕ) (xs : List ℕ) → r ≤ length xs → ((j : ℕ) → j < length (take r xs) → get_or (take r xs) j 0 ≡ 0) → (j : ℕ) → j < r → get_or xs j 0 ≡ 0
zero_part r xs h z j l = sym (get_or-take r xs j 0 l) ∙ z j (omega (arith, length-take r xs))

pub part_zero : (r : ℕ) (xs : List ℕ) → ((j : ℕ) → j < r → get_or xs j 0 ≡ 0) → (j : ℕ) → j < length (take r xs) → get_or (take r xs) j 0 ≡ 0
part_zero r xs z j l = let h : j < r = omega (arith, length-take r xs) in get_or-take r xs j 0 h ∙ z j h

-- a code row, by its syndromes
module _ (f : FieldOps) (n r : ℕ) (row ss : List ℕ) (h : n ≤ 256) (e : length row ≡ 256) (s : Syndromes f n r row ss) where
  moment_part : (j : ℕ) → 1 ≤ j → j ≤ r → get_or ss (j - 1) 0 ≡ moment f.ring (length (take n row)) f.point (at (take n row)) j
  moment_part j a b =
      let k : j - 1 + 1 ≡ j = omega arith in
      s.is (j - 1) (omega arith) ∙ ap₂ (λ (m i : ℕ). moment f.ring m f.point (at (take n row)) i) (sym (part_long n row h e)) k

  pub code_from_zero : ((k : ℕ) → k < n → get_or row k 0 < f.ring.order) → ((j : ℕ) → j < r → get_or ss j 0 ≡ 0) → CodeRow f r (take n row)
  code_from_zero inside z = record {
    elements = λ k g.
        let i : k < n = omega (arith, part_long n row h e) in
        subst (λ (a : ℕ). a < f.ring.order) (sym (get_or-take n row k 0 i)) (inside k i);
    balanced = λ j a b. sym (moment_part j a b) ∙ z (j - 1) (omega arith);
  }

  pub zero_from_code : CodeRow f r (take n row) → (j : ℕ) → j < r → get_or ss j 0 ≡ 0
  zero_from_code c j g =
      let k : suc j - 1 ≡ j = omega arith in
      ap (λ (i : ℕ). get_or ss i 0) (sym k) ∙ moment_part (suc j) (omega arith) (omega arith) ∙ c.balanced (suc j) (omega arith) (omega arith)

-- the columns that differ
pub distance_differing : (n : ℕ) (ms : List ℕ) (flags : List Bool) (xs ys : List ℕ) → n ≤ 256 → length xs ≡ 256 → length ys ≡ 256 → Flagged n (λ k. among k ms) flags
    → count n (λ k. not (get_or flags k false || eqb (get_or xs k 0) (get_or ys k 0))) ≡ differing ms 0 (take n xs) (take n ys)
distance_differing n ms flags xs ys h ex ey u =
    count_same n (λ k. not (get_or flags k false || eqb (get_or xs k 0) (get_or ys k 0))) (λ k. not (among k ms || eqb (get_or (take n xs) k 0) (get_or (take n ys) k 0)))
    (λ k g. ap not (ap₂ ◌||◌ (u.is k g) (ap₂ eqb (sym (get_or-take n xs k 0 g)) (sym (get_or-take n ys k 0 g)))))
    ∙ ap (λ (m : ℕ). count m (λ k. not (among k ms || eqb (get_or (take n xs) k 0) (get_or (take n ys) k 0)))) (sym long)
    ∙ sym (simp zero-add at (differing_count ms 0 (take n xs) (take n ys) (long ∙ sym (part_long n ys h ey))))
  where
    long : length (take n xs) ≡ n
    long = part_long n xs h ex

-- no column of a row differs from itself
pub differing_self : (ms xs : List ℕ) → differing ms 0 xs xs ≡ 0
differing_self ms xs =
    simp zero-add at (differing_count ms 0 xs xs refl)
    ∙ count_same (length xs) (λ k. not (among k ms || eqb (get_or xs k 0) (get_or xs k 0))) (λ _. false) (λ k h. ap not (or_right _ _ (eq-eqb (get_or xs k 0) (get_or xs k 0) refl)))
    ∙ count_none (length xs)

-- a code row of which few enough columns differ is close enough, and no other is
pub close_tells : (f : FieldOps) (n r : ℕ) (ms : List ℕ) (flags : List Bool) (row zs ss : List ℕ) (d : ℕ) → n ≤ 256 → length row ≡ 256 → length zs ≡ 256
    → Flagged n (λ k. among k ms) flags → Syndromes f n r zs ss → ((k : ℕ) → k < n → get_or zs k 0 < f.ring.order) → ((j : ℕ) → j < r → get_or ss j 0 ≡ 0)
    → d ≡ count n (λ k. not (get_or flags k false || eqb (get_or zs k 0) (get_or row k 0))) → Tells (leb (2 * d + length ms) r) (CloseRow f r ms (take n row) (take n zs))
close_tells f n r ms flags row zs ss d h ey ez u s inside z e = record {
  yes = λ t. record {
    long = part_long n zs h ez ∙ sym (part_long n row h ey);
    code = code_from_zero f n r zs ss h ez s inside z;
    few = omega (arith, leb-true (2 * d + length ms) r t, e, distance_differing n ms flags zs row h ez ey u);
  };
  no = λ t c. omega (arith, leb-false (2 * d + length ms) r t, c.few, e, distance_differing n ms flags zs row h ez ey u);
}

-- a code row is close enough to itself, however few columns may be marked
pub close_self : (f : FieldOps) (r : ℕ) (ms xs : List ℕ) → CodeRow f r xs → length ms ≤ r → CloseRow f r ms xs xs
close_self f r ms xs c h = record { long = refl; code = c; few = omega (arith, differing_self ms xs) }
