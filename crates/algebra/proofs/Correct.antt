-- The decoder on rows that are lists: the steps give the code row that is close enough.
use Rattle.std.proofs.Common.{◌≡◌, ℕ, ◌+◌, ◌-◌, ◌*◌, ◌<◌, ◌≤◌, false, not, ◌||◌, eqb, List, length, get_or, sym, refl, ap, ◌∙◌, subst, inl, inr, zero-add, arith}
use Rattle.std.proofs.lemmas.List.{ext_get_or}
use Rattle.std.proofs.lemmas.Bool.{cases_Bool}
use Rattle.fields.specs.Rings.{RingOps, FieldOps, RingLaws, Inverses, Points}
use Rattle.algebra.specs.Rows.{count, CodeRow, among, differing, CloseRow, Corrected}
use Rattle.algebra.specs.Polynomials.{unit}
use Rattle.algebra.specs.Recurrences.{Least, at}
use Rattle.algebra.proofs.Count.{count_among, count_same, differing_count}
use Rattle.algebra.proofs.Ring.{Solid, solid, divides}
use Rattle.algebra.proofs.Distance.{columns_apart, one_code_row}
use Rattle.algebra.proofs.Find.{fits_same}
use Rattle.algebra.proofs.Decode.{Close, remaining, damaged, corrected, decodes}

-- the row ys, where the columns ms are marked: what the solver is given
abbrev pub values : FieldOps → List ℕ → List ℕ → ℕ → ℕ
values f ms ys = remaining f.ring (length ys) f.point (λ k. get_or ys k 0) (λ k. among k ms)

-- and with r checks, the row that comes of c, of length s, that it found
abbrev pub result : FieldOps → (ℕ → ℕ) → List ℕ → List ℕ → ℕ → ℕ → (ℕ → ℕ) → ℕ → ℕ
result f inv ms ys r s c = corrected f.ring inv (length ys) f.point (λ k. get_or ys k 0) r (damaged f.ring inv f.point (λ k. among k ms) s c)

-- a recurrence that is least for some values is least for values that agree with them
pub least_same : {o : RingOps} → Solid o → (f g : ℕ → ℕ) (m n : ℕ) (c : ℕ → ℕ) → ((i : ℕ) → i < m → f i ≡ g i) → Least o f m n c → Least o g m n c
least_same l f g m n c e x = record {
  normal = x.normal;
  fits = fits_same l n m c f g e x.fits;
  least = λ k b one fit. x.least k b one (fits_same l k m b g f (λ i h. sym (e i h)) fit);
}

-- it is no longer than there are values
pub least_short : {o : RingOps} (f : ℕ → ℕ) (m n : ℕ) (c : ℕ → ℕ) → Least o f m n c → n ≤ m
least_short f m n c x = x.least m (unit 0) refl (λ i a b. absurd (omega arith))

-- what stands in the marked columns does not count
pub differing_same : (ms cs ss ts : List ℕ) → length cs ≡ length ss → length ts ≡ length ss
    → ((k : ℕ) → k < length ss → among k ms ≡ false → get_or ss k 0 ≡ get_or ts k 0) → differing ms 0 cs ss ≡ differing ms 0 cs ts
differing_same ms cs ss ts e h same =
    simp zero-add at (differing_count ms 0 cs ss e)
    ∙ count_same (length cs) (λ k. not (among k ms || eqb (get_or cs k 0) (get_or ss k 0))) (λ k. not (among k ms || eqb (get_or cs k 0) (get_or ts k 0))) (λ k g. ap not (at k (omega arith)))
    ∙ sym (simp zero-add at (differing_count ms 0 cs ts (e ∙ sym h)))
  where
    at : (k : ℕ) → k < length ss → (among k ms || eqb (get_or cs k 0) (get_or ss k 0)) ≡ (among k ms || eqb (get_or cs k 0) (get_or ts k 0))
    at k g = elim (cases_Bool (among k ms)) [
      | inl p ↦ ap (λ b. b || eqb (get_or cs k 0) (get_or ss k 0)) p ∙ sym (ap (λ b. b || eqb (get_or cs k 0) (get_or ts k 0)) p)
      | inr p ↦ ap (λ (n : ℕ). among k ms || eqb (get_or cs k 0) n) (same k g p)
    ]

pub close_same : (f : FieldOps) (r : ℕ) (ms ss ts cs : List ℕ) → length ts ≡ length ss
    → ((k : ℕ) → k < length ss → among k ms ≡ false → get_or ss k 0 ≡ get_or ts k 0) → CloseRow f r ms ss cs → CloseRow f r ms ts cs
close_same f r ms ss ts cs h same c = record { long = c.long ∙ sym h; code = c.code; few = omega (arith, c.few, differing_same ms cs ss ts c.long h same) }

module _ (f : FieldOps) (inv : ℕ → ℕ) (laws : RingLaws f.ring) (i : Inverses f.ring inv) (p : Points f.ring f.point) where
  close : (r : ℕ) (ms xs ys : List ℕ) → CodeRow f r xs → length xs ≡ length ys → length ys < f.ring.order → ((k : ℕ) → k < length ys → get_or ys k 0 < f.ring.order)
      → 2 * differing ms 0 xs ys + length ms ≤ r
      → Close f.ring (length ys) r f.point (λ k. among k ms) (λ k. get_or xs k 0) (λ k. get_or ys k 0)
  close r ms xs ys cx e short inside few = record {
    points = columns_apart f p (length ys) short;
    alive = λ k h. p.point_nonzero k (omega arith);
    x_in = λ k h. cx.elements k (omega arith);
    y_in = inside;
    balanced = λ j a b. rw (← e) (cx.balanced j a b);
    few = omega (arith, count_among (length ys) ms, rw e at (simp zero-add at (differing_count ms 0 xs ys e)));
  }

  -- THE CODE ROW THAT IS CLOSE ENOUGH is what comes of any least fitting recurrence
  pub correct : (r : ℕ) (ms xs ys zs : List ℕ) → CodeRow f r xs → length xs ≡ length ys → length ys < f.ring.order
      → ((k : ℕ) → k < length ys → get_or ys k 0 < f.ring.order) → 2 * differing ms 0 xs ys + length ms ≤ r → (s : ℕ) (c : ℕ → ℕ)
      → Least f.ring (values f ms ys) (r - count (length ys) (λ k. among k ms)) s c
      → length zs ≡ length ys → ((k : ℕ) → k < length ys → get_or zs k 0 ≡ result f inv ms ys r s c k) → zs ≡ xs
  correct r ms xs ys zs cx e short inside few s c found ez z = ext_get_or 0 zs xs (ez ∙ sym e) (λ k h. z k (omega arith)
      ∙ decodes (solid f.ring laws) (divides f.ring inv i) (length ys) r f.point (λ k. among k ms) (λ k. get_or xs k 0) (λ k. get_or ys k 0)
      (close r ms xs ys cx e short inside few) s c found k (omega arith))

  -- the same for n columns that rise, of which ms are marked
  pub close_corrected : (n r : ℕ) (ms cs ys zs : List ℕ) → length ys ≡ n → n < f.ring.order → ((k : ℕ) → k < n → get_or ys k 0 < f.ring.order) → (s : ℕ) (c : ℕ → ℕ)
      → Least f.ring (remaining f.ring n f.point (at ys) (λ k. among k ms)) (r - count n (λ k. among k ms)) s c
      → length zs ≡ n → ((k : ℕ) → k < n → get_or zs k 0 ≡ corrected f.ring inv n f.point (at ys) r (damaged f.ring inv f.point (λ k. among k ms) s c) k)
      → CloseRow f r ms ys cs → zs ≡ cs
  close_corrected n r ms cs ys zs e = subst (λ (n : ℕ). n < f.ring.order → ((k : ℕ) → k < n → get_or ys k 0 < f.ring.order) → (s : ℕ) (c : ℕ → ℕ)
      → Least f.ring (remaining f.ring n f.point (at ys) (λ k. among k ms)) (r - count n (λ k. among k ms)) s c
      → length zs ≡ n → ((k : ℕ) → k < n → get_or zs k 0 ≡ corrected f.ring inv n f.point (at ys) r (damaged f.ring inv f.point (λ k. among k ms) s c) k)
      → CloseRow f r ms ys cs → zs ≡ cs) e
      (λ short inside s c found ez z near. correct r ms cs ys zs near.code near.long short inside near.few s c found ez z)

  -- a code row that is close enough is the only one
  pub only_close : (r : ℕ) (ms ss cs : List ℕ) → length ss < f.ring.order → CloseRow f r ms ss cs → Corrected f r ms ss cs
  only_close r ms ss cs short c = record {
    close = c;
    only = λ zs z. one_code_row f inv laws i p r ms zs cs ss z.code c.code z.long c.long short z.few c.few;
  }
