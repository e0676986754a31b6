-- The least fitting recurrence, one value at a time.
use Rattle.std.proofs.Common.{◌≡◌, ℕ, zero, suc, ◌+◌, ◌-◌, ◌*◌, ◌<◌, ◌≤◌, sym, refl, ap, ◌∙◌, ap₂, suc-add, zero-add, arith}
use native.Mathlib.Decide.{dec_lt}
use Rattle.fields.specs.Rings.{RingOps, sum}
use Rattle.algebra.specs.Polynomials.{Normal}
use Rattle.algebra.specs.Recurrences.{gap, Fits, Least}
use Rattle.algebra.proofs.Ring.{Solid}
use Rattle.algebra.proofs.Solve.{ring, signed, zero_mul, zero_add as zero_plus}
use Rattle.algebra.proofs.Sum.{sum_in, sum_first, sum_same, sum_add, sum_scale, sum_beyond}
use Rattle.algebra.proofs.Recur.{no_gap}
use Rattle.solver.specs.Stages.{shift, mended, Stage}

pub shift_below : (m : ℕ) (b : ℕ → ℕ) (j : ℕ) → j < m → shift m b j ≡ 0
shift_below zero b j h = absurd (omega arith)
shift_below (suc m) b zero h = refl
shift_below (suc m) b (suc j) h = shift_below m b j (omega arith)

pub shift_from : (m : ℕ) (b : ℕ → ℕ) (j : ℕ) → m ≤ j → shift m b j ≡ b (j - m)
shift_from zero b j h = let e : j ≡ j - 0 = omega arith in ap b e
shift_from (suc m) b zero h = absurd (omega arith)
shift_from (suc m) b (suc j) h = let e : j - m ≡ suc j - suc m = omega arith in shift_from m b j (omega arith) ∙ ap b e

module _ {o : RingOps} (l : Solid o) where
  open o use {order as q, neg, add as ◌⊕◌, mul as ◌⊗◌}

  infixl 60 ◌⊕◌
  infixl 70 ◌⊗◌
  pub shift_beyond : (k m : ℕ) (b : ℕ → ℕ) → Normal q k b → (j : ℕ) → k + m < j → shift m b j ≡ 0
  shift_beyond k m b a j h = shift_from m b j (omega arith) ∙ a.beyond (j - m) (omega arith)

  sum_shift : (n m : ℕ) (b g : ℕ → ℕ) → sum o (m + n) (λ j. shift m b j ⊗ g j) ≡ sum o n (λ j. b j ⊗ g (m + j))
  sum_shift n zero b g = rw zero-add (sum_same l n (λ j. b j ⊗ g j) (λ j. b j ⊗ g (0 + j)) (λ j _. ap (λ t. b j ⊗ g t) (sym (zero-add j))))
  sum_shift n (suc m) b g = rw suc-add (sum_first l (m + n) (λ j. shift (suc m) b j ⊗ g j) ∙ ap₂ ◌⊕◌ (zero_mul l (g 0)) (sum_shift n m b (λ j. g (suc j))) ∙ zero_plus l _ (sum_in l n _)
      ∙ sum_same l n (λ j. b j ⊗ g (suc (m + j))) (λ j. b j ⊗ g (suc m + j)) (λ j _. ap (λ t. b j ⊗ g t) (sym (suc-add m j))))

  -- nothing is mended where the other has nothing
  pub mended_none : (h m : ℕ) (c b : ℕ → ℕ) (j : ℕ) → c j < q → shift m b j ≡ 0 → mended o c h m b j ≡ c j
  mended_none h m c b j i e = ap (λ t. c j ⊕ h ⊗ t) e ∙ simp (ring, l)

  mended_normal : (n k m s h : ℕ) (c b : ℕ → ℕ) → Normal q n c → Normal q k b → 0 < m → n ≤ s → k + m ≤ s → Normal q s (mended o c h m b)
  mended_normal n k m s h c b x y later u v = record {
    inside = λ j. l.add_in _ _;
    constant = mended_none h m c b 0 (x.inside 0) (shift_below m b 0 later) ∙ x.constant;
    beyond = λ j g. mended_none h m c b j (x.inside j) (shift_beyond k m b y j (omega arith)) ∙ x.beyond j (omega arith);
  }

  -- the gap of what is mended
  mended_gap : (n k m s h : ℕ) (c b f : ℕ → ℕ) → Normal q n c → Normal q k b → n ≤ s → k + m ≤ s → (i : ℕ)
      → gap o s (mended o c h m b) f i ≡ gap o n c f i ⊕ h ⊗ gap o k b f (i - m)
  mended_gap n k m s h c b f x y u v i =
      sum_same l (suc s) (λ j. (c j ⊕ h ⊗ shift m b j) ⊗ g j) (λ j. c j ⊗ g j ⊕ h ⊗ (shift m b j ⊗ g j)) (λ j _. each (c j) (shift m b j) (g j))
      ∙ sum_add l (suc s) (λ j. c j ⊗ g j) (λ j. h ⊗ (shift m b j ⊗ g j))
      ∙ ap₂ ◌⊕◌ (sum_beyond l (suc n) c g (λ j t. x.beyond j (omega arith)) (suc s) (omega arith))
      (sum_scale l (suc s) h (λ j. shift m b j ⊗ g j) ∙ ap (λ t. h ⊗ t)
      (sum_beyond l (m + suc k) (shift m b) g (λ j t. shift_beyond k m b y j (omega arith)) (suc s) (omega arith)
      ∙ sum_shift (suc k) m b g
      ∙ sum_same l (suc k) (λ j. b j ⊗ f (i - (m + j))) (λ j. b j ⊗ f (i - m - j)) (λ j _. ap (λ t. b j ⊗ f t) (apart j))))
    where
      g : ℕ → ℕ
      g j = f (i - j)

      each : (a t z : ℕ) → (a ⊕ h ⊗ t) ⊗ z ≡ a ⊗ z ⊕ h ⊗ (t ⊗ z)
      each a t z = simp (ring, l)

      apart : (j : ℕ) → i - (m + j) ≡ i - m - j
      apart j = omega arith

  module _ (f : ℕ → ℕ) (i n : ℕ) (c : ℕ → ℕ) (k : ℕ) (b : ℕ → ℕ) (v : ℕ) (at : Stage o f i n c k b v) where
    -- what fits one value more fits these
    fewer : (s : ℕ) (a : ℕ → ℕ) → Fits o s a f (suc i) → Fits o s a f i
    fewer s a fits j u v = fits j u (omega arith)

    fits_on : (s : ℕ) (a : ℕ → ℕ) → Fits o s a f i → (s ≤ i → gap o s a f i ≡ 0) → Fits o s a f (suc i)
    fits_on s a fits z j u v = elim (dec_lt j i) [
      | yes h ↦ fits j u h
      | no h ↦ (let w : j ≡ i = omega arith in ap (gap o s a f) w ∙ z (omega arith))
    ]

    -- the length stays, and so does the one before
    stays : (a : ℕ → ℕ) → Least o f (suc i) n a → Stage o f (suc i) n a k b v
    stays a x = record { found = x; before = at.before; tally = omega (arith, at.tally); fitted = at.fitted; broken = at.broken }

    -- NO GAP: nothing changes
    pub step_same : gap o n c f i ≡ 0 → Stage o f (suc i) n c k b v
    step_same z = stays c (record {
      normal = at.found.normal;
      fits = fits_on n c at.found.fits (λ _. z);
      least = λ s a x w. at.found.least s a x (fewer s a w);
    })

    module _ (gap_here : 0 < gap o n c f i) where
      abbrev new : ℕ → ℕ
      new = mended o c (neg (gap o n c f i ⊗ v)) (suc i - n - k) b

      -- what fits one value more is not shorter than i + 1 - n
      longer : (s : ℕ) (a : ℕ → ℕ) → a 0 ≡ 1 → Fits o s a f (suc i) → i < s + n
      longer s a x w = elim (dec_lt i (s + n)) [
        | yes h ↦ h
        | no h ↦ absurd (omega (arith, no_gap l s n i a c f (omega arith) x at.found.fits w))
      ]

      -- THE MENDED ONE is least, of the greater of the lengths n and i + 1 - n
      mended_least : (s : ℕ) → n ≤ s → suc i ≤ s + n → ((t : ℕ) → n ≤ t → suc i ≤ t + n → s ≤ t) → Least o f (suc i) s new
      mended_least s u z small = record {
        normal = mended_normal n k m s h c b at.found.normal at.before (omega (arith, at.tally)) u (omega (arith, at.tally));
        fits = fits_on s new
            (λ j x y. shown j ∙ ap₂ (λ t w. t ⊕ h ⊗ w) (at.found.fits j (omega arith) y) (at.fitted (j - m) (omega (arith, at.tally)) (omega (arith, at.tally))) ∙ none)
            (λ x. shown i ∙ ap (λ t. g ⊕ h ⊗ gap o k b f t) last ∙ closed _ (at.broken (omega (arith, at.tally))));
        least = λ t a x w. small t (at.found.least t a x (fewer t a w)) (longer t a x w);
      }
        where
          m : ℕ
          m = suc i - n - k

          g : ℕ
          g = gap o n c f i

          h : ℕ
          h = neg (g ⊗ v)

          last : i - m ≡ n + k - 1
          last = omega (arith, at.tally)

          shown : (j : ℕ) → gap o s new f j ≡ gap o n c f j ⊕ h ⊗ gap o k b f (j - m)
          shown = mended_gap n k m s h c b f at.found.normal at.before u (omega (arith, at.tally))

          none : 0 ⊕ h ⊗ 0 ≡ 0
          none = let low : 0 < q = omega (arith, l.above) in simp (ring, l)

          turned : (x y z : ℕ) → neg (x ⊗ y) ⊗ z ≡ neg (x ⊗ (z ⊗ y))
          turned x y z = simp (signed, l)

          closed : (e : ℕ) → e ⊗ v ≡ 1 → g ⊕ h ⊗ e ≡ 0
          closed e x = ap (λ t. g ⊕ t) (turned g v e ∙ ap (λ t. neg (g ⊗ t)) x ∙ ap neg (l.mul_one g (sum_in l (suc n) _))) ∙ l.add_neg g

      -- A GAP, AND THE LENGTH STAYS
      pub step_kept : i < 2 * n → Stage o f (suc i) n new k b v
      step_kept h = stays new (mended_least n (omega arith) (omega arith) (λ t u v. u))

      -- A GAP, AND THE LENGTH GROWS
      pub step_grown : 2 * n ≤ i → (w : ℕ) → gap o n c f i ⊗ w ≡ 1 → Stage o f (suc i) (suc i - n) new n c w
      step_grown h w e =
          let s : suc i - n + n - 1 ≡ i = omega arith in
          record {
            found = mended_least (suc i - n) (omega arith) (omega arith) (λ t u v. omega arith);
            before = at.found.normal;
            tally = omega arith;
            fitted = λ j u v. at.found.fits j u (omega arith);
            broken = λ u. rw s e;
          }
