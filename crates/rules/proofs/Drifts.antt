-- Drifts of readings above levels, tables by their places, and totals.
use Rattle.std.proofs.Common.{◌≡◌, ℕ, zero, suc, ◌+◌, ◌-◌, ◌*◌, ◌/◌, ◌%◌, ◌<◌, ◌≤◌, min, Bool, true, false, cond, not, ◌&&◌, ◌||◌, eqb, ltb, ◌⊎◌, List, [], ◌∷◌, length, get_or, Some, None, Option, sym, refl, ap, ◌∙◌, ap₂, inl, inr, mod-eq_of_lt, mul-add, add-one, arith}
use native.Mathlib.Nat.{div-add-mod, add-mul-mod_self_left}
use Rattle.std.proofs.lemmas.Nat.{mul-le, mod_below}
use Rattle.std.proofs.lemmas.List.FromFn.{length-map-range_with_len, get_or-map-range_with_len}
use Rattle.std.proofs.lemmas.List.{ext_get_or}
use Rattle.std.proofs.lemmas.Bool.{cases_lt, cases_order, eqb-true, eq-eqb, cases_Bool, cond-true, cond-false, lt-ltb, le-ltb}
use Rattle.basics.specs.Checks.{check, ◌or_else◌, lowest, told}
use Rattle.algebra.specs.Rows.{among, differing}
use Rattle.rules.specs.Pages.{Setup, tabled, symbols_of, n}
use Rattle.rules.specs.Reach.{total, drift, far_fault, under_fault, drift_fault}
use Rattle.rules.specs.declared.fault.PageFault.TheVariants.{Far, Under}

-- a product that is one factor more
more : (q a b : ℕ) → a < b → q * a + q ≤ q * b
more q a b h = omega (arith, mul-le q (a + 1) q b (omega arith) (omega arith), mul-add q a 1)

-- two levels of one symbol, less than the order apart, are one
pub same_level : (q x z : ℕ) → x < z + q → z < x + q → x % q ≡ z % q → x ≡ z
same_level q x z a b e =
    let dx = div-add-mod x q in let dz = div-add-mod z q in
    elim (cases_order (x / q) (z / q)) [
      | inl s ↦ omega (arith, ap (λ k. q * k) s)
      | inr t ↦ elim t [
        | inl lt ↦ absurd (omega (arith, more q (x / q) (z / q) lt))
        | inr gt ↦ absurd (omega (arith, more q (z / q) (x / q) gt))
      ]
    ]

-- the drift of a reading above its level, by the level's symbol
pub drift_is : (q x y : ℕ) → 0 < q → x ≤ y → y < x + q → (y + (q - x % q)) % q ≡ y - x
drift_is q x y pos le lt =
    let d = div-add-mod x q in let m = mul-add q (x / q) 1 in let s = mod_below x q pos in
    let e : y + (q - x % q) ≡ (y - x) + q * (x / q + 1) = omega arith in
    ap (λ k. k % q) e ∙ add-mul-mod_self_left (y - x) q (x / q + 1) ∙ mod-eq_of_lt (omega arith)

one_at_most : (b : Bool) → cond b 0 1 ≤ 1
one_at_most true = omega arith
one_at_most false = omega arith

-- symbols differ at most where levels do
pub symbols_differ_less : (q : ℕ) (ms : List ℕ) (i : ℕ) (xs ys : List ℕ) → differing ms i (symbols_of q xs) (symbols_of q ys) ≤ differing ms i xs ys
symbols_differ_less q ms i [] ys = omega arith
symbols_differ_less q ms i (x ∷ xs) [] = omega arith
symbols_differ_less q ms i (x ∷ xs) (y ∷ ys) = omega (arith, one (among i ms) (cases_Bool (eqb x y)), symbols_differ_less q ms (suc i) xs ys)
  where
    one : (b : Bool) → (eqb x y ≡ true) ⊎ (eqb x y ≡ false) → cond (b || eqb (x % q) (y % q)) 0 1 ≤ cond (b || eqb x y) 0 1
    one true h = omega arith
    one false (inl e) = rw (eq-eqb (x % q) (y % q) (ap (λ v. v % q) (eqb-true x y e))) (omega arith)
    one false (inr e) = rw e (one_at_most (eqb (x % q) (y % q)))

-- an entry of a table
pub tabled_at : (m : ℕ) (f : ℕ → ℕ) (i : ℕ) → i < m → get_or (tabled m f) i 0 ≡ f i
tabled_at m f i h = get_or-map-range_with_len f 0 m i i 0 h (omega arith)

-- tables with equal entries
pub tabled_same : (m : ℕ) (f g : ℕ → ℕ) → ((i : ℕ) → i < m → f i ≡ g i) → tabled m f ≡ tabled m g
tabled_same m f g h = ext_get_or 0 (tabled m f) (tabled m g) (length-map-range_with_len f 0 m ∙ sym (length-map-range_with_len g 0 m))
    (λ i l. let lt : i < m = omega (arith, length-map-range_with_len f 0 m) in
    tabled_at m f i lt ∙ h i lt ∙ sym (tabled_at m g i lt))

pub total_same : (m : ℕ) (f g : ℕ → ℕ) → ((i : ℕ) → i < m → f i ≡ g i) → total m f ≡ total m g
unfolding total
total_same zero f g h = refl
total_same (suc m) f g h = ap₂ ◌+◌ (total_same m f g (λ i l. h i (omega arith))) (h m (omega arith))

-- nothing at each place is nothing in all
pub total_none : (m : ℕ) (f : ℕ → ℕ) → ((i : ℕ) → i < m → f i ≡ 0) → total m f ≡ 0
unfolding total
total_none zero f h = refl
total_none (suc m) f h = omega (arith, total_none m f (λ i l. h i (omega arith)), h m (omega arith))

-- more by a at one place is more by a in all
pub total_raised : (m k a : ℕ) (f g : ℕ → ℕ) → k < m → g k ≡ f k + a → ((i : ℕ) → i < m → (i ≡ k → ⊥) → g i ≡ f i) → total m g ≡ total m f + a
unfolding total
total_raised zero k a f g h e o = absurd (omega arith)
total_raised (suc m) k a f g h e o = elim (cases_lt k m) [
  | inl lt ↦ omega (arith, total_raised m k a f g lt e (λ i l. o i (omega arith)), o m (omega arith) (λ z. omega arith))
  | inr ge ↦ let z : k ≡ m = omega arith in
      omega (arith, total_same m g f (λ i l. o i (omega arith) (λ w. omega arith)), ap g z, ap f z)
]

-- one place more
pub total_more : (m : ℕ) (f : ℕ → ℕ) → total (m + 1) f ≡ total m f + f m
unfolding total
total_more m f = ap (λ k. total k f) (add-one m)

pub total_empty : (f : ℕ → ℕ) → total 0 f ≡ 0
unfolding total
total_empty f = refl

-- a cell counts as drifted where it reads above its level
pub one_if_above : (d : Bool) (x y : ℕ) → cond d 0 (cond (ltb x y) 1 0) ≡ min (cond d 0 (y - x)) 1
one_if_above true x y = refl
one_if_above false x y = elim (cases_lt x y) [
  | inl lt ↦ cond-true (ltb x y) 1 0 (lt-ltb x y lt) ∙ omega arith
  | inr ge ↦ cond-false (ltb x y) 1 0 (le-ltb x y ge) ∙ omega arith
]

-- checks that say where they fail, told as other faults
lowest_told : {F : Type 0} (t : ℕ → Bool) (f : ℕ → F) (m i : ℕ) → lowest i m (λ k. check (t k) (f k)) ≡ told f (lowest i m (λ k. check (t k) k))
lowest_told t f zero i = refl
lowest_told t f (suc m) i = on (t i) (lowest_told t f m (i + 1))
  where
    on : (b : Bool) → lowest (i + 1) m (λ k. check (t k) (f k)) ≡ told f (lowest (i + 1) m (λ k. check (t k) k))
        → (check b (f i) or_else lowest (i + 1) m (λ k. check (t k) (f k))) ≡ told f (check b i or_else lowest (i + 1) m (λ k. check (t k) k))
    on true e = refl
    on false e = e

-- the fault of a row's drifts, by the lowest columns where one is above the bound, and above its reading
module _ (p : Setup) (ms : List ℕ) (k : ℕ) (ys cs : List ℕ) (long : length ys ≡ n p) where
  abbrev pub above : (ℕ → ℕ) → Option ℕ
  above m = lowest 0 (length ys) (λ i. check (not (among i ms) && ltb (m (get_or ys i 0)) (drift p (get_or ys i 0) (get_or cs i 0))) i)

  drift_told : drift_fault p ms k ys cs ≡ (told (Far k) (above (λ _. p.numbers.drift)) or_else told (Under k) (above (λ y. y)))
  drift_told =
      ap (λ (m : ℕ). lowest 0 m (far_fault p ms k ys cs) or_else lowest 0 m (under_fault p ms k ys cs)) (sym long)
      ∙ ap₂ (λ a b. a or_else b)
      (lowest_told (λ i. not (among i ms) && ltb p.numbers.drift (drift p (get_or ys i 0) (get_or cs i 0))) (Far k) (length ys) 0)
      (lowest_told (λ i. not (among i ms) && ltb (get_or ys i 0) (drift p (get_or ys i 0) (get_or cs i 0))) (Under k) (length ys) 0)

  pub drift_far : (i : ℕ) → Some i ≡ above (λ _. p.numbers.drift) → drift_fault p ms k ys cs ≡ Some (Far k i)
  drift_far i e = drift_told ∙ sym (ap (λ o. told (Far k) o or_else told (Under k) (above (λ y. y))) e)

  pub drift_else : (o : Option ℕ) → None ≡ above (λ _. p.numbers.drift) → o ≡ above (λ y. y) → drift_fault p ms k ys cs ≡ told (Under k) o
  drift_else o e f = drift_told ∙ sym (ap₂ (λ a b. told (Far k) a or_else told (Under k) b) e f)
