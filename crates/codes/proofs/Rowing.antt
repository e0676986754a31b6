-- One row filled, from the steps that fill it; and row after row.
use Rattle.std.proofs.Common.{◌≡◌, ℕ, suc, ◌+◌, ◌-◌, ◌*◌, ◌/◌, ◌<◌, ◌≤◌, min, Bool, true, false, cond, ◌⊎◌, List, [], ◌∷◌, length, get_or, take, drop, replicate, sym, refl, ap, ◌∙◌, subst, ap₂, inl, inr, true≢false, suc-mul, add-mul, le-div_iff_mul-le, add-one, arith}
use borrow.Rule.Slice.PartMut.{put_mid}
use Rattle.std.proofs.lemmas.Slice.{take-put_mid_below, between-put_mid, drop-put_mid}
use Rattle.std.proofs.lemmas.Nat.{mul-le}
use Rattle.std.proofs.lemmas.List.{length-take, length-drop, get_or-take, get_or-drop, ext_get_or}
use Rattle.std.proofs.lemmas.Bool.{cases_Bool, cases_lt, and_from, le-leb, lt-ltb}
use Rattle.basics.specs.Lists.{Updated, row_of}
use Rattle.basics.proofs.Updating.{get_d_zeros}
use Rattle.fields.specs.Rings.{FieldOps, RingLaws, Inverses, Points, Combined, taken, sum, power, entry}
use Rattle.algebra.specs.Rows.{among, rising, syndrome, Filled}
use Rattle.algebra.proofs.Ring.{solid}
use Rattle.algebra.proofs.Sum.{sum_same}
use Rattle.algebra.proofs.Columns.{rises, rising_below, among_entry, entry_among}
use Rattle.algebra.proofs.Filling.{filled_row}
use Rattle.codes.specs.Fill.{FitsRow, Tabled, Placed, Copied, power_of, filler_of}

-- a part of a list, place by place
pub get_d_part : (n s : ℕ) (xs : List ℕ) (i : ℕ) → i < n → get_or (take n (drop s xs)) i 0 ≡ get_or xs (s + i) 0
get_d_part n s xs i h = get_or-take n (drop s xs) i 0 h ∙ get_or-drop s xs i 0

pub length_part : (n s : ℕ) (xs : List ℕ) → s + n ≤ length xs → length (take n (drop s xs)) ≡ n
length_part n s xs h = length-take n (drop s xs) ∙ ap (min n) (length-drop s xs) ∙ omega arith

pub off_columns : (ms : List ℕ) (k : ℕ) → among k ms ≡ false → (j : ℕ) → j < length ms → get_or ms j 0 ≡ k → ⊥
off_columns ms k e j h q = true≢false (sym (among_entry ms j h) ∙ ap (λ (c : ℕ). among c ms) q ∙ e)

-- a row as loaded, and then with the columns ms cleared
pub copied : (q : ℕ) (ms xs loaded row : List ℕ) → length xs ≤ 256 → Updated (length xs) (λ i. taken q (get_or xs i 0)) (replicate 256 0) loaded
    → Placed (length ms) ms (replicate 64 0) loaded row → Copied q ms xs row
copied q ms xs loaded row few u w = record { long = w.long ∙ u.long; is = λ k h. elim (cases_Bool (among k ms)) [ inl e ↦ on k e | inr e ↦ off k h e ] }
  where
    on : (k : ℕ) → among k ms ≡ true → get_or row k 0 ≡ cond (among k ms) 0 (taken q (get_or xs k 0))
    on k e = let (j, (a, i)) = entry_among k ms e in
        ap (λ (c : ℕ). get_or row c 0) (sym i) ∙ w.at j a ∙ get_d_zeros 64 j ∙ sym (ap (λ (b : Bool). cond b 0 (taken q (get_or xs k 0))) e)

    off : (k : ℕ) → k < length xs → among k ms ≡ false → get_or row k 0 ≡ cond (among k ms) 0 (taken q (get_or xs k 0))
    off k h e = w.off k (off_columns ms k e) ∙ u.new k h (omega arith) ∙ sym (ap (λ (b : Bool). cond b 0 (taken q (get_or xs k 0))) e)

-- what the steps of filling a row xs come to: the row with the columns cleared, its syndromes, the columns' values, and the row ys
-- with these
pub record Rowed (f : FieldOps) (inv : ℕ → ℕ) (n : ℕ) (ms xs ys cleared syndromes values row : List ℕ) (powers fillers : List (List ℕ)) : Type 0 where
  pub fits : FitsRow f.ring.order n ms
  pub wide : length xs ≡ n
  pub clears : Copied f.ring.order ms xs cleared
  pub powers_are : Tabled n (length ms) (power_of f.ring f.point) powers
  pub syndromes_are : Combined f.ring (length ms) (min (length (take n cleared)) (length powers)) (take n cleared) powers syndromes
  pub fillers_are : Tabled (length ms) (length ms) (filler_of f.ring inv f.point ms) fillers
  pub values_are : Combined f.ring (length ms) (min (length (take (length ms) syndromes)) (length fillers)) (take (length ms) syndromes) fillers values
  pub places : Placed (length ms) ms values cleared row
  pub stores : ys ≡ take n row

module _ (f : FieldOps) (inv : ℕ → ℕ) (laws : RingLaws f.ring) (i : Inverses f.ring inv) (p : Points f.ring f.point)
    (n : ℕ) (ms xs ys cleared syndromes values row : List ℕ) (powers fillers : List (List ℕ))
    (w : Rowed f inv n ms xs ys cleared syndromes values row powers fillers) where
  abbrev Z : List ℕ
  Z = take n cleared

  abbrev r : ℕ
  r = length ms

  y_long : length ys ≡ n
  y_long = ap length w.stores ∙ length-take n row ∙ omega (arith, w.places.long, w.clears.long, w.fits.few)

  z_long : length Z ≡ n
  z_long = length-take n cleared ∙ omega (arith, w.clears.long, w.fits.few)

  -- the cleared row
  z_at : (k : ℕ) → k < length xs → get_or Z k 0 ≡ cond (among k ms) 0 (taken f.ring.order (get_or xs k 0))
  z_at k h = get_or-take n cleared k 0 (omega (arith, w.wide)) ∙ w.clears.is k h

  y_at : (k : ℕ) → k < n → get_or ys k 0 ≡ get_or row k 0
  y_at k h = ap (λ zs. get_or zs k 0) w.stores ∙ get_or-take n row k 0 h

  y_off : (k : ℕ) → k < length xs → among k ms ≡ false → get_or ys k 0 ≡ get_or Z k 0
  y_off k h e = y_at k h' ∙ w.places.off k (off_columns ms k e) ∙ sym (get_or-take n cleared k 0 h')
    where
      h' : k < n
      h' = omega (arith, w.wide)

  -- the syndromes of the cleared row
  syndrome_at : (j : ℕ) → j < r → get_or syndromes j 0 ≡ syndrome f Z (suc j)
  syndrome_at j h =
      w.syndromes_are.low j h (omega (arith, w.fits.checks))
      ∙ ap (λ (m : ℕ). sum f.ring m (λ k. f.ring.mul (get_or Z k 0) (entry powers k j))) whole
      ∙ sum_same (solid f.ring laws) (length Z) (λ k. f.ring.mul (get_or Z k 0) (entry powers k j)) (λ k. f.ring.mul (get_or Z k 0) (power f.ring (f.point k) (suc j)))
      (λ k g. ap (f.ring.mul (get_or Z k 0)) (w.powers_are.is k j (omega (arith, z_long)) h ∙ ap (power f.ring (f.point k)) (add-one j)))
    where
      whole : min (length Z) (length powers) ≡ length Z
      whole = omega (arith, z_long, w.powers_are.long)

  y_on : (k : ℕ) → k < r → get_or ys (get_or ms k 0) 0 ≡ sum f.ring r (λ j. f.ring.mul (syndrome f Z (suc j)) (filler_of f.ring inv f.point ms j k))
  y_on k h =
      y_at (get_or ms k 0) (rising_below 0 n ms w.fits.columns k h) ∙ w.places.at k h
      ∙ w.values_are.low k h (omega (arith, w.fits.checks))
      ∙ ap (λ (m : ℕ). sum f.ring m (λ j. f.ring.mul (get_or (take r syndromes) j 0) (entry fillers j k))) whole
      ∙ sum_same (solid f.ring laws) r (λ j. f.ring.mul (get_or (take r syndromes) j 0) (entry fillers j k)) (λ j. f.ring.mul (syndrome f Z (suc j)) (filler_of f.ring inv f.point ms j k))
      (λ j g. ap₂ f.ring.mul (get_or-take r syndromes j 0 g ∙ syndrome_at j g) (w.fillers_are.is j k g h))
    where
      whole : min (length (take r syndromes)) (length fillers) ≡ r
      whole = omega (arith, length-take r syndromes, w.syndromes_are.long, w.fillers_are.long, w.fits.checks)

  pub filled : Filled f ms xs ys
  filled = filled_row f inv laws i p ms xs Z ys (ap (λ (m : ℕ). rising 0 m ms) w.wide ∙ w.fits.columns) (omega (arith, w.wide, w.fits.points))
      (z_long ∙ sym w.wide) z_at (y_long ∙ sym w.wide) y_off y_on

-- a wider row has room for the same columns
pub rising_wider : (b m n : ℕ) (ms : List ℕ) → m ≤ n → rising b m ms ≡ true → rising b n ms ≡ true
rising_wider b m n [] h e = refl
rising_wider b m n (c ∷ ms) h e =
    let a = rises b m c ms e in
    and_from _ _ (le-leb b c a.from) (and_from _ _ (lt-ltb c n (omega (arith, a.below))) (rising_wider (suc c) m n ms h a.rest))

-- the rows below row k are worked, as P says of a row before and after, and from there on all is as it was
pub record Until (P : List ℕ → List ℕ → Type 0) (n k : ℕ) (xs ys : List ℕ) : Type 0 where
  pub long : length ys ≡ length xs
  pub rows : (j : ℕ) → j < k → P (row_of n j xs) (row_of n j ys)
  pub rest : (i : ℕ) → k * n ≤ i → get_or ys i 0 ≡ get_or xs i 0

-- the row of n symbols from place s on is worked, and all else is as it was
pub record Once (P : List ℕ → List ℕ → Type 0) (n s : ℕ) (xs ys : List ℕ) : Type 0 where
  pub long : length ys ≡ length xs
  pub row : P (take n (drop s xs)) (take n (drop s ys))
  pub before : (i : ℕ) → i < s → get_or ys i 0 ≡ get_or xs i 0
  pub after : (i : ℕ) → s + n ≤ i → get_or ys i 0 ≡ get_or xs i 0

-- a row that was lent out of the rows, and is worked
pub once_lent : (P : List ℕ → List ℕ → Type 0) (n s k : ℕ) (xs ys : List ℕ) → k ≡ n → s + n ≤ length xs → length (put_mid s k xs ys) ≡ length xs → length ys ≡ n
    → P (take n (drop s xs)) ys → Once P n s xs (put_mid s k xs ys)
once_lent P n s k xs ys ek inside long size done = record {
  long = long;
  row = subst (λ (row : List ℕ). P (take n (drop s xs)) row) (sym (ap (λ (m : ℕ). take m (drop s (put_mid s k xs ys))) width ∙ between-put_mid s k xs ys (s + n) (omega arith) (size ∙ width))) done;
  before = λ i l. sym (get_or-take s (put_mid s k xs ys) i 0 l) ∙ ap (λ us. get_or us i 0) (take-put_mid_below s k xs ys s (omega arith) (omega arith)) ∙ get_or-take s xs i 0 l;
  after = λ i l. let z : s + n + (i - (s + n)) ≡ i = omega arith in
      ap (λ m. get_or (put_mid s k xs ys) m 0) (sym z) ∙ sym (get_or-drop (s + n) (put_mid s k xs ys) (i - (s + n)) 0)
      ∙ ap (λ us. get_or us (i - (s + n)) 0) (drop-put_mid s k xs ys (s + n) (omega arith) (omega arith) (size ∙ sym ek)) ∙ get_or-drop (s + n) xs (i - (s + n)) 0 ∙ ap (λ m. get_or xs m 0) z;
}
  where
    width : n ≡ s + n - s
    width = omega arith

pub part_same : (n s : ℕ) (xs ys : List ℕ) → length ys ≡ length xs → ((i : ℕ) → s ≤ i → i < s + n → get_or ys i 0 ≡ get_or xs i 0) → take n (drop s ys) ≡ take n (drop s xs)
part_same n s xs ys e h = ext_get_or 0 (take n (drop s ys)) (take n (drop s xs)) long (λ i g. at i (omega (arith, length-take n (drop s ys))))
  where
    long : length (take n (drop s ys)) ≡ length (take n (drop s xs))
    long = simp (length-take, length-drop) (ap (λ (m : ℕ). min n (m - s)) e)

    at : (i : ℕ) → i < n → get_or (take n (drop s ys)) i 0 ≡ get_or (take n (drop s xs)) i 0
    at i g = get_d_part n s ys i g ∙ h (s + i) (omega arith) (omega arith) ∙ sym (get_d_part n s xs i g)

-- a row that was lent out of the rows, and is as it was
pub same_lent : (n s k : ℕ) (xs ys : List ℕ) → k ≡ n → s + n ≤ length xs → length (put_mid s k xs ys) ≡ length xs → length ys ≡ n → ys ≡ take n (drop s xs) → put_mid s k xs ys ≡ xs
same_lent n s k xs ys ek inside long size same = ext_get_or 0 zs xs long (λ i l. at i (cases_lt i s) (cases_lt i (s + n)))
  where
    zs : List ℕ
    zs = put_mid s k xs ys

    once : Once (λ a b. b ≡ a) n s xs zs
    once = once_lent (λ a b. b ≡ a) n s k xs ys ek inside long size same

    at : (i : ℕ) → (i < s) ⊎ (s ≤ i) → (i < s + n) ⊎ (s + n ≤ i) → get_or zs i 0 ≡ get_or xs i 0
    at i (inl l) _ = once.before i l
    at i (inr l) (inr m) = once.after i m
    at i (inr l) (inl m) =
        let z : s + (i - s) ≡ i = omega arith in let h : i - s < n = omega arith in
        ap (λ j. get_or zs j 0) (sym z) ∙ sym (get_d_part n s zs (i - s) h) ∙ ap (λ us. get_or us (i - s) 0) once.row ∙ get_d_part n s xs (i - s) h ∙ ap (λ j. get_or xs j 0) z

-- a row ends before a later one begins
row_ends : (j k n : ℕ) → j < k → j * n + n ≤ k * n
row_ends j k n h = omega (arith, mul-le (j + 1) n k n (omega arith) (omega arith), add-mul j 1 n)

module _ (P : List ℕ → List ℕ → Type 0) (n : ℕ) (xs : List ℕ) where
  pub until_more : (k : ℕ) (ys zs : List ℕ) → Until P n k xs ys → Once P n (k * n) ys zs → Until P n (k + 1) xs zs
  until_more k ys zs u a = record {
    long = a.long ∙ u.long;
    rows = λ j h. rows j h (cases_lt j k);
    rest = λ i h. let e = add-mul k 1 n in a.after i (omega arith) ∙ u.rest i (omega arith);
  }
    where
      rows : (j : ℕ) → j < k + 1 → (j < k) ⊎ (k ≤ j) → P (row_of n j xs) (row_of n j zs)
      rows j h (inl g) = subst (λ (row : List ℕ). P (row_of n j xs) row)
          (sym (part_same n (j * n) ys zs a.long (λ i _ q. a.before i (omega (arith, row_ends j k n g))))) (u.rows j g)
      rows j h (inr g) = let e : j ≡ k = omega arith in
          rw e (subst (λ (row : List ℕ). P row (row_of n k zs)) (part_same n (k * n) xs ys u.long (λ i q _. u.rest i q)) a.row)

  -- all rows
  pub until_all : (k : ℕ) (ys : List ℕ) → 0 < n → length xs / n ≤ k → Until P n k xs ys → (j : ℕ) → j * n + n ≤ length xs → P (row_of n j xs) (row_of n j ys)
  until_all k ys pos h u j g = u.rows j (omega (arith, (le-div_iff_mul-le {k = n} {x = suc j} {y = length xs} pos).1 (omega (arith, suc-mul j n))))

-- a row within the rows
pub row_inside : (k n size : ℕ) → 0 < n → k < size / n → k * n + n ≤ size
row_inside k n size pos h = omega (arith, (le-div_iff_mul-le {k = n} {x = suc k} {y = size} pos).0 h, suc-mul k n)
