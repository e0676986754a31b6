-- Code rows over a field, and rows that are filled to be one.
use Rattle.std.specs.Prelude.{◌≡◌, ℕ, zero, suc, ◌+◌, ◌*◌, ◌<◌, ◌≤◌, Bool, true, false, cond, ◌&&◌, ◌||◌, List, [], ◌∷◌, map, length, ◌==◌, nat_le, nat_lt, slice_index}
use Rattle.fields.specs.Rings.{RingOps, FieldOps, taken, sum, power}

-- the sum of w(k) × p(k)^j over the k below n: moment j of the weights w at the points p
abbrev pub moment : RingOps → ℕ → (ℕ → ℕ) → (ℕ → ℕ) → ℕ → ℕ
moment o n p w j = sum o n (λ k. o.mul (w k) (power o (p k) j))

-- syndrome j of a row: the sum over all columns i of c(i) × point(i)^j
abbrev pub syndrome : FieldOps → List ℕ → ℕ → ℕ
syndrome f cs j = moment f.ring (length cs) f.point (λ i. slice_index cs i) j

-- a code row with r checks: a row of elements whose syndromes 1 to r are 0
pub record CodeRow (f : FieldOps) (r : ℕ) (cs : List ℕ) : Type 0 where
  pub elements : (i : ℕ) → i < length cs → slice_index cs i < f.ring.order
  pub balanced : (j : ℕ) → 1 ≤ j → j ≤ r → syndrome f cs j ≡ 0

-- i is one of the columns ms
abbrev pub among : ℕ → List ℕ → Bool
among i [] = false
among i (m ∷ ms) = i == m || among i ms

-- how many k below n pass the test t
unfoldable pub count : ℕ → (ℕ → Bool) → ℕ
count zero t = 0
count (suc n) t = cond (t 0) 1 0 + count n (λ k. t (suc k))

-- how many columns, from i on and not among ms, have different entries
abbrev pub differing : List ℕ → ℕ → List ℕ → List ℕ → ℕ
differing ms i [] ys = 0
differing ms i (x ∷ xs) [] = 0
differing ms i (x ∷ xs) (y ∷ ys) = cond (among i ms || x == y) 0 1 + differing ms (suc i) xs ys

-- the columns ms rise from b on, and each is below n
abbrev pub rising : ℕ → ℕ → List ℕ → Bool
rising b n [] = true
rising b n (m ∷ ms) = nat_le b m && (nat_lt m n && rising (suc m) n ms)

-- ys is a code row with as many checks as there are columns ms, and agrees with xs in all other columns; an entry of xs of the
-- order or above is taken as 0
pub record FillOf (f : FieldOps) (ms xs ys : List ℕ) : Type 0 where
  pub long : length ys ≡ length xs
  pub code : CodeRow f (length ms) ys
  pub kept : (i : ℕ) → i < length xs → among i ms ≡ false → slice_index ys i ≡ taken f.ring.order (slice_index xs i)

-- ys is that row, and there is no other
pub record Filled (f : FieldOps) (ms xs ys : List ℕ) : Type 0 where
  pub is : FillOf f ms xs ys
  pub only : (zs : List ℕ) → FillOf f ms xs zs → zs ≡ ys

-- the row with each entry of the order q or above taken as 0
abbrev pub taken_row : ℕ → List ℕ → List ℕ
taken_row q = map (taken q)

-- cs is a code row with r checks, close enough to the row ss: twice the unmarked columns that differ, plus the marked ones, which
-- are ms, is at most r
pub record CloseRow (f : FieldOps) (r : ℕ) (ms ss cs : List ℕ) : Type 0 where
  pub long : length cs ≡ length ss
  pub code : CodeRow f r cs
  pub few : 2 * differing ms 0 cs ss + length ms ≤ r

-- cs is that row, and there is no other
pub record Corrected (f : FieldOps) (r : ℕ) (ms ss cs : List ℕ) : Type 0 where
  pub close : CloseRow f r ms ss cs
  pub only : (zs : List ℕ) → CloseRow f r ms ss zs → zs ≡ cs
