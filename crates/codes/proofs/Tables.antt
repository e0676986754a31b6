-- Tables that are made row by row.
use Rattle.std.proofs.Common.{◌≡◌, ℕ, ◌+◌, ◌<◌, ◌≤◌, List, [], length, get_or, set, replicate, ap, ◌∙◌, arith, length-set, get_or-set_other, get_or-set_same}
use native.Mathlib.Decide.{ℕ_discrete}
use Rattle.basics.specs.Lists.{Updated}
use Rattle.fields.specs.Rings.{entry}
use Rattle.codes.specs.Fill.{Tabled}

pub tabled_none : (w : ℕ) (g : ℕ → ℕ → ℕ) (table : List (List ℕ)) → Tabled 0 w g table
tabled_none w g table = record { long = omega arith; is = λ i j h. absurd (omega arith) }

-- one more row
pub tabled_more : (w : ℕ) (g : ℕ → ℕ → ℕ) (table : List (List ℕ)) (n : ℕ) (row : List ℕ) → Tabled n w g table → n < length table
    → ((j : ℕ) → j < w → get_or row j 0 ≡ g n j) → Tabled (n + 1) w g (set table n row)
tabled_more w g table n row t h r = record { long = simp length-set (omega arith); is = λ i j a b. at i j a b (ℕ_discrete i n) }
  where
    at : (i j : ℕ) → i < n + 1 → j < w → Dec (i ≡ n) → entry (set table n row) i j ≡ g i j
    at i j a b (yes p) = rw p (ap (λ (x : List ℕ). get_or x j 0) (get_or-set_same table n row [] h) ∙ r j b)
    at i j a b (no p) = ap (λ (x : List ℕ). get_or x j 0) (get_or-set_other table n i row [] p) ∙ t.is i j (omega arith) b

-- a row that was made lane by lane
pub lanes : {w : ℕ} {g : ℕ → ℕ} {row : List ℕ} → w ≤ 64 → Updated w g (replicate 64 0) row → (j : ℕ) → j < w → get_or row j 0 ≡ g j
lanes few u j h = u.new j h (omega arith)
