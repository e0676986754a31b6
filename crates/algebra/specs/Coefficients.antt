-- Polynomials over a ring, by their coefficients, the constant first; past the last they are 0.
use Rattle.std.specs.Prelude.{ℕ, suc, ◌-◌, List, length, slice_index}
use Rattle.fields.specs.Rings.{RingOps, sum, power}

-- coefficient j of a + b
abbrev pub sum_at : RingOps → List ℕ → List ℕ → ℕ → ℕ
sum_at o a b j = o.add (slice_index a j) (slice_index b j)

-- coefficient m of a × b: the sum of a(j) × b(m - j) over j from 0 to m
abbrev pub product_entry : RingOps → List ℕ → List ℕ → ℕ → ℕ
product_entry o a b m = sum o (suc m) (λ j. o.mul (slice_index a j) (slice_index b (m - j)))

-- the value at x: the sum of c(j) × x^j
abbrev pub value_at : RingOps → List ℕ → ℕ → ℕ
value_at o cs x = sum o (length cs) (λ j. o.mul (slice_index cs j) (power o x j))
