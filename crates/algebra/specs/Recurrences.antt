-- Linear recurrences over a ring: polynomials that carry a sequence of values on. The values are a function f from places to
-- numbers, of which only the first few count.
use Rattle.std.specs.Prelude.{◌≡◌, ℕ, suc, ◌-◌, ◌<◌, ◌≤◌, List, length, slice_index}
use Rattle.fields.specs.Rings.{RingOps, sum}
use Rattle.algebra.specs.Polynomials.{Normal}

-- c applied to f at place i: the sum of c(j) × f(i - j), j from 0 to n. Where c(0) is 1 and this is 0, f(i) is
-- -(c(1) × f(i - 1) + .. + c(n) × f(i - n)), so that the n values before it determine it
abbrev pub gap : RingOps → ℕ → (ℕ → ℕ) → (ℕ → ℕ) → ℕ → ℕ
gap o n c f i = sum o (suc n) (λ j. o.mul (c j) (f (i - j)))

-- c of length n fits the first m values of f: it determines each of them that has n values before it
abbrev pub Fits : RingOps → ℕ → (ℕ → ℕ) → (ℕ → ℕ) → ℕ → Type 0
Fits o n c f m = (i : ℕ) → n ≤ i → i < m → gap o n c f i ≡ 0

-- c, of elements of the ring, with constant 1 and of degree at most n, fits the first m values of f, and no polynomial of constant
-- 1 fits them with a smaller length. With the length m each one fits, since then nothing is asked of the values; so n ≤ m
pub record Least (o : RingOps) (f : ℕ → ℕ) (m n : ℕ) (c : ℕ → ℕ) : Type 0 where
  pub normal : Normal o.order n c
  pub fits : Fits o n c f m
  pub least : (k : ℕ) (b : ℕ → ℕ) → b 0 ≡ 1 → Fits o k b f m → n ≤ k

-- a list as a function from places to numbers, 0 past its end
abbrev pub at : List ℕ → ℕ → ℕ
at xs k = slice_index xs k

-- c, the constant first, is a shortest recurrence for all of the values, and n is its length; past place n, c is 0
abbrev pub Shortest : RingOps → List ℕ → ℕ → List ℕ → Type 0
Shortest o values n c = Least o (at values) (length values) n (at c)
