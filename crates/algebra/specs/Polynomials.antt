-- Polynomials as functions from places to coefficients, products of factors 1 - a z, and the table by which columns are filled.
use Rattle.std.specs.Prelude.{◌≡◌, ℕ, zero, suc, ◌-◌, ◌<◌, Bool, true, cond}
use Rattle.fields.specs.Rings.{RingOps, sum, power}

-- 1 at place k, and 0 elsewhere: unit 0 is the polynomial 1
abbrev pub unit : ℕ → ℕ → ℕ
unit zero zero = 1
unit zero (suc j) = 0
unit (suc k) zero = 0
unit (suc k) (suc j) = unit k j

-- a polynomial of degree at most n with constant 1, of numbers below q
pub record Normal (q n : ℕ) (c : ℕ → ℕ) : Type 0 where
  pub inside : (j : ℕ) → c j < q
  pub constant : c 0 ≡ 1
  pub beyond : (j : ℕ) → n < j → c j ≡ 0

-- the polynomial c times 1 - a z
unfoldable pub times : RingOps → ℕ → (ℕ → ℕ) → ℕ → ℕ
times o a c zero = c 0
times o a c (suc j) = o.add (c (suc j)) (o.neg (o.mul a (c j)))

-- the product of 1 - p(k) z over the k below n that t marks, the last one last
unfoldable pub product : RingOps → ℕ → (ℕ → Bool) → (ℕ → ℕ) → ℕ → ℕ
product o zero t p = unit 0
product o (suc n) t p = cond (t n) (times o (p n) (product o n t p)) (product o n t p)

-- the value at x of the polynomial with coefficients c k, k below n
abbrev pub value : RingOps → ℕ → (ℕ → ℕ) → ℕ → ℕ
value o n c x = sum o n (λ k. o.mul (c k) (power o x k))

-- a added n times
unfoldable pub multiple : RingOps → ℕ → ℕ → ℕ
multiple o zero a = 0
multiple o (suc n) a = o.add a (multiple o n a)

-- the derivative: its coefficient j is coefficient j + 1 added j + 1 times
abbrev pub derivative : RingOps → (ℕ → ℕ) → ℕ → ℕ
derivative o c j = multiple o (suc j) (c (suc j))

-- the coefficients c(0) to c(n) taken in the other order, as a value at x: the sum of c(j) × x^(n - j). It is x^n times the value
-- at 1 / x, so that 1 - a z has the turned value x - a
abbrev pub turned : RingOps → ℕ → (ℕ → ℕ) → ℕ → ℕ
turned o n c x = sum o (suc n) (λ j. o.mul (c j) (power o x (n - j)))

-- the polynomial c divided by 1 - a z: its coefficient j is c(j) + a c(j - 1) + .. + a^j c(0), each a times the one before plus c(j)
abbrev pub quotient : RingOps → ℕ → (ℕ → ℕ) → ℕ → ℕ
quotient o a c j = turned o j c a

-- the product of 1 - p(k) z over all k below r
abbrev pub gamma : RingOps → ℕ → (ℕ → ℕ) → ℕ → ℕ
gamma o r p = product o r (λ _. true) p

-- the inverse of p(k) × the turned value at p(k) of the product without its factor 1 - p(k) z; that value is the product of
-- p(k) - p(m) over the other m below r
abbrev pub weight : RingOps → (ℕ → ℕ) → ℕ → (ℕ → ℕ) → ℕ → ℕ
weight o inv r p k = inv (o.mul (p k) (turned o (r - 1) (quotient o (p k) (gamma o r p)) (p k)))

-- by how much the k-th of r columns with the points p is to be changed for each 1 of syndrome s + 1, so that syndromes 1 to r
-- become 0; s and k are below r
abbrev pub filler : RingOps → (ℕ → ℕ) → ℕ → (ℕ → ℕ) → ℕ → ℕ → ℕ
filler o inv r p s k = o.mul (o.neg (weight o inv r p k)) (quotient o (p k) (gamma o r p) (r - 1 - s))
