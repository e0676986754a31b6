-- What the search for a shortest recurrence keeps from value to value.
use Rattle.std.specs.Prelude.{◌≡◌, ℕ, zero, suc, ◌+◌, ◌-◌, ◌<◌, ◌≤◌, List}
use Rattle.fields.specs.Rings.{RingOps}
use Rattle.algebra.specs.Polynomials.{Normal}
use Rattle.algebra.specs.Recurrences.{gap, Fits, Least, at}
use Rattle.solver.specs.declared.Earlier.{Earlier}

-- b times z to the m
abbrev pub shift : ℕ → (ℕ → ℕ) → ℕ → ℕ
shift zero b j = b j
shift (suc m) b zero = 0
shift (suc m) b (suc j) = shift m b j

-- c plus h z^m b
abbrev pub mended : RingOps → (ℕ → ℕ) → ℕ → ℕ → (ℕ → ℕ) → ℕ → ℕ
mended o c h m b j = o.add (c j) (o.mul h (shift m b j))

-- After i values of f, c of length n is least. Before the length last grew it was b of length k, and it grew since b, which fits
-- the values before place n + k - 1, does not fit the one there: there b's gap has the inverse v. Until it first grows, n and k
-- are 0, and there is no such place
pub record Stage (o : RingOps) (f : ℕ → ℕ) (i n : ℕ) (c : ℕ → ℕ) (k : ℕ) (b : ℕ → ℕ) (v : ℕ) : Type 0 where
  pub found : Least o f i n c
  pub before : Normal o.order k b
  pub tally : n + k ≤ i
  pub fitted : Fits o k b f (n + k - 1)
  pub broken : 0 < n + k → o.mul (gap o k b f (n + k - 1)) v ≡ 1

-- the same of what the code holds
abbrev pub Held : RingOps → List ℕ → ℕ → ℕ → List ℕ → Earlier → Type 0
Held o values i n c before = Stage o (at values) i n (at c) before.l (at before.c) before.inverse
