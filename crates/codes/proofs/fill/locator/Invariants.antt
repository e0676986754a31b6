use Rattle.std.proofs.Common.{◌≡◌, ℕ, ◌<◌, true, get_or}
use Rattle.algebra.specs.Polynomials.{product}
use Rattle.codes.proofs.fill.locator.Given as goal

abbrev pub invariant-loop-point : goal.invariant-loop-point
invariant-loop-point g l = (j : ℕ) → j < 65 → get_or l.locator j 0 ≡ product (g.R.Ring.ops l.ring) l.point-index (λ _. true) (λ k. get_or l.points k 0) j
