use Rattle.std.proofs.Common.{◌≡◌, ℕ, ◌<◌, false, get_or}
use Rattle.algebra.specs.Polynomials.{product}
use Rattle.codes.proofs.correct.locator.Given as goal

abbrev pub invariant-loop-k : goal.invariant-loop-k
invariant-loop-k g l =
    (j : ℕ) → j < 65 → get_or l.locator j 0 ≡ product (g.F.Ring.ops l.field) l.k (λ k. get_or l.columns k false) (g.F.Field.points l.field) j
