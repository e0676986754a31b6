use Rattle.std.proofs.Common.{◌≡◌, ℕ, ◌+◌, ◌<◌, length, get_or}
use Rattle.codes.specs.Fill.{Tabled, nested}
use Rattle.codes.proofs.fill.quotients.Given as goal

abbrev pub invariant-loop-j : goal.invariant-loop-j
invariant-loop-j g l =
    let step = λ (k j : ℕ). nested (g.R.Ring.ops l.ring) (get_or l.points k 0) (λ i. get_or l.locator i 0) j in
    Tabled l.j (length l.points) (λ j k. step k (j + 1)) l.quotient-items × ((k : ℕ) → k < length l.points → get_or l.last k 0 ≡ step k l.j)
