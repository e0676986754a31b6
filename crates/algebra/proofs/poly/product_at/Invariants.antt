use Rattle.std.proofs.Common.{◌≡◌, ◌+◌, ◌-◌, ◌≤◌, get_or}
use Rattle.fields.specs.Rings.{sum}
use Rattle.algebra.proofs.poly.product_at.Given as goal

abbrev pub invariant-loop-j : goal.invariant-loop-j
invariant-loop-j g l =
    (l.j ≤ l.m + 1) × (l.total ≡ sum (g.R.Ring.ops l.ring) l.j (λ j. (g.R.Ring.ops l.ring).mul (get_or l.a j 0) (get_or l.b (l.m - j) 0)))
