use Rattle.std.proofs.Common.{◌≡◌, ◌+◌, ◌*◌, ◌≤◌, get_or}
use Rattle.rules.specs.Reach.{total}
use Rattle.images.proofs.block.check_of.Given as goal

-- the sum so far, and that it is small
abbrev pub invariant-loop-j : goal.invariant-loop-j
invariant-loop-j l = (l.sum ≡ 1 + l.b + total l.j (λ j. (j + 1) * get_or l.block j 0)) × (l.sum ≤ 65536 + l.j * 129540)
