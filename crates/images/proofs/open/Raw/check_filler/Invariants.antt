use Rattle.std.proofs.Common.{◌≡◌, ◌-◌}
use Rattle.basics.specs.Checks.{lowest}
use Rattle.images.specs.Opening.{bytes_at, filler_fault}
use Rattle.images.proofs.open.Raw.check_filler.Given as goal

-- the places that are left decide
abbrev pub invariant-loop-i : goal.invariant-loop-i
invariant-loop-i l = let at = filler_fault (bytes_at l.self.bytes) in lowest 0 l.self.size at ≡ lowest l.i (l.self.size - l.i) at
