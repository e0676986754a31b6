use Rattle.std.proofs.Common.{◌≡◌, ◌-◌, ◌/◌}
use Rattle.basics.specs.Checks.{lowest}
use Rattle.images.specs.Opening.{bytes_at, seal_fault}
use Rattle.images.proofs.open.Raw.check_seals.Given as goal

-- the blocks that are left decide
abbrev pub invariant-loop-b : goal.invariant-loop-b
invariant-loop-b l = let at = seal_fault (bytes_at l.self.bytes) in lowest 0 (l.self.size / 512) at ≡ lowest l.b (l.self.size / 512 - l.b) at
