use Rattle.std.proofs.Common.{◌≡◌, ◌-◌}
use Rattle.basics.specs.Checks.{lowest}
use Rattle.images.specs.Opening.{bytes_at, word_fault}
use Rattle.images.proofs.open.Raw.check_word.Given as goal

-- the places that are left decide
abbrev pub invariant-loop-i : goal.invariant-loop-i
invariant-loop-i l = let at = word_fault (bytes_at l.self.bytes) in lowest 0 5 at ≡ lowest l.i (5 - l.i) at
