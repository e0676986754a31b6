use Rattle.std.proofs.Common.{◌≡◌, ℕ, ◌<◌}
use Rattle.basics.specs.Lists.{Updated}
use Rattle.images.proofs.block.sealed_block.Given as goal

abbrev pub invariant-loop-j : goal.invariant-loop-j
invariant-loop-j g l = (f : ℕ → ℕ) → ((j x : ℕ) → j < 508 → goal.F-post g l.byte j x → x ≡ f j) → Updated l.j f l.initial.place-items l.place-items
