use Rattle.std.proofs.Common.{◌≡◌, ℕ, ◌<◌, length, get_or}
use Rattle.fields.specs.Rings.{entry}
use Rattle.codes.specs.Fill.{nested}
use Rattle.codes.proofs.fill.values.Given as goal

abbrev pub invariant-loop-terms : goal.invariant-loop-terms
invariant-loop-terms g l = (k : ℕ) → k < length l.points → get_or l.sums k 0 ≡ nested (g.R.Ring.ops l.ring) (get_or l.points k 0) (λ j. entry l.table j k) l.terms-index
