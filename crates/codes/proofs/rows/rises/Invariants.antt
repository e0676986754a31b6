use Rattle.std.proofs.Common.{◌≡◌, drop}
use Rattle.algebra.specs.Rows.{rising}
use Rattle.codes.proofs.rows.rises.Given as goal

-- the columns that are left decide
abbrev pub invariant-loop-column : goal.invariant-loop-column
invariant-loop-column l = rising 0 l.width l.columns ≡ rising l.least l.width (drop l.column-index l.columns)
