use Rattle.std.proofs.Common.{◌≡◌, ◌+◌, ◌-◌, ◌<◌, length, get_or}
use Rattle.basics.specs.Checks.{check, lowest}
use Rattle.plans.specs.Marks.{wrong_column, columns_fault}
use Rattle.plans.specs.declared.fault.MarkingFault.TheVariants.{Column}
use Rattle.plans.proofs.numbers.Numbers.check_columns.Given as goal

-- the columns that are left decide, and the next has to be above the one before it
abbrev pub invariant-loop-i : goal.invariant-loop-i
invariant-loop-i l =
    (columns_fault l.self.columns l.marking ≡ lowest l.i (length l.marking - l.i) (λ i. check (wrong_column l.self.columns l.marking i) (Column i)))
    × (l.i ≡ 0 → l.low ≡ 0)
    × (0 < l.i → l.low ≡ get_or l.marking (l.i - 1) 0 + 1)
