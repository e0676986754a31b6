-- Which order of a page is refused, and the number of its refusal.
use Rattle.std.specs.Prelude.{ℕ, ◌-◌, ◌*◌, ◌<◌, ◌≤◌, min, Bool, ◌||◌, Some, None, Option, nat_lt}
use Rattle.basics.specs.Checks.{check, ◌or_else◌}
use Rattle.plans.specs.declared.numbers.Numbers.{Numbers}
use Rattle.plans.specs.declared.fault.Refusal.{Refusal}
use Rattle.plans.specs.declared.fault.OrderFault.{OrderFault}
use Rattle.plans.specs.declared.fault.OrderFault.TheVariants.{Kind, Columns, Checks, Rows, Heights, Drift}

-- x is not from low to high
abbrev pub outside : ℕ → ℕ → ℕ → Bool
outside low high x = nat_lt x low || nat_lt high x

-- what an order over a field of Q elements is refused for, the lowest number first: n columns, 2 to the smaller of Q - 1 and
-- 256; r checks, 1 to 64 and below n; R rows, 1 to 32; H heights, 1 to 256, with Q × H at most 4,096; the drift bound D, 1 to Q - 1
abbrev pub order_fault : ℕ → Numbers → Option OrderFault
order_fault q p =
    check (outside 2 (min (q - 1) 256) p.columns) Columns
    or_else check (outside 1 (min 64 (p.columns - 1)) p.checks) Checks
    or_else check (outside 1 32 p.rows) Rows
    or_else check (outside 1 256 p.heights || nat_lt 4096 (q * p.heights)) Heights
    or_else check (outside 1 (q - 1) p.drift) Drift

-- what the numbers of an order that is not refused are
pub record Ranges (q : ℕ) (p : Numbers) : Type 0 where
  pub two_columns : 2 ≤ p.columns
  pub points : p.columns < q
  pub columns_few : p.columns ≤ 256
  pub one_check : 1 ≤ p.checks
  pub checks_few : p.checks ≤ 64
  pub message : p.checks < p.columns
  pub one_row : 1 ≤ p.rows
  pub rows_few : p.rows ≤ 32
  pub one_height : 1 ≤ p.heights
  pub heights_few : p.heights ≤ 256
  pub levels_few : q * p.heights ≤ 4096
  pub one_drift : 1 ≤ p.drift
  pub drift_short : p.drift < q

-- the refusal of an order: its number, and no place
abbrev order_number : OrderFault → ℕ
order_number Kind = 1
order_number Columns = 2
order_number Checks = 3
order_number Rows = 4
order_number Heights = 5
order_number Drift = 6

abbrev pub order_refusal : OrderFault → Refusal
order_refusal f = record { number = order_number f; first = 0; second = 0 }

-- what a caller is told of an order: no refusal, or the refusal with its number
abbrev pub told_order : Option OrderFault → Option Refusal
told_order None = None
told_order (Some f) = Some (order_refusal f)
