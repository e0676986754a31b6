-- An order that is not refused has its numbers in range.
use Rattle.std.proofs.Common.{◌≡◌, ℕ, ◌-◌, ◌*◌, ◌≤◌, min, false, ltb, None, arith}
use Rattle.std.proofs.lemmas.Bool.{ltb-false, or_parts}
use Rattle.plans.specs.Orders.{order_fault, outside, Ranges}
use Rattle.plans.specs.declared.numbers.Numbers.{Numbers}
use Rattle.basics.proofs.Checking.{both_none, check_none}

within : (low high x : ℕ) → outside low high x ≡ false → (low ≤ x) × (x ≤ high)
within low high x e = let p = or_parts (ltb x low) (ltb high x) e in (ltb-false x low p.0, ltb-false high x p.1)

pub ranges : (q : ℕ) (p : Numbers) → 3 ≤ q → order_fault q p ≡ None → Ranges q p
ranges q p three e =
    let a = both_none _ _ e in let b = both_none _ _ a.1 in let c = both_none _ _ b.1 in let d = both_none _ _ c.1 in
    let columns = within 2 (min (q - 1) 256) p.columns (check_none _ _ a.0) in
    let checks = within 1 (min 64 (p.columns - 1)) p.checks (check_none _ _ b.0) in
    let rows = within 1 32 p.rows (check_none _ _ c.0) in
    let h = or_parts (outside 1 256 p.heights) (ltb 4096 (q * p.heights)) (check_none _ _ d.0) in
    let heights = within 1 256 p.heights h.0 in let levels = ltb-false 4096 (q * p.heights) h.1 in
    let drift = within 1 (q - 1) p.drift (check_none _ _ d.1) in
    record {
      two_columns = columns.0;
      points = omega arith;
      columns_few = omega arith;
      one_check = checks.0;
      checks_few = omega arith;
      message = omega arith;
      one_row = rows.0;
      rows_few = rows.1;
      one_height = heights.0;
      heights_few = heights.1;
      levels_few = levels;
      one_drift = drift.0;
      drift_short = omega arith;
    }
