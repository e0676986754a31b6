use Rattle.std.proofs.Common.{◌≡◌, ◌-◌, ◌*◌, ◌≤◌, cond, ltb, get_or}
use Rattle.rules.specs.Reach.{dead, total}
use Rattle.pages.specs.Readings.{of_page, seen}
use Rattle.pages.proofs.read.Readings.tally.Given as goal

-- the totals over the first i places
abbrev pub invariant-loop-i : goal.invariant-loop-i
invariant-loop-i g l =
    let p = of_page l.self in let s = seen l.self in
    (l.drifted ≤ l.i) × (l.risen ≤ l.i * 65535)
    × (l.drifted ≡ total l.i (λ i. cond (dead p s.marking i) 0 (cond (ltb (get_or l.levels i 0) (get_or s.cells i 0)) 1 0)))
    × (l.risen ≡ total l.i (λ i. cond (dead p s.marking i) 0 (get_or s.cells i 0 - get_or l.levels i 0)))
