use Rattle.std.proofs.Common.{◌≡◌, ◌+◌, ◌-◌, ◌*◌, drop}
use Rattle.basics.specs.Checks.{lowest}
use Rattle.rules.specs.Pages.{n}
use Rattle.rules.specs.Views.{row_drift}
use Rattle.pages.specs.Readings.{of_page, seen}
use Rattle.pages.proofs.read.Readings.check_drifts.Given as goal

-- the rows that are left decide, and the iterators stand at the first of them
abbrev pub invariant-loop-k : goal.invariant-loop-k
invariant-loop-k g l =
    let p = of_page l.self in let s = seen l.self in let i = l.k-iterator in let a = i.iter.iter.a in let b = i.iter.iter.b in
    let at = row_drift p s.marking s.cells l.symbols in
    (i.count + i.iter.n ≡ l.rows)
    × (a.size ≡ n p) × (b.size ≡ n p)
    × (a.rest.now ≡ drop (i.count * n p) s.cells) × (b.rest.now ≡ drop (i.count * n p) l.symbols)
    × (lowest 0 l.rows at ≡ lowest i.count (l.rows - i.count) at)
