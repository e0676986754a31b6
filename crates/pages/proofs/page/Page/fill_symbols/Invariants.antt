use Rattle.std.proofs.Common.{◌≡◌, ℕ, ◌%◌, ◌<◌, get_or}
use Rattle.rules.specs.Pages.{q, cell_of}
use Rattle.pages.specs.Views.{over}
use Rattle.pages.proofs.page.Page.fill_symbols.Given as goal

-- the first j symbols stand
abbrev pub invariant-loop-j : goal.invariant-loop-j
invariant-loop-j g l =
    let p = over l.self in
    (k : ℕ) → k < l.j → get_or l.symbols k 0 ≡ get_or l.levels (cell_of p k) 0 % q p
