use Rattle.std.proofs.Common.{◌≡◌, ℕ, ◌/◌, ◌<◌, get_or}
use Rattle.rules.specs.Pages.{q}
use Rattle.pages.specs.Views.{over}
use Rattle.pages.proofs.page.Page.fill_heights.Given as goal

-- the first i heights stand
abbrev pub invariant-loop-i : goal.invariant-loop-i
invariant-loop-i g l =
    let p = over l.self in
    (k : ℕ) → k < l.i → get_or l.heights k 0 ≡ get_or l.levels k 0 / q p
