use Rattle.std.proofs.Common.{◌≡◌, ◌-◌, length}
use Rattle.basics.specs.Checks.{lowest}
use Rattle.rules.specs.Calls.{symbol_fault}
use Rattle.pages.specs.Views.{over}
use Rattle.pages.proofs.page.Page.check_symbols.Given as goal

-- the places that are left decide
abbrev pub invariant-loop-j : goal.invariant-loop-j
invariant-loop-j g l =
    let at = symbol_fault (over l.self) l.symbols in
    lowest 0 (length l.symbols) at ≡ lowest l.j (length l.symbols - l.j) at
