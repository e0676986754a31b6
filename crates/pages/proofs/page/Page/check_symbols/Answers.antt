use Rattle.std.proofs.Common.{length, Err, ap, ◌∙◌}
use Rattle.std.proofs.lemmas.Result.{err_from_is_err_and}
use Rattle.basics.proofs.Checking.{loop_stops, loop_goes_on, loop_ends}
use Rattle.rules.specs.Calls.{symbol_fault}
use Rattle.pages.specs.Views.{over}
use Rattle.pages.proofs.page.Page.check_symbols.Goals as goal

pub returns-in_err-check_symbol : goal.returns-in_err-check_symbol
returns-in_err-check_symbol g c =
    let xs = c.args.symbols.now in let at = symbol_fault (over c.args.self.now) xs in let l = c.loop-j in
    let x = err_from_is_err_and c.from_residual.result c.from_residual.ensures.1 in
    loop_stops at (length xs) l.j l.invariant _ c.from_residual.result c.loop-j-test.true c.in_err-check_symbol.ensures (x.1 ∙ ap Err x.2)

pub loop-j-preserved : goal.loop-j-preserved
loop-j-preserved g c =
    let xs = c.args.symbols.now in let l = c.loop-j in
    loop_goes_on (symbol_fault (over c.args.self.now) xs) (length xs) l.j l.invariant c.loop-j-test.true c.in_ok-check_symbol.ensures

pub returns : goal.returns
returns g c =
    let xs = c.args.symbols.now in let l = c.loop-j in
    loop_ends (symbol_fault (over c.args.self.now) xs) (length xs) l.j l.invariant c.loop-j-test.false
