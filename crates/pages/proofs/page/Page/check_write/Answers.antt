use Rattle.std.proofs.Common.{length, is_err, Err, sym, ap, ◌∙◌, arith}
use Rattle.std.proofs.lemmas.Result.{err_from_is_err_and, IfOk-from_err}
use Rattle.basics.specs.Checks.{verdict, lowest, ◌or_else◌}
use Rattle.basics.proofs.Checking.{none_from_verdict, some_from_verdict, some_first, made_verdict}
use Rattle.rules.specs.Calls.{symbol_fault, height_fault}
use Rattle.rules.specs.Views.{state, buffers, FitsWrite}
use Rattle.pages.specs.Views.{over}
use Rattle.rules.proofs.Fitting.{few_cells, few_symbols, fits_write, write_fault}
use Rattle.pages.proofs.page.Page.check_write.Goals as goal

pub check_symbols-requires : goal.check_symbols-requires
check_symbols-requires g c =
    let p = over c.args.self.now in omega (arith, few_symbols p c.args.self.now.ranges, c.in_ok-check_buffers.ensures.sizes.0)

pub check_heights-requires : goal.check_heights-requires
check_heights-requires g c =
    let p = over c.args.self.now in omega (arith, few_cells p c.args.self.now.ranges, c.in_ok-check_buffers.ensures.sizes.1)

pub returns-in_err-check_symbols : goal.returns-in_err-check_symbols
returns-in_err-check_symbols g c =
    let p = over c.args.self.now in let s = state c.args.self.now.plan c.args.cells.now in
    let b = buffers c.args.symbols.now c.args.heights.now in
    let cells = c.in_ok-check_cells.ensures in let sizes = c.in_ok-check_buffers.ensures in
    let f = c.from_residual-in_err-check_symbols in let x = err_from_is_err_and f.result f.ensures.1 in
    record {
      fault = x.1 ∙ ap Err x.2 ∙ ap verdict (sym (
          write_fault p s b (none_from_verdict _ cells.fault) (none_from_verdict _ sizes.fault) sizes.sizes.0 sizes.sizes.1
          ∙ some_first _ _ _ (some_from_verdict _ _ c.in_err-check_symbols.ensures)));
      fits = IfOk-from_err f.result _ (ap is_err x.1);
    }

pub returns : goal.returns
returns g c =
    let p = over c.args.self.now in let s = state c.args.self.now.plan c.args.cells.now in
    let b = buffers c.args.symbols.now c.args.heights.now in
    let cells = c.in_ok-check_cells.ensures in let sizes = c.in_ok-check_buffers.ensures in
    let heights = lowest 0 (length b.heights) (height_fault p b.heights) in
    let no_symbol = none_from_verdict (lowest 0 (length b.symbols) (symbol_fault p b.symbols)) c.in_ok-check_symbols.ensures in
    record {
      fault = c.check_heights.ensures ∙ ap verdict (sym (
          write_fault p s b (none_from_verdict _ cells.fault) (none_from_verdict _ sizes.fault) sizes.sizes.0 sizes.sizes.1
          ∙ ap (λ o. o or_else heights) no_symbol));
      fits = made_verdict heights (FitsWrite p c.args.cells.now b) c.check_heights.ensures
          (λ e. fits_write p c.args.self.now.ranges c.args.cells.now b cells.size sizes.sizes.0 sizes.sizes.1 no_symbol e);
    }
