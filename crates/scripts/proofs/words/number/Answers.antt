use Rattle.std.proofs.Common.{◌≤◌, length, sym, arith, rules, tests}
use Rattle.std.proofs.lemmas.Bool.{eqb-false, le-leb}
use Rattle.std.proofs.lemmas.Iterator.{YieldsList-from_slice}
use Rattle.scripts.proofs.Lines.{number_read}
use Rattle.scripts.proofs.words.number.Goals as goal

pub returns : goal.returns
returns c =
    let w = c.args.word.now in
    let some : 1 ≤ length w = omega (arith, eqb-false _ _ (sym c.if-is_empty.ensures)) in
    rw (le-leb 1 (length w) some, le-leb (length w) 5 c.if-word-gt5.false)
    (number_read _ _ (λ f q v x r k. search (rules, tests)) w _ _ (YieldsList-from_slice _ cc) _ c.try_fold.result c.try_fold.ensures.ran)
