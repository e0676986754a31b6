use Rattle.std.proofs.Common.{sym}
use lib.ListN.{length-map}
use Rattle.std.proofs.lemmas.Result.{err_from_is_err_and}
use Rattle.scripts.proofs.Parts.{front_wrong, back_wrong}
use Rattle.scripts.proofs.command.write.Goals as goal

pub returns-in_err-numbers : goal.returns-in_err-numbers
returns-in_err-numbers c =
    let p = err_from_is_err_and c.from_residual.result c.from_residual.ensures.1 in
    rw (p.1, p.2) (front_wrong _ _ _ _ c.in-Some.ensures _ c.in_err-numbers.ensures)

pub returns-in_err-numbers-2 : goal.returns-in_err-numbers-2
returns-in_err-numbers-2 c =
    let p = err_from_is_err_and c.from_residual-in_err-numbers-2.result c.from_residual-in_err-numbers-2.ensures.1 in
    rw (p.1, p.2) (back_wrong _ _ _ _ c.in-Some.ensures _ _ (sym (length-map _ (λ w. w.now))) c.in_err-numbers-2.ensures)
