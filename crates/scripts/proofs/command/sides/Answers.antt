use Rattle.std.proofs.Common.{arith, rules}
use Rattle.scripts.proofs.Parts.{cut_twice, cut_once}
use Rattle.scripts.proofs.command.sides.Goals as goal

pub returns-in_err-slash : goal.returns-in_err-slash
returns-in_err-slash c = rw c.from_residual.ensures (λ one. absurd (omega (arith, one, c.in_err-slash.ensures)))

pub returns-then-is_some : goal.returns-then-is_some
returns-then-is_some c = cut_twice c.args.words.now c.in_ok-slash.slash c.in_ok-slash.ensures c.slash_in-2.result c.slash_in-2.ensures (search rules)

pub returns : goal.returns
returns c = cut_once c.args.words.now c.in_ok-slash.slash c.in_ok-slash.ensures c.slash_in-2.result c.slash_in-2.ensures (search rules)
