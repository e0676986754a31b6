use Rattle.std.proofs.Common.{take, vec_items}
use Rattle.scripts.specs.Commands.{texts, AreNumbers}
use Rattle.scripts.proofs.command.numbers.Given as goal

abbrev pub invariant-loop-i : goal.invariant-loop-i
invariant-loop-i l = AreNumbers (take l.i (texts l.words)) (vec_items l.all)
