use Rattle.std.proofs.Common.{rules}
use Rattle.codes.proofs.Flagging.{among_tells}
use Rattle.codes.proofs.correct.is_marked.Goals as goal

pub returns : goal.returns
returns c = among_tells c.args.column c.args.marked.now _ (search rules) (search rules)
