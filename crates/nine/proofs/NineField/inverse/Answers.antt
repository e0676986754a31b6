use Rattle.nine.specs.Laws.{rule}
use Rattle.nine.proofs.NineField.inverse.Goals as goal

pub returns-clause-rule : goal.returns-clause-rule
returns-clause-rule c = rule
