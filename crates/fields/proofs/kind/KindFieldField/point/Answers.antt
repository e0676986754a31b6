use Rattle.fields.proofs.Cycle.{points}
use Rattle.fields.specs.Numbered.{number_of}
use Rattle.fields.specs.Seven.{laws, generator_in, number_in}
use Rattle.fields.proofs.kind.KindFieldField.point.Goals as goal

pub returns-clause-rule : goal.returns-clause-rule
returns-clause-rule c =
    let k = number_of c.args.self.now in let ok = number_in c.args.self.now in
    points (laws k ok) (generator_in k ok) c.powers.ensures
