use Rattle.std.proofs.Common.{◌∙◌}
use Rattle.fields.proofs.Cycle.{none_add}
use Rattle.fields.specs.Numbered.{number_of}
use Rattle.fields.specs.Seven.{laws, number_in}
use Rattle.fields.proofs.kind.KindFieldRing.mul.Goals as goal

pub returns : goal.returns
returns c =
    let k = number_of c.args.self.now in let l = laws k (number_in c.args.self.now) in
    c.plus_times.ensures c.args.a c.factor.ensures ∙ none_add l _ (l.mul_in c.args.a c.args.b)
