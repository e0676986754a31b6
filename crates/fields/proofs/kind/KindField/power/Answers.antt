use Rattle.std.proofs.Common.{arith}
use Rattle.fields.proofs.Cycle.{power_past}
use Rattle.fields.specs.Numbered.{number_of}
use Rattle.fields.specs.Seven.{laws, generator_in, number_in, order_is}
use Rattle.fields.proofs.kind.KindField.power.Goals as goal

pub returns-else-exponent-powers : goal.returns-else-exponent-powers
returns-else-exponent-powers c =
    let k = number_of c.args.self.now in let ok = number_in c.args.self.now in let p = c.requires.table in let n = p.long in let o = order_is k ok in
    power_past (laws k ok) (generator_in k ok) p c.args.exponent (omega arith) (omega arith)
