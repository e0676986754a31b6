use Rattle.std.proofs.Common.{◌∙◌}
use Rattle.fields.proofs.Cycle.{inverse_none, entry_inverse, entry_inverses, log_inverse, log_inverses}
use Rattle.fields.specs.Numbered.{number_of}
use Rattle.fields.specs.Seven.{laws, generator_in, number_in, taken_is}
use Rattle.fields.proofs.kind.KindFieldField.inverse.Goals as goal

pub returns-in-Inverses : goal.returns-in-Inverses
returns-in-Inverses c =
    let k = number_of c.args.self.now in let ok = number_in c.args.self.now in
    record {
      value = entry_inverse (laws k ok) (c.in-Inverses.ensures).1 c.args.a _ (taken_is k ok c.args.a c.reduced-x.ensures);
      rule = entry_inverses (laws k ok) (c.in-Inverses.ensures).1;
    }

pub returns-then-x-eq0 : goal.returns-then-x-eq0
returns-then-x-eq0 c =
    let k = number_of c.args.self.now in let ok = number_in c.args.self.now in
    record {
      value = inverse_none (laws k ok) c.args.a _ (taken_is k ok c.args.a c.reduced-x.ensures) c.if-x-eq0.true;
      rule = log_inverses (laws k ok) (generator_in k ok) c.powers-powers.ensures (c.in-Logarithms.ensures).1;
    }

pub returns-else-x-eq0 : goal.returns-else-x-eq0
returns-else-x-eq0 c =
    let k = number_of c.args.self.now in let ok = number_in c.args.self.now in
    record {
      value = c.power.ensures
          ∙ log_inverse (laws k ok) (generator_in k ok) c.powers-powers.ensures (c.in-Logarithms.ensures).1 c.args.a _ (taken_is k ok c.args.a c.reduced-x.ensures) c.if-x-eq0.false;
      rule = log_inverses (laws k ok) (generator_in k ok) c.powers-powers.ensures (c.in-Logarithms.ensures).1;
    }
