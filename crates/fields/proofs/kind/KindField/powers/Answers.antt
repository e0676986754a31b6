use Rattle.std.proofs.Common.{ap}
use Rattle.fields.specs.Rings.{power}
use Rattle.fields.specs.Kinds.{product, times_x}
use Rattle.fields.specs.Numbered.{number_of}
use Rattle.fields.specs.Seven.{powers_at}
use Rattle.fields.proofs.kind.KindField.powers.Goals as goal

pub returns-in-Prime17 : goal.returns-in-Prime17
unfolding times_x power product
returns-in-Prime17 c = powers_at 1 _ (ap number_of c.in-Prime17.is) tt

pub returns-in-Prime31 : goal.returns-in-Prime31
unfolding times_x power product
returns-in-Prime31 c = powers_at 2 _ (ap number_of c.in-Prime31.is) tt

pub returns-in-Prime127 : goal.returns-in-Prime127
unfolding times_x power product
returns-in-Prime127 c = powers_at 3 _ (ap number_of c.in-Prime127.is) tt

pub returns-in-Prime257 : goal.returns-in-Prime257
unfolding times_x power product
returns-in-Prime257 c = powers_at 4 _ (ap number_of c.in-Prime257.is) tt

pub returns-in-Binary16 : goal.returns-in-Binary16
unfolding times_x power product
returns-in-Binary16 c = powers_at 5 _ (ap number_of c.in-Binary16.is) tt

pub returns-in-Binary64 : goal.returns-in-Binary64
unfolding times_x power product
returns-in-Binary64 c = powers_at 6 _ (ap number_of c.in-Binary64.is) tt

pub returns-in-Binary256 : goal.returns-in-Binary256
unfolding times_x power product
returns-in-Binary256 c = powers_at 7 _ (ap number_of c.in-Binary256.is) tt
