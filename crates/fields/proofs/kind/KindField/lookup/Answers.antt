use Rattle.std.proofs.Common.{◌≡◌, ap, arith}
use Rattle.fields.specs.Rings.{power}
use Rattle.fields.specs.Kinds.{product, times_x}
use Rattle.fields.specs.Numbered.{number_of}
use Rattle.fields.specs.Seven.{inverses_at, logs_at}
use Rattle.fields.proofs.kind.KindField.lookup.Goals as goal

pub returns-in-Prime17 : goal.returns-in-Prime17
unfolding times_x power product
returns-in-Prime17 c = let e : number_of c.args.self.now ≡ 1 = ap number_of c.in-Prime17.is in (omega arith, inverses_at 1 _ e tt)

pub returns-in-Prime31 : goal.returns-in-Prime31
unfolding times_x power product
returns-in-Prime31 c = let e : number_of c.args.self.now ≡ 2 = ap number_of c.in-Prime31.is in (omega arith, inverses_at 2 _ e tt)

pub returns-in-Prime127 : goal.returns-in-Prime127
unfolding times_x power product
returns-in-Prime127 c = let e : number_of c.args.self.now ≡ 3 = ap number_of c.in-Prime127.is in (omega arith, inverses_at 3 _ e tt)

pub returns-in-Prime257 : goal.returns-in-Prime257
unfolding times_x power product
returns-in-Prime257 c = let e : number_of c.args.self.now ≡ 4 = ap number_of c.in-Prime257.is in (omega arith, inverses_at 4 _ e tt)

pub returns-in-Binary16 : goal.returns-in-Binary16
unfolding times_x power product
returns-in-Binary16 c = let e : number_of c.args.self.now ≡ 5 = ap number_of c.in-Binary16.is in (omega arith, logs_at 5 _ e tt)

pub returns-in-Binary64 : goal.returns-in-Binary64
unfolding times_x power product
returns-in-Binary64 c = let e : number_of c.args.self.now ≡ 6 = ap number_of c.in-Binary64.is in (omega arith, logs_at 6 _ e tt)

pub returns-in-Binary256 : goal.returns-in-Binary256
unfolding times_x power product
returns-in-Binary256 c = let e : number_of c.args.self.now ≡ 7 = ap number_of c.in-Binary256.is in (omega arith, logs_at 7 _ e tt)
