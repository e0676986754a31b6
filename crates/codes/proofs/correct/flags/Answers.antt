use Rattle.std.proofs.Common.{false, rules}
use Rattle.basics.proofs.Updating.{made_at}
use Rattle.algebra.specs.Rows.{among}
use Rattle.codes.proofs.correct.flags.Goals as goal

pub returns : goal.returns
returns c = record { is = λ k h. made_at _ (λ k. among k c.args.marked.now) (λ q i y l e. search rules) false c.from_fn.ensures.items k h }
