use Rattle.std.proofs.Common.{rules}
use Rattle.basics.proofs.Updating.{updated_made}
use Rattle.algebra.proofs.poly.times_factor.Goals as goal

pub returns : goal.returns
returns g c = updated_made _ _ (λ q i y l k. search rules) c.from_fn.ensures.items
