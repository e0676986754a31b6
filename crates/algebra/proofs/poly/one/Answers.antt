use Rattle.std.proofs.Common.{zero, suc, refl}
use Rattle.basics.proofs.Updating.{get_d_zeros}
use Rattle.algebra.proofs.poly.one.Goals as goal

pub returns : goal.returns
returns c = elim [ zero ↦ refl | suc j ↦ get_d_zeros 64 j ]
