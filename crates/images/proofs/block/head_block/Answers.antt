use Rattle.std.proofs.Common.{rules}
use Rattle.images.specs.Format.{head_at}
use Rattle.images.proofs.block.head_block.Goals as goal

pub returns : goal.returns
unfolding head_at
returns c = search rules
