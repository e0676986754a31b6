use Rattle.std.proofs.Common.{rules}
use Rattle.images.specs.Format.{words_at}
use Rattle.images.proofs.block.byte_of.Goals as goal

pub returns : goal.returns
unfolding words_at
returns c = search rules
