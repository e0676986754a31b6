use Rattle.std.proofs.Common.{◌∙◌, arith}
use Rattle.images.proofs.Placing.{block_set}
use Rattle.images.proofs.save.put_block.Goals as goal

pub returns : goal.returns
returns c = λ f e. block_set c.args.b _ f c.args.image.now c.copy_from_slice.new.self (omega arith) c.requires (omega arith) (c.copy_from_slice.ensures.after ∙ e)
