use Rattle.images.proofs.save.Begun.put.Goals as goal

pub returns-clause-image : goal.returns-clause-image
returns-clause-image c = c.put_block.ensures _ c.level_block.ensures
