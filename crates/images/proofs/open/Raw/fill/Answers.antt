use Rattle.std.proofs.Common.{length, arith}
use Rattle.basics.proofs.Updating.{updated_more}
use Rattle.images.proofs.Sealing.{tabled_is}
use Rattle.images.proofs.open.Raw.fill.Goals as goal

pub loop-i-preserved : goal.loop-i-preserved
loop-i-preserved c = updated_more _ _ c.loop-i.i _ _ c.loop-i.invariant c.loop-i-test.true c.reading.ensures

pub returns : goal.returns
returns c = let u = c.loop-i.invariant in tabled_is (length c.args.cells.now) _ c.loop-i.cells u.long (λ i h. u.new i (omega arith) h)
