use Rattle.std.proofs.Common.{arith, []}
use Rattle.std.proofs.lemmas.List.{length-take, get_or-take}
use Rattle.fields.proofs.Lanes.{combined_none, combined_more}
use Rattle.fields.proofs.Ring.combine.Goals as goal

pub loop-i-init : goal.loop-i-init
loop-i-init g c = combined_none _ _ _ _

pub loop-i-preserved : goal.loop-i-preserved
loop-i-preserved g c =
    let z = length-take c.min-count.result c.args.rows.now in
    let e = get_or-take c.min-count.result c.args.rows.now c.loop-i.i [] (omega arith) in
    combined_more _ _ _ _ _ _ _ c.loop-i.invariant (rw (← e) c.scale_add.ensures)
