use Rattle.std.proofs.Common.{◌<◌, length, get_or, arith}
use Rattle.algebra.proofs.Columns.{rising_below}
use Rattle.codes.proofs.Placing.{placed_more}
use Rattle.codes.proofs.rows.place.Goals as goal

pub bounds-row-column : goal.bounds-row-column
bounds-row-column c = rising_below 0 256 c.args.columns.now c.requires.0 c.loop-k.k c.loop-k-test.true

pub loop-k-preserved : goal.loop-k-preserved
loop-k-preserved c =
    let ms = c.args.columns.now in let k = c.loop-k.k in
    let h : get_or ms k 0 < length c.args.row.now = omega (arith, rising_below 0 256 ms c.requires.0 k c.loop-k-test.true) in
    placed_more k 0 256 ms c.args.values.now c.args.row.now c.loop-k.row c.requires.0 c.loop-k-test.true h c.loop-k.invariant
