use Rattle.std.proofs.Common.{◌≡◌, ℕ, ◌+◌, ◌-◌, ◌*◌, ◌≤◌, length, take, drop, subst, arith}
use Rattle.algebra.specs.Rows.{Filled}
use Rattle.codes.proofs.Rowing.{until_more, until_all, row_inside, once_lent}
use Rattle.codes.proofs.fill.fill_rows.Goals as goal

pub loop-k-preserved : goal.loop-k-preserved
loop-k-preserved g c =
    let f = c.in_ok-check.ensures.fits.row in let n = c.args.width in let k = c.loop-k.k in let size = length c.args.rows.now in
    let h : k * n + n ≤ size = row_inside k n size f.some c.loop-k-test.true in
    let long = c.loop-k.invariant.long in let inside : k * n + n ≤ length c.loop-k.rows = omega arith in let wide : k * n + n - k * n ≡ n = omega arith in
    until_more _ _ _ k c.loop-k.rows _ c.loop-k.invariant
    (once_lent _ n (k * n) (k * n + n - k * n) c.loop-k.rows c.fill.new.symbols wide inside (omega arith) (omega arith)
    (subst (λ (m : ℕ). Filled (record { ring = g.F.Ring.ops c.args.field.now; point = g.F.Field.points c.args.field.now }) c.args.columns.now (take m (drop (k * n) c.loop-k.rows)) c.fill.new.symbols) wide c.fill.ensures))

pub returns-clause-filled : goal.returns-clause-filled
returns-clause-filled g c =
    record { long = c.loop-k.invariant.long; rows = until_all _ _ _ c.loop-k.k _ c.in_ok-check.ensures.fits.row.some c.loop-k-test.false c.loop-k.invariant }
