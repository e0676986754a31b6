use Rattle.std.proofs.Common.{sym, ◌∙◌, inl, inr}
use Rattle.codes.proofs.Marching.{rising_stops, rising_goes, rising_ends}
use Rattle.codes.proofs.rows.rises.Goals as goal

pub returns-then-column-least : goal.returns-then-column-least
returns-then-column-least c =
    sym (c.loop-column.invariant ∙ rising_stops c.loop-column.least c.args.width c.args.columns.now c.loop-column.column-index c.loop-column-test.true
    (elim c.then-column-least.either [ inl l ↦ inl l | inr l ↦ inr l.1 ]))

pub loop-column-preserved : goal.loop-column-preserved
loop-column-preserved c =
    c.loop-column.invariant ∙ rising_goes _ _ c.args.columns.now c.loop-column.column-index c.loop-column-test.true c.if-column-least.false c.if-column-width.false

pub returns : goal.returns
returns c = sym (c.loop-column.invariant ∙ rising_ends _ _ c.args.columns.now c.loop-column.column-index c.loop-column-test.false)
