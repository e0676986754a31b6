use Rattle.std.proofs.Common.{ℕ, ◌+◌, ◌*◌, get_or, sym, subst, ap₂, arith, w16, Fits}
use Rattle.basics.proofs.Updating.{updated_more}
use Rattle.rules.proofs.Levels.{level_few}
use Rattle.pages.proofs.page.Page.add_heights.Goals as goal

pub overflow_mul-cell : goal.overflow_mul-cell
overflow_mul-cell g c =
    let h = c.args.heights.now in let i = c.loop-i.i in let t = c.loop-i-test.true in let o = c.order-order.ensures in
    let e = level_few _ _ (get_or h i 0) _ c.args.self.now.ranges.levels_few (c.requires.heights i t) (c.requires.symbols i t) in
    subst (λ (q : ℕ). Fits w16 (get_or h i 0 * q)) (sym o) (omega arith)

pub overflow_add-cell : goal.overflow_add-cell
overflow_add-cell g c =
    let h = c.args.heights.now in let i = c.loop-i.i in let t = c.loop-i-test.true in let o = c.order-order.ensures in
    let e = level_few _ _ (get_or h i 0) _ c.args.self.now.ranges.levels_few (c.requires.heights i t) (c.requires.symbols i t) in
    subst (λ (q : ℕ). Fits w16 (get_or h i 0 * q + get_or c.loop-i.cells i 0)) (sym o) (omega (arith, c.loop-i.invariant.old i (omega arith)))

pub loop-i-preserved : goal.loop-i-preserved
loop-i-preserved g c =
    let i = c.loop-i.i in
    updated_more _ _ i _ _ c.loop-i.invariant c.loop-i-test.true
    (ap₂ (λ (q x : ℕ). get_or c.args.heights.now i 0 * q + x) c.order-order.ensures (c.loop-i.invariant.old i (omega arith)))
