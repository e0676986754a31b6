use Rattle.std.proofs.Common.{◌+◌, ◌-◌, ◌*◌, ◌/◌, ◌%◌, ◌<◌, ◌≤◌, length, sym, subst, arith}
use Rattle.plans.specs.declared.numbers.Numbers.{Numbers}
use Rattle.pages.specs.Views.{over}
use Rattle.rules.proofs.Levels.{message_inside}
use Rattle.pages.proofs.page.Page.laid_symbol.Goals as goal

pub bounds-symbols-i : goal.bounds-symbols-i
bounds-symbols-i g c =
    let p = over c.args.self.now in let i = c.args.i in let e = c.numbers-numbers.ensures in
    let a = subst (λ (m : Numbers). m.checks ≤ i % m.columns) e c.if-column-checks.false in
    let h = message_inside p c.args.self.now.ranges i c.requires.inside a in
    let inside = subst (λ (m : Numbers). i / m.columns * (m.columns - m.checks) + (i % m.columns - m.checks) < length c.args.symbols.now) (sym e) (omega (arith, c.requires.symbols)) in
    omega arith
