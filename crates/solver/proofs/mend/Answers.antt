use Rattle.std.proofs.Common.{◌≡◌, ◌+◌, ◌-◌, ◌<◌, get_or, ap, ◌∙◌, arith}
use Rattle.std.proofs.lemmas.List.{length-take, get_or-take}
use Rattle.basics.proofs.Updating.{updated_end}
use Rattle.solver.proofs.Arrays.{mend_start, mend_more, mend_end}
use Rattle.solver.proofs.mend.Goals as goal

pub loop-j-init : goal.loop-j-init
loop-j-init g c = updated_end (omega arith)
    (mend_start _ (g.met.R.Ring.ring c.args.ring.now) c.args.c.now c.args.before.now.c c.args.a c.args.up c.requires.elements)

pub loop-j-preserved : goal.loop-j-preserved
loop-j-preserved g c =
    let o = g.R.Ring.ops c.args.ring.now in let b = c.args.before.now in let j = c.loop-j.j in let up = c.args.up in
    let z = length-take (b.l + 1) b.c in let h : j < b.l + 1 = omega arith in let e : j ≡ up + j - up = omega arith in
    updated_end (omega arith) (mend_more _ (g.met.R.Ring.ring c.args.ring.now) c.args.c.now b.c c.args.a up
    (up + j) _ _ _ c.loop-j.invariant (omega arith) (omega (arith, c.requires.room))
    (c.mul.ensures ∙ ap (o.mul c.args.a) (get_or-take (b.l + 1) b.c j 0 h ∙ ap (λ t. get_or b.c t 0) e)) c.add.ensures)

pub returns : goal.returns
returns g c =
    let b = c.args.before.now in let z = length-take (b.l + 1) b.c in
    mend_end _ (g.met.R.Ring.ring c.args.ring.now) c.args.c.now b.c c.args.a c.args.up
    b.l (c.args.up + c.loop-j.j) c.loop-j.c c.requires.elements c.requires.normal
    (omega (arith, c.requires.room)) (omega arith) c.loop-j.invariant
