use Rattle.std.proofs.Common.{ℕ, suc, ◌+◌, ◌<◌, Bool, false, not, ◌||◌, cond, eqb, get_or, sym, refl, ap, ◌∙◌, ap₂, add-one, arith}
use Rattle.std.proofs.lemmas.List.{length-take, get_or-take}
use Rattle.algebra.specs.Rows.{count}
use Rattle.algebra.proofs.Count.{count_last, count_most}
use Rattle.codes.proofs.correct.Corrector.distance.Goals as goal

pub loop-k-init : goal.loop-k-init
unfolding count
loop-k-init g c = refl

pub overflow_add-total : goal.overflow_add-total
overflow_add-total g c =
    let me = c.args.self.now in let z = length-take me.tables.width me.tables.marks in let few = me.ready.fits.few in
    let t : ℕ → Bool = λ k. not (get_or me.tables.marks k false || eqb (get_or c.args.a.now k 0) (get_or c.args.b.now k 0)) in
    let e = ap {B = ℕ} (λ m. cond (not (m || eqb (get_or c.args.a.now c.loop-k.k 0) (get_or c.args.b.now c.loop-k.k 0))) 1 0) (get_or-take me.tables.width me.tables.marks c.loop-k.k false (omega arith)) in
    omega (arith, c.loop-k.invariant, c.differs-total.ensures, e, count_last c.loop-k.k t, count_most (suc c.loop-k.k) t)

pub loop-k-preserved : goal.loop-k-preserved
loop-k-preserved g c =
    let me = c.args.self.now in let z = length-take me.tables.width me.tables.marks in let k = c.loop-k.k in let h : k < me.tables.width = omega arith in
    let t : ℕ → Bool = λ k. not (get_or me.tables.marks k false || eqb (get_or c.args.a.now k 0) (get_or c.args.b.now k 0)) in
    let e = ap (λ m. cond (not (m || eqb (get_or c.args.a.now k 0) (get_or c.args.b.now k 0))) 1 0) (get_or-take me.tables.width me.tables.marks k false h) in
    rw (add-one k) (ap₂ ◌+◌ c.loop-k.invariant (c.differs-total.ensures ∙ e) ∙ sym (count_last k t))

pub returns-clause-few : goal.returns-clause-few
returns-clause-few g c =
    let me = c.args.self.now in let z = length-take me.tables.width me.tables.marks in let few = me.ready.fits.few in
    omega (arith, c.loop-k.invariant, count_most c.loop-k.k (λ k. not (get_or me.tables.marks k false || eqb (get_or c.args.a.now k 0) (get_or c.args.b.now k 0))))
