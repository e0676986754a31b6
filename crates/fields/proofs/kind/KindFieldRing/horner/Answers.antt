use Rattle.std.proofs.Common.{ℕ, map, sym, ap, ◌∙◌}
use Rattle.std.specs.List.{fold}
use Rattle.std.proofs.lemmas.List.{map_push}
use Rattle.std.proofs.lemmas.List.Sums.{fold_push}
use Rattle.fields.specs.Kinds.{ops_of}
use Rattle.fields.specs.Numbered.{number_of}
use Rattle.fields.proofs.kind.KindFieldRing.horner.Goals as goal

pub loop-coefficient-preserved : goal.loop-coefficient-preserved
loop-coefficient-preserved c =
    let o = ops_of (number_of c.args.self.now) in let f = λ (v k : ℕ). o.add k (o.mul c.args.x v) in
    c.plus_times-value.ensures c.args.x c.factor-factor.ensures
    ∙ ap (λ v. f v c.in-Some.coefficient.now) c.loop-coefficient.invariant
    ∙ sym (ap (fold f 0) (map_push (λ k. k.now) c.loop-coefficient.yielded c.in-Some.coefficient) ∙ fold_push f 0 (map (λ k. k.now) c.loop-coefficient.yielded) c.in-Some.coefficient.now)
