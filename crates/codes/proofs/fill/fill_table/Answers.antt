use Rattle.std.proofs.Common.{◌≡◌, ℕ, ◌+◌, ◌-◌, true, length, take, get_or, ap, ◌∙◌, subst, arith}
use Rattle.std.proofs.lemmas.List.{length-take, get_or-take}
use Rattle.fields.specs.Rings.{entry}
use Rattle.algebra.specs.Polynomials.{product}
use Rattle.algebra.proofs.Ring.{solid}
use Rattle.codes.specs.Fill.{Tabled, nested}
use Rattle.codes.proofs.Tables.{lanes}
use Rattle.codes.proofs.Weighing.{table_right}
use Rattle.codes.proofs.fill.fill_table.Goals as goal

pub returns : goal.returns
returns g c =
    let f = c.args.field.now in let o = g.F.Ring.ops f in let ms = c.args.columns.now in let r = length ms in
    let all = c.points_of-all.result in let points = take r all in let quotients = c.quotients-quotients.result in let ws = c.weights-weights.result in
    let long : length points ≡ r = length-take r all ∙ omega (arith, c.requires, c.points_of-all.ensures.long) in
    let heavy : length (take r ws) ≡ r = length-take r ws ∙ omega (arith, c.requires, c.weights-weights.ensures.long) in
    table_right (solid o (g.met.F.Ring.ring f)) (g.F.Field.inv f) r (λ k. g.F.Field.points f (get_or ms k 0)) points c.locator-locator.result c.values-values.result (take r ws) quotients _ (record {
      few = c.requires;
      points_are = λ k h. get_or-take r all k 0 h ∙ lanes c.requires c.points_of-all.ensures k h;
      locator_is = λ j h. c.locator-locator.ensures j h ∙ ap (λ (n : ℕ). product o n (λ _. true) (λ k. get_or points k 0) j) long;
      quotients_are = subst (λ (n : ℕ). Tabled n n (λ j k. nested o (get_or points k 0) (λ i. get_or c.locator-locator.result i 0) (j + 1)) quotients) long c.quotients-quotients.ensures;
      values_are = λ k h. c.values-values.ensures k (omega (arith, long)) ∙ ap (nested o (get_or points k 0) (λ j. entry quotients j k)) long;
      weights_are = λ k h. get_or-take r ws k 0 h ∙ c.weights-weights.ensures.new k (omega (arith, long)) (omega (arith, c.requires));
      table_is = subst (λ (n : ℕ). Tabled n n (λ s k. o.mul (get_or (take r ws) k 0) (entry quotients (n - 1 - s) k)) c.weighted.result) heavy c.weighted.ensures;
    })
