use Rattle.std.proofs.Common.{ℕ, subst, ap, ◌∙◌}
use Rattle.fields.specs.Rings.{Inverses, Points}
use Rattle.fields.specs.Kinds.{ops_of, generator_of, inverse_of, point_of}
use Rattle.fields.specs.Numbered.{number_of}
use Rattle.answers.proofs.Once.{one_of_kind}
use Rattle.answers.proofs.one_answer.Goals as goal

pub returns : goal.returns
returns c =
    let kind = ap number_of (c.field.ensures ∙ ap (λ p. p.field) c.page.ensures) ∙ c.requires.page.kind in
    one_of_kind c.args.image.now c.requires.image
    (subst (λ (k : ℕ). Inverses (ops_of k) (inverse_of (ops_of k)) × Points (ops_of k) (point_of (ops_of k) (generator_of k))) kind (c.rules.ensures.inverses, c.rules.ensures.points))
