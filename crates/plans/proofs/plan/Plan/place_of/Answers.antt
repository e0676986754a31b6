use Rattle.std.proofs.Common.{ℕ, Option, is_some, IfSome, nat_cmp, take, ap, sym, ◌∙◌, subst}
use Rattle.std.specs.List.Sorted.{IsBinarySearchResult}
use Rattle.plans.specs.Marks.{IsPlace}
use Rattle.plans.proofs.Marking.{place_searched}
use Rattle.plans.proofs.plan.Plan.place_of.Goals as goal

pub returns : goal.returns
returns c =
    let s = c.args.self.now in let x = c.args.column in let ms = take s.count s.marked in let r = c.binary_search.result in
    let p = place_searched x s.numbers.columns ms r s.rises
    (subst (λ ms. IsBinarySearchResult (λ y. nat_cmp y x) ms r) c.marking.ensures c.binary_search.ensures.position) in
    record {
      marked = ap is_some c.err.ensures.value ∙ p.0;
      place = subst (λ (o : Option ℕ). IfSome o (IsPlace x ms)) (sym c.err.ensures.value) p.1;
    }
