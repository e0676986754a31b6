use Rattle.std.proofs.Common.{[], ◌∷◌, ap, ◌∙◌, arith, length-append}
use Rattle.std.proofs.lemmas.List.{get_or_append_left}
use Rattle.basics.proofs.Updating.{updated_more}
use Rattle.images.specs.Format.{four_bytes}
use Rattle.images.proofs.Sealing.{sealed_put}
use Rattle.images.proofs.block.sealed_block.Goals as goal

pub loop-j-preserved : goal.loop-j-preserved
loop-j-preserved g c = λ f h. updated_more _ _ c.loop-j.j _ _ (c.loop-j.invariant f h) c.loop-j-test.true (h _ _ (omega arith) c.byte.ensures)

pub returns : goal.returns
returns g c = λ f h.
    let u = c.loop-j.invariant f h in
    sealed_put c.args.b f _ _ (omega (arith, u.long, length-append c.loop-j.place-items (0 ∷ 0 ∷ 0 ∷ 0 ∷ []))) (λ j l. get_or_append_left c.loop-j.place-items _ 0 j (omega arith) ∙ u.new j (omega arith) (omega arith))
    (c.copy_from_slice.ensures.after ∙ c.to_le_bytes.ensures ∙ ap four_bytes c.check_of-check.ensures)
