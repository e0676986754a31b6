use Rattle.std.proofs.Common.{◌≡◌, length, get_or, ap, ◌∙◌, arith}
use Rattle.std.proofs.lemmas.List.{take_all}
use Rattle.images.proofs.Opening.{padded}
use Rattle.images.proofs.open.kept.Goals as goal

pub returns : goal.returns
returns c h i =
    let xs = c.args.bytes.now in let k = c.min-count.result in
    let e : k ≡ length xs = omega (arith, c.min-count.ensures) in
    let all = c.copy_from_slice.ensures.after ∙ take_all k xs (omega arith) in
    padded c.copy_from_slice.new.self k 17408 (ap length all ∙ omega arith) i ∙ ap (λ us. get_or us i 0) all
