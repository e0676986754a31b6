use Rattle.std.proofs.Common.{◌≡◌, ℕ, ◌+◌, ◌*◌, ◌≤◌, get_or, take, ap, ◌∙◌, arith}
use Rattle.std.proofs.lemmas.Nat.{mul-le}
use Rattle.std.proofs.lemmas.List.{get_or-take}
use Rattle.rules.specs.Reach.{total}
use Rattle.rules.proofs.Drifts.{total_more, total_empty}
use Rattle.images.specs.Format.{check_value}
use Rattle.images.proofs.block.check_of.Goals as goal

-- a byte times its place is small
small : (j x : ℕ) → j + 1 ≤ 508 → x ≤ 255 → (j + 1) * x ≤ 129540
small j x h l = mul-le (j + 1) x 508 255 h l

pub loop-j-init : goal.loop-j-init
loop-j-init c = (omega (arith, total_empty (λ j. (j + 1) * get_or c.args.block.now j 0)), omega arith)

pub overflow_add-sum-in-loop-j-2 : goal.overflow_add-sum-in-loop-j-2
overflow_add-sum-in-loop-j-2 c = omega (arith, small c.loop-j.j (get_or (take 508 c.args.block.now) c.loop-j.j 0) (omega arith) (omega arith))

pub loop-j-preserved : goal.loop-j-preserved
loop-j-preserved c =
    let j = c.loop-j.j in let e = ap (λ x. (j + 1) * x) (get_or-take 508 c.args.block.now j 0 (omega arith)) in (
      omega (arith, e, total_more j (λ j. (j + 1) * get_or c.args.block.now j 0)),
      omega (arith, small j (get_or (take 508 c.args.block.now) j 0) (omega arith) (omega arith)),
    )

pub returns : goal.returns
unfolding check_value
returns c = let e : c.loop-j.j ≡ 508 = omega arith in c.loop-j.invariant.0 ∙ ap (λ m. 1 + c.args.b + total m (λ j. (j + 1) * get_or c.args.block.now j 0)) e
