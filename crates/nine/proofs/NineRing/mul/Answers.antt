use Rattle.std.proofs.Common.{◌≡◌, ℕ, ◌<◌, ◌/◌, ◌%◌, sym, subst, arith}
use Rattle.std.proofs.lemmas.Nat.{mul-le}
use Rattle.fields.specs.Rings.{taken}
use Rattle.fields.specs.Guard.{taken_in}
use Rattle.nine.proofs.NineRing.mul.Goals as goal

inside : (a : ℕ) {x : ℕ} → x ≡ taken 9 a → x < 9
inside a e = subst (λ (n : ℕ). n < 9) (sym e) (taken_in 9 a (omega arith))

pub overflow_mul-result-3 : goal.overflow_mul-result-3
overflow_mul-result-3 c =
    let x = c.reduced-x.result in let y = c.reduced-y.result in
    omega (arith, mul-le (x / 3) (y / 3) 2 2 (omega (arith, inside c.args.a c.reduced-x.ensures)) (omega (arith, inside c.args.b c.reduced-y.ensures)))

pub overflow_add-result : goal.overflow_add-result
overflow_add-result c =
    let x = c.reduced-x.result in let y = c.reduced-y.result in
    omega (
      arith,
      mul-le (x % 3) (y % 3) 2 2 (omega arith) (omega arith),
      mul-le (x / 3) (y / 3) 2 2 (omega (arith, inside c.args.a c.reduced-x.ensures)) (omega (arith, inside c.args.b c.reduced-y.ensures)),
    )

pub overflow_add-result-2 : goal.overflow_add-result-2
overflow_add-result-2 c =
    let x = c.reduced-x.result in let y = c.reduced-y.result in
    omega (
      arith,
      mul-le (x % 3) (y / 3) 2 2 (omega arith) (omega (arith, inside c.args.b c.reduced-y.ensures)),
      mul-le (x / 3) (y % 3) 2 2 (omega (arith, inside c.args.a c.reduced-x.ensures)) (omega arith),
    )
