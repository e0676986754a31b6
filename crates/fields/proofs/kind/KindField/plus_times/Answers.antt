use Rattle.std.proofs.Common.{◌≡◌, ℕ, ◌+◌, ◌<◌, ◌≤◌, get_or, refl, sym, ap, ap₂, ◌∙◌, subst, cond}
use Rattle.std.specs.Prelude.{bit_xor}
use Rattle.std.proofs.lemmas.Bool.{le-ltb}
use Rattle.fields.specs.Rings.{RingOps, taken, power}
use Rattle.fields.specs.Kinds.{prime, binary, order_of, width_of, modulus_of, ops_of, generator_of}
use Rattle.fields.specs.Guard.{taken_same}
use Rattle.fields.specs.Numbered.{number_of, Multiplies}
use Rattle.fields.specs.Seven.{laws, generator_in, number_in, taken_is}
use Rattle.fields.proofs.Cycle.{mul_none_left, mul_none_right, add_none, product_some}
use Rattle.fields.proofs.kind.KindField.plus_times.Goals as goal

-- a sum in a binary kind
xor_added : (k a s x : ℕ) → 5 ≤ k → s ≡ taken (ops_of k).order a → x < (ops_of k).order → bit_xor s x ≡ (ops_of k).add a x
xor_added k a s x h =
    subst (λ (o : RingOps). s ≡ taken o.order a → x < o.order → bit_xor s x ≡ o.add a x) (ap (λ t. cond t (prime (order_of k)) (binary (width_of k) (modulus_of k))) (sym (le-ltb k 5 h)))
    (λ e l. ap₂ bit_xor e (sym (taken_same _ x l)))

pub returns-in-Zero : goal.returns-in-Zero
returns-in-Zero c a m =
    let k = number_of c.args.self.now in let ok = number_in c.args.self.now in
    let h = subst (Multiplies k a) c.in-Zero.is m in
    add_none (laws k ok) c.args.sum _ _ (taken_is k ok c.args.sum (c.reduced-s.ensures ∙ ap (λ (q : ℕ). taken q c.args.sum) c.requires.order)) (mul_none_left (laws k ok) a c.args.b _ refl h.1)

pub returns-in-Logarithm : goal.returns-in-Logarithm
returns-in-Logarithm c a m =
    let k = number_of c.args.self.now in let ok = number_in c.args.self.now in
    add_none (laws k ok) c.args.sum _ _ (taken_is k ok c.args.sum (c.reduced-s.ensures ∙ ap (λ (q : ℕ). taken q c.args.sum) c.requires.order))
    (mul_none_right (laws k ok) a c.args.b _ (taken_is k ok c.args.b (c.reduced-y.ensures ∙ ap (λ (q : ℕ). taken q c.args.b) c.requires.order)) c.if-y-eq0.true)

pub returns-in-Logarithm-2 : goal.returns-in-Logarithm-2
returns-in-Logarithm-2 c a m =
    let k = number_of c.args.self.now in let ok = number_in c.args.self.now in let l = laws k ok in
    let h = subst (Multiplies k a) c.in-Logarithm-2.is m in
    let s = taken_is k ok c.args.sum (c.reduced-s.ensures ∙ ap (λ (q : ℕ). taken q c.args.sum) c.requires.order) in
    let y = taken_is k ok c.args.b (c.reduced-y.ensures ∙ ap (λ (q : ℕ). taken q c.args.b) c.requires.order) in
    ap (bit_xor c.reduced-s.result)
    (c.power.ensures ∙ ap (λ (n : ℕ). power (ops_of k) (generator_of k) (n + get_or c.in-Logarithm-2.logarithms.now c.reduced-y.result 0)) h.4
    ∙ product_some l (generator_in k ok) h.1 a c.args.b _ _ refl y h.3 c.if-y-eq0.false)
    ∙ xor_added k c.args.sum _ _ h.0 s (l.mul_in a c.args.b)
