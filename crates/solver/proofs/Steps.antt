-- The steps on what the code holds, from what its functions promise.
use Rattle.std.proofs.Common.{◌≡◌, ℕ, suc, ◌+◌, ◌-◌, ◌*◌, ◌<◌, ◌≤◌, List, take, sym, ap, ◌∙◌, ap₂, add-one, arith}
use mathlib.Core.Path.{fun_ext}
use Rattle.fields.specs.Rings.{RingOps, RingLaws, Inverses, sum}
use Rattle.algebra.specs.Recurrences.{gap, at}
use Rattle.algebra.proofs.Ring.{solid}
use Rattle.algebra.proofs.Sum.{sum_in, sum_same}
use Rattle.algebra.specs.Coefficients.{product_entry}
use Rattle.algebra.proofs.Coefficients.{product_all}
use Rattle.std.proofs.lemmas.List.{length-take, get_or-take}
use Rattle.solver.specs.declared.Earlier.{Earlier}
use Rattle.solver.specs.Stages.{mended, Held}
use Rattle.solver.proofs.Massey.{step_same, step_kept, step_grown}

-- a coefficient of the product with the values is the sum that the recurrence has there
pub gap_from_product : (o : RingOps) (r : RingLaws o) (values c : List ℕ) (i n x : ℕ) → n ≤ i → x ≡ product_entry o (take (n + 1) c) values i → x ≡ gap o n (at c) (at values) i
gap_from_product o r values c i n x h e =
    let z = length-take (n + 1) c in
    e ∙ sym (product_all o r (take (n + 1) c) values i (n + 1) (omega arith) (λ u. omega arith))
    ∙ sum_same (solid o r) (n + 1) _ (λ j. o.mul (at c j) (at values (i - j))) (λ j l. ap (λ t. o.mul t (at values (i - j))) (get_or-take (n + 1) c j 0 l))
    ∙ ap (λ (k : ℕ). sum o k (λ j. o.mul (at c j) (at values (i - j)))) (add-one n)

module _ (o : RingOps) (r : RingLaws o) (values c : List ℕ) (before : Earlier) (i n x : ℕ) (held : Held o values i n c before)
    (is : x ≡ gap o n (at c) (at values) i) where
  abbrev b : ℕ → ℕ
  b = at before.c

  abbrev here : ℕ
  here = gap o n (at c) (at values) i

  pub held_same : x ≡ 0 → Held o values (i + 1) n c before
  held_same e = rw add-one (step_same (solid o r) (at values) i n (at c) before.l b before.inverse held (sym is ∙ e))

  module _ (some : 0 < x) (y h : ℕ) (p : y ≡ o.mul x before.inverse) (s : h ≡ o.neg y) (c' : List ℕ)
      (m : (j : ℕ) → at c' j ≡ mended o (at c) h (i + 1 - n - before.l) b j) where
    -- c' as the steps have it
    new : at c' ≡ mended o (at c) (o.neg (o.mul here before.inverse)) (suc i - n - before.l) b
    new = fun_ext m ∙ ap₂ (λ t u. mended o (at c) t (u - n - before.l) b) (s ∙ ap o.neg (p ∙ ap (λ t. o.mul t before.inverse) is)) (add-one i)

    gap_here : 0 < here
    gap_here = omega (arith, is)

    pub held_kept : i < 2 * n → Held o values (i + 1) n c' before
    held_kept short = rw (new, add-one) (step_kept (solid o r) (at values) i n (at c) before.l b before.inverse held gap_here short)

    pub held_grown : 2 * n ≤ i → (inv : ℕ → ℕ) → Inverses o inv → (w : ℕ) → w ≡ inv x
        → Held o values (i + 1) (i + 1 - n) c' (record { c = c; l = n; inverse = w })
    held_grown long inv rule w e = rw (new, add-one) (step_grown (solid o r) (at values) i n (at c) before.l b before.inverse held gap_here long w
        (ap (o.mul here) (e ∙ ap inv is) ∙ rule.mul_inv here (sum_in (solid o r) (suc n) _) gap_here))
