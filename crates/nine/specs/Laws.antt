-- The field of order 9 meets the rules: one test over its elements, and two over its inverses.
use Rattle.std.specs.Prelude.{◌≡◌, ℕ, zero, suc, ◌<◌, ◌≤◌, T, ltb, ◌==◌, nat_eq, nat_lt, refl}
use Rattle.std.proofs.Common.{sym, ap, ◌∙◌, arith, eqb→eq, ltb→lt, lit≤, inl, inr}
use Rattle.std.proofs.lemmas.List.{get_or_past}
use Rattle.std.proofs.lemmas.Bool.{cases_lt}
use Rattle.std.proofs.lemmas.Bool.Decides.{nat_tests}
use Rattle.fields.specs.Rings.{RingLaws, Inverses, taken}
use Rattle.fields.specs.Guard.{guard}
use Rattle.fields.proofs.Small.{laws_of}
use Rattle.fields.specs.Tested.{below_at}
use Rattle.nine.specs.Nines.{minus, plus, times, nine, inverses, inverse_of}

pub laws : RingLaws nine
laws = guard 9 minus plus times (laws_of 9 minus plus times tt (lit≤ tt) (lit≤ tt))

tested : (a : ℕ) → a < 9 → T (nat_lt (inverse_of a) 9)
tested = below_at 9 (λ a. ltb (inverse_of a) 9) tt

products : (a : ℕ) → a < 8 → T (nine.mul (suc a) (inverse_of (suc a)) == 1)
products = below_at 8 (λ a. nat_eq (nine.mul (suc a) (inverse_of (suc a))) 1) tt

-- past the elements the answer is 0
pub past : (a : ℕ) → 9 ≤ a → inverse_of a ≡ 0
past a h = get_or_past inverses a 0 h

pub rule : Inverses nine inverse_of
rule = record {
  inv_in = λ a. elim (cases_lt a 9) [ inl h ↦ ltb→lt _ _ (tested a h) | inr h ↦ omega (arith, past a h) ];
  inv_taken = λ a. elim (cases_lt a 9) [
    | inl h ↦ let e : taken 9 a ≡ a = grind (arith, nat_tests) in ap inverse_of (sym e)
    | inr h ↦ let e : taken 9 a ≡ 0 = grind (arith, nat_tests) in past a h ∙ ap inverse_of (sym e)
  ];
  inv_zero = refl;
  mul_inv = product;
}
  where
    product : (a : ℕ) → a < 9 → 0 < a → nine.mul a (inverse_of a) ≡ 1
    product zero h p = absurd (omega arith)
    product (suc a) h p = eqb→eq _ _ (products a (omega arith))
