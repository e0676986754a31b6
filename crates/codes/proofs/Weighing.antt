-- The table by which columns are filled, from the steps that make it.
use Rattle.std.proofs.Common.{◌≡◌, ℕ, zero, suc, ◌+◌, ◌-◌, ◌<◌, ◌≤◌, Bool, true, false, cond, List, length, take, get_or, refl, ap, ◌∙◌, ap₂, add-one, arith}
use Rattle.std.proofs.lemmas.List.{length-take-le, get_or-take}
use Rattle.fields.specs.Rings.{RingOps, entry}
use Rattle.algebra.specs.Polynomials.{times, product, turned, quotient, gamma, weight, filler}
use Rattle.algebra.proofs.Ring.{Solid}
use Rattle.algebra.proofs.Sum.{sum_in}
use Rattle.algebra.proofs.Polys.{product_normal}
use Rattle.codes.specs.Fill.{Tabled, nested}
use Rattle.codes.proofs.Nested.{nested_turned, nested_same}

pub product_same : (o : RingOps) (n : ℕ) (t : ℕ → Bool) (p s : ℕ → ℕ) → ((k : ℕ) → k < n → p k ≡ s k) → product o n t p ≡ product o n t s
unfolding product
product_same o zero t p s e = refl
product_same o (suc n) t p s e =
    ap₂ (λ (a : ℕ) (c : ℕ → ℕ). cond (t n) (times o a c) c) (e n (omega arith)) (product_same o n t p s (λ k h. e k (omega arith)))

pub product_tests : (o : RingOps) (n : ℕ) (t u : ℕ → Bool) (p : ℕ → ℕ) → ((k : ℕ) → k < n → t k ≡ u k) → product o n t p ≡ product o n u p
unfolding product
product_tests o zero t u p e = refl
product_tests o (suc n) t u p e =
    ap₂ (λ (b : Bool) (c : ℕ → ℕ). cond b (times o (p n) c) c) (e n (omega arith)) (product_tests o n t u p (λ k h. e k (omega arith)))

-- the product over the first n flags
pub product_part : (o : RingOps) (p : ℕ → ℕ) (n : ℕ) (flags : List Bool) (c : List ℕ) → n ≤ length flags
    → ((j : ℕ) → j < 65 → get_or c j 0 ≡ product o (length (take n flags)) (λ k. get_or (take n flags) k false) p j)
    → (j : ℕ) → j < 65 → get_or c j 0 ≡ product o n (λ k. get_or flags k false) p j
product_part o p n flags c h e j l =
    e j l ∙ ap (λ (m : ℕ). product o m (λ k. get_or (take n flags) k false) p j) (length-take-le n flags h)
    ∙ ap (λ (t : ℕ → ℕ). t j) (product_tests o n (λ k. get_or (take n flags) k false) (λ k. get_or flags k false) p (λ k g. get_or-take n flags k false g))

-- what is made on the way, for r columns whose points are p: the points, their locator, its quotients, the quotients' values, weights
pub record Steps (o : RingOps) (inv : ℕ → ℕ) (r : ℕ) (p : ℕ → ℕ) (points locator values weights : List ℕ) (quotients table : List (List ℕ)) : Type 0 where
  pub few : r ≤ 64
  pub points_are : (k : ℕ) → k < r → get_or points k 0 ≡ p k
  pub locator_is : (j : ℕ) → j < 65 → get_or locator j 0 ≡ product o r (λ _. true) (λ k. get_or points k 0) j
  pub quotients_are : Tabled r r (λ j k. nested o (get_or points k 0) (λ i. get_or locator i 0) (j + 1)) quotients
  pub values_are : (k : ℕ) → k < r → get_or values k 0 ≡ nested o (get_or points k 0) (λ j. entry quotients j k) r
  pub weights_are : (k : ℕ) → k < r → get_or weights k 0 ≡ o.neg (inv (o.mul (get_or points k 0) (get_or values k 0)))
  pub table_is : Tabled r r (λ s k. o.mul (get_or weights k 0) (entry quotients (r - 1 - s) k)) table

module _ {o : RingOps} (l : Solid o) (inv : ℕ → ℕ) (r : ℕ) (p : ℕ → ℕ) (points locator values weights : List ℕ) (quotients table : List (List ℕ))
    (s : Steps o inv r p points locator values weights quotients table) where
  abbrev Γ : ℕ → ℕ
  Γ = gamma o r p

  coefficient : (j : ℕ) → j < 65 → get_or locator j 0 ≡ Γ j
  coefficient j h = s.locator_is j h ∙ ap (λ (c : ℕ → ℕ). c j) (product_same o r (λ _. true) (λ k. get_or points k 0) p s.points_are)

  quotient_is : (j k : ℕ) → j < r → k < r → entry quotients j k ≡ quotient o (p k) Γ j
  quotient_is j k h g = s.quotients_are.is j k h g
      ∙ ap (λ (x : ℕ). nested o x (λ i. get_or locator i 0) (j + 1)) (s.points_are k g)
      ∙ nested_same o (p k) (j + 1) (λ i. get_or locator i 0) Γ (λ i q. coefficient i (omega (arith, s.few)))
      ∙ ap (nested o (p k) Γ) (add-one j)
      ∙ nested_turned l (p k) j Γ (λ i _. (product_normal l r (λ _. true) p).inside i)

  value_is : (k : ℕ) → k < r → get_or values k 0 ≡ turned o (r - 1) (quotient o (p k) Γ) (p k)
  value_is k g = s.values_are k g
      ∙ ap (λ (x : ℕ). nested o x (λ j. entry quotients j k) r) (s.points_are k g)
      ∙ nested_same o (p k) r (λ j. entry quotients j k) (quotient o (p k) Γ) (λ j h. quotient_is j k h g)
      ∙ ap (nested o (p k) (quotient o (p k) Γ)) whole
      ∙ nested_turned l (p k) (r - 1) (quotient o (p k) Γ) (λ j _. sum_in l (suc j) _)
    where
      whole : r ≡ suc (r - 1)
      whole = omega arith

  weight_is : (k : ℕ) → k < r → get_or weights k 0 ≡ o.neg (weight o inv r p k)
  weight_is k g = s.weights_are k g ∙ ap₂ (λ (x y : ℕ). o.neg (inv (o.mul x y))) (s.points_are k g) (value_is k g)

  pub table_right : Tabled r r (filler o inv r p) table
  table_right = record {
    long = s.table_is.long;
    is = λ i k h g. s.table_is.is i k h g ∙ ap₂ o.mul (weight_is k g) (quotient_is (r - 1 - i) k (omega arith) g);
  }
