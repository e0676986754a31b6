-- Horner's rule, and what it comes to.
use Rattle.std.proofs.Common.{◌≡◌, ℕ, zero, suc, ◌+◌, ◌<◌, ◌≤◌, Bool, true, false, cond, List, get_or, replicate, sym, refl, ap, ◌∙◌, ap₂, add-one, arith}
use Rattle.fields.specs.Rings.{RingOps}
use Rattle.algebra.specs.Polynomials.{unit, times, product, turned}
use Rattle.algebra.specs.Recurrences.{at}
use Rattle.basics.specs.Lists.{Updated}
use Rattle.algebra.proofs.Ring.{Solid}
use Rattle.algebra.proofs.Solve.{mul_zero, zero_add}
use Rattle.algebra.proofs.Polys.{turned_more, turned_first}
use Rattle.codes.specs.Fill.{nested}

module _ {o : RingOps} (l : Solid o) where
  -- the polynomial with its highest power first, at x
  pub nested_turned : (x n : ℕ) (c : ℕ → ℕ) → ((j : ℕ) → j ≤ n → c j < o.order) → nested o x c (suc n) ≡ turned o n c x
  unfolding nested
  nested_turned x zero c i = ap (λ t. o.add t (c 0)) (mul_zero l x) ∙ zero_add l (c 0) (i 0 (omega arith)) ∙ sym (turned_first l x c (i 0 (omega arith)))
  nested_turned x (suc n) c i = ap (λ t. o.add (o.mul x t) (c (suc n))) (nested_turned x n c (λ j h. i j (omega arith))) ∙ sym (turned_more l n x c (i (suc n) (omega arith)))

pub nested_same : (o : RingOps) (x n : ℕ) (b c : ℕ → ℕ) → ((j : ℕ) → j < n → b j ≡ c j) → nested o x b n ≡ nested o x c n
unfolding nested
nested_same o x zero b c e = refl
nested_same o x (suc n) b c e = ap₂ (λ s t. o.add (o.mul x s) t) (nested_same o x n b c (λ j h. e j (omega arith))) (e n (omega arith))

-- one more step
pub nested_more : (o : RingOps) (x : ℕ) (c : ℕ → ℕ) (j s : ℕ) → s ≡ nested o x c j → o.add (o.mul x s) (c j) ≡ nested o x c (j + 1)
unfolding nested
nested_more o x c j s e = rw (add-one j) (ap (λ t. o.add (o.mul x t) (c j)) e)

-- the product of factors, coefficient by coefficient
pub product_none : (o : RingOps) (t : ℕ → Bool) (p : ℕ → ℕ) (c : List ℕ) → ((j : ℕ) → get_or c j 0 ≡ unit 0 j)
    → (j : ℕ) → j < 65 → get_or c j 0 ≡ product o 0 t p j
unfolding product
product_none o t p c e j h = e j

-- one more column, with its factor or without
product_step : (o : RingOps) (t : ℕ → Bool) (p : ℕ → ℕ) (k : ℕ) (b : List ℕ) → ((j : ℕ) → j < 65 → get_or b j 0 ≡ product o k t p j)
    → (j : ℕ) → j < 65 → cond (t k) (times o (p k) (at b)) (at b) j ≡ product o (k + 1) t p j
unfolding product times
product_step o t p k b e j h = rw (add-one k) (go (t k) j h)
  where
    factor : (j : ℕ) → j < 65 → times o (p k) (at b) j ≡ times o (p k) (product o k t p) j
    factor zero h = e 0 h
    factor (suc j) h = ap₂ (λ s u. o.add s (o.neg (o.mul (p k) u))) (e (suc j) h) (e j (omega arith))

    go : (f : Bool) (j : ℕ) → j < 65 → cond f (times o (p k) (at b)) (at b) j ≡ cond f (times o (p k) (product o k t p)) (product o k t p) j
    go true j h = factor j h
    go false j h = e j h

pub product_more : (o : RingOps) (t : ℕ → Bool) (p : ℕ → ℕ) (k a : ℕ) (b c : List ℕ) → t k ≡ true → a ≡ p k → ((j : ℕ) → j < 65 → get_or b j 0 ≡ product o k t p j)
    → Updated 65 (times o a (at b)) (replicate 65 0) c → (j : ℕ) → j < 65 → get_or c j 0 ≡ product o (k + 1) t p j
product_more o t p k a b c on i e u j h =
    u.new j h (omega arith) ∙ ap (λ (x : ℕ). times o x (at b) j) i
    ∙ sym (ap (λ (f : Bool). cond f (times o (p k) (at b)) (at b) j) on) ∙ product_step o t p k b e j h

pub product_kept : (o : RingOps) (t : ℕ → Bool) (p : ℕ → ℕ) (k : ℕ) (b : List ℕ) → t k ≡ false → ((j : ℕ) → j < 65 → get_or b j 0 ≡ product o k t p j)
    → (j : ℕ) → j < 65 → get_or b j 0 ≡ product o (k + 1) t p j
product_kept o t p k b off e j h = sym (ap (λ (f : Bool). cond f (times o (p k) (at b)) (at b) j) off) ∙ product_step o t p k b e j h
