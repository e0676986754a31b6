-- What a ring and a field on the numbers below an order are, and sums and powers in them.
use Rattle.std.specs.Prelude.{◌≡◌, ℕ, zero, suc, ◌+◌, ◌<◌, ◌≤◌, cond, List, [], length, reverse, nat_lt, slice_index, slice_index_or}
use Rattle.std.specs.List.{fold}

-- a ring's meaning: its order Q, whose elements are the numbers 0 to Q - 1, and its operations, at every number
pub record RingOps : Type 0 where
  pub order : ℕ
  pub neg : ℕ → ℕ
  pub add : ℕ → ℕ → ℕ
  pub mul : ℕ → ℕ → ℕ

-- a field's meaning, but for its inverses, which its ring fixes: the ring, and the point of each column
pub record FieldOps : Type 0 where
  pub ring : RingOps
  pub point : ℕ → ℕ

-- an argument of the order or above is taken as 0
abbrev pub taken : ℕ → ℕ → ℕ
taken q a = cond (nat_lt a q) a 0

-- the rules of a ring
pub record RingLaws (o : RingOps) : Type 0 where
  pub low : 3 ≤ o.order
  pub high : o.order ≤ 4096
  pub neg_in : (a : ℕ) → o.neg a < o.order
  pub add_in : (a b : ℕ) → o.add a b < o.order
  pub mul_in : (a b : ℕ) → o.mul a b < o.order
  pub neg_taken : (a : ℕ) → o.neg a ≡ o.neg (taken o.order a)
  pub add_taken : (a b : ℕ) → o.add a b ≡ o.add (taken o.order a) (taken o.order b)
  pub mul_taken : (a b : ℕ) → o.mul a b ≡ o.mul (taken o.order a) (taken o.order b)
  pub add_assoc : (a b c : ℕ) → a < o.order → b < o.order → c < o.order → o.add (o.add a b) c ≡ o.add a (o.add b c)
  pub add_comm : (a b : ℕ) → a < o.order → b < o.order → o.add a b ≡ o.add b a
  pub add_zero : (a : ℕ) → a < o.order → o.add a 0 ≡ a
  pub add_neg : (a : ℕ) → a < o.order → o.add a (o.neg a) ≡ 0
  pub mul_assoc : (a b c : ℕ) → a < o.order → b < o.order → c < o.order → o.mul (o.mul a b) c ≡ o.mul a (o.mul b c)
  pub mul_comm : (a b : ℕ) → a < o.order → b < o.order → o.mul a b ≡ o.mul b a
  pub mul_one : (a : ℕ) → a < o.order → o.mul a 1 ≡ a
  pub distrib : (a b c : ℕ) → a < o.order → b < o.order → c < o.order → o.mul a (o.add b c) ≡ o.add (o.mul a b) (o.mul a c)

-- the rules of inverses: an element other than 0 times its inverse is 1; the inverse of 0 is answered as 0
pub record Inverses (o : RingOps) (inv : ℕ → ℕ) : Type 0 where
  pub inv_in : (a : ℕ) → inv a < o.order
  pub inv_taken : (a : ℕ) → inv a ≡ inv (taken o.order a)
  pub inv_zero : inv 0 ≡ 0
  pub mul_inv : (a : ℕ) → a < o.order → 0 < a → o.mul a (inv a) ≡ 1

-- the rules of column points: those of the columns 0 to Q - 2 are distinct and not 0, and beyond them 0 is answered
pub record Points (o : RingOps) (point : ℕ → ℕ) : Type 0 where
  pub point_in : (i : ℕ) → point i < o.order
  pub point_nonzero : (i : ℕ) → i + 1 < o.order → 0 < point i
  pub point_apart : (i j : ℕ) → i + 1 < o.order → j + 1 < o.order → point i ≡ point j → i ≡ j
  pub point_beyond : (i : ℕ) → o.order ≤ i + 1 → point i ≡ 0

-- f 0 + f 1 + .. + f (n - 1)
unfoldable pub sum : RingOps → ℕ → (ℕ → ℕ) → ℕ
sum o zero f = 0
sum o (suc n) f = o.add (sum o n f) (f n)

-- a to the power j
unfoldable pub power : RingOps → ℕ → ℕ → ℕ
power o a zero = 1
power o a (suc j) = o.mul a (power o a j)

-- the value at x of the polynomial of these coefficients, by Horner's rule: c 0 + x × (c 1 + x × (c 2 + ..))
abbrev pub horner_of : RingOps → List ℕ → ℕ → ℕ
horner_of o cs x = fold (λ v c. o.add c (o.mul x v)) 0 (reverse cs)

-- entry l of row i
abbrev pub entry : List (List ℕ) → ℕ → ℕ → ℕ
entry rows i l = slice_index (slice_index_or rows i []) l

-- in the lanes below w, lane l of zs is the sum of coefficient i × entry l of row i over the i below n; from there on it is 0
pub record Combined (o : RingOps) (w n : ℕ) (cs : List ℕ) (rows : List (List ℕ)) (zs : List ℕ) : Type 0 where
  pub long : length zs ≡ 64
  pub low : (l : ℕ) → l < w → l < 64 → slice_index zs l ≡ sum o n (λ i. o.mul (slice_index cs i) (entry rows i l))
  pub high : (l : ℕ) → w ≤ l → slice_index zs l ≡ 0
