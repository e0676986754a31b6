-- The rules of the seven fields.
use Rattle.std.specs.Prelude.{◌≡◌, ℕ, zero, suc, ◌+◌, ◌-◌, ◌*◌, ◌/◌, ◌%◌, ◌^◌, ◌<◌, Bool, cond, List, [], ◌∷◌, length, bit_xor, nat_eq, nat_lt, slice_index, slice_index_or}
use Rattle.fields.specs.Rings.{RingOps, taken, power}

-- operations on the numbers below q, at every number: one of q or above is taken as 0
abbrev pub guarded : ℕ → (ℕ → ℕ) → (ℕ → ℕ → ℕ) → (ℕ → ℕ → ℕ) → RingOps
guarded q n s p =
    record { order = q; neg = λ a. n (taken q a); add = λ a b. s (taken q a) (taken q b); mul = λ a b. p (taken q a) (taken q b) }

-- whole numbers modulo q
abbrev pub prime : ℕ → RingOps
prime q = guarded q (λ a. (q - a) % q) (λ a b. (a + b) % q) (λ a b. a * b % q)

-- the point of column i: g to the power i, and 0 from column order - 1 on
abbrev pub point_of : RingOps → ℕ → ℕ → ℕ
point_of o g i = cond (nat_lt (i + 1) o.order) (power o g i) 0

-- a number below n that passes the test, and 0 where none does
unfoldable pub pick : (ℕ → Bool) → ℕ → ℕ
pick f zero = 0
pick f (suc n) = cond (f n) n (pick f n)

-- what times a is 1, and 0 where nothing is
abbrev pub inverse_of : RingOps → ℕ → ℕ
inverse_of o a = pick (λ b. nat_eq (o.mul (taken o.order a) b) 1) o.order

-- the table of the powers of g: as many as there are elements but 0, none of them 0, and 1 first and alone, and again after the last
pub record Powers (o : RingOps) (g : ℕ) (es : List ℕ) : Type 0 where
  pub long : length es + 1 ≡ o.order
  pub is : (i : ℕ) → i + 1 < o.order → slice_index es i ≡ power o g i
  pub nonzero : (i : ℕ) → i + 1 < o.order → 0 < slice_index es i
  pub one_once : (i : ℕ) → i + 1 < o.order → slice_index es i ≡ 1 → i ≡ 0
  pub round : power o g (length es) ≡ 1

-- the table of logarithms: which power of g each element but 0 is
pub record Logarithms (o : RingOps) (g : ℕ) (ls : List ℕ) : Type 0 where
  pub long : length ls ≡ o.order
  pub log_in : (a : ℕ) → 0 < a → a < o.order → slice_index ls a + 1 < o.order
  pub power_log : (a : ℕ) → 0 < a → a < o.order → power o g (slice_index ls a) ≡ a

-- the table of inverses: each element but 0 times its entry is 1, and the entry at 0 is 0
pub record InverseTable (o : RingOps) (is : List ℕ) : Type 0 where
  pub long : length is ≡ o.order
  pub at_zero : slice_index_or is 0 0 ≡ 0
  pub inv_in : (a : ℕ) → 0 < a → a < o.order → slice_index is a < o.order
  pub mul_entry : (a : ℕ) → 0 < a → a < o.order → o.mul a (slice_index is a) ≡ 1

-- binary polynomials, a bit for each coefficient: x times a, modulo m of degree w
unfoldable pub times_x : ℕ → ℕ → ℕ → ℕ
times_x w m a = bit_xor (a * 2) (a * 2 / 2 ^ w * m)

-- a times b, by the n lowest bits of b
unfoldable pub product : ℕ → ℕ → ℕ → ℕ → ℕ → ℕ
product w m zero a b = 0
product w m (suc n) a b = bit_xor (b % 2 * a) (product w m n (times_x w m a) (b / 2))

-- binary polynomials modulo m, of degree w
abbrev pub binary : ℕ → ℕ → RingOps
binary w m = guarded (2 ^ w) (λ a. a) bit_xor (product w m w)

-- a field's kind, from 1 to 7: four of numbers modulo a prime, then three of binary polynomials
abbrev pub order_of : ℕ → ℕ
order_of k = slice_index (0 ∷ 17 ∷ 31 ∷ 127 ∷ 257 ∷ 16 ∷ 64 ∷ 256 ∷ []) k

abbrev pub width_of : ℕ → ℕ
width_of k = slice_index (0 ∷ 0 ∷ 0 ∷ 0 ∷ 0 ∷ 4 ∷ 6 ∷ 8 ∷ []) k

abbrev pub modulus_of : ℕ → ℕ
modulus_of k = slice_index (0 ∷ 0 ∷ 0 ∷ 0 ∷ 0 ∷ 0x13 ∷ 0x43 ∷ 0x11D ∷ []) k

abbrev pub ops_of : ℕ → RingOps
ops_of k = cond (nat_lt k 5) (prime (order_of k)) (binary (width_of k) (modulus_of k))

-- each number but 0 is a power of it
abbrev pub generator_of : ℕ → ℕ
generator_of k = cond (nat_lt k 5) 3 2
