-- Binary polynomials modulo m are a ring: the product is additive in each argument, and a computed test on the powers of x does the rest.
use Rattle.std.specs.Prelude.{◌≡◌, ℕ, zero, suc, ◌+◌, ◌-◌, ◌*◌, ◌/◌, ◌%◌, ◌^◌, ◌<◌, ◌≤◌, Bool, ◌&&◌, T, ◌==◌, nat_eq}
use Rattle.std.proofs.Math.Path.{refl}
use Rattle.std.proofs.Common.{sym, ap, ◌∙◌, subst, zero-mul, one-mul, add-zero, mod-lt, add_comm, one-add, arith, eqb→eq, lit<, shr_lt, shl_lt}
use Rattle.std.proofs.Math.Arith.{lt-one}
use Rattle.std.specs.Int.Bits.{bit_xor, xor_assoc, xor_self, xor_zero_r, xor_shr, xor_lt, xor_shifted}
use Rattle.std.proofs.lemmas.Nat.{xor_comm, xor_block, xor_mod}
use Rattle.std.proofs.Math.Pow.{split, pow_pos, pow-lt}
use Rattle.fields.specs.Rings.{RingLaws}
use Rattle.fields.specs.Kinds.{times_x, product, binary}
use Rattle.fields.specs.Guard.{guard}
use Rattle.fields.specs.Tested.{both, below, below_at}

-- at the powers of x below degree w: 1 is a unit, and the product is commutative and associative
abbrev pub basis_test : ℕ → ℕ → Bool
basis_test w m =
    below w (λ i. (product w m w (2 ^ i) 1 == 2 ^ i) && below w (λ j. (product w m w (2 ^ i) (2 ^ j) == product w m w (2 ^ j) (2 ^ i))
    && below w (λ k. nat_eq (product w m w (product w m w (2 ^ i) (2 ^ j)) (2 ^ k)) (product w m w (2 ^ i) (product w m w (2 ^ j) (2 ^ k))))))

xor_swap : (a b c d : ℕ) → bit_xor (bit_xor a b) (bit_xor c d) ≡ bit_xor (bit_xor a c) (bit_xor b d)
xor_swap a b c d =
    xor_assoc a b (bit_xor c d) ∙ ap (bit_xor a) (sym (xor_assoc b c d) ∙ ap (λ (x : ℕ). bit_xor x d) (xor_comm b c) ∙ xor_assoc c b d)
    ∙ sym (xor_assoc a c (bit_xor b d))

-- a bit, times a number, is additive in each
xor_of_bits : (s t a : ℕ) → s < 2 → t < 2 → bit_xor s t * a ≡ bit_xor (s * a) (t * a)
xor_of_bits zero t a p q = rw (zero-mul a)
xor_of_bits (suc zero) zero a p q = rw (zero-mul a) (sym (xor_zero_r (1 * a)))
xor_of_bits (suc zero) (suc zero) a p q = zero-mul a ∙ sym (xor_self (1 * a))
xor_of_bits (suc zero) (suc (suc t)) a p q = absurd (omega arith)
xor_of_bits (suc (suc s)) t a p q = absurd (omega arith)

times_xor : (s a b : ℕ) → s < 2 → s * bit_xor a b ≡ bit_xor (s * a) (s * b)
times_xor zero a b p = rw (zero-mul a, zero-mul b, zero-mul (bit_xor a b))
times_xor (suc zero) a b p = rw (one-mul a, one-mul b, one-mul (bit_xor a b))
times_xor (suc (suc s)) a b p = absurd (omega arith)

bit_in : (s a q : ℕ) → s < 2 → a < q → s * a < q
bit_in zero a q p h = rw (zero-mul a) (omega arith)
bit_in (suc zero) a q p h = rw (one-mul a) h
bit_in (suc (suc s)) a q p h = absurd (omega arith)

double_xor : (a b : ℕ) → bit_xor a b * 2 ≡ bit_xor (a * 2) (b * 2)
double_xor a b = sym (simp add-zero at (xor_block 1 a b 0 0 (lit< tt) (lit< tt)))

-- below 2 ^ w, f takes an exclusive or to the exclusive or
record Additive (w : ℕ) (f : ℕ → ℕ) : Type 0 where
  xor : (a b : ℕ) → a < 2 ^ w → b < 2 ^ w → f (bit_xor a b) ≡ bit_xor (f a) (f b)

additive_zero : (w : ℕ) (f : ℕ → ℕ) → Additive w f → f 0 ≡ 0
additive_zero w f h = h.xor 0 0 (pow_pos w) (pow_pos w) ∙ xor_self (f 0)

composed : {w : ℕ} {f g : ℕ → ℕ} → Additive w f → Additive w g → ((a : ℕ) → a < 2 ^ w → g a < 2 ^ w) → Additive w (λ a. f (g a))
composed {w} {f} {g} hf hg hi =
    record { xor = λ a b ha hb. ap f (hg.xor a b ha hb) ∙ hf.xor (g a) (g b) (hi a ha) (hi b hb) }

-- two additive functions are equal if they are at the powers of 2
spanned : (w : ℕ) (f g : ℕ → ℕ) → Additive w f → Additive w g → (n : ℕ) → ((i : ℕ) → i < n → f (2 ^ i) ≡ g (2 ^ i)) → (a : ℕ) → a < 2 ^ n → a < 2 ^ w → f a ≡ g a
spanned w f g hf hg zero basis a h k =
    let z : a ≡ 0 = lt-one h in rw z (additive_zero w f hf ∙ sym (additive_zero w g hg))
spanned w f g hf hg (suc n) basis a h k =
    let s : a / 2 ^ n * 2 ^ n + a % 2 ^ n ≡ a = split a n in
    let low : a % 2 ^ n < 2 ^ n = mod-lt a (pow_pos n) in
    let top : a / 2 ^ n < 2 = shr_lt 1 n (subst (λ (m : ℕ). a < 2 ^ m) (sym (one-add n)) h) in
    let x : bit_xor (a / 2 ^ n * 2 ^ n) (a % 2 ^ n) ≡ a = xor_shifted (a / 2 ^ n) n (a % 2 ^ n) low ∙ s in
    let p : a / 2 ^ n * 2 ^ n < 2 ^ w = omega arith in
    let q : a % 2 ^ n < 2 ^ w = omega arith in
    let again : f (a % 2 ^ n) ≡ g (a % 2 ^ n) = spanned w f g hf hg n (λ i l. basis i (omega arith)) (a % 2 ^ n) low q in
    sym (ap f x) ∙ hf.xor _ _ p q ∙ cc (again, head (a / 2 ^ n) top) ∙ sym (hg.xor _ _ p q) ∙ ap g x where
      head : (t : ℕ) → t < 2 → f (t * 2 ^ n) ≡ g (t * 2 ^ n)
      head zero l = rw (zero-mul (2 ^ n)) (additive_zero w f hf ∙ sym (additive_zero w g hg))
      head (suc zero) l = rw (one-mul (2 ^ n)) (basis n (omega arith))
      head (suc (suc t)) l = absurd (omega arith)

module _ (w m : ℕ) where
  top_bit : (a : ℕ) → a < 2 ^ w → a * 2 / 2 ^ w < 2
  top_bit a h = shr_lt 1 w (subst (λ (k : ℕ). a * 2 < 2 ^ k) (add_comm w 1) (shl_lt w 1 h))

  times_x_xor : (a b : ℕ) → a < 2 ^ w → b < 2 ^ w → times_x w m (bit_xor a b) ≡ bit_xor (times_x w m a) (times_x w m b)
  unfolding times_x
  times_x_xor a b ha hb = rw (double_xor a b, xor_shr (a * 2) (b * 2) w, xor_of_bits _ _ m (top_bit a ha) (top_bit b hb)) (xor_swap (a * 2) (b * 2) _ _)

  right_xor : (n a b c : ℕ) → product w m n a (bit_xor b c) ≡ bit_xor (product w m n a b) (product w m n a c)
  unfolding product
  right_xor zero a b c = refl
  right_xor (suc n) a b c =
      rw (xor_mod b c 1, xor_shr b c 1, xor_of_bits (b % 2) (c % 2) a (mod-lt b (lit< tt)) (mod-lt c (lit< tt)), right_xor n (times_x w m a) (b / 2) (c / 2))
      (xor_swap (b % 2 * a) (c % 2 * a) _ _)

  module _ (low : 2 ^ w ≤ m) (high : m < 2 ^ w * 2) where
    -- the bit of degree w cancels
    cancelled : (a t s : ℕ) → t < 2 → s < 2 ^ w → t * 2 ^ w + s ≡ a → bit_xor a (t * m) < 2 ^ w
    cancelled a zero s p q e = rw (zero-mul m, xor_zero_r a) (omega (arith, zero-mul (2 ^ w)))
    cancelled a (suc zero) s p q e =
        let k : 1 * m ≡ 1 * 2 ^ w + (m - 2 ^ w) = omega (arith, one-mul m, one-mul (2 ^ w)) in
        let r : m - 2 ^ w < 2 ^ w = omega arith in
        let b : bit_xor (1 * 2 ^ w + s) (1 * 2 ^ w + (m - 2 ^ w)) ≡ 0 * 2 ^ w + bit_xor s (m - 2 ^ w) = xor_block w 1 1 s (m - 2 ^ w) q r in
        let v : bit_xor s (m - 2 ^ w) < 2 ^ w = xor_lt w s (m - 2 ^ w) q r in
        rw (← e, k, b, zero-mul (2 ^ w)) (omega arith)
    cancelled a (suc (suc t)) s p q e = absurd (omega arith)

    times_x_in : (a : ℕ) → a < 2 ^ w → times_x w m a < 2 ^ w
    unfolding times_x
    times_x_in a h = cancelled (a * 2) (a * 2 / 2 ^ w) (a * 2 % 2 ^ w) (top_bit a h) (mod-lt (a * 2) (pow_pos w)) (split (a * 2) w)

    product_in : (n a b : ℕ) → a < 2 ^ w → product w m n a b < 2 ^ w
    unfolding product
    product_in zero a b h = pow_pos w
    product_in (suc n) a b h =
        xor_lt w _ _ (bit_in (b % 2) a (2 ^ w) (mod-lt b (lit< tt)) h) (product_in n (times_x w m a) (b / 2) (times_x_in a h))

    left_xor : (n b a c : ℕ) → a < 2 ^ w → c < 2 ^ w → product w m n (bit_xor a c) b ≡ bit_xor (product w m n a b) (product w m n c b)
    unfolding product
    left_xor zero b a c ha hc = refl
    left_xor (suc n) b a c ha hc =
        rw (times_xor (b % 2) a c (mod-lt b (lit< tt)), times_x_xor a c ha hc, left_xor n (b / 2) (times_x w m a) (times_x w m c) (times_x_in a ha) (times_x_in c hc))
        (xor_swap (b % 2 * a) (b % 2 * c) _ _)

    -- what the test shows of the powers of x below degree w
    module _ (t : T (basis_test w m)) where
      one_at : (i : ℕ) → i < w → product w m w (2 ^ i) 1 ≡ 2 ^ i
      one_at i h = eqb→eq _ _ (both _ _ (below_at w _ t i h)).0

      comm_at : (i j : ℕ) → i < w → j < w → product w m w (2 ^ i) (2 ^ j) ≡ product w m w (2 ^ j) (2 ^ i)
      comm_at i j h k = eqb→eq _ _ (both _ _ (below_at w _ (both _ _ (below_at w _ t i h)).1 j k)).0

      assoc_at : (i j k : ℕ) → i < w → j < w → k < w → product w m w (product w m w (2 ^ i) (2 ^ j)) (2 ^ k) ≡ product w m w (2 ^ i) (product w m w (2 ^ j) (2 ^ k))
      assoc_at i j k h l n = eqb→eq _ _ (below_at w _ (both _ _ (below_at w _ (both _ _ (below_at w _ t i h)).1 j l)).1 k n)

      in_w : (i : ℕ) → i < w → 2 ^ i < 2 ^ w
      in_w i h = pow-lt h

      inside : (a b : ℕ) → a < 2 ^ w → product w m w a b < 2 ^ w
      inside = product_in w

      left : (b : ℕ) → Additive w (λ a. product w m w a b)
      left b = record { xor = left_xor w b }

      right : (a : ℕ) → Additive w (product w m w a)
      right a = record { xor = λ b c _ _. right_xor w a b c }

      -- from the powers of x to all: the last argument first
      comm_left : (i b : ℕ) → i < w → b < 2 ^ w → product w m w (2 ^ i) b ≡ product w m w b (2 ^ i)
      comm_left i b h hb = spanned w _ _ (right (2 ^ i)) (left (2 ^ i)) w (λ j k. comm_at i j h k) b hb hb

      comm : (a b : ℕ) → a < 2 ^ w → b < 2 ^ w → product w m w a b ≡ product w m w b a
      comm a b ha hb = spanned w _ _ (left b) (right b) w (λ i h. comm_left i b h hb) a ha ha

      assoc_last : (i j c : ℕ) → i < w → j < w → c < 2 ^ w → product w m w (product w m w (2 ^ i) (2 ^ j)) c ≡ product w m w (2 ^ i) (product w m w (2 ^ j) c)
      assoc_last i j c h k hc =
          spanned w _ _ (right (product w m w (2 ^ i) (2 ^ j))) (composed (right (2 ^ i)) (right (2 ^ j)) (λ x _. inside (2 ^ j) x (in_w j k))) w (λ l n. assoc_at i j l h k n) c hc hc

      assoc_mid : (i b c : ℕ) → i < w → b < 2 ^ w → c < 2 ^ w → product w m w (product w m w (2 ^ i) b) c ≡ product w m w (2 ^ i) (product w m w b c)
      assoc_mid i b c h hb hc =
          spanned w _ _ (composed (left c) (right (2 ^ i)) (λ x _. inside (2 ^ i) x (in_w i h))) (composed (right (2 ^ i)) (left c) (λ x k. inside x c k)) w
          (λ j k. assoc_last i j c h k hc) b hb hb

      assoc : (a b c : ℕ) → a < 2 ^ w → b < 2 ^ w → c < 2 ^ w → product w m w (product w m w a b) c ≡ product w m w a (product w m w b c)
      assoc a b c ha hb hc =
          spanned w _ _ (composed (left c) (left b) (λ x k. inside x b k)) (left (product w m w b c)) w (λ i h. assoc_mid i b c h hb hc) a ha ha

      pub laws : 3 ≤ 2 ^ w → 2 ^ w ≤ 4096 → RingLaws (binary w m)
      laws three most =
          guard (2 ^ w) _ _ _ (record {
            low = three;
            high = most;
            neg_in = λ a h. h;
            add_in = xor_lt w;
            mul_in = λ a b ha hb. inside a b ha;
            add_assoc = λ a b c _ _ _. xor_assoc a b c;
            add_comm = λ a b _ _. xor_comm a b;
            add_zero = λ a _. xor_zero_r a;
            add_neg = λ a _. xor_self a;
            mul_assoc = assoc;
            mul_comm = comm;
            mul_one = λ a h. spanned w _ (λ x. x) (left 1) (record { xor = λ x y _ _. refl }) w one_at a h h;
            distrib = λ a b c _ _ _. right_xor w a b c;
          })
