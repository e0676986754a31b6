-- Numbers stored two bytes each, and read again.
use Rattle.std.proofs.Common.{◌≡◌, ℕ, ◌+◌, ◌*◌, ◌/◌, ◌%◌, ◌<◌, ◌≤◌, List, length, get_or, ap, ◌∙◌, subst, inl, inr, arith}
use Rattle.std.proofs.lemmas.List.{get_or_past}
use Rattle.std.proofs.lemmas.Bool.{cases_lt}
use Rattle.images.specs.Format.{two_bytes, words_at}

-- the low byte and the high byte
pub words_low : (xs : List ℕ) (c : ℕ) → words_at xs (2 * c) ≡ get_or xs c 0 % 256
unfolding words_at
words_low xs c =
    let a : 2 * c / 2 ≡ c = omega arith in let b : 2 * c % 2 ≡ 0 = omega arith in
    ap (λ k. get_or (two_bytes (get_or xs (2 * c / 2) 0)) k 0) b ∙ ap (λ k. get_or xs k 0 % 256) a

pub words_high : (xs : List ℕ) (c : ℕ) → words_at xs (2 * c + 1) ≡ get_or xs c 0 / 256 % 256
unfolding words_at
words_high xs c =
    let a : (2 * c + 1) / 2 ≡ c = omega arith in let b : (2 * c + 1) % 2 ≡ 1 = omega arith in
    ap (λ k. get_or (two_bytes (get_or xs ((2 * c + 1) / 2) 0)) k 0) b ∙ ap (λ k. get_or xs k 0 / 256 % 256) a

-- a place is that of a low byte or of a high one
pub by_parity : (P : ℕ → Type 0) → ((c : ℕ) → P (2 * c)) → ((c : ℕ) → P (2 * c + 1)) → (i : ℕ) → P i
by_parity P even odd i = elim (cases_lt (i % 2) 1) [
  | inl l ↦ let e : 2 * (i / 2) ≡ i = omega arith in subst P e (even (i / 2))
  | inr l ↦ let e : 2 * (i / 2) + 1 ≡ i = omega arith in subst P e (odd (i / 2))
]

-- every byte of them is one
pub words_small : (xs : List ℕ) → (i : ℕ) → words_at xs i < 256
words_small xs = by_parity (λ i. words_at xs i < 256) (λ c. omega (arith, words_low xs c)) (λ c. omega (arith, words_high xs c))

-- both give the number
pub words_back : (xs : List ℕ) (c : ℕ) → get_or xs c 0 < 65536 → words_at xs (2 * c) + 256 * words_at xs (2 * c + 1) ≡ get_or xs c 0
words_back xs c h = omega (arith, words_low xs c, words_high xs c)

-- after the last number there is filler
pub words_past : (xs : List ℕ) (i : ℕ) → 2 * length xs ≤ i → words_at xs i ≡ 0
words_past xs = by_parity (λ i. 2 * length xs ≤ i → words_at xs i ≡ 0)
    (λ c h. omega (arith, words_low xs c, get_or_past xs c 0 (omega arith)))
    (λ c h. omega (arith, words_high xs c, get_or_past xs c 0 (omega arith)))

-- bytes are those of the numbers that they make
module _ (f : ℕ → ℕ) (small : (i : ℕ) → f i < 256) (xs : List ℕ) where
  pub words_of : ((c : ℕ) → c < length xs → get_or xs c 0 ≡ f (2 * c) + 256 * f (2 * c + 1)) → (i : ℕ) → i < 2 * length xs → words_at xs i ≡ f i
  words_of h = by_parity (λ i. i < 2 * length xs → words_at xs i ≡ f i)
      (λ c l. omega (arith, words_low xs c, h c (omega arith), small (2 * c), small (2 * c + 1)))
      (λ c l. omega (arith, words_high xs c, h c (omega arith), small (2 * c), small (2 * c + 1)))
