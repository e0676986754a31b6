-- An image block by block.
use Rattle.std.proofs.Common.{◌≡◌, ℕ, ◌+◌, ◌-◌, ◌*◌, ◌/◌, ◌%◌, ◌<◌, ◌≤◌, cond, List, length, get_or, sym, ap, ◌∙◌, ap₂, inl, inr, add-one, arith}
use Rattle.std.proofs.lemmas.Bool.{cases_lt, lt-ltb, le-ltb}
use Rattle.plans.specs.declared.numbers.Numbers.{Numbers}
use Rattle.images.specs.Format.{Stored, words_at, bytes_of_head, head_at, plain_at, sealed_at, image_at, image_size, image_of}
use Rattle.images.specs.Saving.{BlockSet, LevelsSet}
use Rattle.images.proofs.Sealing.{tabled_is}

-- the block and the byte of a place
pub place_block : (b j : ℕ) → j < 512 → (512 * b + j) / 512 ≡ b
place_block b j h = omega arith

pub place_byte : (b j : ℕ) → j < 512 → (512 * b + j) % 512 ≡ j
place_byte b j h = omega arith

pub image_block : (s : Stored) (b j : ℕ) → j < 512 → image_at s (512 * b + j) ≡ sealed_at b (plain_at s b) j
unfolding image_at
image_block s b j h = ap₂ (λ c k. sealed_at c (plain_at s c) k) (place_block b j h) (place_byte b j h)

pub image_head : (s : Stored) (j : ℕ) → j < 512 → image_at s j ≡ sealed_at 0 (head_at s.kind s.numbers s.marking) j
image_head s j h = let e : j ≡ 512 * 0 + j = omega arith in ap (image_at s) e ∙ image_block s 0 j h

-- block 0 before its check: its first bytes, and the marked columns
pub head_low : (kind : ℕ) (p : Numbers) (ms : List ℕ) (j : ℕ) → j < 16 → head_at kind p ms j ≡ get_or (bytes_of_head kind p (length ms)) j 0
unfolding head_at
head_low kind p ms j h = ap (λ t. cond t (get_or (bytes_of_head kind p (length ms)) j 0) (words_at ms (j - 16))) (lt-ltb j 16 h)

pub head_high : (kind : ℕ) (p : Numbers) (ms : List ℕ) (j : ℕ) → 16 ≤ j → head_at kind p ms j ≡ words_at ms (j - 16)
unfolding head_at
head_high kind p ms j h = ap (λ t. cond t (get_or (bytes_of_head kind p (length ms)) j 0) (words_at ms (j - 16))) (le-ltb j 16 h)

pub image_levels : (s : Stored) (b j : ℕ) → j < 512 → image_at s (512 * (b + 1) + j) ≡ sealed_at (b + 1) (λ j. words_at s.cells (508 * b + j)) j
image_levels s b j h =
    image_block s (b + 1) j h ∙ ap (λ c. sealed_at c (plain_at s c) j) (add-one b) ∙ ap (λ c. sealed_at c (λ j. words_at s.cells (508 * b + j)) j) (sym (add-one b))

-- the first blocks of a buffer are those of the image
pub record Begins (s : Stored) (blocks : ℕ) (xs : List ℕ) : Type 0 where
  pub at : (i : ℕ) → i < 512 * blocks → get_or xs i 0 ≡ image_at s i

pub begins_head : (s : Stored) (xs zs : List ℕ) → BlockSet 0 (sealed_at 0 (head_at s.kind s.numbers s.marking)) xs zs → Begins s 1 zs
begins_head s xs zs k = record {
  at = λ i h. let e : 512 * 0 + i ≡ i = omega arith in ap (λ j. get_or zs j 0) (sym e) ∙ k.new i (omega arith) ∙ sym (image_head s i (omega arith));
}

pub begins_more : (s : Stored) (b : ℕ) (xs zs : List ℕ) → Begins s (1 + b) xs → LevelsSet b s.cells xs zs → Begins s (1 + (b + 1)) zs
begins_more s b xs zs u k = record {
  at = λ i h. elim (cases_lt i (512 * (b + 1))) [
    | inl l ↦ k.before i l ∙ u.at i (omega arith)
    | inr l ↦ let e : 512 * (b + 1) + (i - 512 * (b + 1)) ≡ i = omega arith in
        ap (λ j. get_or zs j 0) (sym e) ∙ k.new (i - 512 * (b + 1)) (omega arith) ∙ sym (image_levels s b (i - 512 * (b + 1)) (omega arith)) ∙ ap (image_at s) e
  ];
}

pub begins_all : (s : Stored) (blocks : ℕ) (xs : List ℕ) → image_size s.numbers ≡ 512 * blocks → length xs ≡ image_size s.numbers → Begins s blocks xs → xs ≡ image_of s
begins_all s blocks xs e l u = tabled_is (image_size s.numbers) (image_at s) xs l (λ i h. u.at i (omega (arith, e)))
