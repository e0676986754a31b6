-- Blocks that are sealed by their checks.
use Rattle.std.proofs.Common.{◌≡◌, ℕ, zero, suc, ◌+◌, ◌-◌, ◌*◌, ◌/◌, ◌<◌, ◌≤◌, Bool, true, cond, ◌&&◌, eqb, List, [], ◌∷◌, ◌++◌, length, get_or, take, drop, sym, ap, ◌∙◌, subst, ap₂, inl, inr, arith, length-append, length-drop}
use borrow.Rule.Slice.PartMut.{put_mid}
use Rattle.std.specs.Simd.{first_chunks}
use Rattle.std.specs.Cmp.Lexicographic.{pointwise}
use Rattle.std.proofs.Math.Bool.{and_assoc, and-true}
use Rattle.std.proofs.lemmas.List.{ext_get_or, get_or-take, get_or-drop, get_or_append_left, get_or-append_right, length-take-le, drop_more, drop_all, drop-drop}
use Rattle.std.proofs.lemmas.List.FromFn.{length-map-range_with_len}
use Rattle.std.proofs.lemmas.Bool.{cases_lt, lt-ltb, le-ltb, eqb-true, eq-eqb, and_from, and_parts}
use Rattle.rules.specs.Pages.{tabled}
use Rattle.rules.proofs.Drifts.{tabled_at, total_same}
use Rattle.images.specs.Format.{four_bytes, check_value, sealed, sealed_at}

-- the check is that of the bytes before it
pub check_same : (b : ℕ) (f g : ℕ → ℕ) → ((j : ℕ) → j < 508 → f j ≡ g j) → check_value b f ≡ check_value b g
unfolding check_value
check_same b f g h = ap (λ t. 1 + b + t) (total_same 508 _ _ (λ j l. ap (λ x. (j + 1) * x) (h j l)))

-- a byte before the check, and one of the check
pub sealed_low : (b : ℕ) (f : ℕ → ℕ) (j : ℕ) → j < 508 → sealed_at b f j ≡ f j
unfolding sealed_at
sealed_low b f j h = ap (λ t. cond t (f j) (get_or (four_bytes (check_value b f)) (j - 508) 0)) (lt-ltb j 508 h)

pub sealed_high : (b : ℕ) (f : ℕ → ℕ) (j : ℕ) → 508 ≤ j → sealed_at b f j ≡ get_or (four_bytes (check_value b f)) (j - 508) 0
unfolding sealed_at
sealed_high b f j h = ap (λ t. cond t (f j) (get_or (four_bytes (check_value b f)) (j - 508) 0)) (le-ltb j 508 h)

-- a block that holds g and then its check is sealed
pub seal_holds : (b : ℕ) (f g : ℕ → ℕ) → ((j : ℕ) → j < 512 → f j ≡ sealed_at b g j) → sealed b f ≡ true
unfolding sealed
seal_holds b f g h =
    let e = check_same b g f (λ j l. sym (h j (omega arith) ∙ sealed_low b g j l)) in
    let at = λ (j k : ℕ) (i : j ≡ 508 + k) (l : k < 4). eq-eqb (f j) (get_or (four_bytes (check_value b f)) k 0)
    (let z : j - 508 ≡ k = omega arith in h j (omega arith) ∙ sealed_high b g j (omega arith) ∙ ap₂ (λ v m. get_or (four_bytes v) m 0) e z) in
    and_from _ _ (and_from _ _ (at 508 0 (omega arith) (omega arith)) (at 509 1 (omega arith) (omega arith))) (and_from _ _ (at 510 2 (omega arith) (omega arith)) (at 511 3 (omega arith) (omega arith)))

-- what holds of each of four places
four : (P : ℕ → Type 0) → P 508 → P 509 → P 510 → P 511 → (j : ℕ) → 508 ≤ j → j < 512 → P j
four P a b c d j h l = elim (cases_lt j 510) [
  | inl low ↦ elim (cases_lt j 509) [
    | inl x ↦ let e : 508 ≡ j = omega arith in subst P e a
    | inr x ↦ let e : 509 ≡ j = omega arith in subst P e b
  ]
  | inr high ↦ elim (cases_lt j 511) [
    | inl x ↦ let e : 510 ≡ j = omega arith in subst P e c
    | inr x ↦ let e : 511 ≡ j = omega arith in subst P e d
  ]
]

-- and a sealed block holds what is before its check, and then that
pub holds_sealed : (b : ℕ) (f g : ℕ → ℕ) → ((j : ℕ) → j < 508 → f j ≡ g j) → sealed b f ≡ true → (j : ℕ) → j < 512 → f j ≡ sealed_at b g j
unfolding sealed
holds_sealed b f g h e j l = elim (cases_lt j 508) [
  | inl low ↦ h j low ∙ sym (sealed_low b g j low)
  | inr high ↦
      let t = and_parts _ _ e in let x = and_parts _ _ t.0 in let y = and_parts _ _ t.1 in
      four (λ j. f j ≡ get_or (four_bytes (check_value b f)) (j - 508) 0) (eqb-true _ _ x.0) (eqb-true _ _ x.1) (eqb-true _ _ y.0) (eqb-true _ _ y.1) j high l
      ∙ ap (λ v. get_or (four_bytes v) (j - 508) 0) (check_same b f g h) ∙ sym (sealed_high b g j high)
]

-- a list by its places
pub tabled_is : (m : ℕ) (f : ℕ → ℕ) (xs : List ℕ) → length xs ≡ m → ((i : ℕ) → i < m → get_or xs i 0 ≡ f i) → xs ≡ tabled m f
tabled_is m f xs e h = ext_get_or 0 xs (tabled m f) (e ∙ sym (length-map-range_with_len f 0 m)) (λ i l. h i (omega (arith, e)) ∙ sym (tabled_at m f i (omega (arith, e))))

-- a block that holds f, and then its check
pub sealed_put : (b : ℕ) (f : ℕ → ℕ) (xs cs : List ℕ) → length xs ≡ 512 → ((j : ℕ) → j < 508 → get_or xs j 0 ≡ f j) → cs ≡ four_bytes (check_value b (λ j. get_or xs j 0))
    → put_mid 508 4 xs cs ≡ tabled 512 (sealed_at b f)
sealed_put b f xs cs e h is =
    let long : length cs ≡ 4 = ap length is in let before = length-take-le 508 xs (omega (arith, e)) in
    tabled_is 512 (sealed_at b f) (put_mid 508 4 xs cs) (omega (arith, e, long, before, length-append (take 508 xs) (cs ++ drop 4 (drop 508 xs)), length-append cs (drop 4 (drop 508 xs)), length-drop 4 (drop 508 xs), length-drop 508 xs)) (λ j l. elim (cases_lt j 508) [
      | inl low ↦ get_or_append_left (take 508 xs) _ 0 j (omega (arith, before)) ∙ get_or-take 508 xs j 0 low ∙ h j low ∙ sym (sealed_low b f j low)
      | inr high ↦ get_or-append_right (take 508 xs) _ 508 j 0 before high ∙ get_or_append_left cs _ 0 (j - 508) (omega (arith, long))
          ∙ ap (λ bs. get_or bs (j - 508) 0) (is ∙ ap four_bytes (check_same b (λ j. get_or xs j 0) f h)) ∙ sym (sealed_high b f j high)
    ])

-- a block ends with four bytes
last_four : (xs : List ℕ) → length xs ≡ 512 → drop 508 xs ≡ (get_or xs 508 0 ∷ get_or xs 509 0 ∷ get_or xs 510 0 ∷ get_or xs 511 0 ∷ [])
last_four xs e =
    drop_more xs 508 0 (omega arith) ∙ ap (λ ys. get_or xs 508 0 ∷ ys) (drop_more xs 509 0 (omega arith)
    ∙ ap (λ ys. get_or xs 509 0 ∷ ys) (drop_more xs 510 0 (omega arith)
    ∙ ap (λ ys. get_or xs 510 0 ∷ ys) (drop_more xs 511 0 (omega arith) ∙ ap (λ ys. get_or xs 511 0 ∷ ys) (drop_all 512 xs (omega arith)))))

-- which are compared with its check
pub ends_sealed : (b : ℕ) (xs : List ℕ) → length xs ≡ 512 → pointwise eqb (take 4 (drop 508 xs)) (four_bytes (check_value b (λ j. get_or xs j 0))) ≡ sealed b (λ j. get_or xs j 0)
unfolding sealed
ends_sealed b xs e =
    let v = check_value b (λ j. get_or xs j 0) in let t = λ (k : ℕ). eqb (get_or xs (508 + k) 0) (get_or (four_bytes v) k 0) in
    ap (λ ys. pointwise eqb (take 4 ys) (four_bytes v)) (last_four xs e) ∙ ap (λ u. t 0 && (t 1 && (t 2 && u))) (and-true (t 3)) ∙ sym (and_assoc (t 0) (t 1) (t 2 && t 3))

-- whether a block is sealed, from its bytes
pub seal_same : (b : ℕ) (f g : ℕ → ℕ) → ((j : ℕ) → j < 512 → f j ≡ g j) → sealed b f ≡ sealed b g
unfolding sealed
seal_same b f g h =
    let e = check_same b f g (λ j l. h j (omega arith)) in
    let at = λ (j k : ℕ) (l : j < 512). ap₂ (λ (x y : ℕ). eqb x (get_or (four_bytes y) k 0)) (h j l) e in
    ap₂ ◌&&◌ (ap₂ ◌&&◌ (at 508 0 (omega arith)) (at 509 1 (omega arith))) (ap₂ ◌&&◌ (at 510 2 (omega arith)) (at 511 3 (omega arith)))

-- the blocks of an image
chunk_at : (n k : ℕ) (xs : List ℕ) (b : ℕ) (d : List ℕ) → b < k → get_or (first_chunks n k xs) b d ≡ take n (drop (n * b) xs)
chunk_at n zero xs b d h = absurd (omega arith)
chunk_at n (suc k) xs zero d h = let e : 0 ≡ n * 0 = omega arith in ap (λ m. take n (drop m xs)) e
chunk_at n (suc k) xs (suc b) d h = let e : n + n * b ≡ n * suc b = grind arith in
    chunk_at n k (drop n xs) b d (omega arith) ∙ ap (take n) (drop-drop (n * b) n xs) ∙ ap (λ m. take n (drop m xs)) e

-- whether one of them is sealed
pub seal_part : (b size : ℕ) (xs : List ℕ) (bs : List (List ℕ)) (d : List ℕ) (r : Bool) → size ≤ length xs → bs ≡ first_chunks 512 (length (take size xs) / 512) (take size xs) → b < size / 512
    → r ≡ sealed b (λ j. get_or (get_or bs b d) j 0) → r ≡ sealed b (λ j. get_or xs (512 * b + j) 0)
seal_part b size xs bs d r h e l is =
    let long = length-take-le size xs h in let k = length (take size xs) / 512 in
    is ∙ seal_same b _ _ (λ j m.
    ap (λ yss. get_or (get_or yss b d) j 0) e ∙ ap (λ ys. get_or ys j 0) (chunk_at 512 k (take size xs) b d (omega (arith, long)))
    ∙ get_or-take 512 (drop (512 * b) (take size xs)) j 0 m ∙ get_or-drop (512 * b) (take size xs) j 0 ∙ get_or-take size xs (512 * b + j) 0 (omega arith))
