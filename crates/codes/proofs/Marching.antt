-- One column after another: whether columns rise.
use Rattle.std.proofs.Common.{◌≡◌, ℕ, zero, suc, ◌+◌, ◌<◌, ◌≤◌, Bool, true, false, ◌&&◌, ltb, leb, ◌⊎◌, List, [], ◌∷◌, length, get_or, drop, refl, ap, ◌∙◌, ap₂, inl, inr, add-one, arith, drop-cons}
use Rattle.std.proofs.lemmas.Bool.{lt-leb, le-ltb, le-leb, lt-ltb, and_left}
use Rattle.algebra.specs.Rows.{rising}

module _ (b n : ℕ) (ms : List ℕ) (i : ℕ) (h : i < length ms) where
  step : rising b n (drop i ms) ≡ (leb b (get_or ms i 0) && (ltb (get_or ms i 0) n && rising (get_or ms i 0 + 1) n (drop (i + 1) ms)))
  step = ap (rising b n) (drop-cons ms i 0 h) ∙ rw (add-one (get_or ms i 0), add-one i)

  pub rising_stops : (get_or ms i 0 < b) ⊎ (n ≤ get_or ms i 0) → rising b n (drop i ms) ≡ false
  rising_stops (inl l) = step ∙ and_left _ _ (lt-leb b (get_or ms i 0) l)
  rising_stops (inr l) = step ∙ short (leb b (get_or ms i 0)) (le-ltb (get_or ms i 0) n l)
    where
      short : (c : Bool) → ltb (get_or ms i 0) n ≡ false → (c && (ltb (get_or ms i 0) n && rising (get_or ms i 0 + 1) n (drop (i + 1) ms))) ≡ false
      short true e = and_left _ _ e
      short false e = refl

  pub rising_goes : b ≤ get_or ms i 0 → get_or ms i 0 < n → rising b n (drop i ms) ≡ rising (get_or ms i 0 + 1) n (drop (i + 1) ms)
  rising_goes l k = step ∙ ap₂ (λ u v. u && (v && rising (get_or ms i 0 + 1) n (drop (i + 1) ms))) (le-leb b _ l) (lt-ltb _ n k)

pub rising_ends : (b n : ℕ) (ms : List ℕ) (i : ℕ) → length ms ≤ i → rising b n (drop i ms) ≡ true
rising_ends b n [] i h = ap (rising b n) (nothing i)
  where
    nothing : (i : ℕ) → drop {A = ℕ} i [] ≡ []
    nothing zero = refl
    nothing (suc i) = refl
rising_ends b n (m ∷ ms) zero h = absurd (omega arith)
rising_ends b n (m ∷ ms) (suc i) h = rising_ends b n ms i (omega arith)
