-- Flags of columns.
use Rattle.std.proofs.Common.{◌≡◌, ℕ, ◌<◌, ◌≤◌, Bool, true, false, List, length, get_or, sym, refl, ap, ◌∙◌, inl, inr, arith}
use Rattle.std.proofs.lemmas.Bool.{cases_Bool}
use Rattle.algebra.specs.Rows.{among}
use Rattle.algebra.proofs.Columns.{among_entry, entry_among}
use Rattle.codes.specs.Correct.{Flagged}

pub flagged_end : {t : ℕ → Bool} {bs : List Bool} {m n : ℕ} → n ≤ m → Flagged m t bs → Flagged n t bs
flagged_end e u = record { is = λ k h. u.is k (omega arith) }

-- whether a column is among others, by their places
pub among_tells : (k : ℕ) (ms : List ℕ) (b : Bool) → (b ≡ true → (i : ℕ) × (i < length ms) × (get_or ms i 0 ≡ k)) → (b ≡ false → (i : ℕ) → i < length ms → get_or ms i 0 ≡ k → ⊥) → b ≡ among k ms
among_tells k ms true found none = let (i, h, e) = found refl in sym (ap (λ c. among c ms) (sym e) ∙ among_entry ms i h)
among_tells k ms false found none = elim (cases_Bool (among k ms)) [
  | inl on ↦ let (i, (h, e)) = entry_among k ms on in absurd (none refl i h e)
  | inr off ↦ sym off
]
