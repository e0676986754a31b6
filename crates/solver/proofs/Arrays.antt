-- Mending an array in place, from place m on.
use Rattle.std.proofs.Common.{◌≡◌, ℕ, ◌+◌, ◌-◌, ◌<◌, ◌≤◌, List, length, set, sym, refl, ◌∙◌, ap₂, arith}
use native.Mathlib.Decide.{dec_lt}
use Rattle.basics.specs.Lists.{Updated}
use Rattle.basics.proofs.Updating.{updated_more}
use Rattle.fields.specs.Rings.{RingOps, RingLaws}
use Rattle.algebra.specs.Polynomials.{Normal}
use Rattle.algebra.specs.Recurrences.{at}
use Rattle.algebra.proofs.Ring.{solid}
use Rattle.solver.specs.Stages.{mended}
use Rattle.solver.proofs.Massey.{shift_below, shift_from, shift_beyond, mended_none}

module _ (o : RingOps) (r : RingLaws o) (c b : List ℕ) (h m : ℕ) where
  abbrev new : ℕ → ℕ
  new = mended o (at c) h m (at b)

  -- below place m nothing is mended
  pub mend_start : ((j : ℕ) → at c j < o.order) → Updated m new c c
  mend_start inside = record {
    long = refl;
    new = λ j u _. sym (mended_none (solid o r) h m (at c) (at b) j (inside j) (shift_below m (at b) j u));
    old = λ _ _. refl;
  }

  -- one more place
  pub mend_more : (j x y : ℕ) (c' : List ℕ) → Updated j new c c' → m ≤ j → j < length c
      → x ≡ o.mul h (at b (j - m)) → y ≡ o.add (at c' j) x → Updated (j + 1) new c (set c' j y)
  mend_more j x y c' u from within p s = updated_more new c j y c' u within
      (s ∙ ap₂ o.add (u.old j (omega arith)) (p ∙ simp (shift_from m (at b) j from)))

  -- past place k + m there is nothing either
  pub mend_end : (k j : ℕ) (c' : List ℕ) → ((j : ℕ) → at c j < o.order) → Normal o.order k (at b) → j ≤ length c → k + m < j
      → Updated j new c c' → (p : ℕ) → at c' p ≡ new p
  mend_end k j c' inside normal within past u p = elim (dec_lt p j) [
    | yes v ↦ u.new p v (omega arith)
    | no v ↦ u.old p (omega arith) ∙ sym (mended_none (solid o r) h m (at c) (at b) p (inside p) (shift_beyond (solid o r) k m (at b) normal p (omega arith)))
  ]
