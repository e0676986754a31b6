-- A loop over the places of a list, from the first on.
use Rattle.std.proofs.Common.{◌≡◌, ℕ, zero, suc, ◌+◌, ◌<◌, ◌≤◌, ◌≢◌, List, length, get_or, set, replicate, sym, refl, ap, ◌∙◌, subst, inl, inr, arith, length-set, get_or-set_other, get_or-set_same}
use native.Mathlib.Decide.{ℕ_discrete}
use denote.Param.Members.{Mut, Called}
use Rattle.std.specs.Array.{IsFromFnResult, IsFromFnResultFrom}
use Rattle.std.proofs.lemmas.List.{get_or_past, length-replicate}
use Rattle.std.proofs.lemmas.Bool.{cases_lt}
use Rattle.basics.specs.Lists.{Updated}

module _ (g : ℕ → ℕ) (xs : List ℕ) where
  pub updated_none : Updated 0 g xs xs
  updated_none = record { long = refl; new = λ l h. absurd (omega arith); old = λ l h. refl }

  -- one more place
  pub updated_more : (n y : ℕ) (zs : List ℕ) → Updated n g xs zs → n < length xs → y ≡ g n → Updated (n + 1) g xs (set zs n y)
  updated_more n y zs u h e =
      record {
        long = simp length-set u.long;
        new = λ l k m. new l k m (ℕ_discrete l n);
        old = λ l k. let ne : l ≢ n = omega arith in rw get_or-set_other (u.old l (omega arith));
      }
    where
      new : (l : ℕ) → l < n + 1 → l < length xs → Dec (l ≡ n) → get_or (set zs n y) l 0 ≡ g l
      new l k m (yes p) = let i = u.long in rw p (get_or-set_same zs n y 0 (omega arith) ∙ e)
      new l k m (no p) = let ne : l ≢ n = p in rw get_or-set_other (u.new l (omega arith) m)

-- a list of zeros
pub get_d_zeros : (n l : ℕ) → ◌≡◌ {A = ℕ} (get_or (replicate n 0) l 0) 0
get_d_zeros zero l = refl
get_d_zeros (suc n) zero = refl
get_d_zeros (suc n) (suc l) = get_d_zeros n l

-- the loop has come to n
pub updated_end : {g : ℕ → ℕ} {xs zs : List ℕ} {m n : ℕ} → m ≡ n → Updated m g xs zs → Updated n g xs zs
updated_end {g} {xs} {zs} e u = subst (λ (k : ℕ). Updated k g xs zs) e u

-- an array made by a function that stays as it is, so that each entry is what it gives of its place
module _ {F B : Type 0} {k : Mut F (ℕ × Unit {0}) B} {f : F} {n : ℕ} (ys : List B) (g : ℕ → B)
    (entry : (q : F) (i : ℕ) (y : B) → i < n → Called k f (i, tt) y q → (q ≡ f) × (y ≡ g i)) (d : B) where
  made_from : (i m : ℕ) (p : F) → p ≡ f → IsFromFnResultFrom k p ys i m → i + m ≤ n → (j : ℕ) → i ≤ j → j < i + m → get_or ys j d ≡ g j
  made_from i zero p e each few j l h = absurd (omega arith)
  made_from i (suc m) p e (q, y, at, called, rest) few j l h =
      let here = subst (λ (t : F). Called k t (i, tt) y q) e called in let (stays, is) = entry q i y (omega arith) here in
      elim (cases_lt i j) [
        | inl more ↦ made_from (i + 1) m q stays rest (omega arith) j (omega arith) (omega arith)
        | inr same ↦ let z : j ≡ i = omega arith in ap (λ (t : ℕ). get_or ys t d) z ∙ at.1 d ∙ is ∙ ap g (sym z)
      ]

  pub made_at : IsFromFnResult k f ys n → (i : ℕ) → i < n → get_or ys i d ≡ g i
  made_at made i h = made_from 0 n f refl made.each (omega arith) i (omega arith) (omega arith)

pub updated_made : {F : Type 0} {k : Mut F (ℕ × Unit {0}) ℕ} {f : F} {n : ℕ} (ys : List ℕ) (g : ℕ → ℕ)
    → ((q : F) (i y : ℕ) → i < n → Called k f (i, tt) y q → (q ≡ f) × (y ≡ g i)) → IsFromFnResult k f ys n → Updated n g (replicate n 0) ys
updated_made {F} {k} {f} {n} ys g entry made = record {
  long = made.long ∙ sym (length-replicate n 0);
  new = λ i h l. made_at ys g entry 0 made i h;
  old = λ i h. let z = made.long in get_or_past ys i 0 (omega arith) ∙ sym (get_d_zeros n i);
}
