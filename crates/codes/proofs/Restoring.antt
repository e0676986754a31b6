-- A row of many corrected, from the one that was found for its copy.
use Rattle.std.proofs.Common.{◌≡◌, ℕ, ◌+◌, ◌-◌, ◌*◌, ◌/◌, ◌%◌, ◌<◌, ◌≤◌, min, Bool, true, false, cond, not, ◌||◌, eqb, ltb, List, length, get_or, take, drop, Some, None, sym, refl, ap, ◌∙◌, subst, arith}
use lib.ListN.{length-map}
use Rattle.std.proofs.lemmas.List.{get_or-map, get_or-take}
use Rattle.basics.specs.Checks.{check, ◌or_else◌}
use Rattle.fields.specs.Rings.{FieldOps, RingLaws, Inverses, Points, taken}
use Rattle.algebra.specs.Rows.{among, rising, taken_row, CloseRow, Corrected}
use Rattle.algebra.proofs.Correct.{close_same, only_close}
use Rattle.codes.specs.Fill.{Copied}
use Rattle.codes.specs.Correct.{correct_fault, refusal, CorrectedRows, LostRow, Left}
use Rattle.codes.specs.declared.correct.CorrectFault.{CorrectFault}
use Rattle.codes.specs.declared.correct.CorrectFault.TheVariants.{Width, Checks, Marking, Length, Lost}
use Rattle.codes.proofs.Nearing.{part_long}
use Rattle.codes.proofs.Rowing.{part_same, Until, until_all}

module _ (f : FieldOps) (n r : ℕ) (ms xs cleared : List ℕ) (few : n ≤ 256) (wide : length xs ≡ n) (w : Copied f.ring.order ms xs cleared) where
  abbrev X : List ℕ
  X = taken_row f.ring.order xs

  x_long : length X ≡ n
  x_long = length-map xs (taken f.ring.order) ∙ wide

  z_long : length (take n cleared) ≡ n
  z_long = part_long n cleared few w.long

  -- but for the marked columns it is the row
  same : (k : ℕ) → k < n → among k ms ≡ false → get_or X k 0 ≡ get_or (take n cleared) k 0
  same k h e =
      get_or-map (taken f.ring.order) xs k 0 0 (omega (arith, wide))
      ∙ sym (get_or-take n cleared k 0 h ∙ w.is k (omega (arith, wide)) ∙ ap (λ (b : Bool). cond b 0 (taken f.ring.order (get_or xs k 0))) e)

  -- no code row is close enough to the one where none is to the other
  pub none_close : ((cs : List ℕ) → CloseRow f r ms (take n cleared) cs → ⊥) → (cs : List ℕ) → CloseRow f r ms X cs → ⊥
  none_close none cs c = none cs (close_same f r ms X (take n cleared) cs (z_long ∙ sym x_long) (λ k h. same k (omega (arith, x_long))) c)

  -- one that is close enough to the copy is the only one that is to the row
  pub restored : (inv : ℕ → ℕ) → RingLaws f.ring → Inverses f.ring inv → Points f.ring f.point → n < f.ring.order
      → (zs : List ℕ) → CloseRow f r ms (take n cleared) (take n zs) → Corrected f r ms X (take n zs)
  restored inv laws i p short zs c = only_close f inv laws i p r ms X (take n zs) (omega (arith, x_long))
      (close_same f r ms (take n cleared) X (take n zs) (x_long ∙ sym z_long) (λ k h e. sym (same k (omega (arith, z_long)) e)) c)

-- the row ys is the one code row that is close enough to the row xs
abbrev pub Restored : FieldOps → ℕ → List ℕ → List ℕ → List ℕ → Type 0
Restored f r ms xs ys = Corrected f r ms (taken_row f.ring.order xs) ys

module _ (f : FieldOps) (n r : ℕ) (ms xs : List ℕ) where
  pub restored_all : (k : ℕ) (ys : List ℕ) → 0 < n → length xs / n ≤ k → Until (Restored f r ms) n k xs ys → CorrectedRows f n r ms xs ys
  restored_all k ys pos h u = record { long = u.long; rows = until_all (Restored f r ms) n xs k ys pos h u }

  -- the rows below row k are corrected, and row k is lost, which was lent out of the rows
  pub lost_here : (k : ℕ) (ys zs : List ℕ) → k * n + n ≤ length xs → Until (Restored f r ms) n k xs ys → zs ≡ ys
      → ((cs : List ℕ) → CloseRow f r ms (taken_row f.ring.order (take n (drop (k * n) ys))) cs → ⊥) → LostRow f n r ms k xs zs
  lost_here k ys zs h u same none = subst (LostRow f n r ms k xs) (sym same) (record {
    whole = h;
    long = u.long;
    before = u.rows;
    none = λ cs c. none cs (subst (λ (row : List ℕ). CloseRow f r ms (taken_row f.ring.order row) cs) (sym (part_same n (k * n) xs ys u.long (λ i q _. u.rest i q))) c);
    rest = u.rest;
  })

-- a row is lost only where nothing is refused
unlike : (e : CorrectFault) (k : ℕ) → refusal e ≡ Some e → Some e ≡ Some (Lost k) → ⊥
unlike e k h p = let q : e ≡ Lost k = cc in let z : None ≡ Some e = sym (ap refusal q) ∙ h in let y : ◌≡◌ {A = ℕ} 0 1 = cc in omega arith

never_lost : (a b c d : Bool) (k : ℕ) → (check a Width or_else check b Checks or_else check c Marking or_else check d Length) ≡ Some (Lost k) → ⊥
never_lost true b c d k e = unlike Width k refl e
never_lost false true c d k e = unlike Checks k refl e
never_lost false false true d k e = unlike Marking k refl e
never_lost false false false true k e = unlike Length k refl e
never_lost false false false false k e = let y : ◌≡◌ {A = ℕ} 0 1 = cc in omega arith

pub refused : (f : FieldOps) (q n r : ℕ) (ms xs : List ℕ) (size : ℕ) (e : CorrectFault) → correct_fault q n r ms size ≡ Some e
    → (correct_fault q n r ms size ≡ refusal e) × Left f n r ms xs xs e
refused f q n r ms xs size Width h = (h, refl)
refused f q n r ms xs size Checks h = (h, refl)
refused f q n r ms xs size Marking h = (h, refl)
refused f q n r ms xs size Length h = (h, refl)
refused f q n r ms xs size (Lost k) h = absurd (never_lost (ltb n 1 || ltb (min (q - 1) 256) n) (ltb 64 r) (ltb r (length ms) || not (rising 0 n ms)) (not (eqb (size % n) 0)) k h)
