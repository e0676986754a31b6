-- What the checks of opening say.
use Rattle.std.proofs.Common.{◌≡◌, ℕ, zero, suc, ◌+◌, ◌-◌, ◌*◌, ◌/◌, ◌%◌, ◌<◌, ◌≤◌, ◌⊎◌, min, Bool, true, false, not, ◌&&◌, ◌||◌, eqb, ltb, List, [], ◌∷◌, ◌++◌, length, get_or, take, drop, replicate, Some, None, Option, sym, refl, ap, ◌∙◌, ap₂, inl, inr, arith}
use mir.Val.{Val}
use denote.Array.{each}
use denote.Builtin.{u8}
use denote.Shadow.{shadow}
use Rattle.std.proofs.lemmas.Nat.{mul-le}
use Rattle.std.proofs.lemmas.List.{get_or-take, get_or-drop, get_or_past, get_or-replicate, get_or_append_left, get_or-append_right, length-replicate, length-take-le}
use Rattle.std.proofs.lemmas.Bool.{cases_lt, cases_Bool, ltb-false, le-ltb, eqb-true, eq-eqb, ne_eqb, not-false, and_left, or_parts, or_from}
use Rattle.basics.specs.Checks.{check, ◌or_else◌, lowest, told}
use Rattle.basics.proofs.Checking.{both_none, check_none, check_false, some_first, first_passes, lowest_none, none_lowest}
use Rattle.fields.specs.Kinds.{order_of}
use Rattle.plans.specs.declared.numbers.Numbers.{Numbers}
use Rattle.plans.specs.Orders.{order_fault, outside, Ranges}
use Rattle.plans.specs.Marks.{marking_fault}
use Rattle.plans.proofs.Ranged.{ranges}
use Rattle.plans.specs.declared.fault.OrderFault.TheVariants.{Kind, Columns}
use Rattle.rules.specs.Pages.{tabled}
use Rattle.rules.specs.Views.{kind_fault}
use Rattle.images.specs.Format.{sealed, first_bytes, blocks_of_levels, cell_count, image_size}
use Rattle.images.specs.Opening.{numbers_in, marking_in, filler_here, seal_fault, word_fault, filler_fault, open_fault}
use Rattle.images.specs.declared.fault.ImageFault.TheVariants.{Length, Check, Word, Header, Marking, Blocks, Filler}
use Rattle.images.proofs.Sealing.{tabled_is}

-- the first entries of a list that is made by a function
pub tabled_take : (m n : ℕ) (f : ℕ → ℕ) (ys : List ℕ) → m ≤ n → length ys ≡ n → ((i : ℕ) → i < n → get_or ys i 0 ≡ f i) → take m ys ≡ tabled m f
tabled_take m n f ys h e made = tabled_is m f (take m ys) (length-take-le m ys (omega (arith, e))) (λ i l. get_or-take m ys i 0 (omega arith) ∙ made i (omega arith))

-- a fault that is told stands where one is
pub told_none : {F G : Type 0} (g : F → G) (o : Option F) → told g o ≡ None → o ≡ None
told_none g None e = refl
told_none g (Some f) e = let z : ◌≡◌ {A = ℕ} 0 1 = cc in absurd (omega arith)

-- an order that is not refused has its numbers in range
pub in_order : (kind : ℕ) (p : Numbers) → kind_fault kind p ≡ None → Ranges (order_of kind) p
in_order kind p e =
    let o = (both_none (check (outside 1 7 kind) Kind) (order_fault (order_of kind) p) e).1 in
    let columns = outside 2 (min (order_of kind - 1) 256) p.columns in let w = or_parts (ltb p.columns 2) (ltb (min (order_of kind - 1) 256) p.columns) (check_none columns Columns (both_none (check columns Columns) _ o).0) in
    ranges (order_of kind) p (omega (arith, ltb-false p.columns 2 w.0, ltb-false (min (order_of kind - 1) 256) p.columns w.1)) o

-- it has some cells, but few
pub some_cells : (kind : ℕ) (p : Numbers) → kind_fault kind p ≡ None → 1 ≤ cell_count p
some_cells kind p e = let r = in_order kind p e in mul-le 1 1 p.rows p.columns r.one_row (omega (arith, r.two_columns))

pub few_cells : (kind : ℕ) (p : Numbers) → kind_fault kind p ≡ None → cell_count p ≤ 8192
few_cells kind p e = let r = in_order kind p e in mul-le p.rows p.columns 32 256 r.rows_few r.columns_few

-- a fault of the first two of several checks is the fault of all
pub some_of_two : {F : Type 0} (a b c : Option F) (f : F) → (a or_else b) ≡ Some f → (a or_else (b or_else c)) ≡ Some f
some_of_two (Some g) b c f e = e
some_of_two None b c f e = some_first b c f e

-- a place is wrong where it is filler and does not hold 0
pub soiled : (t : Bool) (x : ℕ) → t ≡ true → (x ≡ 0 → ⊥) → (t && not (eqb x 0)) ≡ true
soiled t x e h = ap₂ (λ s z. s && not z) e (ne_eqb x 0 h)

pub clean_place : (t : Bool) (x : ℕ) → t ≡ false → (t && not (eqb x 0)) ≡ false
clean_place t x e = ap (λ s. s && not (eqb x 0)) e

pub clean_byte : (t : Bool) (x : ℕ) → x ≡ 0 → (t && not (eqb x 0)) ≡ false
clean_byte true x e = ap (λ y. not (eqb y 0)) e
clean_byte false x e = refl

-- bytes with zeros after them read as the bytes do
pub padded : (xs : List ℕ) (k m : ℕ) → length xs ≡ k → (i : ℕ) → get_or (xs ++ drop k (replicate m 0)) i 0 ≡ get_or xs i 0
padded xs k m e i = elim (cases_lt i k) [
  | inl l ↦ get_or_append_left xs _ 0 i (omega arith)
  | inr l ↦ get_or-append_right xs _ k i 0 e l ∙ get_or-drop k (replicate m 0) (i - k) 0 ∙ zeros m (k + (i - k)) ∙ sym (get_or_past xs i 0 (omega arith))
]
  where
    zeros : (m j : ℕ) → get_or {A = ℕ} (replicate m 0) j 0 ≡ 0
    zeros m j = elim (cases_lt j m) [
      | inl l ↦ get_or-replicate m j 0 0 l
      | inr l ↦ get_or_past (replicate m 0) j 0 (omega (arith, length-replicate {A = ℕ} m 0))
    ]

-- the checks, taken together
pub record Passed (at : ℕ → ℕ) (size : ℕ) : Type 0 where
  pub size_is : size ≡ image_size (numbers_in at)
  pub seals : (b : ℕ) → b < size / 512 → sealed b (λ j. at (512 * b + j)) ≡ true
  pub word : (i : ℕ) → i < 5 → at i ≡ get_or first_bytes i 0
  pub ordered : kind_fault (at 5) (numbers_in at) ≡ None
  pub marked : marking_fault (numbers_in at) (marking_in at) ≡ None
  pub filler : (i : ℕ) → i < size → filler_here at i ≡ true → at i ≡ 0

module _ (at : ℕ → ℕ) (size : ℕ) where
  pub passed : open_fault at size ≡ None → Passed at size
  passed e =
      let a = both_none (check (not (eqb (size % 512) 0) || outside 1024 17408 size) Length) _ e in
      let b = both_none (lowest 0 (size / 512) (seal_fault at)) _ a.1 in
      let c = both_none (lowest 0 5 (word_fault at)) _ b.1 in
      let d = both_none (told Header (kind_fault (at 5) (numbers_in at))) _ c.1 in
      let m = both_none (told Marking (marking_fault (numbers_in at) (marking_in at))) _ d.1 in
      let s = both_none (check (not (eqb size (image_size (numbers_in at)))) (Blocks (1 + blocks_of_levels (cell_count (numbers_in at))))) _ m.1 in
      record {
        size_is = eqb-true _ _ (not-false _ (check_none _ _ s.0));
        seals = λ b l. not-false _ (check_none _ (Check b) (lowest_none (seal_fault at) (size / 512) 0 b (both_none _ _ a.1).0 (omega arith) (omega arith)));
        word = λ i l. eqb-true _ _ (not-false _ (check_none _ (Word i) (lowest_none (word_fault at) 5 0 i c.0 (omega arith) (omega arith))));
        ordered = told_none Header _ d.0;
        marked = told_none Marking _ m.0;
        filler = λ i l h. eqb-true _ _ (not-false _ (ap (λ t. t && not (eqb (at i) 0)) (sym h) ∙ check_none _ (Filler (i / 512) (i % 512)) (lowest_none (filler_fault at) size 0 i s.1 (omega arith) (omega arith))));
      }

  -- as many are kept
  pub few_bytes : open_fault at size ≡ None → size ≤ 17408
  few_bytes e = let k = passed e in let few = few_cells (at 5) (numbers_in at) k.ordered in omega (arith, k.size_is)

  pub passes : Passed at size → open_fault at size ≡ None
  passes k =
      let p = numbers_in at in let some = some_cells (at 5) p k.ordered in let few = few_cells (at 5) p k.ordered in let is = k.size_is in
      let z : size % 512 ≡ 0 = omega arith in
      first_passes (check (not (eqb (size % 512) 0) || outside 1024 17408 size) Length) _
      (check_false _ _ (or_from _ _ (ap not (eq-eqb _ 0 z)) (or_from _ _ (le-ltb size 1024 (omega arith)) (le-ltb 17408 size (omega arith)))))
      ∙ first_passes (lowest 0 (size / 512) (seal_fault at)) _ (none_lowest (seal_fault at) (size / 512) 0 (λ b _ l. check_false _ _ (ap not (k.seals b (omega arith)))))
      ∙ first_passes (lowest 0 5 (word_fault at)) _ (none_lowest (word_fault at) 5 0 (λ i _ l. check_false _ _ (ap not (eq-eqb _ _ (k.word i (omega arith))))))
      ∙ first_passes (told Header (kind_fault (at 5) p)) _ (ap (told Header) k.ordered)
      ∙ first_passes (told Marking (marking_fault p (marking_in at))) _ (ap (told Marking) k.marked)
      ∙ first_passes (check (not (eqb size (image_size p))) (Blocks (1 + blocks_of_levels (cell_count p)))) _ (check_false _ _ (ap not (eq-eqb _ _ is)))
      ∙ none_lowest (filler_fault at) size 0 (λ i _ l. check_false _ _ (clean i (omega arith) (cases_Bool (filler_here at i))))
    where
      clean : (i : ℕ) → i < size → (filler_here at i ≡ true) ⊎ (filler_here at i ≡ false) → (filler_here at i && not (eqb (at i) 0)) ≡ false
      clean i l (inl t) = clean_byte (filler_here at i) (at i) (k.filler i l t)
      clean i l (inr f) = and_left _ _ f

-- the entries of an array of bytes are bytes
pub array_bytes : (xs : List ℕ) (us : List Val) → shadow (each u8.Denot u8.own_val xs us) → (i : ℕ) → get_or xs i 0 < 256
array_bytes [] us e i = omega arith
array_bytes (x ∷ xs) [] e i = absurd e
array_bytes (x ∷ xs) (u ∷ us) e zero = omega (arith, e.0)
array_bytes (x ∷ xs) (u ∷ us) e (suc i) = array_bytes xs us e.1 i
