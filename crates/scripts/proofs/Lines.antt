-- The number that a word writes, digit by digit.
use Rattle.std.proofs.Common.{◌≡◌, ℕ, ◌+◌, ◌≤◌, Bool, true, false, cond, ◌&&◌, leb, List, [], ◌∷◌, ◌++◌, map, length, take, drop, Some, None, Option, Bor, sym, refl, ap, ◌∙◌, append-nil, take-append-drop, arith}
use Rattle.std.specs.List.{fold, list_all, FoldsTo}
use Rattle.std.specs.Option.{option_and_then, MatchOption}
use Rattle.std.specs.Char.{is_ascii_digit}
use Rattle.std.specs.ControlFlow.{continue_value}
use Rattle.std.specs.Fn.{Called}
use Rattle.std.specs.Iterator.{Yields, TryFoldTurn, TryFoldsItems}
use Rattle.std.proofs.lemmas.Iterator.{YieldsList}
use Rattle.std.proofs.lemmas.Iterator.Consumers.{YieldsList-so_far, YieldsList-turn, YieldsList-end}
use Rattle.std.proofs.lemmas.List.{at_drop_more}
use Rattle.std.proofs.lemmas.Bool.{cond-true, cond-false, lt-leb, le-leb, leb-true, leb-false, and_right}
use Rattle.scripts.specs.Script.{next_value}
use denote.Param.Members.{Mut}

-- the number with a digit more, if it is still small enough
abbrev pub one_more : ℕ → ℕ → Option ℕ
one_more v d = cond (is_ascii_digit d && leb (next_value v d) 65535) (Some (next_value v d)) None

-- the same with each of some digits
abbrev read_on : ℕ → List ℕ → Option ℕ
read_on v [] = Some v
read_on v (d ∷ ds) = option_and_then (λ w. read_on w ds) (one_more v d)

value_grows : (v : ℕ) (ds : List ℕ) → v ≤ fold next_value v ds
value_grows v [] = omega arith
value_grows v (d ∷ ds) = omega (arith, value_grows (next_value v d) ds)

-- what that comes to: nothing where a byte is no digit or the number is too large
abbrev answer : ℕ → List ℕ → Option ℕ
answer v ds = cond (list_all is_ascii_digit ds && leb (fold next_value v ds) 65535) (Some (fold next_value v ds)) None

read_all : (v : ℕ) (ds : List ℕ) → v ≤ 65535 → read_on v ds ≡ answer v ds
read_all v [] h = sym (cond-true _ _ _ (le-leb v 65535 h))
read_all v (d ∷ ds) h = step (is_ascii_digit d) (leb (next_value v d) 65535) refl (read_all (next_value v d) ds)
  where
    step : (a b : Bool) → leb (next_value v d) 65535 ≡ b → (next_value v d ≤ 65535 → read_on (next_value v d) ds ≡ answer (next_value v d) ds)
        → option_and_then (λ w. read_on w ds) (cond (a && b) (Some (next_value v d)) None) ≡ cond ((a && list_all is_ascii_digit ds) && leb (fold next_value v (d ∷ ds)) 65535) (Some (fold next_value v (d ∷ ds))) None
    step true true q on = on (leb-true _ _ q)
    step true false q on = sym (cond-false _ _ _ (and_right (list_all is_ascii_digit ds) _ (lt-leb _ _ (omega (arith, leb-false _ _ q, value_grows (next_value v d) ds)))))
    step false b q on = refl

-- `try_fold` over digits, where each call adds the digit
module _ (E : Type 0) {F : Type 0} (g : Mut F (ℕ × (Bor ℕ × Unit {0})) (Option ℕ)) (call : (f q : F) (v : ℕ) (x : Bor ℕ) (r : Option ℕ) → Called g f (v, (x, tt)) r q → r ≡ one_more v x.now) where
  abbrev turn : F × ℕ → Bor ℕ → F × ℕ → Type 0
  turn = TryFoldTurn {E = E} g (λ s r. s ≡ continue_value r)

  -- the digits that were gone through count no more
  read_through : (xs : List (Bor ℕ)) (rest : List ℕ) (p q : F × ℕ) → FoldsTo turn p xs q → read_on p.1 (map (λ x. x.now) xs ++ rest) ≡ read_on q.1 rest
  read_through [] rest p q h = ap (λ z. read_on z.1 rest) h
  read_through (x ∷ xs) rest p q h = rw (sym (call _ _ _ x _ h.1.1) ∙ h.1.2) (read_through xs rest h.0 q h.2)

  module _ {S : Type 0} {steps : S → Option (Bor ℕ) → S → Type 0} (ds : List ℕ) (s u : S) (road : YieldsList steps (λ y. y.now) s ds) (f : F) (r : Option ℕ) where
    ended : (xs : List (Bor ℕ)) (t : S) (q : F × ℕ) → Yields steps s xs t → FoldsTo turn (f, 0) xs q → (o : Option (Bor ℕ)) → steps t o u
        → MatchOption o (r ≡ Some q.1) (λ x. (v : Option ℕ) × (h : F) × (e : E) × Called g q.0 (q.1, (x, tt)) v h × (v ≡ None) × (r ≡ None)) → r ≡ read_on 0 ds
    ended xs t q y folds None end h = h ∙ sym (read_through xs [] _ q folds) ∙ ap (read_on 0) (append-nil _ ∙ (YieldsList-end road xs t y None u refl end).0)
    ended xs t q y folds (Some x) next h =
        let n = length xs in
        let at = YieldsList-turn road xs t y (Some x) u x refl next in
        let rest = x.now ∷ drop (n + 1) ds in
        let whole : map (λ z. z.now) xs ++ rest ≡ ds = ap (λ z. z ++ rest) (YieldsList-so_far road xs t y) ∙ ap (λ z. take n ds ++ z) (ap (λ z. z ∷ drop (n + 1) ds) at.1 ∙ sym (at_drop_more (λ l. l) ds n x.now at.0)) ∙ take-append-drop n ds in
        let none : read_on q.1 rest ≡ None = rw (sym (call _ _ _ x _ h.3) ∙ h.4) refl in
        h.5 ∙ sym none ∙ sym (read_through xs rest _ q folds) ∙ ap (read_on 0) whole

    pub number_read : TryFoldsItems steps g (λ s r. s ≡ continue_value r) (λ (_ : E) r. r ≡ None) s f 0 r u → r ≡ answer 0 ds
    number_read h = ended h.0 h.4.0 (h.2, h.3) h.4.1 h.5 h.1 h.4.2 h.6 ∙ read_all 0 ds (omega arith)
