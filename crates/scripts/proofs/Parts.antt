-- Words of a line by their places.
use Rattle.std.proofs.Common.{◌≡◌, ℕ, suc, ◌+◌, ◌-◌, ◌<◌, ◌≤◌, Bool, true, false, cond, not, ltb, List, [], ◌∷◌, ◌++◌, ◌≢◌, map, length, get_or, take, drop, Some, None, is_some, Option, Bor, refl, sym, ap, ◌∙◌, subst, ⊎_elim, arith, length-take-le, length-drop}
use Rattle.std.specs.List.{count_by, position_or_len, after_first}
use Rattle.std.proofs.lemmas.List.Splits.{slice_split_none, slice_split_first, length-slice_split}
use Rattle.std.proofs.lemmas.List.Sums.{fails_before_first}
use Rattle.std.proofs.lemmas.List.Elements.{All-from_get_or}
use Rattle.std.proofs.lemmas.List.Recursion.{is_position_or_len}
use Rattle.std.proofs.lemmas.Bool.{cases_lt, false≢true}
use Rattle.std.proofs.lemmas.List.{take_more, get_or-map, map_push, get_or-take, get_or-drop, take_all, take-map, drop-map}
use lib.ListN.{length-map}
use Rattle.scripts.specs.Script.{number_of}
use Rattle.scripts.specs.Commands.{texts, slash_here, FirstSlash, InTwo, AreNumbers, BadNumber, Wrong}
use Rattle.scripts.specs.declared.command.LineFault.{LineFault}
use Rattle.scripts.specs.declared.command.LineFault.TheVariants.{NoCommand, Form, NoNumber, NoByte, NoBytes, NoPage, NoImage, NoPlace, NoMemory}

-- a word more
pub numbers_more : (ws : List (Bor (List ℕ))) (d : Bor (List ℕ)) (i n : ℕ) (ns : List ℕ) → i < length ws → number_of (get_or ws i d).now ≡ Some n → AreNumbers (take i (texts ws)) ns → AreNumbers (take (i + 1) (texts ws)) (ns ++ n ∷ [])
numbers_more ws d i n ns within is h =
    ap (map number_of) (take_more (texts ws) i [] (omega (arith, length-map ws (λ w. w.now))))
    ∙ map_push number_of (take i (texts ws)) (get_or (texts ws) i [])
    ∙ (λ j. h j ++ (ap number_of (get_or-map (λ w. w.now) ws i d [] within) ∙ is) j ∷ [])
    ∙ sym (map_push Some ns n)

-- how many elements pass, by the first that does
module _ {X : Type 0} (p : X → Bool) (xs : List X) (d : X) where
  uncounted : length xs ≤ position_or_len p xs → count_by p xs ≡ 0
  uncounted past =
      let e = slice_split_none p xs (All-from_get_or (λ x. p x ≡ false) xs d (λ i h. fails_before_first p xs i d (omega arith))) in
      omega (arith, ap length e, length-slice_split p xs)

  counted : position_or_len p xs < length xs → count_by p xs ≡ 1 + count_by p (after_first p xs)
  counted cut = omega (arith, ap length (slice_split_first p xs d cut), length-slice_split p xs, length-slice_split p (after_first p xs))

turned : (b : Bool) (n : ℕ) → cond (not b) (1 + n) 0 ≡ cond b 0 (1 + n)
turned true n = refl
turned false n = refl

-- the first slash, by a search of lent words
module _ (ws : List (Bor (List ℕ))) where
  abbrev Place : ℕ
  Place = position_or_len (λ w. slash_here w.now) ws

  same_place : position_or_len slash_here (texts ws) ≡ Place
  same_place = is_position_or_len (λ vs. position_or_len slash_here (texts vs)) (λ w. slash_here w.now) refl (λ w vs. turned (slash_here w.now) (position_or_len slash_here (texts vs))) ws

  pub slash_told : (r : Option ℕ) → r ≡ cond (ltb Place (length ws)) (Some Place) None → FirstSlash ws r
  slash_told r e = subst (FirstSlash ws) (sym e) (by (ltb Place (length ws)) refl)
    where
      by : (b : Bool) → ltb Place (length ws) ≡ b → FirstSlash ws (cond b (Some Place) None)
      by true l = (grind arith, sym same_place)
      by false l = let past : length ws ≤ Place = grind arith in uncounted slash_here (texts ws) [] (omega (arith, past, same_place, length-map ws (λ w. w.now)))

  -- one slash more stands among the words than after the first
  one_more_than_after : (i : ℕ) → FirstSlash ws (Some i) → count_by slash_here (texts ws) ≡ 1 + count_by slash_here (after_first slash_here (texts ws))
  one_more_than_after i at = counted slash_here (texts ws) [] (omega (arith, at.0, at.1, length-map ws (λ w. w.now)))

-- the words after the first slash, in which a second one is looked for
module _ (ws : List (Bor (List ℕ))) (i : ℕ) (at : FirstSlash ws (Some i)) where
  abbrev After : List (Bor (List ℕ))
  After = take (length ws - (i + 1)) (drop (i + 1) ws)

  after_texts : texts After ≡ after_first slash_here (texts ws)
  after_texts =
      ap texts (take_all (length ws - (i + 1)) (drop (i + 1) ws) (omega (arith, length-drop (i + 1) ws)))
      ∙ sym (drop-map (λ w. w.now) (i + 1) ws)
      ∙ ap (λ n. drop (n + 1) (texts ws)) at.1

  pub cut_twice : (r : Option ℕ) → FirstSlash After r → is_some r ≡ true → count_by slash_here (texts ws) ≢ 1
  cut_twice None none some one = absurd (false≢true some)
  cut_twice (Some j) second some one =
      omega (arith, one, one_more_than_after ws i at, one_more_than_after After j second, ap (count_by slash_here) after_texts)

  pub cut_once : (r : Option ℕ) → FirstSlash After r → is_some r ≡ false → InTwo (texts ws) (texts (take i ws)) (texts After)
  cut_once None none some = record {
    one = omega (arith, one_more_than_after ws i at, none, ap (count_by slash_here) after_texts);
    front = sym (take-map (λ w. w.now) i ws) ∙ ap (λ n. take n (texts ws)) at.1;
    back = after_texts;
  }
  cut_once (Some j) second some = absurd (false≢true (sym some))

-- a word of a part that is no number, and no slash, is what is wrong with the line
bad_part : (name : List ℕ) (ws part : List (List ℕ)) (skip : ℕ) → skip + length part ≤ length ws
    → ((i : ℕ) → i < length part → (get_or ws (skip + i) [] ≡ get_or part i []) × (slash_here (get_or part i []) ≡ false))
    → (fault : LineFault) → BadNumber (skip + 2) part fault → Wrong (name ∷ ws) fault
bad_part name ws part skip fits at (NoNumber place) h =
    let i = place - (skip + 2) in
    let here : i < length part = omega arith in
    let e : place - 1 ≡ suc (skip + i) = omega arith in
    let same : get_or (name ∷ ws) (place - 1) [] ≡ get_or part i [] = ap (λ k. get_or (name ∷ ws) k []) e ∙ (at i here).0 in
    (omega arith, omega arith, ap number_of same ∙ h.2, λ begins slash. false≢true (sym (at i here).1 ∙ sym (ap slash_here same) ∙ slash))
bad_part name ws part skip fits at NoMemory h = tt
bad_part name ws part skip fits at NoCommand h = absurd h
bad_part name ws part skip fits at (Form n) h = absurd h
bad_part name ws part skip fits at NoByte h = absurd h
bad_part name ws part skip fits at NoBytes h = absurd h
bad_part name ws part skip fits at NoPage h = absurd h
bad_part name ws part skip fits at NoImage h = absurd h
bad_part name ws part skip fits at NoPlace h = absurd h

module _ (name : List ℕ) (ws before after : List (List ℕ)) (cut : InTwo ws before after) (fault : LineFault) where
  within : position_or_len slash_here ws < length ws
  within = ⊎_elim (λ h. h) (λ past. absurd (omega (arith, cut.one, uncounted slash_here ws [] past))) (cases_lt (position_or_len slash_here ws) (length ws))

  clean : length after ≤ position_or_len slash_here after
  clean =
      ⊎_elim
      (λ again. absurd (omega (arith, cut.one, counted slash_here ws [] within, ap (count_by slash_here) cut.back, counted slash_here after [] again)))
      (λ past. past)
      (cases_lt (position_or_len slash_here after) (length after))

  long : length before ≡ position_or_len slash_here ws
  long = ap length cut.front ∙ length-take-le _ ws (omega (arith, within))

  pub front_wrong : BadNumber 2 before fault → Wrong (name ∷ ws) fault
  front_wrong =
      bad_part name ws before 0 (omega (arith, long, within))
      (λ i h.
      let e : get_or ws i [] ≡ get_or before i [] = sym (ap (λ l. get_or l i []) cut.front ∙ get_or-take _ ws i [] (omega (arith, long))) in
      let zero : 0 + i ≡ i = omega arith in
      (ap (λ k. get_or ws k []) zero ∙ e, ap slash_here (sym e) ∙ fails_before_first slash_here ws i [] (omega (arith, long))))
      fault

  pub back_wrong : (n : ℕ) → n ≡ length before → BadNumber (n + 3) after fault → Wrong (name ∷ ws) fault
  back_wrong n is h =
      let skip : n + 3 ≡ position_or_len slash_here ws + 1 + 2 = omega (arith, long) in
      bad_part name ws after (position_or_len slash_here ws + 1) (omega (arith, ap length cut.back, within, length-drop (position_or_len slash_here ws + 1) ws))
      (λ i below. (sym (ap (λ l. get_or l i []) cut.back ∙ get_or-drop _ ws i []), fails_before_first slash_here after i [] (omega (arith, clean))))
      fault
      (subst (λ k. BadNumber k after fault) skip h)
