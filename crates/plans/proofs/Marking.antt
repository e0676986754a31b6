-- Lemmas on markings.
use Rattle.std.proofs.Common.{◌≡◌, ℕ, zero, suc, ◌+◌, ◌-◌, ◌<◌, ◌≤◌, min, max, true, false, ◌&&◌, eqb, ltb, leb, ◌⊎◌, List, [], ◌∷◌, ◌++◌, length, get_or, take, drop, set, None, Ok, Err, Result, MatchResult, IfSome, not, is_some, nat_cmp, sym, refl, ap, ◌∙◌, subst, ap₂, inl, inr, le_trans, arith}
use Rattle.std.specs.Result.{result_err}
use Rattle.std.specs.List.Sorted.{IsBinarySearchResult}
use native.Mathlib.Nat.{min-eq_left, min-eq_right, max-eq_left, max-eq_right}
use lib.Seq.{paste}
use Rattle.std.proofs.Math.Seq.{take-set-lt}
use Rattle.std.proofs.lemmas.List.{append_assoc, take_more_set, set-append_left, length-take, length-drop, take-take, drop-take}
use Rattle.std.proofs.lemmas.List.Edits.{take-paste}
use Rattle.std.proofs.lemmas.List.Sorted.{searched}
use Rattle.std.proofs.lemmas.Bool.{and_parts, and_from, and_right, or_right, le-ltb, false_from_ne_true, leb-true, leb-false, ltb-true, eqb-false, le-leb, lt-leb, lt-ltb, ne_eqb, or_parts, or_from, cases_lt}
use Rattle.algebra.specs.Rows.{among, rising}
use Rattle.algebra.proofs.Columns.{among_entry, entry_among}
use Rattle.basics.specs.Checks.{check}
use Rattle.basics.proofs.Checking.{check_none, check_false, lowest_none, none_lowest}
use Rattle.plans.specs.Marks.{inserted, IsPlace, wrong_column, columns_fault, FitsMarking}
use Rattle.plans.specs.declared.numbers.Numbers.{Numbers}
use Rattle.plans.specs.declared.fault.MarkingFault.TheVariants.{Column}

-- a list that rises from b on rises from any a below
rising_lower : (a b n : ℕ) (ms : List ℕ) → a ≤ b → rising b n ms ≡ true → rising a n ms ≡ true
rising_lower a b n [] le h = refl
rising_lower a b n (m ∷ ms) le h =
    let p = and_parts _ _ h in and_from _ _ (le-leb a m (le_trans le (leb-true b m p.0))) p.1

-- a column before where a list begins to rise is not in it
below_rising : (c b n : ℕ) (ms : List ℕ) → c < b → rising b n ms ≡ true → among c ms ≡ false
below_rising c b n [] lt h = refl
below_rising c b n (m ∷ ms) lt h =
    let p = and_parts (leb b m) (ltb m n && rising (suc m) n ms) h in let q = and_parts (ltb m n) (rising (suc m) n ms) p.1 in let le = leb-true b m p.0 in
    or_from _ _ (ne_eqb c m (λ e. omega arith)) (below_rising c (suc m) n ms (omega arith) q.1)

-- one more column keeps it rising
pub rising_inserted : (c b n : ℕ) (ms : List ℕ) → b ≤ c → c < n → among c ms ≡ false → rising b n ms ≡ true → rising b n (inserted c ms) ≡ true
rising_inserted c b n [] le lt out h = and_from _ _ (le-leb b c le) (and_from _ _ (lt-ltb c n lt) refl)
rising_inserted c b n (m ∷ ms) le lt out h =
    let p = and_parts _ _ h in let q = and_parts _ _ p.1 in let o = or_parts _ _ out in
    let bm = leb-true b m p.0 in let mn = ltb-true m n q.0 in let ne = eqb-false c m o.0 in
    elim (cases_lt c m) [
      | inl cm ↦ rw (min-eq_left {n = c} {m = m} (omega arith), max-eq_right {n = c} {m = m} (omega arith)) (and_from _ _ (le-leb b c le) (and_from _ _ (lt-ltb c n lt)
          (rising_inserted m (suc c) n ms (omega arith) mn (below_rising m (suc m) n ms (omega arith) q.1) (rising_lower (suc c) (suc m) n ms (omega arith) q.1))))
      | inr mc ↦ rw (min-eq_right {n = m} {m = c} (omega arith), max-eq_left {n = c} {m = m} (omega arith)) (and_from _ _ p.0 (and_from _ _ q.0
          (rising_inserted c (suc m) n ms (omega (arith, λ (e : c ≡ m). ne e)) lt o.1 q.1)))
    ]

-- a column before where a list begins to rise comes first
inserted_first : (c b n : ℕ) (ms : List ℕ) → c < b → rising b n ms ≡ true → inserted c ms ≡ c ∷ ms
inserted_first c b n [] lt h = refl
inserted_first c b n (m ∷ ms) lt h =
    let p = and_parts (leb b m) _ h in let q = and_parts (ltb m n) _ p.1 in let cm : c < m = omega (arith, leb-true b m p.0) in
    ap₂ (λ x y. x ∷ inserted y ms) (min-eq_left {n = c} {m = m} (omega arith)) (max-eq_right {n = c} {m = m} (omega arith))
    ∙ ap (λ t. c ∷ t) (inserted_first m (suc m) n ms (omega arith) q.1)

-- a column goes into its place
inserted_at : (c b n place : ℕ) (ms : List ℕ) → rising b n ms ≡ true → IsPlace c ms place → inserted c ms ≡ take place ms ++ c ∷ drop place ms
inserted_at c b n zero [] h p = refl
inserted_at c b n (suc place) [] h p = absurd (omega (arith, p.inside))
inserted_at c b n zero (m ∷ ms) h p = inserted_first c m n (m ∷ ms) (p.after 0 (omega arith) (omega arith)) (and_from _ _ (le-leb m m (omega arith)) (and_parts (leb b m) _ h).1)
inserted_at c b n (suc place) (m ∷ ms) h p =
    let q = and_parts (ltb m n) _ (and_parts (leb b m) _ h).1 in let mc : m < c = p.before 0 (omega arith) in
    ap₂ (λ x y. x ∷ inserted y ms) (min-eq_right {n = m} {m = c} (omega arith)) (max-eq_left {n = c} {m = m} (omega arith))
    ∙ ap (λ t. m ∷ t) (inserted_at c (suc m) n place ms q.1 (record {
      inside = omega (arith, p.inside);
      before = λ k l. p.before (suc k) (omega arith);
      after = λ k a l. p.after (suc k) (omega arith) (omega arith);
    }))

-- the columns from the place on moved up, and the column written there
shifted : (xs : List ℕ) (count place c : ℕ) → place ≤ count → count < length xs
    → take (count + 1) (set (paste xs (place + 1) (drop place xs) (count - place)) place c) ≡ take place (take count xs) ++ c ∷ drop place (take count xs)
shifted xs count place c le lt =
    let ys = paste xs (place + 1) (drop place xs) (count - place) in
    let e : count + 1 ≡ place + 1 + (count - place) = omega arith in let f : place + (count - place) ≡ count = omega arith in
    take-set-lt (count + 1) ys place c (omega arith)
    ∙ ap (λ (t : List ℕ). set t place c) (ap (λ k. take k ys) e ∙ take-paste xs (place + 1) (drop place xs) (count - place) (omega arith) (omega (arith, length-drop place xs)))
    ∙ set-append_left (take (place + 1) xs) _ place c (omega (arith, length-take (place + 1) xs))
    ∙ ap (λ t. t ++ take (count - place) (drop place xs)) (sym (take-set-lt (place + 1) xs place c (omega arith)) ∙ take_more_set xs place c (omega arith))
    ∙ append_assoc (take place xs) (c ∷ []) _
    ∙ ap₂ (λ s t. s ++ c ∷ t) (sym (take-take place count xs le)) (sym (drop-take place (count - place) xs) ∙ ap (λ k. drop place (take k xs)) f)

pub put_in : (xs ys : List ℕ) (count place c n : ℕ) → count < length xs → ys ≡ paste xs (place + 1) (drop place xs) (count - place)
    → rising 0 n (take count xs) ≡ true → IsPlace c (take count xs) place → take (count + 1) (set ys place c) ≡ inserted c (take count xs)
put_in xs ys count place c n lt e h p =
    ap (λ zs. take (count + 1) (set zs place c)) e
    ∙ shifted xs count place c (omega (arith, p.inside, length-take count xs)) lt ∙ sym (inserted_at c 0 n place (take count xs) h p)

-- where a list rises, each column is above the one before it, and below n
pub points_rising : (b n : ℕ) (ms : List ℕ) → rising b n ms ≡ true → (i : ℕ) → i < length ms → (b ≤ get_or ms i 0) × (get_or ms i 0 < n) × (suc i < length ms → get_or ms i 0 < get_or ms (suc i) 0)
points_rising b n [] h i l = absurd (omega arith)
points_rising b n (m ∷ ms) h zero l =
    let p = and_parts (leb b m) _ h in let q = and_parts (ltb m n) _ p.1 in
    (leb-true b m p.0, ltb-true m n q.0, λ k. omega (arith, (points_rising (suc m) n ms q.1 0 (omega arith)).0))
points_rising b n (m ∷ ms) h (suc i) l =
    let p = and_parts (leb b m) _ h in let q = and_parts (ltb m n) _ p.1 in let r = points_rising (suc m) n ms q.1 i (omega arith) in
    (omega (arith, r.0, leb-true b m p.0), r.1, λ k. r.2 (omega arith))

-- a column that a search of a marking found is in it; else the search gives its place, and it is not
pub place_fresh : (c place : ℕ) (ms : List ℕ) → IsPlace c ms place → among c ms ≡ false
place_fresh c place ms p = false_from_ne_true (among c ms) (λ t. let e = entry_among c ms t in elim (cases_lt e.0 place) [
  | inl lt ↦ omega (arith, e.1.1, p.before e.0 lt)
  | inr ge ↦ omega (arith, e.1.1, p.after e.0 ge e.1.0)
])

rising_sorted : (n : ℕ) (ms : List ℕ) → rising 0 n ms ≡ true → (i j : ℕ) → i ≤ j → j < length ms → get_or ms i 0 ≤ get_or ms j 0
rising_sorted n ms h i zero le l = let e : i ≡ 0 = omega arith in omega (arith, ap (λ k. get_or ms k 0) e)
rising_sorted n ms h i (suc j) le l = elim (cases_lt i (suc j)) [
  | inl lt ↦ omega (arith, rising_sorted n ms h i j (omega arith) (omega arith), (points_rising 0 n ms h j (omega arith)).2 l)
  | inr ge ↦ let e : i ≡ suc j = omega arith in omega (arith, ap (λ k. get_or ms k 0) e)
]

pub place_searched : (c n : ℕ) (ms : List ℕ) (r : Result ℕ ℕ) → rising 0 n ms ≡ true → IsBinarySearchResult (λ y. nat_cmp y c) ms r
    → (is_some (result_err r) ≡ not (among c ms)) × IfSome (result_err r) (IsPlace c ms)
place_searched c n ms r h s = on r (searched ms c r s (rising_sorted n ms h))
  where
    on : (r : Result ℕ ℕ) → MatchResult r (λ i. (i < length ms) × (get_or ms i 0 ≡ c)) (λ i. (i ≤ length ms) × ((k : ℕ) → k < i → get_or ms k 0 < c) × ((k : ℕ) → i ≤ k → k < length ms → c < get_or ms k 0))
        → (is_some (result_err r) ≡ not (among c ms)) × IfSome (result_err r) (IsPlace c ms)
    on (Ok i) f = (ap not (subst (λ x. true ≡ among x ms) f.1 (sym (among_entry ms i f.0))), tt)
    on (Err i) f = let p : IsPlace c ms i = record { inside = f.0; before = f.1; after = f.2 } in (ap not (sym (place_fresh c i ms p)), p)

-- a column that is not in the longer list is neither the new one nor in the old list
pub among_inserted : (c d : ℕ) (ms : List ℕ) → among c (inserted d ms) ≡ false → (c ≡ d → ⊥) × (among c ms ≡ false)
among_inserted c d [] h = let o = or_parts (eqb c d) false h in (eqb-false c d o.0, refl)
among_inserted c d (m ∷ ms) h =
    let o = or_parts (eqb c (min d m)) (among c (inserted (max d m) ms)) h in
    let low = eqb-false c (min d m) o.0 in let rest = among_inserted c (max d m) ms o.1 in
    (λ e. apart c d m low rest.0 (inl e), or_from (eqb c m) (among c ms) (ne_eqb c m (λ e. apart c d m low rest.0 (inr e))) rest.1)
  where
    apart : (c d m : ℕ) → (c ≡ min d m → ⊥) → (c ≡ max d m → ⊥) → (c ≡ d) ⊎ (c ≡ m) → ⊥
    apart c d m a b h = elim (cases_lt d m) [
      | inl lt ↦ elim h [ inl e ↦ a (e ∙ sym (min-eq_left {n = d} {m = m} (omega arith))) | inr e ↦ b (e ∙ sym (max-eq_right {n = d} {m = m} (omega arith))) ]
      | inr ge ↦ elim h [ inl e ↦ b (e ∙ sym (max-eq_left {n = d} {m = m} ge)) | inr e ↦ a (e ∙ sym (min-eq_right {n = m} {m = d} ge)) ]
    ]

-- and a list whose columns are below n, each above the one before it, rises
pub rising_points : (b n : ℕ) (ms : List ℕ) → (0 < length ms → b ≤ get_or ms 0 0) → ((i : ℕ) → i < length ms → get_or ms i 0 < n)
    → ((i : ℕ) → suc i < length ms → get_or ms i 0 < get_or ms (suc i) 0) → rising b n ms ≡ true
rising_points b n [] first low above = refl
rising_points b n (m ∷ ms) first low above =
    and_from _ _ (le-leb b m (first (omega arith))) (and_from _ _ (lt-ltb m n (low 0 (omega arith)))
    (rising_points (suc m) n ms (λ h. above 0 (omega arith)) (λ i h. low (suc i) (omega arith)) (λ i h. above (suc i) (omega arith))))

-- no wrong column is a list that rises
pub columns_fine : (n : ℕ) (ms : List ℕ) → rising 0 n ms ≡ true → columns_fault n ms ≡ None
columns_fine n ms h = none_lowest _ (length ms) 0 (λ i _ l. let p = points_rising 0 n ms h i (omega arith) in check_false _ _ (or_from _ _ (lt-leb n _ p.1) (after i (omega arith))))
  where
    after : (i : ℕ) → i < length ms → (ltb 0 i && leb (get_or ms i 0) (get_or ms (i - 1) 0)) ≡ false
    after zero l = refl
    after (suc i) l = let e : suc i - 1 ≡ i = omega arith in
        and_right (ltb 0 (suc i)) _ (ap (λ k. leb (get_or ms (suc i) 0) (get_or ms k 0)) e ∙ lt-leb _ _ ((points_rising 0 n ms h i (omega arith)).2 l))

pub rising_columns : (n : ℕ) (ms : List ℕ) → columns_fault n ms ≡ None → rising 0 n ms ≡ true
rising_columns n ms e = rising_points 0 n ms (λ _. omega arith)
    (λ i l. leb-false n (get_or ms i 0) (or_parts _ _ (fine i l)).0)
    (λ i l. let z : suc i - 1 ≡ i = omega arith in
    leb-false _ _ (ap (λ k. leb (get_or ms (suc i) 0) (get_or ms k 0)) (sym z)
    ∙ ap (λ b. b && leb (get_or ms (suc i) 0) (get_or ms (suc i - 1) 0)) (sym (lt-ltb 0 (suc i) (omega arith)))
    ∙ (or_parts (leb n (get_or ms (suc i) 0)) (ltb 0 (suc i) && leb (get_or ms (suc i) 0) (get_or ms (suc i - 1) 0)) (fine (suc i) l)).1))
  where
    fine : (i : ℕ) → i < length ms → wrong_column n ms i ≡ false
    fine i l = check_none _ _ (lowest_none (λ i. check (wrong_column n ms i) (Column i)) (length ms) 0 i e (omega arith) (omega arith))

-- what holds where nothing stands against a marking
pub fits_marking : (p : Numbers) (ms : List ℕ) → length ms ≤ 64 → length ms ≤ p.checks → columns_fault p.columns ms ≡ None → FitsMarking p ms
fits_marking p ms room few e = record { room = room; few = few; rises = rising_columns p.columns ms e }

-- a column is wrong where it is below the lowest that may stand after the one before it, or not below n
module _ (n : ℕ) (ms : List ℕ) (i low : ℕ) (first : i ≡ 0 → low ≡ 0) (after : 0 < i → low ≡ get_or ms (i - 1) 0 + 1) where
  pub column_low : get_or ms i 0 < low → wrong_column n ms i ≡ true
  column_low h = at (cases_lt 0 i)
    where
      at : (0 < i) ⊎ (i ≤ 0) → wrong_column n ms i ≡ true
      at (inl p) = or_right (leb n (get_or ms i 0)) _ (and_from _ _ (lt-ltb 0 i p) (le-leb (get_or ms i 0) (get_or ms (i - 1) 0) (omega (arith, after p))))
      at (inr z) = absurd (omega (arith, first (omega arith)))

  pub column_fine : low ≤ get_or ms i 0 → get_or ms i 0 < n → wrong_column n ms i ≡ false
  column_fine h l = or_from _ _ (lt-leb n (get_or ms i 0) l) (at (cases_lt 0 i))
    where
      at : (0 < i) ⊎ (i ≤ 0) → (ltb 0 i && leb (get_or ms i 0) (get_or ms (i - 1) 0)) ≡ false
      at (inl p) = and_right (ltb 0 i) _ (lt-leb (get_or ms i 0) (get_or ms (i - 1) 0) (omega (arith, after p)))
      at (inr z) = ap (λ t. t && leb (get_or ms i 0) (get_or ms (i - 1) 0)) (le-ltb 0 i z)
