-- The samples hold: each is computed from the definitions.
use Rattle.std.proofs.Common.{◌≡◌, ℕ, zero, suc, ◌+◌, ◌*◌, ◌<◌, ◌≤◌, Bool, true, false, cond, not, ◌&&◌, ◌||◌, T, eqb, ltb, leb, List, [], ◌∷◌, length, get_or, Some, sym, refl, subst, arith, le→leb, eqb→eq, ltb→lt, leb→le, T_not}
use Rattle.basics.specs.Lists.{row_of}
use Rattle.fields.specs.Rings.{FieldOps, sum, power}
use Rattle.fields.specs.Kinds.{product, times_x}
use Rattle.fields.specs.Tested.{both, below, below_at}
use Rattle.algebra.specs.Rows.{CodeRow, CloseRow, syndrome, among, differing}
use Rattle.rules.specs.Pages.{Setup, symbols_of, q, n, r, cell_count, contents}
use Rattle.rules.specs.Reach.{total, levels, RowReach, RowFault, none_close, not_risen, drift_fault, lowered, drifted, risen}
use Rattle.rules.specs.Refusals.{page_refusal}
use Rattle.rules.specs.Views.{field_of}
use Rattle.rules.specs.Calls.{numbers_fault, found}
use Rattle.rules.specs.declared.fault.PageFault.{PageFault}
use Rattle.rules.specs.declared.fault.PageFault.TheVariants.{Lost}
use Rattle.samples.specs.Samples.{ReadsTo, RefusedBy, Samples}

-- a code row, by a test that is computed
abbrev elements_test : FieldOps → List ℕ → Bool
elements_test f cs = below (length cs) (λ i. ltb (get_or cs i 0) f.ring.order)

abbrev balanced_test : FieldOps → ℕ → List ℕ → Bool
balanced_test f r cs = below r (λ j. eqb (syndrome f cs (suc j)) 0)

abbrev code_test : FieldOps → ℕ → List ℕ → Bool
code_test f r cs = elements_test f cs && balanced_test f r cs

code_row : (f : FieldOps) (r : ℕ) (cs : List ℕ) → T (code_test f r cs) → CodeRow f r cs
code_row f r cs t =
    let u = both (elements_test f cs) (balanced_test f r cs) t in
    record { elements = λ i h. ltb→lt _ _ (below_at (length cs) (λ i. ltb (get_or cs i 0) f.ring.order) u.0 i h); balanced = balanced u.1 }
  where
    balanced : T (balanced_test f r cs) → (j : ℕ) → 1 ≤ j → j ≤ r → syndrome f cs j ≡ 0
    balanced t zero a b = absurd (omega arith)
    balanced t (suc j) a b = eqb→eq _ _ (below_at r (λ j. eqb (syndrome f cs (suc j)) 0) t j (omega arith))

-- what holds of row 0 holds of each row of a page of one row
one : (P : ℕ → Type 0) → P 0 → (k : ℕ) → k < 1 → P k
one P h zero l = h
one P h (suc k) l = absurd (omega arith)

-- the second of two tests, where the first is false
second : (a b : Bool) → a ≡ false → T (a || b) → T b
second a b e t = subst (λ (v : Bool). T (v || b)) e t

-- what is tested only where a test holds, where it does
so : (a b : Bool) → T a → T (cond a b true) → T b
so true b h t = t
so false b h t = absurd h

-- a test that each number below m passes
all_below : (m : ℕ) (f : ℕ → Bool) → ((i : ℕ) → i < m → T (f i)) → T (below m f)
all_below zero f h = tt
all_below (suc m) f h = and (f m) (below m f) (h m (omega arith)) (all_below m f (λ i l. h i (omega arith))) where
  and : (a b : Bool) → T a → T b → T (a && b)
  and true b x y = y
  and false b x y = absurd x

module _ (p : Setup) (ms : List ℕ) where
  -- readings in reach of levels, by a test that is computed
  abbrev drift_test : ℕ → ℕ → Bool
  drift_test y x = ltb y (levels p) && (leb x y && leb y (x + p.numbers.drift))

  abbrev cell_test : List ℕ → List ℕ → ℕ → Bool
  cell_test ys xs i = ltb (get_or xs i 0) (levels p) && (among i ms || drift_test (get_or ys i 0) (get_or xs i 0))

  abbrev few_test : List ℕ → List ℕ → Bool
  few_test xs ys = leb (2 * differing ms 0 xs ys + length ms) (r p)

  abbrev row_test : List ℕ → List ℕ → Bool
  row_test ys xs = (eqb (length xs) (n p) && code_test p.field (r p) (symbols_of (q p) xs)) && (below (n p) (cell_test ys xs) && few_test xs ys)

  row_reach : (ys xs : List ℕ) → T (row_test ys xs) → RowReach p ms ys xs
  row_reach ys xs t =
      let u = both _ _ t in let v = both _ _ u.0 in let w = both _ _ u.1 in
      let at = λ (i : ℕ) (h : i < n p). both _ _ (below_at (n p) (cell_test ys xs) w.0 i h) in
      let on = λ (i : ℕ) (h : i < n p) (e : among i ms ≡ false). both _ _ (second (among i ms) (drift_test (get_or ys i 0) (get_or xs i 0)) e (at i h).1) in
      let within = λ (i : ℕ) (h : i < n p) (e : among i ms ≡ false). both _ _ (on i h e).1 in
      record {
        columns = eqb→eq _ _ v.0;
        code = code_row p.field (r p) (symbols_of (q p) xs) v.1;
        levels_in = λ i h. ltb→lt _ _ (at i h).0;
        below = λ i h e. ltb→lt _ _ (on i h e).0;
        risen = λ i h e. leb→le _ _ (within i h e).0;
        bounded = λ i h e. leb→le _ _ (within i h e).1;
        few = leb→le _ _ w.1;
      }

  -- the page that is found, by one test of all its rows
  reads_to : (ys xs : List ℕ) → length xs ≡ cell_count p → length ys ≡ cell_count p → xs ≡ lowered p ms xs
      → T (below p.numbers.rows (λ k. row_test (row_of (n p) k ys) (row_of (n p) k xs)))
      → ReadsTo p ms ys xs (contents p xs) (drifted p ms ys xs) (risen p ms ys xs)
  reads_to ys xs a b l t = record {
    found = record {
      reach = record { size = a; cells = b; rows = λ k h. row_reach _ _ (below_at p.numbers.rows (λ k. row_test (row_of (n p) k ys) (row_of (n p) k xs)) t k h) };
      low = l;
    };
    filled = refl;
    drifted_by = refl;
    risen_by = refl;
  }

  -- the refusal of row 0
  refused_by : (ys : List ℕ) (f : PageFault) → 0 < p.numbers.rows → RowFault p ms 0 (row_of (n p) 0 ys) f
      → RefusedBy p ms ys f (page_refusal f).number (page_refusal f).first (page_refusal f).second
  refused_by ys f l e = record { unfound = record { row = 0; inside = l; earlier = λ k h. absurd (omega arith); fault = e }; why = refl }

  -- a close code row, by a test that is computed
  abbrev close_test : List ℕ → List ℕ → Bool
  close_test ss cs = eqb (length cs) (length ss) && (code_test p.field (r p) cs && few_test cs ss)

  close_row : (ss cs : List ℕ) → T (close_test ss cs) → CloseRow p.field (r p) ms ss cs
  close_row ss cs t =
      let u = both _ _ t in let v = both _ _ u.1 in
      record { long = eqb→eq _ _ u.0; code = code_row p.field (r p) cs v.0; few = leb→le _ _ v.1 }

  -- each row of elements passes the test t that differs from ss, of column i on, in so few columns that with d more it is still close
  abbrev sweep : (List ℕ → Bool) → ℕ → ℕ → List ℕ → Bool
  sweep t i d [] = t []
  sweep t i d (s ∷ ss) = below (q p) (λ c.
      cond (leb (2 * (d + cond (among i ms || eqb c s) 0 1) + length ms) (r p)) (sweep (λ cs. t (c ∷ cs)) (suc i) (d + cond (among i ms || eqb c s) 0 1) ss) true)

  swept : (t : List ℕ → Bool) (i d : ℕ) (ss : List ℕ) → T (sweep t i d ss) → (cs : List ℕ) → length cs ≡ length ss
      → ((k : ℕ) → k < length cs → get_or cs k 0 < q p) → 2 * (d + differing ms i cs ss) + length ms ≤ r p → T (t cs)
  swept t i d [] z [] e h l = z
  swept t i d [] z (c ∷ cs) e h l = absurd (omega (arith, e))
  swept t i d (s ∷ ss) z [] e h l = absurd (omega (arith, e))
  swept t i d (s ∷ ss) z (c ∷ cs) e h l =
      swept (λ cs. t (c ∷ cs)) (suc i) (d + step) ss
      (so (leb (2 * (d + step) + length ms) (r p)) (sweep (λ cs. t (c ∷ cs)) (suc i) (d + step) ss) (le→leb _ _ (omega (arith, l)))
      (below_at (q p) _ z c (h 0 (omega arith))))
      cs (omega (arith, e)) (λ k g. h (suc k) (omega arith)) (omega (arith, l))
    where
      step : ℕ
      step = cond (among i ms || eqb c s) 0 1

  -- no code row is close, by a test of all rows that are
  abbrev unbalanced : List ℕ → Bool
  unbalanced cs = not (balanced_test p.field (r p) cs)

  none_of : (ss : List ℕ) → T (sweep unbalanced 0 0 ss) → (cs : List ℕ) → CloseRow p.field (r p) ms ss cs → ⊥
  none_of ss t cs c = T_not (balanced_test p.field (r p) cs)
      (swept unbalanced 0 0 ss t cs c.long c.code.elements (omega (arith, c.few)))
      (all_below (r p) _ (λ j h. subst (λ (v : ℕ). T (eqb v 0)) (sym (c.code.balanced (suc j) (omega arith) (omega arith))) tt))

  -- a refusal of row 0 where the close code row cs does not fit
  misfit : (ys : List ℕ) (f : PageFault) (cs : List ℕ) → 0 < p.numbers.rows → T (close_test (symbols_of (q p) (row_of (n p) 0 ys)) cs) → drift_fault p ms 0 (row_of (n p) 0 ys) cs ≡ Some f
      → RefusedBy p ms ys f (page_refusal f).number (page_refusal f).first (page_refusal f).second
  misfit ys f cs l t e = refused_by ys f l (not_risen f cs (close_row _ cs t) e)

  -- and one where there is none
  lost : (ys : List ℕ) → 0 < p.numbers.rows → T (sweep unbalanced 0 0 (symbols_of (q p) (row_of (n p) 0 ys))) → RefusedBy p ms ys (Lost 0) 22 0 0
  lost ys l t = refused_by ys (Lost 0) l (none_close (none_of _ t))

pub samples : Samples
unfolding sum power product times_x total numbers_fault
samples = record {
  first_row = record { code = code_row (field_of 1) 2 (10 ∷ 5 ∷ 1 ∷ 0 ∷ []) tt; messages = refl };
  second_row = record { code = code_row (field_of 1) 2 (1 ∷ 2 ∷ 0 ∷ 1 ∷ []) tt; messages = refl };
  cells = record { size = refl; code = one (λ k. CodeRow (field_of 1) 2 _) (code_row (field_of 1) 2 (10 ∷ 5 ∷ 1 ∷ 0 ∷ []) tt); has = refl };
  binary_cells = record { size = refl; code = one (λ k. CodeRow (field_of 5) 2 _) (code_row (field_of 5) 2 (8 ∷ 6 ∷ 1 ∷ []) tt); has = refl };
  binary_product = refl;
  columns_ordered = refl;
  columns_refused = refl;
  heights_ordered = refl;
  heights_refused = refl;
  drift_refused = refl;
  checks_refused = refl;
  risen_read = reads_to _ _ _ _ refl refl refl tt;
  far_refused = misfit _ _ _ _ (10 ∷ 5 ∷ 1 ∷ 0 ∷ []) (omega arith) tt refl;
  lost_refused = lost _ _ _ (omega arith) tt;
  other_read = reads_to _ _ _ _ refl refl refl tt;
  under_refused = misfit _ _ _ _ (10 ∷ 5 ∷ 1 ∷ 0 ∷ []) (omega arith) tt refl;
  marked_read = reads_to _ _ _ _ refl refl refl tt;
  marked_refused = lost _ _ _ (omega arith) tt;
  binary_read = reads_to _ _ _ _ refl refl refl tt;
  raised = record { answers = refl; buffers_are = refl; after_is = refl };
  raise_refused = record { why = refl; kept = refl; buffers_kept = refl };
  scrubbed = found (10 ∷ 5 ∷ 239 ∷ 0 ∷ []) (reads_to _ _ _ _ refl refl refl tt).found (record { answers = refl; buffers_are = refl; after_is = refl });
}
