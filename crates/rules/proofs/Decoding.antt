-- The rows of the cells, decoded, make the page that is found, or its refusal.
use Rattle.std.proofs.Common.{◌≡◌, ℕ, ◌+◌, ◌-◌, ◌*◌, ◌/◌, ◌%◌, ◌<◌, ◌≤◌, Bool, true, false, cond, ◌⊎◌, List, length, get_or, Some, None, sym, ap, ◌∙◌, subst, ap₂, inl, inr, mod-lt, mod-eq_of_lt, arith}
use lib.Arith.{digits_lt, digits_mod}
use Rattle.std.proofs.lemmas.List.FromFn.{length-map-range_with_len}
use Rattle.std.proofs.lemmas.List.{get_or-map, length-map, ext_get_or}
use Rattle.std.proofs.lemmas.Bool.{cases_Bool}
use Rattle.std.proofs.lemmas.Bool.Decides.{nat_tests}
use Rattle.basics.specs.Checks.{lowest}
use Rattle.basics.specs.Lists.{Updated, row_of}
use Rattle.basics.proofs.Checking.{lowest_none, lowest_found}
use Rattle.fields.specs.Rings.{taken}
use Rattle.algebra.specs.Rows.{CloseRow, taken_row, among}
use Rattle.codes.proofs.Rowing.{get_d_part}
use Rattle.plans.specs.Orders.{Ranges}
use Rattle.rules.specs.Pages.{Setup, State, tabled, symbols_of, q, n, r, cell_count}
use Rattle.rules.specs.Reach.{levels, dead, drift, lowered, Close, RowReach, none_close, not_risen, Found, Unfound}
use Rattle.rules.specs.Views.{Readable, CorrectedTo, row_drift, settled_at}
use Rattle.rules.specs.declared.fault.PageFault.{PageFault}
use Rattle.rules.specs.declared.fault.PageFault.TheVariants.{Lost}
use Rattle.rules.proofs.Drifts.{tabled_at}
use Rattle.rules.proofs.Levels.{row_in, column_in, cell_is}
use Rattle.rules.proofs.Settling.{settled}
use Rattle.rules.proofs.Writing.{row_width}

-- the symbols of the readings laid down, and corrected up to row good
pub record Laid (p : Setup) (s : State) (blank laid corrected : List ℕ) (good : ℕ) : Type 0 where
  pub ranges : Ranges (q p) p.numbers
  pub cells : length s.cells ≡ cell_count p
  pub page : length blank ≡ cell_count p
  pub readable : Readable p s
  pub lays : Updated (length blank) (λ i. get_or s.cells i 0 % q p) blank laid
  pub corrects : CorrectedTo p s.marking good laid corrected

module _ (p : Setup) (s : State) (blank laid corrected : List ℕ) (good : ℕ) (w : Laid p s blank laid corrected good) where
  abbrev ms : List ℕ
  ms = s.marking

  laid_long : length laid ≡ cell_count p
  laid_long = w.lays.long ∙ w.page

  corrected_long : length corrected ≡ cell_count p
  corrected_long = w.corrects.long ∙ laid_long

  at : (xs : List ℕ) (k c : ℕ) → c < n p → get_or (row_of (n p) k xs) c 0 ≡ get_or xs (k * n p + c) 0
  at xs k c h = get_d_part (n p) (k * n p) xs c h

  cell_in : (k c : ℕ) → k < p.numbers.rows → c < n p → k * n p + c < cell_count p
  cell_in k c h a = digits_lt {q = k} {m = p.numbers.rows} {r = c} {c = n p} h a

  some : 0 < q p
  some = omega (arith, w.ranges.points)

  -- what was laid is the symbols
  row_laid : (k : ℕ) → k < p.numbers.rows → taken_row (q p) (row_of (n p) k laid) ≡ symbols_of (q p) (row_of (n p) k s.cells)
  row_laid k h = ext_get_or 0 (taken_row (q p) (row_of (n p) k laid)) (symbols_of (q p) (row_of (n p) k s.cells))
      (length-map (row_of (n p) k laid) (taken (q p)) ∙ row_width p laid laid_long k h ∙ sym (length-map (row_of (n p) k s.cells) (λ x. x % q p) ∙ row_width p s.cells w.cells k h))
      (λ c i. entry c (omega (arith, length-map (row_of (n p) k laid) (taken (q p)), row_width p laid laid_long k h)))
    where
      small : (x : ℕ) → taken (q p) (x % q p) ≡ x % q p
      small x = let l : x % q p < q p = mod-lt x (omega (arith, w.ranges.points)) in grind (arith, nat_tests)

      entry : (c : ℕ) → c < n p → get_or (taken_row (q p) (row_of (n p) k laid)) c 0 ≡ get_or (symbols_of (q p) (row_of (n p) k s.cells)) c 0
      entry c a =
          get_or-map (taken (q p)) (row_of (n p) k laid) c 0 0 (omega (arith, row_width p laid laid_long k h))
          ∙ ap (taken (q p)) (at laid k c a ∙ w.lays.new (k * n p + c) (omega (arith, w.page, cell_in k c h a)) (omega (arith, w.page, cell_in k c h a))) ∙ small (get_or s.cells (k * n p + c) 0)
          ∙ sym (get_or-map (λ x. x % q p) (row_of (n p) k s.cells) c 0 0 (omega (arith, row_width p s.cells w.cells k h)) ∙ ap (λ (x : ℕ). x % q p) (at s.cells k c a))

  -- the corrected rows are close enough
  close : (k : ℕ) → k < good → Close p ms (row_of (n p) k s.cells) (row_of (n p) k corrected)
  close k h = subst (λ (ss : List ℕ). CloseRow p.field (r p) ms ss (row_of (n p) k corrected)) (row_laid k (omega (arith, w.corrects.some))) (w.corrects.before k h)

  dead_at : (k c : ℕ) → c < n p → dead p ms (k * n p + c) ≡ among c ms
  dead_at k c h = ap (λ (j : ℕ). among j ms) (digits_mod k {m = n p} {r = c} h)

  -- a row whose drifts fit is in reach of its levels
  reached : (levels-of : List ℕ) → length levels-of ≡ cell_count p → ((i : ℕ) → i < cell_count p → get_or levels-of i 0 ≡ settled_at p ms s.cells corrected i)
      → (k : ℕ) → k < good → row_drift p ms s.cells corrected k ≡ None → RowReach p ms (row_of (n p) k s.cells) (row_of (n p) k levels-of)
  reached xs long is k h fine = settled p w.ranges ms k (row_of (n p) k s.cells) (row_of (n p) k corrected) (row_of (n p) k xs)
      (row_width p s.cells w.cells k k_in) (row_width p xs long k k_in) (close k h) fine below entries
    where
      k_in : k < p.numbers.rows
      k_in = omega (arith, w.corrects.some)

      below : (i : ℕ) → i < n p → among i ms ≡ false → get_or (row_of (n p) k s.cells) i 0 < levels p
      below i l u = subst (λ (y : ℕ). y < levels p) (sym (at s.cells k i l)) (w.readable.below (k * n p + i) (omega (arith, w.cells, cell_in k i k_in l)) (dead_at k i l ∙ u))

      entries : (i : ℕ) → i < n p → get_or (row_of (n p) k xs) i 0
          ≡ cond (among i ms) (get_or (row_of (n p) k corrected) i 0) (get_or (row_of (n p) k s.cells) i 0 - drift p (get_or (row_of (n p) k s.cells) i 0) (get_or (row_of (n p) k corrected) i 0))
      entries i l = at xs k i l ∙ is (k * n p + i) (cell_in k i k_in l)
          ∙ ap (λ (b : Bool). cond b (get_or corrected (k * n p + i) 0) (get_or s.cells (k * n p + i) 0 - drift p (get_or s.cells (k * n p + i) 0) (get_or corrected (k * n p + i) 0))) (dead_at k i l)
          ∙ sym (ap₂ (λ (c y : ℕ). cond (among i ms) c (y - drift p y c)) (at corrected k i l) (at s.cells k i l))

  -- levels for the rows before
  abbrev settled_levels : List ℕ
  settled_levels = tabled (cell_count p) (settled_at p ms s.cells corrected)

  before : (k : ℕ) → k < good → row_drift p ms s.cells corrected k ≡ None → (xs : List ℕ) × RowReach p ms (row_of (n p) k s.cells) xs
  before k h e = (
    row_of (n p) k settled_levels,
    reached settled_levels (length-map-range_with_len (settled_at p ms s.cells corrected) 0 (cell_count p)) (λ i l. tabled_at (cell_count p) (settled_at p ms s.cells corrected) i l) k h e,
  )

  -- a drift that does not fit refuses the page
  pub unfound_drift : (f : PageFault) → lowest 0 good (row_drift p ms s.cells corrected) ≡ Some f → Unfound p s f
  unfound_drift f e =
      let (k, a, b, c, d) = lowest_found (row_drift p ms s.cells corrected) good 0 f e in
      let h : k < good = omega arith in
      record {
        row = k;
        inside = omega (arith, w.corrects.some);
        earlier = λ j l. before j (omega arith) (d j (omega arith) l);
        fault = not_risen f (row_of (n p) k corrected) (close k h) c;
      }

  -- a row that has no close code row refuses the page
  pub unfound_lost : good < p.numbers.rows → lowest 0 good (row_drift p ms s.cells corrected) ≡ None → Unfound p s (Lost good)
  unfound_lost h e = record {
    row = good;
    inside = h;
    earlier = λ j l. before j l (lowest_none (row_drift p ms s.cells corrected) good 0 j e (omega arith) (omega arith));
    fault = none_close (λ cs c. w.corrects.none h cs (subst (λ (ss : List ℕ). CloseRow p.field (r p) ms ss cs) (sym (row_laid good h)) c));
  }

  -- else the levels are found
  pub found_levels : (xs : List ℕ) → p.numbers.rows ≤ good → lowest 0 good (row_drift p ms s.cells corrected) ≡ None
      → Updated (length corrected) (settled_at p ms s.cells corrected) corrected xs → Found p s xs
  found_levels xs all e u = record {
    reach = record { size = long; cells = w.cells; rows = λ k h. reached xs long is k (omega arith) (lowest_none (row_drift p ms s.cells corrected) good 0 k e (omega arith) (omega arith)) };
    low = ext_get_or 0 xs (lowered p ms xs) (long ∙ sym (length-map-range_with_len _ 0 (cell_count p))) (λ i l.
        let h : i < cell_count p = omega (arith, long) in sym (tabled_at (cell_count p) _ i h ∙ small i h (cases_Bool (dead p ms i))));
  }
    where
      long : length xs ≡ cell_count p
      long = u.long ∙ corrected_long

      is : (i : ℕ) → i < cell_count p → get_or xs i 0 ≡ settled_at p ms s.cells corrected i
      is i h = u.new i (omega (arith, corrected_long)) (omega (arith, corrected_long))

      symbol_small : (i : ℕ) → i < cell_count p → get_or corrected i 0 < q p
      symbol_small i h =
          let k = row_in p w.ranges i h in let c = column_in p w.ranges i in
          subst (λ (x : ℕ). x < q p) (at corrected (i / n p) (i % n p) c ∙ ap (λ (j : ℕ). get_or corrected j 0) (cell_is p w.ranges i))
          ((close (i / n p) (omega arith)).code.elements (i % n p) (omega (arith, row_width p corrected corrected_long (i / n p) k)))

      small : (i : ℕ) → i < cell_count p → (dead p ms i ≡ true) ⊎ (dead p ms i ≡ false) → cond (dead p ms i) (get_or xs i 0 % q p) (get_or xs i 0) ≡ get_or xs i 0
      small i h (inl e) = ap (λ (b : Bool). cond b (get_or xs i 0 % q p) (get_or xs i 0)) e
          ∙ mod-eq_of_lt (subst (λ (x : ℕ). x < q p) (sym (is i h ∙ ap (λ (b : Bool). cond b (get_or corrected i 0) (get_or s.cells i 0 - drift p (get_or s.cells i 0) (get_or corrected i 0))) e)) (symbol_small i h))
      small i h (inr e) = ap (λ (b : Bool). cond b (get_or xs i 0 % q p) (get_or xs i 0)) e
