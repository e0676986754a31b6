-- What is in reach is one page, and decoding finds it.
use Rattle.std.proofs.Common.{◌≡◌, ℕ, ◌+◌, ◌-◌, ◌*◌, ◌/◌, ◌%◌, ◌<◌, Bool, true, false, cond, not, ◌&&◌, leb, List, length, get_or, None, sym, refl, ap, ◌∙◌, subst, ap₂, inl, inr, arith}
use native.Mathlib.Nat.{mod-mod, div-eq_of_lt}
use Rattle.std.proofs.lemmas.Nat.{mod_below}
use Rattle.std.proofs.lemmas.List.{get_or-map, length-map}
use Rattle.std.proofs.lemmas.Bool.{cases_order, lt-leb, le-ltb}
use Rattle.basics.specs.Checks.{check, ◌or_else◌, lowest}
use Rattle.basics.specs.Lists.{row_of}
use Rattle.basics.proofs.Checking.{none_lowest}
use Rattle.fields.specs.Rings.{RingLaws, Inverses, Points}
use Rattle.algebra.specs.Rows.{among}
use Rattle.algebra.proofs.Distance.{one_code_row}
use Rattle.codes.proofs.Rowing.{get_d_part}
use Rattle.plans.specs.Orders.{Ranges}
use Rattle.rules.specs.Pages.{Setup, State, symbols_of, q, n, r, cell_count, symbol_count, cell_of, contents}
use Rattle.rules.specs.Reach.{levels, dead, RowReach, PageReach, lowered, blanked, Close, drift, drift_fault, RowFault, none_close, not_risen, Found, Unfound}
use Rattle.rules.specs.Calls.{reading_fault}
use Rattle.rules.specs.declared.fault.PageFault.{PageFault}
use Rattle.rules.proofs.Drifts.{same_level, drift_is, symbols_differ_less, tabled_at, tabled_same}
use Rattle.rules.proofs.Levels.{row_in, column_in, cell_is, cell_inside}
use Rattle.rules.proofs.Writing.{row_width}

-- a check of an unmarked place that passes there
unmarked_none : {F : Type 0} (b wrong : Bool) (f : F) → (b ≡ false → wrong ≡ false) → check (not b && wrong) f ≡ None
unmarked_none true wrong f h = refl
unmarked_none false wrong f h = ap (λ w. check w f) (h refl)

-- both ways of a column
by_mark : (b : Bool) (P : ℕ → Type 0) (x y : ℕ) → (b ≡ true → P x) → (b ≡ false → P y) → P (cond b x y)
by_mark true P x y h k = h refl
by_mark false P x y h k = k refl

-- a place of the page in its row
inside : (p : Setup) → Ranges (q p) p.numbers → (i : ℕ) → i < cell_count p → (i / n p < p.numbers.rows) × (i % n p < n p) × (i / n p * n p + i % n p ≡ i)
inside p rg i h = (row_in p rg i h, column_in p rg i, cell_is p rg i)

row_at : (n k : ℕ) (xs : List ℕ) (i : ℕ) → i < n → get_or (row_of n k xs) i 0 ≡ get_or xs (k * n + i) 0
row_at n k xs i h = get_d_part n (k * n) xs i h

module _ (p : Setup) (inv : ℕ → ℕ) (laws : RingLaws p.field.ring) (is : Inverses p.field.ring inv) (ps : Points p.field.ring p.field.point)
    (rg : Ranges (q p) p.numbers) where
  module _ (ms ys : List ℕ) where
    -- the symbols of levels in reach are close enough
    pub close : (xs : List ℕ) → length ys ≡ n p → RowReach p ms ys xs → Close p ms ys (symbols_of (q p) xs)
    close xs e h = record {
      long = length-map xs _ ∙ h.columns ∙ sym (length-map ys _ ∙ e);
      code = h.code;
      few = omega (arith, h.few, symbols_differ_less (q p) ms 0 xs ys);
    }

    -- one row of symbols is close enough
    pub one_close : (cs ds : List ℕ) → length ys ≡ n p → Close p ms ys cs → Close p ms ys ds → cs ≡ ds
    one_close cs ds e c d =
        let l : length (symbols_of (q p) ys) ≡ n p = length-map ys _ ∙ e in
        one_code_row p.field inv laws is ps (r p) ms cs ds (symbols_of (q p) ys) c.code d.code c.long d.long
        (omega (arith, rg.points)) c.few d.few

    module _ (xs zs : List ℕ) (e : length ys ≡ n p) (hx : RowReach p ms ys xs)
        (hz : RowReach p ms ys zs) where
      row_symbols : (i : ℕ) → i < n p → get_or xs i 0 % q p ≡ get_or zs i 0 % q p
      row_symbols i h =
          sym (get_or-map (λ x. x % q p) xs i 0 0 (omega (arith, hx.columns)))
          ∙ ap (λ cs. get_or cs i 0) (one_close _ _ e (close xs e hx) (close zs e hz))
          ∙ get_or-map (λ x. x % q p) zs i 0 0 (omega (arith, hz.columns))

      row_levels : (i : ℕ) → i < n p → among i ms ≡ false → get_or xs i 0 ≡ get_or zs i 0
      row_levels i h u =
          same_level (q p) (get_or xs i 0) (get_or zs i 0) (omega (arith, hx.risen i h u, hz.bounded i h u, rg.drift_short))
          (omega (arith, hz.risen i h u, hx.bounded i h u, rg.drift_short)) (row_symbols i h)

    -- no drift is above the bound or the reading
    pub risen_fine : (k : ℕ) (xs : List ℕ) → RowReach p ms ys xs → drift_fault p ms k ys (symbols_of (q p) xs) ≡ None
    risen_fine k xs h = ap₂ (λ a b. a or_else b)
        (none_lowest _ (n p) 0 (λ i _ l. unmarked_none (among i ms) _ _ (λ u. rw (drift_at i (omega arith) u) (le-ltb _ _ (omega (arith, h.bounded i (omega arith) u))))))
        (none_lowest _ (n p) 0 (λ i _ l. unmarked_none (among i ms) _ _ (λ u. rw (drift_at i (omega arith) u) (le-ltb _ _ (omega arith)))))
      where
        drift_at : (i : ℕ) → i < n p → among i ms ≡ false → drift p (get_or ys i 0) (get_or (symbols_of (q p) xs) i 0) ≡ get_or ys i 0 - get_or xs i 0
        drift_at i l u =
            ap (λ c. drift p (get_or ys i 0) c) (get_or-map (λ x. x % q p) xs i 0 0 (omega (arith, h.columns)))
            ∙ drift_is (q p) (get_or xs i 0) (get_or ys i 0) (omega (arith, rg.drift_short)) (h.risen i l u) (omega (arith, h.bounded i l u, rg.drift_short))

  module _ (ms ys xs zs : List ℕ) (hx : PageReach p ms ys xs) (hz : PageReach p ms ys zs) where
    -- NEVER TWO PAGES
    pub one_page : lowered p ms xs ≡ lowered p ms zs
    one_page = tabled_same (cell_count p) _ _ (λ i h.
        let w = inside p rg i h in let k = i / n p in let l = row_width p ys hx.cells k w.0 in
        at_place i w.2 (row_at (n p) k xs (i % n p) w.1) (row_at (n p) k zs (i % n p) w.1)
        (row_symbols ms (row_of (n p) k ys) (row_of (n p) k xs) (row_of (n p) k zs) l (hx.rows k w.0) (hz.rows k w.0) (i % n p) w.1)
        (row_levels ms (row_of (n p) k ys) (row_of (n p) k xs) (row_of (n p) k zs) l (hx.rows k w.0) (hz.rows k w.0) (i % n p) w.1))
      where
        at_place : (i : ℕ) {j a b : ℕ} → j ≡ i → a ≡ get_or xs j 0 → b ≡ get_or zs j 0 → a % q p ≡ b % q p → (dead p ms i ≡ false → a ≡ b)
            → cond (dead p ms i) (get_or xs i 0 % q p) (get_or xs i 0) ≡ cond (dead p ms i) (get_or zs i 0 % q p) (get_or zs i 0)
        at_place i {j} {a} {b} e ea eb s u =
            let ex : a ≡ get_or xs i 0 = ea ∙ ap (λ k. get_or xs k 0) e in let ez : b ≡ get_or zs i 0 = eb ∙ ap (λ k. get_or zs k 0) e in
            both (dead p ms i) u ex ez
          where
            both : (t : Bool) → (t ≡ false → a ≡ b) → a ≡ get_or xs i 0 → b ≡ get_or zs i 0 → cond t (get_or xs i 0 % q p) (get_or xs i 0) ≡ cond t (get_or zs i 0 % q p) (get_or zs i 0)
            both true v ex ez = ap (λ k. k % q p) (sym ex) ∙ s ∙ ap (λ k. k % q p) ez
            both false v ex ez = sym ex ∙ v refl ∙ ez

  -- the levels that decoding finds are those in reach, with height 0 in marked columns
  pub found_is : (s : State) (xs zs : List ℕ) → PageReach p s.marking s.cells xs → Found p s zs → zs ≡ lowered p s.marking xs
  found_is s xs zs h f = f.low ∙ one_page s.marking s.cells zs xs f.reach h

  -- a row that is refused is in reach of no levels
  no_fault : {f : PageFault} {ms ys : List ℕ} {k : ℕ} (xs : List ℕ) → length ys ≡ n p → RowReach p ms ys xs → RowFault p ms k ys f → ⊥
  no_fault {f} {ms} {ys} {k} xs l h (none_close no_row) = no_row (symbols_of (q p) xs) (close ms ys xs l h)
  no_fault {f} {ms} {ys} {k} xs l h (not_risen g cs c e) =
      let same = one_close ms ys cs (symbols_of (q p) xs) l c (close ms ys xs l h) in
      let none = ap (drift_fault p ms k ys) same ∙ risen_fine ms ys k xs h in
      let z : ◌≡◌ {A = ℕ} 0 1 = cc in omega arith

  -- where a page is in reach, decoding finds one
  pub never_unfound : (s : State) (xs : List ℕ) → PageReach p s.marking s.cells xs → (f : PageFault) → Unfound p s f → ⊥
  never_unfound s xs h f u =
      no_fault (row_of (n p) u.row xs) (row_width p s.cells h.cells u.row u.inside) (h.rows u.row u.inside) u.fault

  -- a row is refused by one fault
  row_one_fault : {f g : PageFault} {ms ys : List ℕ} {k : ℕ} → length ys ≡ n p → RowFault p ms k ys f → RowFault p ms k ys g → f ≡ g
  row_one_fault l (none_close no_row) (none_close _) = refl
  row_one_fault l (none_close no_row) (not_risen g cs c e) = absurd (no_row cs c)
  row_one_fault l (not_risen f cs c e) (none_close no_row) = absurd (no_row cs c)
  row_one_fault {f} {g} {ms} {ys} {k} l (not_risen a cs c e) (not_risen b ds d h) =
      let same = ap (drift_fault p ms k ys) (one_close ms ys cs ds l c d) in cc

  -- and so are cells
  pub one_fault : (s : State) → length s.cells ≡ cell_count p → (f g : PageFault) → Unfound p s f → Unfound p s g → f ≡ g
  one_fault s size f g u v = elim (cases_order u.row v.row) [
    | inl e ↦ row_one_fault (long u.row u.inside) u.fault (subst (λ (k : ℕ). RowFault p s.marking k (row_of (n p) k s.cells) g) (sym e) v.fault)
    | inr t ↦ elim t [
      | inl lt ↦ let w = v.earlier u.row lt in absurd (no_fault w.0 (long u.row u.inside) w.1 u.fault)
      | inr gt ↦ let w = u.earlier v.row gt in absurd (no_fault w.0 (long v.row v.inside) w.1 v.fault)
    ]
  ]
    where
      long : (k : ℕ) → k < p.numbers.rows → length (row_of (n p) k s.cells) ≡ n p
      long k h = row_width p s.cells size k h

  -- no reading is refused
  pub readings_fine : (s : State) (xs : List ℕ) → PageReach p s.marking s.cells xs → lowest 0 (cell_count p) (reading_fault p s) ≡ None
  readings_fine s xs h = none_lowest (reading_fault p s) (cell_count p) 0 (λ i _ l.
      let w = inside p rg i (omega arith) in
      unmarked_none (dead p s.marking i) (leb (levels p) (get_or s.cells i 0)) _ (λ u. lt-leb (levels p) (get_or s.cells i 0)
      (low i w.2 (row_at (n p) (i / n p) s.cells (i % n p) w.1) ((h.rows (i / n p) w.0).below (i % n p) w.1 u))))
    where
      low : (i : ℕ) {j a : ℕ} → j ≡ i → a ≡ get_or s.cells j 0 → a < levels p → get_or s.cells i 0 < levels p
      low i e ea lt = omega (arith, ea, ap (λ k. get_or s.cells k 0) e)

  -- the contents of a page whose marked columns are lowered
  pub contents_lowered : (ms xs : List ℕ) → contents p (lowered p ms xs) ≡ blanked p ms (contents p xs)
  contents_lowered ms xs = ap₂ (λ (a b : List ℕ). record { symbols = a; heights = b })
      (tabled_same (symbol_count p) _ _ (λ j h. ap (λ v. v % q p) (tabled_at (cell_count p) _ (cell_of p j) (cell_inside p rg j h)) ∙ symbol (dead p ms (cell_of p j)) (get_or xs (cell_of p j) 0)))
      (tabled_same (cell_count p) _ _ (λ i h.
      ap (λ v. v / q p) (tabled_at (cell_count p) _ i h) ∙ height (dead p ms i) (get_or xs i 0)
      ∙ ap (λ v. cond (dead p ms i) 0 v) (sym (tabled_at (cell_count p) (λ i. get_or xs i 0 / q p) i h))))
    where
      symbol : (b : Bool) (x : ℕ) → cond b (x % q p) x % q p ≡ x % q p
      symbol true x = mod-mod x (q p)
      symbol false x = refl

      height : (b : Bool) (x : ℕ) → cond b (x % q p) x / q p ≡ cond b 0 (x / q p)
      height true x = div-eq_of_lt (mod_below x (q p) (omega (arith, rg.drift_short)))
      height false x = refl
