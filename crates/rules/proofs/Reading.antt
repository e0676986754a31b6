-- What reading rests on: the page in reach is read, nothing else is, and marked cells are not seen.
use Rattle.std.proofs.Common.{◌≡◌, ℕ, ◌+◌, ◌*◌, ◌%◌, ◌<◌, Bool, true, false, not, ◌&&◌, ltb, ◌⊎◌, List, length, get_or, Some, None, Option, sym, refl, ap, ◌∙◌, subst, ap₂, inl, inr, arith}
use lib.Arith.{digits_mod}
use Rattle.std.proofs.lemmas.List.{get_or-map, length-map}
use Rattle.std.proofs.lemmas.Bool.{eq-eqb}
use Rattle.basics.specs.Checks.{check, ◌or_else◌}
use Rattle.basics.specs.Lists.{row_of}
use Rattle.basics.proofs.Checking.{check_false, first_passes, others_pass, lowest_same}
use Rattle.fields.specs.Rings.{RingLaws, Inverses, Points}
use Rattle.algebra.specs.Rows.{among}
use Rattle.algebra.proofs.Correct.{differing_same, close_same}
use Rattle.codes.proofs.Rowing.{get_d_part}
use Rattle.plans.specs.Orders.{Ranges, order_fault}
use Rattle.plans.proofs.Ranged.{ranges}
use Rattle.rules.specs.Pages.{Setup, State, Buffers, symbols_of, q, n, r, cell_count, contents}
use Rattle.rules.specs.Reach.{drift, lowered, drifted, risen, Close, RowReach, PageReach, far_fault, under_fault, drift_fault, RowFault, none_close, not_risen, Found, Unfound}
use Rattle.rules.specs.Calls.{Answer, counted, read, Event, event, numbers_fault, handed, buffers_fault, fault, Refuses, Leaves, Decodes, unfound, found, Follows, Step}
use Rattle.rules.specs.Laws.{Alike, ReadsAs, Readings}
use Rattle.rules.specs.declared.fault.PageFault.{PageFault}
use Rattle.rules.specs.declared.fault.PageFault.TheVariants.{Order, Far, Under}
use Rattle.rules.proofs.Reaching.{one_page, found_is, never_unfound, one_fault, readings_fine, contents_lowered}
use Rattle.rules.proofs.Writing.{row_width}

-- a check of a place that looks only where it is unmarked
unmarked_same : {F : Type 0} (b x y : Bool) (f : F) → (b ≡ false → x ≡ y) → check (not b && x) f ≡ check (not b && y) f
unmarked_same true x y f h = refl
unmarked_same false x y f h = ap (λ t. check t f) (h refl)

module _ (p : Setup) (ms ys zs : List ℕ) (ly : length ys ≡ n p) (lz : length zs ≡ n p) (same : (i : ℕ) → i < n p → among i ms ≡ false → get_or zs i 0 ≡ get_or ys i 0) where
  row_unseen : (xs : List ℕ) → RowReach p ms ys xs → RowReach p ms zs xs
  row_unseen xs h = record {
    columns = h.columns;
    code = h.code;
    levels_in = h.levels_in;
    below = λ i l u. omega (arith, h.below i l u, same i l u);
    risen = λ i l u. omega (arith, h.risen i l u, same i l u);
    bounded = λ i l u. omega (arith, h.bounded i l u, same i l u);
    few = omega (arith, h.few, differing_same ms xs ys zs (h.columns ∙ sym ly) (lz ∙ sym ly) (λ i l u. sym (same i (omega arith) u)));
  }

  symbol_same : (i : ℕ) → i < n p → among i ms ≡ false → get_or (symbols_of (q p) zs) i 0 ≡ get_or (symbols_of (q p) ys) i 0
  symbol_same i h u =
      get_or-map (λ x. x % q p) zs i 0 0 (omega arith) ∙ ap (λ (x : ℕ). x % q p) (same i h u) ∙ sym (get_or-map (λ x. x % q p) ys i 0 0 (omega arith))

  close_unseen : (cs : List ℕ) → Close p ms ys cs → Close p ms zs cs
  close_unseen cs c = close_same p.field (r p) ms (symbols_of (q p) ys) (symbols_of (q p) zs) cs (length-map zs _ ∙ lz ∙ sym (length-map ys _ ∙ ly))
      (λ k h u. sym (symbol_same k (omega (arith, length-map ys (λ x. x % q p))) u)) c

  drift_unseen : (k : ℕ) (cs : List ℕ) → drift_fault p ms k zs cs ≡ drift_fault p ms k ys cs
  drift_unseen k cs = ap₂ (λ a b. a or_else b)
      (lowest_same (far_fault p ms k zs cs) (far_fault p ms k ys cs) (n p) 0 (λ i _ h. unmarked_same (among i ms) _ _ (Far k i) (λ u. ap (λ (y : ℕ). ltb p.numbers.drift (drift p y (get_or cs i 0))) (same i (omega arith) u))))
      (lowest_same (under_fault p ms k zs cs) (under_fault p ms k ys cs) (n p) 0 (λ i _ h. unmarked_same (among i ms) _ _ (Under k i) (λ u. ap (λ (y : ℕ). ltb y (drift p y (get_or cs i 0))) (same i (omega arith) u))))

-- a row's refusal does not see marked cells either
fault_unseen : (p : Setup) (ms ys zs : List ℕ) → length ys ≡ n p → length zs ≡ n p → ((i : ℕ) → i < n p → among i ms ≡ false → get_or zs i 0 ≡ get_or ys i 0)
    → (k : ℕ) (f : PageFault) → RowFault p ms k ys f → RowFault p ms k zs f
fault_unseen p ms ys zs ly lz same k f (none_close none) = none_close (λ cs c. none cs (close_unseen p ms zs ys lz ly (λ i h u. sym (same i h u)) cs c))
fault_unseen p ms ys zs ly lz same k f (not_risen g cs c e) = not_risen g cs (close_unseen p ms ys zs ly lz same cs c) (drift_unseen p ms ys zs ly lz same k cs ∙ e)

module _ (p : Setup) (s t : State) (a : Alike p s t) where
  row_same : (k : ℕ) (i : ℕ) → i < n p → among i s.marking ≡ false → get_or (row_of (n p) k t.cells) i 0 ≡ get_or (row_of (n p) k s.cells) i 0
  row_same k i h u =
      get_d_part (n p) (k * n p) t.cells i h ∙ a.same (k * n p + i) (ap (λ (j : ℕ). among j s.marking) (digits_mod k {m = n p} {r = i} h) ∙ u)
      ∙ sym (get_d_part (n p) (k * n p) s.cells i h)

  pub found_unseen : (xs : List ℕ) → Found p s xs → Found p t xs
  found_unseen xs f = record {
    reach = subst (λ (ms : List ℕ). PageReach p ms t.cells xs) (sym a.marks) (record {
      size = f.reach.size;
      cells = a.long ∙ f.reach.cells;
      rows = λ k h. row_unseen p s.marking (row_of (n p) k s.cells) (row_of (n p) k t.cells) (row_width p s.cells f.reach.cells k h) (row_width p t.cells (a.long ∙ f.reach.cells) k h)
          (row_same k) (row_of (n p) k xs) (f.reach.rows k h);
    });
    low = f.low ∙ ap (λ (ms : List ℕ). lowered p ms xs) (sym a.marks);
  }

  pub unfound_unseen : length s.cells ≡ cell_count p → (f : PageFault) → Unfound p s f → Unfound p t f
  unfound_unseen e f u = record {
    row = u.row;
    inside = u.inside;
    earlier = λ k h. let (xs, reach) = u.earlier k h in (
      xs,
      subst (λ (ms : List ℕ). RowReach p ms (row_of (n p) k t.cells) xs) (sym a.marks)
          (row_unseen p s.marking (row_of (n p) k s.cells) (row_of (n p) k t.cells) (row_width p s.cells e k (omega (arith, u.inside))) (row_width p t.cells (a.long ∙ e) k (omega (arith, u.inside))) (row_same k) xs reach),
    );
    fault = subst (λ (ms : List ℕ). RowFault p ms u.row (row_of (n p) u.row t.cells) f) (sym a.marks)
        (fault_unseen p s.marking (row_of (n p) u.row s.cells) (row_of (n p) u.row t.cells) (row_width p s.cells e u.row u.inside) (row_width p t.cells (a.long ∙ e) u.row u.inside) (row_same u.row) u.row f u.fault);
  }

-- a read whose checks passed was refused by decoding, or found its page
decided : (p : Setup) (e : Event) {b : List ℕ → Buffers} {t : List ℕ → State} → Decodes p e b t
    → ((f : PageFault) × Unfound p e.before f × Refuses p e f)
    ⊎ ((xs : List ℕ) × Found p e.before xs × Leaves p e (counted (drifted p e.before.marking e.before.cells xs) (risen p e.before.marking e.before.cells xs)) (b xs) (t xs))
decided p e (unfound f u w) = inl (f, u, w)
decided p e (found xs f l) = inr (xs, f, l)

-- an accepted read found its page, whose contents it leaves
pub only_found : (p : Setup) (s t : State) (b u : Buffers) (d k : ℕ) → Step p (event s (read b) (counted d k) u t) → (xs : List ℕ) × Found p s xs × (u ≡ contents p xs)
only_found p s t b u d k step = on (fault p s (read b)) step
  where
    e : Event
    e = event s (read b) (counted d k) u t

    on : (o : Option PageFault) → Follows p (event s (read b) (counted d k) u t) o → (xs : List ℕ) × Found p s xs × (u ≡ contents p xs)
    on (Some f) w = let h = w.why in let z : ◌≡◌ {A = ℕ} 0 1 = cc in absurd (omega arith)
    on None w = either (decided p (event s (read b) (counted d k) u t) w)
      where
        either : ((f : PageFault) × Unfound p s f × Refuses p (event s (read b) (counted d k) u t) f)
            ⊎ ((xs : List ℕ) × Found p s xs × Leaves p (event s (read b) (counted d k) u t) (counted (drifted p s.marking s.cells xs) (risen p s.marking s.cells xs)) (contents p xs) s) → (xs : List ℕ) × Found p s xs × (u ≡ contents p xs)
        either (inl (f, a, r)) = let h = r.why in let z : ◌≡◌ {A = ℕ} 0 1 = cc in absurd (omega arith)
        either (inr (xs, f, l)) = (xs, f, l.buffers_are)

-- the page's own numbers pass
numbers_pass : (p : Setup) → order_fault (q p) p.numbers ≡ None → numbers_fault p ≡ None
unfolding numbers_fault
numbers_pass p e = ap (λ o. elim o [ Some f ↦ Some (Order f) | None ↦ None ]) e

module _ (p : Setup) (inv : ℕ → ℕ) (laws : RingLaws p.field.ring) (is : Inverses p.field.ring inv) (ps : Points p.field.ring p.field.point)
    (passes : order_fault (q p) p.numbers ≡ None) where
  rg : Ranges (q p) p.numbers
  rg = ranges (q p) p.numbers laws.low passes

  -- nothing stands against a read of cells in reach of a page
  pub read_passes : (s : State) (b : Buffers) (xs : List ℕ) → PageReach p s.marking s.cells xs → buffers_fault p b ≡ None → fault p s (read b) ≡ None
  read_passes s b xs h fits =
      others_pass (handed p s) (buffers_fault p b) _
      (first_passes (numbers_fault p) _ (numbers_pass p passes) ∙ check_false _ _ (ap not (eq-eqb _ _ h.cells))) fits
      ∙ readings_fine p inv laws is ps rg s xs h

  -- and it answers that page
  answers : (s t : State) (b u : Buffers) (w : Answer) (xs : List ℕ) → PageReach p s.marking s.cells xs → buffers_fault p b ≡ None
      → Step p (event s (read b) w u t) → ReadsAs p s xs w u
  answers s t b u w xs h fits step = either (decided p e (subst (Follows p e) (read_passes s b xs h fits) step))
    where
      e : Event
      e = event s (read b) w u t

      either : ((f : PageFault) × Unfound p s f × Refuses p e f)
          ⊎ ((zs : List ℕ) × Found p s zs × Leaves p e (counted (drifted p s.marking s.cells zs) (risen p s.marking s.cells zs)) (contents p zs) s)
          → ReadsAs p s xs w u
      either (inl (f, a, r)) = absurd (never_unfound p inv laws is ps rg s xs h f a)
      either (inr (zs, f, l)) =
          let z = found_is p inv laws is ps rg s xs zs h f in
          record {
            pair = l.answers ∙ ap (λ xs. counted (drifted p s.marking s.cells xs) (risen p s.marking s.cells xs)) z;
            filled = l.buffers_are ∙ ap (contents p) z ∙ contents_lowered p inv laws is ps rg s.marking xs;
          }

  pub readings : Readings p
  readings = record {
    one_page = one_page p inv laws is ps rg;
    reads = answers;
    only_reads = λ s t b u d k step. let w = only_found p s t b u d k step in (w.0, w.1.reach);
    one_fault = one_fault p inv laws is ps rg;
    unseen_found = found_unseen p;
    unseen_refused = unfound_unseen p;
  }
