-- What a run keeps since the last accepted write.
use Rattle.std.proofs.Common.{◌≡◌, ℕ, ◌+◌, ◌-◌, ◌%◌, ◌<◌, ◌≤◌, Bool, true, false, cond, not, leb, ◌≢◌, List, length, get_or, set, Some, None, Option, sym, refl, ap, ◌∙◌, subst, inl, inr, arith, length-set}
use Rattle.std.proofs.lemmas.Nat.{mul-add-lt, mod-mul-add}
use Rattle.std.proofs.lemmas.List.{get_or-set_same, get_or-set_other}
use Rattle.std.proofs.lemmas.Bool.{cases_eq, leb-false, or_parts, not-false, both_ways}
use Rattle.fields.specs.Rings.{RingLaws, Inverses, Points}
use Rattle.algebra.specs.Rows.{among}
use Rattle.basics.specs.Checks.{check}
use Rattle.plans.specs.Marks.{inserted}
use Rattle.plans.specs.declared.fault.Refusal.{Refusal}
use Rattle.plans.specs.Orders.{Ranges}
use Rattle.rules.specs.Pages.{Setup, State, Buffers, q, n, cell_count, contents, Holds}
use Rattle.rules.specs.Reach.{dead, lowered, risen}
use Rattle.rules.specs.Calls.{Call, Event, event, write, mark, raise, jolt, read, scrub, refused, done, counted, brought, fault, handed, placed, place, Leaves, Decodes, unfound, found, Passes, Follows, Step}
use Rattle.rules.specs.Runs.{Run, Since, wrote, marked, raised, jolted, was_read, scrubbed, rejected}
use Rattle.rules.specs.declared.fault.PageFault.{PageFault}
use Rattle.rules.specs.declared.fault.PageFault.TheVariants.{Place, Dead, Alive}
use Rattle.basics.proofs.Checking.{both_none, check_none}
use Rattle.rules.proofs.Drifts.{total_same, total_none, total_raised, tabled_at}
use Rattle.plans.proofs.Marking.{among_inserted}
use Rattle.rules.proofs.Reaching.{found_is}

-- different answers
not_refused_done : (w : Refusal) → refused w ≡ done → ⊥
not_refused_done w e = let z : ◌≡◌ {A = ℕ} 0 1 = cc in omega arith

not_refused_counted : (w : Refusal) (d k : ℕ) → refused w ≡ counted d k → ⊥
not_refused_counted w d k e = let z : ◌≡◌ {A = ℕ} 0 1 = cc in omega arith

module _ (p : Setup) where
  -- a call that is answered by no refusal passed its checks
  pub passed : (e : Event) → Step p e → ((w : Refusal) → e.answer ≡ refused w → ⊥) → (fault p e.before e.call ≡ None) × Passes p e e.call
  passed e step no-refusal = go (fault p e.before e.call) refl step
    where
      go : (o : Option PageFault) → fault p e.before e.call ≡ o → Follows p e o → (fault p e.before e.call ≡ None) × Passes p e e.call
      go None w h = (w, h)
      go (Some f) w h = absurd (no-refusal _ h.why)

  -- a call that is refused leaves marking and cells
  pub refused_keeps : (e : Event) (w : Refusal) → Step p e → e.answer ≡ refused w → e.after ≡ e.before
  refused_keeps e w step a = go (fault p e.before e.call) step
    where
      not_done : {b : Buffers} {t : State} → Leaves p e done b t → ⊥
      not_done l = not_refused_done w (sym a ∙ l.answers)

      decoded : {b : List ℕ → Buffers} {t : List ℕ → State} → Decodes p e b t → e.after ≡ e.before
      decoded (unfound f u h) = h.kept
      decoded (found xs f l) = absurd (not_refused_counted w _ _ (sym a ∙ l.answers))

      by_call : (c : Call) → Passes p e c → e.after ≡ e.before
      by_call (write b) h = absurd (not_done h.1)
      by_call (mark column) h = absurd (not_done h)
      by_call (raise row column amount) h = absurd (not_done h)
      by_call (jolt row column reading) h = absurd (not_done h)
      by_call (read b) h = decoded h
      by_call scrub h = decoded h

      go : (o : Option PageFault) → Follows p e o → e.after ≡ e.before
      go None h = by_call e.call h
      go (Some f) h = h.kept

  -- the books, after the write of the contents b as the levels xs: a levels raised and c scrubbed away since
  pub record Books (b : Buffers) (xs : List ℕ) (s : State) (a c : ℕ) (m : Bool) : Type 0 where
    pub holds : Holds p b xs
    pub size : length s.cells ≡ cell_count p
    pub above : (i : ℕ) → i < cell_count p → dead p s.marking i ≡ false → get_or xs i 0 ≤ get_or s.cells i 0
    pub balance : m ≡ false → a ≡ c + risen p s.marking s.cells xs

  -- the cell of a call that found its place
  touched : (s : State) (row column : ℕ) → placed p s row column ≡ None → (place p row column < cell_count p) × (place p row column % n p ≡ column)
  touched s row column e =
      let a = both_none (handed p s) _ e in
      let c = or_parts (leb p.numbers.rows row) (leb (n p) column) (check_none _ (Place row column) a.1) in
      let hr = leb-false p.numbers.rows row c.0 in let hc = leb-false (n p) column c.1 in
      (omega (arith, mul-add-lt row (n p) column p.numbers.rows hr hc), mod-mul-add row (n p) column hc)

  -- an unmarked cell of a page that is lowered in marked columns
  lowered_alive : (ms xs zs : List ℕ) → zs ≡ lowered p ms xs → (i : ℕ) → i < cell_count p → dead p ms i ≡ false → get_or zs i 0 ≡ get_or xs i 0
  lowered_alive ms xs zs e i l u = ap (λ ws. get_or ws i 0) e ∙ tabled_at (cell_count p) _ i l ∙ ap (λ d. cond d (get_or xs i 0 % q p) (get_or xs i 0)) u

  -- the levels risen are the same
  pub risen_found : (ms ys xs zs : List ℕ) → zs ≡ lowered p ms xs → risen p ms ys zs ≡ risen p ms ys xs
  risen_found ms ys xs zs e = total_same (cell_count p) _ _ (λ i l. like (dead p ms i) (get_or ys i 0) _ _ (lowered_alive ms xs zs e i l))
    where
      like : (d : Bool) (y z x : ℕ) → (d ≡ false → z ≡ x) → cond d 0 (y - z) ≡ cond d 0 (y - x)
      like true y z x h = refl
      like false y z x h = ap (λ v. y - v) (h refl)

  module _ (b : Buffers) (xs : List ℕ) where
    -- a write opens them
    opens : (s t : State) → Holds p b t.cells → t.cells ≡ xs → Books b xs t 0 0 false
    opens s t h e = subst (λ zs. Books b zs t 0 0 false) e (record {
      holds = h;
      size = h.size;
      above = λ i l u. omega arith;
      balance = λ _. omega (arith, total_none (cell_count p) _ (λ i l. none (dead p t.marking i) (get_or t.cells i 0)));
    })
      where
        none : (d : Bool) (x : ℕ) → cond d 0 (x - x) ≡ 0
        none true x = refl
        none false x = omega arith

    module _ (s : State) (a c : ℕ) (m : Bool) (k : Books b xs s a c m) where
      -- a raise adds its amount
      raises : (row column amount : ℕ) → fault p s (raise row column amount) ≡ None
          → Books b xs (record { marking = s.marking; cells = set s.cells (place p row column) (get_or s.cells (place p row column) 0 + amount) }) (a + amount) c m
      raises row column amount none =
          let f = both_none (placed p s row column) _ none in let w = touched s row column f.0 in
          let g = both_none (check (among column s.marking) (Dead row column)) _ f.1 in
          let alive : dead p s.marking (place p row column) ≡ false = ap (λ j. among j s.marking) w.1 ∙ check_none _ (Dead row column) g.0 in
          let i = place p row column in let ys = s.cells in let here : i < length ys = omega (arith, w.0, k.size) in
          let now = get_or-set_same ys i (get_or ys i 0 + amount) 0 here in
          record {
            holds = k.holds;
            size = length-set ys i _ ∙ k.size;
            above = λ j l u. elim (cases_eq j i) [
              | inl e ↦ omega (arith, now, k.above j l u, ap (λ h. get_or (set ys i (get_or ys i 0 + amount)) h 0) e, ap (λ h. get_or ys h 0) e)
              | inr ne ↦ omega (arith, get_or-set_other ys i j (get_or ys i 0 + amount) 0 ne, k.above j l u)
            ];
            balance = λ e. omega (
              arith,
              k.balance e,
              total_raised (cell_count p) i amount
                  (λ j. cond (dead p s.marking j) 0 (get_or ys j 0 - get_or xs j 0))
                  (λ j. cond (dead p s.marking j) 0 (get_or (set ys i (get_or ys i 0 + amount)) j 0 - get_or xs j 0)) w.0
                  (at_unmarked _ alive (get_or xs i 0) (get_or ys i 0) amount now (k.above i w.0 alive))
                  (λ j l ne. ap (λ y. cond (dead p s.marking j) 0 (y - get_or xs j 0)) (get_or-set_other ys i j _ 0 ne)),
            );
          }
        where
          at_unmarked : (d : Bool) → d ≡ false → (x y amount : ℕ) {z : ℕ} → z ≡ y + amount → x ≤ y → cond d 0 (z - x) ≡ cond d 0 (y - x) + amount
          at_unmarked true e x y amount h le = absurd (both_ways true e refl)
          at_unmarked false e x y amount h le = omega arith

      -- a jolt moves a marked cell alone
      jolts : (row column reading : ℕ) → fault p s (jolt row column reading) ≡ None
          → Books b xs (record { marking = s.marking; cells = set s.cells (place p row column) reading }) a c m
      jolts row column reading none =
          let f = both_none (placed p s row column) (check (not (among column s.marking)) (Alive row column)) none in let w = touched s row column f.0 in
          let gone : dead p s.marking (place p row column) ≡ true = ap (λ j. among j s.marking) w.1 ∙ not-false _ (check_none _ (Alive row column) f.1) in
          let i = place p row column in let ys = s.cells in
          let off : (j : ℕ) → dead p s.marking j ≡ false → j ≢ i = λ j u e. both_ways _ u (ap (dead p s.marking) e ∙ gone) in
          record {
            holds = k.holds;
            size = length-set ys i _ ∙ k.size;
            above = λ j l u. omega (arith, get_or-set_other ys i j reading 0 (off j u), k.above j l u);
            balance = λ e. k.balance e ∙ ap (λ t. c + t) (total_same (cell_count p) _ _ (λ j l. same (dead p s.marking j) _ _ _ (λ u. sym (get_or-set_other ys i j reading 0 (off j u)))));
          }
        where
          same : (d : Bool) (x y z : ℕ) → (d ≡ false → y ≡ z) → cond d 0 (y - x) ≡ cond d 0 (z - x)
          same true x y z h = refl
          same false x y z h = ap (λ v. v - x) (h refl)

      -- a mark takes a column out of the books
      marks : (column : ℕ) → Books b xs (record { marking = inserted column s.marking; cells = s.cells }) a c true
      marks column = record {
        holds = k.holds;
        size = k.size;
        above = λ i l u. k.above i l (among_inserted (i % n p) column s.marking u).1;
        balance = λ e. absurd (both_ways true e refl);
      }

      -- a scrub answers what has risen, and takes it away
      scrubs : (zs : List ℕ) → length zs ≡ cell_count p → zs ≡ lowered p s.marking xs
          → Books b xs (record { marking = s.marking; cells = zs }) a (c + risen p s.marking s.cells zs) m
      scrubs zs size e = record {
        holds = k.holds;
        size = size;
        above = λ i l u. omega (arith, alive i l u);
        balance = λ f. omega (
          arith,
          k.balance f,
          risen_found s.marking s.cells xs zs e,
          total_none (cell_count p) (λ i. cond (dead p s.marking i) 0 (get_or zs i 0 - get_or xs i 0)) (λ i l. gone (dead p s.marking i) _ _ (alive i l)),
        );
      }
        where
          alive : (i : ℕ) → i < cell_count p → dead p s.marking i ≡ false → get_or zs i 0 ≡ get_or xs i 0
          alive = lowered_alive s.marking xs zs e

          gone : (d : Bool) (z x : ℕ) → (d ≡ false → z ≡ x) → cond d 0 (z - x) ≡ 0
          gone true z x h = refl
          gone false z x h = omega (arith, h refl)

  module _ (inv : ℕ → ℕ) (laws : RingLaws p.field.ring) (is : Inverses p.field.ring inv) (ps : Points p.field.ring p.field.point)
      (rg : Ranges (q p) p.numbers) where
    -- THE BOOKS OF A RUN
    pub books : {b : Buffers} {xs : List ℕ} {h : List Event} {a c : ℕ} {m : Bool} → Since p b xs h a c m → (start s : State) → Run p start h s → Books b xs s a c m
    books {b} {xs} (wrote {h} {s} {t} {o} e) start u (run, step, eq) =
        let w = passed (event s (write b) done o t) step (λ w z. not_refused_done w (sym z)) in
        subst (λ v. Books b xs v 0 0 false) (sym eq) (opens b xs s t w.1.0.holds e)
    books {b} {xs} (raised {h} {s} {t} {o} {row} {column} {amount} {a} {c} {m} since) start u (run, step, eq) =
        let w = passed (event s (raise row column amount) done o t) step (λ w z. not_refused_done w (sym z)) in
        subst (λ v. Books b xs v (a + amount) c m) (sym (eq ∙ w.1.after_is)) (raises b xs s a c m (books since start s run) row column amount w.0)
    books {b} {xs} (marked {h} {s} {t} {o} {column} {a} {c} {m} since) start u (run, step, eq) =
        let w = passed (event s (mark column) done o t) step (λ w z. not_refused_done w (sym z)) in
        subst (λ v. Books b xs v a c true) (sym (eq ∙ w.1.after_is)) (marks b xs s a c m (books since start s run) column)
    books {b} {xs} (jolted {h} {s} {t} {o} {row} {column} {reading} {a} {c} {m} since) start u (run, step, eq) =
        let w = passed (event s (jolt row column reading) done o t) step (λ w z. not_refused_done w (sym z)) in
        subst (λ v. Books b xs v a c m) (sym (eq ∙ w.1.after_is)) (jolts b xs s a c m (books since start s run) row column reading w.0)
    books {b} {xs} (rejected {h} {s} {t} {o} {x} {w} {a} {c} {m} since) start u (run, step, eq) =
        subst (λ v. Books b xs v a c m) (sym (eq ∙ refused_keeps (event s x (refused w) o t) w step refl)) (books since start s run)
    books {b} {xs} (was_read {h} {s} {t} {o} {v} {d} {k} {a} {c} {m} since) start u (run, step, eq) =
        subst (λ v. Books b xs v a c m) (sym (eq ∙ kept {e = event s (read v) (counted d k) o t} {b = contents p} (passed (event s (read v) (counted d k) o t) step (λ w z. not_refused_counted w d k (sym z))).1)) (books since start s run)
      where
        kept : {e : Event} {b : List ℕ → Buffers} → Decodes p e b (λ xs. e.before) → e.after ≡ e.before
        kept (unfound f z h) = h.kept
        kept (found zs f l) = l.after_is
    books {b} {xs} (scrubbed {h} {s} {t} {o} {d} {k} {a} {c} {m} reach since) start u (run, step, eq) =
        subst (λ v. Books b xs v a (c + k) m) (sym eq) (clean (passed (event s scrub (counted d k) o t) step (λ w z. not_refused_counted w d k (sym z))).1 (books since start s run))
      where
        clean : Decodes p (event s scrub (counted d k) o t) (λ xs. brought scrub) (λ xs. record { marking = s.marking; cells = xs })
            → Books b xs s a c m → Books b xs t a (c + k) m
        clean (unfound f z h) bk = absurd (not_refused_counted _ d k (sym h.why))
        clean (found zs f l) bk =
            let rise : k ≡ risen p s.marking s.cells zs = let w = l.answers in cc in
            subst (λ v. Books b xs v a (c + k) m) (sym l.after_is)
            (subst (λ j. Books b xs (record { marking = s.marking; cells = zs }) a (c + j) m) (sym rise)
            (scrubs b xs s a c m bk zs f.reach.size (found_is p inv laws is ps rg s xs zs reach f)))
