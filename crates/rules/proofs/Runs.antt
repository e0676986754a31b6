-- The law of runs.
use Rattle.std.proofs.Common.{ℕ, ◌+◌, Bool, List, sym, ap, ◌∙◌, subst}
use Rattle.fields.specs.Rings.{RingLaws, Inverses, Points}
use Rattle.plans.specs.Orders.{Ranges}
use Rattle.plans.proofs.Ranged.{ranges}
use Rattle.rules.specs.Pages.{Setup, State, Buffers, q, contents}
use Rattle.rules.specs.Reach.{PageReach, blanked, drifted, risen}
use Rattle.rules.specs.Calls.{Answer, read, event, Decodes, unfound, found, Follows}
use Rattle.rules.specs.Runs.{ReadsBack, RunLaw}
use Rattle.rules.proofs.Reaching.{one_page, found_is, never_unfound, contents_lowered}
use Rattle.rules.proofs.Reading.{read_passes}
use Rattle.rules.proofs.Books.{Books, books, risen_found}

module _ (p : Setup) (inv : ℕ → ℕ) (laws : RingLaws p.field.ring) (is : Inverses p.field.ring inv) (ps : Points p.field.ring p.field.point) where
  -- what a read whose checks passed answers, where the books stand so
  reads_back : Ranges (q p) p.numbers → (s t : State) (o u b : Buffers) (xs : List ℕ) (w : Answer) (a c : ℕ) (m : Bool)
      → PageReach p s.marking s.cells xs → Books p b xs s a c m
      → Decodes p (event s (read o) w u t) (λ xs. contents p xs) (λ xs. s) → ReadsBack p s.marking w u b a c m
  reads_back rg s t o u b xs w a c m h k (unfound f z l) = absurd (never_unfound p inv laws is ps rg s xs h f z)
  reads_back rg s t o u b xs w a c m h k (found zs f l) =
      let e = found_is p inv laws is ps rg s xs zs h f in
      record {
        drift_count = drifted p s.marking s.cells zs;
        rise = risen p s.marking s.cells zs;
        accepted = l.answers;
        written = l.buffers_are ∙ ap (contents p) e ∙ contents_lowered p inv laws is ps rg s.marking xs ∙ ap (blanked p s.marking) (sym k.holds.has);
        balance = λ z. k.balance z ∙ ap (λ v. c + v) (sym (risen_found p s.marking s.cells xs zs e));
      }

  -- the law, from the rules of a field alone
  pub run_law : RunLaw p
  run_law passes =
      let rg = ranges (q p) p.numbers laws.low passes in
      record {
        one_page = one_page p inv laws is ps rg;
        reads_back = λ start s t h b o u xs w a c m run since reach fits step.
            reads_back rg s t o u b xs w a c m reach (books p inv laws is ps rg since start s run)
            (subst (Follows p (event s (read o) w u t)) (read_passes p inv laws is ps passes s o xs reach fits) step);
      }
