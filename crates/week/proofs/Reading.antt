-- What an accepted read of a page says, where it gave what was written.
use Rattle.std.proofs.Common.{◌≡◌, ℕ, true, cond, length, get_or, Some, None, Ok, Err, Option, Result, sym, ap, ◌∙◌, subst, ap₂}
use Rattle.std.specs.Result.{OnOk, MatchResult, is_ok}
use Rattle.std.proofs.lemmas.List.FromFn.{length-map-range_with_len}
use Rattle.rules.specs.Pages.{Setup, State, Buffers, Written, tabled, cell_count}
use Rattle.rules.specs.Reach.{dead}
use Rattle.rules.specs.Calls.{event, read, write, done, counted, fault, Follows, Step}
use Rattle.rules.specs.Views.{buffers, answered, Reads}
use Rattle.rules.specs.declared.fault.PageFault.{PageFault}
use Rattle.rules.proofs.Reading.{only_found}
use Rattle.week.specs.Told.{ReadsAs}

-- a value that was passed on
pub passed_on : {T E : Type 0} (G : Type 0) (r : Result T E) (v : T) (Q : E → Type 0) → MatchResult r (λ x. ◌≡◌ {A = Result T G} (Ok v) (Ok x)) Q → true ≡ is_ok r → r ≡ Ok v
passed_on G (Ok x) v Q m e = cc
passed_on G (Err f) v Q m e = absurd cc

pub whatever : {T E : Type 0} (r : Result T E) (P : Type 0) → P → OnOk r P
whatever (Ok x) P h = h
whatever (Err f) P h = tt

-- what was read is what was written, so the page that was found has its contents
module _ (p : Setup) (s : State) (b u w : Buffers) (m d k : ℕ) where
  pub reads_as : Step p (event s (read b) (counted d k) u s) → u.symbols ≡ w.symbols → u.heights ≡ tabled m (λ i. cond (dead p s.marking i) 0 (get_or w.heights i 0)) → ReadsAs p s w
  reads_as step es eh =
      let f = only_found p s s b u d k step in let g = λ (i : ℕ). cond (dead p s.marking i) 0 (get_or w.heights i 0) in
      let n : m ≡ cell_count p = sym (length-map-range_with_len g 0 m) ∙ ap length (sym eh) ∙ ap (λ (c : Buffers). length c.heights) f.2 ∙ length-map-range_with_len _ 0 (cell_count p) in
      (f.0, f.1, sym f.2 ∙ ap₂ buffers es (eh ∙ ap (λ (c : ℕ). tabled c g) n))

-- the same of the code's read
pub told : (p : Setup) (s : State) (b u w : Buffers) (m d k : ℕ) (r : Result (ℕ × ℕ) _) → Reads p s b r u → r ≡ Ok (d, k) → u.symbols ≡ w.symbols
    → u.heights ≡ tabled m (λ i. cond (dead p s.marking i) 0 (get_or w.heights i 0)) → ReadsAs p s w
told p s b u w m d k r step is es eh = reads_as p s b u w m d k (subst (λ x. Reads p s b x u) is step) es eh

-- an accepted write
pub wrote : (p : Setup) (s t : State) (b u : Buffers) (r : Result (Unit {0}) PageFault) → Step p (event s (write b) (answered r) u t) → r ≡ Ok tt → Written p b t.cells
wrote p s t b u r step is = on (fault p s (write b)) (subst (λ x. Step p (event s (write b) (answered x) u t)) is step)
  where
    on : (o : Option PageFault) → Follows p (event s (write b) done u t) o → Written p b t.cells
    on (Some f) w = let h = w.why in absurd cc
    on None w = w.0
