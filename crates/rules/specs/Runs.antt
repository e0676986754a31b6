-- Runs of calls on one page and its cells, and the law that every run keeps.
use Rattle.std.specs.Prelude.{◌≡◌, ℕ, ◌+◌, Bool, true, false, List, [], ◌∷◌, None}
use Rattle.plans.specs.declared.fault.Refusal.{Refusal}
use Rattle.plans.specs.Orders.{order_fault}
use Rattle.rules.specs.Pages.{Setup, State, Buffers, q}
use Rattle.rules.specs.Reach.{PageReach, lowered, blanked}
use Rattle.rules.specs.Calls.{Call, write, mark, raise, jolt, read, scrub, Answer, refused, done, counted, Event, event, buffers_fault, Step}

module _ (p : Setup) where
  -- a run: from the state s the events h, the newest first, lead to the state t. Each event answers and leaves what its call does, and
  -- begins where the one before it ended; nothing else touches marking or cells
  abbrev pub Run : State → List Event → State → Type 0
  Run s [] t = t ≡ s
  Run s (e ∷ h) t = Run s h e.before × Step p e × (t ≡ e.after)

  -- Since b xs h a c m: the last accepted write of the history h, newest first, brought the contents b and set the levels xs. Since
  -- then, just before each accepted scrub, the cells were in reach of xs by the marking of that moment; the amounts of accepted raises
  -- sum to a; the levels risen that accepted scrubs answered sum to c; and m says whether a column was marked
  pub data Since (b : Buffers) (xs : List ℕ) : List Event → ℕ → ℕ → Bool → Type 0 where
    wrote : {h : List Event} {s t : State} {o : Buffers} → t.cells ≡ xs
        → Since b xs (event s (write b) done o t ∷ h) 0 0 false
    marked : {h : List Event} {s t : State} {o : Buffers} {column a c : ℕ} {m : Bool} → Since b xs h a c m
        → Since b xs (event s (mark column) done o t ∷ h) a c true
    raised : {h : List Event} {s t : State} {o : Buffers} {row column amount a c : ℕ} {m : Bool} → Since b xs h a c m
        → Since b xs (event s (raise row column amount) done o t ∷ h) (a + amount) c m
    jolted : {h : List Event} {s t : State} {o : Buffers} {row column reading a c : ℕ} {m : Bool} → Since b xs h a c m
        → Since b xs (event s (jolt row column reading) done o t ∷ h) a c m
    was_read : {h : List Event} {s t : State} {o v : Buffers} {d k a c : ℕ} {m : Bool} → Since b xs h a c m
        → Since b xs (event s (read v) (counted d k) o t ∷ h) a c m
    scrubbed : {h : List Event} {s t : State} {o : Buffers} {d k a c : ℕ} {m : Bool} → PageReach p s.marking s.cells xs → Since b xs h a c m
        → Since b xs (event s scrub (counted d k) o t ∷ h) a (c + k) m
    rejected : {h : List Event} {s t : State} {o : Buffers} {x : Call} {w : Refusal} {a c : ℕ} {m : Bool} → Since b xs h a c m
        → Since b xs (event s x (refused w) o t ∷ h) a c m

  -- a read under the marking ms that answers w and leaves the buffers u, of the contents b: it is accepted, and gives the symbols that
  -- were written, and the heights with 0 in marked columns. With a levels raised since the write, c of them scrubbed away, and m saying
  -- whether a column was marked, the books balance: what was raised is what was scrubbed away and what this read answers as risen
  pub record ReadsBack (ms : List ℕ) (w : Answer) (u b : Buffers) (a c : ℕ) (m : Bool) : Type 0 where
    pub drift_count : ℕ
    pub rise : ℕ
    pub accepted : w ≡ counted drift_count rise
    pub written : u ≡ blanked p ms b
    pub balance : m ≡ false → a ≡ c + rise

  -- what every run keeps
  pub record Kept : Type 0 where
    -- never two pages: under one marking the cells, whatever they read, are in reach of no two different pages of levels
    pub one_page : (ms ys xs zs : List ℕ) → PageReach p ms ys xs → PageReach p ms ys zs → lowered p ms xs ≡ lowered p ms zs
    -- what was written is read, and the books balance: from any marking and any cells, after any run whose last accepted write set the
    -- levels xs, where the cells are now in reach of xs, by every read with fitting buffers
    pub reads_back : (start s t : State) (h : List Event) (b o u : Buffers) (xs : List ℕ) (w : Answer) (a c : ℕ) (m : Bool)
        → Run start h s → Since b xs h a c m → PageReach p s.marking s.cells xs → buffers_fault p o ≡ None
        → Step p (event s (read o) w u t) → ReadsBack s.marking w u b a c m

  -- the law of runs: it holds of every page whose numbers are in order
  abbrev pub RunLaw : Type 0
  RunLaw = order_fault (q p) p.numbers ≡ None → Kept
