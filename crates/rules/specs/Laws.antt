-- What reading rests on, whatever the cells of an ordered page read.
use Rattle.std.specs.Prelude.{◌≡◌, ℕ, false, List, length, None, slice_index}
use Rattle.plans.specs.Orders.{order_fault}
use Rattle.rules.specs.Pages.{Setup, State, Buffers, q, cell_count, contents}
use Rattle.rules.specs.Reach.{dead, PageReach, lowered, blanked, drifted, risen, Found, Unfound}
use Rattle.rules.specs.Calls.{Answer, counted, read, event, buffers_fault, Step}
use Rattle.rules.specs.declared.fault.PageFault.{PageFault}

module _ (p : Setup) where
  -- two states that read the same but for marked cells
  pub record Alike (s t : State) : Type 0 where
    pub marks : t.marking ≡ s.marking
    pub long : length t.cells ≡ length s.cells
    pub same : (i : ℕ) → dead p s.marking i ≡ false → slice_index t.cells i ≡ slice_index s.cells i

  -- an answer and buffers that are the page xs: its contents with height 0 in marked columns, and how far the cells have drifted
  pub record ReadsAs (s : State) (xs : List ℕ) (w : Answer) (u : Buffers) : Type 0 where
    pub pair : w ≡ counted (drifted p s.marking s.cells (lowered p s.marking xs)) (risen p s.marking s.cells (lowered p s.marking xs))
    pub filled : u ≡ blanked p s.marking (contents p xs)

  pub record Readings : Type 0 where
    -- never two pages: under one marking the cells are in reach of no two different ones
    pub one_page : (ms ys xs zs : List ℕ) → PageReach p ms ys xs → PageReach p ms ys zs → lowered p ms xs ≡ lowered p ms zs
    -- where the cells are in reach of a page, a read with fitting buffers is accepted and answers it
    pub reads : (s t : State) (b u : Buffers) (w : Answer) (xs : List ℕ) → PageReach p s.marking s.cells xs → buffers_fault p b ≡ None
        → Step p (event s (read b) w u t) → ReadsAs s xs w u
    -- and a read is accepted only then
    pub only_reads : (s t : State) (b u : Buffers) (d k : ℕ) → Step p (event s (read b) (counted d k) u t) → (xs : List ℕ) × PageReach p s.marking s.cells xs
    -- where they are in reach of none, one fault is the refusal
    pub one_fault : (s : State) → length s.cells ≡ cell_count p → (f g : PageFault) → Unfound p s f → Unfound p s g → f ≡ g
    -- what marked cells read changes nothing: not what is found, and not what is refused
    pub unseen_found : (s t : State) → Alike s t → (xs : List ℕ) → Found p s xs → Found p t xs
    pub unseen_refused : (s t : State) → Alike s t → length s.cells ≡ cell_count p → (f : PageFault) → Unfound p s f → Unfound p t f

  -- it holds of every page whose numbers are in order
  abbrev pub ReadingLaw : Type 0
  ReadingLaw = order_fault (q p) p.numbers ≡ None → Readings
