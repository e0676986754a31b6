-- What one call on a page answers and leaves.
use Rattle.std.specs.Prelude.{◌≡◌, ℕ, ◌+◌, ◌*◌, ◌/◌, ◌%◌, not, ◌&&◌, ◌||◌, List, [], length, Some, None, Option, ◌==◌, nat_le, slice_index, slice_set}
use Rattle.basics.specs.Checks.{check, ◌or_else◌, lowest, told}
use Rattle.algebra.specs.Rows.{among}
use Rattle.plans.specs.declared.fault.Refusal.{Refusal}
use Rattle.plans.specs.Orders.{order_fault}
use Rattle.plans.specs.Marks.{inserted, mark_fault}
use Rattle.rules.specs.Refusals.{page_refusal}
use Rattle.rules.specs.Pages.{Setup, State, Buffers, q, n, cell_count, symbol_count, message_row, message_column, contents, Written}
use Rattle.rules.specs.Reach.{levels, dead, drifted, risen, Found, Unfound}
use Rattle.rules.specs.declared.fault.Buffer.TheVariants.{Cells, Symbols, Heights}
use Rattle.rules.specs.declared.fault.PageFault.{PageFault}
use Rattle.rules.specs.declared.fault.PageFault.TheVariants.{Order, Length, Symbol, Height, Mark, Place, Dead, Alive, Amount, Reading}

-- the six calls on a page and its cells, with what the caller brings
pub data Call : Type 0 where
  write : (b : Buffers) → Call
  mark : (column : ℕ) → Call
  raise : (row column amount : ℕ) → Call
  jolt : (row column reading : ℕ) → Call
  read : (b : Buffers) → Call
  scrub : Call

pub data Answer : Type 0 where
  refused : (why : Refusal) → Answer
  done : Answer
  -- how many cells have drifted, and by how much in all
  counted : (drifted risen : ℕ) → Answer

-- a call with what it came upon, what it answered, and what it left in the caller's buffers, in the marking and in the cells
pub record Event : Type 0 where
  pub before : State
  pub call : Call
  pub answer : Answer
  pub buffers : Buffers
  pub after : State

abbrev pub event : State → Call → Answer → Buffers → State → Event
event s c w b t = record { before = s; call = c; answer = w; buffers = b; after = t }

-- the buffers that a call brings: all but write and read bring none
abbrev pub brought : Call → Buffers
brought (write b) = b
brought (mark column) = record { symbols = []; heights = [] }
brought (raise row column amount) = record { symbols = []; heights = [] }
brought (jolt row column reading) = record { symbols = []; heights = [] }
brought (read b) = b
brought scrub = record { symbols = []; heights = [] }

module _ (p : Setup) where
  -- the page's own numbers, looked at before every call
  unfoldable pub numbers_fault : Option PageFault
  numbers_fault = elim (order_fault (q p) p.numbers) [ Some f ↦ Some (Order f) | None ↦ None ]

  -- cells of another number than the page has
  abbrev pub cells_fault : State → Option PageFault
  cells_fault s = check (not (length s.cells == cell_count p)) (Length Cells)

  -- what every call on all cells looks at first
  abbrev pub handed : State → Option PageFault
  handed s = numbers_fault or_else cells_fault s

  -- buffers of other lengths, the symbols first
  abbrev pub buffers_fault : Buffers → Option PageFault
  buffers_fault b =
      check (not (length b.symbols == symbol_count p)) (Length Symbols)
      or_else check (not (length b.heights == cell_count p)) (Length Heights)

  -- message symbol j is the order or above
  abbrev pub symbol_fault : List ℕ → ℕ → Option PageFault
  symbol_fault symbols j = check (nat_le (q p) (slice_index symbols j)) (Symbol (message_row p j) (message_column p j))

  -- the height of cell i is the heights or above
  abbrev pub height_fault : List ℕ → ℕ → Option PageFault
  height_fault heights i = check (nat_le p.numbers.heights (slice_index heights i)) (Height (i / n p) (i % n p))

  -- cell i, in an unmarked column, reads no level
  abbrev pub reading_fault : State → ℕ → Option PageFault
  reading_fault s i = check (not (dead p s.marking i) && nat_le (levels p) (slice_index s.cells i)) (Reading (i / n p) (i % n p))

  -- the number of the cell at a row and a column
  abbrev pub place : ℕ → ℕ → ℕ
  place row column = row * n p + column

  -- what every call on one cell looks at first
  abbrev pub placed : State → ℕ → ℕ → Option PageFault
  placed s row column = handed s or_else check (nat_le p.numbers.rows row || nat_le (n p) column) (Place row column)

  -- the checks of a call, in their order, but for what decoding says
  abbrev pub fault : State → Call → Option PageFault
  fault s (write b) =
      handed s or_else buffers_fault b
      or_else lowest 0 (symbol_count p) (symbol_fault b.symbols) or_else lowest 0 (cell_count p) (height_fault b.heights)
  fault s (mark column) = numbers_fault or_else told Mark (mark_fault p.numbers s.marking column)
  fault s (raise row column amount) =
      placed s row column
      or_else check (among column s.marking) (Dead row column)
      or_else check (nat_le (levels p) (slice_index s.cells (place row column))) (Reading row column)
      or_else check (amount == 0 || nat_le (levels p) (slice_index s.cells (place row column) + amount)) (Amount row column)
  fault s (jolt row column reading) = placed s row column or_else check (not (among column s.marking)) (Alive row column)
  fault s (read b) = handed s or_else buffers_fault b or_else lowest 0 (cell_count p) (reading_fault s)
  fault s scrub = handed s or_else lowest 0 (cell_count p) (reading_fault s)

  -- the call is refused by this fault, and marking, cells and buffers are as before
  pub record Refuses (e : Event) (f : PageFault) : Type 0 where
    pub why : e.answer ≡ refused (page_refusal f)
    pub kept : e.after ≡ e.before
    pub buffers_kept : e.buffers ≡ brought e.call

  -- the call answers w, and leaves the buffers b and the state t
  pub record Leaves (e : Event) (w : Answer) (b : Buffers) (t : State) : Type 0 where
    pub answers : e.answer ≡ w
    pub buffers_are : e.buffers ≡ b
    pub after_is : e.after ≡ t

  -- a read or a scrub whose checks passed: what decoding refuses, or what it finds
  pub data Decodes (e : Event) : (List ℕ → Buffers) → (List ℕ → State) → Type 0 where
    unfound : {b : List ℕ → Buffers} {t : List ℕ → State} (f : PageFault) → Unfound p e.before f → Refuses e f → Decodes e b t
    found : {b : List ℕ → Buffers} {t : List ℕ → State} (xs : List ℕ) → Found p e.before xs
        → Leaves e (counted (drifted p e.before.marking e.before.cells xs) (risen p e.before.marking e.before.cells xs)) (b xs) (t xs)
        → Decodes e b t

  -- a call whose checks passed. A write sets all cells, to the one page of levels that has its contents and code rows. A mark adds a
  -- column to the marking. A raise adds to one cell, and a jolt sets one. A read fills the buffers with the contents of the page that
  -- the cells decode to, and a scrub sets the cells to that page
  abbrev pub Passes : Event → Call → Type 0
  Passes e (write b) = Written p b e.after.cells × Leaves e done b (record { marking = e.before.marking; cells = e.after.cells })
  Passes e (mark column) =
      Leaves e done (brought (mark column)) (record { marking = inserted column e.before.marking; cells = e.before.cells })
  Passes e (raise row column amount) =
      Leaves e done (brought (raise row column amount)) (record {
        marking = e.before.marking;
        cells = slice_set e.before.cells (place row column) (slice_index e.before.cells (place row column) + amount);
      })
  Passes e (jolt row column reading) =
      Leaves e done (brought (jolt row column reading)) (record { marking = e.before.marking; cells = slice_set e.before.cells (place row column) reading })
  Passes e (read b) = Decodes e (λ xs. contents p xs) (λ xs. e.before)
  Passes e scrub = Decodes e (λ xs. brought scrub) (λ xs. record { marking = e.before.marking; cells = xs })

  abbrev pub Follows : Event → Option PageFault → Type 0
  Follows e (Some f) = Refuses e f
  Follows e None = Passes e e.call

  -- what one call answers and leaves
  abbrev pub Step : Event → Type 0
  Step e = Follows e (fault e.before e.call)
