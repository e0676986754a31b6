-- What the code's values mean to the rules.
use Rattle.std.specs.Prelude.{◌≡◌, ℕ, ◌+◌, ◌-◌, ◌*◌, ◌/◌, ◌%◌, ◌<◌, ◌≤◌, true, false, cond, ◌⊎◌, List, length, take, Some, None, Ok, Err, Option, Result, nat_lt, slice_index}
use Rattle.basics.specs.Checks.{check, ◌or_else◌, lowest}
use Rattle.basics.specs.Lists.{row_of}
use Rattle.algebra.specs.Rows.{CloseRow, taken_row, among}
use Rattle.fields.specs.Rings.{RingOps, FieldOps}
use Rattle.fields.specs.Kinds.{order_of, ops_of, generator_of, point_of}
use Rattle.codes.specs.declared.correct.CorrectFault.{CorrectFault}
use Rattle.codes.specs.declared.correct.CorrectFault.TheVariants.{Width, Checks, Marking, Length, Lost}
use Rattle.plans.specs.declared.numbers.Numbers.{Numbers}
use Rattle.plans.specs.declared.plan.Plan.{Plan}
use Rattle.plans.specs.declared.fault.OrderFault.{OrderFault}
use Rattle.plans.specs.declared.fault.OrderFault.TheVariants.{Kind}
use Rattle.plans.specs.Orders.{order_fault, outside, Ranges}
use Rattle.rules.specs.Refusals.{page_refusal}
use Rattle.rules.specs.Pages.{Setup, State, Buffers, q, n, r, cell_count, symbol_count}
use Rattle.rules.specs.Reach.{levels, dead, drift, drifted, risen, drift_fault, RowReach, Found, Unfound}
use Rattle.rules.specs.Calls.{Answer, refused, done, counted, event, read, scrub, brought, reading_fault, Step}
use Rattle.rules.specs.declared.fault.PageFault.{PageFault}

-- the marked columns
abbrev pub marking : Plan → List ℕ
marking p = take p.count p.marked

-- a plan over a field
abbrev pub setup : RingOps → (ℕ → ℕ) → Plan → Setup
setup ring point p = record { field = record { ring = ring; point = point }; numbers = p.numbers }

-- the field of a kind
abbrev pub field_of : ℕ → FieldOps
field_of kind = record { ring = ops_of kind; point = point_of (ops_of kind) (generator_of kind) }

-- a page over it
abbrev pub of_kind : ℕ → Numbers → Setup
of_kind kind numbers = record { field = field_of kind; numbers = numbers }

-- a caller's buffers
abbrev pub buffers : List ℕ → List ℕ → Buffers
buffers symbols heights = record { symbols = symbols; heights = heights }

-- a plan beside cells
abbrev pub state : Plan → List ℕ → State
state p cells = record { marking = marking p; cells = cells }

-- the answer of a call that counts nothing
abbrev pub answered : Result (Unit {0}) PageFault → Answer
answered (Ok _) = done
answered (Err f) = refused (page_refusal f)

-- the answer of a call that counts
abbrev pub counts : Result (ℕ × ℕ) PageFault → Answer
counts (Ok c) = counted c.0 c.1
counts (Err f) = refused (page_refusal f)

-- what an order by a kind number is refused for: the kind, then the numbers
abbrev pub kind_fault : ℕ → Numbers → Option OrderFault
kind_fault kind numbers = check (outside 1 7 kind) Kind or_else order_fault (order_of kind) numbers

-- what holds where nothing stands against a write
pub record FitsWrite (p : Setup) (cells : List ℕ) (b : Buffers) : Type 0 where
  pub ranges : Ranges (q p) p.numbers
  pub cells_fit : length cells ≡ cell_count p
  pub symbols_fit : length b.symbols ≡ symbol_count p
  pub heights_fit : length b.heights ≡ cell_count p
  pub symbols_in : (j : ℕ) → j < symbol_count p → slice_index b.symbols j < q p
  pub heights_in : (i : ℕ) → i < cell_count p → slice_index b.heights i < p.numbers.heights

-- what a write lays at cell i before the check columns are filled: its message symbol, or 0 in a check column
abbrev pub laid_entry : Setup → List ℕ → ℕ → ℕ
laid_entry p symbols i = cond (nat_lt (i % n p) (r p)) 0 (slice_index symbols (i / n p * (n p - r p) + (i % n p - r p)))

-- the level of cell i: height × Q + symbol
abbrev pub level_at : ℕ → List ℕ → List ℕ → ℕ → ℕ
level_at q heights symbols i = slice_index heights i * q + slice_index symbols i

-- every unmarked cell reads a level
pub record Readable (p : Setup) (s : State) : Type 0 where
  pub below : (i : ℕ) → i < length s.cells → dead p s.marking i ≡ false → slice_index s.cells i < levels p

-- the rows below row good are the code rows that are close enough; if it is a row of the page, no code row is close enough to it
pub record CorrectedTo (p : Setup) (ms : List ℕ) (good : ℕ) (xs ys : List ℕ) : Type 0 where
  pub long : length ys ≡ length xs
  pub some : good ≤ p.numbers.rows
  pub before : (k : ℕ) → k < good → CloseRow p.field (r p) ms (taken_row (q p) (row_of (n p) k xs)) (row_of (n p) k ys)
  pub none : good < p.numbers.rows → (cs : List ℕ) → CloseRow p.field (r p) ms (taken_row (q p) (row_of (n p) good xs)) cs → ⊥

-- the row that a fault of correcting names, if it names one
abbrev pub row_lost : CorrectFault → Option ℕ
row_lost Width = None
row_lost Checks = None
row_lost Marking = None
row_lost Length = None
row_lost (Lost k) = Some k

-- how many rows come before the lost one: all, where none is lost
abbrev pub rows_before : Setup → Option ℕ → ℕ
rows_before p None = p.numbers.rows
rows_before p (Some k) = k

-- what is wrong with the drifts of row k, from the symbols in page
abbrev pub row_drift : Setup → List ℕ → List ℕ → List ℕ → ℕ → Option PageFault
row_drift p ms cells page k = drift_fault p ms k (row_of (n p) k cells) (row_of (n p) k page)

-- the level of cell i, from its reading and its corrected symbol: in a marked column the symbol
abbrev pub settled_at : Setup → List ℕ → List ℕ → List ℕ → ℕ → ℕ
settled_at p ms cells page i = cond (dead p ms i) (slice_index page i) (slice_index cells i - drift p (slice_index cells i) (slice_index page i))

-- the readings ys of a row were decoded to the levels xs: these are in reach, and in marked columns symbols
pub record RowFound (p : Setup) (ms ys xs : List ℕ) : Type 0 where
  pub reach : RowReach p ms ys xs
  pub low : (i : ℕ) → i < n p → among i ms ≡ true → slice_index xs i < q p

-- what decoding the cells into the page xs came to
abbrev pub PageDecoded : Setup → State → List ℕ → Result (Unit {0}) PageFault → Type 0
PageDecoded p s xs (Ok _) = Found p s xs
PageDecoded p s xs (Err f) = Unfound p s f

-- the lowest unmarked cell that reads no level
abbrev pub readings_fault : Setup → State → Option PageFault
readings_fault p s = lowest 0 (cell_count p) (reading_fault p s)

-- what looking at the readings, decoding them into the page xs and counting what drifted came to
abbrev pub Recovered : Setup → State → List ℕ → Result (ℕ × ℕ) PageFault → Type 0
Recovered p s xs (Ok c) =
    (readings_fault p s ≡ None) × Found p s xs × (c.0 ≡ drifted p s.marking s.cells xs) × (c.1 ≡ risen p s.marking s.cells xs)
Recovered p s xs (Err f) = (readings_fault p s ≡ Some f) ⊎ ((readings_fault p s ≡ None) × Unfound p s f)

-- what a read answers and leaves
abbrev pub Reads : Setup → State → Buffers → Result (ℕ × ℕ) PageFault → Buffers → Type 0
Reads p s b w u = Step p (event s (read b) (counts w) u s)

-- what a scrub answers, and the cells that it leaves
abbrev pub Scrubs : Setup → State → Result (ℕ × ℕ) PageFault → List ℕ → Type 0
Scrubs p s w zs = Step p (event s scrub (counts w) (brought scrub) (record { marking = s.marking; cells = zs }))
