-- The number and the two places of every refusal of a call on a page.
use Rattle.std.specs.Prelude.{ℕ}
use Rattle.plans.specs.declared.fault.Refusal.{Refusal}
use Rattle.plans.specs.Orders.{order_refusal}
use Rattle.plans.specs.Marks.{mark_refusal}
use Rattle.rules.specs.declared.fault.Buffer.{Buffer}
use Rattle.rules.specs.declared.fault.Buffer.TheVariants as buffer
use Rattle.rules.specs.declared.fault.PageFault.{PageFault}
use Rattle.rules.specs.declared.fault.PageFault.TheVariants.{Order, Length, Symbol, Height, Mark, Place, Dead, Alive, Amount, Reading, Lost, Far, Under}

abbrev at : ℕ → ℕ → ℕ → Refusal
at x y z = record { number = x; first = y; second = z }

-- the place that names a buffer
abbrev pub buffer_number : Buffer → ℕ
buffer_number buffer.Cells = 1
buffer_number buffer.Symbols = 2
buffer_number buffer.Heights = 3
buffer_number buffer.Image = 4

-- the places of a cell are its row and its column
abbrev pub page_refusal : PageFault → Refusal
page_refusal (Order f) = order_refusal f
page_refusal (Length b) = at 11 (buffer_number b) 0
page_refusal (Symbol row column) = at 12 row column
page_refusal (Height row column) = at 13 row column
page_refusal (Mark f) = mark_refusal f
page_refusal (Place row column) = at 14 row column
page_refusal (Dead row column) = at 17 row column
page_refusal (Alive row column) = at 18 row column
page_refusal (Amount row column) = at 19 row column
page_refusal (Reading row column) = at 21 row column
page_refusal (Lost row) = at 22 row 0
page_refusal (Far row column) = at 23 row column
page_refusal (Under row column) = at 24 row column
