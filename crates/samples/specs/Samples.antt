-- The worked samples: code rows, cells, products, orders and readings that were worked out by hand.
use Rattle.std.specs.Prelude.{◌≡◌, ℕ, List, [], ◌∷◌, drop, Some, None}
use Rattle.fields.specs.Kinds.{ops_of, order_of}
use Rattle.algebra.specs.Rows.{CodeRow}
use Rattle.plans.specs.Orders.{order_fault}
use Rattle.plans.specs.declared.numbers.Numbers.{Numbers}
use Rattle.plans.specs.declared.fault.OrderFault.TheVariants.{Columns, Checks, Heights, Drift}
use Rattle.rules.specs.Pages.{Setup, Buffers, Holds, contents}
use Rattle.rules.specs.Reach.{drifted, risen, Found, Unfound}
use Rattle.rules.specs.Refusals.{page_refusal}
use Rattle.rules.specs.Views.{field_of, of_kind as page}
use Rattle.rules.specs.Calls.{Call, raise, scrub, Answer, refused, done, counted, event, brought, Step}
use Rattle.rules.specs.declared.fault.PageFault.{PageFault}
use Rattle.rules.specs.declared.fault.PageFault.TheVariants.{Lost, Far, Under}

-- n columns, r checks, R rows, H heights, drift bound D
abbrev pub numbers : ℕ → ℕ → ℕ → ℕ → ℕ → Numbers
numbers n r rows h d = record { columns = n; checks = r; rows = rows; heights = h; drift = d }

-- a page of kind 1 with n = 4, r = 2, one row, H = 15 and drift bound D
abbrev pub small : ℕ → Setup
small d = page 1 (numbers 4 2 1 15 d)

-- the message symbols ms give the code row cs: it is a code row with r checks, and holds them after its check columns
pub record Gives (k r : ℕ) (ms cs : List ℕ) : Type 0 where
  pub code : CodeRow (field_of k) r cs
  pub messages : drop r cs ≡ ms

-- with the columns ms marked, the readings ys decode to the levels xs, whose contents are b; d cells have drifted, by k in all
pub record ReadsTo (p : Setup) (ms ys xs : List ℕ) (b : Buffers) (d k : ℕ) : Type 0 where
  pub found : Found p (record { marking = ms; cells = ys }) xs
  pub filled : contents p xs ≡ b
  pub drifted_by : drifted p ms ys xs ≡ d
  pub risen_by : risen p ms ys xs ≡ k

-- with the columns ms marked, the readings ys are refused by the fault f, whose refusal has this number and these places
pub record RefusedBy (p : Setup) (ms ys : List ℕ) (f : PageFault) (number row column : ℕ) : Type 0 where
  pub unfound : Unfound p (record { marking = ms; cells = ys }) f
  pub why : page_refusal f ≡ record { number = number; first = row; second = column }

-- with the columns ms marked, a call on the cells ys that brings no buffers answers w and leaves the cells zs
abbrev pub Answers : Setup → List ℕ → List ℕ → Call → Answer → List ℕ → Type 0
Answers p ms ys c w zs = Step p (event (record { marking = ms; cells = ys }) c w (brought c) (record { marking = ms; cells = zs }))

pub record Samples : Type 0 where
  -- kind 1, n = 4, r = 2: symbols 1, 0 give the code row 10, 5, 1, 0; symbols 0, 1 give 1, 2, 0, 1
  pub first_row : Gives 1 2 (1 ∷ 0 ∷ []) (10 ∷ 5 ∷ 1 ∷ 0 ∷ [])
  pub second_row : Gives 1 2 (0 ∷ 1 ∷ []) (1 ∷ 2 ∷ 0 ∷ 1 ∷ [])
  -- with one row, H = 15 and heights 2, 0, 14, 3 the cells of symbols 1, 0 are 44, 5, 239, 51
  pub cells : Holds (small 16) (record { symbols = 1 ∷ 0 ∷ []; heights = 2 ∷ 0 ∷ 14 ∷ 3 ∷ [] }) (44 ∷ 5 ∷ 239 ∷ 51 ∷ [])
  -- kind 5, n = 3, r = 2, H = 16: the cells of symbol 1 with heights 0 are 8, 6, 1
  pub binary_cells : Holds (page 5 (numbers 3 2 1 16 15)) (record { symbols = 1 ∷ []; heights = 0 ∷ 0 ∷ 0 ∷ [] }) (8 ∷ 6 ∷ 1 ∷ [])
  -- in kind 5, 2 × 9 = 1
  pub binary_product : (ops_of 5).mul 2 9 ≡ 1
  -- in kind 1, n = 16 is ordered and 17 is not; H = 240 is and 241 is not; D = 17 and n = r are not
  pub columns_ordered : order_fault (order_of 1) (numbers 16 2 1 15 16) ≡ None
  pub columns_refused : order_fault (order_of 1) (numbers 17 2 1 15 16) ≡ Some Columns
  pub heights_ordered : order_fault (order_of 1) (numbers 4 2 1 240 16) ≡ None
  pub heights_refused : order_fault (order_of 1) (numbers 4 2 1 241 16) ≡ Some Heights
  pub drift_refused : order_fault (order_of 1) (numbers 4 2 1 15 17) ≡ Some Drift
  pub checks_refused : order_fault (order_of 1) (numbers 4 4 1 15 16) ≡ Some Checks
  -- the cells 44, 5, 239, 51 with D = 16, column 2 risen by 15 to 254: the page is found, and the pair 1, 15
  pub risen_read : ReadsTo (small 16) [] (44 ∷ 5 ∷ 254 ∷ 51 ∷ []) (44 ∷ 5 ∷ 239 ∷ 51 ∷ [])
      (record { symbols = 1 ∷ 0 ∷ []; heights = 2 ∷ 0 ∷ 14 ∷ 3 ∷ [] }) 1 15
  -- with D = 15, column 1 risen by 16 to 21: refused by 23 at 0, 1
  pub far_refused : RefusedBy (small 15) [] (44 ∷ 21 ∷ 239 ∷ 51 ∷ []) (Far 0 1) 23 0 1
  -- columns 0 and 1 risen by 1, to 45 and 6: no code row is close enough, refused by 22 at row 0
  pub lost_refused : RefusedBy (small 16) [] (45 ∷ 6 ∷ 239 ∷ 51 ∷ []) (Lost 0) 22 0 0
  -- columns 0 and 1 risen by 1 and 9, to 45 and 14, out of reach of what was written: the page 45, 14, 234, 51 is found, and the pair 1, 5
  pub other_read : ReadsTo (small 16) [] (45 ∷ 14 ∷ 239 ∷ 51 ∷ []) (45 ∷ 14 ∷ 234 ∷ 51 ∷ [])
      (record { symbols = 13 ∷ 0 ∷ []; heights = 2 ∷ 0 ∷ 13 ∷ 3 ∷ [] }) 1 5
  -- column 1 fallen to 4, a drift of 16 that is above the reading: refused by 24 at 0, 1
  pub under_refused : RefusedBy (small 16) [] (44 ∷ 4 ∷ 239 ∷ 51 ∷ []) (Under 0 1) 24 0 1
  -- columns 0 and 3 marked, where 999 and 7 are read: the symbols are found, with height 0 there, and the pair 0, 0
  pub marked_read : ReadsTo (small 16) (0 ∷ 3 ∷ []) (999 ∷ 5 ∷ 239 ∷ 7 ∷ []) (10 ∷ 5 ∷ 239 ∷ 0 ∷ [])
      (record { symbols = 1 ∷ 0 ∷ []; heights = 0 ∷ 0 ∷ 14 ∷ 0 ∷ [] }) 0 0
  -- column 0 marked, column 1 risen by 1 to 6: no code row is close enough, refused by 22 at row 0
  pub marked_refused : RefusedBy (small 16) (0 ∷ []) (44 ∷ 6 ∷ 239 ∷ 51 ∷ []) (Lost 0) 22 0 0
  -- kind 5, n = 3, r = 2, one row, H = 16, D = 15, column 1 risen by 3 to 9: the page 8, 6, 1 is found, and the pair 1, 3
  pub binary_read : ReadsTo (page 5 (numbers 3 2 1 16 15)) [] (8 ∷ 9 ∷ 1 ∷ []) (8 ∷ 6 ∷ 1 ∷ [])
      (record { symbols = 1 ∷ []; heights = 0 ∷ 0 ∷ 0 ∷ [] }) 1 3
  -- in the cells 44, 5, 239, 51 column 2 is raised by 15, to 254, which reads back as above; by 16 it would rise above 254, the highest
  -- level: refused by 19 at 0, 2, and no cell moves
  pub raised : Answers (small 16) [] (44 ∷ 5 ∷ 239 ∷ 51 ∷ []) (raise 0 2 15) done (44 ∷ 5 ∷ 254 ∷ 51 ∷ [])
  pub raise_refused : Answers (small 16) [] (44 ∷ 5 ∷ 239 ∷ 51 ∷ []) (raise 0 2 16) (refused (record { number = 19; first = 0; second = 2 }))
      (44 ∷ 5 ∷ 239 ∷ 51 ∷ [])
  -- columns 0 and 3 marked, where 999 and 7 are read: a scrub answers the pair 0, 0 and leaves 10, 5, 239, 0
  pub scrubbed : Answers (small 16) (0 ∷ 3 ∷ []) (999 ∷ 5 ∷ 239 ∷ 7 ∷ []) scrub (counted 0 0) (10 ∷ 5 ∷ 239 ∷ 0 ∷ [])
