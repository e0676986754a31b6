-- Which page of levels cells are in reach of, and why cells are refused that are in reach of none.
use Rattle.std.specs.Prelude.{◌≡◌, ℕ, zero, suc, ◌+◌, ◌-◌, ◌*◌, ◌%◌, ◌<◌, ◌≤◌, Bool, false, cond, not, ◌&&◌, List, length, Some, Option, nat_lt, slice_index}
use Rattle.basics.specs.Checks.{check, ◌or_else◌, lowest}
use Rattle.basics.specs.Lists.{row_of}
use Rattle.algebra.specs.Rows.{CodeRow, CloseRow, among, differing}
use Rattle.rules.specs.Pages.{Setup, State, Buffers, tabled, symbols_of, q, n, r, cell_count}
use Rattle.rules.specs.declared.fault.PageFault.{PageFault}
use Rattle.rules.specs.declared.fault.PageFault.TheVariants.{Lost, Far, Under}

-- f 0 + f 1 + .. over m places
unfoldable pub total : ℕ → (ℕ → ℕ) → ℕ
total zero f = 0
total (suc m) f = total m f + f m

module _ (p : Setup) where
  -- V, how many levels there are
  abbrev pub levels : ℕ
  levels = q p * p.numbers.heights

  -- cell i lies in a marked column
  abbrev pub dead : List ℕ → ℕ → Bool
  dead ms i = among (i % n p) ms

  -- the readings ys of a row, whose marked columns are ms, are in reach of the row of levels xs: the symbols of xs form a code row;
  -- in unmarked columns the reading is a level, and stands above xs by 0 to D; twice the unmarked columns where ys and xs differ,
  -- plus the marked ones, is at most r
  pub record RowReach (ms ys xs : List ℕ) : Type 0 where
    pub columns : length xs ≡ n p
    pub code : CodeRow p.field (r p) (symbols_of (q p) xs)
    pub levels_in : (i : ℕ) → i < n p → slice_index xs i < levels
    pub below : (i : ℕ) → i < n p → among i ms ≡ false → slice_index ys i < levels
    pub risen : (i : ℕ) → i < n p → among i ms ≡ false → slice_index xs i ≤ slice_index ys i
    pub bounded : (i : ℕ) → i < n p → among i ms ≡ false → slice_index ys i ≤ slice_index xs i + p.numbers.drift
    pub few : 2 * differing ms 0 xs ys + length ms ≤ r p

  -- the cells ys are in reach of the page of levels xs: each row is
  pub record PageReach (ms ys xs : List ℕ) : Type 0 where
    pub size : length xs ≡ cell_count p
    pub cells : length ys ≡ cell_count p
    pub rows : (k : ℕ) → k < p.numbers.rows → RowReach ms (row_of (n p) k ys) (row_of (n p) k xs)

  -- the same page with height 0 in marked columns: so pages are compared
  abbrev pub lowered : List ℕ → List ℕ → List ℕ
  lowered ms xs = tabled (cell_count p) (λ i. cond (dead ms i) (slice_index xs i % q p) (slice_index xs i))

  -- the same contents with height 0 in marked columns
  abbrev pub blanked : List ℕ → Buffers → Buffers
  blanked ms b = record { symbols = b.symbols; heights = tabled (cell_count p) (λ i. cond (dead ms i) 0 (slice_index b.heights i)) }

  -- how many unmarked cells ys read above the levels xs, and by how much in all
  abbrev pub drifted : List ℕ → List ℕ → List ℕ → ℕ
  drifted ms ys xs = total (cell_count p) (λ i. cond (dead ms i) 0 (cond (nat_lt (slice_index xs i) (slice_index ys i)) 1 0))

  abbrev pub risen : List ℕ → List ℕ → List ℕ → ℕ
  risen ms ys xs = total (cell_count p) (λ i. cond (dead ms i) 0 (slice_index ys i - slice_index xs i))

  -- the code row cs is close enough to the symbols of the readings ys of a row
  abbrev pub Close : List ℕ → List ℕ → List ℕ → Type 0
  Close ms ys cs = CloseRow p.field (r p) ms (symbols_of (q p) ys) cs

  -- by how much the reading y stands above a level of symbol c: y - c modulo Q, in whole numbers
  abbrev pub drift : ℕ → ℕ → ℕ
  drift y c = (y + (q p - c)) % q p

  -- at column i of row k, the readings ys have drifted from the symbols cs by more than the bound
  abbrev pub far_fault : List ℕ → ℕ → List ℕ → List ℕ → ℕ → Option PageFault
  far_fault ms k ys cs i = check (not (among i ms) && nat_lt p.numbers.drift (drift (slice_index ys i) (slice_index cs i))) (Far k i)

  -- or by more than the reading
  abbrev pub under_fault : List ℕ → ℕ → List ℕ → List ℕ → ℕ → Option PageFault
  under_fault ms k ys cs i = check (not (among i ms) && nat_lt (slice_index ys i) (drift (slice_index ys i) (slice_index cs i))) (Under k i)

  -- why the readings ys of row k cannot have come from levels of the symbols cs: a drift above the bound, at its lowest column; then
  -- a drift above the reading
  abbrev pub drift_fault : List ℕ → ℕ → List ℕ → List ℕ → Option PageFault
  drift_fault ms k ys cs = lowest 0 (n p) (far_fault ms k ys cs) or_else lowest 0 (n p) (under_fault ms k ys cs)

  -- row k, with the readings ys, is refused by this fault: no code row is close enough, or the one that is does not fit the readings
  pub data RowFault (ms : List ℕ) (k : ℕ) (ys : List ℕ) : PageFault → Type 0 where
    none_close : ((cs : List ℕ) → Close ms ys cs → ⊥) → RowFault ms k ys (Lost k)
    not_risen : (f : PageFault) (cs : List ℕ) → Close ms ys cs → drift_fault ms k ys cs ≡ Some f → RowFault ms k ys f

  -- what the cells decode to: the page of levels in reach, with height 0 in marked columns
  pub record Found (s : State) (xs : List ℕ) : Type 0 where
    pub reach : PageReach s.marking s.cells xs
    pub low : xs ≡ lowered s.marking xs

  -- or the refusal of the lowest row that is in reach of no levels
  pub record Unfound (s : State) (f : PageFault) : Type 0 where
    pub row : ℕ
    pub inside : row < p.numbers.rows
    pub earlier : (k : ℕ) → k < row → (xs : List ℕ) × RowReach s.marking (row_of (n p) k s.cells) xs
    pub fault : RowFault s.marking row (row_of (n p) row s.cells) f
