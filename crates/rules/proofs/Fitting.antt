-- What holds where nothing stands against a write, and where the readings are levels.
use Rattle.std.proofs.Common.{◌≡◌, ℕ, ◌-◌, ◌≤◌, Bool, not, ◌&&◌, leb, List, length, get_or, None, sym, ap, ◌∙◌, ap₂, arith}
use Rattle.std.proofs.lemmas.Nat.{mul-le}
use Rattle.std.proofs.lemmas.Bool.{leb-false}
use Rattle.basics.specs.Checks.{lowest, ◌or_else◌}
use Rattle.basics.proofs.Checking.{check_none, lowest_none, others_pass}
use Rattle.plans.specs.Orders.{Ranges}
use Rattle.rules.specs.Pages.{Setup, State, Buffers, q, cell_count, symbol_count}
use Rattle.rules.specs.Calls.{write, fault, handed, buffers_fault, symbol_fault, height_fault, reading_fault}
use Rattle.rules.specs.Reach.{levels}
use Rattle.rules.specs.Views.{FitsWrite, Readable, readings_fault}

module _ (p : Setup) (g : Ranges (q p) p.numbers) where
  -- a page has few cells, and fewer symbols
  pub few_cells : cell_count p ≤ 8192
  few_cells = mul-le p.numbers.rows p.numbers.columns 32 256 g.rows_few g.columns_few

  pub few_symbols : symbol_count p ≤ 8192
  few_symbols = mul-le p.numbers.rows (p.numbers.columns - p.numbers.checks) 32 256 g.rows_few (omega (arith, g.columns_few))

  pub fits_write : (cells : List ℕ) (b : Buffers) → length cells ≡ cell_count p → length b.symbols ≡ symbol_count p → length b.heights ≡ cell_count p
      → lowest 0 (length b.symbols) (symbol_fault p b.symbols) ≡ None → lowest 0 (length b.heights) (height_fault p b.heights) ≡ None → FitsWrite p cells b
  fits_write cells b c s h e f = record {
    ranges = g;
    cells_fit = c;
    symbols_fit = s;
    heights_fit = h;
    symbols_in = λ j i. leb-false (q p) _ (check_none _ _ (lowest_none (symbol_fault p b.symbols) (length b.symbols) 0 j e (omega arith) (omega arith)));
    heights_in = λ j i. leb-false p.numbers.heights _ (check_none _ _ (lowest_none (height_fault p b.heights) (length b.heights) 0 j f (omega arith) (omega arith)));
  }

-- where no reading is refused, every unmarked cell reads a level
pub readable : (p : Setup) (s : State) → length s.cells ≡ cell_count p → readings_fault p s ≡ None → Readable p s
readable p s c e = record {
  below = λ i l u. leb-false (levels p) _ (ap (λ (t : Bool). not t && leb (levels p) (get_or s.cells i 0)) (sym u)
      ∙ check_none _ _ (lowest_none (reading_fault p s) (cell_count p) 0 i e (omega arith) (omega arith)));
}

-- where the lengths fit, symbols and heights decide
pub write_fault : (p : Setup) (s : State) (b : Buffers) → handed p s ≡ None → buffers_fault p b ≡ None → length b.symbols ≡ symbol_count p → length b.heights ≡ cell_count p
    → fault p s (write b) ≡ (lowest 0 (length b.symbols) (symbol_fault p b.symbols) or_else lowest 0 (length b.heights) (height_fault p b.heights))
write_fault p s b e f m k =
    others_pass (handed p s) (buffers_fault p b) _ e f
    ∙ ap₂ (λ (x y : ℕ). lowest 0 x (symbol_fault p b.symbols) or_else lowest 0 y (height_fault p b.heights)) (sym m) (sym k)
