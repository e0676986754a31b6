-- Values set at places of a row.
use Rattle.std.proofs.Common.{◌≡◌, ℕ, ◌+◌, ◌<◌, true, List, length, get_or, set, sym, ◌∙◌, arith, length-set, get_or-set_other, get_or-set_same}
use native.Mathlib.Decide.{ℕ_discrete}
use Rattle.algebra.specs.Rows.{rising}
use Rattle.algebra.proofs.Columns.{rising_apart}
use Rattle.codes.specs.Fill.{Placed}

-- one more column
pub placed_more : (n b m : ℕ) (ms vs xs ys : List ℕ) → rising b m ms ≡ true → n < length ms → get_or ms n 0 < length xs → Placed n ms vs xs ys
    → Placed (n + 1) ms vs xs (set ys (get_or ms n 0) (get_or vs n 0))
placed_more n b m ms vs xs ys e h g u = record {
  long = length-set _ _ _ ∙ u.long;
  at = λ k q. at k q (ℕ_discrete k n);
  off = λ i f. get_or-set_other ys (get_or ms n 0) i _ 0 (λ s. f n (omega arith) (sym s)) ∙ u.off i (λ k q. f k (omega arith));
}
  where
    at : (k : ℕ) → k < n + 1 → Dec (k ≡ n) → get_or (set ys (get_or ms n 0) (get_or vs n 0)) (get_or ms k 0) 0 ≡ get_or vs k 0
    at k q (yes p) = let i = u.long in rw p (get_or-set_same ys (get_or ms n 0) (get_or vs n 0) 0 (omega arith))
    at k q (no p) = get_or-set_other ys (get_or ms n 0) (get_or ms k 0) _ 0 (λ s. p (rising_apart b m ms e k n (omega arith) h s)) ∙ u.at k (omega arith)
