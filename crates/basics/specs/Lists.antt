-- Lists of numbers that are worked over in place, and the rows of a page.
use Rattle.std.specs.Prelude.{◌≡◌, ℕ, ◌*◌, ◌<◌, ◌≤◌, List, length, take, drop, slice_index}

-- zs is xs with the entries at the places k below n replaced by g k
pub record Updated (n : ℕ) (g : ℕ → ℕ) (xs zs : List ℕ) : Type 0 where
  pub long : length zs ≡ length xs
  pub new : (k : ℕ) → k < n → k < length xs → slice_index zs k ≡ g k
  pub old : (k : ℕ) → n ≤ k → slice_index zs k ≡ slice_index xs k

-- row k of n columns
abbrev pub row_of : ℕ → ℕ → List ℕ → List ℕ
row_of n k xs = take n (drop (k * n) xs)
