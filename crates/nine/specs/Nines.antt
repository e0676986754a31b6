-- The field of order 9: the number a + 3b stands for a + bt, where t × t = 2, modulo 3.
use Rattle.std.specs.Prelude.{ℕ, ◌+◌, ◌-◌, ◌*◌, ◌/◌, ◌%◌, List, [], ◌∷◌, slice_index}
use Rattle.fields.specs.Rings.{RingOps}
use Rattle.fields.specs.Kinds.{guarded}

-- on elements
abbrev pub minus : ℕ → ℕ
minus a = (3 - a % 3) % 3 + 3 * ((3 - a / 3) % 3)

abbrev pub plus : ℕ → ℕ → ℕ
plus a b = (a % 3 + b % 3) % 3 + 3 * ((a / 3 + b / 3) % 3)

abbrev pub times : ℕ → ℕ → ℕ
times a b = (a % 3 * (b % 3) + 2 * (a / 3 * (b / 3))) % 3 + 3 * ((a % 3 * (b / 3) + a / 3 * (b % 3)) % 3)

-- an argument of 9 or above is taken as 0
abbrev pub nine : RingOps
nine = guarded 9 minus plus times

-- the inverses of 0 to 8
abbrev pub inverses : List ℕ
inverses = 0 ∷ 1 ∷ 2 ∷ 6 ∷ 5 ∷ 4 ∷ 3 ∷ 8 ∷ 7 ∷ []

abbrev pub inverse_of : ℕ → ℕ
inverse_of a = slice_index inverses a

-- the point of column i, the power i of 1 + t
abbrev pub point_of : ℕ → ℕ
point_of i = slice_index (1 ∷ 4 ∷ 6 ∷ 7 ∷ 2 ∷ 8 ∷ 3 ∷ 5 ∷ []) i
