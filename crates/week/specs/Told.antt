-- What a day of the week that ends well comes to.
use Rattle.std.specs.Prelude.{◌≡◌, List, ℕ}
use Rattle.rules.specs.Pages.{Setup, State, Buffers, contents}
use Rattle.rules.specs.Reach.{Found, blanked}

-- the cells decode to levels whose contents are b, but for the heights in marked columns, which are 0
abbrev pub ReadsAs : Setup → State → Buffers → Type 0
ReadsAs p s b = (xs : List ℕ) × Found p s xs × (contents p xs ≡ blanked p s.marking b)
