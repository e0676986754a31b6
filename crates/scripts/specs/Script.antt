-- The lines of a page script, as lists of bytes: what a comment, a word and a number is.
use Rattle.std.specs.Prelude.{ℕ, ◌+◌, ◌-◌, ◌*◌, Bool, cond, ◌&&◌, List, length, Some, None, Option, ◌==◌, nat_le, not, filter}
use Rattle.std.specs.List.{fold, list_all, before_first, slice_split}
use Rattle.std.specs.Char.{is_ascii_digit}

-- the text of a line: what stands before the first #, which starts a comment
abbrev pub text_of : List ℕ → List ℕ
text_of line = before_first (λ b. b == 35) line

-- the words of a line: spaces cut its text, and the parts that are not empty are words
abbrev pub words_of : List ℕ → List (List ℕ)
words_of line = filter (λ w. not (length w == 0)) (slice_split (λ b. b == 32) (text_of line))

-- the number that digits which write v and then the digit d write in decimal
abbrev pub next_value : ℕ → ℕ → ℕ
next_value v d = v * 10 + (d - 48)

-- the number that digits write in decimal
abbrev pub value_of : List ℕ → ℕ
value_of w = fold next_value 0 w

-- digits that write at most 65535
abbrev pub small : List ℕ → Bool
small w = list_all is_ascii_digit w && nat_le (value_of w) 65535

-- the number of a word: it has one to five digits, and is at most 65535
abbrev pub number_of : List ℕ → Option ℕ
number_of w = cond (nat_le 1 (length w) && (nat_le (length w) 5 && small w)) (Some (value_of w)) None
