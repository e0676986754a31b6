-- What the words of a line ask for, and what is wrong with them where they ask for nothing.
use Rattle.std.specs.Prelude.{◌≡◌, ℕ, ◌+◌, ◌-◌, ◌<◌, ◌≤◌, Bool, true, false, List, [], ◌∷◌, map, length, drop, Some, None, Ok, Err, vec_items, codes, Option, Result, ◌==◌, ◌≢◌, ◌⊎◌, slice_index_or, count_by}
use Rattle.std.specs.List.{position_or_len, before_first, after_first}
use Rattle.std.specs.Borrow.{Bor}
use Rattle.hex.specs.Hex.{decode_of}
use Rattle.scripts.specs.Script.{number_of}
use Rattle.scripts.specs.declared.command.Command.{Command}
use Rattle.scripts.specs.declared.command.Command.TheVariants as command
use Rattle.scripts.specs.declared.command.Name.{Name}
use Rattle.scripts.specs.declared.command.Name.TheVariants as name
use Rattle.scripts.specs.declared.command.LineFault.{LineFault}
use Rattle.scripts.specs.declared.command.LineFault.TheVariants.{NoCommand, Form, NoNumber, NoByte, NoBytes, NoPage, NoImage, NoPlace, NoMemory}

-- what lent words hold
abbrev pub texts : List (Bor (List ℕ)) → List (List ℕ)
texts ws = map (λ w. w.now) ws

-- these words are numbers, and which they are
abbrev pub AreNumbers : List (List ℕ) → List ℕ → Type 0
AreNumbers ws ns = map number_of ws ≡ map Some ns

-- a slash alone
abbrev pub slash_here : List ℕ → Bool
slash_here [] = false
slash_here (b ∷ []) = b == 47
slash_here (b ∷ c ∷ w) = false

-- after the first word there is one slash
abbrev pub OneSlash : List (List ℕ) → Type 0
OneSlash ws = count_by slash_here (drop 1 ws) ≡ 1

-- where the first slash among lent words stands, or that there is none
abbrev pub FirstSlash : List (Bor (List ℕ)) → Option ℕ → Type 0
FirstSlash ws None = count_by slash_here (texts ws) ≡ 0
FirstSlash ws (Some i) = (i < length ws) × (i ≡ position_or_len slash_here (texts ws))

-- these words stand before the one slash among words, and these after it
pub record InTwo (ws before after : List (List ℕ)) : Type 0 where
  pub one : count_by slash_here ws ≡ 1
  pub front : before ≡ before_first slash_here ws
  pub back : after ≡ after_first slash_here ws

-- the word by which a command is called
abbrev pub word_of : Name → List ℕ
word_of name.Order = codes "order"
word_of name.Cells = codes "cells"
word_of name.Write = codes "write"
word_of name.Mark = codes "mark"
word_of name.Raise = codes "raise"
word_of name.Jolt = codes "jolt"
word_of name.Read = codes "read"
word_of name.Scrub = codes "scrub"
word_of name.Save = codes "save"
word_of name.Image = codes "image"
word_of name.Poke = codes "poke"
word_of name.Open = codes "open"
word_of name.HostCheck = codes "hostcheck"
word_of name.HostScrub = codes "hostscrub"

-- the first word of a line is that of this command
abbrev pub Begins : List (List ℕ) → Name → Type 0
Begins ws n = (0 < length ws) × (slice_index_or ws 0 [] ≡ word_of n)

-- the words of a line are too few or too many for this command, or its slash is not there
abbrev pub Misshaped : List (List ℕ) → Name → Type 0
Misshaped ws name.Order = length ws ≢ 7
Misshaped ws name.Cells = ⊥
Misshaped ws name.Write = OneSlash ws → ⊥
Misshaped ws name.Mark = length ws ≢ 2
Misshaped ws name.Raise = length ws ≢ 4
Misshaped ws name.Jolt = length ws ≢ 4
Misshaped ws name.Read = (length ws ≢ 1) × (length ws ≢ 3)
Misshaped ws name.Scrub = length ws ≢ 1
Misshaped ws name.Save = length ws ≢ 1
Misshaped ws name.Image = (length ws ≢ 1) × (length ws ≢ 2)
Misshaped ws name.Poke = length ws ≢ 3
Misshaped ws name.Open = length ws ≢ 1
Misshaped ws name.HostCheck = length ws ≢ 1
Misshaped ws name.HostScrub = length ws ≢ 1

-- a line of this command and these numbers
abbrev pub Line : List (List ℕ) → Name → List ℕ → Type 0
Line ws n ns = Begins ws n × AreNumbers (drop 1 ws) ns

-- the words of a line ask for this command
abbrev pub Asks : List (List ℕ) → Command → Type 0
Asks ws (command.Order kind n) = Line ws name.Order (kind ∷ n.columns ∷ n.checks ∷ n.rows ∷ n.heights ∷ n.drift ∷ [])
Asks ws command.Cells = Line ws name.Cells []
Asks ws (command.SetCells cells) = Line ws name.Cells (vec_items cells) × (1 < length ws)
Asks ws (command.Write symbols heights) =
    Begins ws name.Write
    × OneSlash ws
    × AreNumbers (before_first slash_here (drop 1 ws)) (vec_items symbols)
    × AreNumbers (after_first slash_here (drop 1 ws)) (vec_items heights)
Asks ws (command.Mark column) = Line ws name.Mark (column ∷ [])
Asks ws (command.Raise row column amount) = Line ws name.Raise (row ∷ column ∷ amount ∷ [])
Asks ws (command.Jolt row column reading) = Line ws name.Jolt (row ∷ column ∷ reading ∷ [])
Asks ws command.Read = Line ws name.Read []
Asks ws (command.ReadInto symbols heights) = Line ws name.Read (symbols ∷ heights ∷ [])
Asks ws command.Scrub = Line ws name.Scrub []
Asks ws command.Save = Line ws name.Save []
Asks ws command.Image = Line ws name.Image []
Asks ws (command.SetImage bytes) = Begins ws name.Image × (length ws ≡ 2) × (decode_of (slice_index_or ws 1 []) ≡ Ok (vec_items bytes))
Asks ws (command.Poke at byte) = Line ws name.Poke (at ∷ byte ∷ [])
Asks ws command.Open = Line ws name.Open []
Asks ws command.HostCheck = Line ws name.HostCheck []
Asks ws command.HostScrub = Line ws name.HostScrub []

-- the fault of some words of a line, of which the first has this place, counted from 1: it names one that is no number; or there was no memory
abbrev pub BadNumber : ℕ → List (List ℕ) → LineFault → Type 0
BadNumber first ws (NoNumber place) = (first ≤ place) × (place < first + length ws) × (number_of (slice_index_or ws (place - first) []) ≡ None)
BadNumber first ws NoMemory = Unit {0}
BadNumber first ws NoCommand = ⊥
BadNumber first ws (Form n) = ⊥
BadNumber first ws NoByte = ⊥
BadNumber first ws NoBytes = ⊥
BadNumber first ws NoPage = ⊥
BadNumber first ws NoImage = ⊥
BadNumber first ws NoPlace = ⊥

-- digits that write no bytes; or there was no memory
abbrev pub BadBytes : List ℕ → LineFault → Type 0
BadBytes w fault = (fault ≡ NoMemory) ⊎ ((fault ≡ NoBytes) × ((bytes : List ℕ) → decode_of w ≢ Ok bytes))

-- the words of a line have this fault; a write has one slash, which is not taken for a number
abbrev pub Wrong : List (List ℕ) → LineFault → Type 0
Wrong ws NoCommand = (0 < length ws) × ((n : Name) → slice_index_or ws 0 [] ≢ word_of n)
Wrong ws (Form n) = Begins ws n × Misshaped ws n
Wrong ws (NoNumber place) =
    (1 < place)
    × (place ≤ length ws)
    × (number_of (slice_index_or ws (place - 1) []) ≡ None)
    × (Begins ws name.Write → slash_here (slice_index_or ws (place - 1) []) ≢ true)
Wrong ws NoByte = Begins ws name.Poke × (length ws ≡ 3) × ((x : ℕ) → number_of (slice_index_or ws 2 []) ≡ Some x → 255 < x)
Wrong ws NoBytes = Begins ws name.Image × (length ws ≡ 2) × ((bytes : List ℕ) → decode_of (slice_index_or ws 1 []) ≢ Ok bytes)
Wrong ws NoPage = ⊥
Wrong ws NoImage = ⊥
Wrong ws NoPlace = ⊥
Wrong ws NoMemory = Unit {0}

-- what comes of the words of a line that has some
abbrev pub Understood : List (List ℕ) → Result Command LineFault → Type 0
Understood ws (Ok command) = Asks ws command
Understood ws (Err fault) = Wrong ws fault

-- what comes of a line's words
abbrev pub Parsed : List (List ℕ) → Result (Option Command) LineFault → Type 0
Parsed ws (Ok None) = ws ≡ []
Parsed ws (Ok (Some command)) = Asks ws command
Parsed ws (Err fault) = Wrong ws fault
