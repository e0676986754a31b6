-- The seven fields by their kind numbers, and what they are looked up in.
use Rattle.std.specs.Prelude.{◌≡◌, ℕ, ◌<◌, ◌≤◌, ◌≢◌, Result, MatchResult, slice_index}
use Rattle.fields.specs.Rings.{taken}
use Rattle.fields.specs.Kinds.{ops_of, generator_of, Powers, Logarithms, InverseTable}
use Rattle.fields.specs.declared.kind.KindField.{KindField}
use Rattle.fields.specs.declared.kind.KindField.TheVariants.{Prime17, Prime31, Prime127, Prime257, Binary16, Binary64, Binary256}
use Rattle.fields.specs.declared.kind.UnknownKind.{UnknownKind}
use Rattle.fields.specs.declared.kind.Factor.{Factor}
use Rattle.fields.specs.declared.kind.Factor.TheVariants.{Zero, Element, Logarithm}
use Rattle.fields.specs.declared.kind.Lookup.{Lookup}
use Rattle.fields.specs.declared.kind.Lookup.TheVariants.{Inverses as InversesIn, Logarithms as LogarithmsIn}

-- the kind number of a field
abbrev pub number_of : KindField → ℕ
number_of Prime17 = 1
number_of Prime31 = 2
number_of Prime127 = 3
number_of Prime257 = 4
number_of Binary16 = 5
number_of Binary64 = 6
number_of Binary256 = 7

-- the field of a kind number, or a refusal of a number that is no kind
abbrev pub NumberedBy : ℕ → Result KindField UnknownKind → Type 0
NumberedBy kind r = MatchResult r (λ f. (number_of f ≡ kind) × (1 ≤ kind) × (kind ≤ 7)) (λ e. (e.kind ≡ kind) × ((1 ≤ kind) × (kind ≤ 7) → ⊥))

-- a prime kind's table is that of its inverses, a binary one's that of its logarithms
abbrev pub LookedUp : ℕ → Lookup → Type 0
LookedUp k (InversesIn is) = (k < 5) × InverseTable (ops_of k) is.now
LookedUp k (LogarithmsIn ls) = (5 ≤ k) × Logarithms (ops_of k) (generator_of k) ls.now

-- this multiplies by a, taken as 0 where it is the order or above
abbrev pub Multiplies : ℕ → ℕ → Factor → Type 0
Multiplies k a Zero = (5 ≤ k) × (taken (ops_of k).order a ≡ 0)
Multiplies k a (Element x) = (k < 5) × (x ≡ taken (ops_of k).order a)
Multiplies k a (Logarithm log ls es) =
    (5 ≤ k) × Logarithms (ops_of k) (generator_of k) ls.now × Powers (ops_of k) (generator_of k) es.now
    × (taken (ops_of k).order a ≢ 0) × (log ≡ slice_index ls.now (taken (ops_of k).order a))
