-- What the two functions of a host answer, and what a scrub leaves of the bytes.
use Rattle.std.specs.Prelude.{◌≡◌, ℕ, ◌+◌, ◌*◌, ◌/◌, ◌%◌, ◌<◌, ◌≤◌, ◌⊎◌, List, length, Some, None, Ok, Err, Option, Result}
use Rattle.plans.specs.declared.fault.Refusal.{Refusal}
use Rattle.rules.specs.Pages.{Setup, State}
use Rattle.rules.specs.Reach.{risen, Found, Unfound}
use Rattle.rules.specs.Views.{of_kind, readings_fault}
use Rattle.rules.specs.Refusals.{page_refusal}
use Rattle.rules.specs.declared.fault.PageFault.{PageFault}
use Rattle.images.specs.Format.{Stored, image_of}
use Rattle.images.specs.Opening.{bytes_at, stored_in, open_fault}
use Rattle.images.specs.Refusals.{image_refusal, save_refusal}
use Rattle.images.specs.declared.fault.ImageFault.{ImageFault}
use Rattle.answers.specs.declared.fault.HostFault.{HostFault}
use Rattle.answers.specs.declared.fault.HostFault.TheVariants.{Image, Page, Save}

-- the refusal that each fault is
abbrev pub host_refusal : HostFault → Refusal
host_refusal (Image f) = image_refusal f
host_refusal (Page f) = page_refusal f
host_refusal (Save f) = save_refusal f

-- what was counted, or the refusal
abbrev pub outcome_of : Result ℕ HostFault → Result ℕ Refusal
outcome_of (Ok k) = Ok k
outcome_of (Err f) = Err (host_refusal f)

-- a refusal as one number: its number × 2^32 + its first place × 2^16 + its second place
abbrev pub code_of : Refusal → ℕ
code_of r = r.number * 4294967296 + r.first * 65536 + r.second

-- what a caller takes such a number apart into
abbrev pub refusal_in : ℕ → Refusal
refusal_in w = record { number = w / 4294967296; first = w / 65536 % 65536; second = w % 65536 }

-- the answer w says what was counted, and is below 2^32; or it is the code of the refusal, which is what it is taken apart into
abbrev pub Says : ℕ → Result ℕ Refusal → Type 0
Says w (Ok k) = (w ≡ k) × (w < 4294967296)
Says w (Err r) = (w ≡ code_of r) × (refusal_in w ≡ r)

-- the refusal numbers that come: none, those of a page's readings, and those of opening
abbrev pub Comes : ℕ → Type 0
Comes n = (n ≡ 0) ⊎ ((21 ≤ n) × (n ≤ 24) ⊎ (31 ≤ n) × (n ≤ 37))

-- what a check comes to: 0 for an image, else why the bytes are none
abbrev pub checked : Option ImageFault → Result ℕ Refusal
checked None = Ok 0
checked (Some f) = Err (image_refusal f)

module _ (xs : List ℕ) where
  -- why the bytes xs are no image
  abbrev pub no_image : Option ImageFault
  no_image = open_fault (bytes_at xs) (length xs)

  -- what they hold
  abbrev pub held : Stored
  held = stored_in (bytes_at xs)

  -- the page that they show: its field and numbers
  abbrev pub page_in : Setup
  page_in = of_kind held.kind held.numbers

  -- its marking and its cells
  abbrev pub state_in : State
  state_in = record { marking = held.marking; cells = held.cells }

  -- what they hold, with other cells
  abbrev pub with_cells : List ℕ → Stored
  with_cells cells = record { kind = held.kind; numbers = held.numbers; marking = held.marking; cells = cells }

  -- a scrub of xs comes to o, and leaves zs
  pub data Scrubbed (o : Result ℕ Refusal) (zs : List ℕ) : Type 0 where
    -- they are no image
    unopened : (f : ImageFault) → no_image ≡ Some f → o ≡ Err (image_refusal f) → zs ≡ xs → Scrubbed o zs
    -- an unmarked cell reads no level
    unread : (f : PageFault) → no_image ≡ None → readings_fault page_in state_in ≡ Some f → o ≡ Err (page_refusal f) → zs ≡ xs → Scrubbed o zs
    -- a row is in reach of no levels
    unreached : (f : PageFault) → no_image ≡ None → readings_fault page_in state_in ≡ None → Unfound page_in state_in f
        → o ≡ Err (page_refusal f) → zs ≡ xs → Scrubbed o zs
    -- the cells decode to these levels: the levels risen are counted, and the bytes become the image of the same page with them
    scrubbed : (levels : List ℕ) → no_image ≡ None → readings_fault page_in state_in ≡ None → Found page_in state_in levels
        → o ≡ Ok (risen page_in held.marking held.cells levels) → zs ≡ image_of (with_cells levels) → Scrubbed o zs

  -- a scrub of xs answers w, and leaves zs
  abbrev pub Answers : ℕ → List ℕ → Type 0
  Answers w zs = (o : Result ℕ Refusal) × Says w o × Scrubbed o zs

  -- there is one such answer, and one such list of bytes
  abbrev pub OneAnswer : Type 0
  OneAnswer = (v w : ℕ) (ys zs : List ℕ) → Answers v ys → Answers w zs → (v ≡ w) × (ys ≡ zs)
