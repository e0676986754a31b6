-- Saving an image: what begin, put, close and abandon answer and leave.
use Rattle.std.specs.Prelude.{◌≡◌, ℕ, ◌+◌, ◌*◌, ◌<◌, ◌≤◌, not, List, length, replicate, Some, None, Ok, Err, Option, Result, ◌==◌, nat_le, nat_lt, slice_index}
use Rattle.basics.specs.Checks.{check, ◌or_else◌, told}
use Rattle.rules.specs.Pages.{Setup}
use Rattle.rules.specs.Calls.{numbers_fault}
use Rattle.rules.specs.declared.fault.Buffer.TheVariants.{Cells, Image}
use Rattle.rules.specs.declared.fault.PageFault.TheVariants.{Length}
use Rattle.plans.specs.declared.plan.Plan.{Plan}
use Rattle.rules.specs.Views.{marking}
use Rattle.images.specs.Format.{Stored, words_at, sealed_at, blocks_of_levels, cell_count, image_size}
use Rattle.images.specs.declared.fault.SaveFault.{SaveFault}
use Rattle.images.specs.declared.fault.SaveFault.TheVariants.{Page, Full, Early}

-- zs is the buffer xs with block b set to the bytes f, and no other byte moved
pub record BlockSet (b : ℕ) (f : ℕ → ℕ) (xs zs : List ℕ) : Type 0 where
  pub long : length zs ≡ length xs
  pub new : (j : ℕ) → j < 512 → slice_index zs (512 * b + j) ≡ f j
  pub before : (i : ℕ) → i < 512 * b → slice_index zs i ≡ slice_index xs i
  pub after : (i : ℕ) → 512 * b + 512 ≤ i → slice_index zs i ≡ slice_index xs i

-- where a call is accepted P holds, and where it is refused the buffer is as it was
abbrev pub OrKept : {T F : Type 0} → Result T F → List ℕ → List ℕ → Type 0 → Type 0
OrKept (Ok _) xs zs P = P
OrKept (Err _) xs zs P = zs ≡ xs

-- how many level blocks have been put after a put
abbrev pub count_after : {F : Type 0} → Result (Unit {0}) F → ℕ → ℕ
count_after (Ok _) done = done + 1
count_after (Err _) done = done

-- level block b, which is block b + 1, of these cells
abbrev pub LevelsSet : ℕ → List ℕ → List ℕ → List ℕ → Type 0
LevelsSet b cells = BlockSet (b + 1) (sealed_at (b + 1) (λ j. words_at cells (508 * b + j)))

-- begin: the page's own numbers, then a buffer of another length than the image has
abbrev pub begin_fault : Setup → ℕ → Option SaveFault
begin_fault p size = told Page (numbers_fault p) or_else check (not (size == image_size p.numbers)) (Page (Length Image))

-- of an image of this many cells, of whose level blocks some have been put
module _ (cells : ℕ) where
  -- a buffer of another length than the image has
  abbrev pub image_fault : ℕ → Option SaveFault
  image_fault size = check (not (size == 512 * (1 + blocks_of_levels cells))) (Page (Length Image))

  -- put: cells of another number; a buffer of another length; every level block has been put
  abbrev pub put_fault : ℕ → ℕ → ℕ → Option SaveFault
  put_fault done count size =
      check (not (count == cells)) (Page (Length Cells)) or_else image_fault size or_else check (nat_le (blocks_of_levels cells) done) Full

  -- close: a buffer of another length; not every level block has been put
  abbrev pub close_fault : ℕ → ℕ → Option SaveFault
  close_fault done size = image_fault size or_else check (nat_lt done (blocks_of_levels cells)) Early

-- what a close leaves: the buffer as it was, but closed early it is all 0
abbrev pub closed : Option SaveFault → List ℕ → List ℕ
closed None xs = xs
closed (Some (Page f)) xs = xs
closed (Some Full) xs = xs
closed (Some Early) xs = replicate (length xs) 0

-- what an abandon leaves: all 0, but a buffer of another length as it was
abbrev pub abandoned : Option SaveFault → List ℕ → List ℕ
abandoned None xs = replicate (length xs) 0
abandoned (Some f) xs = xs

-- saving a whole image: the page's own numbers, cells of another number, a buffer of another length
abbrev pub save_fault : Setup → ℕ → ℕ → Option SaveFault
save_fault p count size =
    told Page (numbers_fault p)
    or_else check (not (count == cell_count p.numbers)) (Page (Length Cells))
    or_else image_fault (cell_count p.numbers) size

-- what the image of a page and its cells holds
abbrev pub stored : ℕ → Plan → List ℕ → Stored
stored kind plan cells = record { kind = kind; numbers = plan.numbers; marking = marking plan; cells = cells }
