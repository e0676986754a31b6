-- What opening an image comes to, and what an opened one gives.
use Rattle.std.specs.Prelude.{◌≡◌, ℕ, not, Option, ◌==◌, nat_le}
use Rattle.basics.specs.Checks.{check, ◌or_else◌}
use Rattle.fields.specs.declared.Field as field
use Rattle.fields.specs.declared.Ring as ring
use Rattle.fields.specs.declared.kind.KindField.{KindField}
use Rattle.fields.specs.Numbered.{number_of}
use Rattle.rules.specs.Pages.{Setup}
use Rattle.rules.specs.Calls.{numbers_fault}
use Rattle.rules.specs.Views.{marking}
use Rattle.rules.specs.declared.fault.Buffer.TheVariants.{Cells}
use Rattle.rules.specs.declared.fault.PageFault.{PageFault}
use Rattle.rules.specs.declared.fault.PageFault.TheVariants.{Length, Place}
use Rattle.pages.specs.declared.page.Page.{Page}
use Rattle.images.specs.Format.{cell_count}
use Rattle.images.specs.Opening.{numbers_in, marking_in}

-- the page is the one that the bytes show
pub record Shows {f : field.Ghosts KindField} {r : ring.Ghosts KindField} (at : ℕ → ℕ) (page : Page KindField f r) : Type 0 where
  pub kind : number_of page.field ≡ at 5
  pub numbers : page.plan.numbers ≡ numbers_in at
  pub marked : marking page.plan ≡ marking_in at

-- taking row k into count cells: the page's own numbers; cells of another number than n; no such row
abbrev pub row_fault : Setup → ℕ → ℕ → Option PageFault
row_fault p count k =
    numbers_fault p or_else check (not (count == p.numbers.columns)) (Length Cells) or_else check (nat_le p.numbers.rows k) (Place k 0)

-- taking all rows: the page's own numbers; cells of another number than the page has
abbrev pub cells_fault : Setup → ℕ → Option PageFault
cells_fault p count = numbers_fault p or_else check (not (count == cell_count p.numbers)) (Length Cells)
