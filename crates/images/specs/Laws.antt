-- Both directions: what saving makes opens as what was saved, and nothing else opens.
use Rattle.std.specs.Prelude.{◌≡◌, ℕ, ◌<◌, List, length, None, slice_index}
use Rattle.plans.specs.Marks.{marking_fault}
use Rattle.rules.specs.Views.{kind_fault}
use Rattle.images.specs.Format.{Stored, cell_count, image_of}
use Rattle.images.specs.Opening.{bytes_at, stored_in, open_fault}

-- what can be saved: a page that its kind can be ordered with, a marking of it, and as many cells as it has, of 16 bits each
pub record Savable (s : Stored) : Type 0 where
  pub ordered : kind_fault s.kind s.numbers ≡ None
  pub marked : marking_fault s.numbers s.marking ≡ None
  pub size : length s.cells ≡ cell_count s.numbers
  pub cells_fit : (c : ℕ) → slice_index s.cells c < 65536

-- bytes that open
pub record Opens (xs : List ℕ) : Type 0 where
  pub bytes : (i : ℕ) → slice_index xs i < 256
  pub passes : open_fault (bytes_at xs) (length xs) ≡ None

pub record ImageLaw : Type 0 where
  -- the image of what can be saved opens, as that
  pub opens : (s : Stored) → Savable s → Opens (image_of s)
  pub as_saved : (s : Stored) → Savable s → stored_in (bytes_at (image_of s)) ≡ s
  -- bytes that open hold what can be saved, and are, byte for byte, its image
  pub holds : (xs : List ℕ) → Opens xs → Savable (stored_in (bytes_at xs))
  pub only : (xs : List ℕ) → Opens xs → xs ≡ image_of (stored_in (bytes_at xs))
  -- so no others open as the same
  pub unlike : (xs ys : List ℕ) → Opens xs → Opens ys → stored_in (bytes_at xs) ≡ stored_in (bytes_at ys) → xs ≡ ys
