use Rattle.std.proofs.Common.{◌≡◌, ◌+◌, ◌*◌, false, length}
use Rattle.fields.specs.Numbered.{number_of}
use Rattle.images.specs.Format.{blocks_of_levels}
use Rattle.images.specs.Saving.{stored}
use Rattle.images.proofs.Imaging.{Begins}
use Rattle.images.proofs.save.save.Given as goal

-- the blocks that were put are those of the image
abbrev pub invariant-loop-block : goal.invariant-loop-block
invariant-loop-block l =
    (l.begun.put ≡ l._block) × (l.begun.cells ≡ length l.cells) × (l.begun.spent ≡ false) × (length l.image ≡ 512 * (1 + blocks_of_levels (length l.cells)))
    × Begins (stored (number_of l.page.field) l.page.plan l.cells) (1 + l._block) l.image
