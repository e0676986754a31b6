-- The number and the two places of every refusal of an image, and of saving one.
use Rattle.std.specs.Prelude.{ℕ, ◌+◌, ◌*◌}
use Rattle.plans.specs.Orders.{order_refusal}
use Rattle.plans.specs.declared.fault.Refusal.{Refusal}
use Rattle.plans.specs.declared.fault.MarkingFault.{MarkingFault}
use Rattle.plans.specs.declared.fault.MarkingFault.TheVariants as marking
use Rattle.rules.specs.Refusals.{page_refusal}
use Rattle.images.specs.declared.fault.ImageFault.{ImageFault}
use Rattle.images.specs.declared.fault.ImageFault.TheVariants.{Length, Check, Word, Header, Marking, Blocks, Filler}
use Rattle.images.specs.declared.fault.SaveFault.{SaveFault}
use Rattle.images.specs.declared.fault.SaveFault.TheVariants as save

abbrev at : ℕ → ℕ → ℕ → Refusal
at x y z = record { number = x; first = y; second = z }

-- the byte that a fault of the marking names: the count, or the first byte of the wrong column
abbrev pub byte_of_marking : MarkingFault → ℕ
byte_of_marking marking.Long = 14
byte_of_marking (marking.Column i) = 16 + 2 * i

-- of opening: a block, a byte, a number of blocks or the number of the order's refusal
abbrev pub image_refusal : ImageFault → Refusal
image_refusal Length = at 31 0 0
image_refusal (Check b) = at 32 b 0
image_refusal (Word i) = at 33 0 i
image_refusal (Header f) = at 34 (order_refusal f).number 0
image_refusal (Marking f) = at 35 0 (byte_of_marking f)
image_refusal (Blocks m) = at 36 m 0
image_refusal (Filler b j) = at 37 b j

-- of saving
abbrev pub save_refusal : SaveFault → Refusal
save_refusal (save.Page f) = page_refusal f
save_refusal save.Full = at 41 0 0
save_refusal save.Early = at 42 0 0
