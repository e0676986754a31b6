use Rattle.std.proofs.Common.{eqb, take, drop, ap, ◌∙◌}
use Rattle.std.specs.Cmp.Lexicographic.{pointwise}
use Rattle.images.specs.Format.{four_bytes}
use Rattle.images.proofs.Sealing.{ends_sealed}
use Rattle.images.proofs.block.is_sealed.Goals as goal

pub returns : goal.returns
returns c =
    c.eq.ensures ∙ ap (pointwise eqb (take 4 (drop 508 c.args.block.now))) (c.to_le_bytes.ensures ∙ ap four_bytes c.check_of.ensures)
    ∙ ends_sealed c.args.b c.args.block.now c.told-block
