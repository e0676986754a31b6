use Rattle.std.proofs.Common.{ℕ, length, subst}
use Rattle.codes.specs.Fill.{Copied}
use Rattle.codes.proofs.Rowing.{rising_wider, copied}
use Rattle.codes.proofs.rows.cleared.Goals as goal

pub place-requires : goal.place-requires
place-requires g c = (rising_wider 0 (length c.args.symbols.now) 256 c.args.columns.now c.requires.few c.requires.columns, c.requires.checks)

pub returns : goal.returns
returns g c =
    subst (λ (q : ℕ). Copied q c.args.columns.now c.args.symbols.now c.place.new.row) c.order.ensures
    (copied _ _ _ c.load-row.result _ c.requires.few c.load-row.ensures c.place.ensures)
