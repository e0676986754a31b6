use Rattle.codes.proofs.Rowing.{rising_wider, filled}
use Rattle.codes.proofs.fill.Filler.fill.Goals as goal

pub place-requires : goal.place-requires
place-requires g c = let f = c.args.self.now.fits in (rising_wider 0 c.args.self.now.width 256 c.args.self.now.columns.now f.few f.columns, f.checks)

pub returns : goal.returns
returns g c =
    let me = c.args.self.now in let f = me.field.now in
    filled (record { ring = g.F.Ring.ops f; point = g.F.Field.points f }) (g.F.Field.inv f) (g.met.F.Ring.ring f) me.inverses me.points
    me.width me.columns.now c.args.symbols.now c.copy_from_slice.new.self
    c.cleared-row.result c.combine-syndromes.result c.combine-values.result c.place.new.row me.powers me.fillers (record {
      fits = me.fits;
      wide = c.requires;
      clears = c.cleared-row.ensures;
      powers_are = me.powers_are;
      syndromes_are = c.combine-syndromes.ensures;
      fillers_are = me.fillers_are;
      values_are = c.combine-values.ensures;
      places = c.place.ensures;
      stores = c.copy_from_slice.ensures.after;
    })
