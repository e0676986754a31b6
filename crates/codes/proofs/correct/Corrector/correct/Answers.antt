use Rattle.std.proofs.Common.{sym, refl, subst}
use Rattle.algebra.specs.Rows.{Corrected, taken_row}
use Rattle.codes.proofs.Restoring.{none_close, restored}
use Rattle.codes.proofs.correct.Corrector.correct.Goals as goal

pub returns-in_err-found : goal.returns-in_err-found
returns-in_err-found g c =
    let me = c.args.self.now in
    rw c.from_residual.ensures (record { same = refl; none = none_close _ _ me.tables.checks _ _ _ me.ready.fits.few c.requires c.cleared-row.ensures c.in_err-found.ensures })

pub returns : goal.returns
returns g c =
    let me = c.args.self.now in let f = me.field.now in let ready = me.ready in
    subst (Corrected (record { ring = g.F.Ring.ops f; point = g.F.Field.points f }) me.tables.checks me.marked.now (taken_row (g.F.Ring.ops f).order c.args.symbols.now)) (sym c.copy_from_slice.ensures.after)
    (restored _ _ _ _ _ _ ready.fits.few c.requires c.cleared-row.ensures _ (g.met.F.Ring.ring f) ready.inverses ready.points ready.fits.points _ c.in_ok-found.ensures)
