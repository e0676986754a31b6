use Rattle.std.proofs.Common.{sym, refl, ◌∙◌, subst, arith}
use Rattle.basics.proofs.Checking.{none_from_verdict}
use Rattle.rules.specs.Calls.{event, write, done, fault, Follows}
use Rattle.rules.specs.Views.{state, buffers}
use Rattle.pages.specs.Views.{over}
use Rattle.rules.proofs.Writing.{filled_in, written}
use Rattle.pages.proofs.page.Page.write.Goals as goal

pub add_heights-requires : goal.add_heights-requires
add_heights-requires g c =
    let p = over c.args.self.now in let f = c.in_ok-check_write.ensures.fits in
    record {
      long = c.fill_checks.ensures.long ∙ c.lay_symbols.ensures.long ∙ f.cells_fit ∙ sym f.heights_fit;
      symbols = filled_in p f.ranges _ _ (c.lay_symbols.ensures.long ∙ f.cells_fit) c.fill_checks.ensures;
      heights = λ i h. f.heights_in i (omega (arith, c.fill_checks.ensures.long, c.lay_symbols.ensures.long, f.cells_fit));
    }

pub returns : goal.returns
returns g c =
    let p = over c.args.self.now in let plan = c.args.self.now.plan in
    let b = buffers c.args.symbols.now c.args.heights.now in let f = c.in_ok-check_write.ensures in
    let e = event (state plan c.args.cells.now) (write b) done b (state plan c.add_heights.new.cells) in
    subst (Follows p e) (sym (none_from_verdict (fault p (state plan c.args.cells.now) (write b)) f.fault)) (
      written p b _ _ _ _ (record { fits = f.fits; lays = c.lay_symbols.ensures; fills = c.fill_checks.ensures; adds = c.add_heights.ensures }),
      record { answers = refl; buffers_are = refl; after_is = refl },
    )
