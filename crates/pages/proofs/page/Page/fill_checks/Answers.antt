use Rattle.std.proofs.Common.{rules}
use Rattle.pages.specs.Views.{over}
use Rattle.rules.proofs.Firsts.{filled_checks}
use Rattle.pages.proofs.page.Page.fill_checks.Goals as goal

pub returns : goal.returns
returns g c =
    let p = over c.args.self.now in
    filled_checks p.field _ p.numbers c.numbers-numbers.ensures c.args.self.now.ranges c.first_columns-columns.result _ _ (search rules) c.first_columns-columns.ensures c.requires
    c.fill_rows.ensures.fault c.fill_rows.ensures.filled
