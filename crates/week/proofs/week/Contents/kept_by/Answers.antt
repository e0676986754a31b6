use Rattle.std.proofs.Common.{rules, cond, ◌%◌, get_or}
use Rattle.basics.proofs.Updating.{made_at}
use Rattle.algebra.specs.Rows.{among}
use Rattle.rules.specs.Views.{marking}
use Rattle.images.proofs.Sealing.{tabled_is}
use Rattle.week.proofs.week.Contents.kept_by.Goals as goal

pub returns-clause-heights : goal.returns-clause-heights
returns-clause-heights c =
    let page = c.args.page.now in
    tabled_is 320 _ _ (search rules) (λ i h. made_at _ (λ i. cond (among (i % page.plan.numbers.columns) (marking page.plan)) 0 (get_or c.args.self.now.heights i 0)) (λ q i y l k. search rules) 0 c.from_fn.ensures.items i h)
