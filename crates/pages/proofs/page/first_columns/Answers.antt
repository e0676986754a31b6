use Rattle.std.proofs.Common.{rules}
use Rattle.pages.proofs.page.first_columns.Goals as goal

pub returns : goal.returns
returns c = λ k h. let (p, q, call) = c.from_fn.ensures.items.at k 0 h in search rules
