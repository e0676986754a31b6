use Rattle.std.proofs.Common.{rules}
use Rattle.rules.specs.Calls.{numbers_fault}
use Rattle.pages.proofs.page.Page.check.Goals as goal

pub returns-in_err-check : goal.returns-in_err-check
unfolding numbers_fault
returns-in_err-check g c = search rules

pub returns : goal.returns
unfolding numbers_fault
returns g c = search rules
