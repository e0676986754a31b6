use Rattle.std.proofs.Common.{rules, tests}
use Rattle.std.proofs.lemmas.Iterator.{YieldsList-from_slice}
use Rattle.std.proofs.lemmas.Iterator.Search.{position_from_yields_List}
use Rattle.scripts.specs.Commands.{slash_here}
use Rattle.scripts.proofs.Parts.{slash_told}
use Rattle.scripts.proofs.command.slash_in.Goals as goal

pub returns : goal.returns
returns c = slash_told c.args.words.now c.position.result (position_from_yields_List (λ w. slash_here w.now) _ _ c.position.result c.position.ensures.ran (YieldsList-from_slice c.args.words.now cc) (λ x b q k. search (rules, tests)))
