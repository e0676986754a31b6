use Rattle.scripts.proofs.Parts.{numbers_more}
use Rattle.scripts.proofs.command.numbers.Goals as goal

pub loop-i-preserved : goal.loop-i-preserved
loop-i-preserved c = rw c.in_ok-push.ensures.items (numbers_more c.args.words.now _ c.loop-i.i _ _ c.loop-i-test.true c.in_ok-number.ensures c.loop-i.invariant)
