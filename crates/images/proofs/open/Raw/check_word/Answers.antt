use Rattle.std.proofs.Common.{not, ap, ◌∙◌, arith}
use Rattle.std.proofs.lemmas.Bool.{eq-eqb}
use Rattle.basics.specs.Checks.{check}
use Rattle.basics.proofs.Checking.{lowest_more}
use Rattle.images.specs.Opening.{bytes_at, word_fault}
use Rattle.images.specs.declared.fault.ImageFault.TheVariants.{Word}
use Rattle.images.proofs.open.Raw.check_word.Goals as goal

pub loop-i-preserved : goal.loop-i-preserved
loop-i-preserved c =
    let i = c.loop-i.i in
    c.loop-i.invariant ∙ lowest_more (word_fault (bytes_at c.args.self.now.bytes)) 5 i (omega arith) (ap (λ b. check (not b) (Word i)) (eq-eqb _ _ c.if-self-i.false))
