use Rattle.answers.specs.Answers.{outcome_of}
use Rattle.answers.proofs.Numbers.{comes}
use Rattle.answers.proofs.scrub.Goals as goal

pub returns-clause-answers : goal.returns-clause-answers
returns-clause-answers c = (outcome_of c.scrub_image.result, c.answer.ensures, c.scrub_image.ensures.scrubbed)

pub returns-clause-numbers : goal.returns-clause-numbers
returns-clause-numbers c = comes c.args.image.now c.scrub_image.new.image c.answer.result (outcome_of c.scrub_image.result) c.answer.ensures c.scrub_image.ensures.scrubbed
