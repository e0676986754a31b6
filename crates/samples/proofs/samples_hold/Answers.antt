use Rattle.samples.proofs.Shown.{samples}
use Rattle.samples.proofs.samples_hold.Goals as goal

pub returns : goal.returns
returns c = samples
