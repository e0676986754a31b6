use Rattle.rules.proofs.Fitting.{readable}
use Rattle.pages.specs.Readings.{of_page, seen}
use Rattle.pages.proofs.read.Readings.recover.Goals as goal

pub decode-requires-clause-readable : goal.decode-requires-clause-readable
decode-requires-clause-readable g c =
    readable (of_page c.args.self.now) (seen c.args.self.now) c.args.self.now.size c.requires.checked
