use Rattle.std.proofs.Common.{◌≡◌, Some, None, Err, Option, ap, ◌∙◌}
use Rattle.std.proofs.lemmas.Result.{err_from_is_err_and}
use Rattle.basics.specs.Checks.{told}
use Rattle.images.specs.declared.fault.ImageFault.{ImageFault}
use Rattle.answers.specs.declared.fault.HostFault.{HostFault}
use Rattle.answers.specs.declared.fault.HostFault.TheVariants.{Image}
use Rattle.answers.specs.Answers.{no_image, checked, outcome_of}
use Rattle.answers.proofs.check_image.Goals as goal

-- the code of a fault of opening
coded : (o : Option ImageFault) (f : HostFault) → Some f ≡ told Image o → outcome_of (Err f) ≡ checked o
coded None f e = cc
coded (Some g) f e = let z : f ≡ Image g = cc in ap (λ h. outcome_of (Err h)) z

pub returns-in_err-open_image : goal.returns-in_err-open_image
returns-in_err-open_image c =
    let x = err_from_is_err_and c.from_residual.result c.from_residual.ensures.1 in
    ap outcome_of (x.1 ∙ ap Err x.2) ∙ coded (no_image c.args.image.now) _ c.in_err-open_image.ensures.fault
