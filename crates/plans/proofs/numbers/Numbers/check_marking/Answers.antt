use Rattle.std.proofs.Common.{◌≡◌, ◌≤◌, min, false, ltb, length, sym, ap, ◌∙◌, arith}
use Rattle.std.proofs.lemmas.Bool.{le-ltb}
use Rattle.basics.specs.Checks.{check, ◌or_else◌, verdict}
use Rattle.basics.proofs.Checking.{made_verdict}
use Rattle.plans.specs.Marks.{columns_fault, FitsMarking}
use Rattle.plans.specs.declared.fault.MarkingFault.TheVariants.{Long}
use Rattle.plans.proofs.Marking.{fits_marking}
use Rattle.plans.proofs.numbers.Numbers.check_marking.Goals as goal

pub returns : goal.returns
returns c =
    let p = c.args.self.now in let ms = c.args.marking.now in
    let few : length ms ≤ p.checks = omega arith in let room : length ms ≤ 64 = omega arith in
    let short : ltb (min 64 p.checks) (length ms) ≡ false = le-ltb _ _ (omega arith) in
    record {
      fault = c.check_columns.ensures ∙ ap (λ b. verdict (check b Long or_else columns_fault p.columns ms)) (sym short);
      fits = made_verdict (columns_fault p.columns ms) (FitsMarking p ms) c.check_columns.ensures (fits_marking p ms room few);
    }
