use Rattle.std.proofs.Common.{◌≡◌, None, Err, sym, ap, ◌∙◌, subst}
use Rattle.std.proofs.lemmas.Result.{err_from_is_err_and}
use Rattle.basics.specs.Checks.{fault_of, told}
use Rattle.images.specs.Opening.{bytes_at}
use Rattle.images.specs.Opened.{Shows}
use Rattle.answers.specs.Answers.{no_image}
use Rattle.answers.specs.declared.fault.HostFault.TheVariants.{Image}
use Rattle.answers.proofs.Opening.{raw_opens, raw_bytes}
use Rattle.answers.proofs.open_image.Goals as goal

pub returns-in_err-open-clause-fault : goal.returns-in_err-open-clause-fault
returns-in_err-open-clause-fault c =
    let x = err_from_is_err_and c.from_residual.result c.from_residual.ensures.1 in
    ap fault_of (x.1 ∙ ap Err x.2) ∙ ap (told Image) (c.in_err-open.ensures.fault ∙ raw_opens c.args.image.now c.new.result.bytes c.new.result.size c.new.ensures.size c.new.ensures.bytes)

pub returns : goal.returns
returns c =
    let xs = c.args.image.now in let raw = c.new.result in
    let none : no_image xs ≡ None = sym (c.in_ok-open.ensures.fault ∙ raw_opens xs raw.bytes raw.size c.new.ensures.size c.new.ensures.bytes) in
    let bytes = raw_bytes xs raw.bytes none c.new.ensures.bytes in
    record {
      fault = sym (ap (told Image) none);
      opened = record {
        image = none;
        bytes = ap (λ r. bytes_at r.bytes) c.in_ok-open.ensures.kept ∙ bytes;
        page = subst (λ at. Shows at c.in_ok-open.field-0.page) bytes c.in_ok-open.ensures.page;
      };
    }
