use Rattle.std.proofs.Common.{sym, arith}
use Rattle.images.specs.Opening.{bytes_at}
use Rattle.images.proofs.Opening.{array_bytes, passed, few_bytes}
use Rattle.images.proofs.Shown.{savable}
use Rattle.images.proofs.Both.{opened_image}
use Rattle.images.proofs.open.Raw.open.Goals as goal

pub returns-clause-image : goal.returns-clause-image
returns-clause-image c =
    let me = c.args.self in let e = sym c.in_ok-page.ensures.fault in
    opened_image me.bytes me.size (omega (arith, few_bytes (bytes_at me.bytes) me.size e)) (λ i. search array_bytes) e

pub returns-clause-savable : goal.returns-clause-savable
returns-clause-savable c =
    let me = c.args.self in savable (bytes_at me.bytes) me.size (λ i. search array_bytes) (passed (bytes_at me.bytes) me.size (sym c.in_ok-page.ensures.fault))
