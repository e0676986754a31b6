use Rattle.std.proofs.Common.{◌/◌, ◌<◌, not, sym, ap, ◌∙◌, arith}
use Rattle.std.proofs.lemmas.List.{length-take-le}
use Rattle.basics.specs.Checks.{check, verdict}
use Rattle.basics.proofs.Checking.{lowest_stop, lowest_more}
use Rattle.images.specs.Opening.{bytes_at, seal_fault}
use Rattle.images.specs.declared.fault.ImageFault.TheVariants.{Check}
use Rattle.images.proofs.Sealing.{seal_part}
use Rattle.images.proofs.open.Raw.check_seals.Goals as goal

pub returns-then-not-is_sealed : goal.returns-then-not-is_sealed
returns-then-not-is_sealed c =
    let me = c.args.self.now in let b = c.loop-b.b in
    let inside : b < me.size / 512 = omega (arith, c.as_chunks.ensures.front_len, length-take-le me.size me.bytes (omega arith)) in
    let e = seal_part b me.size me.bytes _ _ _ (omega arith) c.as_chunks.ensures.front inside c.is_sealed.ensures in
    ap verdict (sym (c.loop-b.invariant ∙ lowest_stop (seal_fault (bytes_at me.bytes)) (me.size / 512) b (Check b) inside
    (ap (λ s. check (not s) (Check b)) (sym e ∙ c.if-not-is_sealed.true))))

pub loop-b-preserved : goal.loop-b-preserved
loop-b-preserved c =
    let me = c.args.self.now in let b = c.loop-b.b in
    let inside : b < me.size / 512 = omega (arith, c.as_chunks.ensures.front_len, length-take-le me.size me.bytes (omega arith)) in
    let e = seal_part b me.size me.bytes _ _ _ (omega arith) c.as_chunks.ensures.front inside c.is_sealed.ensures in
    c.loop-b.invariant ∙ lowest_more (seal_fault (bytes_at me.bytes)) (me.size / 512) b inside (ap (λ s. check (not s) (Check b)) (sym e ∙ c.if-not-is_sealed.false))
