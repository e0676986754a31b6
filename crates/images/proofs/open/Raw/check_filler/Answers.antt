use Rattle.std.proofs.Common.{◌/◌, ◌%◌, ◌<◌, sym, ap, ◌∙◌, arith}
use Rattle.std.proofs.lemmas.List.{get_or-take, length-take-le}
use Rattle.basics.specs.Checks.{check, verdict}
use Rattle.basics.proofs.Checking.{lowest_stop, lowest_more, check_false}
use Rattle.images.specs.Opening.{bytes_at, filler_here, filler_fault}
use Rattle.images.specs.declared.fault.ImageFault.TheVariants.{Filler}
use Rattle.images.proofs.Opening.{soiled, clean_place, clean_byte}
use Rattle.images.proofs.open.Raw.check_filler.Goals.{else-byte-ne0-via-then-byte-ne0+else-is_filler, else-byte-ne0-via-else-byte-ne0}
use Rattle.images.proofs.open.Raw.check_filler.Goals as goal

pub returns-then-is_filler : goal.returns-then-is_filler
returns-then-is_filler c =
    let me = c.args.self.now in let at = bytes_at me.bytes in let i = c.loop-i.i in
    let inside : i < me.size = omega (arith, length-take-le me.size me.bytes (omega arith)) in
    ap verdict (sym (c.loop-i.invariant ∙ lowest_stop (filler_fault at) me.size i (Filler (i / 512) (i % 512)) inside
    (ap (λ t. check t (Filler (i / 512) (i % 512))) (soiled (filler_here at i) (at i) (sym c.is_filler.ensures ∙ c.if-is_filler.true) (λ z. c.if-byte-ne0.true (get_or-take me.size me.bytes i 0 inside ∙ z))))))

pub loop-i-preserved : goal.loop-i-preserved
loop-i-preserved c =
    let me = c.args.self.now in let at = bytes_at me.bytes in let i = c.loop-i.i in
    let inside : i < me.size = omega (arith, length-take-le me.size me.bytes (omega arith)) in
    c.loop-i.invariant ∙ lowest_more (filler_fault at) me.size i inside (check_false _ _ (elim c.else-byte-ne0.branch [
      | else-byte-ne0-via-then-byte-ne0+else-is_filler w ↦ clean_place (filler_here at i) (at i) (sym w.is_filler.ensures ∙ w.if-is_filler.false)
      | else-byte-ne0-via-else-byte-ne0 w ↦ clean_byte (filler_here at i) (at i) (sym (get_or-take me.size me.bytes i 0 inside) ∙ w.if-byte-ne0.false)
    ]))
