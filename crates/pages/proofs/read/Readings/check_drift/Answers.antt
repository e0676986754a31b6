use Rattle.std.proofs.Common.{ap, sym, ◌∙◌, rules}
use Rattle.basics.specs.Checks.{verdict, told}
use Rattle.rules.specs.declared.fault.PageFault.TheVariants.{Under}
use Rattle.rules.proofs.Drifts.{above, drift_far, drift_else}
use Rattle.pages.specs.Readings.{of_page, seen}
use Rattle.pages.proofs.read.Readings.check_drift.Goals as goal

pub returns-in-Some : goal.returns-in-Some
returns-in-Some g c =
    let r = c.args.self.now in let p = of_page r in let ms = (seen r).marking in let ys = c.args.readings.now in let cs = c.args.symbols.now in
    let far = c.drift_above.ensures (λ _. c.numbers-bound.result.drift) (λ x y h. search rules) in
    ap verdict (sym (drift_far p ms c.args.k ys cs c.requires.long c.in-Some.i
    (sym c.in-Some.is ∙ far ∙ ap (λ m. above p ms c.args.k ys cs c.requires.long (λ _. m.drift)) c.numbers-bound.ensures)))

pub returns-in-Some-drift_above : goal.returns-in-Some-drift_above
returns-in-Some-drift_above g c =
    let r = c.args.self.now in let p = of_page r in let ms = (seen r).marking in let ys = c.args.readings.now in let cs = c.args.symbols.now in
    let far = c.drift_above.ensures (λ _. c.numbers-bound.result.drift) (λ x y h. search rules) in
    let under = c.drift_above-2.ensures (λ x. x) (λ x y h. search rules) in
    ap verdict (sym (drift_else p ms c.args.k ys cs c.requires.long c.drift_above-2.result
    (sym c.in_default.is ∙ far ∙ ap (λ m. above p ms c.args.k ys cs c.requires.long (λ _. m.drift)) c.numbers-bound.ensures) under
    ∙ ap (told (Under c.args.k)) c.in-Some-drift_above.is))

pub returns : goal.returns
returns g c =
    let r = c.args.self.now in let p = of_page r in let ms = (seen r).marking in let ys = c.args.readings.now in let cs = c.args.symbols.now in
    let far = c.drift_above.ensures (λ _. c.numbers-bound.result.drift) (λ x y h. search rules) in
    let under = c.drift_above-2.ensures (λ x. x) (λ x y h. search rules) in
    ap verdict (sym (drift_else p ms c.args.k ys cs c.requires.long c.drift_above-2.result
    (sym c.in_default.is ∙ far ∙ ap (λ m. above p ms c.args.k ys cs c.requires.long (λ _. m.drift)) c.numbers-bound.ensures) under
    ∙ ap (told (Under c.args.k)) c.in_default-drift_above.is))
