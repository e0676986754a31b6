use Rattle.std.proofs.Common.{◌≡◌, ℕ, ◌≤◌, List, length, Some, None, Err, Option, refl, ap, ◌∙◌, subst, sym, rules}
use Rattle.std.proofs.lemmas.Result.{err_from_is_err_and}
use Rattle.basics.specs.Checks.{told}
use Rattle.images.specs.Format.{cell_count}
use Rattle.images.specs.Opening.{bytes_at}
use Rattle.images.specs.declared.fault.ImageFault.{ImageFault}
use Rattle.answers.specs.declared.fault.HostFault.{HostFault}
use Rattle.answers.specs.declared.fault.HostFault.TheVariants.{Image}
use Rattle.answers.specs.Answers.{no_image, outcome_of, Scrubbed, unopened, OneAnswer}
use Rattle.answers.proofs.Opening.{few_readings}
use Rattle.answers.proofs.Once.{one_unopened}
use Rattle.answers.proofs.scrub_image.Goals as goal

-- what is refused in opening
stopped : (xs : List ℕ) (o : Option ImageFault) (f : HostFault) → no_image xs ≡ o → Some f ≡ told Image o → Scrubbed xs (outcome_of (Err f)) xs
stopped xs None f is e = absurd cc
stopped xs (Some g) f is e = let z : f ≡ Image g = cc in unopened g is (ap (λ h. outcome_of (Err h)) z) refl

one_stopped : (xs : List ℕ) (o : Option ImageFault) (f : HostFault) → no_image xs ≡ o → Some f ≡ told Image o → OneAnswer xs
one_stopped xs None f is e = absurd cc
one_stopped xs (Some g) f is e = one_unopened xs g is

pub returns-in_err-opened-clause-only : goal.returns-in_err-opened-clause-only
returns-in_err-opened-clause-only c = one_stopped c.args.image.now (no_image c.args.image.now) _ refl c.in_err-opened.ensures.fault

pub returns-in_err-opened-clause-scrubbed : goal.returns-in_err-opened-clause-scrubbed
returns-in_err-opened-clause-scrubbed c =
    let xs = c.args.image.now in let x = err_from_is_err_and c.from_residual.result c.from_residual.ensures.1 in
    subst (λ w. Scrubbed xs (outcome_of w) xs) (sym (x.1 ∙ ap Err x.2)) (stopped xs (no_image xs) _ refl c.in_err-opened.ensures.fault)

pub slice_bounds-room-end : goal.slice_bounds-room-end
slice_bounds-room-end c =
    let o = c.in_ok-opened.ensures.opened in
    let e = c.cell_count-count.ensures ∙ ap cell_count (c.numbers.ensures ∙ ap (λ p. p.plan.numbers) c.page.ensures ∙ o.page.numbers) in
    let h : c.cell_count-count.result ≤ 8192 = subst (λ (n : ℕ). n ≤ 8192) (sym e) (few_readings (bytes_at c.args.image.now) (length c.args.image.now) o.image) in search rules
