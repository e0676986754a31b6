use Rattle.std.proofs.Common.{◌≡◌, ℕ, not, ◌&&◌, false, ltb, length, get_or, sym, ap, ◌∙◌, arith}
use Rattle.std.proofs.lemmas.Bool.{lt-ltb, le-ltb, and_from, and_left, and_right}
use Rattle.basics.specs.Checks.{check}
use Rattle.basics.proofs.Checking.{lowest_stop, lowest_more, lowest_all, check_false}
use Rattle.algebra.specs.Rows.{among}
use Rattle.rules.specs.Reach.{drift}
use Rattle.pages.specs.Readings.{of_page, seen}
use Rattle.pages.proofs.read.Readings.drift_above.Goals.{else-not-self-i-via-then-not-self-i+else-drift-limit, else-not-self-i-via-else-not-self-i}
use Rattle.pages.proofs.read.Readings.drift_above.Goals as goal

pub returns-then-drift-limit : goal.returns-then-drift-limit
returns-then-drift-limit g c m h =
    let r = c.args.self.now in let i = c.loop-i.i in let ys = c.args.readings.now in let cs = c.args.symbols.now in
    let at = λ (i : ℕ). check (not (among i (seen r).marking) && ltb (m (get_or ys i 0)) (drift (of_page r) (get_or ys i 0) (get_or cs i 0))) i in
    let alive : among i (seen r).marking ≡ false = sym (r.marked.is i (omega arith)) ∙ c.if-not-self-i.true in
    let above = lt-ltb (m (get_or ys i 0)) (drift (of_page r) (get_or ys i 0) (get_or cs i 0)) (omega (arith, h (get_or ys i 0) c.limit.result c.limit.ensures, c.drift.ensures)) in
    sym (c.loop-i.invariant m h ∙ lowest_stop at (length ys) i i c.loop-i-test.true (ap (λ b. check b i) (and_from _ _ (ap not alive) above)))

pub loop-i-preserved : goal.loop-i-preserved
loop-i-preserved g c m h =
    let r = c.args.self.now in let i = c.loop-i.i in let ys = c.args.readings.now in let cs = c.args.symbols.now in
    let at = λ (i : ℕ). check (not (among i (seen r).marking) && ltb (m (get_or ys i 0)) (drift (of_page r) (get_or ys i 0) (get_or cs i 0))) i in
    let fine : (not (among i (seen r).marking) && ltb (m (get_or ys i 0)) (drift (of_page r) (get_or ys i 0) (get_or cs i 0))) ≡ false = elim c.else-not-self-i.branch [
      | else-not-self-i-via-then-not-self-i+else-drift-limit w ↦ and_right _ _ (le-ltb (m (get_or ys i 0)) (drift (of_page r) (get_or ys i 0) (get_or cs i 0))
          (omega (arith, h (get_or ys i 0) w.limit.result w.limit.ensures, w.drift.ensures, w.if-drift-limit.false)))
      | else-not-self-i-via-else-not-self-i w ↦ and_left _ _ (ap not (sym (r.marked.is i (omega arith)) ∙ w.if-not-self-i.false))
    ] in
    c.loop-i.invariant m h ∙ lowest_more at (length ys) i c.loop-i-test.true (check_false _ i fine)

pub returns : goal.returns
returns g c m h =
    let r = c.args.self.now in let ys = c.args.readings.now in let cs = c.args.symbols.now in
    let at = λ (i : ℕ). check (not (among i (seen r).marking) && ltb (m (get_or ys i 0)) (drift (of_page r) (get_or ys i 0) (get_or cs i 0))) i in
    sym (c.loop-i.invariant m h ∙ lowest_all at (length ys) c.loop-i.i c.loop-i-test.false)
