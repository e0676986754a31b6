use Rattle.std.proofs.Common.{◌≡◌, true, false, eqb, take, refl, ap, ◌∙◌, sym, rules, tests, arith}
use Rattle.std.specs.List.{position_or_len}
use Rattle.std.proofs.lemmas.Iterator.{YieldsList-from_slice, IsFirst-from_position, index_from_first}
use Rattle.scripts.proofs.words.text.Goals as goal

pub returns : goal.returns
returns c =
    let line = c.args.line.now in
    let first = IsFirst-from_position _ _ c.position.result (λ b. eqb b 35 ≡ true) (λ b. eqb b 35 ≡ false) c.position.ensures.ran (YieldsList-from_slice line cc) (λ x q k. search (rules, tests)) (λ x q k. search (rules, tests)) in
    ap (λ n. take n line) (c.unwrap_or-end.ensures ∙ sym (index_from_first (position_or_len (λ b. eqb b 35)) (λ b. eqb b 35 ≡ true) (λ b. eqb b 35 ≡ false) refl (λ x xs e. rw e refl) (λ x xs e. rw e (omega arith)) line c.position.result first))
