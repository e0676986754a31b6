-- The first columns: they rise, and the check columns of a page can be filled.
use Rattle.std.proofs.Common.{◌≡◌, ℕ, zero, suc, ◌+◌, ◌-◌, ◌*◌, ◌%◌, ◌<◌, ◌≤◌, min, true, false, not, ◌||◌, eqb, ltb, List, length, get_or, take, None, Result, sym, refl, ap, ◌∙◌, subst, ap₂, inl, inr, add-one, arith, MatchResult}
use native.Mathlib.Nat.{mul-mod_left, sub-zero}
use Rattle.std.specs.List.{range_with_len}
use Rattle.std.proofs.lemmas.Result.{MatchResult-at_ok}
use Rattle.std.proofs.lemmas.List.FromFn.{length-range_with_len, get_or-range_with_len}
use Rattle.std.proofs.lemmas.List.{length-take-le, get_or-take, ext_get_or}
use Rattle.std.proofs.lemmas.Bool.{le-leb, lt-ltb, le-ltb, ne_eqb, eq-eqb, and_from, or_from, not_from_true, or_left, or_right, true≢false, cases_lt}
use Rattle.basics.proofs.Checking.{check_false, others_pass}
use Rattle.basics.specs.Checks.{verdict}
use Rattle.fields.specs.Rings.{FieldOps}
use Rattle.algebra.specs.Rows.{rising, among}
use Rattle.codes.specs.Fill.{fill_fault, FilledRows}
use Rattle.codes.specs.declared.fill.FillFault.{FillFault}
use Rattle.codes.specs.declared.fill.FillFault.TheVariants.{Width, Columns, Length}
use Rattle.plans.specs.Orders.{Ranges}
use Rattle.plans.specs.declared.numbers.Numbers.{Numbers}

pub counting_rises : (b m n : ℕ) → b + m ≤ n → rising b n (range_with_len b m) ≡ true
counting_rises b zero n h = refl
counting_rises b (suc m) n h =
    and_from _ _ (le-leb b b (omega arith)) (and_from _ _ (lt-ltb b n (omega arith)) (rw (← add-one b) (counting_rises (b + 1) m n (omega arith))))

pub counting_off : (b m i : ℕ) → b + m ≤ i → among i (range_with_len b m) ≡ false
counting_off b zero i h = refl
counting_off b (suc m) i h = or_from _ _ (ne_eqb i b (λ e. omega arith)) (counting_off (b + 1) m i (omega arith))

-- what is not among the first m columns is none of them
pub counting_past : (m i : ℕ) → among i (range_with_len 0 m) ≡ false → m ≤ i
counting_past m i e = elim (cases_lt i m) [ inl h ↦ absurd (true≢false (sym (on 0 m i (omega arith) (omega arith)) ∙ e)) | inr h ↦ h ]
  where
    on : (b m i : ℕ) → b ≤ i → i < b + m → among i (range_with_len b m) ≡ true
    on b zero i h g = absurd (omega arith)
    on b (suc m) i h g = elim (cases_lt b i) [
      | inl more ↦ or_right _ _ (on (b + 1) m i (omega arith) (omega arith))
      | inr here ↦ or_left _ _ (eq-eqb i b (omega arith))
    ]

-- the first columns, 0, 1, 2 and so on
pub first_columns : (cs : List ℕ) (m : ℕ) → length cs ≡ 64 → ((i : ℕ) → i < 64 → get_or cs i 0 ≡ i) → m ≤ 64 → take m cs ≡ range_with_len 0 m
first_columns cs m l u h =
    let long : length (take m cs) ≡ m = length-take-le m cs (omega arith) in
    ext_get_or 0 (take m cs) (range_with_len 0 m) (long ∙ sym (length-range_with_len 0 m)) (λ i g.
    let k : i < m = omega arith in get_or-take m cs i 0 k ∙ u i (omega arith) ∙ sym (get_or-range_with_len 0 m i 0 k ∙ omega arith))

pub fill_fits : (q : ℕ) (p : Numbers) → Ranges q p → fill_fault q p.columns (range_with_len 0 p.checks) (p.rows * p.columns) ≡ None
fill_fits q p g =
    let two = g.two_columns in let below = g.points in let few = g.columns_few in let checks = g.checks_few in let message = g.message in
    let a : (ltb p.columns 1 || ltb (min (q - 1) 256) p.columns) ≡ false = or_from _ _ (le-ltb p.columns 1 (omega arith)) (le-ltb (min (q - 1) 256) p.columns (omega arith)) in
    let b : (ltb 64 (length (range_with_len 0 p.checks)) || not (rising 0 p.columns (range_with_len 0 p.checks))) ≡ false =
    or_from _ _ (le-ltb 64 _ (omega (arith, length-range_with_len 0 p.checks))) (not_from_true _ (counting_rises 0 p.checks p.columns (omega arith))) in
    let c : not (eqb (p.rows * p.columns % p.columns) 0) ≡ false = not_from_true _ (eq-eqb _ _ (mul-mod_left p.rows p.columns)) in
    others_pass _ _ _ (check_false _ Width a) (check_false _ Columns b) ∙ check_false _ Length c

-- the check columns are filled
pub filled_checks : (f : FieldOps) (m p : Numbers) → m ≡ p → Ranges f.ring.order p → (cs xs ys : List ℕ) → length cs ≡ 64 → ((i : ℕ) → i < 64 → get_or cs i 0 ≡ i)
    → length xs ≡ p.rows * p.columns → {r : Result (Unit {0}) FillFault} → r ≡ verdict (fill_fault f.ring.order m.columns (take (m.checks - 0) cs) (length xs))
    → MatchResult r (λ _. FilledRows f m.columns (take (m.checks - 0) cs) xs ys) (λ _. ys ≡ xs) → FilledRows f p.columns (range_with_len 0 p.checks) xs ys
filled_checks f m p e g cs xs ys l u long {r} = subst (λ (m : Numbers). r ≡ verdict (fill_fault f.ring.order m.columns (take (m.checks - 0) cs) (length xs))
    → MatchResult r (λ _. FilledRows f m.columns (take (m.checks - 0) cs) xs ys) (λ _. ys ≡ xs) → FilledRows f p.columns (range_with_len 0 p.checks) xs ys) (sym e)
    (λ v k. subst (λ (ms : List ℕ). FilledRows f p.columns ms xs ys) columns
    (MatchResult-at_ok (λ _. FilledRows f p.columns (take (p.checks - 0) cs) xs ys) (λ _. ys ≡ xs) tt
    (v ∙ ap₂ (λ (ms : List ℕ) (size : ℕ). verdict (fill_fault f.ring.order p.columns ms size)) columns long ∙ ap verdict (fill_fits f.ring.order p g)) k))
  where
    columns : take (p.checks - 0) cs ≡ range_with_len 0 p.checks
    columns = ap (λ (k : ℕ). take k cs) (sub-zero p.checks) ∙ first_columns cs p.checks l u g.checks_few
