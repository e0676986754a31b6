-- From a code row that is close enough, and drifts that are none too great, to levels in reach.
use Rattle.std.proofs.Common.{◌≡◌, ℕ, zero, suc, ◌+◌, ◌-◌, ◌*◌, ◌/◌, ◌%◌, ◌<◌, ◌≤◌, Bool, true, false, cond, not, ◌&&◌, ◌||◌, eqb, ltb, List, length, get_or, None, sym, refl, ap, ◌∙◌, subst, mod-eq_of_lt, zero-add, arith}
use native.Mathlib.Nat.{div-add-mod, add-mul-mod_self_left}
use Rattle.std.proofs.lemmas.Nat.{mul-le}
use Rattle.std.proofs.lemmas.List.{get_or-map, length-map, ext_get_or}
use Rattle.std.proofs.lemmas.Bool.{ltb-false, or_parts, not-true, eqb-false, ne_eqb, or_from, not_from_false, both_ways}
use Rattle.basics.specs.Checks.{check, lowest}
use Rattle.basics.proofs.Checking.{both_none, check_none, lowest_none}
use Rattle.algebra.specs.Rows.{count, CodeRow, among, differing}
use Rattle.algebra.proofs.Count.{differing_count}
use Rattle.plans.specs.Orders.{Ranges}
use Rattle.rules.specs.Pages.{Setup, symbols_of, q, n, r}
use Rattle.rules.specs.Reach.{levels, drift, Close, drift_fault, RowReach}
use Rattle.rules.specs.declared.fault.PageFault.TheVariants.{Far, Under}
use Rattle.rules.proofs.Drifts.{drift_is}

-- fewer pass a narrower test
pub count_less : (m : ℕ) (t u : ℕ → Bool) → ((k : ℕ) → k < m → t k ≡ true → u k ≡ true) → count m t ≤ count m u
unfolding count
count_less zero t u h = omega arith
count_less (suc m) t u h = omega (arith, one (t 0) (u 0) (h 0 (omega arith)), count_less m (λ k. t (suc k)) (λ k. u (suc k)) (λ k l. h (suc k) (omega arith)))
  where
    one : (a b : Bool) → (a ≡ true → b ≡ true) → cond a 1 0 ≤ cond b 1 0
    one true b e = rw (e refl) (omega arith)
    one false b e = omega arith

-- what stands the drift below a reading has the symbol
pub level_symbol : (q y c : ℕ) → c < q → (y + (q - c)) % q ≤ y → (y - (y + (q - c)) % q) % q ≡ c
level_symbol q y c h le =
    let d = (y + (q - c)) % q in let a = div-add-mod (y + (q - c)) q in
    let e : (y - d) + q * 1 ≡ c + q * ((y + (q - c)) / q) = omega arith in
    sym (add-mul-mod_self_left (y - d) q 1) ∙ ap (λ v. v % q) e ∙ add-mul-mod_self_left c q ((y + (q - c)) / q) ∙ mod-eq_of_lt h

-- a check of an unmarked place that passed
unmarked_fine : {F : Type 0} (b wrong : Bool) (f : F) → check (not b && wrong) f ≡ None → b ≡ false → wrong ≡ false
unmarked_fine true wrong f e u = absurd (both_ways true u refl)
unmarked_fine false wrong f e u = check_none wrong f e

module _ (p : Setup) (rg : Ranges (q p) p.numbers) (ms : List ℕ) (k : ℕ) (ys cs xs : List ℕ) (ly : length ys ≡ n p) (lx : length xs ≡ n p)
    (close : Close p ms ys cs) (fine : drift_fault p ms k ys cs ≡ None)
    (below : (i : ℕ) → i < n p → among i ms ≡ false → get_or ys i 0 < levels p)
    (is : (i : ℕ) → i < n p → get_or xs i 0 ≡ cond (among i ms) (get_or cs i 0) (get_or ys i 0 - drift p (get_or ys i 0) (get_or cs i 0))) where
  columns_close : length cs ≡ n p
  columns_close = close.long ∙ length-map ys (λ x. x % q p) ∙ ly

  parts : (lowest 0 (n p) (λ i. check (not (among i ms) && ltb p.numbers.drift (drift p (get_or ys i 0) (get_or cs i 0))) (Far k i)) ≡ None)
      × (lowest 0 (n p) (λ i. check (not (among i ms) && ltb (get_or ys i 0) (drift p (get_or ys i 0) (get_or cs i 0))) (Under k i)) ≡ None)
  parts = both_none _ _ fine

  near : (i : ℕ) → i < n p → among i ms ≡ false → drift p (get_or ys i 0) (get_or cs i 0) ≤ p.numbers.drift
  near i h u = ltb-false _ _ (unmarked_fine (among i ms) _ (Far k i) (lowest_none _ (n p) 0 i parts.0 (omega arith) (omega arith)) u)

  over : (i : ℕ) → i < n p → among i ms ≡ false → drift p (get_or ys i 0) (get_or cs i 0) ≤ get_or ys i 0
  over i h u = ltb-false _ _ (unmarked_fine (among i ms) _ (Under k i) (lowest_none _ (n p) 0 i parts.1 (omega arith) (omega arith)) u)

  -- the level of an unmarked column
  alive : (i : ℕ) → i < n p → among i ms ≡ false → get_or xs i 0 ≡ get_or ys i 0 - drift p (get_or ys i 0) (get_or cs i 0)
  alive i h u = is i h ∙ ap (λ b. cond b (get_or cs i 0) (get_or ys i 0 - drift p (get_or ys i 0) (get_or cs i 0))) u

  symbol_in : (i : ℕ) → i < n p → get_or cs i 0 < q p
  symbol_in i h = close.code.elements i (omega (arith, columns_close))

  by_column : (P : ℕ → Type 0) (i : ℕ) → i < n p → P (get_or cs i 0) → (among i ms ≡ false → P (get_or ys i 0 - drift p (get_or ys i 0) (get_or cs i 0))) → P (get_or xs i 0)
  by_column P i h a b = subst P (sym (is i h)) (both (among i ms) b)
    where
      both : (t : Bool) → (t ≡ false → P (get_or ys i 0 - drift p (get_or ys i 0) (get_or cs i 0))) → P (cond t (get_or cs i 0) (get_or ys i 0 - drift p (get_or ys i 0) (get_or cs i 0)))
      both true v = a
      both false v = v refl

  symbols_are : symbols_of (q p) xs ≡ cs
  symbols_are = ext_get_or 0 (symbols_of (q p) xs) cs (length-map xs _ ∙ lx ∙ sym (columns_close)) (λ i l.
      let h : i < n p = omega (arith, length-map xs (λ x. x % q p), lx) in
      get_or-map (λ x. x % q p) xs i 0 0 (omega (arith, lx))
      ∙ by_column (λ x. x % q p ≡ get_or cs i 0) i h (mod-eq_of_lt (symbol_in i h)) (λ u. level_symbol (q p) (get_or ys i 0) (get_or cs i 0) (symbol_in i h) (over i h u)))

  -- where the symbols agree, the levels do
  agree : (i : ℕ) → i < n p → among i ms ≡ false → get_or cs i 0 ≡ get_or (symbols_of (q p) ys) i 0 → get_or xs i 0 ≡ get_or ys i 0
  agree i h u e =
      let z : drift p (get_or ys i 0) (get_or cs i 0) ≡ get_or ys i 0 - get_or ys i 0
      = ap (λ c. (get_or ys i 0 + (q p - c)) % q p) (e ∙ get_or-map (λ x. x % q p) ys i 0 0 (omega (arith, ly)))
      ∙ drift_is (q p) (get_or ys i 0) (get_or ys i 0) (omega (arith, rg.drift_short)) (omega arith) (omega (arith, rg.drift_short)) in
      omega (arith, z, alive i h u)

  fewer : differing ms 0 xs ys ≤ differing ms 0 cs (symbols_of (q p) ys)
  fewer =
      let a = differing_count ms 0 xs ys (lx ∙ sym ly) in let b = differing_count ms 0 cs (symbols_of (q p) ys) (columns_close ∙ sym (length-map ys _ ∙ ly)) in
      let c = count_less (n p) (λ i. not (among (0 + i) ms || eqb (get_or xs i 0) (get_or ys i 0))) (λ i. not (among (0 + i) ms || eqb (get_or cs i 0) (get_or (symbols_of (q p) ys) i 0)))
      (λ i h e.
      let o = or_parts (among (0 + i) ms) (eqb (get_or xs i 0) (get_or ys i 0)) (not-true _ e) in
      not_from_false _ (or_from _ _ o.0 (ne_eqb _ _ (λ same. eqb-false _ _ o.1 (agree i h (ap (λ j. among j ms) (sym (zero-add i)) ∙ o.0) same))))) in
      omega (arith, rw lx at a, rw (columns_close) at b, c)

  -- the levels are in reach
  pub settled : RowReach p ms ys xs
  settled = record {
    columns = lx;
    code = subst (CodeRow p.field (r p)) (sym symbols_are) close.code;
    levels_in = λ i h. by_column (λ x. x < levels p) i h (omega (arith, symbol_in i h, mul-le (q p) 1 (q p) p.numbers.heights (omega arith) rg.one_height))
        (λ u. omega (arith, below i h u));
    below = below;
    risen = λ i h u. omega (arith, alive i h u);
    bounded = λ i h u. omega (arith, alive i h u, near i h u, over i h u);
    few = omega (arith, fewer, close.few);
  }
