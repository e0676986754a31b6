-- A row repaired, from the steps that repair it: it is the code row that is close enough, if there is one.
use Rattle.std.proofs.Common.{◌≡◌, ℕ, suc, ◌+◌, ◌-◌, ◌<◌, ◌≤◌, min, Bool, true, false, cond, ◌||◌, eqb, List, length, get_or, take, drop, replicate, sym, refl, ap, ◌∙◌, subst, ap₂, add-one, arith}
use Rattle.std.proofs.lemmas.List.{length-take, length-drop, get_or-take, get_or-drop}
use Rattle.basics.specs.Lists.{Updated}
use Rattle.fields.specs.Rings.{RingOps, FieldOps, RingLaws, Combined, sum, power, entry}
use Rattle.algebra.specs.Rows.{count, moment, among, CloseRow}
use Rattle.algebra.specs.Polynomials.{product, value, multiple, derivative}
use Rattle.algebra.specs.Recurrences.{at, Least, Shortest}
use Rattle.algebra.proofs.Ring.{Solid, solid}
use Rattle.algebra.proofs.Sum.{sum_same, sum_beyond}
use Rattle.algebra.proofs.Polys.{product_normal}
use Rattle.algebra.proofs.Columns.{rising_count}
use Rattle.algebra.proofs.Forney.{evaluator}
use Rattle.algebra.proofs.Decode.{remaining, damaged, correction, corrected}
use Rattle.algebra.proofs.Correct.{least_same, least_short, close_corrected}
use Rattle.codes.specs.Fill.{Tabled, power_of}
use Rattle.algebra.specs.Coefficients.{product_entry, value_at}
use Rattle.codes.specs.Correct.{Flagged, repaired_at, Ready, Syndromes}
use Rattle.codes.specs.declared.correct.Tables.{Tables}
use Rattle.codes.specs.declared.correct.Damage.{Damage}
use Rattle.codes.proofs.Weighing.{product_tests}

module _ {o : RingOps} (l : Solid o) where
  -- the value of the first r coefficients of a list
  pub value_part : (r : ℕ) (cs : List ℕ) (c : ℕ → ℕ) (x : ℕ) → r ≤ length cs → ((j : ℕ) → j < r → get_or cs j 0 ≡ c j) → value_at o (take r cs) x ≡ value o r c x
  value_part r cs c x h e =
      ap (λ (n : ℕ). sum o n (λ j. o.mul (get_or (take r cs) j 0) (power o x j))) long
      ∙ sum_same l r (λ j. o.mul (get_or (take r cs) j 0) (power o x j)) (λ j. o.mul (c j) (power o x j)) (λ j g. ap (λ (a : ℕ). o.mul a (power o x j)) (get_or-take r cs j 0 g ∙ e j g))
    where
      long : length (take r cs) ≡ r
      long = length-take r cs ∙ omega arith

  -- a polynomial times the syndromes
  pub syndromes_times : (r : ℕ) (cs ss : List ℕ) (c s : ℕ → ℕ) → r ≤ 64 → ((j : ℕ) → j < 65 → get_or cs j 0 ≡ c j) → ((j : ℕ) → j < r → get_or ss j 0 ≡ s (suc j))
      → (m : ℕ) → m < r → product_entry o cs ss m ≡ evaluator o c s m
  syndromes_times r cs ss c s few e d m h = sum_same l (suc m) (λ j. o.mul (get_or cs j 0) (get_or ss (m - j) 0)) (λ j. o.mul (c j) (s (suc (m - j))))
      (λ j g. ap₂ o.mul (e j (omega arith)) (d (m - j) (omega arith)))

  -- from where the product over the marked columns is a recurrence, it times the syndromes is what remains
  pub evaluator_remaining : (n : ℕ) (p y : ℕ → ℕ) (g : ℕ → Bool) (m : ℕ) → evaluator o (product o n g p) (moment o n p y) (count n g + m) ≡ remaining o n p y g m
  evaluator_remaining n p y g m =
      sum_beyond l (suc e) (product o n g p) (λ j. moment o n p y (suc (e + m - j))) (λ j h. (product_normal l n g p).beyond j (omega arith)) (suc (e + m)) (omega arith)
      ∙ sum_same l (suc e) (λ j. o.mul (product o n g p j) (moment o n p y (suc (e + m - j)))) (λ j. o.mul (product o n g p j) (moment o n p y (suc (m + e) - j)))
      (λ j h. let k : suc (e + m - j) ≡ suc (m + e) - j = omega arith in ap (λ (i : ℕ). o.mul (product o n g p j) (moment o n p y i)) k)
    where
      e : ℕ
      e = count n g

-- the syndromes of a row, from the table of powers
pub combined_syndromes : (f : FieldOps) → RingLaws f.ring → (n r : ℕ) (row : List ℕ) (powers : List (List ℕ)) (ss : List ℕ) → n ≤ length row → r ≤ 64
    → Tabled n r (power_of f.ring f.point) powers → Combined f.ring r (min (length (take n row)) (length powers)) (take n row) powers ss → Syndromes f n r row ss
combined_syndromes f laws n r row powers ss long few table c = record {
  is = λ j h.
      c.low j h (omega arith)
      ∙ ap (λ (m : ℕ). sum f.ring m (λ k. f.ring.mul (get_or (take n row) k 0) (entry powers k j))) whole
      ∙ sum_same (solid f.ring laws) n (λ k. f.ring.mul (get_or (take n row) k 0) (entry powers k j)) (λ k. f.ring.mul (get_or (take n row) k 0) (power f.ring (f.point k) (j + 1)))
      (λ k g. ap (f.ring.mul (get_or (take n row) k 0)) (table.is k j g h));
}
  where
    whole : min (length (take n row)) (length powers) ≡ n
    whole = omega (arith, length-take n row, table.long)

-- what the steps of repairing a row come to: the marked columns' locator times the syndromes, a shortest recurrence of the rest of
-- that, the damaged columns and their locator, what is divided, and the row
pub record Worked (f : FieldOps) (inv : ℕ → ℕ) (ms : List ℕ) (t : Tables) (row syndromes rest : List ℕ) (s : ℕ) (c locator : List ℕ) (d : Damage) (zs : List ℕ) : Type 0 where
  pub ready : Ready f inv ms t
  pub row_long : length row ≡ 256
  pub row_in : (k : ℕ) → k < t.width → get_or row k 0 < f.ring.order
  pub c_long : length c ≡ 65
  pub syndromes_are : Syndromes f t.width t.checks row syndromes
  pub rest_is : Updated t.checks (product_entry f.ring t.locator syndromes) (replicate 64 0) rest
  pub found_is : Shortest f.ring (take (t.checks - length ms) (drop (length ms) rest)) s c
  pub columns_are : Flagged t.width (λ k. get_or t.marks k false || eqb (value_at f.ring (take (s + 1) c) (get_or t.inverses k 0)) 0) d.columns
  pub locator_is : (j : ℕ) → j < 65 → get_or locator j 0 ≡ product f.ring t.width (λ k. get_or d.columns k false) f.point j
  pub above_is : Updated t.checks (product_entry f.ring locator syndromes) (replicate 64 0) d.above
  pub below_is : Updated t.checks (derivative f.ring (at locator)) (replicate 64 0) d.below
  pub row_is : Updated t.width (λ k. repaired_at f.ring inv d t.checks k (get_or t.inverses k 0) (get_or row k 0)) (replicate 256 0) zs

module _ (f : FieldOps) (inv : ℕ → ℕ) (laws : RingLaws f.ring) (ms : List ℕ) (t : Tables) (row syndromes rest : List ℕ) (s : ℕ) (c locator : List ℕ) (d : Damage) (zs : List ℕ)
    (w : Worked f inv ms t row syndromes rest s c locator d zs) where
  abbrev o : RingOps
  o = f.ring

  abbrev n : ℕ
  n = t.width

  abbrev r : ℕ
  r = t.checks

  abbrev g : ℕ → Bool
  g k = among k ms

  abbrev y : ℕ → ℕ
  y = at (take n row)

  l : Solid f.ring
  l = solid f.ring laws

  few : r ≤ 64
  few = w.ready.fits.checks

  marks : count n g ≡ length ms
  marks = rising_count 0 n ms w.ready.fits.columns

  y_long : length (take n row) ≡ n
  y_long = length-take n row ∙ omega (arith, w.row_long, w.ready.fits.few)

  z_long : length (take n zs) ≡ n
  z_long = length-take n zs ∙ omega (arith, w.row_is.long, w.ready.fits.few)

  y_at : (k : ℕ) → k < n → y k ≡ get_or row k 0
  y_at k h = get_or-take n row k 0 h

  syndrome_is : (j : ℕ) → j < r → get_or syndromes j 0 ≡ moment o n f.point y (suc j)
  syndrome_is j h = w.syndromes_are.is j h ∙ ap (moment o n f.point y) (add-one j)

  -- what the solver was given
  abbrev V : List ℕ
  V = take (r - length ms) (drop (length ms) rest)

  v_long : length V ≡ r - count n g
  v_long = length-take (r - length ms) (drop (length ms) rest) ∙ omega (arith, length-drop (length ms) rest, w.rest_is.long, marks, few)

  v_at : (m : ℕ) → m < r - count n g → at V m ≡ remaining o n f.point y g m
  v_at m h =
      get_or-take (r - length ms) (drop (length ms) rest) m 0 (omega (arith, marks)) ∙ get_or-drop (length ms) rest m 0
      ∙ ap (λ (i : ℕ). get_or rest (i + m) 0) (sym marks)
      ∙ w.rest_is.new (count n g + m) (omega arith) (omega (arith, few))
      ∙ syndromes_times l r t.locator syndromes (product o n g f.point) (moment o n f.point y) few w.ready.locator_is syndrome_is (count n g + m) (omega arith)
      ∙ evaluator_remaining l n f.point y g m

  found : Least o (remaining o n f.point y g) (r - count n g) s (at c)
  found = least_same l (at V) (remaining o n f.point y g) (r - count n g) s (at c) v_at (subst (λ (m : ℕ). Least o (at V) m s (at c)) v_long w.found_is)

  short : s + 1 ≤ length c
  short = omega (arith, least_short (at V) (length V) s (at c) w.found_is, v_long, few, w.c_long)

  -- the damaged columns
  abbrev v : ℕ → Bool
  v = damaged o inv f.point g s (at c)

  columns_at : (k : ℕ) → k < n → get_or d.columns k false ≡ v k
  columns_at k h = w.columns_are.is k h ∙ ap₂ ◌||◌ (w.ready.marks_are.is k h)
      (ap (λ (a : ℕ). eqb a 0) (ap (value_at o (take (s + 1) c)) (w.ready.inverses_are k h) ∙ value_part l (s + 1) c (at c) (inv (f.point k)) short (λ _ _. refl)
      ∙ ap (λ (m : ℕ). value o m (at c) (inv (f.point k))) (add-one s)))

  abbrev Ψ : ℕ → ℕ
  Ψ = product o n v f.point

  locator_at : (j : ℕ) → j < 65 → get_or locator j 0 ≡ Ψ j
  locator_at j h = w.locator_is j h ∙ ap (λ (p : ℕ → ℕ). p j) (product_tests o n (λ k. get_or d.columns k false) v f.point columns_at)

  above_at : (x : ℕ) → value_at o (take r d.above) x ≡ value o r (evaluator o Ψ (moment o n f.point y)) x
  above_at x = value_part l r d.above (evaluator o Ψ (moment o n f.point y)) x (omega (arith, w.above_is.long, few))
      (λ j h. w.above_is.new j h (omega (arith, few)) ∙ syndromes_times l r locator syndromes Ψ (moment o n f.point y) few locator_at syndrome_is j h)

  below_at : (x : ℕ) → value_at o (take r d.below) x ≡ value o r (derivative o Ψ) x
  below_at x = value_part l r d.below (derivative o Ψ) x (omega (arith, w.below_is.long, few))
      (λ j h. w.below_is.new j h (omega (arith, few)) ∙ ap (multiple o (suc j)) (locator_at (suc j) (omega (arith, few))))

  -- the repaired row
  zs_at : (k : ℕ) → k < n → get_or (take n zs) k 0 ≡ corrected o inv n f.point y r v k
  zs_at k h =
      get_or-take n zs k 0 h ∙ w.row_is.new k h (omega (arith, h, w.ready.fits.few))
      ∙ ap₂ (λ (x a : ℕ). repaired_at o inv d r k x a) (w.ready.inverses_are k h) (sym (y_at k h))
      ∙ ap₂ (λ (a b : ℕ). cond (get_or d.columns k false) (o.add (y k) (o.neg (o.neg (o.mul a (inv b))))) (y k)) (above_at (inv (f.point k))) (below_at (inv (f.point k)))
      ∙ ap (λ (b : Bool). cond b (o.add (y k) (o.neg (correction o inv n f.point y r v k))) (y k)) (columns_at k h)

  pub repaired_in : (k : ℕ) → k < n → get_or zs k 0 < o.order
  repaired_in k h = subst (λ (a : ℕ). a < o.order) (sym (sym (get_or-take n zs k 0 h) ∙ zs_at k h)) (go (v k))
    where
      go : (b : Bool) → cond b (o.add (y k) (o.neg (correction o inv n f.point y r v k))) (y k) < o.order
      go true = l.add_in _ _
      go false = subst (λ (a : ℕ). a < o.order) (sym (y_at k h)) (w.row_in k h)

  pub repaired_only : (cs : List ℕ) → CloseRow f r ms (take n row) cs → take n zs ≡ cs
  repaired_only cs = close_corrected f inv laws w.ready.inverses w.ready.points n r ms cs (take n row) (take n zs) y_long w.ready.fits.points
      (λ k h. subst (λ (a : ℕ). a < o.order) (sym (y_at k h)) (w.row_in k h)) s (at c) found z_long zs_at
