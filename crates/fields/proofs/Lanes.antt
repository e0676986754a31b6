-- Lane by lane: what one more row adds to the sums.
use Rattle.std.proofs.Common.{◌≡◌, ℕ, ◌+◌, List, get_or, replicate, sym, refl, ap, ◌∙◌, add-one, arith}
use Rattle.basics.specs.Lists.{Updated}
use Rattle.basics.proofs.Updating.{get_d_zeros}
use Rattle.fields.specs.Rings.{RingOps, Combined, sum, entry}

-- one more summand
pub sum_more : (o : RingOps) (n : ℕ) (f : ℕ → ℕ) → sum o (n + 1) f ≡ o.add (sum o n f) (f n)
unfolding sum
sum_more o n f = rw (add-one n)

module _ (o : RingOps) (w : ℕ) (cs : List ℕ) (rows : List (List ℕ)) where
  pub combined_none : Combined o w 0 cs rows (replicate 64 0)
  unfolding sum
  combined_none = record { long = refl; low = λ l h k. get_d_zeros 64 l; high = λ l h. get_d_zeros 64 l }

  -- one more row
  pub combined_more : (n : ℕ) (ys zs : List ℕ) → Combined o w n cs rows ys
      → Updated w (λ l. o.add (get_or ys l 0) (o.mul (get_or cs n 0) (entry rows n l))) ys zs → Combined o w (n + 1) cs rows zs
  combined_more n ys zs c u = record {
    long = u.long ∙ c.long;
    low = λ l h k. let i = c.long in u.new l h (omega arith) ∙ ap (λ v. o.add v (o.mul (get_or cs n 0) (entry rows n l))) (c.low l h k) ∙ sym (sum_more o n _);
    high = λ l h. u.old l h ∙ c.high l h;
  }
