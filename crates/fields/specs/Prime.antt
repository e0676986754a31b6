-- The whole numbers modulo q are a ring.
use Rattle.std.specs.Prelude.{◌≡◌, ℕ, ◌+◌, ◌-◌, ◌*◌, ◌/◌, ◌%◌, ◌<◌, ◌≤◌}
use Rattle.std.proofs.Common.{sym, ap, ◌∙◌, add-mul, mul_assoc, mul_comm, mul-add, mul-one, mod-lt, mod-eq_of_lt, add_assoc, add_comm, add-zero, arith}
use Rattle.std.proofs.Math.Nat.{mod-add-div', add-mul-mod_self_right, mod-add-mod, add-mod-mod, mod_self}
use Rattle.fields.specs.Rings.{RingLaws}
use Rattle.fields.specs.Kinds.{prime}
use Rattle.fields.specs.Guard.{guard}

-- a factor may be reduced first
mul_mod : (q a b : ℕ) → a % q * b % q ≡ a * b % q
mul_mod q a b =
    sym (ap (λ (n : ℕ). n * b % q) (sym (mod-add-div' a q)) ∙ rw (add-mul, mul_assoc (a / q) q b, mul_comm q b, ← mul_assoc (a / q) b q) (add-mul-mod_self_right (a % q * b) (a / q * b) q))

mul_mod_right : (q a b : ℕ) → a * (b % q) % q ≡ a * b % q
mul_mod_right q a b = rw (mul_comm a (b % q), mul_mod, mul_comm b a)

neg_mod : (q a : ℕ) → a < q → (a + (q - a) % q) % q ≡ 0
neg_mod q a h = add-mod-mod a (q - a) q ∙ (let e : a + (q - a) ≡ q = omega arith in rw e (mod_self q))

pub laws : (q : ℕ) → 3 ≤ q → q ≤ 4096 → RingLaws (prime q)
laws q low high =
    let m : (a : ℕ) → a % q < q = λ a. mod-lt a (omega arith) in
    guard q _ _ _ (record {
      low = low;
      high = high;
      neg_in = λ a h. m (q - a);
      add_in = λ a b ha hb. m (a + b);
      mul_in = λ a b ha hb. m (a * b);
      add_assoc = λ a b c ha hb hc. rw (mod-add-mod, add-mod-mod, add_assoc);
      add_comm = λ a b ha hb. rw (add_comm a b);
      add_zero = λ a h. rw add-zero (mod-eq_of_lt h);
      add_neg = neg_mod q;
      mul_assoc = λ a b c ha hb hc. rw (mul_mod, mul_mod_right, mul_assoc);
      mul_comm = λ a b ha hb. rw (mul_comm a b);
      mul_one = λ a h. rw mul-one (mod-eq_of_lt h);
      distrib = λ a b c ha hb hc. rw (mul_mod_right, mul-add, mod-add-mod, add-mod-mod);
    })
