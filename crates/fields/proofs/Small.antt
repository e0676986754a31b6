-- A small ring: its laws by one test over all its elements, which the checker computes.
use Rattle.std.proofs.Common.{ℕ, ◌<◌, ◌≤◌, Bool, ◌&&◌, T, eqb, ltb, eqb→eq, ltb→lt}
use Rattle.fields.specs.Guard.{Laws}
use Rattle.fields.specs.Tested.{both, below, below_at}

-- what is to hold of one element, of two, and of three
abbrev pub one_test : ℕ → (ℕ → ℕ) → (ℕ → ℕ → ℕ) → (ℕ → ℕ → ℕ) → ℕ → Bool
one_test q n s p a = ltb (n a) q && (eqb (s a 0) a && (eqb (s a (n a)) 0 && eqb (p a 1) a))

abbrev pub two_test : ℕ → (ℕ → ℕ → ℕ) → (ℕ → ℕ → ℕ) → ℕ → ℕ → Bool
two_test q s p a b = ltb (s a b) q && (ltb (p a b) q && (eqb (s a b) (s b a) && eqb (p a b) (p b a)))

abbrev pub three_test : (ℕ → ℕ → ℕ) → (ℕ → ℕ → ℕ) → ℕ → ℕ → ℕ → Bool
three_test s p a b c = eqb (s (s a b) c) (s a (s b c)) && (eqb (p (p a b) c) (p a (p b c)) && eqb (p a (s b c)) (s (p a b) (p a c)))

abbrev pub laws_test : ℕ → (ℕ → ℕ) → (ℕ → ℕ → ℕ) → (ℕ → ℕ → ℕ) → Bool
laws_test q n s p = below q (λ a. one_test q n s p a && below q (λ b. two_test q s p a b && below q (three_test s p a b)))

four : (a b c d : Bool) → T (a && (b && (c && d))) → T a × T b × T c × T d
four a b c d t = let u = both a (b && (c && d)) t in let v = both b (c && d) u.1 in let w = both c d v.1 in (u.0, v.0, w.0, w.1)

module _ (q : ℕ) (n : ℕ → ℕ) (s p : ℕ → ℕ → ℕ) (t : T (laws_test q n s p)) where
  at : (a : ℕ) → a < q → T (one_test q n s p a) × T (below q (λ b. two_test q s p a b && below q (three_test s p a b)))
  at a h = both _ _ (below_at q (λ a. one_test q n s p a && below q (λ b. two_test q s p a b && below q (three_test s p a b))) t a h)

  pair : (a b : ℕ) → a < q → b < q → T (two_test q s p a b) × T (below q (three_test s p a b))
  pair a b h k = both _ _ (below_at q (λ b. two_test q s p a b && below q (three_test s p a b)) (at a h).1 b k)

  one : (a : ℕ) → a < q → T (ltb (n a) q) × T (eqb (s a 0) a) × T (eqb (s a (n a)) 0) × T (eqb (p a 1) a)
  one a h = four (ltb (n a) q) (eqb (s a 0) a) (eqb (s a (n a)) 0) (eqb (p a 1) a) (at a h).0

  two : (a b : ℕ) → a < q → b < q → T (ltb (s a b) q) × T (ltb (p a b) q) × T (eqb (s a b) (s b a)) × T (eqb (p a b) (p b a))
  two a b h k = four (ltb (s a b) q) (ltb (p a b) q) (eqb (s a b) (s b a)) (eqb (p a b) (p b a)) (pair a b h k).0

  three : (a b c : ℕ) → a < q → b < q → c < q → T (eqb (s (s a b) c) (s a (s b c))) × T (eqb (p (p a b) c) (p a (p b c)) && eqb (p a (s b c)) (s (p a b) (p a c)))
  three a b c h k l = both (eqb (s (s a b) c) (s a (s b c))) _ (below_at q (three_test s p a b) (pair a b h k).1 c l)

  product : (a b c : ℕ) → a < q → b < q → c < q → T (eqb (p (p a b) c) (p a (p b c))) × T (eqb (p a (s b c)) (s (p a b) (p a c)))
  product a b c h k l = both (eqb (p (p a b) c) (p a (p b c))) _ (three a b c h k l).1

  pub laws_of : 3 ≤ q → q ≤ 4096 → Laws q n s p
  laws_of low high = record {
    low = low;
    high = high;
    neg_in = λ a h. ltb→lt _ _ (one a h).0;
    add_in = λ a b h k. ltb→lt _ _ (two a b h k).0;
    mul_in = λ a b h k. ltb→lt _ _ (two a b h k).1;
    add_assoc = λ a b c h k l. eqb→eq _ _ (three a b c h k l).0;
    add_comm = λ a b h k. eqb→eq _ _ (two a b h k).2;
    add_zero = λ a h. eqb→eq _ _ (one a h).1;
    add_neg = λ a h. eqb→eq _ _ (one a h).2;
    mul_assoc = λ a b c h k l. eqb→eq _ _ (product a b c h k l).0;
    mul_comm = λ a b h k. eqb→eq _ _ (two a b h k).3;
    mul_one = λ a h. eqb→eq _ _ (one a h).3;
    distrib = λ a b c h k l. eqb→eq _ _ (product a b c h k l).1;
  }
