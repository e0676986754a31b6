-- The seven kinds: each has the laws, and its tables pass their tests.
use Rattle.std.specs.Prelude.{◌≡◌, ℕ, zero, suc, ◌<◌, ◌≤◌, T, List, refl}
use Rattle.std.proofs.Common.{sym, ap, ◌∙◌, subst, arith, lit≤, lit<}
use Rattle.fields.specs.Rings.{RingLaws, taken}
use Rattle.fields.specs.Kinds.{ops_of, order_of, generator_of, times_x, product, Powers, Logarithms, InverseTable}
use Rattle.fields.specs.declared.kind.KindField.{KindField}
use Rattle.fields.specs.declared.kind.KindField.TheVariants.{Prime17, Prime31, Prime127, Prime257, Binary16, Binary64, Binary256}
use Rattle.fields.specs.Numbered.{number_of}
use Rattle.fields.specs.Prime.{laws as prime_laws}
use Rattle.fields.specs.Binary.{laws as binary_laws}
use Rattle.fields.specs.Tested.{powers_test, table_test, is_log, is_inverse, powers_of, logs_of, inverses_of}

-- what holds of each kind
each : (P : ℕ → Type 0) → P 1 → P 2 → P 3 → P 4 → P 5 → P 6 → P 7 → (k : ℕ) → 1 ≤ k → k ≤ 7 → P k
each P a b c d e f g zero l h = absurd (omega arith)
each P a b c d e f g (suc zero) l h = a
each P a b c d e f g (suc (suc zero)) l h = b
each P a b c d e f g (suc (suc (suc zero))) l h = c
each P a b c d e f g (suc (suc (suc (suc zero)))) l h = d
each P a b c d e f g (suc (suc (suc (suc (suc zero))))) l h = e
each P a b c d e f g (suc (suc (suc (suc (suc (suc zero)))))) l h = f
each P a b c d e f g (suc (suc (suc (suc (suc (suc (suc zero))))))) l h = g
each P a b c d e f g (suc (suc (suc (suc (suc (suc (suc (suc k)))))))) l h = absurd (omega arith)

-- the kind numbers are from 1 to 7
pub number_in : (f : KindField) → (1 ≤ number_of f) × (number_of f ≤ 7)
number_in Prime17 = (lit≤ tt, lit≤ tt)
number_in Prime31 = (lit≤ tt, lit≤ tt)
number_in Prime127 = (lit≤ tt, lit≤ tt)
number_in Prime257 = (lit≤ tt, lit≤ tt)
number_in Binary16 = (lit≤ tt, lit≤ tt)
number_in Binary64 = (lit≤ tt, lit≤ tt)
number_in Binary256 = (lit≤ tt, lit≤ tt)

pub laws : (k : ℕ) → (1 ≤ k) × (k ≤ 7) → RingLaws (ops_of k)
unfolding product times_x
laws k ok =
    each (λ k. RingLaws (ops_of k)) (prime_laws 17 (lit≤ tt) (lit≤ tt)) (prime_laws 31 (lit≤ tt) (lit≤ tt))
    (prime_laws 127 (lit≤ tt) (lit≤ tt)) (prime_laws 257 (lit≤ tt) (lit≤ tt))
    (binary_laws 4 0x13 (lit≤ tt) (lit< tt) tt (lit≤ tt) (lit≤ tt)) (binary_laws 6 0x43 (lit≤ tt) (lit< tt) tt (lit≤ tt) (lit≤ tt))
    (binary_laws 8 0x11D (lit≤ tt) (lit< tt) tt (lit≤ tt) (lit≤ tt)) k ok.0 ok.1

pub generator_in : (k : ℕ) → (1 ≤ k) × (k ≤ 7) → generator_of k < (ops_of k).order
generator_in k ok =
    each (λ k. generator_of k < (ops_of k).order) (lit< tt) (lit< tt) (lit< tt) (lit< tt) (lit< tt) (lit< tt) (lit< tt) k ok.0 ok.1

pub order_is : (k : ℕ) → (1 ≤ k) × (k ≤ 7) → order_of k ≡ (ops_of k).order
order_is k ok = each (λ k. order_of k ≡ (ops_of k).order) refl refl refl refl refl refl refl k ok.0 ok.1

pub taken_is : (k : ℕ) → (1 ≤ k) × (k ≤ 7) → (a : ℕ) {x : ℕ} → x ≡ taken (order_of k) a → x ≡ taken (ops_of k).order a
taken_is k ok a e = e ∙ ap (λ (q : ℕ). taken q a) (order_is k ok)

-- the tables of the kind k, which is j
pub powers_at : (j : ℕ) {k : ℕ} (es : List ℕ) → k ≡ j → T (powers_test (ops_of j) (generator_of j) es) → Powers (ops_of k) (generator_of k) es
powers_at j es e t = subst (λ (n : ℕ). Powers (ops_of n) (generator_of n) es) (sym e) (powers_of (ops_of j) (generator_of j) es t)

pub logs_at : (j : ℕ) {k : ℕ} (ls : List ℕ) → k ≡ j → T (table_test (ops_of j) (is_log (ops_of j) (generator_of j)) ls) → Logarithms (ops_of k) (generator_of k) ls
logs_at j ls e t = subst (λ (n : ℕ). Logarithms (ops_of n) (generator_of n) ls) (sym e) (logs_of (ops_of j) (generator_of j) ls t)

pub inverses_at : (j : ℕ) {k : ℕ} (is : List ℕ) → k ≡ j → T (table_test (ops_of j) (is_inverse (ops_of j)) is) → InverseTable (ops_of k) is
inverses_at j is e t = subst (λ (n : ℕ). InverseTable (ops_of n) is) (sym e) (inverses_of (ops_of j) is t)
