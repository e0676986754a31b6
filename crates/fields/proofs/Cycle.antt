-- What the powers of g and the tables give in any ring: products, inverses and points.
use Rattle.std.proofs.Common.{◌≡◌, ℕ, zero, suc, ◌+◌, ◌-◌, ◌<◌, ◌≤◌, Bool, true, false, cond, not, T, eqb, ltb, leb, List, length, get_or, sym, refl, ap, ◌∙◌, subst, le_of_suc-le-suc, not-suc-le-zero, le_antisymm, suc-add, zero-add, arith, eqb→eq, lt→ltb, leb→le}
use lib.Arith.{lt_of_le-ne, le→nltb}
use lib.Dec.{nleb→lt}
use Rattle.fields.specs.Rings.{RingOps, RingLaws, Inverses, Points, taken, power}
use Rattle.fields.specs.Kinds.{pick, inverse_of, point_of, Powers, Logarithms, InverseTable}
use Rattle.fields.specs.Guard.{taken_same, taken_in}

-- a picked number passes the test if any number below n does
pick_hit : (f : ℕ → Bool) (n x : ℕ) → x < n → T (f x) → T (f (pick f n)) × (pick f n < n)
unfolding pick
pick_hit f zero x h t = absurd (not-suc-le-zero h)
pick_hit f (suc n) x h t = on (λ k. pick_hit f n x k t) (f n) refl where
  on : (x < n → T (f (pick f n)) × (pick f n < n)) → (b : Bool) → f n ≡ b → T (f (cond b n (pick f n))) × (cond b n (pick f n) < suc n)
  on again true e = (subst T (sym e) tt, omega arith)
  on again false e =
      let ne : x ≡ n → ⊥ = λ p. subst T e (subst (λ (y : ℕ). T (f y)) p t) in
      let u = again (lt_of_le-ne (le_of_suc-le-suc h) ne) in (u.0, omega (arith, u.1))

pick_none : (f : ℕ → Bool) (n : ℕ) → ((x : ℕ) → x < n → f x ≡ false) → pick f n ≡ 0
unfolding pick
pick_none f zero h = refl
pick_none f (suc n) h = rw (h n (omega arith)) (pick_none f n (λ x k. h x (omega arith)))

pick_in : (f : ℕ → Bool) (n : ℕ) → 0 < n → pick f n < n
unfolding pick
pick_in f zero h = h
pick_in f (suc zero) h = on (f 0) where
  on : (b : Bool) → cond b 0 0 < 1
  on true = omega arith
  on false = omega arith
pick_in f (suc (suc n)) h = on (f (suc n)) (pick f (suc n)) (pick_in f (suc n) (omega arith)) where
  on : (b : Bool) (k : ℕ) → k < suc n → cond b (suc n) k < suc (suc n)
  on true k p = omega arith
  on false k p = omega arith

module _ {o : RingOps} (r : RingLaws o) where
  one_in : 1 < o.order
  one_in = let z = r.low in omega arith

  zero_in : 0 < o.order
  zero_in = let z = r.low in omega arith

  one_mul : (a : ℕ) → a < o.order → o.mul 1 a ≡ a
  one_mul a h = r.mul_comm 1 a one_in h ∙ r.mul_one a h

  -- what is its own double is 0
  double_zero : (x : ℕ) → x < o.order → o.add x x ≡ x → x ≡ 0
  double_zero x h e =
      let n = r.neg_in x in
      sym (r.add_zero x h) ∙ ap (o.add x) (sym (r.add_neg x h)) ∙ sym (r.add_assoc x x (o.neg x) h h n)
      ∙ ap (λ (y : ℕ). o.add y (o.neg x)) e ∙ r.add_neg x h

  pub mul_zero : (a : ℕ) → a < o.order → o.mul a 0 ≡ 0
  mul_zero a h =
      double_zero (o.mul a 0) (r.mul_in a 0)
      (sym (r.distrib a 0 0 h zero_in zero_in) ∙ ap (o.mul a) (r.add_zero 0 zero_in))

  pub zero_mul : (a : ℕ) → a < o.order → o.mul 0 a ≡ 0
  zero_mul a h = r.mul_comm 0 a zero_in h ∙ mul_zero a h

  pub mul_none_left : (a b x : ℕ) → x ≡ taken o.order a → x ≡ 0 → 0 ≡ o.mul a b
  mul_none_left a b x e z =
      sym (r.mul_taken a b ∙ ap (λ (y : ℕ). o.mul y (taken o.order b)) (sym e ∙ z) ∙ zero_mul _ (taken_in o.order b zero_in))

  pub mul_none_right : (a b y : ℕ) → y ≡ taken o.order b → y ≡ 0 → 0 ≡ o.mul a b
  mul_none_right a b y e z =
      sym (r.mul_taken a b ∙ ap (o.mul (taken o.order a)) (sym e ∙ z) ∙ mul_zero _ (taken_in o.order a zero_in))

  -- 0 is added, and added to
  pub add_none : (a s x : ℕ) → s ≡ taken o.order a → 0 ≡ x → s ≡ o.add a x
  add_none a s x e z =
      e ∙ sym (r.add_taken a 0 ∙ ap (o.add (taken o.order a)) (taken_same o.order 0 zero_in) ∙ r.add_zero _ (taken_in o.order a zero_in)) ∙ ap (o.add a) z

  pub none_add : (x : ℕ) → x < o.order → o.add 0 x ≡ x
  none_add x h = r.add_comm 0 x zero_in h ∙ r.add_zero x h

  -- a number has at most one inverse
  once : (a b c : ℕ) → a < o.order → b < o.order → c < o.order → o.mul a b ≡ 1 → o.mul a c ≡ 1 → b ≡ c
  once a b c ha hb hc p q =
      sym (r.mul_one b hb) ∙ ap (o.mul b) (sym q) ∙ sym (r.mul_assoc b a c hb ha hc)
      ∙ ap (λ (x : ℕ). o.mul x c) (r.mul_comm b a hb ha ∙ p) ∙ one_mul c hc

  module _ {g : ℕ} (gin : g < o.order) where
    pub power_in : (i : ℕ) → power o g i < o.order
    unfolding power
    power_in zero = one_in
    power_in (suc i) = r.mul_in g (power o g i)

    pub power_add : (i j : ℕ) → power o g (i + j) ≡ o.mul (power o g i) (power o g j)
    unfolding power
    power_add zero j = rw zero-add (sym (one_mul _ (power_in j)))
    power_add (suc i) j =
        rw suc-add (ap (o.mul g) (power_add i j) ∙ sym (r.mul_assoc g _ _ gin (power_in i) (power_in j)))

    module _ (n : ℕ) (round : power o g n ≡ 1) where
      power_back : (i : ℕ) → power o g (n + i) ≡ power o g i
      power_back i = power_add n i ∙ ap (λ (x : ℕ). o.mul x (power o g i)) round ∙ one_mul _ (power_in i)

      -- a power is 1 again only after n steps
      power_apart : ((i : ℕ) → i < n → power o g i ≡ 1 → i ≡ 0) → (i j : ℕ) → i < n → j < n → power o g i ≡ power o g j → j ≤ i
      power_apart single i j hi hj e = on (leb j i) (leb→le j i) (nleb→lt j i) where
        on : (b : Bool) → (T b → j ≤ i) → (T (not b) → i < j) → j ≤ i
        on true f _ = f tt
        on false _ f =
            let h : i < j = f tt in
            let m : n + (j - i) ≡ (n - i) + j = omega arith in
            let k : (n - i) + i ≡ n = omega arith in
            let z : power o g (j - i) ≡ 1 = sym (power_back (j - i)) ∙ ap (power o g) m ∙ power_add (n - i) j ∙ ap (o.mul (power o g (n - i))) (sym e) ∙ sym (power_add (n - i) i) ∙ ap (power o g) k ∙ round in
            let y : j - i ≡ 0 = single (j - i) (omega arith) z in omega arith

  -- the picked inverse is any inverse
  pub inverse_is : (a x : ℕ) → a < o.order → x < o.order → o.mul a x ≡ 1 → inverse_of o a ≡ x
  inverse_is a x ha hx e =
      let same : taken o.order a ≡ a = taken_same o.order a ha in
      let f : ℕ → Bool = λ b. eqb (o.mul a b) 1 in
      let u = pick_hit f o.order x hx (subst (λ (y : ℕ). T (eqb y 1)) (sym e) tt) in
      ap (λ (y : ℕ). pick (λ b. eqb (o.mul y b) 1) o.order) same ∙ once a (pick f o.order) x ha u.1 hx (eqb→eq _ _ u.0) e

  inverse_zero : inverse_of o 0 ≡ 0
  inverse_zero =
      ap (λ (y : ℕ). pick (λ b. eqb (o.mul y b) 1) o.order) (taken_same o.order 0 zero_in)
      ∙ pick_none (λ b. eqb (o.mul 0 b) 1) o.order (λ x h. ap (λ (y : ℕ). eqb y 1) (zero_mul x h))

  pub inverse_taken : (a : ℕ) → inverse_of o a ≡ inverse_of o (taken o.order a)
  inverse_taken a = ap (λ (y : ℕ). pick (λ b. eqb (o.mul y b) 1) o.order) (sym (taken_same o.order (taken o.order a) (taken_in o.order a zero_in)))

  -- where each element but 0 has something that times it is 1, the picked inverses are right
  pub inverses : ((a : ℕ) → 0 < a → a < o.order → (x : ℕ) × ((x < o.order) × (o.mul a x ≡ 1))) → Inverses o (inverse_of o)
  inverses some = record {
    inv_in = λ a. pick_in _ o.order zero_in;
    inv_taken = inverse_taken;
    inv_zero = inverse_zero;
    mul_inv = λ a h p. let (x, (hx, e)) = some a p h in ap (o.mul a) (inverse_is a x h hx e) ∙ e;
  }

  -- what is answered for any a, of which b is what is taken
  pub inverse_none : (a b : ℕ) → b ≡ taken o.order a → b ≡ 0 → 0 ≡ inverse_of o a
  inverse_none a b e z = sym (inverse_taken a ∙ ap (inverse_of o) (sym e ∙ z) ∙ inverse_zero)

  pub inverse_some : (a b x : ℕ) → b ≡ taken o.order a → x < o.order → o.mul b x ≡ 1 → x ≡ inverse_of o a
  inverse_some a b x e hx m =
      let h : b < o.order = rw e (taken_in o.order a zero_in) in
      sym (inverse_is b x h hx m) ∙ ap (inverse_of o) e ∙ sym (inverse_taken a)

  module _ {is : List ℕ} (ip : InverseTable o is) where
    -- inverses by their table
    pub entry_inverses : Inverses o (inverse_of o)
    entry_inverses = inverses (λ a p h. (get_or is a 0, (ip.inv_in a p h, ip.mul_entry a p h)))

    pub entry_inverse : (a b : ℕ) → b ≡ taken o.order a → get_or is b 0 ≡ inverse_of o a
    entry_inverse a b e = on b e (rw e (taken_in o.order a zero_in)) where
      on : (b : ℕ) → b ≡ taken o.order a → b < o.order → get_or is b 0 ≡ inverse_of o a
      on zero f h = ip.at_zero ∙ inverse_none a 0 f refl
      on (suc b) f h = inverse_some a (suc b) _ f (ip.inv_in (suc b) (omega arith) h) (ip.mul_entry (suc b) (omega arith) h)

  module _ {g : ℕ} (gin : g < o.order) {es : List ℕ} (ep : Powers o g es) where
    -- past the last power, the table begins again
    pub power_past : (i : ℕ) → length es ≤ i → i < length es + length es → get_or es (i - length es) 0 ≡ power o g i
    power_past i h k =
        let y = ep.long in
        let e : length es + (i - length es) ≡ i = omega arith in
        ep.is (i - length es) (omega arith) ∙ sym (power_back gin (length es) ep.round (i - length es)) ∙ ap (power o g) e

  module _ {g : ℕ} (gin : g < o.order) {ls : List ℕ} (lp : Logarithms o g ls) where
    -- a product by logarithms, at any a and b, of which x and y are what is taken
    pub product_some : (a b x y : ℕ) → x ≡ taken o.order a → y ≡ taken o.order b → (x ≡ 0 → ⊥) → (y ≡ 0 → ⊥)
        → power o g (get_or ls x 0 + get_or ls y 0) ≡ o.mul a b
    product_some a b x y e f p q =
        let hx : x < o.order = rw e (taken_in o.order a zero_in) in let hy : y < o.order = rw f (taken_in o.order b zero_in) in
        let u = lp.power_log x (omega arith) hx in let v = lp.power_log y (omega arith) hy in
        power_add gin (get_or ls x 0) (get_or ls y 0) ∙ cc (u, v, e, f, r.mul_taken a b)

  module _ {g : ℕ} (gin : g < o.order) {es ls : List ℕ} (ep : Powers o g es) (lp : Logarithms o g ls) where
    -- an inverse by logarithms
    one_product : (a : ℕ) → 0 < a → a < o.order → o.mul a (power o g (length es - get_or ls a 0)) ≡ 1
    one_product a pa ha =
        let y = ep.long in let x = lp.log_in a pa ha in
        let k : get_or ls a 0 + (length es - get_or ls a 0) ≡ length es = omega arith in
        ap (λ (x : ℕ). o.mul x (power o g (length es - get_or ls a 0))) (sym (lp.power_log a pa ha))
        ∙ sym (power_add gin (get_or ls a 0) (length es - get_or ls a 0)) ∙ ap (power o g) k ∙ ep.round

    pub log_inverses : Inverses o (inverse_of o)
    log_inverses = inverses (λ a p h. (power o g (length es - get_or ls a 0), (power_in gin _, one_product a p h)))

    pub log_inverse : (a b : ℕ) → b ≡ taken o.order a → (b ≡ 0 → ⊥) → power o g (length es - get_or ls b 0) ≡ inverse_of o a
    log_inverse a b e p =
        let h : b < o.order = rw e (taken_in o.order a zero_in) in
        inverse_some a b _ e (power_in gin _) (one_product b (omega arith) h)

  module _ {g : ℕ} (gin : g < o.order) {es : List ℕ} (ep : Powers o g es) where
    pub point_within : (i : ℕ) → i + 1 < o.order → point_of o g i ≡ power o g i
    point_within i h = on (ltb (i + 1) o.order) (lt→ltb _ _ h) where
      on : (b : Bool) → T b → cond b (power o g i) 0 ≡ power o g i
      on true t = refl
      on false t = absurd t

    pub point_past : (i : ℕ) → o.order ≤ i + 1 → point_of o g i ≡ 0
    point_past i h = on (ltb (i + 1) o.order) (le→nltb _ _ h) where
      on : (b : Bool) → T (not b) → cond b (power o g i) 0 ≡ 0
      on true t = absurd t
      on false t = refl

    apart : (i j : ℕ) → i + 1 < o.order → j + 1 < o.order → point_of o g i ≡ point_of o g j → j ≤ i
    apart i j hi hj e =
        let z = ep.long in
        power_apart gin (length es) ep.round (λ k h p. ep.one_once k (omega arith) (ep.is k (omega arith) ∙ p)) i j (omega arith) (omega arith)
        (sym (point_within i hi) ∙ e ∙ point_within j hj)

    pub points : Points o (point_of o g)
    points = record {
      point_in = λ i. on i (ltb (i + 1) o.order);
      point_nonzero = λ i h. subst (λ (x : ℕ). 0 < x) (ep.is i h ∙ sym (point_within i h)) (ep.nonzero i h);
      point_apart = λ i j hi hj e. le_antisymm (apart j i hj hi (sym e)) (apart i j hi hj e);
      point_beyond = point_past;
    } where
      on : (i : ℕ) (b : Bool) → cond b (power o g i) 0 < o.order
      on i true = power_in gin i
      on i false = zero_in
