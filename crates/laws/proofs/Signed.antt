-- Words as whole numbers with a sign: `+ - *` and unary `-` keep them modulo 2^32, and they compare as numbers.
use Prim.Native.Nat.{ℕ, suc, ◌+◌, ◌*◌, ◌-◌, ◌/◌, ◌%◌, ◌^◌, ◌≤◌, ◌<◌}
use mathlib.Core.Path.{◌≡◌, refl, sym, ap, ap₂, subst, ◌∙◌}
use mathlib.Core.Bool.{Bool, true, false}
use mathlib.Core.Bool as B
use native.Mathlib.Omega.{arith}
use lib.Dec.{eqb, ltb, lt→ltb, le→leb, ltb→lt, leb→le}
use lib.IntN.{ℤ, pos, negsuc, sub_ℕ, ◌+ℤ◌, ◌-ℤ◌, ◌*ℤ◌, neg_ℤ}
use lib.Signed.{◌≤ℤ◌, ◌<ℤ◌, lt_z, lt_z_yes, lt_z_no, le_z_yes, clash_ℤ}
use borrow.Author.Tests.{ltb-true, ltb-false, lt-ltb, le-ltb, eqb-true, eqb-false}
use Rattle.meaning.specs.Memory.{bit}
use Rattle.meaning.specs.Running.{word, less}
use Rattle.laws.specs.Arithmetic.{signed, KeepsLow, Says}
use Rattle.laws.proofs.Integers.{is_pos, is_negsuc, same_difference, crosswise, negative_of, sum_of, product_of}
use Rattle.laws.proofs.Tests.{by_if}
use Rattle.laws.proofs.Values.{word_low}

-- A word below 2^31 is its own number; any other stands for the number 2^32 below it.
by_sign : (P : ℤ → Type 0) (w : ℕ) → w < 2 ^ 32 → (w < 2 ^ 31 → P (pos w)) → (2 ^ 31 ≤ w → P (negsuc (2 ^ 32 - suc w))) → P (signed w)
unfolding signed
by_sign P w low f g =
    by_if P (ltb w (2 ^ 31)) (λ _. pos w) (λ _. pos w -ℤ pos (2 ^ 32))
    (λ t. f (ltb-true w (2 ^ 31) t))
    (λ t. subst P (sym (is_negsuc w (2 ^ 32) (2 ^ 32 - suc w) (omega arith))) (g (ltb-false w (2 ^ 31) t)))

-- The same by differences.
by_difference_of : (P : ℤ → Type 0) (w : ℕ) → w < 2 ^ 32 → (w < 2 ^ 31 → P (sub_ℕ w 0)) → (2 ^ 31 ≤ w → P (sub_ℕ w (2 ^ 32))) → P (signed w)
by_difference_of P w low f g =
    by_sign P w low
    (λ h. subst P (is_pos w 0 w (omega arith)) (f h))
    (λ h. subst P (is_negsuc w (2 ^ 32) (2 ^ 32 - suc w) (omega arith)) (g h))

-- A number that the text can have stands for itself.
pub signed-number : (n : ℕ) → n < 2 ^ 31 → signed n ≡ pos n
signed-number n h = by_sign (λ z. z ≡ pos n) n (omega arith) (λ _. refl) (λ l. absurd (omega arith))

-- Two words that stand for one number are the same.
pub signed_once : (a b : ℕ) → a < 2 ^ 32 → b < 2 ^ 32 → signed a ≡ signed b → a ≡ b
signed_once a b low low' e =
    by_difference_of (λ z. z ≡ signed b → a ≡ b) a low
    (λ h. by_difference_of (λ z. sub_ℕ a 0 ≡ z → a ≡ b) b low' (λ g s. omega (arith, crosswise a 0 b 0 s)) (λ g s. omega (arith, crosswise a 0 b (2 ^ 32) s)))
    (λ h. by_difference_of (λ z. sub_ℕ a (2 ^ 32) ≡ z → a ≡ b) b low' (λ g s. omega (arith, crosswise a (2 ^ 32) b 0 s)) (λ g s. omega (arith, crosswise a (2 ^ 32) b (2 ^ 32) s)))
    e

-- Numbers of 32 bits and a sign.
signed_from : (w : ℕ) → w < 2 ^ 32 → neg_ℤ (pos (2 ^ 31)) ≤ℤ signed w
signed_from w low =
    by_sign (λ z. neg_ℤ (pos (2 ^ 31)) ≤ℤ z) w low (λ h. le_z_yes tt) (λ h. le_z_yes (le→leb (2 ^ 32 - suc w) (2 ^ 31 - 1) (omega arith)))

signed_to : (w : ℕ) → w < 2 ^ 32 → signed w <ℤ pos (2 ^ 31)
signed_to w low = by_sign (λ z. z <ℤ pos (2 ^ 31)) w low (λ h. lt_z_yes (lt→ltb w (2 ^ 31) h)) (λ h. lt_z_yes tt)

scaled : (t q : ℕ) → sub_ℕ t q *ℤ pos (2 ^ 32) ≡ sub_ℕ (t * 2 ^ 32) (q * 2 ^ 32)
scaled t q = product_of t q (2 ^ 32) 0 ∙ same_difference (t * 2 ^ 32 + q * 0) (t * 0 + q * 2 ^ 32) (t * 2 ^ 32) (q * 2 ^ 32) (omega arith)

-- The number of a word is the same modulo 2^32 as x - y, where x and y + w are.
module _ (x y w : ℕ) (low : w < 2 ^ 32) where
  turned : (h q t : ℕ) → x + h + q * 2 ^ 32 ≡ y + w + t * 2 ^ 32 → sub_ℕ x y ≡ sub_ℕ w h +ℤ sub_ℕ t q *ℤ pos (2 ^ 32)
  turned h q t e =
      rw (scaled t q, sum_of w h (t * 2 ^ 32) (q * 2 ^ 32)) (same_difference x y (w + t * 2 ^ 32) (h + q * 2 ^ 32) (omega arith))

  keeps : (q t : ℕ) → x + q * 2 ^ 32 ≡ y + w + t * 2 ^ 32 → KeepsLow (sub_ℕ x y) (signed w)
  keeps q t e =
      let turn = by_difference_of (λ z. (turns : ℤ) × (sub_ℕ x y ≡ z +ℤ turns *ℤ pos (2 ^ 32))) w low
      (λ h. (sub_ℕ t q, turned 0 q t (omega arith)))
      (λ h. (sub_ℕ (suc t) q, turned (2 ^ 32) q (suc t) (omega arith))) in
      record { turns = turn.0; modulo = turn.1; from = signed_from w low; to = signed_to w low }

-- "Integer `+ - *` and unary `-` keep the low 32 bits, as two's complement."
module _ (a : ℕ) (low_a : a < 2 ^ 32) where
  pub negative_kept : KeepsLow (neg_ℤ (signed a)) (signed (word (2 ^ 32 - a)))
  unfolding word
  negative_kept =
      let w = (2 ^ 32 - a) % 2 ^ 32 in
      let over = (2 ^ 32 - a) / 2 ^ 32 in
      by_difference_of (λ z. KeepsLow (neg_ℤ z) (signed w)) a low_a
      (λ _. rw (negative_of a 0) (keeps 0 a w (word_low (2 ^ 32 - a)) 1 over (omega arith)))
      (λ _. rw (negative_of a (2 ^ 32)) (keeps (2 ^ 32) a w (word_low (2 ^ 32 - a)) 0 over (omega arith)))

  module _ (b : ℕ) (low_b : b < 2 ^ 32) where
    -- By the signs of both.
    by_differences : (P : ℤ → ℤ → Type 0) → P (sub_ℕ a 0) (sub_ℕ b 0) → P (sub_ℕ a 0) (sub_ℕ b (2 ^ 32)) → P (sub_ℕ a (2 ^ 32)) (sub_ℕ b 0) → P (sub_ℕ a (2 ^ 32)) (sub_ℕ b (2 ^ 32)) → P (signed a) (signed b)
    by_differences P p q r s =
        by_difference_of (λ z. P z (signed b)) a low_a
        (λ _. by_difference_of (λ z. P (sub_ℕ a 0) z) b low_b (λ _. p) (λ _. q))
        (λ _. by_difference_of (λ z. P (sub_ℕ a (2 ^ 32)) z) b low_b (λ _. r) (λ _. s))

    pub sum_kept : KeepsLow (signed a +ℤ signed b) (signed (word (a + b)))
    unfolding word
    sum_kept =
        by_differences (λ x y. KeepsLow (x +ℤ y) (signed w)) (go 0 0 0 (omega arith)) (go 0 (2 ^ 32) 1 (omega arith)) (go (2 ^ 32) 0 1 (omega arith)) (go (2 ^ 32) (2 ^ 32) 2 (omega arith))
      where
        w : ℕ
        w = (a + b) % 2 ^ 32

        go : (h g q : ℕ) → a + b + q * 2 ^ 32 ≡ h + g + w + (a + b) / 2 ^ 32 * 2 ^ 32 → KeepsLow (sub_ℕ a h +ℤ sub_ℕ b g) (signed w)
        go h g q e = rw (sum_of a h b g) (keeps (a + b) (h + g) w (word_low (a + b)) q ((a + b) / 2 ^ 32) e)

    pub difference_kept : KeepsLow (signed a -ℤ signed b) (signed (word (a + (2 ^ 32 - b))))
    unfolding word
    difference_kept =
        by_differences (λ x y. KeepsLow (x -ℤ y) (signed w)) (go 0 0 1 (omega arith)) (go 0 (2 ^ 32) 0 (omega arith)) (go (2 ^ 32) 0 2 (omega arith)) (go (2 ^ 32) (2 ^ 32) 1 (omega arith))
      where
        w : ℕ
        w = (a + (2 ^ 32 - b)) % 2 ^ 32

        over : ℕ
        over = (a + (2 ^ 32 - b)) / 2 ^ 32

        go : (h g q : ℕ) → a + g + q * 2 ^ 32 ≡ h + b + w + over * 2 ^ 32 → KeepsLow (sub_ℕ a h -ℤ sub_ℕ b g) (signed w)
        go h g q e = rw (negative_of b g, sum_of a h g b) (keeps (a + g) (h + b) w (word_low (a + (2 ^ 32 - b))) q over e)

    pub product_kept : KeepsLow (signed a *ℤ signed b) (signed (word (a * b)))
    unfolding word
    product_kept =
        by_differences (λ x y. KeepsLow (x *ℤ y) (signed w)) (go 0 0 0 0 (omega arith)) (go 0 (2 ^ 32) a 0 (omega arith)) (go (2 ^ 32) 0 b 0 (omega arith)) (go (2 ^ 32) (2 ^ 32) (a + b) (2 ^ 32) (omega arith))
      where
        w : ℕ
        w = a * b % 2 ^ 32

        go : (h g q t : ℕ) → a * b + h * g + q * 2 ^ 32 ≡ a * g + h * b + w + (a * b / 2 ^ 32 + t) * 2 ^ 32 → KeepsLow (sub_ℕ a h *ℤ sub_ℕ b g) (signed w)
        go h g q t e = rw (product_of a h b g) (keeps (a * b + h * g) (a * g + h * b) w (word_low (a * b)) q (a * b / 2 ^ 32 + t) e)

-- A test's lane says what the test decides.
pub says : {P : Type 0} (t : Bool) → (t ≡ true → P) → (t ≡ false → P → ⊥) → Says P (bit t)
unfolding bit
says true so never = record { holds = λ _. refl; fails = λ n. absurd (n (so refl)) }
says false so never = record { holds = λ p. absurd (never refl p); fails = λ _. refl }

pub says_not : {P : Type 0} (t : Bool) → (t ≡ true → P) → (t ≡ false → P → ⊥) → Says (P → ⊥) (bit (B.not t))
unfolding bit
says_not true so never = record { holds = λ n. absurd (n (so refl)); fails = λ _. refl }
says_not false so never = record { holds = λ _. refl; fails = λ n. absurd (n (never refl)) }

-- Two tests that agree.
same_test : (x y x' y' : ℕ) → (x < y → x' < y') → (y ≤ x → y' ≤ x') → ltb x y ≡ ltb x' y'
same_test x y x' y' f g = go (ltb x y) refl
  where
    go : (t : Bool) → ltb x y ≡ t → ltb x y ≡ ltb x' y'
    go true e = e ∙ sym (lt-ltb x' y' (f (ltb-true x y e)))
    go false e = e ∙ sym (le-ltb x' y' (g (ltb-false x y e)))

-- "Ints compare as signed".
pub less-signed : (a b : ℕ) → a < 2 ^ 32 → b < 2 ^ 32 → less a b ≡ lt_z (signed a) (signed b)
unfolding less word
less-signed a b low_a low_b =
    by_sign (λ z. less a b ≡ lt_z z (signed b)) a low_a
    (λ h. by_sign (λ z. less a b ≡ lt_z (pos a) z) b low_b
    (λ g. same_test x y a b (λ l. omega arith) (λ l. omega arith))
    (λ g. le-ltb x y (omega arith)))
    (λ h. by_sign (λ z. less a b ≡ lt_z (negsuc (2 ^ 32 - suc a)) z) b low_b
    (λ g. lt-ltb x y (omega arith))
    (λ g. same_test x y (2 ^ 32 - suc b) (2 ^ 32 - suc a) (λ l. omega arith) (λ l. omega arith)))
  where
    x : ℕ
    x = (a + 2 ^ 31) % 2 ^ 32

    y : ℕ
    y = (b + 2 ^ 31) % 2 ^ 32

module _ (a b : ℕ) (low_a : a < 2 ^ 32) (low_b : b < 2 ^ 32) where
  pub less_says : Says (signed a <ℤ signed b) (bit (less a b))
  less_says =
      rw (less-signed a b low_a low_b)
      (says (lt_z (signed a) (signed b)) (λ e. lt_z_yes (rw e tt)) (λ e l. clash_ℤ l (lt_z_no (rw e tt))))

  pub not_less_says : Says (signed b ≤ℤ signed a) (bit (B.not (less a b)))
  unfolding bit
  not_less_says = rw (less-signed a b low_a low_b) (go (lt_z (signed a) (signed b)) refl)
    where
      go : (t : Bool) → lt_z (signed a) (signed b) ≡ t → Says (signed b ≤ℤ signed a) (bit (B.not t))
      go true e = record { holds = λ l. clash_ℤ (lt_z_yes (rw e tt)) l; fails = λ _. refl }
      go false e = record { holds = λ _. refl; fails = λ n. absurd (n (lt_z_no (rw e tt))) }

  pub equal_says : Says (signed a ≡ signed b) (bit (eqb a b))
  equal_says = says (eqb a b) (λ e. ap signed (eqb-true a b e)) (λ e s. eqb-false a b e (signed_once a b low_a low_b s))

  pub unequal_says : Says (signed a ≡ signed b → ⊥) (bit (B.not (eqb a b)))
  unequal_says = says_not (eqb a b) (λ e. ap signed (eqb-true a b e)) (λ e s. eqb-false a b e (signed_once a b low_a low_b s))

-- One number alone keeps the low 32 bits of another.
record Parts (z : ℤ) : Type 0 where
  up : ℕ
  down : ℕ
  is : z ≡ sub_ℕ up down
  few_up : z <ℤ pos (2 ^ 31) → up < 2 ^ 31
  few_down : neg_ℤ (pos (2 ^ 31)) ≤ℤ z → down ≤ 2 ^ 31

parts : (z : ℤ) → Parts z
parts (pos n) = record { up = n; down = 0; is = sym (is_pos n 0 n (omega arith)); few_up = λ l. ltb→lt n (2 ^ 31) l.lt; few_down = λ _. omega arith }
parts (negsuc n) = record { up = 0; down = suc n; is = sym (is_negsuc 0 (suc n) n (omega arith)); few_up = λ _. omega arith; few_down = λ l. omega (arith, leb→le n (2 ^ 31 - 1) l.le) }

pub kept_once : {exact kept kept' : ℤ} → KeepsLow exact kept → KeepsLow exact kept' → kept ≡ kept'
kept_once {exact} {kept} {kept'} k k' =
    let z = parts kept in
    let z' = parts kept' in
    let t = parts k.turns in
    let t' = parts k'.turns in
    let cross = crosswise (z.up + t.up * 2 ^ 32) (z.down + t.down * 2 ^ 32) (z'.up + t'.up * 2 ^ 32) (z'.down + t'.down * 2 ^ 32)
    (sym (whole z t) ∙ sym k.modulo ∙ k'.modulo ∙ whole z' t') in
    z.is ∙ same_difference z.up z.down z'.up z'.down
    (omega (arith, cross, z.few_up k.to, z'.few_up k'.to, z.few_down k.from, z'.few_down k'.from))
    ∙ sym z'.is
  where
    whole : {x y : ℤ} (p : Parts x) (q : Parts y) → x +ℤ y *ℤ pos (2 ^ 32) ≡ sub_ℕ (p.up + q.up * 2 ^ 32) (p.down + q.down * 2 ^ 32)
    whole {x} {y} p q =
        ap₂ (λ (a b : ℤ). a +ℤ b *ℤ pos (2 ^ 32)) p.is q.is
        ∙ ap (λ (b : ℤ). sub_ℕ p.up p.down +ℤ b) (scaled q.up q.down)
        ∙ sum_of p.up p.down (q.up * 2 ^ 32) (q.down * 2 ^ 32)
