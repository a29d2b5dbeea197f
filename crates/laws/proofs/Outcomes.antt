-- What holds of the outcome of an act, from what holds of its parts: one law for each way of putting acts together.
use Prim.Native.Nat.{ℕ, zero, suc}
use mathlib.Core.Path.{◌≡◌, refl}
use mathlib.Core.Bool.{Bool, true, false}
use mathlib.Core.Option.{Option, none, some}
use native.Mathlib.Omega.{arith}
use Rattle.meaning.specs.declared.Refusal.{Refusal}
use Rattle.meaning.specs.Codes.{Out, ok, refused, Doing, after, give, option, repeat, check}
use Rattle.meaning.specs.Services.{pass}
use Rattle.laws.specs.Outcomes.{Ends, well, refusal, Yields, Still, Beside}

module _ {S A : Type 0} {R : Refusal → ℕ → Type 0} where
  -- Of what is weaker.
  pub weaker : {P Q : A → S → Type 0} {o : Out S A} → Ends P R o → ((a : A) (s : S) → P a s → Q a s) → Ends Q R o
  weaker (well {a = a} {s = s} h) k = well (k a s h)
  weaker (refusal r) k = refusal r

  -- Of two things.
  pub also : {P Q : A → S → Type 0} {o : Out S A} → Ends P R o → Yields Q o → Ends (λ a s. P a s × Q a s) R o
  also (well h) (well k) = well (h, k)
  also (refusal r) (refusal _) = refusal r

  -- Of a value that is given.
  pub still : {P : A → Type 0} {a : A} {s : S} → P a → Ends (Still s P) R (ok a s)
  still h = well (refl, h)

  -- Of one act after another; after one that keeps the state.
  module _ {B : Type 0} {Q : B → S → Type 0} (f : A → Doing S B) where
    pub followed : {P : A → S → Type 0} {o : Out S A} → Ends P R o → ((a : A) (s : S) → P a s → Ends Q R (f a s)) → Ends Q R (after o f)
    followed (well {a = a} {s = s} h) k = k a s h
    followed (refusal r) k = refusal r

    pub keeping : {P : A → Type 0} {s : S} {o : Out S A} → Ends (Still s P) R o → ((a : A) → P a → Ends Q R (f a s)) → Ends Q R (after o f)
    keeping h k = followed h (λ a s' g. rw g.0 (k a g.1))

  -- Of one pass after another.
  pub passed_on : {T B : Type 0} {P : A → S → Type 0} {Q : B → T → Type 0} (k : A → Out T B) {o : Out S A} → Ends P R o → ((a : A) (s : S) → P a s → Ends Q R (k a)) → Ends Q R (pass o k)
  unfolding pass
  passed_on k (well {a = a} {s = s} h) f = f a s h
  passed_on k (refusal r) f = refusal r

  -- Of a refusal, what is weaker.
  pub refused_as : {R' : Refusal → ℕ → Type 0} {P : A → S → Type 0} {o : Out S A} → Ends P R o → ((c : Refusal) (p : ℕ) → R c p → R' c p) → Ends P R' o
  refused_as (well h) k = well h
  refused_as (refusal {c = c} {p = p} r) k = refusal (k c p r)

  -- Of an outcome that is known.
  pub said : {P : A → S → Type 0} {o : Out S A} {a : A} {s : S} → Ends P R o → o ≡ ok a s → P a s
  said {a = a} {s = s} (well {a = b} {s = t} h) e = let x : b ≡ a = cc in let y : t ≡ s = cc in rw (x, y) at h
  said (refusal r) e = let z : ◌≡◌ {A = ℕ} 0 1 = cc in absurd (omega arith)

  pub refusal_said : {P : A → S → Type 0} {o : Out S A} {c : Refusal} {p : ℕ} → Ends P R o → o ≡ refused c p → R c p
  refusal_said (well h) e = let z : ◌≡◌ {A = ℕ} 0 1 = cc in absurd (omega arith)
  refusal_said {c = c} {p = p} (refusal {c = d} {p = q} r) e = let x : d ≡ c = cc in let y : q ≡ p = cc in rw (x, y) at r

-- Of a test, and of what follows it where it held.
module _ {S : Type 0} {R : Refusal → ℕ → Type 0} where
  pub checked : {Q : Unit {0} → S → Type 0} (t : Bool) (c : Refusal) (p : ℕ) (s : S) → R c p → (t ≡ true → Q tt s) → Ends Q R (check t c p s)
  checked true c p s r h = well (h refl)
  checked false c p s r h = refusal r

  pub passed : {B : Type 0} {Q : B → S → Type 0} (t : Bool) (c : Refusal) (p : ℕ) (s : S) (f : Unit {0} → Doing S B) → R c p → (t ≡ true → Ends Q R (f tt s)) → Ends Q R (after (check t c p s) f)
  passed true c p s f r h = h refl
  passed false c p s f r h = refusal r

-- Of turn after turn: what every turn keeps.
module _ {S A : Type 0} {R : Refusal → ℕ → Type 0} (I : A → S → Type 0) (turn : A → Doing S (Option A))
    (keeps : (a : A) (s : S) → I a s → Ends (λ o s'. I (option a (λ a'. a') o) s') R (turn a s)) where
  pub repeated : (k : ℕ) (a : A) (s : S) → I a s → Ends I R (repeat k turn a s)
  repeated zero a s h = well h
  repeated (suc k) a s h = followed _ (keeps a s h) (go (repeated k))
    where
      go : ((a : A) (s : S) → I a s → Ends I R (repeat k turn a s)) → (o : Option A) (s' : S) → I (option a (λ a'. a') o) s' → Ends I R (option (give a) (λ a'. repeat k turn a') o s')
      go rest none s' i = well i
      go rest (some a') s' i = rest a' s' i

-- Of two acts side by side: one after another, a test that the second passes where the first does, and what is weaker.
module _ {S A S' A' : Type 0} {Q : A → S → A' → S' → Type 0} where
  pub both_well : {a : A} {s : S} {a' : A'} {s' : S'} → Q a s a' s' → Beside Q (ok a s) (ok a' s')
  both_well {a' = a'} {s' = s'} q = well (record { value = a'; state = s'; is = refl; so = q })

  pub both_followed : {B B' : Type 0} {Q' : B → S → B' → S' → Type 0} {o : Out S A} {o' : Out S' A'} (f : A → Doing S B) (f' : A' → Doing S' B')
      → Beside Q o o' → ((a : A) (s : S) (a' : A') (s' : S') → Q a s a' s' → Beside Q' (f a s) (f' a' s')) → Beside Q' (after o f) (after o' f')
  both_followed f f' h k = followed f h (λ a s g. rw g.is (k a s g.value g.state g.so))

  pub both_weaker : {Q' : A → S → A' → S' → Type 0} {o : Out S A} {o' : Out S' A'} → Beside Q o o' → ((a : A) (s : S) (a' : A') (s' : S') → Q a s a' s' → Q' a s a' s') → Beside Q' o o'
  both_weaker h k = weaker h (λ a s g. record { value = g.value; state = g.state; is = g.is; so = k a s g.value g.state g.so })

  pub both_passed : (t t' : Bool) (c : Refusal) (p : ℕ) (s : S) (s' : S') (f : Unit {0} → Doing S A) (f' : Unit {0} → Doing S' A') → (t ≡ true → t' ≡ true) → (t ≡ true → Beside Q (f tt s) (f' tt s'))
      → Beside Q (after (check t c p s) f) (after (check t' c p s') f')
  both_passed t t' c p s s' f f' h k = passed t c p s f tt (λ e. rw (h e) (k e))

pub both_checked : {S S' : Type 0} {Q : Unit {0} → S → Unit {0} → S' → Type 0} (t t' : Bool) (c : Refusal) (p : ℕ) (s : S) (s' : S') → (t ≡ true → t' ≡ true) → (t ≡ true → Q tt s tt s')
    → Beside Q (check t c p s) (check t' c p s')
both_checked t t' c p s s' h k = checked t c p s tt (λ e. record { value = tt; state = s'; is = rw (h e) refl; so = k e })
