-- What goes on by the rules, statement by statement: where lengths match as typing says, a run that ends has a derivation in the
-- steps that it took, and a run that is spent one of the step that is due.
use Prim.Native.Nat.{ℕ, zero, suc, ◌+◌, ◌≤◌}
use mathlib.Core.Path.{◌≡◌, refl, ◌∙◌}
use mathlib.Core.Bool.{Bool, true, false}
use mathlib.Core.List.{[], ◌∷◌}
use native.Mathlib.Omega.{arith}
use lib.ListN.{length}
use Rattle.meaning.specs.declared.Refusal.TheVariants.{BudgetSpent}
use Rattle.meaning.specs.Program.{Code, Program, nothing, step, put, both, choice, cycle, alone}
use Rattle.meaning.specs.Memory.{Memory, Value, Mask, Declarations, declared, update}
use Rattle.meaning.specs.Running.{Ran, Run, stopped, done, costs, and_then, some_lane, unless_empty, loop, evaluating, testing, run}
use Rattle.meaning.specs.Services.{evaluate, effect, program_run}
use Rattle.meaning.specs.Typing.{joined}
use Rattle.rules.specs.Lengths.{Match, Target, Fills, whole, broadcast}
use Rattle.rules.specs.Evaluation.{◌∩◌, ◌∖◌, End, ended, due}
use Rattle.rules.proofs.Resolved.{◌∣◌∣◌▹◌⇒◌, step_costs, put_costs, choice_costs, ◌∣◌∣◌▹◌⇓◌after◌, r_inactive, r_active, ◌∣◌∣◌▹◌↓◌after◌, r_nothing, r_decl, r_assign, r_broadcast, r_sequence, r_if, r_while, r_scalar, r_due, r_sequence_due, r_if_due, Loop, r_leave, r_again, r_test_due, r_body_due}
use Rattle.rules.proofs.Masks.{runs, skips, branches_as_rule}
use Rattle.rules.proofs.Lengths.{length_first, length_second, joined_again, joined-match}
use Rattle.rules.proofs.Derived.{has_value, turns, run_both, run_cycle, run_alone, tested, broadcast as broadcasts}

-- By the rules J: a run that ends did so in the steps that it took, and one that is spent after its whole budget b.
pub data ByRules (J : End → ℕ → Type 0) (b : ℕ) : Ran Memory → Type 0 where
  ends : {M : Memory} (n left : ℕ) → J (ended M) n → n + left ≡ b → ByRules J b (done M left)
  spends : {p : ℕ} {M : Memory} → J (due p M) b → ByRules J b (stopped BudgetSpent p M 0)

-- Other rules; one step more; rules after rules.
pub to_rules : {J K : End → ℕ → Type 0} {b : ℕ} {R : Ran Memory} → ((r : End) (n : ℕ) → J r n → K r n) → ByRules J b R →
    ByRules K b R
to_rules f (ends n left d e) = ends n left (f _ _ d) e
to_rules f (spends d) = spends (f _ _ d)

one_more : {J K : End → ℕ → Type 0} {b : ℕ} {R : Ran Memory} → ((r : End) (n : ℕ) → J r n → K r (suc n)) → ByRules J b R →
    ByRules K (suc b) R
one_more f (ends n left d e) = ends (suc n) left (f _ _ d) (omega arith)
one_more f (spends d) = spends (f _ _ d)

rules_after : {J L : End → ℕ → Type 0} {K : Memory → End → ℕ → Type 0} {b : ℕ} {R : Ran Memory} (k : ℕ → Memory → Ran Memory) →
    ((M : Memory) (r : End) (n n' : ℕ) → J (ended M) n → K M r n' → L r (n + n')) →
    ((p : ℕ) (M : Memory) (n : ℕ) → J (due p M) n → L (due p M) n) →
    ByRules J b R → ((M : Memory) (left : ℕ) → left ≤ b → ByRules (K M) left (k left M)) → ByRules L b (and_then R k)
unfolding and_then
rules_after {L} {K} {b} k join cut (ends {M = M} n left d e) h = go (h M left (omega arith))
  where
    go : {R : Ran Memory} → ByRules (K M) left R → ByRules L b R
    go (ends n' left' d' e') = ends (n + n') left' (join _ _ _ _ d d') (omega arith)
    go (spends d') = spends (rw e at (join _ _ _ _ d d'))
rules_after k join cut (spends d) h = spends (cut _ _ _ d)

module _ (Γ : Declarations) where
  -- An expression has a value, of n lanes.
  pub record HasValue (m : Mask) (M : Memory) (e : Code) (n : ℕ) : Type 0 where
    pub lanes : Value
    pub derived : Γ ∣ m ∣ M ▹ e ⇒ lanes
    pub long : length lanes ≡ n

  -- It does under every mask of C lanes.
  abbrev pub Valued : ℕ → Code → ℕ → Type 0
  Valued C e n = (m : Mask) (M : Memory) → length m ≡ C → HasValue m M e n

  -- What runs under a mask of C lanes, one of them active, does so by the rules.
  pub record Goes (C : ℕ) (s : Program) : Type 0 where
    pub by_rules : (m : Mask) (M : Memory) (b : ℕ) → length m ≡ C → some_lane m ≡ true →
        ByRules (λ r n. Γ ∣ m ∣ M ▹ s ↓ r after n) b (program_run Γ s m b M)

  -- A value of n lanes is stored by r_assign or r_broadcast.
  stored : {m : Mask} {M : Memory} {p x n : ℕ} {e : Code} (v : Value) → Γ ∣ m ∣ M ▹ e ⇒ v → length v ≡ n →
      Fills n (declared Γ x).lanes → Target (length m) (declared Γ x).lanes →
      Γ ∣ m ∣ M ▹ put p x e ↓ ended (update Γ M x m v) after 1
  stored v d l (whole e) t = r_assign d (l ∙ e) t
  stored [] d l (broadcast e) t = absurd (omega arith)
  stored {m} {M} {x} (a ∷ []) d l (broadcast e) t = rw (broadcasts Γ M x m a) (r_broadcast d t)
  stored (a ∷ b ∷ v) d l (broadcast e) t = absurd (omega arith)

  -- Under any mask of C lanes.
  branch_goes : {C : ℕ} {s : Program} → Goes C s → (m : Mask) (M : Memory) (b : ℕ) → length m ≡ C →
      ByRules (λ r n. Γ ∣ m ∣ M ▹ s ⇓ r after n) b (unless_empty (program_run Γ s) m b M)
  branch_goes {s} g m M b l = at (some_lane m) refl
    where
      at : (t : Bool) → some_lane m ≡ t → ByRules (λ r n. Γ ∣ m ∣ M ▹ s ⇓ r after n) b (unless_empty (program_run Γ s) m b M)
      at true a = rw (runs (program_run Γ s) m b M a) (to_rules (λ _ _ d. r_active a d) (g.by_rules m M b l a))
      at false a = rw (skips (program_run Γ s) m b M a) (ends 0 b (r_inactive a) (omega arith))

  -- A loop whose condition has n lanes and whose body runs under C'.
  module _ (p n C' : ℕ) (e : Code) (s : Program) (m₀ : Mask) (v : (M : Memory) → HasValue m₀ M e n) (g : Goes C' s) where
    Looping : ℕ → ℕ → Mask → Memory → Type 0
    Looping k b m M = ByRules (Loop Γ p e s m₀ m M) b (turns Γ k p e s m₀ m b M)

    -- A turn of it, from the turns after.
    turn_goes : (k b : ℕ) (m : Mask) (M : Memory) → Match (length m) n → joined n (length m) ≡ C' → some_lane m ≡ true →
        ((left : ℕ) (m : Mask) (M : Memory) → left ≤ b → Match (length m) n → joined n (length m) ≡ C' → some_lane m ≡ true →
        Looping k left m M) →
        Looping (suc k) (suc b) m M
    unfolding Looping
    turn_goes k b m M f j a later = rw (tested Γ m m₀ M p e s c b k (has_value Γ w.derived) a) (at (some_lane (m ∩ c)) refl)
      where
        w : HasValue m₀ M e n
        w = v M

        c : Value
        c = w.lanes

        fit : Match (length m) (length c)
        fit = rw w.long f

        long : length (m ∩ c) ≡ C'
        long = length_first m c fit ∙ (rw w.long j)

        still : joined n (length (m ∩ c)) ≡ C'
        still = rw (long, ← j) (joined_again n (length m))

        turn : Run Memory
        turn m b M = and_then (program_run Γ s m b M) (turns Γ k p e s m₀ m)

        at : (t : Bool) → some_lane (m ∩ c) ≡ t → ByRules (Loop Γ p e s m₀ m M) (suc b) (unless_empty turn (m ∩ c) b M)
        at false x = rw (skips turn (m ∩ c) b M x) (ends 1 b (r_leave w.derived fit x) (omega arith))
        at true x =
            rw (runs turn (m ∩ c) b M x)
            (one_more (λ _ _ d. d)
            (rules_after (turns Γ k p e s m₀ (m ∩ c))
            (λ _ _ _ _ d d'. r_again w.derived fit x (r_active x d) d')
            (λ _ _ _ d. r_body_due w.derived fit x (r_active x d))
            (g.by_rules (m ∩ c) M b long x)
            (λ M₁ left o. later left (m ∩ c) M₁ o (rw (long, ← j) (joined-match n (length m))) still x)))

    loop_goes : (k b : ℕ) (m : Mask) (M : Memory) → b ≤ k → Match (length m) n → joined n (length m) ≡ C' → some_lane m ≡ true →
        Looping k b m M
    unfolding loop costs evaluating testing Looping
    loop_goes zero zero m M o f j a = spends r_test_due
    loop_goes zero (suc b) m M o f j a = absurd (omega arith)
    loop_goes (suc k) zero m M o f j a = spends r_test_due
    loop_goes (suc k) (suc b) m M o f j a = turn_goes k b m M f j a (λ left m M o'. loop_goes k left m M (omega arith))

  -- A law for each form of a program.
  module _ {C : ℕ} where
    pub nothing_goes : Goes C nothing
    unfolding run
    nothing_goes = record { by_rules = λ m M b l a. ends 0 b r_nothing (omega arith) }

    pub step_goes : (p : ℕ) → Goes C (step p)
    unfolding run effect
    step_goes p = record { by_rules = λ m M b l a. at b }
      where
        at : {m : Mask} {M : Memory} (b : ℕ) → ByRules (λ r n. Γ ∣ m ∣ M ▹ step p ↓ r after n) b (program_run Γ (step p) m b M)
        at zero = spends (r_due step_costs)
        at (suc b) = ends 1 b r_decl (omega arith)

    pub put_goes : {p x n : ℕ} {e : Code} → Valued C e n → Fills n (declared Γ x).lanes → Target C (declared Γ x).lanes →
        Goes C (put p x e)
    unfolding run evaluate effect
    put_goes {p} {x} {n} {e} v f t = record { by_rules = at }
      where
        at : (m : Mask) (M : Memory) (b : ℕ) → length m ≡ C → some_lane m ≡ true →
            ByRules (λ r n. Γ ∣ m ∣ M ▹ put p x e ↓ r after n) b (program_run Γ (put p x e) m b M)
        at m M zero l a = spends (r_due put_costs)
        at m M (suc b) l a =
            let w = v m M l in
            rw (has_value Γ w.derived) (ends 1 b (stored w.lanes w.derived w.long f (rw l t)) (omega arith))

    pub both_goes : {s t : Program} → Goes C s → Goes C t → Goes C (both s t)
    both_goes {s} {t} g h = record {
      by_rules = λ m M b l a.
          rw (run_both Γ m b M s t)
          (rules_after (program_run Γ t m)
          (λ _ _ _ _ d d'. r_sequence (r_active a d) (r_active a d'))
          (λ _ _ _ d. r_sequence_due (r_active a d))
          (g.by_rules m M b l a)
          (λ M₁ left _. h.by_rules m M₁ left l a));
    }

    pub choice_goes : {p n : ℕ} {e : Code} {s t : Program} → Valued C e n → Match C n → Goes (joined n C) s →
        Goes (joined n C) t →
        Goes C (choice p e s t)
    unfolding run evaluate effect
    choice_goes {p} {n} {e} {s} {t} v f g h = record { by_rules = at }
      where
        at : (m : Mask) (M : Memory) (b : ℕ) → length m ≡ C → some_lane m ≡ true →
            ByRules (λ r n. Γ ∣ m ∣ M ▹ choice p e s t ↓ r after n) b (program_run Γ (choice p e s t) m b M)
        at m M zero l a = spends (r_due choice_costs)
        at m M (suc b) l a =
            let w = v m M l in
            let c = w.lanes in
            let fit : Match (length m) (length c) = rw (l, w.long) f in
            rw (has_value Γ w.derived, branches_as_rule m a (program_run Γ s) (program_run Γ t) c b M)
            (one_more (λ _ _ d. d)
            (rules_after (λ b' M'. unless_empty (program_run Γ t) (m ∖ c) b' M')
            (λ _ _ _ _ d d'. r_if w.derived fit d d')
            (λ _ _ _ d. r_if_due w.derived fit d)
            (branch_goes g (m ∩ c) M b (length_first m c fit ∙ rw (w.long, l)))
            (λ M₁ left _. branch_goes h (m ∖ c) M₁ left (length_second m c fit ∙ rw (w.long, l)))))

    pub cycle_goes : {p n : ℕ} {e : Code} {s : Program} → Valued C e n → Match C n → Goes (joined n C) s → Goes C (cycle p e s)
    unfolding Looping
    cycle_goes {p} {n} {e} {s} v f g = record {
      by_rules = λ m M b l a.
          rw (run_cycle Γ m b M p e s)
          (to_rules (λ _ _ d. r_while d)
          (loop_goes p n (joined n C) e s m (λ M. v m M l) g b b m M (omega arith) (rw l f) (rw l) a));
    }

    pub alone_goes : {s : Program} → Goes 1 s → Goes C (alone s)
    unfolding some_lane
    alone_goes {s} g = record {
      by_rules = λ m M b l a.
          rw (run_alone Γ m b M s) (to_rules (λ _ _ d. r_scalar (r_active refl d)) (g.by_rules (true ∷ []) M b refl refl));
    }
