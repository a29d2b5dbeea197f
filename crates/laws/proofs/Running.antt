-- The budget law: a run ends with no more steps left than it had, or it spends its whole budget and stops at a place of its program; and
-- its state keeps what every step of it keeps.
use mathlib.Core.Path.{◌≡◌, refl}
use Prim.Native.Nat.{ℕ, zero, suc, ◌≤◌, ◌<◌}
use mathlib.Core.Bool.{Bool, true, false}
use mathlib.Core.List.{[], ◌∷◌}
use native.Mathlib.Omega.{arith}
use lib.ListN.{length}
use Rattle.meaning.specs.Codes.{when◌then◌else◌}
use Rattle.meaning.specs.Memory.{Value, Mask, Declarations, truth}
use Rattle.meaning.specs.Program.{Code, Program}
use Rattle.meaning.specs.Typing.{joined, width}
use Rattle.meaning.specs.Running as R
use Rattle.meaning.specs.Running.{Event, passes, stores, Ran, stopped, done, Run, and_then, costs, some_lane, mask_and, mask_and_not, unless_empty, branches, while_left, loop, evaluating, testing, storing}
use Rattle.laws.specs.Lengths.{Spreadable, Suits, Matched, Fits, fits_nothing, fits_step, fits_put, fits_both, fits_choice, fits_cycle, fits_alone}
use Rattle.laws.specs.Near.{NearProgram, near_nothing, near_step, near_put, near_both, near_choice, near_cycle, near_alone, Stops, near_done, near_spent, Does, does_pass, does_store}
use Rattle.laws.proofs.Lengths.{joined_many, matched_suits, mask_spreads, suits_body, joined_body}
use Rattle.laws.proofs.Values.{length-mask_and, length-mask_and_not}

module _ {S : Type 0} (I : S → Type 0) (N : ℕ) where
  -- A run that stops near, under any mask of a context of C lanes, from any state with I, with a budget of at most `most`.
  record Halts (C most : ℕ) (r : Run S) : Type 0 where
    from : (m : Mask) (b : ℕ) (σ : S) → length m ≡ C → b ≤ most → I σ → Stops I N b (r m b σ)

  more_left : {b b' : ℕ} {o : Ran S} → b ≤ b' → Stops I N b o → Stops I N b' o
  more_left l (near_done {left = left} h i) = near_done {left = left} (omega arith) i
  more_left l (near_spent h i) = near_spent h i

  unspent : {b : ℕ} {σ : S} → I σ → Stops I N b (done σ b)
  unspent {b} i = near_done {left = b} (omega arith) i

  after_that : (b : ℕ) (o : Ran S) (k : ℕ → S → Ran S) → Stops I N b o → ((b' : ℕ) (σ : S) → b' ≤ b → I σ → Stops I N b' (k b' σ)) → Stops I N b (and_then o k)
  unfolding and_then
  after_that b (done σ b') k (near_done l i) h = more_left l (h b' σ l i)
  after_that b (stopped c p σ left) k (near_spent l i) h = near_spent l i

  step_costs : (C most p : ℕ) (r : Run S) → p ≤ N → Halts C most r → Halts C (suc most) (costs p r)
  unfolding costs
  step_costs C most p r l h = record { from = go }
    where
      go : (m : Mask) (b : ℕ) (σ : S) → length m ≡ C → b ≤ suc most → I σ → Stops I N b (costs p r m b σ)
      go m zero σ z g i = near_spent l i
      go m (suc b) σ z g i = more_left (omega arith) (h.from m b σ z (omega arith) i)

  chosen : (b : ℕ) (t : Bool) (x y : Unit {0} → Ran S) → Stops I N b (x tt) → Stops I N b (y tt) → Stops I N b (when t then x else y)
  chosen b true x y h g = h
  chosen b false x y h g = g

  module _ (most : ℕ) where
    perhaps : (C : ℕ) (r : Run S) → Halts C most r → Halts C most (unless_empty r)
    unfolding unless_empty
    perhaps C r h = record { from = λ m b σ z l i. chosen b (some_lane m) _ _ (h.from m b σ z l i) (unspent i) }

    -- Under the two masks of a condition v of more lanes than one.
    module _ (C : ℕ) (v : Value) (suits : Suits C (length v)) (many : 1 < length v) (r : Run S) (h : Halts (joined (length v) C) most r) where
      spreads : (m : Mask) → length m ≡ C → Spreadable (length v) (length m)
      spreads m z = rw z (mask_spreads C (length v) suits many)

      first_stops : Halts C most (λ m b σ. unless_empty r (mask_and m v) b σ)
      first_stops = record { from = λ m b σ z l i. (perhaps (length v) r (rw joined_many at h)).from (mask_and m v) b σ (length-mask_and m v (spreads m z)) l i }

      second_stops : Halts C most (λ m b σ. unless_empty r (mask_and_not m v) b σ)
      second_stops = record { from = λ m b σ z l i. (perhaps (length v) r (rw joined_many at h)).from (mask_and_not m v) b σ (length-mask_and_not m v (spreads m z)) l i }

    branches_stop : (C : ℕ) (v : Value) → Suits C (length v) → (r q : Run S) → Halts (joined (length v) C) most r → Halts (joined (length v) C) most q → Halts C most (branches v r q)
    unfolding branches joined
    branches_stop C [] s r q h g = record { from = λ m b σ z l i. unspent i }
    branches_stop C (x ∷ []) s r q h g = record { from = λ m b σ z l i. chosen b (truth x) _ _ (h.from m b σ z l i) (g.from m b σ z l i) }
    branches_stop C (x ∷ y ∷ w) s r q h g =
        let v : Value = x ∷ y ∷ w in
        record {
          from = λ m b σ z l i. after_that b (unless_empty r (mask_and m v) b σ) _ ((first_stops C v s (omega arith) r h).from m b σ z l i)
              (λ b' σ' l' i'. (second_stops C v s (omega arith) q g).from m b' σ' z (omega arith) i');
        }

    while_stops : (C : ℕ) (v : Value) → Suits C (length v) → (r : Run S) → Halts (joined (length v) C) most r → Halts C most (while_left v r)
    unfolding while_left joined
    while_stops C [] s r h = record { from = λ m b σ z l i. unspent i }
    while_stops C (x ∷ []) s r h = record { from = λ m b σ z l i. chosen b (truth x) _ _ (h.from m b σ z l i) (unspent i) }
    while_stops C (x ∷ y ∷ w) s r h = record { from = λ m b σ z l i. (first_stops C (x ∷ y ∷ w) s (omega arith) r h).from m b σ z l i }

  -- A step that evaluates n lanes, and what goes on with them, with a step less.
  abbrev Stopping : ℕ → ((Value → Run S) → Run S) → Type 0
  Stopping n test = (C most : ℕ) (r : Value → Run S) → ((v : Value) → length v ≡ n → Halts C most (r v)) → Halts C (suc most) (test r)

  -- The body runs in a context of B lanes, the tests in one of C: the loop's own at first, and then B.
  module _ (n B p : ℕ) (l : p ≤ N) (test : (Value → Run S) → Run S) (f : Stopping n test) (r : Run S) (h : (most : ℕ) → Halts B most r) where
    loop_stops : (most C : ℕ) → Suits C n → joined n C ≡ B → Halts C most (loop most p test r)
    unfolding loop
    loop_stops zero C s e = record { from = λ m b σ _ g i. spent m b σ (omega arith) i }
      where
        spent : (m : Mask) (b : ℕ) (σ : S) → b ≡ 0 → I σ → Stops I N b (loop 0 p test r m b σ)
        spent m b σ e i = rw e (near_spent l i)
    loop_stops (suc most) C s e =
        let rest = loop_stops most B (suits_body C n B e) (joined_body C n B e) in
        let again : Run S = λ m b σ. and_then (r m b σ) (loop most p test r m) in
        f C most (λ v. while_left v again)
        (λ v z. while_stops most C v (rw z s) again (rw (z, e) (record {
          from = λ m b σ z g i. after_that b (r m b σ) (loop most p test r m) ((h most).from m b σ z g i) (λ b' σ' g' i'. rest.from m b' σ' z (omega arith) i');
        })))

  module _ (Γ : Declarations) (evaluate : S → Code → Mask → Value) (effect : S → Event → S)
      (sized : (C : ℕ) (σ : S) (e : Code) (m : Mask) → length m ≡ C → Matched Γ C e → length (evaluate σ e m) ≡ width Γ C e)
      (keeps : (σ : S) (e : Event) → Does Γ e → I σ → I (effect σ e)) where
    -- A step that evaluates e under the mask n; and a test.
    module _ {C : ℕ} {e : Code} (t : Matched Γ C e) (p : ℕ) (l : p ≤ N) (n : Mask) (z : length n ≡ C) where
      evaluating_stops : Stopping (width Γ C e) (evaluating evaluate effect p e n)
      unfolding evaluating
      evaluating_stops D most r h =
          step_costs D most p (λ m b σ. r (evaluate σ e n) m b σ) l (record { from = λ m b σ y g i. (h (evaluate σ e n) (sized C σ e n z t)).from m b σ y g i })

      testing_stops : Stopping (width Γ C e) (testing evaluate effect p e n)
      unfolding testing
      testing_stops D most r h =
          evaluating_stops D most (λ v m b σ. r v m b (effect σ (passes p)))
          (λ v w. record { from = λ m b σ y g i. (h v w).from m b (effect σ (passes p)) y g (keeps σ (passes p) does_pass i) })

    abbrev go : Program → Run S
    go = R.run evaluate effect

    pub run_stops : {C : ℕ} {P : Program} → Fits Γ C P → NearProgram N P → (m : Mask) (b : ℕ) (σ : S) → length m ≡ C → I σ → Stops I N b (R.run evaluate effect P m b σ)
    unfolding R.run storing
    run_stops fits_nothing near_nothing m b σ z i = unspent i
    run_stops {C} fits_step (near_step {p = p} l) m b σ z i =
        (step_costs C b p (λ m b σ. done (effect σ (passes p)) b) l (record { from = λ m b σ z g i. unspent (keeps σ (passes p) does_pass i) })).from m b σ z (omega arith) i
    run_stops {C} (fits_put {x = x} {e = e} x_in t from to) (near_put {p = p} l) m b σ z i =
        (evaluating_stops t.matched p l m z C b (λ v m b σ. done (effect σ (stores p x m v)) b)
        (λ v w. record { from = λ m b σ z g i. unspent (keeps σ (stores p x m v) (does_store x_in (rw z from) (rw w to)) i) })).from m b σ z (omega arith) i
    run_stops (fits_both {s = s} {t = t} h g) (near_both k j) m b σ z i = after_that b (go s m b σ) (go t m) (run_stops h k m b σ z i) (λ b' σ' l i'. run_stops g j m b' σ' z i')
    run_stops {C} (fits_choice {s = s} {t = t} is h g) (near_choice {p = p} l k j) m b σ z i =
        (testing_stops is.matched p l m z C b (λ v. branches v (go s) (go t))
        (λ v w. branches_stop b C v (rw w (matched_suits is.matched)) (go s) (go t)
        (rw w (record { from = λ m b σ z _ i. run_stops h k m b σ z i })) (rw w (record { from = λ m b σ z _ i. run_stops g j m b σ z i })))).from m b σ z (omega arith) i
    run_stops {C} (fits_cycle {e = e} {s = s} is h) (near_cycle {p = p} l k) m b σ z i =
        (loop_stops (width Γ C e) (joined (width Γ C e) C) p l (testing evaluate effect p e m) (testing_stops is.matched p l m z) (go s)
        (λ most. record { from = λ m b σ z _ i. run_stops h k m b σ z i }) b C (matched_suits is.matched) refl).from m b σ z (omega arith) i
    run_stops (fits_alone h) (near_alone k) m b σ z i = run_stops h k (true ∷ []) b σ refl i
