-- A run ends with code 0 in n steps exactly when the rules derive its memory in n steps, within the budget; and with code 13 exactly
-- when by the rules a step is due after the whole budget. With any budget it is one of the two (001, Theorem 2).
use Prim.Native.Nat.{ℕ, ◌+◌, ◌-◌, ◌≤◌, ◌<◌}
use mathlib.Core.Path.{◌≡◌, refl, ap, sym, ◌∙◌}
use mathlib.Core.Bool.{Bool, true, false, false≢true}
use mathlib.Core.Logic.{◌↔◌}
use mathlib.Core.List.{List, [], ◌∷◌}
use native.Mathlib.Omega.{arith}
use lib.Dec.{leb}
use lib.ListN.{length}
use borrow.Author.Tests.{leb-true, le-leb, lt-leb}
use Rattle.meaning.specs.Codes.{Out, ok, refused, declaration_limit}
use Rattle.meaning.specs.Tree.{Stmts}
use Rattle.meaning.specs.Program.{Program}
use Rattle.meaning.specs.Memory.{Memory, Mask, Declarations, need}
use Rattle.meaning.specs.Running.{Ran, stopped, done, some_lane}
use Rattle.meaning.specs.Typing.{typed_statements}
use Rattle.meaning.specs.Services.{answer, judged, program_run, executed, ended as outcome, run}
use Rattle.laws.specs.Declarations.{Alike}
use Rattle.rules.specs.Scopes.{start, declarations_in}
use Rattle.rules.specs.Typing.{Names, ◌∣◌⊢*◌⊣◌}
use Rattle.rules.specs.Laying.{variables_of, Lays}
use Rattle.rules.specs.Evaluation.{End, ended, due, ◌∣◌∣◌⊢*◌↓◌after◌, NotStuck, it_ends, it_spends}
use Rattle.rules.specs.Accepted.{Accepted, Placed}
use Rattle.rules.specs.Ends.{Ends}
use Rattle.rules.proofs.Resolved.{r_active}
use Rattle.rules.proofs.Masks.{runs}
use Rattle.rules.proofs.Derived.{as_run, answers, Left}
use Rattle.rules.proofs.Progress.{ByRules, ends, spends, to_rules}
use Rattle.rules.proofs.Acceptance.{refusal_above_0, accepted, text_becomes, judges}
use Rattle.rules.proofs.Typable.{Becomes, becomes}
use Rattle.rules.proofs.Laying.{one_table}
use Rattle.rules.proofs.Alike.{alike_back, same_derived}
use Rattle.rules.proofs.Addresses.{same_table}
use Rattle.rules.proofs.Sound.{goes}
use Rattle.rules.proofs.Programs.{to_programs}
use Rattle.rules.proofs.Trees.{resolved}

-- Statements that are typed from no names, in a context of length C, under a mask of C lanes, one of them active.
module _ (l : Stmts) (C : ℕ) (Γ : Declarations) (P : Program) (typed : typed_statements C l [] ≡ ok P Γ)
    (m : Mask) (long : length m ≡ C) (active : some_lane m ≡ true) (M : Memory) where
  -- What is run goes by the rules, and what the rules derive is what is run.
  goes_on : (budget : ℕ) → ByRules (λ r n. start Γ ∣ m ∣ M ⊢* l ↓ r after n) budget (program_run Γ P m budget M)
  unfolding start
  goes_on budget =
      to_rules (λ r n d. (resolved l C Γ P typed).from m M r n active d)
      ((goes l C [] Γ P typed).by_rules m M budget long active)

  derived : (budget n b : ℕ) (r : End) → start Γ ∣ m ∣ M ⊢* l ↓ r after n → n + b ≡ budget → Left r b →
      program_run Γ P m budget M ≡ answers r b
  unfolding start
  derived budget n b r d e left =
      rw (← e)
      (sym (runs (program_run Γ P) m (n + b) M active)
      ∙ (as_run Γ (r_active active (rw (← (resolved l C Γ P typed).is) at (to_programs d active)))).is b left)

  not_stuck : (budget : ℕ) → NotStuck (start Γ) m M l budget
  not_stuck budget = by (goes_on budget)
    where
      by : {R : Ran Memory} → ByRules (λ r n. start Γ ∣ m ∣ M ⊢* l ↓ r after n) budget R → NotStuck (start Γ) m M l budget
      by (ends n left d e) = it_ends {n = n} (omega arith) d
      by (spends d) = it_spends d

-- A mask with an active lane has some lane.
some_long : (m : Mask) → some_lane m ≡ true → 0 < length m
unfolding some_lane
some_long [] h = absurd (false≢true h)
some_long (c ∷ m) h = omega arith

-- "VecIMP's type system is sound" (001, Theorem 2): over a table in which their variables lie, statements that the rules type never
-- lack a rule.
pub never_stuck : {l : Stmts} {C : ℕ} {names : Names} {Γ : Declarations} {N : ℕ} (d : [] ∣ C ⊢* l ⊣ names) →
    declarations_in l ≤ declaration_limit → Lays 0 (variables_of d) Γ N → (m : Mask) → length m ≡ C → some_lane m ≡ true →
    (M : Memory) (budget : ℕ) → NotStuck (start Γ) m M l budget
never_stuck {l} {C} {Γ = Γ} d few placed m long active M budget =
    let t = becomes d (omega (arith, some_long m active)) few in
    over (one_table t.lays placed).0 (not_stuck l C t.table t.program t.typed m long active M budget)
  where
    over : {Δ : Declarations} → Alike Δ Γ → NotStuck (start Δ) m M l budget → NotStuck (start Γ) m M l budget
    over a (it_ends l d) = it_ends l (same_derived a d)
    over a (it_spends d) = it_spends (same_derived a d)

-- Where the rules type a text, no rule is lacking to run it.
pub soundness : (text : List ℕ) (a : Accepted text) (Γ : Declarations) (N : ℕ) → Placed text a Γ N →
    (M : Memory) (budget : ℕ) → NotStuck (start Γ) (true ∷ []) M a.tree budget
unfolding some_lane
soundness text a Γ N placed = never_stuck a.types a.few placed (true ∷ []) refl refl

-- "Code 12: need given, steps 0. In all of these the memory keeps every byte."
pub short_by_rules : (text : List ℕ) (a : Accepted text) (Γ : Declarations) (N : ℕ) → Placed text a Γ N →
    (M : Memory) (budget : ℕ) → length M < N → run text M budget ≡ (answer 12 0 N 0, M)
unfolding run executed
short_by_rules text a Γ N placed M budget short = rw (judges text a, (same_table text a Γ N placed).1, lt-leb N (length M) short)

-- An accepted text, over a memory with room for its variables.
module _ (text : List ℕ) (a : Accepted text) (Γ : Declarations) (N : ℕ) (placed : Placed text a Γ N) (M : Memory)
    (room : N ≤ length M) where
  t : Becomes a.types
  t = text_becomes text a

  one : Alike t.table Γ × (need t.table ≡ N)
  unfolding t
  one = same_table text a Γ N placed

  by_rules : (budget : ℕ) →
      ByRules (λ r n. start Γ ∣ true ∷ [] ∣ M ⊢* a.tree ↓ r after n) budget (program_run t.table t.program (true ∷ []) budget M)
  unfolding some_lane
  by_rules budget =
      to_rules (λ r n d. same_derived one.0 d)
      (goes_on a.tree 1 t.table t.program t.typed (true ∷ []) refl refl M budget)

  as_derived : (budget n b : ℕ) (r : End) → start Γ ∣ true ∷ [] ∣ M ⊢* a.tree ↓ r after n → n + b ≡ budget → Left r b →
      program_run t.table t.program (true ∷ []) budget M ≡ answers r b
  unfolding some_lane
  as_derived budget n b r d =
      derived a.tree 1 t.table t.program t.typed (true ∷ []) refl refl M budget n b r (same_derived (alike_back one.0) d)

  run_is : (budget : ℕ) → run text M budget ≡ outcome N budget (program_run t.table t.program (true ∷ []) budget M)
  unfolding run executed t
  run_is budget = rw (judges text a, one.1, le-leb N (length M) room)

  -- "Code 0: need given, steps as taken."
  pub ends_by_rules : (budget n : ℕ) (M' : Memory) →
      run text M budget ≡ (answer 0 0 N n, M') ↔ ((n ≤ budget) × (start Γ ∣ true ∷ [] ∣ M ⊢* a.tree ↓ ended M' after n))
  unfolding outcome answer answers Left
  ends_by_rules budget n M' = (λ h. from (by_rules budget) (sym (run_is budget) ∙ h), λ d. run_is budget ∙ to d.0 d.1)
    where
      from : {R : Ran Memory} → ByRules (λ r n. start Γ ∣ true ∷ [] ∣ M ⊢* a.tree ↓ r after n) budget R →
          outcome N budget R ≡ (answer 0 0 N n, M') →
          (n ≤ budget) × (start Γ ∣ true ∷ [] ∣ M ⊢* a.tree ↓ ended M' after n)
      from (ends k left d e) h =
          let steps : budget - left ≡ n = ap (λ a. a.0.steps) h in
          let same : k ≡ n = omega arith in
          (omega arith, rw (ap (λ a. a.1) h, same) at d)
      from (spends d) h = let code : ◌≡◌ {A = ℕ} 13 0 = ap (λ a. a.0.code) h in absurd (omega arith)

      to : n ≤ budget → start Γ ∣ true ∷ [] ∣ M ⊢* a.tree ↓ ended M' after n →
          outcome N budget (program_run t.table t.program (true ∷ []) budget M) ≡ (answer 0 0 N n, M')
      to l d =
          let steps : budget - (budget - n) ≡ n = omega arith in
          rw (as_derived budget n (budget - n) (ended M') d (omega arith) tt, steps)

  -- "Code 13: need given, steps equal to the budget, memory as after exactly those steps."
  pub spent_by_rules : (budget place : ℕ) (M' : Memory) →
      run text M budget ≡ (answer 13 place N budget, M') ↔ (start Γ ∣ true ∷ [] ∣ M ⊢* a.tree ↓ due place M' after budget)
  unfolding outcome answer answers Left
  spent_by_rules budget place M' = (λ h. from (by_rules budget) (sym (run_is budget) ∙ h), λ d. run_is budget ∙ to d)
    where
      from : {R : Ran Memory} → ByRules (λ r n. start Γ ∣ true ∷ [] ∣ M ⊢* a.tree ↓ r after n) budget R →
          outcome N budget R ≡ (answer 13 place N budget, M') →
          start Γ ∣ true ∷ [] ∣ M ⊢* a.tree ↓ due place M' after budget
      from (ends k left d e) h = let code : ◌≡◌ {A = ℕ} 0 13 = ap (λ a. a.0.code) h in absurd (omega arith)
      from (spends d) h = rw (ap (λ a. a.1) h, ap (λ a. a.0.place) h) at d

      to : start Γ ∣ true ∷ [] ∣ M ⊢* a.tree ↓ due place M' after budget →
          outcome N budget (program_run t.table t.program (true ∷ []) budget M) ≡ (answer 13 place N budget, M')
      to d = let steps : budget - 0 ≡ budget = omega arith in rw (as_derived budget budget 0 (due place M') d (omega arith) refl, steps)

-- A run ends with code 0 exactly when the rules derive it: any text, over any memory, with any budget.
module _ (text : List ℕ) (M : Memory) (budget N n : ℕ) (M' : Memory) where
  executed_is : run text M budget ≡ executed program_run M budget (judged text)
  unfolding run
  executed_is = refl

  -- The memory has room for an accepted text that ends with 0.
  has_room : (P : Program) (Γ : Declarations) → executed program_run M budget (ok P Γ) ≡ (answer 0 0 N n, M') →
      (need Γ ≤ length M) × (need Γ ≡ N)
  unfolding executed answer outcome
  has_room P Γ h = go (leb (need Γ) (length M)) refl
    where
      given : (R : Ran Memory) → outcome (need Γ) budget R ≡ (answer 0 0 N n, M') → need Γ ≡ N
      given (stopped c p M₁ left) e = ap (λ a. a.0.need) e
      given (done M₁ left) e = ap (λ a. a.0.need) e

      go : (t : Bool) → leb (need Γ) (length M) ≡ t → (need Γ ≤ length M) × (need Γ ≡ N)
      go true l = (leb-true (need Γ) (length M) l, given (program_run Γ P (true ∷ []) budget M) (rw l at h))
      go false l = let code : ◌≡◌ {A = ℕ} 12 0 = ap (λ a. a.0.code) (rw l at h) in absurd (omega arith)

  text_room : (a : Accepted text) → run text M budget ≡ (answer 0 0 N n, M') →
      (need (text_becomes text a).table ≤ length M) × (need (text_becomes text a).table ≡ N)
  text_room a h = let t = text_becomes text a in has_room t.program t.table (rw (judges text a) at (sym executed_is ∙ h))

  pub ends_exactly : run text M budget ≡ (answer 0 0 N n, M') ↔ ((n ≤ budget) × Ends text M N n M')
  unfolding executed answer
  ends_exactly = (λ h. from (judged text) refl (sym executed_is ∙ h) h, λ d. to d.0 d.1)
    where
      from : (o : Out Declarations Program) → judged text ≡ o → executed program_run M budget o ≡ (answer 0 0 N n, M') →
          run text M budget ≡ (answer 0 0 N n, M') → (n ≤ budget) × Ends text M N n M'
      from (refused c p) j e h = absurd (refusal_above_0 c (ap (λ a. a.0.code) e))
      from (ok P Γ) j e h =
          let a = accepted text P Γ j in
          let t = text_becomes text a in
          let r = text_room a h in
          let placed : Placed text a t.table N = rw r.1 at t.lays in
          let room : N ≤ length M = rw r.1 at r.0 in
          let d = (ends_by_rules text a t.table N placed M room budget n M').0 h in
          (d.0, record { accepted = a; table = t.table; placed = placed; room = room; derived = d.1 })

      to : n ≤ budget → Ends text M N n M' → run text M budget ≡ (answer 0 0 N n, M')
      to l d = (ends_by_rules text d.accepted d.table N d.placed M d.room budget n M').1 (l, d.derived)
