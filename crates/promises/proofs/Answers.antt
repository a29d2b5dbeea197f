-- What the definitions answer, by the code: the sentences under document 01's table of codes.
use Prim.Native.Nat.{ℕ, ◌-◌, ◌≤◌, ◌<◌}
use mathlib.Core.Path.{◌≡◌, refl}
use mathlib.Core.Bool.{true, false≢true}
use mathlib.Core.Logic.{◌⊎◌, inl, inr}
use mathlib.Core.List.{List, [], ◌∷◌, ◌++◌}
use native.Mathlib.Omega.{arith}
use lib.Dec.{leb}
use lib.ListN.{length, drop, length-drop}
use borrow.Author.Tests.{leb-true, leb-false, lt-leb}
use Rattle.meaning.specs.declared.Refusal.{Refusal}
use Rattle.meaning.specs.declared.Refusal.TheVariants.{MemoryTooShort, BudgetSpent}
use Rattle.meaning.specs.Codes.{code, Out, ok, refused, the_judge_gives, only_a_run_gives}
use Rattle.meaning.specs.Tree.{kind_number}
use Rattle.meaning.specs.Program.{Program}
use Rattle.meaning.specs.Memory.{Memory, Declarations, little_endian, need}
use Rattle.meaning.specs.Running.{Ran, stopped, done}
use Rattle.meaning.specs.Services.{Answer, answer, judged, verdict, judge, program_run, ended, executed, run, in_a_row, listed, table_of, variables}
use Rattle.laws.specs.Outcomes.{RefusedIn}
use Rattle.laws.specs.Near.{Stops, near_done, near_spent}
use Rattle.laws.specs.Words.{need_limit}
use Rattle.laws.proofs.Tests.{by_if}
use Rattle.laws.proofs.Codes.{some_code}
use Rattle.laws.proofs.Services.{need_low, program_stops, by_verdict}
use Rattle.promises.specs.Answers.{JudgeRefuses, Judges, accepts, refuses, Runs, stops, too_short, runs_out, ends, Lists, lists, lists_none}

-- The listing keeps the table's length.
length-listed : (Γ : Declarations) (l : List ℕ) → length (listed Γ l) ≡ length l
unfolding listed in_a_row little_endian
length-listed [] l = refl
length-listed (d ∷ Γ) l =
    by_if (λ t. length t ≡ length l) (leb 16 (length l)) (λ _. in_a_row (d.place ∷ kind_number d.kind ∷ d.lanes ∷ d.address ∷ []) ++ listed Γ (drop 16 l)) (λ _. l)
    (λ t. omega (arith, length-listed Γ (drop 16 l), length-drop 16 l, leb-true 16 (length l) t))
    (λ _. refl)

module _ (text : List ℕ) where
  by_judge : (c : Refusal) (p : ℕ) → RefusedIn text c p → JudgeRefuses (code c)
  by_judge c p h = record { refusal = c; is = refl; judges = h.judges }

  pub judge_answers : Judges (judge text)
  unfolding judge verdict
  judge_answers =
      by_verdict text (λ o. Judges (verdict (λ Γ. 0) o)) (λ P Γ _ r. accepts (need Γ) (need_low r.laid)) (λ c p _ h. refuses (code c) p (by_judge c p h))

  pub run_answers : (M : Memory) (budget : ℕ) → Runs M budget (run text M budget)
  unfolding run executed ended
  run_answers M budget =
      by_verdict text (λ o. Runs M budget (executed program_run M budget o))
      (λ P Γ _ r.
      by_if (Runs M budget) (leb (need Γ) (length M)) _ _
      (λ t. over (leb-true (need Γ) (length M) t) (need_low r.laid) (program_run Γ P (true ∷ []) budget M) (program_stops r (λ _. Unit {0}) (λ N e _ i. i) budget M tt))
      (λ t. too_short (need Γ) (leb-false (need Γ) (length M) t) (need_low r.laid)))
      (λ c p _ h. stops (code c) p (by_judge c p h))
    where
      over : {n : ℕ} → n ≤ length M → n ≤ need_limit → (r : Ran Memory) → Stops (λ _. Unit {0}) (length text) budget r → Runs M budget (ended n budget r)
      over {n} h l (stopped c p M' left) (near_spent k _) = let all : budget - 0 ≡ budget = omega arith in rw all (runs_out p n M' h l)
      over {n} h l (done M' left) (near_done k _) = ends n (budget - left) M' h l (omega arith)

  pub variables_answers : (table : List ℕ) → Lists table (variables text table)
  unfolding variables verdict table_of
  variables_answers table =
      by_verdict text (λ o. Lists table (verdict length o, table_of o table))
      (λ P Γ _ r. lists (need Γ) (length Γ) (listed Γ table) (need_low r.laid) r.laid.few (length-listed Γ table))
      (λ c p _ h. lists_none (code c) p (by_judge c p h))

  -- Code, place and need are the judge's.
  pub variables-judge : (table : List ℕ) → judge text ≡ answer (variables text table).0.code (variables text table).0.place (variables text table).0.need 0
  unfolding variables judge verdict answer
  variables-judge table = go (judged text)
    where
      go : (o : Out Declarations Program) → verdict (λ Γ. 0) o ≡ answer (verdict length o).code (verdict length o).place (verdict length o).need 0
      go (ok P Γ) = refl
      go (refused c p) = refl

  -- Run "judges the text itself": where judge refuses, run gives the same four numbers and leaves the memory.
  pub run_judges : (M : Memory) (budget : ℕ) → 1 ≤ (judge text).code → run text M budget ≡ (judge text, M)
  unfolding judge verdict run executed answer
  run_judges M budget h = go (judged text) h
    where
      go : (o : Out Declarations Program) → 1 ≤ (verdict (λ Γ. 0) o).code → executed program_run M budget o ≡ (verdict (λ Γ. 0) o, M)
      go (ok P Γ) h = absurd (omega arith)
      go (refused c p) h = refl

  -- Where judge needs more than there is, run gives 12 and the need, and leaves the memory.
  pub run_short : (M : Memory) (budget : ℕ) → length M < (judge text).need → run text M budget ≡ (answer (code MemoryTooShort) 0 (judge text).need 0, M)
  unfolding judge verdict run executed answer
  run_short M budget h = go (judged text) h
    where
      go : (o : Out Declarations Program) → length M < (verdict (λ Γ. 0) o).need → executed program_run M budget o ≡ (answer (code MemoryTooShort) 0 (verdict (λ Γ. 0) o).need 0, M)
      go (ok P Γ) h = rw (lt-leb (need Γ) (length M) h)
      go (refused c p) h = absurd (omega arith)

-- A refusal of the judge is none of a run's.
not_spent : JudgeRefuses (code BudgetSpent) → ⊥
unfolding the_judge_gives only_a_run_gives
not_spent j = false≢true (rw (← j.is) at j.judges)

not_zero : JudgeRefuses 0 → ⊥
not_zero j = omega (arith, j.is, some_code j.refusal)

-- By the code: a refusal of the judge and a memory that is too short keep the memory, a spent budget is spent whole, and no run takes more
-- than its budget.
module _ {M : Memory} {budget : ℕ} where
  pub refusal_keeps : {o : Answer × Memory} → Runs M budget o → JudgeRefuses o.0.code ⊎ (o.0.code ≡ code MemoryTooShort) → o.1 ≡ M
  unfolding answer
  refusal_keeps (stops c p j) _ = refl
  refusal_keeps (too_short n h l) _ = refl
  refusal_keeps (runs_out p n M' h l) (inl j) = absurd (not_spent j)
  refusal_keeps (runs_out p n M' h l) (inr e) = absurd (omega arith)
  refusal_keeps (ends n s M' h l t) (inl j) = absurd (not_zero j)
  refusal_keeps (ends n s M' h l t) (inr e) = absurd (omega arith)

  pub all_steps : {o : Answer × Memory} → Runs M budget o → o.0.code ≡ code BudgetSpent → o.0.steps ≡ budget
  unfolding answer
  all_steps (stops c p j) e = absurd (not_spent (rw e at j))
  all_steps (too_short n h l) e = absurd (omega arith)
  all_steps (runs_out p n M' h l) e = refl
  all_steps (ends n s M' h l t) e = absurd (omega arith)

pub listing_keeps : {table : List ℕ} {o : Answer × List ℕ} → Lists table o → 1 ≤ o.0.code → o.1 ≡ table
unfolding answer
listing_keeps (lists n k table' l t s) some = absurd (omega arith)
listing_keeps (lists_none c p j) some = refl
