-- The numbers of every answer fit 32 bits, and its place lies in the text or is its length; a run leaves a memory of bytes one.
use Prim.Native.Nat.{ℕ, ◌^◌, ◌≤◌, ◌<◌}
use mathlib.Core.Path.{◌≡◌, refl}
use mathlib.Core.Bool.{true}
use mathlib.Core.List.{List, [], ◌∷◌}
use native.Mathlib.Omega.{arith}
use lib.Dec.{leb}
use lib.ListN.{length}
use borrow.Author.Tests.{leb-true}
use Rattle.meaning.specs.declared.Refusal.{Refusal}
use Rattle.meaning.specs.Codes.{code, Out, ok, refused, text_limit, declaration_limit}
use Rattle.meaning.specs.Program.{Program}
use Rattle.meaning.specs.Memory.{Memory, Mask, Declarations, need}
use Rattle.meaning.specs.Running.{Event, Ran, stopped, done}
use Rattle.meaning.specs.Services.{Answer, answer, judged, verdict, judge, variables, evaluate, effect, program_run, ended, executed, run}
use Rattle.laws.specs.Outcomes.{RefusedIn}
use Rattle.laws.specs.Declarations.{Laid}
use Rattle.laws.specs.Near.{Stops, near_done, near_spent, Does}
use Rattle.laws.specs.Accepted.{Ready}
use Rattle.laws.specs.Values.{Lanes, Bytes, Every}
use Rattle.laws.specs.Words.{need_limit, Words, InLimits}
use Rattle.laws.proofs.Tests.{by_if}
use Rattle.laws.proofs.Codes.{few_codes}
use Rattle.laws.proofs.Accepted.{accepted_ready, accepted_short, refused_in, refused_low}
use Rattle.laws.proofs.Running.{run_stops}
use Rattle.laws.proofs.Values.{evaluate-length, evaluate_lanes, fits_every, effect-bytes}

pub need_low : {Γ : Declarations} → Laid Γ → need Γ ≤ need_limit
unfolding need_limit
need_low l = omega (arith, l.few, l.small)

-- The run of an accepted text stops within it, and keeps what every step of it keeps.
module _ {text : List ℕ} {P : Program} {Γ : Declarations} (ready : Ready text P Γ) where
  pub program_stops : (I : Memory → Type 0) → ((M : Memory) (e : Event) → Does Γ e → I M → I (effect Γ M e)) → (budget : ℕ) (M : Memory) → I M
      → Stops I (length text) budget (program_run Γ P (true ∷ []) budget M)
  program_stops I keeps budget M i = run_stops I (length text) Γ (evaluate Γ) (effect Γ) (λ C M e m. evaluate-length {e = e} M m) keeps ready.fits ready.near (true ∷ []) budget M refl i

module _ (text : List ℕ) where
  -- What is answered to a text, by what comes of judging it.
  pub by_verdict : (Q : Out Declarations Program → Type 0) → ((P : Program) (Γ : Declarations) → length text ≤ text_limit → Ready text P Γ → Q (ok P Γ))
      → ((c : Refusal) (p : ℕ) → p ≤ text_limit → RefusedIn text c p → Q (refused c p)) → Q (judged text)
  by_verdict Q f g = go (judged text) refl
    where
      go : (o : Out Declarations Program) → judged text ≡ o → Q o
      go (ok P Γ) e = f P Γ (accepted_short text e) (accepted_ready text e)
      go (refused c p) e = g c p (refused_low text e) (refused_in text e)

  refused_limits : (most : ℕ) (c : Refusal) (p : ℕ) → p ≤ text_limit → RefusedIn text c p → InLimits text most (answer (code c) p 0 0)
  unfolding answer
  refused_limits most c p low h = record { code = omega (arith, few_codes c); place = h.near; low = low; need = omega arith; steps = omega arith }

  -- A verdict, whose fourth number is what s makes of the declarations.
  verdict_limits : (s : Declarations → ℕ) (most : ℕ) → ((Γ : Declarations) → Laid Γ → s Γ ≤ most) → InLimits text most (verdict s (judged text))
  unfolding verdict answer
  verdict_limits s most few =
      by_verdict (λ o. InLimits text most (verdict s o))
      (λ P Γ _ r. record { code = omega arith; place = omega arith; low = omega arith; need = need_low r.laid; steps = few Γ r.laid })
      (refused_limits most)

  pub judge_limits : InLimits text 0 (judge text)
  unfolding judge
  judge_limits = verdict_limits (λ Γ. 0) 0 (λ Γ l. omega arith)

  pub variables_limits : (table : List ℕ) → InLimits text declaration_limit (variables text table).0
  unfolding variables
  variables_limits table = verdict_limits length declaration_limit (λ Γ l. l.few)

  pub run_limits : (M : Memory) (budget : ℕ) → InLimits text budget (run text M budget).0
  unfolding run executed ended answer
  run_limits M budget =
      by_verdict (λ o. InLimits text budget (executed program_run M budget o).0)
      (λ P Γ short r.
      by_if (λ (o : Answer × Memory). InLimits text budget o.0) (leb (need Γ) (length M)) _ _
      (λ _. over short (need_low r.laid) (program_run Γ P (true ∷ []) budget M) (program_stops r (λ _. Unit {0}) (λ M e _ i. i) budget M tt))
      (λ _. record { code = omega arith; place = omega arith; low = omega arith; need = need_low r.laid; steps = omega arith }))
      (refused_limits budget)
    where
      over : length text ≤ text_limit → {n : ℕ} → n ≤ need_limit → (r : Ran Memory) → Stops (λ _. Unit {0}) (length text) budget r → InLimits text budget (ended n budget r).0
      over short few (done M' left) (near_done l _) = record { code = omega arith; place = omega arith; low = omega arith; need = few; steps = omega arith }
      over short few (stopped c p M' left) (near_spent l _) = record { code = omega arith; place = l; low = omega arith; need = few; steps = omega arith }

  -- Every expression of an accepted program has, over any memory of bytes and under any mask, lanes of its kind: words below 2^32, and 0 or 1
  -- for a bool.
  pub accepted_lanes : {P : Program} {Γ : Declarations} → judged text ≡ ok P Γ → Every (λ k e. (M : Memory) (m : Mask) → Bytes M → Lanes k (evaluate Γ M e m)) Γ P
  accepted_lanes e = fits_every _ (λ C k e t M m a. evaluate_lanes m t.kinded a) (accepted_ready text e).fits

  -- A run leaves what every step of the text keeps, where it holds of the memory that is lent.
  pub run_leaves : (I : Out Declarations Program → Memory → Type 0) (M : Memory) (budget : ℕ)
      → ((P : Program) (Γ : Declarations) → Ready text P Γ → need Γ ≤ length M → (N : Memory) (e : Event) → Does Γ e → I (ok P Γ) N → I (ok P Γ) (effect Γ N e))
      → ((o : Out Declarations Program) → I o M) → I (judged text) (run text M budget).1
  unfolding run executed ended
  run_leaves I M budget keeps was =
      by_verdict (λ o. I o (executed program_run M budget o).1)
      (λ P Γ _ r.
      by_if (λ (o : Answer × Memory). I (ok P Γ) o.1) (leb (need Γ) (length M)) _ _
      (λ t. over (I (ok P Γ)) (need Γ) (program_run Γ P (true ∷ []) budget M)
      (program_stops r (I (ok P Γ)) (keeps P Γ r (leb-true (need Γ) (length M) t)) budget M (was (ok P Γ))))
      (λ _. was (ok P Γ)))
      (λ c p _ _. was (refused c p))
    where
      over : (J : Memory → Type 0) (n : ℕ) (r : Ran Memory) → Stops J (length text) budget r → J (ended n budget r).1
      over J n (done M' left) (near_done _ i) = i
      over J n (stopped c p M' left) (near_spent _ i) = i

  -- A memory of bytes stays one.
  pub run-bytes : (M : Memory) (budget : ℕ) → Bytes M → Bytes (run text M budget).1
  run-bytes M budget a = run_leaves (λ _. Bytes) M budget (λ P Γ _ _ N e _. effect-bytes Γ N e) (λ _. a)

  pub judge_place : (judge text).place ≤ length text
  judge_place = judge_limits.place

  pub run_place : (M : Memory) (budget : ℕ) → (run text M budget).0.place ≤ length text
  run_place M budget = (run_limits M budget).place

  pub run_place_low : (M : Memory) (budget : ℕ) → (run text M budget).0.place ≤ text_limit
  run_place_low M budget = (run_limits M budget).low

-- The four numbers fit 32 bits.
pub limits_words : {text : List ℕ} {most : ℕ} {a : Answer} → most < 2 ^ 32 → InLimits text most a → Words a
unfolding need_limit
limits_words h l = record { code = l.code; place = omega (arith, l.low); need = omega (arith, l.need); steps = omega (arith, l.steps) }

pub run-words : (text M : List ℕ) (budget : ℕ) → budget < 2 ^ 32 → Words (run text M budget).0
run-words text M budget h = limits_words h (run_limits text M budget)

pub judge-words : (text : List ℕ) → Words (judge text)
judge-words text = limits_words (omega arith) (judge_limits text)

pub variables-words : (text table : List ℕ) → Words (variables text table).0
variables-words text table = limits_words (omega arith) (variables_limits text table)
