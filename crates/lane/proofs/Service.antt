-- The services: what `run` answers with code 0, and what `judged` makes of a narrowed text.
use mathlib.Core.Path.{◌≡◌, refl, sym, ap, ◌∙◌, subst}
use mathlib.Core.Bool.{Bool, true, false, not}
use mathlib.Core.List.{List, [], ◌∷◌, map}
use Prim.Native.Nat.{ℕ, ◌+◌, ◌-◌, ◌≤◌}
use native.Mathlib.Omega.{arith}
use lib.Dec.{T, leb, leb→le, le→leb}
use lib.ListN.{length}
use Rattle.meaning.specs.declared.Refusal.TheVariants.{MemoryTooShort}
use Rattle.meaning.specs.Codes.{code, Out, ok, refused, when◌then◌else◌, ◌among◌}
use Rattle.meaning.specs.Tokens.{Token, the, lexed}
use Rattle.meaning.specs.Tree.{Stmts}
use Rattle.meaning.specs.Reading.{read}
use Rattle.meaning.specs.Program.{Program}
use Rattle.meaning.specs.Typing.{typed_program}
use Rattle.meaning.specs.Memory.{Memory, Declarations, need}
use Rattle.meaning.specs.Running.{Ran, stopped, done}
use Rattle.meaning.specs.Services.{Answer, answer, pass, judged, evaluate, effect, ended, program_run, executed, run}
use Rattle.laws.specs.Outcomes.{Gave}
use Rattle.laws.specs.Lengths.{Fits}
use Rattle.laws.proofs.Outcomes.{said}
use Rattle.laws.proofs.Codes.{some_code}
use Rattle.laws.proofs.Budget.{Richer, run_same}
use Rattle.laws.proofs.Accepted.{accepted_ready}
use Rattle.lane.specs.Narrow.{narrow}
use Rattle.lane.specs.Lane.{kinds_in, scalar_free}
use Rattle.lane.specs.NarrowTree.{narrow_tokens, narrow_stmts, Narrows, Narrowing}
use Rattle.lane.proofs.Tests.{true_of}
use Rattle.lane.proofs.Programs.{no_alone}
use Rattle.lane.proofs.Declared.{Paired}
use Rattle.lane.proofs.Types.{Accepted, program_both}
use Rattle.lane.proofs.Trees.{reading_read}
use Rattle.lane.proofs.Texts.{length-narrow, lexed-narrow}
use Rattle.lane.proofs.Scalars.{free_program}

-- The run of a program over bytes, from one true lane.
abbrev pub ran : Program → Declarations → ℕ → Memory → Ran Memory
ran P Γ budget M = program_run Γ P (true ∷ []) budget M

-- Code 0: accepted, room enough, and ended with some steps left.
pub record Ended (P : Program) (Γ : Declarations) (budget : ℕ) (M : Memory) : Type 0 where
  pub room : need Γ ≤ length M
  pub end : Memory
  pub left : ℕ
  pub is : ran P Γ budget M ≡ done end left

pub record RanWell (o : Out Declarations Program) (budget : ℕ) (M : Memory) : Type 0 where
  pub what : Program
  pub where_to : Declarations
  pub accepted : o ≡ ok what where_to
  pub ended_well : Ended what where_to budget M

ended_of : (P : Program) (Γ : Declarations) (budget : ℕ) (M : Memory) → (executed program_run M budget (ok P Γ)).0.code ≡ 0 → Ended P Γ budget M
unfolding executed ended answer
ended_of P Γ budget M e = room (leb (need Γ) (length M)) refl e
  where
    ends : (r : Ran Memory) → ran P Γ budget M ≡ r → need Γ ≤ length M → (ended (need Γ) budget r).0.code ≡ 0 → Ended P Γ budget M
    ends (stopped c p M' b) z l e = absurd (omega (arith, some_code c))
    ends (done M' left) z l e = record { room = l; end = M'; left = left; is = z }

    room : (b : Bool) → leb (need Γ) (length M) ≡ b
        → (when b then (λ _. ended (need Γ) budget (ran P Γ budget M)) else λ _. (answer (code MemoryTooShort) 0 (need Γ) 0, M)).0.code ≡ 0 → Ended P Γ budget M
    room true z e = ends (ran P Γ budget M) refl (leb→le (need Γ) (length M) (rw z tt)) e
    room false z e = absurd (omega arith)

executed_well : (o : Out Declarations Program) (budget : ℕ) (M : Memory) → (executed program_run M budget o).0.code ≡ 0 → RanWell o budget M
unfolding executed answer
executed_well (ok P Γ) budget M e = record { what = P; where_to = Γ; accepted = refl; ended_well = ended_of P Γ budget M e }
executed_well (refused c p) budget M e = absurd (omega (arith, some_code c))

-- `run` is `executed` of what is judged.
pub run_is : (text : List ℕ) (M : Memory) (budget : ℕ) → run text M budget ≡ executed program_run M budget (judged text)
unfolding run
run_is text M budget = refl

code_is : (text : List ℕ) (M : Memory) (budget : ℕ) (o : Out Declarations Program) → judged text ≡ o → (run text M budget).0.code ≡ 0 → (executed program_run M budget o).0.code ≡ 0
code_is text M budget o e code = sym (ap (λ (r : Answer × Memory). r.0.code) (run_is text M budget ∙ ap (executed program_run M budget) e)) ∙ code

pub ran_well : (text : List ℕ) (M : Memory) (budget : ℕ) → (run text M budget).0.code ≡ 0 → RanWell (judged text) budget M
ran_well text M budget code = executed_well (judged text) budget M (code_is text M budget (judged text) refl code)

-- The same where it is known what the text is judged to be.
pub ran_well_as : (text : List ℕ) (M : Memory) (budget : ℕ) (P : Program) (Γ : Declarations) → judged text ≡ ok P Γ → (run text M budget).0.code ≡ 0 → Ended P Γ budget M
ran_well_as text M budget P Γ e code = ended_of P Γ budget M (code_is text M budget (ok P Γ) e code)

-- What has ended ends alike under a larger budget, and what is added to the budget is left over.
pub ended_later : {P : Program} {Γ : Declarations} {budget : ℕ} {M : Memory} (more : ℕ) (w : Ended P Γ budget M) → ran P Γ (budget + more) M ≡ done w.end (w.left + more)
ended_later {P} {Γ} {budget} {M} more w =
    subst (λ (r : Ran Memory). Richer more r (ran P Γ (budget + more) M)) w.is (run_same more (evaluate Γ) (effect Γ) P (true ∷ []) budget M)

-- And what is answered then.
pub executed_is : {P : Program} {Γ : Declarations} {budget : ℕ} {M : Memory} (w : Ended P Γ budget M) → executed program_run M budget (ok P Γ) ≡ (answer 0 0 (need Γ) (budget - w.left), w.end)
unfolding executed ended
executed_is {P} {Γ} {budget} {M} w = rw (true_of (leb (need Γ) (length M)) (le→leb (need Γ) (length M) w.room), w.is)

-- The passes one after another.
judged_is : (text : List ℕ) → judged text ≡ pass (lexed text) (λ ts. pass (read ts) typed_program)
unfolding judged
judged_is text = refl

-- What a narrowed text is.
pub narrowing : Narrowing
narrowing text ts q l p P Γ y z e = go (said (reading_read ts) z) (said (program_both l) e)
  where
    go : Gave (λ l p l' p'. l' ≡ narrow_stmts l) (read (narrow_tokens (the "end") (the "end") ts)) l p → Gave Accepted (typed_program (narrow_stmts l)) P Γ → Narrows text ts l P Γ
    go r t = record {
      as_long = length-narrow text;
      end = q;
      has_tokens = lexed-narrow text ts q y;
      past = r.state;
      has_tree = r.is ∙ ap (λ (l : Stmts). ok l r.state) r.so;
      table = t.state;
      same_program = t.is ∙ ap (λ (P : Program). ok P t.state) t.so.same_program;
      thinned = t.so.thin;
    }

-- An accepted text narrows to an accepted text of the same program.
pub record Narrowed (text : List ℕ) (P : Program) (Γ : Declarations) : Type 0 where
  pub table : Declarations
  pub accepted : judged (narrow text) ≡ ok P table
  pub paired : Paired text Γ table
  pub fits : Fits Γ 1 P
  pub free : T (scalar_free text) → T (no_alone P)

-- A text without `scalar` has no such token.
free_tokens : (text : List ℕ) (ts : List Token) (q : ℕ) → lexed text ≡ ok ts q → T (scalar_free text) → T (not (the "scalar" among map (λ (t : Token). t.is) ts))
unfolding scalar_free
free_tokens text ts q e h = subst (λ (o : Out ℕ (List Token)). T (not (the "scalar" among kinds_in o))) e h

pub judged-narrow : (text : List ℕ) (P : Program) (Γ : Declarations) → judged text ≡ ok P Γ → Narrowed text P Γ
unfolding pass
judged-narrow text P Γ e = lex (lexed text) refl (sym (judged_is text) ∙ e)
  where
    over : (ts : List Token) (q : ℕ) → lexed text ≡ ok ts q → (l : Stmts) (p : ℕ) → read ts ≡ ok l p → typed_program l ≡ ok P Γ → Narrows text ts l P Γ → Narrowed text P Γ
    over ts q y l p z t n =
        let is : judged (narrow text) ≡ ok P n.table = judged_is (narrow text) ∙ rw (n.has_tokens, n.has_tree, n.same_program) in
        let ready = accepted_ready text e in
        record {
          table = n.table;
          accepted = is;
          paired = record { thin = n.thinned; laid = ready.ordered; laid' = (accepted_ready (narrow text) is).ordered };
          fits = ready.fits;
          free = λ h. free_program ts (free_tokens text ts q y h) l p z P Γ t;
        }

    parse : (ts : List Token) (q : ℕ) → lexed text ≡ ok ts q → (o : Out ℕ Stmts) → read ts ≡ o → pass o typed_program ≡ ok P Γ → Narrowed text P Γ
    parse ts q y (ok l p) z t = over ts q y l p z t (narrowing text ts q l p P Γ y z t)
    parse ts q y (refused c p) z e = let n : ◌≡◌ {A = ℕ} 0 1 = cc in absurd (omega arith)

    lex : (o : Out ℕ (List Token)) → lexed text ≡ o → pass o (λ ts. pass (read ts) typed_program) ≡ ok P Γ → Narrowed text P Γ
    lex (ok ts q) y e = parse ts q y (read ts) refl e
    lex (refused c p) y e = let n : ◌≡◌ {A = ℕ} 0 1 = cc in absurd (omega arith)
