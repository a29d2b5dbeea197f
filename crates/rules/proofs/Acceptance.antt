-- A text is accepted exactly when it has a tree whose limits hold and which the rules type.
use Prim.Native.Nat.{ℕ, ◌≤◌}
use mathlib.Core.Path.{◌≡◌, refl, sym, ◌∙◌}
use mathlib.Core.Bool.{Bool, true, false}
use mathlib.Core.Logic.{◌↔◌}
use mathlib.Core.List.{List, []}
use native.Mathlib.Omega.{arith}
use lib.Dec.{leb}
use lib.ListN.{length}
use borrow.Author.Tests.{leb-true, le-leb}
use Rattle.meaning.specs.declared.Refusal.{Refusal}
use Rattle.meaning.specs.declared.Refusal.TheVariants.{TextTooLong}
use Rattle.meaning.specs.Codes.{code, Out, ok, refused, when◌then◌else◌, text_limit, nesting_limit}
use Rattle.meaning.specs.Tokens as T
use Rattle.meaning.specs.Tokens.{Token, lexed}
use Rattle.meaning.specs.Tree.{Stmts}
use Rattle.meaning.specs.Reading.{sequence, statement, read}
use Rattle.meaning.specs.Program.{Program}
use Rattle.meaning.specs.Memory.{Declarations}
use Rattle.meaning.specs.Typing.{typed_statements, typed_program}
use Rattle.meaning.specs.Services.{pass, judged, verdict, judge, answer}
use Rattle.rules.specs.Accepted.{Accepted}
use Rattle.laws.proofs.Outcomes.{said}
use Rattle.laws.proofs.Codes.{some_code}
use Rattle.rules.proofs.Names.{opens}
use Rattle.rules.proofs.Typed.{sequence_by_rules}
use Rattle.rules.proofs.Typable.{Becomes, becomes}

-- The three passes, and the limits of the first two.
lexed_is : (text : List ℕ) →
    lexed text ≡ (when leb (length text) text_limit then (λ _. T.tokens text) else λ _. refused TextTooLong 0)
unfolding lexed
lexed_is text = refl

read_is : (ts : List Token) → read ts ≡ sequence ts "end" (statement ts nesting_limit) 0
unfolding read
read_is ts = refl

typed_is : (l : Stmts) → typed_program l ≡ typed_statements 1 l []
unfolding typed_program
typed_is l = refl

judged_is : (text : List ℕ) → judged text ≡ pass (lexed text) (λ ts. pass (read ts) typed_program)
unfolding judged
judged_is text = refl

-- Code 0 is no refusal's.
pub refusal_above_0 : (c : Refusal) → code c ≡ 0 → ⊥
refusal_above_0 c e = omega (arith, some_code c)

-- The three passes of a text that the judge accepts.
record Passes (text : List ℕ) (tree : Stmts) (P : Program) (Γ : Declarations) : Type 0 where
  tokens : List Token
  end : ℕ
  last : ℕ
  lexes : lexed text ≡ ok tokens end
  reads : read tokens ≡ ok tree last
  types : typed_program tree ≡ ok P Γ

passes : (text : List ℕ) (P : Program) (Γ : Declarations) → judged text ≡ ok P Γ → (tree : Stmts) × Passes text tree P Γ
unfolding pass
passes text P Γ e = lexing (lexed text) refl (sym (judged_is text) ∙ e)
  where
    reading : (ts : List Token) (q : ℕ) → lexed text ≡ ok ts q → (o : Out ℕ Stmts) → read ts ≡ o → pass o typed_program ≡ ok P Γ →
        (tree : Stmts) × Passes text tree P Γ
    reading ts q l (ok t p) r h = (t, record { tokens = ts; end = q; last = p; lexes = l; reads = r; types = h })
    reading ts q l (refused c p) r h = let never : ◌≡◌ {A = ℕ} 0 1 = cc in absurd (omega arith)

    lexing : (o : Out ℕ (List Token)) → lexed text ≡ o → pass o (λ ts. pass (read ts) typed_program) ≡ ok P Γ →
        (tree : Stmts) × Passes text tree P Γ
    lexing (ok ts q) l h = reading ts q l (read ts) refl h
    lexing (refused c p) l h = let never : ◌≡◌ {A = ℕ} 0 1 = cc in absurd (omega arith)

-- It has a tree whose limits hold and which the rules type.
module _ (text : List ℕ) (tree : Stmts) (P : Program) (Γ : Declarations) (p : Passes text tree P Γ) where
  short_tokens : (length text ≤ text_limit) × (T.tokens text ≡ ok p.tokens p.end)
  short_tokens = go (leb (length text) text_limit) refl (sym (lexed_is text) ∙ p.lexes)
    where
      go : (t : Bool) → leb (length text) text_limit ≡ t →
          (when t then (λ _. T.tokens text) else λ _. refused TextTooLong 0) ≡ ok p.tokens p.end →
          (length text ≤ text_limit) × (T.tokens text ≡ ok p.tokens p.end)
      go true h e = (leb-true (length text) text_limit h, e)
      go false h e = let never : ◌≡◌ {A = ℕ} 0 1 = cc in absurd (omega arith)

  by_rules : Accepted text
  unfolding opens
  by_rules =
      let h = said (sequence_by_rules tree 1 []) (sym (typed_is tree) ∙ p.types) in
      record {
        tokens = p.tokens;
        end = p.end;
        tree = tree;
        last = p.last;
        names = opens Γ;
        short = short_tokens.0;
        lexes = short_tokens.1;
        reads = sym (read_is p.tokens) ∙ p.reads;
        few = let r = h.declares.within (omega arith) in omega arith;
        types = h.types;
      }

pub accepted : (text : List ℕ) (P : Program) (Γ : Declarations) → judged text ≡ ok P Γ → Accepted text
accepted text P Γ j = let p = passes text P Γ j in by_rules text p.0 P Γ p.1

-- What `meaning` makes of it.
pub text_becomes : (text : List ℕ) (a : Accepted text) → Becomes a.types
text_becomes text a = becomes a.types (omega arith) a.few

pub judges : (text : List ℕ) (a : Accepted text) → judged text ≡ ok (text_becomes text a).program (text_becomes text a).table
unfolding pass
judges text a =
    let lexes : lexed text ≡ ok a.tokens a.end = rw (lexed_is, le-leb (length text) text_limit a.short) a.lexes in
    let reads : read a.tokens ≡ ok a.tree a.last = read_is a.tokens ∙ a.reads in
    rw (judged_is, lexes, reads) (typed_is a.tree ∙ (text_becomes text a).typed)

judge_is : (text : List ℕ) → judge text ≡ verdict (λ Γ. 0) (judged text)
unfolding judge
judge_is text = refl

-- "a text is accepted exactly when those rules type it within the stated limits"
pub acceptance : (text : List ℕ) → (judge text).code ≡ 0 ↔ Accepted text
unfolding verdict answer
acceptance text = (
  λ e. accepts (judged text) refl (rw judge_is at e),
  λ a. rw (judge_is, judges text a),
)
  where
    accepts : (o : Out Declarations Program) → judged text ≡ o → (verdict (λ Γ. 0) o).code ≡ 0 → Accepted text
    accepts (ok P Γ) j e = accepted text P Γ j
    accepts (refused c p) j e = absurd (refusal_above_0 c e)
