-- What the stages say, one after another, is what judging says.
use Prim.Native.Nat.{ℕ}
use mathlib.Core.Path.{◌≡◌, refl, sym, ◌∙◌}
use mathlib.Core.List.{List}
use native.Mathlib.Omega.{arith}
use lib.ListN.{length, take}
use lib.Seq.{length-take-le}
use Rattle.std.specs.declared.result.Result.TheVariants.{Ok, Err}
use Rattle.std.specs.Result.{IsErrAnd}
use Rattle.meaning.specs.declared.Refusal.{Refusal}
use Rattle.meaning.specs.Codes.{Out, ok, refused, nesting_limit}
use Rattle.meaning.specs.Tokens.{Token, lexed}
use Rattle.meaning.specs.Reading.{read}
use Rattle.meaning.specs.Program.{Program, nothing}
use Rattle.meaning.specs.Memory.{Declarations}
use Rattle.meaning.specs.Typing.{typed_program}
use Rattle.meaning.specs.Services.{pass, judged}
use Rattle.layout.proofs.Handed.{handed_up}
use Rattle.layout.specs.declared.Reached.{Reached}
use Rattle.layout.specs.declared.Refused.{Refused}
use Rattle.layout.specs.Stage.{Stage}
use Rattle.laws.proofs.Tokens.{lexed_accepted, lexed_short}
use Rattle.laws.proofs.Reading.{walkable}
use Rattle.tokens.specs.Lexing.{Lexes}
use Rattle.reading.specs.Contract.{TextIs, ReadsText}
use Rattle.typing_expressions.specs.Answers.{ThereIs}
use Rattle.typing.specs.Answers.{program_out, ProgramRoom, TypesProgram}
use Rattle.typing.specs.Shapes.{Statements}
use Rattle.judge.specs.Contract.{JudgingRoom, JudgesText}
use Rattle.judge.proofs.Buffers.{holds_only}

-- One pass after another, by what the first ends in.
pass_ok : {S T A B : Type 0} (o : Out S A) (k : A → Out T B) {a : A} {s : S} → o ≡ ok a s → pass o k ≡ k a
unfolding pass
pass_ok o k e = rw e

pass_refused : {S T A B : Type 0} (o : Out S A) (k : A → Out T B) {c : Refusal} {p : ℕ} → o ≡ refused c p → pass o k ≡ refused c p
unfolding pass
pass_refused o k e = rw e

-- The passes of judging.
rest : List Token → Out Declarations Program
rest ts = pass (read ts) typed_program

judged_is : (text : List ℕ) → judged text ≡ pass (lexed text) rest
unfolding judged rest
judged_is text = refl

-- A text that is refused at a place.
judges_refusal : {text : List ℕ} (table code : List ℕ) {r : Stage} {why : Refused} → r ≡ Err why → judged text ≡ refused why.refusal why.place → JudgesText text table code r
unfolding program_out
judges_refusal table code is e = rw is (record { program = nothing; is = e; accepted = tt })

-- What the lexer refuses is refused.
pub not_lexed : {text buffer : List ℕ} (table code : List ℕ) {r : Stage} {why : Refused} → Lexes text (Err why) buffer → IsErrAnd r (λ x. x ≡ why) → JudgesText text table code r
not_lexed {text} table code l up = judges_refusal table code (handed_up _ up) (judged_is text ∙ pass_refused (lexed text) rest l.is)

-- What is left to do after the tokens are known.
after-tokens : {text buffer : List ℕ} {lexes : Reached} (l : Lexes text (Ok lexes) buffer) → judged text ≡ pass (read l.tokens) typed_program
unfolding rest
after-tokens {text} l = judged_is text ∙ pass_ok (lexed text) rest l.is

module _ {text buffer : List ℕ} {lexes : Reached} (l : Lexes text (Ok lexes) buffer) {tree : List ℕ} where
  -- What the reader says of the tokens of the text.
  told : {r : Stage} → ReadsText (take lexes.size buffer) tree r → TextIs (read l.tokens) tree r
  told t = t.told l.tokens (holds_only l)

  -- What the reader refuses is refused.
  pub not_read : (table code : List ℕ) {r : Stage} {why : Refused} → ReadsText (take lexes.size buffer) tree (Err why) → r ≡ Err why → JudgesText text table code r
  not_read table code t is = judges_refusal table code is (after-tokens l ∙ pass_refused (read l.tokens) typed_program (told t).is)

  module _ {parsed : Reached} (t : ReadsText (take lexes.size buffer) tree (Ok parsed)) where
    -- The tree that was read is one that typing can go through.
    read_tree : Statements nesting_limit text (take parsed.size tree) (told t).what
    read_tree = record {
      is = (told t).words;
      walkable = walkable text l.tokens (lexed_accepted text l.is).spelled (told t).what parsed.count (told t).is;
    }

    pub a_tree : ThereIs (Statements nesting_limit text (take parsed.size tree))
    a_tree = record { the = (told t).what; is = read_tree }

    -- The buffers have the room that typing asks for: the stages before leave them as long as they were.
    pub program_room : {old table code stack code' : List ℕ} → JudgingRoom text old table code stack → length tree ≡ length old → length code' ≡ length code → ProgramRoom text (take parsed.size tree) table code' stack
    program_room room same same' =
        let counted = length-take-le parsed.size tree t.fits in
        record {
          short = lexed_short text l.is;
          few = omega (arith, counted, t.fits, room.few);
          rows_room = room.rows_room;
          code_room = omega (arith, counted, t.fits, room.code_room);
          stack_room = room.stack_room;
        }

    -- What typing says of it is said of the text.
    pub judges : {table code : List ℕ} {r : Stage} → TypesProgram text (take parsed.size tree) table code r → JudgesText text table code r
    judges f =
        let j = f (told t).what read_tree in
        record {
          program = j.program;
          is = after-tokens l ∙ pass_ok (read l.tokens) typed_program (told t).is ∙ sym j.is;
          accepted = j.accepted;
        }
