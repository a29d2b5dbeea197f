-- A text is accepted exactly when its tokens have a derivation within the limits and the rules type the derivation's tree.
use Prim.Native.Nat.{ℕ, ◌≤◌, ◌<◌}
use mathlib.Core.Path.{◌≡◌, refl, sym, ◌∙◌}
use mathlib.Core.Bool.{true}
use mathlib.Core.Logic.{◌↔◌}
use mathlib.Core.List.{List}
use native.Mathlib.Omega.{arith}
use lib.Dec.{leb}
use lib.ListN.{length}
use borrow.Author.Tests.{le-leb}
use Rattle.meaning.specs.declared.Refusal.TheVariants.{TooDeep}
use Rattle.meaning.specs.Codes.{code, ok, text_limit, nesting_limit}
use Rattle.meaning.specs.Tokens.{Token, tokens, lexed}
use Rattle.meaning.specs.Reading.{sequence, statement, read}
use Rattle.meaning.specs.Typing.{typed_program}
use Rattle.meaning.specs.Services.{pass, judged, verdict, judge, answer}
use Rattle.rules.specs.Accepted.{Accepted as ReadAccepted}
use Rattle.rules.proofs.Acceptance.{acceptance as by_reader}
use Rattle.grammar.specs.Grammar.{Program, program_tokens, program_nesting, program_tree}
use Rattle.grammar.specs.Accepted.{Accepted}
use Rattle.grammar.proofs.One.{one_derivation}
use Rattle.grammar.proofs.Exactly.{derived_read, text_reads_exactly, deep_refused}

lexed_short : (text : List ℕ) (ts : List Token) (q : ℕ) → leb (length text) text_limit ≡ true → tokens text ≡ ok ts q → lexed text ≡ ok ts q
unfolding lexed
lexed_short text ts q h e = rw h e

read_is : (ts : List Token) → read ts ≡ sequence ts "end" (statement ts nesting_limit) 0
unfolding read
read_is ts = refl

-- The tree that is read is a derivation's, and a derivation's tree is read.
derived : (text : List ℕ) → ReadAccepted text → Accepted text
derived text a =
    let lexes : lexed text ≡ ok a.tokens a.end = lexed_short text a.tokens a.end (le-leb (length text) text_limit a.short) a.lexes in
    let d = (text_reads_exactly text a.tokens a.end lexes a.tree).0 (a.last, read_is a.tokens ∙ a.reads) in
    record {
      derivation = d.derivation;
      end = a.end;
      names = a.names;
      short = a.short;
      lexes = rw d.written a.lexes;
      nested = omega (arith, d.nested);
      few = rw d.tree a.few;
      types = rw d.tree a.types;
    }

underived : (text : List ℕ) → Accepted text → ReadAccepted text
underived text a =
    let ts = program_tokens a.derivation in
    record {
      tokens = ts;
      end = a.end;
      tree = program_tree a.derivation;
      last = length ts;
      names = a.names;
      short = a.short;
      lexes = a.lexes;
      reads = sym (read_is ts) ∙ derived_read ts (program_tree a.derivation) (record { derivation = a.derivation; written = refl; nested = a.nested; tree = refl });
      few = a.few;
      types = a.types;
    }

-- "accepted exactly when the rules type it within the stated limits"
pub acceptance : (text : List ℕ) → (judge text).code ≡ 0 ↔ Accepted text
acceptance text = (λ e. derived text ((by_reader text).0 e), λ a. (by_reader text).1 (underived text a))

-- An accepted text has one derivation.
pub one_accepted : (text : List ℕ) (a b : Accepted text) → a.derivation ≡ b.derivation
one_accepted text a b =
    let same : ok (program_tokens a.derivation) a.end ≡ ok (program_tokens b.derivation) b.end = sym a.lexes ∙ b.lexes in
    one_derivation a.derivation b.derivation cc

judge_is : (text : List ℕ) → judge text ≡ verdict (λ Γ. 0) (pass (lexed text) (λ ts. pass (read ts) typed_program))
unfolding judge judged
judge_is text = refl

-- "an allowed one that opens the 33rd gives code 4"
pub too_deep : (text : List ℕ) (p : Program) (end : ℕ) → length text ≤ text_limit → tokens text ≡ ok (program_tokens p) end → nesting_limit < program_nesting p →
    (judge text).code ≡ code TooDeep
unfolding pass verdict answer
too_deep text p end short lexes d =
    rw (judge_is, lexed_short text (program_tokens p) end (le-leb (length text) text_limit short) lexes, (deep_refused p d).1)
