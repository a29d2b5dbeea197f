-- The reader's definition reads exactly the tokens that have a derivation within the limit, as that derivation's tree.
use Prim.Native.Nat.{ℕ, ◌<◌}
use mathlib.Core.Path.{◌≡◌, refl, ap, ◌∙◌}
use mathlib.Core.Logic.{◌↔◌}
use mathlib.Core.List.{List, []}
use native.Mathlib.Omega.{arith}
use native.Mathlib.Decide.{dec_lt}
use lib.ListN.{length}
use Rattle.meaning.specs.declared.Refusal.TheVariants.{NotAllowed, TooDeep}
use Rattle.meaning.specs.Codes.{ok, refused, nesting_limit}
use Rattle.meaning.specs.Tokens.{Token, lexed}
use Rattle.meaning.specs.Tree.{Stmts}
use Rattle.meaning.specs.Reading.{read}
use Rattle.laws.proofs.Tokens.{lexed_accepted}
use Rattle.grammar.specs.Grammar.{Program, program_tokens, program_nesting, program_tree, Derives}
use Rattle.grammar.proofs.Parse.{program}
use Rattle.grammar.proofs.Sound.{read_derives, reads_all}
use Rattle.grammar.proofs.One.{parses, deep_parses}
use Rattle.grammar.proofs.Agree.{read_agrees, deep_agrees}

-- Tokens with a derivation within the limit are read to their end.
pub derived_read : (ts : List Token) (t : Stmts) → Derives ts t → read ts ≡ ok t (length ts)
derived_read ts t d =
    let p = d.derivation in
    let within : program (length ts) nesting_limit ts ≡ ok p [] = rw d.written at (parses p (length ts) nesting_limit (rw d.written (omega arith)) d.nested) in
    read_agrees ts p within ∙ ap (λ u. ok u (length ts)) d.tree

pub reads_exactly : (ts : List Token) (t : Stmts) → read ts ≡ ok t (length ts) ↔ Derives ts t
reads_exactly ts t = (read_derives ts t, derived_read ts t)

-- The tokens of a text are never left unread.
pub text_reads_exactly : (text : List ℕ) (ts : List Token) (q : ℕ) → lexed text ≡ ok ts q → (t : Stmts) → ((p : ℕ) × (read ts ≡ ok t p)) ↔ Derives ts t
text_reads_exactly text ts q l t = (
  λ r. read_derives ts t (rw (reads_all ts text (lexed_accepted text l).spelled t r.0 r.1) at r.1),
  λ d. (length ts, derived_read ts t d),
)

-- "an allowed one that opens the 33rd gives code 4": tokens whose derivation nests deeper are refused for that, and for nothing else.
pub deep_refused : (p : Program) → nesting_limit < program_nesting p → (q : ℕ) × (read (program_tokens p) ≡ refused TooDeep q)
deep_refused p d =
    let ts = program_tokens p in
    let parsed = deep_parses p (length ts) nesting_limit (omega arith) d in
    let h = deep_agrees ts parsed.place parsed.is in
    (h.place, h.is)

-- "A token not allowed there gives code 3": tokens that are refused so have no derivation, however deep.
pub not_allowed_underived : (p : Program) (q : ℕ) → read (program_tokens p) ≡ refused NotAllowed q → ⊥
not_allowed_underived p q e = go (dec_lt nesting_limit (program_nesting p))
  where
    go : Dec (nesting_limit < program_nesting p) → ⊥
    go (yes d) = let h = deep_refused p d in let g = h.1 in let z : ◌≡◌ {A = ℕ} 0 1 = cc in omega arith
    go (no d) =
        let h = derived_read (program_tokens p) (program_tree p) (record { derivation = p; written = refl; nested = omega (arith, d); tree = refl }) in
        let z : ◌≡◌ {A = ℕ} 0 1 = cc in
        omega arith
