-- No derivation has the end of the text inside it, and the tokens of a text have it once, as their last.
use Prim.Native.Nat.{ℕ, zero, suc, ◌<◌}
use mathlib.Core.Path.{◌≡◌, refl, ◌∙◌}
use mathlib.Core.List.{List, [], ◌∷◌}
use native.Mathlib.Omega.{arith}
use lib.Dec.{eqb}
use lib.ListN.{length, drop}
use borrow.Author.Tests.{ne_eqb, eq-eqb}
use Rattle.meaning.specs.Codes.{when◌then◌else◌}
use Rattle.meaning.specs.Tokens.{Token, end_at, the, words, marks, numbered, reserved, signs}
use Rattle.laws.specs.Tokens.{AllIn, the_last, one_more}
use Rattle.laws.proofs.Tokens.{spelled_some}
use Rattle.grammar.specs.Grammar.{Operator, or, xor, and, eq, ne, lt, gt, le, ge, add, sub, mul, Sign, neg, inv, not, Expression, number, float_number, true as a_true, false as a_false, name, current_mask, parenthesised, unary, binary, tighter, KindWord, int, bool, float, BlockPart, no_block, block, Statement, empty, braces, declaration, initialised, assignment, if_else, while, scalar, Statements, none_yet, ◌⨾◌, token, operator_token, sign_token, kind_token}
use Rattle.grammar.proofs.Written.{expression_before, block_before, statement_before, statements_before}

-- How many of some tokens are the end of the text.
unfoldable pub ends : List Token → ℕ
unfolding the words marks numbered reserved signs
ends [] = 0
ends (t ∷ l) = when eqb t.is (the "end") then (λ _. suc (ends l)) else λ _. ends l

operator_ends : {n : ℕ} (o : Operator n) (l : List Token) → ends (operator_token o ∷ l) ≡ ends l
unfolding ends operator_token
operator_ends (or t) l = refl
operator_ends (xor t) l = refl
operator_ends (and t) l = refl
operator_ends (eq t) l = refl
operator_ends (ne t) l = refl
operator_ends (lt t) l = refl
operator_ends (gt t) l = refl
operator_ends (le t) l = refl
operator_ends (ge t) l = refl
operator_ends (add t) l = refl
operator_ends (sub t) l = refl
operator_ends (mul t) l = refl

sign_ends : (o : Sign) (l : List Token) → ends (sign_token o ∷ l) ≡ ends l
unfolding ends sign_token
sign_ends (neg t) l = refl
sign_ends (inv t) l = refl
sign_ends (not t) l = refl

expression_ends : {n : ℕ} (e : Expression n) (l : List Token) → ends (expression_before e l) ≡ ends l
unfolding ends expression_before token
expression_ends (number t) l = refl
expression_ends (float_number t) l = refl
expression_ends (a_true t) l = refl
expression_ends (a_false t) l = refl
expression_ends (name t) l = refl
expression_ends (current_mask t) l = refl
expression_ends (parenthesised a e b) l = expression_ends e (token b ∷ l)
expression_ends (unary o e) l = sign_ends o (expression_before e l) ∙ expression_ends e l
expression_ends (binary e o e') l =
    expression_ends e (operator_token o ∷ expression_before e' l) ∙ operator_ends o (expression_before e' l) ∙ expression_ends e' l
expression_ends (tighter e) l = expression_ends e l

kind_ends : (k : KindWord) (l : List Token) → ends (kind_token k ∷ l) ≡ ends l
unfolding ends kind_token
kind_ends (int t) l = refl
kind_ends (bool t) l = refl
kind_ends (float t) l = refl

block_ends : (b : BlockPart) (l : List Token) → ends (block_before b l) ≡ ends l
unfolding ends block_before token
block_ends no_block l = refl
block_ends (block t a n b) l = refl

mutual
  unfolding ends statement_before token

  pub statement_ends : (s : Statement) (l : List Token) → ends (statement_before s l) ≡ ends l
  statement_ends (empty t) l = refl
  statement_ends (braces a m b) l = statements_ends m (token b ∷ l)
  statement_ends (declaration k b x c) l = kind_ends k (block_before b (token x ∷ token c ∷ l)) ∙ block_ends b (token x ∷ token c ∷ l)
  statement_ends (initialised k b x q e c) l =
      let v = expression_before e (token c ∷ l) in
      kind_ends k (block_before b (token x ∷ token q ∷ v)) ∙ block_ends b (token x ∷ token q ∷ v) ∙ expression_ends e (token c ∷ l)
  statement_ends (assignment x q e c) l = expression_ends e (token c ∷ l)
  statement_ends (if_else t a e b s v u) l =
      expression_ends e (token b ∷ statement_before s (token v ∷ statement_before u l)) ∙ statement_ends s (token v ∷ statement_before u l) ∙ statement_ends u l
  statement_ends (while t a e b s) l = expression_ends e (token b ∷ statement_before s l) ∙ statement_ends s l
  statement_ends (scalar t s) l = statement_ends s l

  pub statements_ends : (m : Statements) (l : List Token) → ends (statements_before m l) ≡ ends l
  statements_ends none_yet l = refl
  statements_ends (m ⨾ s) l = statements_ends m (statement_before s l) ∙ statement_ends s l

-- The tokens of a text, from any position on, have one end.
pub one_end : {text : List ℕ} {k : ℕ} {ts : List Token} → AllIn text k ts → (p : ℕ) → p < length ts → ends (drop p ts) ≡ 1
unfolding ends end_at
one_end the_last zero h = refl
one_end the_last (suc p) h = absurd (omega arith)
one_end (one_more {t = t} _ i a) zero h = rw (ne_eqb t.is 0 i.not_end) (one_end a zero (spelled_some a))
one_end (one_more _ i a) (suc p) h = one_end a p (omega arith)

pub starts_with_end : (t : Token) (l : List Token) → t.is ≡ the "end" → ends (t ∷ l) ≡ suc (ends l)
unfolding ends
starts_with_end t l e = rw (eq-eqb t.is (the "end") e)
