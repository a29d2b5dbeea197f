-- The tokens of a derivation before others: as one list, with no sum of lists to regroup.
use Prim.Native.Nat.{ℕ}
use mathlib.Core.Path.{◌≡◌, refl}
use mathlib.Core.List.{List, ◌∷◌, ◌++◌, append_assoc}
use Rattle.meaning.specs.Tokens.{Token}
use Rattle.grammar.specs.Grammar.{Expression, number, float_number, true, false, name, current_mask, parenthesised, unary, binary, tighter, BlockPart, no_block, block, Statement, empty, braces, declaration, initialised, assignment, if_else, while, scalar, Statements, none_yet, ◌⨾◌, token, operator_token, sign_token, kind_token, expression_tokens, block_tokens, statement_tokens, statements_tokens}

unfoldable pub expression_before : {n : ℕ} → Expression n → List Token → List Token
expression_before (number t) l = token t ∷ l
expression_before (float_number t) l = token t ∷ l
expression_before (true t) l = token t ∷ l
expression_before (false t) l = token t ∷ l
expression_before (name t) l = token t ∷ l
expression_before (current_mask t) l = token t ∷ l
expression_before (parenthesised a e b) l = token a ∷ expression_before e (token b ∷ l)
expression_before (unary o e) l = sign_token o ∷ expression_before e l
expression_before (binary e o e') l = expression_before e (operator_token o ∷ expression_before e' l)
expression_before (tighter e) l = expression_before e l

unfoldable pub block_before : BlockPart → List Token → List Token
block_before no_block l = l
block_before (block t a n b) l = token t ∷ token a ∷ token n ∷ token b ∷ l

unfoldable mutual
  unfolding expression_before block_before

  pub statement_before : Statement → List Token → List Token
  statement_before (empty t) l = token t ∷ l
  statement_before (braces a m b) l = token a ∷ statements_before m (token b ∷ l)
  statement_before (declaration k b x c) l = kind_token k ∷ block_before b (token x ∷ token c ∷ l)
  statement_before (initialised k b x q e c) l = kind_token k ∷ block_before b (token x ∷ token q ∷ expression_before e (token c ∷ l))
  statement_before (assignment x q e c) l = token x ∷ token q ∷ expression_before e (token c ∷ l)
  statement_before (if_else t a e b s v u) l =
      token t ∷ token a ∷ expression_before e (token b ∷ statement_before s (token v ∷ statement_before u l))
  statement_before (while t a e b s) l = token t ∷ token a ∷ expression_before e (token b ∷ statement_before s l)
  statement_before (scalar t s) l = token t ∷ statement_before s l

  pub statements_before : Statements → List Token → List Token
  statements_before none_yet l = l
  statements_before (m ⨾ s) l = statements_before m (statement_before s l)

pub expression_joins : {n : ℕ} (e : Expression n) (l : List Token) → expression_before e l ≡ expression_tokens e ++ l
unfolding expression_before expression_tokens
expression_joins (number t) l = refl
expression_joins (float_number t) l = refl
expression_joins (true t) l = refl
expression_joins (false t) l = refl
expression_joins (name t) l = refl
expression_joins (current_mask t) l = refl
expression_joins (parenthesised a e b) l = rw (expression_joins e (token b ∷ l)) (simp append_assoc)
expression_joins (unary o e) l = rw (expression_joins e l)
expression_joins (binary e o e') l =
    rw (expression_joins e' l, expression_joins e (operator_token o ∷ expression_tokens e' ++ l)) (simp append_assoc)
expression_joins (tighter e) l = expression_joins e l

block_joins : (b : BlockPart) (l : List Token) → block_before b l ≡ block_tokens b ++ l
unfolding block_before block_tokens
block_joins no_block l = refl
block_joins (block t a n b) l = refl

mutual
  unfolding statement_before statement_tokens

  pub statement_joins : (s : Statement) (l : List Token) → statement_before s l ≡ statement_tokens s ++ l
  statement_joins (empty t) l = refl
  statement_joins (braces a m b) l = rw (statements_joins m (token b ∷ l)) (simp append_assoc)
  statement_joins (declaration k b x c) l = simp (block_joins, append_assoc)
  statement_joins (initialised k b x q e c) l = simp (block_joins, expression_joins, append_assoc)
  statement_joins (assignment x q e c) l = simp (expression_joins, append_assoc)
  statement_joins (if_else t a e b s v u) l = rw (statement_joins u l, statement_joins s (token v ∷ statement_tokens u ++ l)) (simp (expression_joins, append_assoc))
  statement_joins (while t a e b s) l = rw (statement_joins s l) (simp (expression_joins, append_assoc))
  statement_joins (scalar t s) l = rw (statement_joins s l)

  pub statements_joins : (m : Statements) (l : List Token) → statements_before m l ≡ statements_tokens m ++ l
  statements_joins none_yet l = refl
  statements_joins (m ⨾ s) l = rw (statement_joins s l, statements_joins m (statement_tokens s ++ l)) (simp append_assoc)
