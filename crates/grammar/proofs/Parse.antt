-- The reader once more, over the list of tokens that are left, giving the derivation in place of the tree: K turns at most in each
-- repetition, r more levels.
use Prim.Native.Nat.{ℕ, zero, suc}
use Prim.Native.String.{String}
use mathlib.Core.Path.{◌≡◌, refl}
use mathlib.Core.List.{List, [], ◌∷◌}
use mathlib.Core.Option.{Option, none, some}
use lib.Dec.{eqb}
use Rattle.meaning.specs.declared.Refusal.TheVariants.{NotAllowed, TooDeep}
use Rattle.meaning.specs.Codes.{ok, refused, Doing, after, ◌>>=◌, ◌>>◌, give, refuse, check, option, repeat, when◌then◌else◌, ◌among◌}
use Rattle.meaning.specs.Tokens.{Token, end_at, the}
use Rattle.meaning.specs.Reading.{begins}
use Rattle.grammar.specs.Grammar.{The, every_level, no_level, Operator, or, xor, and, eq, ne, lt, gt, le, ge, add, sub, mul, neg, inv, not, Expression, number, float_number, true, false, name, current_mask, parenthesised, unary, binary, tighter, KindWord, int, bool, float, BlockPart, no_block, block, Statement, empty, braces, declaration, initialised, assignment, if_else, while, scalar, Statements, none_yet, ◌⨾◌, Program}
use Rattle.grammar.proofs.Levels.{as_the}

-- Reading goes on from the tokens that are left.
abbrev pub Parse : Type 0 → Type 0
Parse A = Doing (List Token) A

-- A condition is `(`, an expression and `)`; what follows a `{`, statements and `}`.
abbrev pub Condition : Type 0
Condition = The "(" × Expression every_level × The ")"

abbrev pub Braced : Type 0
Braced = Statements × The "}"

-- What follows a token of one sort.
abbrev pub Case : Type 0 → Type 0
Case A = (s : String) × (The s → A)

-- The one of some cases that a token is.
unfoldable pub find : {A : Type 0} → Token → List (Case A) → Option A
find t [] = none
find t (c ∷ l) = when eqb t.is (the c.0) then (λ _. some (c.1 (as_the c.0 t))) else λ _. find t l

-- The case that the next token is, and what follows it.
unfoldable pub pick : {A : Type 0} → List (Case (Parse A)) → Parse A
unfolding find
pick cases [] = refused NotAllowed 0
pick cases (t ∷ l) = option (refuse NotAllowed 0) (λ k. k) (find t cases) l

-- A token of one sort, and no other.
unfoldable pub one : (s : String) → Parse (The s)
unfolding pick
one s = pick ((s, λ x. give x) ∷ [])

-- The next token, or the end.
unfoldable pub first : List Token → Token
first [] = end_at 0
first (t ∷ l) = t

-- The operators of a level.
unfoldable pub operators : (n : ℕ) → List (Case (Operator n))
operators zero = ("*", mul) ∷ []
operators (suc zero) = ("+", add) ∷ ("-", sub) ∷ []
operators (suc (suc zero)) = ("<", lt) ∷ (">", gt) ∷ ("<=", le) ∷ (">=", ge) ∷ []
operators (suc (suc (suc zero))) = ("==", eq) ∷ ("!=", ne) ∷ []
operators (suc (suc (suc (suc zero)))) = ("&", and) ∷ []
operators (suc (suc (suc (suc (suc zero))))) = ("^", xor) ∷ []
operators (suc (suc (suc (suc (suc (suc zero)))))) = ("|", or) ∷ []
operators (suc (suc (suc (suc (suc (suc (suc n))))))) = []

-- One more operator of level n and its right operand.
unfoldable pub one_more : (n : ℕ) → Parse (Expression n) → Expression (suc n) → Parse (Option (Expression (suc n)))
one_more n m e [] = ok none []
one_more n m e (t ∷ l) = option (ok none (t ∷ l)) (λ o. after (m l) (λ e'. give (some (binary e o e')))) (find t (operators n))

-- An operand; `deep` and `inside` read what stands one level deeper.
unfoldable pub operand : Parse (Expression no_level) → Parse (Expression every_level) → Parse (Expression no_level)
unfolding pick one
operand deep inside = pick (
    ("-", λ x. do e ← deep; give (unary (neg x) e))
    ∷ ("~", λ x. do e ← deep; give (unary (inv x) e))
    ∷ ("!", λ x. do e ← deep; give (unary (not x) e))
    ∷ ("number", λ x. give (number x))
    ∷ ("float number", λ x. give (float_number x))
    ∷ ("true", λ x. give (true x))
    ∷ ("false", λ x. give (false x))
    ∷ ("name", λ x. give (name x))
    ∷ ("current_mask", λ x. give (current_mask x))
    ∷ ("(", λ x. do e ← inside; y ← one ")"; give (parenthesised x e y))
    ∷ [])

-- "then perhaps `block[N]`"
unfoldable pub a_block : Parse BlockPart
unfolding one
a_block [] = ok no_block []
a_block (t ∷ l) =
    when eqb t.is (the "block")
    then (λ _. (do x ← one "["; n ← one "number"; y ← one "]"; give (block (as_the "block" t) x n y)) l)
    else λ _. ok no_block (t ∷ l)

-- "A branch or body opens at its first token"
unfoldable pub opening : Parse Statement → Parse Statement
unfolding first
opening deep l = (do check ((first l).is among begins) NotAllowed 0; deep) l

-- One more statement, unless the closing token is next.
unfoldable pub another : String → Parse Statement → Statements → Parse (Option Statements)
unfolding first
another close m s l = when eqb (first l).is (the close) then (λ _. ok none l) else λ _. after (m l) (λ t. give (some (s ⨾ t)))

module _ (K : ℕ) where
  -- "Binary operators group to the left": those of the n tightest levels.
  unfoldable pub grouped : (n : ℕ) → Parse (Expression no_level) → Parse (Expression n)
  grouped zero m = m
  grouped (suc n) m = do e ← grouped n m; repeat K (one_more n (grouped n m)) (tighter e)

  -- An operand and an expression where r more levels may open.
  unfoldable pub operands : ℕ → Parse (Expression no_level)
  operands zero = operand (refuse TooDeep 0) (refuse TooDeep 0)
  operands (suc r) = operand (operands r) (grouped every_level (operands r))

  unfoldable pub expression : ℕ → Parse (Expression every_level)
  expression r = grouped every_level (operands r)

  -- An operand and an expression one level deeper.
  unfoldable pub deeper_operand : ℕ → Parse (Expression no_level)
  deeper_operand zero = refuse TooDeep 0
  deeper_operand (suc r) = operands r

  unfoldable pub deeper_expression : ℕ → Parse (Expression every_level)
  deeper_expression zero = refuse TooDeep 0
  deeper_expression (suc r) = expression r

  pub operands_is : (r : ℕ) → operands r ≡ operand (deeper_operand r) (deeper_expression r)
  unfolding operands expression deeper_operand deeper_expression
  operands_is zero = refl
  operands_is (suc r) = refl

  -- "parenthesised condition"
  unfoldable pub condition : ℕ → Parse Condition
  unfolding one
  condition r = do x ← one "("; e ← deeper_expression r; y ← one ")"; give (x, e, y)

  -- "a declaration, a declaration with initial value", after its first token
  unfoldable pub declared : ℕ → KindWord → Parse Statement
  unfolding a_block one pick
  declared r k = do
    b ← a_block
    x ← one "name"
    pick (
        (";", λ c. give (declaration k b x c))
        ∷ ("=", λ q. do e ← expression r; c ← one ";"; give (initialised k b x q e c))
        ∷ [])

  -- "a sequence of statements, perhaps empty"; with the `}` behind it
  unfoldable pub many : String → Parse Statement → Parse Statements
  many close m = repeat K (another close m) none_yet

  unfoldable pub braced : Parse Statement → Parse Braced
  unfolding one
  braced m = do l ← many "}" m; y ← one "}"; give (l, y)

  -- "Statements": `deep` reads a branch or a body, `inside` what stands in braces.
  unfoldable pub statement_over : ℕ → Parse Statement → Parse Braced → Parse Statement
  unfolding declared opening one pick
  statement_over r deep inside = pick (
      (";", λ x. give (empty x))
      ∷ ("{", λ x. do b ← inside; give (braces x b.0 b.1))
      ∷ ("int", λ x. declared r (int x))
      ∷ ("bool", λ x. declared r (bool x))
      ∷ ("float", λ x. declared r (float x))
      ∷ ("name", λ x. do q ← one "="; e ← expression r; c ← one ";"; give (assignment x q e c))
      ∷ ("if", λ t. do c ← condition r; s ← opening deep; v ← one "else"; u ← opening deep; give (if_else t c.0 c.1 c.2 s v u))
      ∷ ("while", λ t. do c ← condition r; s ← opening deep; give (while t c.0 c.1 c.2 s))
      ∷ ("scalar", λ t. do s ← opening deep; give (scalar t s))
      ∷ [])

  -- A statement where r more levels may open.
  unfoldable pub statement : ℕ → Parse Statement
  statement zero = statement_over zero (refuse TooDeep 0) (refuse TooDeep 0)
  statement (suc r) = statement_over (suc r) (statement r) (braced (statement r))

  -- The statement and the statements one level deeper.
  unfoldable pub deeper_statement : ℕ → Parse Statement
  deeper_statement zero = refuse TooDeep 0
  deeper_statement (suc r) = statement r

  unfoldable pub deeper_statements : ℕ → Parse Braced
  deeper_statements zero = refuse TooDeep 0
  deeper_statements (suc r) = braced (statement r)

  pub statement_is : (r : ℕ) → statement r ≡ statement_over r (deeper_statement r) (deeper_statements r)
  unfolding statement deeper_statement deeper_statements
  statement_is zero = refl
  statement_is (suc r) = refl

  -- "A program is a sequence of statements, perhaps empty."
  unfoldable pub program : ℕ → Parse Program
  unfolding one
  program r = do l ← many "end" (statement r); e ← one "end"; give (record { statements = l; end = e })
