-- Document 01, "The text": tokens to the tree; refusals 3 and 4.
use Rattle.std.specs.Prelude.{ℕ, zero, suc, true, false, List, [], ◌∷◌, ◌++◌, map, eqb, length, get_or}
use Prim.Native.String.{String}
use Rattle.std.proofs.Math.Option.{Option, none, some}
use Rattle.meaning.specs.declared.Kind.{Kind}
use Rattle.meaning.specs.declared.Refusal.TheVariants.{NotAllowed, TooDeep}
use Rattle.meaning.specs.Codes.{Out, ok, Doing, ◌>>=◌, ◌>>◌, give, refuse, check, repeat, option, lookup, when◌then◌else◌, ◌among◌, nesting_limit}
use Rattle.meaning.specs.Tokens.{Token, end_at, the, words, marks, numbered, reserved, signs}
use Rattle.meaning.specs.declared.Unary.TheVariants.{Neg as neg, Inv as inv, Not as unary_not}
use Rattle.meaning.specs.declared.Binary.{Binary}
use Rattle.meaning.specs.Tree.{kinds, table, unary_table, levels, Expr, number, float_number, boolean, name, current_mask, unary, binary, Block, Stmt, empty, braces, declare, assign, if_else, while, scalar, Stmts, none_yet, ◌⨾◌}

-- Reading goes on from a position in the list of tokens.
abbrev pub Reads : Type 0 → Type 0
Reads A = Doing ℕ A

-- What is read after a token of some sort, given that token.
abbrev pub After : Type 0 → Type 0
After A = Token → Reads A

infix 15 ◌⇒◌
-- `"(" ⇒ k`: after a `(`, k.
unfoldable pub ◌⇒◌ : {A : Type 0} → String → After A → ℕ × After A
◌⇒◌ s k = (the s, k)

-- The one of some operators that a token is.
unfoldable pub operator : ℕ → List Binary → Option Binary
operator k os = lookup (eqb k) (map (λ o. (the (table o).0, o)) os)

-- What may begin a statement.
unfoldable pub begins : List ℕ
begins = map the (";" ∷ "{" ∷ map (λ k. k.0) kinds ++ "name" ∷ "if" ∷ "while" ∷ "scalar" ∷ [])

module _ (ts : List Token) where
  -- The token at a position.
  unfoldable pub look : Reads Token
  look at = ok (get_or ts at (end_at 0)) at

  -- The same, and go past it.
  unfoldable pub next : Reads Token
  next at = ok (get_or ts at (end_at 0)) (suc at)

  -- "A token not allowed there gives code 3"; "text ends too soon".
  unfoldable pub choose : {A : Type 0} → List (ℕ × After A) → Reads A
  choose cases = do
    t ← look
    option (refuse NotAllowed t.place) (λ k. do next; k t) (lookup (eqb t.is) cases)

  -- A token of one sort, and no other.
  unfoldable pub expect : String → Reads Token
  expect s = choose ((s ⇒ give) ∷ [])

  -- Each turn of a repetition takes a token, so there are no more turns than tokens.
  unfoldable pub as_long : {A : Type 0} → (A → Reads (Option A)) → A → Reads A
  as_long = repeat (length ts)

  -- One more of the operators os after e, and its right operand.
  unfoldable pub more : List Binary → Reads Expr → Expr → Reads (Option Expr)
  more os tighter e = do
    t ← look
    option (give none) (λ o. do next; e' ← tighter; give (some (binary t.place o e e'))) (operator t.is os)

  -- "Binary operators group to the left": those of the levels ls, over what `operands` reads.
  unfoldable pub binaries : List (List Binary) → Reads Expr → Reads Expr
  binaries [] operands = operands
  binaries (os ∷ ls) operands = do e ← binaries ls operands; as_long (more os (binaries ls operands)) e

  -- "then unary `-` `~` `!`, then number, true, false, name, current_mask, or a parenthesised expression"; document 02,
  -- R-2: "A constant is a whole number up to 16777216 followed by `.0`". `deep` and `parens` read what stands one level deeper.
  unfoldable pub operand : After Expr → After Expr → Reads Expr
  operand deep parens = choose (
      map (λ o. (unary_table o).0 ⇒ λ t. do e ← deep t; give (unary t.place o e)) (neg ∷ inv ∷ unary_not ∷ []) ++
      ("number" ⇒ λ t. give (number t.value))
      ∷ ("float number" ⇒ λ t. give (float_number t.value))
      ∷ ("true" ⇒ λ t. give (boolean true))
      ∷ ("false" ⇒ λ t. give (boolean false))
      ∷ ("name" ⇒ λ t. give (name t.place t.spelled))
      ∷ ("current_mask" ⇒ λ t. give current_mask)
      ∷ ("(" ⇒ parens)
      ∷ [])

  -- "an allowed one that opens the 33rd gives code 4"
  unfoldable pub no_room : {A : Type 0} → After A
  no_room t = refuse TooDeep t.place

  -- What m reads, and then `)`.
  unfoldable pub closed : Reads Expr → After Expr
  closed m t = do e ← m; expect ")"; give e

  -- An operand, where r more levels may open.
  unfoldable pub unaries : ℕ → Reads Expr
  unaries zero = operand no_room no_room
  unaries (suc r) = operand (λ t. unaries r) (closed (binaries levels (unaries r)))

  -- An expression there.
  unfoldable pub expression : ℕ → Reads Expr
  expression r = binaries levels (unaries r)

  -- One in parentheses, after its `(`.
  unfoldable pub parenthesised : ℕ → After Expr
  parenthesised zero = no_room
  parenthesised (suc r) = closed (expression r)

  -- "then perhaps `block[N]`"
  unfoldable pub block : Reads Block
  block = do
    t ← look
    when eqb t.is (the "block")
        then (λ _. do next; expect "["; n ← expect "number"; expect "]"; give (some (n.value, n.place)))
        else λ _. give none

  -- "a declaration, a declaration with initial value", after its first token t
  unfoldable pub declaration : ℕ → Kind → After Stmt
  declaration r k t = do
    b ← block
    x ← expect "name"
    let declared = declare t.place k b x.place x.spelled
    choose (
        (";" ⇒ λ _. give (declared none))
        ∷ ("=" ⇒ λ q. do e ← expression r; expect ";"; give (declared (some (q.place, e))))
        ∷ [])

  -- "assignment to a name", after that name
  unfoldable pub assignment : ℕ → After Stmt
  assignment r x = do q ← expect "="; e ← expression r; expect ";"; give (assign x.place x.spelled q.place e)

  -- `if` "with parenthesised condition"
  unfoldable pub condition : ℕ → Reads Expr
  condition r = do t ← expect "("; parenthesised r t

  -- "A branch or body opens at its first token, which may open a second level itself."
  unfoldable pub opening : After Stmt → Reads Stmt
  opening deep = do t ← look; check (t.is among begins) NotAllowed t.place; deep t

  -- One more statement after l, unless the closing token is next.
  unfoldable pub another : String → Reads Stmt → Stmts → Reads (Option Stmts)
  another close m l = do
    t ← look
    when eqb t.is (the close) then (λ _. give none) else λ _. do s ← m; give (some (l ⨾ s))

  -- "a sequence of statements, perhaps empty", and the token that closes it
  unfoldable pub sequence : String → Reads Stmt → Reads Stmts
  sequence close m = do l ← as_long (another close m) none_yet; expect close; give l

  -- "Statements": `deep` reads a branch or a body, `braced` what stands in braces.
  unfoldable pub statement_over : ℕ → After Stmt → After Stmts → Reads Stmt
  statement_over r deep braced = choose (
      (";" ⇒ λ t. give (empty t.place))
      ∷ ("{" ⇒ λ t. do l ← braced t; give (braces t.place l))
      ∷ map (λ k. k.0 ⇒ declaration r k.1) kinds ++
      ("name" ⇒ assignment r)
      ∷ ("if" ⇒ λ t. do e ← condition r; s ← opening deep; expect "else"; u ← opening deep; give (if_else t.place e s u))
      ∷ ("while" ⇒ λ t. do e ← condition r; s ← opening deep; give (while t.place e s))
      ∷ ("scalar" ⇒ λ t. do s ← opening deep; give (scalar t.place s))
      ∷ [])

  -- A statement where r more levels may open.
  unfoldable pub statement : ℕ → Reads Stmt
  statement zero = statement_over zero no_room no_room
  statement (suc r) = statement_over (suc r) (λ t. statement r) (λ t. sequence "}" (statement r))

  -- "A program is a sequence of statements, perhaps empty." "The limit is 32."
  unfoldable pub read : Out ℕ Stmts
  unfolding end_at the words marks numbered reserved signs kinds table unary_table levels operator ◌⇒◌ look next choose expect as_long more binaries operand no_room closed unaries expression parenthesised block declaration assignment condition opening another sequence statement_over statement begins
  read = sequence "end" (statement nesting_limit) 0
