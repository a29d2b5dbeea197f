-- What the functions that read statements ask, and what their answers say.
use Rattle.std.specs.Prelude.{ℕ, zero, suc, ◌+◌, ◌*◌, ◌-◌, ◌≤◌, ◌<◌, ◌≡◌, List, ◌++◌, eqb, length, take, IfOk, IfErr}
use Rattle.std.proofs.Math.Option.{Option, none, some}
use Rattle.std.proofs.lemmas.List.Edits.{sets}
use Rattle.meaning.specs.declared.Kind.{Kind}
use Rattle.meaning.specs.Codes.{Out, ok, refused, ◌>>=◌, ◌>>◌, give, when◌then◌else◌}
use Rattle.meaning.specs.Tokens.{Token, the}
use Rattle.meaning.specs.Tree.{Expr, Block, Stmt, Stmts, none_yet, ◌⨾◌}
use Rattle.meaning.specs.Reading.{Reads, After, look, next, expect, as_long, no_room, expression, block, condition, opening, statement, sequence, read}
use Rattle.layout.specs.Tokens.{place_at, value_at}
use Rattle.layout.specs.Words.{unit_words, unit, flat, value_place, value_words, flat_stmt, flat_stmts, block_length, block_place, kind_tag}
use Rattle.layout.specs.Heads.{short_head, long_head}
use Rattle.reading_expressions.specs.Contract.{HoldsOnly, EndsAText, ReadsAs, outcome, token_count}
use Rattle.layout.specs.Stage.{Stage}

-- A value: `=`, an expression and `;`, with the place of the `=`.
unfoldable pub valued : List Token → ℕ → Reads (ℕ × Expr)
valued ts r = do q ← expect ts "="; e ← expression ts r; expect ts ";"; give (q.place, e)

-- What follows a declared name: `;`, or a value.
unfoldable pub initial : List Token → ℕ → Reads (Option (ℕ × Expr))
initial ts r = do
  t ← look ts
  when eqb t.is (the ";") then (λ _. do next ts; give none) else λ _. do v ← valued ts r; give (some v)

-- What a branch or a body is, where r more levels may open.
unfoldable pub inner : List Token → ℕ → After Stmt
inner ts zero = no_room ts
inner ts (suc r) = λ t. statement ts r

-- What stands in braces there.
unfoldable pub braced : List Token → ℕ → After Stmts
braced ts zero = no_room ts
braced ts (suc r) = λ t. sequence ts "}" (statement ts r)

-- `else` and the branch after it.
unfoldable pub other : List Token → ℕ → Reads Stmt
other ts r = do expect ts "else"; opening ts (inner ts r)

-- One more statement after l, unless a token of the kind `close` is next.
unfoldable pub one_more : List Token → ℕ → ℕ → Stmts → Reads (Option Stmts)
one_more ts close r l = do
  t ← look ts
  when eqb t.is close then (λ _. give none) else λ _. do s ← statement ts r; give (some (l ⨾ s))

-- Statements up to a token of that kind, which is not read.
unfoldable pub listed : List Token → ℕ → ℕ → Reads Stmts
listed ts close r = as_long ts (one_more ts close r) none_yet

-- A token of kind k begins a declaration.
pub record BeginsDeclaration (k : ℕ) : Type 0 where
  pub kind : Kind
  pub is : k ≡ kind_tag kind

-- What stands from `at`, behind the type's first token, to the name: a block with N `size` at `place`, or nothing and both are 0.
pub record Between (ts : List Token) (at name size place : ℕ) : Type 0 where
  pub what : Block
  pub is : block ts at ≡ ok what name
  pub size_is : block_length what ≡ size
  pub place_is : block_place what ≡ place

-- The same, whatever tokens the buffer holds.
pub record Blocked (tokens : List ℕ) (at name size place : ℕ) : Type 0 where
  pub on : at ≤ name
  pub within : name < token_count tokens
  pub what : (ts : List Token) → HoldsOnly tokens ts → Between ts at name size place

-- How many tokens the N of `block[N]` stands behind `block`.
abbrev pub to_length : ℕ
to_length = 2

-- What `block` answers, where the token `at` is `block`.
pub record ReadsBlock (tokens : List ℕ) (at : ℕ) (r : Stage) : Type 0 where
  pub behind : IfOk r (λ reached. at + to_length < reached.count)
  pub done : IfOk r (λ reached. Blocked tokens at reached.count (value_at tokens (at + to_length)) (place_at tokens (at + to_length)))
  pub refused : IfErr r (λ why. (ts : List Token) → HoldsOnly tokens ts → block ts at ≡ refused why.refusal why.place)

-- The answers of `value` and `initial`, which write a unit with `end` and the place of the `=` before the value.
abbrev pub ReadsValue : ℕ → ℕ → List ℕ → ℕ → List ℕ → ℕ → List ℕ → Stage → Type 0
ReadsValue end room tokens at old n new r = ReadsAs 1 (λ ts. valued ts room at) (λ v. unit end v.0 0 ++ flat v.1) tokens at old n new r

abbrev pub ReadsInitial : ℕ → ℕ → List ℕ → ℕ → List ℕ → ℕ → List ℕ → Stage → Type 0
ReadsInitial end room tokens at old n new r = ReadsAs 1 (λ ts. initial ts room at) (λ v. unit end (value_place v) 0 ++ value_words v) tokens at old n new r

-- The answer of `condition`, which leaves a unit free before the expression's words.
abbrev pub ReadsCondition : ℕ → List ℕ → ℕ → List ℕ → ℕ → List ℕ → Stage → Type 0
ReadsCondition room tokens at old n new r = ReadsAs 1 (λ ts. condition ts room at) flat tokens (at + 1) old (n + unit_words) new r

-- The answers of `opening`, `otherwise`, `statements` and the functions that read a statement: what each reads from `at` on, where
-- `room` more levels of nesting may open, is what the definition reads.
abbrev pub ReadsOpening : ℕ → List ℕ → ℕ → List ℕ → ℕ → List ℕ → Stage → Type 0
ReadsOpening room tokens at old n new r = ReadsAs 1 (λ ts. opening ts (inner ts room) at) flat_stmt tokens at old n new r

abbrev pub ReadsOtherwise : ℕ → List ℕ → ℕ → List ℕ → ℕ → List ℕ → Stage → Type 0
ReadsOtherwise room tokens at old n new r = ReadsAs 1 (λ ts. other ts room at) flat_stmt tokens at old n new r

abbrev pub ReadsStatements : ℕ → ℕ → List ℕ → ℕ → List ℕ → ℕ → List ℕ → Stage → Type 0
ReadsStatements close room tokens at old n new r = ReadsAs 0 (λ ts. listed ts close room at) flat_stmts tokens at old n new r

abbrev pub ReadsStatement : ℕ → List ℕ → ℕ → List ℕ → ℕ → List ℕ → Stage → Type 0
ReadsStatement room tokens at old n new r = ReadsAs 1 (λ ts. statement ts room at) flat_stmt tokens at old n new r

-- A tree with the first unit of a statement's head at word n, where what stands behind ends at word q.
abbrev pub with_head : ℕ → ℕ → ℕ → ℕ → List ℕ → List ℕ
with_head tag place n q tree = sets tree n (unit tag place (q - (n + short_head)))

-- The same with the second unit of a long head: the words of its condition, which end at word x, and of its first branch, which end
-- at word y.
abbrev pub with_long_head : ℕ → ℕ → ℕ → ℕ → ℕ → ℕ → List ℕ → List ℕ
with_long_head tag place n x y q tree = with_head tag place n q (sets tree (n + unit_words) (unit (x - (n + long_head)) (y - x) 0))

-- Buffers for a text: its tokens, and a tree with a unit for each of them but the end.
pub record LentToRead (tokens tree : List ℕ) : Type 0 where
  pub text : EndsAText tokens
  pub space : unit_words * token_count tokens ≤ length tree + unit_words

-- What a text is, by an answer r and the words of the tree.
pub record TextIs (o : Out ℕ Stmts) (tree : List ℕ) (r : Stage) : Type 0 where
  pub what : Stmts
  pub is : o ≡ outcome r what
  pub words : IfOk r (λ reached. take reached.size tree ≡ flat_stmts what)

-- What the reader's answer says, whatever tokens ts the buffer holds.
pub record ReadsText (tokens tree : List ℕ) (r : Stage) : Type 0 where
  pub fits : IfOk r (λ reached. reached.size ≤ length tree)
  pub told : (ts : List Token) → HoldsOnly tokens ts → TextIs (read ts) tree r
