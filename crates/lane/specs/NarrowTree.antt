-- What a narrowed text is: narrowed tokens, a narrowed tree, and the same program over declarations of one lane each.
use Rattle.std.specs.Prelude.{ℕ, ◌≡◌, List, [], ◌∷◌, leb, length}
use Rattle.std.proofs.Math.Option.{none, some}
use Rattle.meaning.specs.Codes.{ok, when◌then◌else◌}
use Rattle.meaning.specs.Tokens.{Token, the, lexed}
use Rattle.meaning.specs.Tree.{Block, Stmt, empty, braces, declare, assign, if_else, while, scalar, Stmts, none_yet, ◌⨾◌}
use Rattle.meaning.specs.Reading.{read}
use Rattle.meaning.specs.Program.{Program}
use Rattle.meaning.specs.Memory.{Declared, Declarations}
use Rattle.meaning.specs.Typing.{typed_program}
use Rattle.lane.specs.Narrow.{is_block, narrow}

-- A length above 1 becomes 1.
unfoldable pub narrow_length : ℕ → ℕ
narrow_length n = when leb 2 n then (λ _. 1) else λ _. n

-- A token after the tokens j and k, and some tokens after them.
unfoldable pub narrow_token : ℕ → ℕ → Token → Token
narrow_token j k t = when is_block j k t.is then (λ _. record { is = t.is; place = t.place; value = narrow_length t.value; spelled = t.spelled }) else λ _. t

unfoldable pub narrow_tokens : ℕ → ℕ → List Token → List Token
narrow_tokens j k [] = []
narrow_tokens j k (t ∷ ts) = narrow_token j k t ∷ narrow_tokens k t.is ts

-- In a tree each `block[N]` is narrowed, and nothing else.
unfoldable pub narrow_block : Block → Block
narrow_block none = none
narrow_block (some n) = some (narrow_length n.0, n.1)

unfoldable mutual
  unfolding narrow_length narrow_block

  pub narrow_stmt : Stmt → Stmt
  narrow_stmt (empty p) = empty p
  narrow_stmt (braces p l) = braces p (narrow_stmts l)
  narrow_stmt (declare p k b q x v) = declare p k (narrow_block b) q x v
  narrow_stmt (assign p x q e) = assign p x q e
  narrow_stmt (if_else p e s t) = if_else p e (narrow_stmt s) (narrow_stmt t)
  narrow_stmt (while p e s) = while p e (narrow_stmt s)
  narrow_stmt (scalar p s) = scalar p (narrow_stmt s)

  pub narrow_stmts : Stmts → Stmts
  narrow_stmts none_yet = none_yet
  narrow_stmts (l ⨾ s) = narrow_stmts l ⨾ narrow_stmt s

-- The same declaration, of one lane and with an address of its own.
pub record Thinned (d e : Declared) : Type 0 where
  pub same_name : e.name ≡ d.name
  pub same_place : e.place ≡ d.place
  pub same_kind : e.kind ≡ d.kind
  pub one_lane : e.lanes ≡ 1
  pub same_scope : e.open? ≡ d.open?

-- Two tables, row by row.
pub data Each (R : Declared → Declared → Type 0) : Declarations → Declarations → Type 0 where
  no_row : Each R [] []
  row : {d e : Declared} {Γ Δ : Declarations} → R d e → Each R Γ Δ → Each R (d ∷ Γ) (e ∷ Δ)

-- A text with the tokens ts and the tree l, which is the program P over the declarations Γ, is narrowed so.
pub record Narrows (text : List ℕ) (ts : List Token) (l : Stmts) (P : Program) (Γ : Declarations) : Type 0 where
  pub as_long : length (narrow text) ≡ length text
  pub end : ℕ
  pub has_tokens : lexed (narrow text) ≡ ok (narrow_tokens (the "end") (the "end") ts) end
  pub past : ℕ
  pub has_tree : read (narrow_tokens (the "end") (the "end") ts) ≡ ok (narrow_stmts l) past
  pub table : Declarations
  pub same_program : typed_program (narrow_stmts l) ≡ ok P table
  pub thinned : Each Thinned Γ table

-- Every text that is accepted is narrowed so.
abbrev pub Narrowing : Type 0
Narrowing =
    (text : List ℕ) (ts : List Token) (q : ℕ) (l : Stmts) (p : ℕ) (P : Program) (Γ : Declarations)
    → lexed text ≡ ok ts q
    → read ts ≡ ok l p
    → typed_program l ≡ ok P Γ
    → Narrows text ts l P Γ
