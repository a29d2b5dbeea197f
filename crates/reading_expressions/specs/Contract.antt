-- What the functions that read expressions ask, and what their answers say.
use Rattle.std.specs.Prelude.{ℕ, ◌+◌, ◌*◌, ◌-◌, ◌/◌, ◌≤◌, ◌<◌, ◌≡◌, Bool, true, false, List, [], ◌∷◌, ◌++◌, map, eqb, length, get_or, take, drop, IfOk, IfErr}
use Rattle.std.proofs.Math.Option.{Option}
use Rattle.meaning.specs.declared.Refusal.TheVariants.{NotAllowed}
use Rattle.meaning.specs.Codes.{Out, ok, refused, option, ◌among◌, text_limit}
use Rattle.meaning.specs.Tokens.{Token, end_at, the}
use Rattle.meaning.specs.declared.Unary.TheVariants.{Neg as neg, Inv as inv, Not as unary_not}
use Rattle.meaning.specs.Tree.{unary_table, levels, Expr}
use Rattle.meaning.specs.Reading.{Reads, operator, binaries, unaries, parenthesised, expression}
use Rattle.layout.specs.Tokens.{token_words, kind_at, place_at, Holds}
use Rattle.layout.specs.Words.{unit_words, unit, flat}
use Rattle.layout.specs.Stage.{Stage}
use Rattle.std.specs.declared.result.Result.TheVariants.{Ok, Err}

-- What an answer is among the definitions' outcomes: with `Ok`, what was read and where reading goes on; with `Err`, the
-- refusal and its place.
abbrev pub outcome : {A : Type 0} → Stage → A → Out ℕ A
outcome (Ok reached) what = ok what reached.count
outcome (Err why) what = refused why.refusal why.place

-- The token at a position.
abbrev pub token_at : List Token → ℕ → Token
token_at ts at = get_or ts at (end_at 0)

-- How many tokens a buffer has.
unfoldable pub token_count : List ℕ → ℕ
token_count tokens = length tokens / token_words

-- The buffer holds the tokens ts and no others.
pub record HoldsOnly (tokens : List ℕ) (ts : List Token) : Type 0 where
  pub holds : Holds tokens ts
  pub whole : length tokens ≡ length ts * token_words

-- A buffer of whole tokens, no more than the longest text has, the last of which is the end of the text.
pub record EndsAText (tokens : List ℕ) : Type 0 where
  pub whole : length tokens ≡ token_count tokens * token_words
  pub some : 1 ≤ token_count tokens
  pub few : token_count tokens ≤ text_limit + 1
  pub ends : kind_at tokens (token_count tokens - 1) ≡ the "end"

-- Reading stands at a token of such a buffer, and the tree, of which `size` words are written, has room for a unit for each token that
-- is left before the end.
pub record ReadyToRead (tokens : List ℕ) (at : ℕ) (tree : List ℕ) (size : ℕ) : Type 0 where
  pub text : EndsAText tokens
  pub within : at < token_count tokens
  pub space : size + unit_words * token_count tokens ≤ length tree + unit_words * (at + 1)

-- The first m words of b are the first n of a, and then xs.
pub record Appends (a : List ℕ) (n : ℕ) (b : List ℕ) (m : ℕ) (xs : List ℕ) : Type 0 where
  pub is : take m b ≡ take n a ++ xs

-- What `node` answers: the tree has one unit more, and reading goes on at `next`.
pub record PutsNode (tag a b next : ℕ) (old : List ℕ) (n : ℕ) (new : List ℕ) (r : Stage) : Type 0 where
  pub is : r ≡ Ok (record { count = next; size = n + unit_words })
  pub wrote : Appends old n new (n + unit_words) (unit tag a b)

-- What `expect` answers at a token where one of the kind `kind` has to stand.
pub record Expects (kind : ℕ) (tokens : List ℕ) (at size : ℕ) (r : Stage) : Type 0 where
  pub done : IfOk r (λ reached. (kind_at tokens at ≡ kind) × (reached.count ≡ at + 1) × (reached.size ≡ size))
  pub refused : IfErr r (λ why. (kind_at tokens at ≡ kind → ⊥) × (why.refusal ≡ NotAllowed) × (why.place ≡ place_at tokens at))

-- Of `count` tokens reading went on from `at` to p, by `least` or more, and the tree from n to q words, by a unit for each token or
-- fewer.
pub record Moved (least count at n p q : ℕ) : Type 0 where
  pub on : at + least ≤ p
  pub within : p < count
  pub grown : n ≤ q
  pub few : q + unit_words * at ≤ n + unit_words * p

-- What was read is the definition's, and the tree has it from n to q.
pub record Read {A : Type 0} (o : Out ℕ A) (fl : A → List ℕ) (old : List ℕ) (n : ℕ) (new : List ℕ) (p q : ℕ) : Type 0 where
  pub what : A
  pub is : o ≡ ok what p
  pub wrote : Appends old n new q (fl what)

-- What an answer r says, whatever tokens ts the buffer holds: `Ok`, that the definition G gives something, of which the tree now
-- has the flat form; `Err`, that G refuses so.
pub record ReadsAs (least : ℕ) {A : Type 0} (G : List Token → Out ℕ A) (fl : A → List ℕ) (tokens : List ℕ) (at : ℕ) (old : List ℕ) (n : ℕ) (new : List ℕ) (r : Stage) : Type 0 where
  pub moved : IfOk r (λ reached. Moved least (token_count tokens) at n reached.count reached.size)
  pub done : IfOk r (λ reached. (ts : List Token) → HoldsOnly tokens ts → Read (G ts) fl old n new reached.count reached.size)
  pub refused : IfErr r (λ why. (ts : List Token) → HoldsOnly tokens ts → G ts ≡ refused why.refusal why.place)

-- The levels of binary operators are numbered from 0, the loosest. Behind them come the level of operands, which has no operators, and
-- that of a token that is no binary operator.
abbrev pub operands_level : ℕ
operands_level = 7

abbrev pub no_level : ℕ
no_level = 8

-- What is read at a level: operands joined by its operators and by those of the levels after it, where r more levels may open.
unfoldable pub from_level : List Token → ℕ → ℕ → Reads Expr
from_level ts level r = binaries ts (drop level levels) (unaries ts r)

-- The answers of `expression`, `binary`, `operand` and `parenthesised`, where `room` more levels of nesting may open: what each
-- reads from `at` on, the last behind the `(` there, is what the definition reads.
abbrev pub ReadsExpression : ℕ → List ℕ → ℕ → List ℕ → ℕ → List ℕ → Stage → Type 0
ReadsExpression room tokens at old n new r = ReadsAs 1 (λ ts. expression ts room at) flat tokens at old n new r

abbrev pub ReadsLevel : ℕ → ℕ → List ℕ → ℕ → List ℕ → ℕ → List ℕ → Stage → Type 0
ReadsLevel level room tokens at old n new r = ReadsAs 1 (λ ts. from_level ts level room at) flat tokens at old n new r

abbrev pub ReadsOperand : ℕ → List ℕ → ℕ → List ℕ → ℕ → List ℕ → Stage → Type 0
ReadsOperand room tokens at old n new r = ReadsAs 1 (λ ts. unaries ts room at) flat tokens at old n new r

abbrev pub ReadsParenthesised : ℕ → List ℕ → ℕ → List ℕ → ℕ → List ℕ → Stage → Type 0
ReadsParenthesised room tokens at old n new r = ReadsAs 1 (λ ts. parenthesised ts room (token_at ts at) (at + 1)) flat tokens (at + 1) old n new r

-- Is there something?
abbrev pub some? : {A : Type 0} → Option A → Bool
some? o = option false (λ _. true) o

-- Is a token of kind k an operator of a level?
unfoldable pub joins_at : ℕ → ℕ → Bool
joins_at level k = some? (operator k (get_or levels level []))

-- A token of kind k is an operator of this level alone.
pub record Level (k level : ℕ) : Type 0 where
  pub is : (l : ℕ) → l < no_level → joins_at l k ≡ eqb l level

-- Is it a unary one?
unfoldable pub signs_at : ℕ → Bool
signs_at k = k among map (λ o. the (unary_table o).0) (neg ∷ inv ∷ unary_not ∷ [])
