-- Typing a sequence statement by statement, front to back, is typing it as the definition does.
use Prim.Native.Nat.{ℕ, ◌+◌, ◌≤◌, ◌<◌}
use native.Mathlib.Omega.{arith}
use mathlib.Core.Path.{◌≡◌, refl, sym, ap, ◌∙◌}
use mathlib.Core.List.{List, [], ◌∷◌, ◌++◌, append_assoc, append-nil}
use lib.ListN.{length, get_or, take, drop, length-append, length-drop, get_or-append}
use lib.Seq.{get_or-drop}
use Rattle.meaning.specs.Codes.{ok, after}
use Rattle.meaning.specs.Tree.{Stmt, empty, braces, declare, assign, if_else, while, scalar, Stmts, none_yet, ◌⨾◌}
use Rattle.meaning.specs.Program.{Program, nothing, both}
use Rattle.meaning.specs.Memory.{Declarations}
use Rattle.meaning.specs.Typing.{Types, typed_statement, typed_statements}
use Rattle.layout.specs.Words.{headed, flat_stmt, flat_stmts}
use Rattle.layout.specs.Code.{program_words}
use Rattle.layout.specs.Table.{entries}
use Rattle.laws.specs.Sound.{Walkable, AllWalkable, of_none, of_more}
use Rattle.typing_expressions.specs.declared.Point.{Point}
use Rattle.typing_expressions.specs.Rows.{Rows}
use Rattle.typing_expressions.specs.Answers.{ThereIs, TypingRoom}
use Rattle.typing_expressions.proofs.Walk.{after-after, after_same}
use Rattle.layout.specs.declared.Reached.{Reached}
use Rattle.layout.specs.declared.Refused.{Refused}
use Rattle.std.specs.declared.result.Result.TheVariants.{Ok, Err}
use Rattle.typing_simple.specs.Shapes.{part}
use Rattle.typing.specs.Shapes.{Statement, Statements}
use Rattle.typing_simple.specs.Answers.{Walks}
use Rattle.typing_simple.proofs.Words.{part_next, drop_next, length_part, then}
use Rattle.typing_simple.proofs.Outcomes
use Rattle.typing_simple.proofs.Walk.{room_again}

-- ---- a sequence as a list, the first statement first
pub in_order : Stmts → List Stmt
in_order none_yet = []
in_order (l ⨾ s) = in_order l ++ (s ∷ [])

pub words_of : List Stmt → List ℕ
words_of [] = []
words_of (s ∷ l) = flat_stmt s ++ words_of l

-- Typing the rest, where P stands for what was typed before.
pub go_on : ℕ → List Stmt → Program → Types Program
go_on C [] P Γ = ok P Γ
go_on C (s ∷ l) P Γ = after (typed_statement C s Γ) (λ x Δ. go_on C l (both P x) Δ)

words_append : (l m : List Stmt) → words_of (l ++ m) ≡ words_of l ++ words_of m
unfolding words_of
words_append [] m = refl
words_append (s ∷ l) m = rw (words_append l m) (sym (append_assoc (flat_stmt s) (words_of l) (words_of m)))

flat_order : (l : Stmts) → flat_stmts l ≡ words_of (in_order l)
unfolding flat_stmts in_order words_of
flat_order none_yet = refl
flat_order (l ⨾ s) = rw (words_append (in_order l) (s ∷ []), flat_order l) (ap (λ w. words_of (in_order l) ++ w) (sym (append-nil (flat_stmt s))))

module _ (C : ℕ) where
  on_append : (l m : List Stmt) (P : Program) (Γ : Declarations) → go_on C (l ++ m) P Γ ≡ after (go_on C l P Γ) (λ Q Δ. go_on C m Q Δ)
  unfolding go_on
  on_append [] m P Γ = refl
  on_append (s ∷ l) m P Γ = after_same (typed_statement C s Γ) _ _ (λ x Δ. on_append l m (both P x) Δ) ∙ sym (after-after (typed_statement C s Γ) (λ x Δ. go_on C l (both P x) Δ) (λ Q Δ. go_on C m Q Δ))

  typed_order : (l : Stmts) (Γ : Declarations) → typed_statements C l Γ ≡ go_on C (in_order l) nothing Γ
  unfolding typed_statements in_order go_on
  typed_order none_yet Γ = refl
  typed_order (l ⨾ s) Γ = rw (typed_order l Γ) (sym (on_append (in_order l) (s ∷ []) nothing Γ))

-- EachWalkable can be gone through.
pub data EachWalkable (text : List ℕ) (r : ℕ) : List Stmt → Type 0 where
  none : EachWalkable text r []
  more : {s : Stmt} {l : List Stmt} → Walkable text r s → EachWalkable text r l → EachWalkable text r (s ∷ l)

module _ {text : List ℕ} {r : ℕ} where
  each_append : {l m : List Stmt} → EachWalkable text r l → EachWalkable text r m → EachWalkable text r (l ++ m)
  each_append none e = e
  each_append (more w d) e = more w (each_append d e)

  each_order : {l : Stmts} → AllWalkable text r l → EachWalkable text r (in_order l)
  unfolding in_order
  each_order of_none = none
  each_order (of_more a w) = each_append (each_order a) (more w none)

-- ---- the words of a statement, by its third
head_long : (tag p : ℕ) (h w : List ℕ) → length (headed tag p h w) ≡ 3 + get_or (headed tag p h w) 2 0
unfolding headed
head_long tag p h w = omega (arith, length-append h w)

statement_long : (s : Stmt) → length (flat_stmt s) ≡ 3 + get_or (flat_stmt s) 2 0
unfolding flat_stmt
statement_long (empty p) = head_long _ p _ _
statement_long (braces p l) = head_long _ p _ _
statement_long (declare p k b q x v) = head_long _ p _ _
statement_long (assign p x q e) = head_long _ p _ _
statement_long (if_else p e s t) = head_long _ p _ _
statement_long (while p e s) = head_long _ p _ _
statement_long (scalar p s) = head_long _ p _ _

-- The statements from word i on: the first of them, which ends at e, and the others.
pub record StatementHere (text tree : List ℕ) (r i e : ℕ) (rest : List Stmt) : Type 0 where
  pub one : Stmt
  pub others : List Stmt
  pub is : rest ≡ one ∷ others
  pub at : Statement r text (part tree i e) one
  pub next : drop e tree ≡ words_of others
  pub each : EachWalkable text r others
  pub inside : e ≤ length tree
  pub on : i < e

here : {text tree : List ℕ} {r i : ℕ} {rest : List Stmt} → drop i tree ≡ words_of rest → EachWalkable text r rest → i < length tree → StatementHere text tree r i (i + 3 + get_or tree (i + 2) 0) rest
unfolding words_of
here {tree = tree} {i = i} h none l = absurd (omega (arith, length-drop i tree, ap length h))
here {text} {tree} {r} {i} h (more {s} {l = m} w d) l =
    let n = statement_long s in
    let size : get_or tree (i + 2) 0 ≡ get_or (flat_stmt s) 2 0 = sym (get_or-drop i tree 2 0) ∙ rw h (get_or-append (flat_stmt s) (words_of m) 0 2 (omega arith)) in
    let end : i + 3 + get_or tree (i + 2) 0 ≡ i + length (flat_stmt s) = omega arith in
    let all = length-append (flat_stmt s) (words_of m) in
    record {
      one = s;
      others = m;
      is = refl;
      at = record { is = rw end (part_next tree (flat_stmt s) i (words_of m) h); walkable = w };
      next = rw end (drop_next tree (flat_stmt s) i (words_of m) h);
      each = d;
      inside = omega (arith, length-drop i tree, ap length h);
      on = omega arith;
    }

-- ---- the loop
-- Before word i the sequence l was typed, and its program written.
pub record SequenceFrom (text tree table code : List ℕ) (r C n z i : ℕ) (before : List ℕ) (Γ : Declarations) (l : Stmts) : Type 0 where
  pub rest : List Stmt
  pub from_here : drop i tree ≡ words_of rest
  pub each : EachWalkable text r rest
  pub program : Program
  pub on : typed_statements C l Γ ≡ go_on C rest program (entries text table n)
  pub words : take z code ≡ before ++ program_words program

pub record Sequel (text tree : List ℕ) (r : ℕ) (at : Point) (table₀ code₀ stack₀ table code stack : List ℕ) (i n z : ℕ) : Type 0 where
  pub lent : TypingRoom text tree table₀ code₀ stack₀ at
  pub some : ThereIs (Statements r text tree)
  pub table_long : length table ≡ length table₀
  pub code_long : length code ≡ length code₀
  pub stack_long : length stack ≡ length stack₀
  pub rows : Rows text table n
  pub more_rows : at.count ≤ n
  pub inside : i ≤ length tree
  pub room : z ≤ at.size + i
  pub on : (l : Stmts) → Statements r text tree l → SequenceFrom text tree table code r at.context n z i (take at.size code₀) (entries text table₀ at.count) l

pub sequel_start : {text tree table code stack : List ℕ} {r : ℕ} {at : Point} → TypingRoom text tree table code stack at → ThereIs (Statements r text tree)
    → Sequel text tree r at table code stack table code stack 0 at.count at.size
unfolding program_words
sequel_start {code = code} {at = at} g s = record {
  lent = g;
  some = s;
  table_long = refl;
  code_long = refl;
  stack_long = refl;
  rows = g.rows;
  more_rows = omega arith;
  inside = omega arith;
  room = omega arith;
  on = λ l x. record {
    rest = in_order l;
    from_here = x.is ∙ flat_order l;
    each = each_order x.walkable;
    program = nothing;
    on = typed_order at.context l _;
    words = sym (append-nil (take at.size code));
  };
}

module _ {text tree : List ℕ} {r : ℕ} {at : Point} {table₀ code₀ stack₀ table code stack : List ℕ} {i n z : ℕ} (g : Sequel text tree r at table₀ code₀ stack₀ table code stack i n z) where
  pub sequel_end : length tree ≤ i → (l : Stmts) → Statements r text tree l → Walks text table (take at.size code₀) code at.count (at.size + length tree) (Ok (record { count = n; size = z })) (typed_statements at.context l (entries text table₀ at.count))
  unfolding words_of go_on
  sequel_end e l x = let y = g.on l x in go y.rest y.from_here y y.on
    where
      go : (m : List Stmt) → drop i tree ≡ words_of m → (y : SequenceFrom text tree table code r at.context n z i (take at.size code₀) (entries text table₀ at.count) l) → typed_statements at.context l (entries text table₀ at.count) ≡ go_on at.context m y.program (entries text table n)
          → Walks text table (take at.size code₀) code at.count (at.size + length tree) (Ok (record { count = n; size = z })) (typed_statements at.context l (entries text table₀ at.count))
      go [] h y o = Outcomes.on_walks o (record { rows = g.rows; more = g.more_rows; room = omega (arith, g.room, g.inside); words = y.words })
      go (s ∷ m) h y o = absurd (omega (arith, length-drop i tree, ap length h, length-append (flat_stmt s) (words_of m), statement_long s))

  -- The statement at word i, whose third word is w.
  module _ (l : i < length tree) {w : ℕ} (ew : w ≡ get_or tree (i + 2) 0) where
    pub sequel_here : (s : Stmts) (x : Statements r text tree s) → StatementHere text tree r i (i + 3 + w) (g.on s x).rest
    sequel_here s x = rw ew (here (g.on s x).from_here (g.on s x).each l)

    its : StatementHere text tree r i (i + 3 + w) (g.on g.some.the g.some.is).rest
    its = sequel_here g.some.the g.some.is

    pub sequel_inside : i + 3 + w ≤ length tree
    sequel_inside = its.inside

    pub sequel_on : i < i + 3 + w
    sequel_on = its.on

    pub sequel_statement : ThereIs (Statement r text (part tree i (i + 3 + w)))
    sequel_statement = record { the = its.one; is = its.at }

    pub sequel_room : TypingRoom text (part tree i (i + 3 + w)) table code stack (record { context = at.context; count = n; size = z })
    sequel_room = room_again g.lent g.rows g.lent.listed (omega (arith, length_part tree i (i + 3 + w) (omega (arith, sequel_on)) sequel_inside, g.room, sequel_inside, sequel_on)) g.code_long g.stack_long

    pub sequel_refused : {table' code' T code'' : List ℕ} {why : Refused} → ((s : Stmt) → Statement r text (part tree i (i + 3 + w)) s → Walks text table' (take z code) code' n (z + length (part tree i (i + 3 + w))) (Err why) (typed_statement at.context s (entries text table n)))
        → (s : Stmts) → Statements r text tree s → Walks text T (take at.size code₀) code'' at.count (at.size + length tree) (Err why) (typed_statements at.context s (entries text table₀ at.count))
    unfolding go_on
    sequel_refused v s x =
        let y = sequel_here s x in
        Outcomes.no_walks ((g.on s x).on ∙ rw y.is (rw (Outcomes.walks_no (v y.one y.at))))

    pub sequel_next : {table' code' stack' : List ℕ} {to : Reached} → ((s : Stmt) → Statement r text (part tree i (i + 3 + w)) s → Walks text table' (take z code) code' n (z + length (part tree i (i + 3 + w))) (Ok to) (typed_statement at.context s (entries text table n)))
        → length table' ≡ length table → length code' ≡ length code → length stack' ≡ length stack
        → Sequel text tree r at table₀ code₀ stack₀ table' code' stack' (i + 3 + w) to.count to.size
    unfolding go_on program_words
    sequel_next v lt lc ls =
        let d = (v its.one its.at).on in
        record {
          lent = g.lent;
          some = g.some;
          table_long = lt ∙ g.table_long;
          code_long = lc ∙ g.code_long;
          stack_long = ls ∙ g.stack_long;
          rows = d.rows;
          more_rows = omega (arith, g.more_rows, d.more);
          inside = sequel_inside;
          room = omega (arith, d.room, g.room, length_part tree i (i + 3 + w) (omega (arith, sequel_on)) sequel_inside, sequel_on);
          on = λ s y.
              let h = sequel_here s y in
              let x = v h.one h.at in
              record {
                rest = h.others;
                from_here = h.next;
                each = h.each;
                program = both (g.on s y).program x.program;
                on = (g.on s y).on ∙ rw h.is (rw (Outcomes.walks_ok x));
                words = then (take at.size code₀) (program_words (g.on s y).program) (program_words x.program) (g.on s y).words x.on.words;
              };
        }
