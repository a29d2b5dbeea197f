-- How the definitions read a value, an assignment and a declaration: one law for each way through the code.
use Prim.Native.Nat.{ℕ, ◌+◌, ◌<◌, ◌≤◌}
use mathlib.Core.Logic.{inl}
use mathlib.Core.Path.{◌≡◌, refl, ◌∙◌}
use mathlib.Core.Bool.{Bool, true, false}
use mathlib.Core.List.{List, [], ◌∷◌, ◌++◌}
use mathlib.Core.Option.{Option, none, some}
use native.Mathlib.Numerals.{add-one}
use native.Mathlib.Omega.{arith}
use lib.Dec.{eqb}
use lib.ListN.{length}
use lib.Seq.{sets, length-sets}
use borrow.Author.Tests.{ne_eqb}
use Rattle.std.specs.declared.result.Result.TheVariants.{Ok, Err}
use Rattle.std.specs.Result.{IsErrAnd}
use Rattle.std.proofs.lemmas.Result.{IfOk-weaker, IfErr-weaker}
use Rattle.meaning.specs.declared.Kind.{Kind}
use Rattle.meaning.specs.declared.Kind.TheVariants.{Int as int, Bool as bool, Float as float}
use Rattle.meaning.specs.declared.Refusal.{Refusal}
use Rattle.meaning.specs.declared.Refusal.TheVariants.{NotAllowed}
use Rattle.meaning.specs.Codes.{Out, ok, refused, after, ◌>>=◌, give}
use Rattle.meaning.specs.Tokens.{Token, the, words, marks, numbered, reserved, signs}
use Rattle.meaning.specs.Tree.{Expr, Stmt, declare, assign}
use Rattle.meaning.specs.Reading.{◌⇒◌, look, next, choose, expect, expression, block, declaration, assignment, statement}
use Rattle.layout.proofs.Handed.{handed_up}
use Rattle.layout.specs.Tokens.{kind_at}
use Rattle.layout.specs.Words.{unit, flat, kind_tag, block_length, block_place, value_place, value_words, flat_stmt}
use Rattle.reading_expressions.specs.Contract.{HoldsOnly, EndsAText, Read, Expects, token_at, token_count}
use Rattle.layout.specs.Stage.{Stage}
use Rattle.layout.specs.declared.Reached.{Reached}
use Rattle.layout.specs.declared.Refused.{Refused}
use Rattle.reading_expressions.proofs.Answers.{Leaf, past}
use Rattle.reading_expressions.proofs.Laws.{Seen, seen, expected, not_expected}
use Rattle.reading.specs.Contract.{valued, initial, BeginsDeclaration, Between, ReadsBlock, with_head}
use Rattle.reading.proofs.Laws.{appends_unit, appends_headed, read_assignment, read_declaration, after_both}

-- `=` of a value.
module _ {ts : List Token} {at k p v : ℕ} (r : ℕ) (t : Seen ts at k p v) where
  pub value_none : (k ≡ 59 → ⊥) → valued ts r at ≡ refused NotAllowed p
  unfolding valued the numbered reserved signs words marks
  value_none ne = rw (not_expected "=" t ne)

  module _ (is : k ≡ 59) where
    pub value_refused : {c : Refusal} {x : ℕ} → expression ts r (at + 1) ≡ refused c x → valued ts r at ≡ refused c x
    unfolding valued the numbered reserved signs words marks
    value_refused e = rw (expected "=" t is, e)

    pub value_open : {q k' p' v' : ℕ} {e : Expr} → Seen ts q k' p' v' → expression ts r (at + 1) ≡ ok e q → (k' ≡ 52 → ⊥) → valued ts r at ≡ refused NotAllowed p'
    unfolding valued the numbered reserved signs words marks
    value_open t' right ne = rw (expected "=" t is, right, not_expected ";" t' ne)

    pub value_read : {old mid new : List ℕ} {n q k' p' v' x end : ℕ} → Seen ts q k' p' v' → k' ≡ 52 → n + 3 ≤ length old → x ≤ length mid
        → Read (expression ts r (at + 1)) flat old (n + 3) mid q x → new ≡ sets mid n (unit end p 0)
        → Read (valued ts r at) (λ v. unit end v.0 0 ++ flat v.1) old n new (q + 1) x
    unfolding valued the numbered reserved signs words marks
    value_read t' close le le' d in_new = record {
      what = (p, d.what);
      is = rw (expected "=" t is, d.is, expected ";" t' close, t.place);
      wrote = appends_unit le le' d.wrote in_new;
    }

-- What is made of a value.
pub valued_then : {A : Type 0} (ts : List Token) (r at : ℕ) (f : ℕ → Expr → A)
    → after (expect ts "=" at) (λ q. expression ts r >>= λ e. expect ts ";" >>= λ _. give (f q.place e)) ≡ after (valued ts r at) (λ v. give (f v.0 v.1))
unfolding valued
valued_then ts r at f = sign (expect ts "=" at)
  where
    end : (q : Token) (e : Expr) (o : Out ℕ Token) → after o (λ _. give (f q.place e)) ≡ after (after {A = Token} {B = ℕ × Expr} o (λ _. give (q.place, e))) (λ v. give (f v.0 v.1))
    end q e (ok s x) = refl
    end q e (refused c x) = refl

    right : (q : Token) (o : Out ℕ Expr)
        → after o (λ e. expect ts ";" >>= λ _. give (f q.place e)) ≡ after (after {A = Expr} {B = ℕ × Expr} o (λ e. expect ts ";" >>= λ _. give (q.place, e))) (λ v. give (f v.0 v.1))
    right q (ok e x) = end q e (expect ts ";" x)
    right q (refused c x) = refl

    sign : (o : Out ℕ Token) → after o (λ q. expression ts r >>= λ e. expect ts ";" >>= λ _. give (f q.place e))
        ≡ after (after {A = Token} {B = ℕ × Expr} o (λ q. expression ts r >>= λ e. expect ts ";" >>= λ _. give (q.place, e))) (λ v. give (f v.0 v.1))
    sign (ok q x) = right q (expression ts r x)
    sign (refused c x) = refl

-- An assignment is a value, with the name's end and the place of `=` in its head.
module _ {ts : List Token} {at k p v : ℕ} (r : ℕ) (t : Seen ts at k p v) (name : k ≡ the "name") where
  pub assigns : statement ts r at ≡ after (valued ts r (at + 1)) (λ v. give (assign p (token_at ts at).spelled v.0 v.1))
  unfolding assignment
  assigns = rw (read_assignment r t name, valued_then ts r (at + 1) (assign (token_at ts at).place (token_at ts at).spelled), t.place)

  pub assign_refused : {c : Refusal} {x : ℕ} → valued ts r (at + 1) ≡ refused c x → statement ts r at ≡ refused c x
  assign_refused e = rw (assigns, e)

  pub assign_read : {old mid new : List ℕ} {n x q : ℕ} → n + 3 ≤ length old → q ≤ length mid
      → Read (valued ts r (at + 1)) (λ w. unit v w.0 0 ++ flat w.1) old (n + 3) mid x q → new ≡ with_head 2 p n q mid
      → Read (statement ts r at) flat_stmt old n new x q
  unfolding flat_stmt the numbered reserved signs words marks
  assign_read le le' d in_new = record {
    what = assign p (token_at ts at).spelled d.what.0 d.what.1;
    is = rw (assigns, d.is);
    wrote = rw (t.end name) at (appends_headed 2 p (unit v d.what.0 0) (flat d.what.1) le le' d.wrote in_new);
  }

-- What follows a declared name.
module _ {ts : List Token} {at k p v : ℕ} (r : ℕ) (t : Seen ts at k p v) where
  pub initial_none : {end : ℕ} → k ≡ 52 → Leaf (λ v. unit end (value_place v) 0 ++ value_words v) (initial ts r at) (at + 1) end 0 0
  unfolding initial look next the numbered reserved signs words marks value_place value_words
  initial_none e = record { what = none; is = rw (add-one, t.is, e); words = refl }

  pub initial_is : (k ≡ 52 → ⊥) → initial ts r at ≡ after (valued ts r at) (λ v. give (some v))
  unfolding initial look the numbered reserved signs words marks
  initial_is ne = rw (t.is, ne_eqb k 52 ne)

pub initial_refused : {ts : List Token} {at k p v x : ℕ} {c : Refusal} (r : ℕ) → Seen ts at k p v → (k ≡ 52 → ⊥) → valued ts r at ≡ refused c x → initial ts r at ≡ refused c x
initial_refused r t ne e = rw (initial_is r t ne, e)

pub initial_read : {ts : List Token} {at k p v end : ℕ} {old new : List ℕ} {n x q : ℕ} (r : ℕ) → Seen ts at k p v → (k ≡ 52 → ⊥)
    → Read (valued ts r at) (λ v. unit end v.0 0 ++ flat v.1) old n new x q → Read (initial ts r at) (λ v. unit end (value_place v) 0 ++ value_words v) old n new x q
unfolding value_place value_words
initial_read r t ne d = record { what = some d.what; is = rw (initial_is r t ne, d.is); wrote = d.wrote }

-- What is made of what follows a declared name.
pub initial_then : (ts : List Token) (r at : ℕ) (f : Option (ℕ × Expr) → Stmt)
    → choose ts ((";" ⇒ λ _. give (f none)) ∷ ("=" ⇒ λ q. expression ts r >>= λ e. expect ts ";" >>= λ _. give (f (some (q.place, e)))) ∷ []) at
    ≡ after (initial ts r at) (λ v. give (f v))
unfolding choose expect initial look next ◌⇒◌
initial_then ts r at f = end (eqb (token_at ts at).is (the ";")) refl
  where
    value : after (expect ts "=" at) (λ q. expression ts r >>= λ e. expect ts ";" >>= λ _. give (f (some (q.place, e))))
        ≡ after (after (valued ts r at) (λ v. give (some v))) (λ v. give (f v))
    value = valued_then ts r at (λ p e. f (some (p, e))) ∙ after_both (valued ts r at) (λ v. give (some v)) (λ v. give (f v))

    sign : (b : Bool) → eqb (token_at ts at).is (the "=") ≡ b
        → choose ts (("=" ⇒ λ q. expression ts r >>= λ e. expect ts ";" >>= λ _. give (f (some (q.place, e)))) ∷ []) at
        ≡ after (expect ts "=" at) (λ q. expression ts r >>= λ e. expect ts ";" >>= λ _. give (f (some (q.place, e))))
    sign true e = rw e
    sign false e = rw e

    end : (b : Bool) → eqb (token_at ts at).is (the ";") ≡ b
        → choose ts ((";" ⇒ λ _. give (f none)) ∷ ("=" ⇒ λ q. expression ts r >>= λ e. expect ts ";" >>= λ _. give (f (some (q.place, e)))) ∷ []) at
        ≡ after (initial ts r at) (λ v. give (f v))
    end true e = rw e
    end false e = rw e (sign (eqb (token_at ts at).is (the "=")) refl ∙ value)

-- A declaration, from its name on.
module _ {ts : List Token} {at k p v name size place k' p' v' : ℕ} (r : ℕ) (t : Seen ts at k p v) (d : BeginsDeclaration k) (b : Between ts (at + 1) name size place)
    (t' : Seen ts name k' p' v') where
  pub declared_none : (k' ≡ 2 → ⊥) → statement ts r at ≡ refused NotAllowed p'
  unfolding declaration the numbered reserved signs words marks
  declared_none ne = rw (read_declaration r t d, b.is, not_expected "name" t' ne)

  module _ (is : k' ≡ 2) where
    pub declares : statement ts r at ≡ after (initial ts r (name + 1)) (λ v. give (declare p d.kind b.what p' (token_at ts name).spelled v))
    unfolding declaration the numbered reserved signs words marks
    declares =
        rw (read_declaration r t d, b.is, expected "name" t' is, t.place, t'.place)
        (initial_then ts r (name + 1) (declare p d.kind b.what p' (token_at ts name).spelled))

    pub declared_refused : {c : Refusal} {x : ℕ} → initial ts r (name + 1) ≡ refused c x → statement ts r at ≡ refused c x
    declared_refused e = rw (declares, e)

    -- The tag is the first token's kind.
    pub declared_read : {old mid put new : List ℕ} {n x q tag : ℕ} → tag ≡ k → n + 6 ≤ length old → q ≤ length mid
        → Read (initial ts r (name + 1)) (λ w. unit v' (value_place w) 0 ++ value_words w) old (n + 6) mid x q → put ≡ sets mid (n + 3) (unit size place p')
        → new ≡ with_head tag p n q put → Read (statement ts r at) flat_stmt old n new x q
    unfolding flat_stmt
    declared_read {n = n} same le le' i in_put in_new = let six : n + 6 ≡ n + 3 + 3 = omega arith in record {
      what = declare p d.kind b.what p' (token_at ts name).spelled i.what;
      is = rw (declares, i.is);
      wrote = rw (b.size_is, b.place_is, ← d.is, ← t'.end is)
          (appends_headed k p (unit size place p' ++ unit v' (value_place i.what) 0) (value_words i.what) (omega arith) (rw (in_put, length-sets) le')
          (appends_unit (omega arith) le' (rw six at i.wrote) in_put) (rw same at in_new));
    }

-- The type of a declaration: perhaps `block[N]`, whose tokens are looked at one after another.
module _ {ts : List Token} {at k p v : ℕ} (t : Seen ts at k p v) where
  pub block_none : (k ≡ 18 → ⊥) → Between ts at at 0 0
  unfolding block look the numbered reserved signs words marks block_length block_place
  block_none ne = record { what = none; is = rw (t.is, ne_eqb k 18 ne); size_is = refl; place_is = refl }

  module _ {k₁ p₁ v₁ : ℕ} (word : k ≡ 18) (t₁ : Seen ts (at + 1) k₁ p₁ v₁) where
    pub block_is : block ts at ≡ after (expect ts "[" (at + 1)) (λ _. expect ts "number" >>= λ n. expect ts "]" >>= λ _. give (some (n.value, n.place)))
    unfolding block look next the numbered reserved signs words marks
    block_is = rw (add-one, t.is, word)

    pub no_open : (k₁ ≡ 57 → ⊥) → block ts at ≡ refused NotAllowed p₁
    unfolding the numbered reserved signs words marks
    no_open ne = rw (block_is, not_expected "[" t₁ ne)

    module _ {k₂ p₂ v₂ : ℕ} (open_is : k₁ ≡ 57) (t₂ : Seen ts (at + 1 + 1) k₂ p₂ v₂) where
      pub no_number : (k₂ ≡ 1 → ⊥) → block ts at ≡ refused NotAllowed p₂
      unfolding the numbered reserved signs words marks
      no_number ne = rw (block_is, expected "[" t₁ open_is, not_expected "number" t₂ ne)

      module _ {k₃ p₃ v₃ : ℕ} (number_is : k₂ ≡ 1) (t₃ : Seen ts (at + 1 + 1 + 1) k₃ p₃ v₃) where
        pub no_close : (k₃ ≡ 58 → ⊥) → block ts at ≡ refused NotAllowed p₃
        unfolding the numbered reserved signs words marks
        no_close ne = rw (block_is, expected "[" t₁ open_is, expected "number" t₂ number_is, not_expected "]" t₃ ne)

        pub block_read : k₃ ≡ 58 → Between ts at (at + 1 + 1 + 1 + 1) v₂ p₂
        unfolding the numbered reserved signs words marks block_length block_place
        block_read close_is = record {
          what = some (v₂, p₂);
          is = rw (block_is, expected "[" t₁ open_is, expected "number" t₂ number_is, expected "]" t₃ close_is, t₂.value (inl number_is), t₂.place);
          size_is = refl;
          place_is = refl;
        }

pub block_refused : {ts : List Token} {at k p v x : ℕ} {c : Refusal} (r : ℕ) → Seen ts at k p v → BeginsDeclaration k → block ts (at + 1) ≡ refused c x → statement ts r at ≡ refused c x
unfolding declaration
block_refused r t d e = rw (read_declaration r t d, e)

-- A declaration's first token is not the end of the text.
pub declares_above : (k : ℕ) → BeginsDeclaration k → 0 < k
unfolding kind_tag the numbered reserved signs words marks
declares_above k d = go d.kind d.is
  where
    go : (kd : Kind) → k ≡ kind_tag kd → 0 < k
    go int e = omega arith
    go bool e = omega arith
    go float e = omega arith

-- What `block` answers, from the answers of `expect` at its tokens.
module _ {T : List ℕ} {at : ℕ} (text : EndsAText T) (lt : at < token_count T) (word : kind_at T at ≡ 18) where
  pub open_there : at + 1 < token_count T
  open_there = past text lt word (omega arith)

  block_refuses : {r : Stage} {why : Refused} → IsErrAnd r (λ x. x ≡ why) → ((ts : List Token) → HoldsOnly T ts → block ts at ≡ refused why.refusal why.place) → ReadsBlock T at r
  block_refuses up said = rw (handed_up _ up) (record { behind = tt; done = tt; refused = said })

  pub open_missing : {s : ℕ} {r : Stage} {why : Refused} → Expects 57 T (at + 1) s (Err why) → IsErrAnd r (λ x. x ≡ why) → ReadsBlock T at r
  open_missing x up = let y = x.refused in block_refuses up (λ ts h. rw (y.1, y.2) (no_open (seen h lt) word (seen h open_there) y.0))

  module _ {s : ℕ} {bracket : Reached} (opened : Expects 57 T (at + 1) s (Ok bracket)) where
    open_is : (kind_at T (at + 1) ≡ 57) × (bracket.count ≡ at + 1 + 1)
    open_is = let y = opened.done in (y.0, y.1)

    second_there : at + 1 + 1 < token_count T
    second_there = past text open_there open_is.0 (omega arith)

    pub number_there : bracket.count < token_count T
    number_there = rw open_is.1 second_there

    pub number_missing : {s' : ℕ} {r : Stage} {why : Refused} → Expects 1 T bracket.count s' (Err why) → IsErrAnd r (λ x. x ≡ why) → ReadsBlock T at r
    number_missing x up = let y = rw open_is.1 at x.refused in
        block_refuses up (λ ts h. rw (y.1, y.2) (no_number (seen h lt) word (seen h open_there) open_is.0 (seen h second_there) y.0))

    module _ {s' : ℕ} {number : Reached} (numbered : Expects 1 T bracket.count s' (Ok number)) where
      number_is : (kind_at T (at + 1 + 1) ≡ 1) × (number.count ≡ at + 1 + 1 + 1)
      number_is = let y = rw open_is.1 at numbered.done in (y.0, y.1)

      third_there : at + 1 + 1 + 1 < token_count T
      third_there = past text second_there number_is.0 (omega arith)

      pub close_there : number.count < token_count T
      close_there = rw number_is.1 third_there

      pub block_answers : {s'' : ℕ} {r : Stage} → Expects 58 T number.count s'' r → ReadsBlock T at r
      block_answers {r = r} x = record {
        behind = IfOk-weaker r _ _ (λ reached y. omega (arith, number_is)) x.done;
        done = IfOk-weaker r _ _ (λ reached closed. let y = rw number_is.1 at closed in let two : at + 1 + 1 ≡ at + 2 = omega arith in record {
          on = omega arith;
          within = rw y.1 (past text third_there y.0 (omega arith));
          what = λ ts h. rw (y.1, ← two) (block_read (seen h lt) word (seen h open_there) open_is.0 (seen h second_there) number_is.0 (seen h third_there) y.0);
        }) x.done;
        refused = IfErr-weaker r _ _ (λ why other ts h. let y = rw number_is.1 at other in
            rw (y.1, y.2) (no_close (seen h lt) word (seen h open_there) open_is.0 (seen h second_there) number_is.0 (seen h third_there) y.0)) x.refused;
      }
