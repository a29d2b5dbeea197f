-- How the definitions read an expression: one law for each way through the code.
use Prim.Native.Nat.{ℕ, zero, suc, ◌+◌, ◌-◌, ◌≤◌, ◌<◌}
use Prim.Native.String.{String}
use mathlib.Core.Logic.{◌⊎◌, inl, inr}
use mathlib.Core.Path.{◌≡◌, refl, sym, ◌∙◌}
use mathlib.Core.Bool.{Bool, true, false, ◌||◌, or-false}
use mathlib.Core.List.{List, [], ◌∷◌, map}
use mathlib.Core.Option.{Option, none, some}
use native.Mathlib.Numerals.{add-one, sub-one}
use native.Mathlib.Nat.{lt_of_not-le}
use native.Mathlib.Omega.{arith}
use lib.Dec.{eqb}
use lib.ListN.{length, get_or}
use lib.Seq.{drop-cons}
use borrow.Author.Tests.{eq-eqb, ne_eqb, eqb-true}
use Rattle.meaning.specs.declared.Refusal.{Refusal}
use Rattle.meaning.specs.declared.Refusal.TheVariants.{NotAllowed, TooDeep}
use Rattle.meaning.specs.Codes.{Out, ok, refused, after, give, repeat, option, when◌then◌else◌, ◌among◌}
use Rattle.meaning.specs.Tokens.{Token, the, words, marks, numbered, reserved, signs}
use Rattle.meaning.specs.declared.Unary.{Unary}
use Rattle.meaning.specs.declared.Unary.TheVariants.{Neg as neg, Inv as inv, Not as unary_not}
use Rattle.meaning.specs.declared.Binary.{Binary}
use Rattle.meaning.specs.Tree.{table, unary_table, levels, Expr, number, float_number, boolean, name, current_mask, unary, binary}
use Rattle.meaning.specs.Reading.{Reads, After, ◌⇒◌, operator, look, next, choose, expect, as_long, more, binaries, operand, no_room, closed, unaries, expression, parenthesised}
use Rattle.layout.specs.Tokens.{kind_at, place_at, value_at}
use Rattle.layout.specs.Words.{unit, flat, boolean_tag, unary_tag, binary_tag}
use Rattle.reading_expressions.proofs.Answers.{Leaf, held_count, SoFar, turn_left, appends_then}
use Rattle.reading_expressions.specs.Contract.{HoldsOnly, token_count, Appends, Read, token_at, from_level, signs_at, some?, joins_at, Level}

-- A kind of constants: of a number, or of a float.
abbrev pub Constant : ℕ → Type 0
Constant k = (k ≡ 1) ⊎ (k ≡ 3)

-- It is not the end of the text.
pub constant_above : {k : ℕ} → Constant k → 0 < k
constant_above (inl e) = omega arith
constant_above (inr e) = omega arith

-- The token at a position: what it is, its place, and its value.
pub record Seen (ts : List Token) (at k p v : ℕ) : Type 0 where
  pub is : (token_at ts at).is ≡ k
  pub place : (token_at ts at).place ≡ p
  pub value : Constant k → (token_at ts at).value ≡ v
  pub end : k ≡ 2 → v ≡ p + length (token_at ts at).spelled

-- It is what the buffers have there.
pub seen : {T : List ℕ} {ts : List Token} {at : ℕ} → HoldsOnly T ts → at < token_count T → Seen ts at (kind_at T at) (place_at T at) (value_at T at)
unfolding the words marks numbered reserved signs
seen {at = at} h lt =
    let t = h.holds.row at (omega (arith, held_count h)) in
    record {
      is = sym t.is;
      place = sym t.at;
      value = λ e. elim e [ inl is ↦ sym (t.worth (sym t.is ∙ is)) | inr is ↦ sym (t.pattern (sym t.is ∙ is)) ];
      end = λ e. rw t.at (t.end (sym t.is ∙ e));
    }

-- What a unary operator's operand is, one level deeper.
unfoldable pub deeper : (ts : List Token) → ℕ → After Expr
deeper ts zero = no_room ts
deeper ts (suc r) = λ t. unaries ts r

-- An operand, where r more levels may open.
pub unaries_is : (ts : List Token) (r at : ℕ) → unaries ts r at ≡ operand ts (deeper ts r) (parenthesised ts r) at
unfolding unaries deeper parenthesised expression
unaries_is ts zero at = refl
unaries_is ts (suc r) at = refl

-- The unary operator that a token is.
pub record Signed (k : ℕ) : Type 0 where
  pub sign : Unary
  pub is : k ≡ the (unary_table sign).0

pub signed : (k : ℕ) → signs_at k ≡ true → Signed k
unfolding signs_at
signed k e = go (neg ∷ inv ∷ unary_not ∷ []) e
  where
    go : (os : List Unary) → (k among map (λ o. the (unary_table o).0) os) ≡ true → Signed k
    go [] e = let z : ◌≡◌ {A = ℕ} 0 1 = cc in absurd (omega arith)
    go (o ∷ os) e = either (eqb k (the (unary_table o).0)) refl e (go os)
      where
        either : (b : Bool) → eqb k (the (unary_table o).0) ≡ b → (b || k among map (λ o. the (unary_table o).0) os) ≡ true
            → ((k among map (λ o. the (unary_table o).0) os) ≡ true → Signed k) → Signed k
        either true is e rest = record { sign = o; is = eqb-true k (the (unary_table o).0) is }
        either false is e rest = rest e

-- It is not the end of the text, and its tag is a small number.
pub sign_bounds : (k : ℕ) → signs_at k ≡ true → (0 < k) × (k < 128)
unfolding the numbered reserved signs words marks unary_table
sign_bounds k e = go (signed k e).sign (signed k e).is
  where
    go : (o : Unary) → k ≡ the (unary_table o).0 → (0 < k) × (k < 128)
    go neg e = omega arith
    go inv e = omega arith
    go unary_not e = omega arith

pub sign_above : (k : ℕ) → signs_at k ≡ true → 0 < k
sign_above k e = (sign_bounds k e).0

-- The unary operators by their kinds.
pub signs_is : (k : ℕ) → signs_at k ≡ (eqb k 63 || (eqb k 68 || (eqb k 69 || false)))
unfolding signs_at the numbered reserved signs words marks unary_table
signs_is k = refl

pub no_sign : (k : ℕ) → signs_at k ≡ false → (eqb k 63 ≡ false) × (eqb k 68 ≡ false) × (eqb k 69 ≡ false)
unfolding signs_at the numbered reserved signs words marks unary_table
no_sign k e = go (eqb k 63) (eqb k 68) (eqb k 69) e
  where
    go : (a b c : Bool) → (a || (b || (c || false))) ≡ false → (a ≡ false) × (b ≡ false) × (c ≡ false)
    go true b c e = let z : ◌≡◌ {A = ℕ} 0 1 = cc in absurd (omega arith)
    go false true c e = let z : ◌≡◌ {A = ℕ} 0 1 = cc in absurd (omega arith)
    go false false true e = let z : ◌≡◌ {A = ℕ} 0 1 = cc in absurd (omega arith)
    go false false false e = (refl, refl, refl)

module _ {ts : List Token} {at k p v : ℕ} (r : ℕ) (t : Seen ts at k p v) where
  -- A constant, of a kind w, which is its tag.
  pub read_constant : {w : ℕ} → w ≡ k → Constant w → Leaf flat (unaries ts r at) (at + 1) w v 0
  unfolding operand choose look next ◌⇒◌ the numbered reserved signs words marks unary_table flat
  read_constant is (inl e) = record { what = number v; is = rw (unaries_is, add-one, t.is, ← is, e, t.value (inl (sym is ∙ e))); words = rw e }
  read_constant is (inr e) = record { what = float_number v; is = rw (unaries_is, add-one, t.is, ← is, e, t.value (inr (sym is ∙ e))); words = rw e }

  pub read_name : k ≡ 2 → Leaf flat (unaries ts r at) (at + 1) 2 p v
  unfolding operand choose look next ◌⇒◌ the numbered reserved signs words marks unary_table flat
  read_name e = record { what = name p (token_at ts at).spelled; is = rw (unaries_is, add-one, t.is, e, t.place); words = rw (t.end e) }

  pub read_true : k ≡ 24 → Leaf flat (unaries ts r at) (at + 1) 24 0 0
  unfolding operand choose look next ◌⇒◌ the numbered reserved signs words marks unary_table flat boolean_tag
  read_true e = record { what = boolean true; is = rw (unaries_is, add-one, t.is, e); words = refl }

  pub read_false : k ≡ 25 → Leaf flat (unaries ts r at) (at + 1) 25 0 0
  unfolding operand choose look next ◌⇒◌ the numbered reserved signs words marks unary_table flat boolean_tag
  read_false e = record { what = boolean false; is = rw (unaries_is, add-one, t.is, e); words = refl }

  pub read_mask : k ≡ 23 → Leaf flat (unaries ts r at) (at + 1) 23 0 0
  unfolding operand choose look next ◌⇒◌ the numbered reserved signs words marks unary_table flat
  read_mask e = record { what = current_mask; is = rw (unaries_is, add-one, t.is, e); words = refl }

  -- A unary operator: its operand, one level deeper.
  pub read_unary : (s : Signed k) → unaries ts r at ≡ after (deeper ts r (token_at ts at) (at + 1)) (λ e. give (unary p s.sign e))
  unfolding operand choose look next ◌⇒◌ the numbered reserved signs words marks unary_table
  read_unary s = go s.sign s.is
    where
      go : (o : Unary) → k ≡ the (unary_table o).0 → unaries ts r at ≡ after (deeper ts r (token_at ts at) (at + 1)) (λ e. give (unary p o e))
      go neg e = rw (unaries_is, add-one, t.is, e, t.place)
      go inv e = rw (unaries_is, add-one, t.is, e, t.place)
      go unary_not e = rw (unaries_is, add-one, t.is, e, t.place)

  pub read_open : k ≡ 55 → unaries ts r at ≡ parenthesised ts r (token_at ts at) (at + 1)
  unfolding operand choose look next ◌⇒◌ the numbered reserved signs words marks unary_table
  read_open e = rw (unaries_is, add-one, t.is, e)

  -- A token that opens no level is read alike, whatever the room.
  pub read_leaf : signs_at k ≡ false → (k ≡ the "(" → ⊥) → unaries ts r at ≡ unaries ts 0 at
  unfolding operand choose look next ◌⇒◌ the numbered reserved signs words marks unary_table
  read_leaf unsigned shut =
      let u = no_sign k unsigned in rw (unaries_is ts r at, unaries_is ts 0 at, t.is, u.0, u.1, u.2, ne_eqb k 55 shut)

  -- Any other token, of a kind w, is refused.
  pub read_none : {w : ℕ} → w ≡ k → (Constant w → ⊥) → (w ≡ 24 → ⊥) → (w ≡ 25 → ⊥) → (w ≡ 2 → ⊥) → (w ≡ 23 → ⊥)
      → signs_at k ≡ false → (k ≡ the "(" → ⊥) → unaries ts r at ≡ refused NotAllowed p
  unfolding operand choose look next ◌⇒◌ the numbered reserved signs words marks unary_table
  read_none {w} is a b c d e unsigned shut =
      let u = no_sign k unsigned in
      rw (
        unaries_is,
        t.is,
        u.0,
        u.1,
        u.2,
        ne_eqb k 55 shut,
        ← is,
        ne_eqb w 1 (λ e. a (inl e)),
        ne_eqb w 3 (λ e. a (inr e)),
        ne_eqb w 24 b,
        ne_eqb w 25 c,
        ne_eqb w 2 d,
        ne_eqb w 23 e,
        t.place,
      )

-- A token that has to be of one kind.
module _ {ts : List Token} {at k p v : ℕ} (s : String) (t : Seen ts at k p v) where
  pub expected : k ≡ the s → expect ts s at ≡ ok (token_at ts at) (at + 1)
  unfolding expect choose look next ◌⇒◌
  expected e = rw (add-one, t.is, eq-eqb k (the s) e)

  pub not_expected : (k ≡ the s → ⊥) → expect ts s at ≡ refused NotAllowed p
  unfolding expect choose look next ◌⇒◌
  not_expected ne = rw (t.is, ne_eqb k (the s) ne, t.place)

-- What `closed` reads in parentheses.
pub enclosed_some : (ts : List Token) (r at : ℕ) → (r ≡ 0 → ⊥) → parenthesised ts r (token_at ts at) (at + 1) ≡ closed ts (expression ts (r - 1)) (token_at ts at) (at + 1)
unfolding parenthesised
enclosed_some ts zero at ne = absurd (ne refl)
enclosed_some ts (suc r) at ne = rw sub-one

pub deeper_some : (ts : List Token) (r at : ℕ) → (r ≡ 0 → ⊥) → deeper ts r (token_at ts at) (at + 1) ≡ unaries ts (r - 1) (at + 1)
unfolding deeper
deeper_some ts zero at ne = absurd (ne refl)
deeper_some ts (suc r) at ne = rw sub-one

-- A unary operator and `(` open a level: with no room it is refused, and otherwise there is room for one less in it.
module _ {ts : List Token} {at k p v : ℕ} (r : ℕ) (t : Seen ts at k p v) where
  pub unary_deep : signs_at k ≡ true → r ≡ 0 → unaries ts r at ≡ refused TooDeep p
  unfolding deeper no_room
  unary_deep s e = rw (read_unary r t (signed k s), e, t.place)

  pub unary_refused : {c : Refusal} {q : ℕ} → signs_at k ≡ true → (r ≡ 0 → ⊥) → unaries ts (r - 1) (at + 1) ≡ refused c q → unaries ts r at ≡ refused c q
  unary_refused s ne e = rw (read_unary r t (signed k s), deeper_some ts r at ne, e)

  pub unary_read : {old new out : List ℕ} {n q x y : ℕ} → signs_at k ≡ true → (r ≡ 0 → ⊥) → Read (unaries ts (r - 1) (at + 1)) flat old n new q x
      → Appends new x out y (unit (128 + k) p 0) → Read (unaries ts r at) flat old n out q y
  unfolding flat unary_tag
  unary_read s ne d put = let o = signed k s in record {
    what = unary p o.sign d.what;
    is = rw (read_unary r t o, deeper_some ts r at ne, d.is);
    wrote = rw o.is at (appends_then d.wrote put);
  }

  pub enclosed_deep : r ≡ 0 → parenthesised ts r (token_at ts at) (at + 1) ≡ refused TooDeep p
  unfolding parenthesised no_room
  enclosed_deep e = rw (e, t.place)

module _ (ts : List Token) (at r : ℕ) (ne : r ≡ 0 → ⊥) where
  pub enclosed_refused : {c : Refusal} {q : ℕ} → from_level ts 0 (r - 1) (at + 1) ≡ refused c q
      → parenthesised ts r (token_at ts at) (at + 1) ≡ refused c q
  unfolding closed expression from_level
  enclosed_refused e = rw (enclosed_some ts r at ne, e)

  module _ {q k p v : ℕ} {e : Expr} (t : Seen ts q k p v) (inner : from_level ts 0 (r - 1) (at + 1) ≡ ok e q) where
    pub enclosed_read : k ≡ 56 → parenthesised ts r (token_at ts at) (at + 1) ≡ ok e (q + 1)
    unfolding closed expression from_level the numbered reserved signs words marks
    enclosed_read is = rw (enclosed_some ts r at ne, inner, expected ")" t is)

    pub enclosed_open : (k ≡ 56 → ⊥) → parenthesised ts r (token_at ts at) (at + 1) ≡ refused NotAllowed p
    unfolding closed expression from_level the numbered reserved signs words marks
    enclosed_open is = rw (enclosed_some ts r at ne, inner, not_expected ")" t is)

-- The operands of the last level, and the levels above it.
pub level_last : (ts : List Token) (l r at : ℕ) → l ≡ 7 → from_level ts l r at ≡ unaries ts r at
unfolding from_level binaries levels
level_last ts l r at e = rw e

pub level_next : (ts : List Token) (l r at : ℕ) → l < 7 → from_level ts l r at ≡ after (from_level ts (l + 1) r at) (as_long ts (more ts (get_or levels l []) (from_level ts (l + 1) r)))
unfolding from_level binaries levels
level_next ts l r at lt = rw (add-one, drop-cons levels l [] lt)

-- The operator that a token is at a level.
pub record Operator (l k : ℕ) : Type 0 where
  pub what : Binary
  pub is : operator k (get_or levels l []) ≡ some what
  pub sign : binary_tag what ≡ k

-- What is found in a list of operators has the sign that was looked for.
operator-sign : (k : ℕ) (os : List Binary) (o : Binary) → operator k os ≡ some o → binary_tag o ≡ k
unfolding operator binary_tag
operator-sign k [] o e = let z : ◌≡◌ {A = ℕ} 0 1 = cc in absurd (omega arith)
operator-sign k (a ∷ os) o e = go (eqb k (the (table a).0)) refl e (operator-sign k os o)
  where
    go : (b : Bool) → eqb k (the (table a).0) ≡ b → (when b then (λ _. some a) else λ _. operator k os) ≡ some o → (operator k os ≡ some o → binary_tag o ≡ k) → binary_tag o ≡ k
    go true is found rest = let same : a ≡ o = cc in rw (← same) (sym (eqb-true k (the (table a).0) is))
    go false is found rest = rest found

-- A token joins operands at a level when it is one of the level's operators.
pub which : (l k : ℕ) → joins_at l k ≡ true → Operator l k
unfolding joins_at
which l k e = go (operator k (get_or levels l [])) refl e
  where
    go : (o : Option Binary) → operator k (get_or levels l []) ≡ o → some? o ≡ true → Operator l k
    go none is found = let z : ◌≡◌ {A = ℕ} 0 1 = cc in absurd (omega arith)
    go (some o) is found = record { what = o; is = is; sign = operator-sign k (get_or levels l []) o is }

-- It is not the end of the text.
tag_above : (o : Binary) → 0 < binary_tag o
unfolding binary_tag table the numbered reserved signs words marks
tag_above Binary.Or = omega arith
tag_above Binary.Xor = omega arith
tag_above Binary.And = omega arith
tag_above Binary.Eq = omega arith
tag_above Binary.Ne = omega arith
tag_above Binary.Lt = omega arith
tag_above Binary.Gt = omega arith
tag_above Binary.Le = omega arith
tag_above Binary.Ge = omega arith
tag_above Binary.Add = omega arith
tag_above Binary.Sub = omega arith
tag_above Binary.Mul = omega arith

pub joins_above : (l k : ℕ) → joins_at l k ≡ true → 0 < k
joins_above l k e = let o = which l k e in omega (arith, tag_above o.what, o.sign)

pub joins_none : (l k : ℕ) → joins_at l k ≡ false → operator k (get_or levels l []) ≡ none
unfolding joins_at
joins_none l k e = go (operator k (get_or levels l [])) refl e
  where
    go : (o : Option Binary) → operator k (get_or levels l []) ≡ o → some? o ≡ false → operator k (get_or levels l []) ≡ none
    go none is found = is
    go (some o) is found = let z : ◌≡◌ {A = ℕ} 0 1 = cc in absurd (omega arith)

-- One turn of a level: the token at hand joins one more operand, or ends the level.
module _ {ts : List Token} {at k p v : ℕ} (t : Seen ts at k p v) (l : ℕ) (m : Reads Expr) (n : ℕ) (e : Expr) where
  pub joins_more : (o : Operator l k)
      → repeat (suc n) (more ts (get_or levels l []) m) e at ≡ after (m (at + 1)) (λ e'. repeat n (more ts (get_or levels l []) m) (binary p o.what e e'))
  unfolding more look next
  joins_more o = rw (add-one, t.is, o.is, t.place) (go (m (suc at)))
    where
      go : (x : Out ℕ Expr) → after (after x (λ e'. give (some (binary p o.what e e')))) (option (give e) (λ a. repeat n (more ts (get_or levels l []) m) a))
          ≡ after x (λ e'. repeat n (more ts (get_or levels l []) m) (binary p o.what e e'))
      go (ok e' q) = refl
      go (refused c q) = refl

  pub joins_ends : joins_at l k ≡ false → repeat (suc n) (more ts (get_or levels l []) m) e at ≡ ok e at
  unfolding more look next
  joins_ends no_more = rw (t.is, joins_none l k no_more)

-- What a level reads after e, in at most n turns.
abbrev pub joined : ℕ → ℕ → List Token → ℕ → Expr → ℕ → Out ℕ Expr
joined l r ts n e at = repeat n (more ts (get_or levels l []) (from_level ts (l + 1) r)) e at

-- A level begins with what the next one reads, ends at a token that does not join, and goes on after one that does.
module _ (l r : ℕ) (ts : List Token) where
  pub level_refused : {c : Refusal} {q : ℕ} (at : ℕ) → l < 7 → from_level ts (l + 1) r at ≡ refused c q
      → from_level ts l r at ≡ refused c q
  level_refused at lt e = rw (level_next ts l r at lt, e)

  pub level-begins : {old new : List ℕ} {n p q : ℕ} (at : ℕ) → l < 7 → Read (from_level ts (l + 1) r at) flat old n new p q
      → SoFar (from_level ts l r at) (joined l r ts) flat (length ts) old n new p q
  unfolding as_long
  level-begins at lt d = record { turns = length ts; what = d.what; enough = omega arith; is = rw (level_next ts l r at lt, d.is); wrote = d.wrote }

  module _ {o : Out ℕ Expr} {old new : List ℕ} {n p q k pl v : ℕ} (t : Seen ts p k pl v) (lt : p < length ts) (s : SoFar o (joined l r ts) flat (length ts) old n new p q) where
    pub level_ends : joins_at l k ≡ false → Read o flat old n new p q
    level_ends no_more =
        let u = turn_left s lt in
        record { what = s.what; is = u.2 ∙ joins_ends t l (from_level ts (l + 1) r) u.0 s.what no_more; wrote = s.wrote }

    pub level_fails : {c : Refusal} {x : ℕ} → joins_at l k ≡ true → from_level ts (l + 1) r (p + 1) ≡ refused c x → o ≡ refused c x
    level_fails joins e =
        let u = turn_left s lt in
        u.2 ∙ rw (joins_more t l (from_level ts (l + 1) r) u.0 s.what (which l k joins), e)

    pub level_goes_on : {mid out : List ℕ} {p' q' x : ℕ} → joins_at l k ≡ true → p < p' → Read (from_level ts (l + 1) r (p + 1)) flat new q mid p' q'
        → Appends mid q' out x (unit k pl 0) → SoFar o (joined l r ts) flat (length ts) old n out p' x
    unfolding flat
    level_goes_on joins on d put = let u = turn_left s lt in let w = which l k joins in record {
      turns = u.0;
      what = binary pl w.what s.what d.what;
      enough = omega (arith, u.1);
      is = u.2 ∙ rw (joins_more t l (from_level ts (l + 1) r) u.0 s.what w, d.is);
      wrote = appends_then s.wrote (appends_then d.wrote (rw (← w.sign) at put));
    }

-- The levels by their numbers, and one more, which has no operators.
abbrev eight : List ℕ
eight = 0 ∷ 1 ∷ 2 ∷ 3 ∷ 4 ∷ 5 ∷ 6 ∷ 7 ∷ []

-- A kind's level is found by a look at each of them.
pub level_is : {k level : ℕ} → map (λ l. joins_at l k) eight ≡ map (λ l. eqb l level) eight → Level k level
level_is {k} {level} e = record { is = go }
  where
    go : (l : ℕ) → l < 8 → joins_at l k ≡ eqb l level
    go zero lt = cc
    go (suc zero) lt = cc
    go (suc (suc zero)) lt = cc
    go (suc (suc (suc zero))) lt = cc
    go (suc (suc (suc (suc zero)))) lt = cc
    go (suc (suc (suc (suc (suc zero))))) lt = cc
    go (suc (suc (suc (suc (suc (suc zero)))))) lt = cc
    go (suc (suc (suc (suc (suc (suc (suc zero))))))) lt = cc
    go (suc (suc (suc (suc (suc (suc (suc (suc l)))))))) lt = absurd (omega arith)

-- A kind is found where a list of operators has it.
some_or : (b : Bool) (o : Binary) (rest : Option Binary) → some? (when b then (λ _. some o) else λ _. rest) ≡ (b || some? rest)
some_or true o rest = refl
some_or false o rest = refl

-- What joins at each level: `|`, `^`, `&`, `== !=`, `< > <= >=`, `+ -`, `*`, and nothing.
joins_are : (k : ℕ) → map (λ l. joins_at l k) eight
    ≡ eqb k 66 ∷ eqb k 67 ∷ eqb k 65 ∷ (eqb k 48 || eqb k 49) ∷ (eqb k 60 || (eqb k 61 || (eqb k 50 || eqb k 51))) ∷ (eqb k 62 || eqb k 63) ∷ eqb k 64 ∷ false ∷ []
unfolding joins_at operator levels table the words marks numbered reserved signs
joins_are k = simp (some_or, or-false)

-- A kind's level is that of the list that has it, and 8 where none does.
pub level_by : {k level : ℕ} → eqb k 66 ≡ eqb 0 level → eqb k 67 ≡ eqb 1 level → eqb k 65 ≡ eqb 2 level → (eqb k 48 || eqb k 49) ≡ eqb 3 level
    → (eqb k 60 || (eqb k 61 || (eqb k 50 || eqb k 51))) ≡ eqb 4 level → (eqb k 62 || eqb k 63) ≡ eqb 5 level → eqb k 64 ≡ eqb 6 level → eqb 7 level ≡ false → Level k level
level_by {k} a b c d e f g h = level_is (rw (joins_are k, a, b, c, d, e, f, g, h))

-- Level 7 has no operators.
pub seven_none : (k : ℕ) → joins_at 7 k ≡ false
unfolding joins_at operator levels
seven_none k = refl

-- A token joins at its own level, which is one of the seven, and at no other.
module _ {k level : ℕ} (x : Level k level) where
  pub joins_here : level < 8 → joins_at level k ≡ true
  joins_here lt = x.is level lt ∙ eq-eqb level level refl

  pub joins_not : (l : ℕ) → l < 8 → (l ≡ level → ⊥) → joins_at l k ≡ false
  joins_not l lt ne = x.is l lt ∙ ne_eqb l level ne

  pub below_seven : level < 8 → level < 7
  below_seven lt = lt_of_not-le (λ le. let seven : level ≡ 7 = omega arith in let found : joins_at 7 k ≡ true = rw (← seven) (joins_here lt) in
      let z : ◌≡◌ {A = ℕ} 0 1 = cc (seven_none k) in absurd (omega arith))

-- All levels begin at the same token: what a tighter one, m, has read from there is what a looser one, l, has read so far.
module _ (r : ℕ) (ts : List Token) (at : ℕ) where
  -- After the first operand level 7 is at work.
  pub operands_begin : {old new : List ℕ} {n p q k pl v : ℕ} → Seen ts p k pl v → Read (unaries ts r at) flat old n new p q
      → SoFar (from_level ts 7 r at) (joined 7 r ts) flat (length ts) old n new p q
  operands_begin {k = k} t d = record {
    turns = suc (length ts);
    what = d.what;
    enough = omega arith;
    is = level_last ts 7 r at refl ∙ d.is ∙ sym (joins_ends t 7 (from_level ts (7 + 1) r) (length ts) d.what (seven_none k));
    wrote = d.wrote;
  }

  -- A refusal of one level is one of every looser level.
  pub looser_refused : {c : Refusal} {q : ℕ} (d l m : ℕ) → m ≡ l + d → m ≤ 7 → from_level ts m r at ≡ refused c q → from_level ts l r at ≡ refused c q
  looser_refused zero l m is le e = let same : l ≡ m = omega arith in rw same e
  looser_refused (suc d) l m is le e = level_refused l r ts at (omega arith) (looser_refused d (l + 1) m (omega arith) le e)

  module _ {old new : List ℕ} {n p q k pl v : ℕ} (t : Seen ts p k pl v) (lt : p < length ts) where
    -- Before a token that joins at none of the levels from l to m, level l has read what level m has.
    pub looser_read : (d l m : ℕ) → m ≡ l + d → m ≤ 7 → ((j : ℕ) → l ≤ j → j < m → joins_at j k ≡ false)
        → Read (from_level ts m r at) flat old n new p q → Read (from_level ts l r at) flat old n new p q
    looser_read zero l m is le apart read = let same : l ≡ m = omega arith in rw same read
    looser_read (suc d) l m is le apart read =
        level_ends l r ts t lt (level-begins l r ts at (omega arith) (looser_read d (l + 1) m (omega arith) le (λ j a b. apart j (omega arith) b) read))
        (apart l (omega arith) (omega arith))

    -- Level m is at work, and the next token's own level is `next`.
    module _ {m next : ℕ} (le : m ≤ 7) (x : Level k next) (s : SoFar (from_level ts m r at) (joined m r ts) flat (length ts) old n new p q) where
      -- Where that is none from l to m, level l has read the same.
      pub looser_ends : (l : ℕ) → l ≤ m → ((j : ℕ) → l ≤ j → j ≤ m → j ≡ next → ⊥) → Read (from_level ts l r at) flat old n new p q
      looser_ends l below apart =
          let no : (j : ℕ) → l ≤ j → j ≤ m → joins_at j k ≡ false = λ j a b. joins_not x j (omega arith) (apart j a b) in
          looser_read (m - l) l m (omega arith) le (λ j a b. no j a (omega arith)) (level_ends m r ts t lt s (no m below (omega arith)))

      -- Where that is one from 0 to m, it is the level at work.
      pub looser_goes_on : (d : ℕ) → m ≡ next + d → SoFar (from_level ts next r at) (joined next r ts) flat (length ts) old n new p q
      looser_goes_on zero is = let same : next ≡ m = omega arith in rw same s
      looser_goes_on (suc d) is = level-begins next r ts at (omega arith) (looser_ends (next + 1) (omega arith) (λ j a b e. omega arith))
