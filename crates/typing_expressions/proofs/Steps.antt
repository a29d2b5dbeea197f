-- Each way through the typing of a name, an operand, an operator and a declaration gives what the definition says.
use Prim.Native.Nat.{ℕ, suc, ◌+◌, ◌-◌, ◌*◌, ◌≤◌, ◌<◌}
use native.Mathlib.Omega.{arith}
use native.Mathlib.Nat.{add-sub_cancel_left}
use mathlib.Core.Path.{◌≡◌, refl, sym, ◌∙◌}
use mathlib.Core.Bool.{Bool, true, false, ◌&&◌, true≢false}
use mathlib.Core.List.{List, [], ◌∷◌}
use mathlib.Core.Option.{some, none}
use Rattle.std.specs.Option.{is_some}
use lib.ListN.{length, get_or}
use borrow.Author.Tests.{lt-ltb, le-ltb}
use Rattle.meaning.specs.declared.Kind.{Kind}
use Rattle.meaning.specs.declared.Kind.TheVariants.{Int as int, Bool as bool, Float as float}
use Rattle.meaning.specs.declared.Refusal.TheVariants.{UnknownName, AlreadyOpen, WrongLength, TooManyDeclarations}
use Rattle.meaning.specs.Codes.{declaration_limit}
use Rattle.meaning.specs.Tokens.{equal, the, numbered, reserved, words, signs, marks}
use Rattle.meaning.specs.declared.Unary.{Unary}
use Rattle.meaning.specs.declared.Binary.{Binary}
use Rattle.meaning.specs.Tree.{Name, kind_number}
use Rattle.meaning.specs.Memory.{Declared, Declarations, declared, whole, next_multiple, bit}
use Rattle.meaning.specs.Typing.{find, fits, variable_named, declare_name}
use Rattle.layout.specs.Words.{boolean_tag, sign_of, operator_of}
use Rattle.layout.specs.Stack.{with_slot}
use Rattle.layout.proofs.Operators.{operator_back, sign_back}
use Rattle.layout.specs.Table.{word_of, kind_of, entry, entries, with_row, kind_column, lanes_column}
use Rattle.laws.specs.Sound.{Spelled, stack_limit}
use Rattle.typing_expressions.specs.declared.Point.{Point}
use Rattle.layout.specs.Stage.{Stage}
use Rattle.std.specs.declared.option.Option.{Option as Found}
use Rattle.std.specs.declared.option.Option.TheVariants.{Some, None}
use Rattle.std.specs.declared.result.Result.TheVariants.{Ok, Err}
use Rattle.typing_expressions.specs.Rows.{Spans, ListedLength, Rows, spelled, number_of, Finds, end_of}
use Rattle.typing_expressions.specs.Nodes.{TreeNode, a_number, a_float, a_boolean, a_name, a_mask, a_unary, a_binary, node_tag, node_first, node_second, arity, Slot, step, slots, IsNode, IsLeaf, NodeAt}
use Rattle.typing_expressions.specs.Answers.{TypesNode, ThereIs, TypesName, TypesUnary, TypesBinary, number_out, DeclaresName}
use Rattle.typing_expressions.proofs.Tags.{arity_0, arity_2, unary_low, binary_range, Class, leaf, unary, binary, class}
use Rattle.typing_expressions.proofs.Names.{length-entries, entries_at}
use Rattle.typing_expressions.proofs.Slots.{node_refused, node_put}
use Rattle.typing_expressions.proofs.Tables.{Added, added, added_entries, added_rows}

-- ---- a name
pub find_low : (x : Name) (k : ℕ) (Γ : Declarations) {i : ℕ} → find x k Γ ≡ some i → i < k + length Γ
unfolding find
find_low x k [] h = absurd (let z : ◌≡◌ {A = ℕ} 0 1 = cc in omega arith)
find_low x k (d ∷ Γ) {i} h = go (d.open? && equal d.name x) refl (λ q. find_low x (suc k) Γ q)
  where
    go : (b : Bool) → (d.open? && equal d.name x) ≡ b → (find x (suc k) Γ ≡ some i → i < suc k + length Γ) → i < k + suc (length Γ)
    go true q f = let w : some k ≡ some i = rw q at h in let z : k ≡ i = cc in omega arith
    go false q f = omega (arith, f (rw q at h))

module _ {text table : List ℕ} {count place end : ℕ} {r : Found ℕ} (f : Finds text table count place end r) where
  pub found_low : {i : ℕ} → r ≡ Some i → i < count
  unfolding number_of
  found_low {i} h = omega (arith, find_low (spelled text place end) 0 (entries text table count) (sym (rw h at f.is)), length-entries text table count)

  found_none : false ≡ is_some r → find (spelled text place end) 0 (entries text table count) ≡ none
  unfolding number_of
  found_none h = sym f.is ∙ go r h
    where
      go : (r : Found ℕ) → false ≡ is_some r → number_of r ≡ none
      go (Some i) h = absurd (true≢false (sym h))
      go None h = refl

  found_at : {i : ℕ} → r ≡ Some i → (d : Declared) → get_or (entries text table count) i d ≡ entry text table i
  found_at {i} h d = entries_at text table count i d (found_low h)

module _ {text table : List ℕ} {at : Point} {place end : ℕ} {r : Found ℕ} (f : Finds text table at.count place end r) {j : ℕ} {before after : List ℕ} where
  pub name_5 : r ≡ None → TypesName at place end text table j before after (Err (record { refusal = UnknownName; place = place }))
  unfolding step variable_named number_of
  name_5 h = node_refused (rw (← f.is, h))

  module _ {i n : ℕ} (h : r ≡ Some i) (en : n ≡ word_of table i lanes_column) where
    pub name_9 : false ≡ fits at.context n → TypesName at place end text table j before after (Err (record { refusal = WrongLength; place = place }))
    unfolding step variable_named number_of declared entry
    name_9 q = node_refused (rw (← f.is, h) (rw (found_at f h, ← en, ← q)))

    pub name_ok : {k : Kind} → true ≡ fits at.context n → k ≡ kind_of (word_of table i kind_column) → after ≡ with_slot before j (kind_number k) n i → j * 3 + 3 ≤ length before
        → TypesName at place end text table j before after (Ok (record { count = j + 1; size = at.size }))
    unfolding step variable_named number_of declared entry
    name_ok q ek ea room = node_put ea room (rw (← f.is, h) (rw (found_at f h, ← en, ← q) (rw ek)))

-- ---- an operand
-- The nodes that take no operands, by their words.
pub data Operand (text : List ℕ) (a b : ℕ) : ℕ → TreeNode → Type 0 where
  is_number : Operand text a b 1 (a_number a)
  is_float : Operand text a b 3 (a_float a)
  is_name : {x : Name} → Spelled text a x → b ≡ a + length x → Operand text a b 2 (a_name a x)
  is_mask : Operand text a b 23 a_mask
  is_true : Operand text a b 24 (a_boolean true)
  is_false : Operand text a b 25 (a_boolean false)

pub operand : {text : List ℕ} {tag a b : ℕ} {n : TreeNode} → IsNode text tag a b n → tag < 48 → Operand text a b tag n
unfolding node_tag node_first node_second boolean_tag the numbered reserved words signs marks
operand {text} {tag} {a} {b} {n} i l = go n i.tag_is i.first_is i.second_is i.spells
  where
    go : (n : TreeNode) → node_tag n ≡ tag → node_first n ≡ a → node_second n ≡ b → ((p : ℕ) (x : Name) → n ≡ a_name p x → Spelled text p x) → Operand text a b tag n
    go (a_number m) t f s w = rw (← t, ← f) is_number
    go (a_float m) t f s w = rw (← t, ← f) is_float
    go (a_boolean true) t f s w = rw (← t) is_true
    go (a_boolean false) t f s w = rw (← t) is_false
    go (a_name p x) t f s w = rw (← t, ← f) (is_name (w p x refl) (sym s))
    go a_mask t f s w = rw (← t) is_mask
    go (a_unary p o) t f s w = absurd (omega (arith, unary_low o))
    go (a_binary p o) t f s w = absurd (omega (arith, (binary_range o).0))

pub leaf_low : {text : List ℕ} {tag a b : ℕ} {n : TreeNode} → IsLeaf text tag a b n → tag < 48
unfolding arity
leaf_low {tag = tag} {n = n} l = go (class n) l.is.tag_is l.alone
  where
    go : {n : TreeNode} → Class n → node_tag n ≡ tag → arity n ≡ 0 → tag < 48
    go (leaf n s e) q z = omega arith
    go unary q z = absurd (omega arith)
    go binary q z = absurd (omega arith)

-- A constant or current_mask, by its tag: the kind, the length and the word that are put into its slot.
pub data Puts (C a : ℕ) : ℕ → Kind → ℕ → ℕ → Type 0 where
  number : Puts C a 1 int 1 a
  float_number : Puts C a 3 float 1 a
  current_mask : Puts C a 23 bool C 0
  yes : Puts C a 24 bool 1 1
  no : Puts C a 25 bool 1 0

pub constant_on : {text : List ℕ} {at : Point} {a b j : ℕ} {l : List Slot} {Γ : Declarations} {before after : List ℕ} {tag m w : ℕ} {k : Kind} {n : TreeNode}
    → j * 3 + 3 ≤ length before → Puts at.context a tag k m w → Operand text a b tag n → after ≡ with_slot before j (kind_number k) m w
    → TypesNode at n l Γ j before after (Ok (record { count = j + 1; size = at.size }))
unfolding step bit
constant_on room number is_number e = node_put e room refl
constant_on room float_number is_float e = node_put e room refl
constant_on room current_mask is_mask e = node_put e room refl
constant_on room yes is_true e = node_put e room refl
constant_on room no is_false e = node_put e room refl

-- A leaf of another tag is a name.
pub a_name_left : {text : List ℕ} {a b tag : ℕ} {n : TreeNode} → Operand text a b tag n → (tag ≡ 1 → ⊥) → (tag ≡ 3 → ⊥) → (tag ≡ 24 → ⊥) → (tag ≡ 25 → ⊥) → (tag ≡ 23 → ⊥) → Operand text a b 2 n
a_name_left is_number p f q r s = absurd (p refl)
a_name_left is_float p f q r s = absurd (f refl)
a_name_left (is_name x y) p f q r s = is_name x y
a_name_left is_mask p f q r s = absurd (s refl)
a_name_left is_true p f q r s = absurd (q refl)
a_name_left is_false p f q r s = absurd (r refl)

pub name_on : {text : List ℕ} {at : Point} {a b j : ℕ} {l : List Slot} {Γ : Declarations} {before after : List ℕ} {r : Stage} {n : TreeNode}
    → Operand text a b 2 n → TypesNode at (a_name a (spelled text a b)) [] Γ j before after r → TypesNode at n l Γ j before after r
unfolding step
name_on {a = a} {b = b} (is_name {x} s e) t =
    let z : b - a ≡ length x = rw e (add-sub_cancel_left a (length x)) in
    record { is = t.is ∙ rw (z, s.is); on = t.on }

pub name_within : {text : List ℕ} {a b : ℕ} {n : TreeNode} → Operand text a b 2 n → Spans text a b
name_within (is_name s e) = record { order = omega arith; inside = omega (arith, s.inside) }

-- ---- a node
module _ {text tree : List ℕ} {i h : ℕ} {n : TreeNode} (a : NodeAt text tree i h n) where
  -- An operator has operands; a binary one has two.
  pub one_operand : 48 ≤ get_or tree i 0 → 1 ≤ h
  unfolding arity
  one_operand l = go (class n) a.is.tag_is a.operands
    where
      go : {n : TreeNode} → Class n → node_tag n ≡ get_or tree i 0 → arity n ≤ h → 1 ≤ h
      go (leaf n s e) q o = absurd (omega arith)
      go unary q o = o
      go binary q o = omega arith

  pub two_operands : 48 ≤ get_or tree i 0 → get_or tree i 0 < 128 → 2 ≤ h
  two_operands l u = omega (arith, arity_2 n a.is.tag_is l u, a.operands)

  -- A node of a lower tag has none.
  pub leaf_alone : get_or tree i 0 < 48 → arity n ≡ 0
  leaf_alone l = sym (arity_0 n a.is.tag_is l)

  pub no_operands : get_or tree i 0 < 48 → ThereIs (IsLeaf text (get_or tree i 0) (get_or tree (i + 1) 0) (get_or tree (i + 2) 0))
  no_operands l = record { the = n; is = record { is = a.is; alone = leaf_alone l } }

  -- Behind the stack there is room for it.
  pub leaf_room : (stack : List ℕ) → get_or tree i 0 < 48 → stack_limit * 3 ≤ length stack → h * 3 + 3 ≤ length stack
  leaf_room stack l room = omega (arith, arity_0 n a.is.tag_is l, a.fits)

-- A node is put where its first operand stood, a leaf where the stack ended.
pub leaf_node : {at : Point} {h : ℕ} {Γ : Declarations} {before after : List ℕ} {r : Stage} {n : TreeNode} → arity n ≡ 0 → TypesNode at n (slots before h) Γ h before after r → TypesNode at n (slots before h) Γ (h - arity n) before after r
leaf_node {h = h} {n = n} e f = let z : h - arity n ≡ h = omega arith in rw z f

module _ {text : List ℕ} {at : Point} {p q t b h : ℕ} {Γ : Declarations} {before after : List ℕ} {r : Stage} (ep : p ≡ q) where
  pub unary_node : {n : TreeNode} {u : Unary} → IsNode text t q b n → 128 ≤ t → 1 ≤ h → u ≡ sign_of t → TypesUnary at u p (h - 1) before after r → TypesNode at n (slots before h) Γ (h - arity n) before after r
  unfolding node_tag node_first arity
  unary_node {n} {u} i l s eu f = go (class n) i.tag_is i.first_is
    where
      go : {n : TreeNode} → Class n → node_tag n ≡ t → node_first n ≡ q → TypesNode at n (slots before h) Γ (h - arity n) before after r
      go (leaf n s e) g w = absurd (omega arith)
      go (unary {o = o}) g w =
          let same : u ≡ o = eu ∙ rw (← g) (sign_back o) in
          let all : h - 1 + 1 ≡ h = omega arith in
          rw (w, ← ep) (rw (same, all) at (f Γ))
      go (binary {o = o}) g w = absurd (omega (arith, (binary_range o).1))

  pub binary_node : {n : TreeNode} {u : Binary} → IsNode text t q b n → 48 ≤ t → t < 128 → 2 ≤ h → u ≡ operator_of t → TypesBinary at u p (h - 2) before after r → TypesNode at n (slots before h) Γ (h - arity n) before after r
  unfolding node_tag node_first arity
  binary_node {n} {u} i l d s eu f = go (class n) i.tag_is i.first_is
    where
      go : {n : TreeNode} → Class n → node_tag n ≡ t → node_first n ≡ q → TypesNode at n (slots before h) Γ (h - arity n) before after r
      go (leaf n s e) g w = absurd (omega arith)
      go (unary {o = o}) g w = absurd (omega (arith, unary_low o))
      go (binary {o = o}) g w =
          let same : u ≡ o = eu ∙ rw (← g) (operator_back o) in
          let all : h - 2 + 2 ≡ h = omega arith in
          rw (w, ← ep) (rw (same, all) at (f Γ))

-- ---- a declaration
module _ {text T U : List ℕ} {at : Point} {place end n : ℕ} {k : Kind} where
  pub declare_9 : false ≡ fits at.context n → DeclaresName at k n place end text T U (Err (record { refusal = WrongLength; place = place }))
  unfolding number_out declare_name
  declare_9 e = record { is = rw (← e); on = tt }

  module _ (e : true ≡ fits at.context n) where
    pub declare_6 : {r : Found ℕ} → Finds text T at.count place end r → true ≡ is_some r → DeclaresName at k n place end text T U (Err (record { refusal = AlreadyOpen; place = place }))
    unfolding number_out declare_name number_of
    declare_6 {r = Some i} f h = record { is = rw (← e, ← f.is); on = tt }
    declare_6 {r = None} f h = absurd (true≢false h)

    module _ {r : Found ℕ} (f : Finds text T at.count place end r) (h : false ≡ is_some r) where
      pub declare_11 : declaration_limit ≤ at.count → DeclaresName at k n place end text T U (Err (record { refusal = TooManyDeclarations; place = place }))
      unfolding number_out declare_name
      declare_11 l = record { is = rw (← e, found_none f h, length-entries text T at.count, le-ltb at.count declaration_limit l); on = tt }

      pub declare_ok : {a : ℕ} → at.count < declaration_limit → Rows text T at.count → Spans text place end → ListedLength n → a ≡ next_multiple (end_of T at.count) (whole k n) → U ≡ with_row T at.count place end (kind_number k) n a
          → DeclaresName at k n place end text T U (Ok (record { count = at.count + 1; size = at.size }))
      unfolding number_out declare_name
      declare_ok l s w m ea eu =
          let more : Added T U at.count place end (kind_number k) n (next_multiple (end_of T at.count) (whole k n)) = rw (eu, ea) (added T at.count place end (kind_number k) n (next_multiple (end_of T at.count) (whole k n)) (omega (arith, s.room))) in
          record {
            is = rw (added_entries text k more, ← e, found_none f h, length-entries text T at.count, lt-ltb at.count declaration_limit l) (rw (length-entries text T at.count));
            on = record { one_more = refl; size = refl; rows = added_rows text k more s l w m };
          }
