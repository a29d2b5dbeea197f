-- Typing an expression node by node over a stack is typing it as the definition does.
use Prim.Native.Nat.{ℕ, zero, suc, ◌+◌, ◌*◌, ◌-◌, ◌≤◌, ◌<◌}
use native.Mathlib.Omega.{arith}
use native.Mathlib.Nat.{add-zero, le-max_left, le-max_right}
use mathlib.Core.Path.{◌≡◌, refl, sym, ap, ◌∙◌}
use mathlib.Core.Bool.{Bool, true, false}
use mathlib.Core.List.{List, [], ◌∷◌, ◌++◌, append-nil, append_assoc}
use lib.ListN.{length, get_or, take, drop, length-append, length-drop}
use lib.Seq.{sets, length-sets, sets-eq, get_or-drop, drop-drop, take_at, length-take-le}
use Rattle.meaning.specs.declared.Kind.{Kind}
use Rattle.meaning.specs.declared.Refusal.{Refusal}
use Rattle.meaning.specs.declared.Refusal.TheVariants.{WrongKind, WrongLength}
use Rattle.meaning.specs.Codes.{Out, ok, refused, after, ◌>>◌, give, check}
use Rattle.meaning.specs.declared.Unary.{Unary}
use Rattle.meaning.specs.declared.Binary.{Binary}
use Rattle.meaning.specs.Tree.{Name, kind_number, ◌one_of◌, table, unary_table, Expr, number, float_number, boolean, name, current_mask, unary, binary}
use Rattle.meaning.specs.Program as P
use Rattle.meaning.specs.Program.{constant}
use Rattle.meaning.specs.Memory.{Declarations}
use Rattle.meaning.specs.Typing as T
use Rattle.meaning.specs.Typing.{Types, typed}
use Rattle.layout.specs.Words.{unit, binary_tag, unary_tag, flat}
use Rattle.layout.specs.Code.{code_words}
use Rattle.layout.specs.Stack.{slot_kind, slot_lanes, slot_word}
use Rattle.layout.specs.Table.{kind_of, entries}
use Rattle.layout.specs.Stage.{Stage}
use Rattle.layout.specs.declared.Reached.{Reached}
use Rattle.layout.specs.declared.Refused.{Refused}
use Rattle.std.specs.declared.result.Result.TheVariants.{Ok, Err}
use Rattle.laws.specs.Sound.{Spelled, stack as height, stack_limit, InText, of_number, of_float, of_boolean, of_name, of_mask, of_unary, of_binary}
use Rattle.typing_expressions.specs.declared.Point.{Point}
use Rattle.typing_expressions.specs.Nodes.{TreeNode, a_number, a_float, a_boolean, a_name, a_mask, a_unary, a_binary, nodes, node_tag, node_first, node_second, nodes_words, code_tag, code_place, arity, Entry, entry_at, Slot, step, slots, NodeAt}
use Rattle.typing_expressions.specs.Answers.{ThereIs, Expression, entry_out, TypesNode, TypesAt, CodesAs, CodesAt, typed_out, TypingRoom, TypesAs, TypesExpression}

-- ---- nodes and words
words_append : (l m : List TreeNode) → nodes_words (l ++ m) ≡ nodes_words l ++ nodes_words m
unfolding nodes_words
words_append [] m = refl
words_append (n ∷ l) m = rw (words_append l m)

flat-nodes : (e : Expr) → flat e ≡ nodes_words (nodes e)
unfolding flat nodes nodes_words node_tag node_first node_second
flat-nodes (number n) = refl
flat-nodes (float_number n) = refl
flat-nodes (boolean b) = refl
flat-nodes (name p x) = refl
flat-nodes current_mask = refl
flat-nodes (unary p o e) = rw (flat-nodes e, words_append (nodes e) (a_unary p o ∷ []))
flat-nodes (binary p o a b) = rw (flat-nodes a, flat-nodes b, words_append (nodes a) (nodes b ++ (a_binary p o ∷ [])), words_append (nodes b) (a_binary p o ∷ []))

-- ---- the stack suffices: from a height h on, nodes find their operands and leave no more than fits
pub data Stacked (text : List ℕ) : List TreeNode → ℕ → Type 0 where
  none : {h : ℕ} → Stacked text [] h
  more : {n : TreeNode} {l : List TreeNode} {h : ℕ} → ((p : ℕ) (x : Name) → n ≡ a_name p x → Spelled text p x) → arity n ≤ h → h + 1 - arity n ≤ stack_limit → Stacked text l (h + 1 - arity n) → Stacked text (n ∷ l) h

some : (e : Expr) → 1 ≤ height e
unfolding height
some (number n) = omega arith
some (float_number n) = omega arith
some (boolean b) = omega arith
some (name p x) = omega arith
some current_mask = omega arith
some (unary p o a) = some a
some (binary p o a b) = omega (arith, le-max_right (height a) (suc (height b)))

module _ {text : List ℕ} where
  one : (n : TreeNode) {l : List TreeNode} (h g : ℕ) → ((p : ℕ) (x : Name) → n ≡ a_name p x → Spelled text p x) → g ≡ h + 1 - arity n → arity n ≤ h → g ≤ stack_limit → Stacked text l g → Stacked text (n ∷ l) h
  one n {l} h g s e a b f = more {l = l} s a (rw (← e) b) (rw (← e) f)

  -- A node without operands makes the stack one higher.
  leaf : (n : TreeNode) {l : List TreeNode} (h : ℕ) → ((p : ℕ) (x : Name) → n ≡ a_name p x → Spelled text p x) → arity n ≡ 0 → h + 1 ≤ stack_limit → Stacked text l (h + 1) → Stacked text (n ∷ l) h
  leaf n h s e b f = one n h (h + 1) s (omega arith) (omega arith) b f

  no_name : (n : TreeNode) → ((p : ℕ) (x : Name) → n ≡ a_name p x → ◌≡◌ {A = ℕ} 0 1) → (p : ℕ) (x : Name) → n ≡ a_name p x → Spelled text p x
  no_name n h p x q = let z = h p x q in absurd (omega arith)

  fits-nodes : {e : Expr} → InText text e → (h : ℕ) → h + height e ≤ stack_limit → (l : List TreeNode) → Stacked text l (h + 1) → Stacked text (nodes e ++ l) h
  unfolding nodes height arity
  fits-nodes (of_number {n} m) h b l f = leaf (a_number n) h (no_name (a_number n) (λ p x q. cc)) refl b f
  fits-nodes (of_float {n} m) h b l f = leaf (a_float n) h (no_name (a_float n) (λ p x q. cc)) refl b f
  fits-nodes (of_boolean {b}) h r l f = leaf (a_boolean b) h (no_name (a_boolean b) (λ p x q. cc)) refl r f
  fits-nodes (of_name {p} {x} s) h b l f = leaf (a_name p x) h (λ q y z. same q y z (cc) (cc)) refl b f
    where
      same : (q : ℕ) (y : Name) → a_name p x ≡ a_name q y → p ≡ q → x ≡ y → Spelled text q y
      same q y z i j = rw (← i, ← j) s
  fits-nodes of_mask h b l f = leaf a_mask h (no_name a_mask (λ p x q. cc)) refl b f
  fits-nodes (of_unary {p} {o} {a} i m) h b l f =
      rw (append_assoc (nodes a) (a_unary p o ∷ []) l)
      (fits-nodes m h b (a_unary p o ∷ l) (one (a_unary p o) (h + 1) (h + 1) (no_name (a_unary p o) (λ p x q. cc)) (omega arith) (omega arith) (omega (arith, some a)) f))
  fits-nodes (of_binary {p} {o} {a} {b} i m n) h r l f =
      rw (append_assoc (nodes a) (nodes b ++ (a_binary p o ∷ [])) l, append_assoc (nodes b) (a_binary p o ∷ []) l)
      (fits-nodes m h (omega (arith, le-max_left (height a) (suc (height b)))) (nodes b ++ (a_binary p o ∷ l))
      (fits-nodes n (h + 1) (omega (arith, le-max_right (height a) (suc (height b)))) (a_binary p o ∷ l)
      (one (a_binary p o) (h + 1 + 1) (h + 1) (no_name (a_binary p o) (λ p x q. cc)) (omega arith) (omega arith) (omega (arith, le-max_right (height a) (suc (height b)))) f)))

-- ---- the walk
-- On the way: the kinds and lengths on the stack, and the code words so far.
pub record Way : Type 0 where
  pub on : List Slot
  pub words : List ℕ

abbrev pub way : List Slot → List ℕ → Way
way l w = record { on = l; words = w }

abbrev pub pushed : TreeNode → Entry → Way → Way
pushed n x v = way ((x.kind, x.lanes) ∷ drop (arity n) v.on) (v.words ++ unit (code_tag n) x.word (code_place n))

abbrev pub entered : T.Typed → Way → Way
entered a v = way ((a.kind, a.lanes) ∷ v.on) (v.words ++ code_words a.code)

pub run : ℕ → List TreeNode → Way → Types Way
run C [] v Γ = ok v Γ
run C (n ∷ l) v Γ = after (step C n v.on Γ) (λ x Δ. run C l (pushed n x v) Δ)

module _ {S A B D : Type 0} where
  pub after-after : (o : Out S A) (f : A → S → Out S B) (g : B → S → Out S D) → after (after o f) g ≡ after o (λ a s. after (f a s) g)
  after-after (ok a s) f g = refl
  after-after (refused c p) f g = refl

module _ {S A B : Type 0} where
  pub after_same : (o : Out S A) (f g : A → S → Out S B) → ((a : A) (s : S) → f a s ≡ g a s) → after o f ≡ after o g
  after_same (ok a s) f g h = h a s
  after_same (refused c p) f g h = refl

-- What `typed` makes of operands that are typed.
abbrev unary_typed : ℕ → Unary → T.Typed → Types T.Typed
unary_typed p o a = check (a.kind one_of (unary_table o).1) WrongKind p >> give (record { code = P.one p a.kind o a.code; kind = a.kind; lanes = a.lanes })

abbrev binary_typed : ℕ → Binary → T.Typed → T.Typed → Types T.Typed
binary_typed p o a b =
    check (T.accepts (table o).1 a.kind b.kind) WrongKind p
    >> (check (T.match a.lanes b.lanes) WrongLength p
    >> give (record { code = P.two p a.kind o a.code b.code; kind = T.gives_kind (table o).2 a.kind; lanes = T.joined a.lanes b.lanes }))

module _ (C p : ℕ) where
  unary_on : (o : Unary) (l : List TreeNode) (v : Way) (a : T.Typed) (Γ : Declarations) → run C (a_unary p o ∷ l) (entered a v) Γ ≡ after (unary_typed p o a Γ) (λ t Δ. run C l (entered t v) Δ)
  unfolding run step arity code_tag code_place code_words
  unary_on o l v a Γ = go (a.kind one_of (unary_table o).1)
    where
      x : Entry
      x = record { kind = a.kind; lanes = a.lanes; word = kind_number a.kind }

      go : (b : Bool) → after ((check b WrongKind p >> give x) Γ) (λ x Δ. run C l (pushed (a_unary p o) x (entered a v)) Δ)
          ≡ after ((check b WrongKind p >> give (record { code = P.one p a.kind o a.code; kind = a.kind; lanes = a.lanes })) Γ) (λ t Δ. run C l (entered t v) Δ)
      go true = rw (append_assoc v.words (code_words a.code) (unit (unary_tag o) (kind_number a.kind) p))
      go false = refl

  binary_on : (o : Binary) (l : List TreeNode) (v : Way) (a b : T.Typed) (Γ : Declarations) → run C (a_binary p o ∷ l) (entered b (entered a v)) Γ ≡ after (binary_typed p o a b Γ) (λ t Δ. run C l (entered t v) Δ)
  unfolding run step arity code_tag code_place code_words
  binary_on o l v a b Γ = go (T.accepts (table o).1 a.kind b.kind) (T.match a.lanes b.lanes)
    where
      k : Kind
      k = T.gives_kind (table o).2 a.kind

      n : ℕ
      n = T.joined a.lanes b.lanes

      go : (s t : Bool) → after ((check s WrongKind p >> (check t WrongLength p >> give (record { kind = k; lanes = n; word = kind_number a.kind }))) Γ) (λ x Δ. run C l (pushed (a_binary p o) x (entered b (entered a v))) Δ)
          ≡ after ((check s WrongKind p >> (check t WrongLength p >> give (record { code = P.two p a.kind o a.code b.code; kind = k; lanes = n }))) Γ) (λ t Δ. run C l (entered t v) Δ)
      go true true =
          let u = unit (binary_tag o) (kind_number a.kind) p in
          rw (append_assoc (v.words ++ code_words a.code) (code_words b.code) u, append_assoc v.words (code_words a.code) (code_words b.code ++ u))
      go true false = refl
      go false t = refl

module _ (C : ℕ) where
  walk : (e : Expr) (l : List TreeNode) (v : Way) (Γ : Declarations) → run C (nodes e ++ l) v Γ ≡ after (typed C e Γ) (λ a Δ. run C l (entered a v) Δ)
  unfolding run nodes typed step arity code_tag code_place code_words
  walk (number n) l v Γ = refl
  walk (float_number n) l v Γ = refl
  walk (boolean b) l v Γ = refl
  walk (name p x) l v Γ = simp after-after
  walk current_mask l v Γ = refl
  walk (unary p o e) l v Γ =
      rw (append_assoc (nodes e) (a_unary p o ∷ []) l)
      (walk e (a_unary p o ∷ l) v Γ ∙ after_same (typed C e Γ) _ _ (λ a Δ. unary_on C p o l v a Δ) ∙ sym (after-after (typed C e Γ) _ _))
  walk (binary p o e e') l v Γ =
      rw (append_assoc (nodes e) (nodes e' ++ (a_binary p o ∷ [])) l, append_assoc (nodes e') (a_binary p o ∷ []) l)
      (walk e (nodes e' ++ (a_binary p o ∷ l)) v Γ ∙ after_same (typed C e Γ) _ _ (λ a Δ. walk e' (a_binary p o ∷ l) (entered a v) Δ
      ∙ after_same (typed C e' Δ) _ _ (λ b Θ. binary_on C p o l v a b Θ) ∙ sym (after-after (typed C e' Δ) _ _)) ∙ sym (after-after (typed C e Γ) _ _))

  -- The whole expression.
  walked : (e : Expr) (v : Way) (Γ : Declarations) → run C (nodes e) v Γ ≡ after (typed C e Γ) (λ a Δ. ok (entered a v) Δ)
  unfolding run
  walked e v Γ = rw (append-nil (nodes e)) at (walk e [] v Γ)

-- ---- the stack in its buffer
module _ (st : List ℕ) where
  slots-drop : (a h : ℕ) → a ≤ h → drop a (slots st h) ≡ slots st (h - a)
  unfolding slots
  slots-drop zero h q = let e : h ≡ h - 0 = omega arith in ap (slots st) e
  slots-drop (suc a) zero q = absurd (omega arith)
  slots-drop (suc a) (suc h) q = let e : h - a ≡ suc h - suc a = omega arith in slots-drop a h (omega arith) ∙ ap (slots st) e

-- ---- the loop
-- The nodes from word i on, over a stack of height h: the first of them, and the others.
pub record NodeHere (text tree : List ℕ) (i h : ℕ) (rest : List TreeNode) : Type 0 where
  pub node : TreeNode
  pub others : List TreeNode
  pub is : rest ≡ node ∷ others
  pub at : NodeAt text tree i h node
  pub then : drop (i + 3) tree ≡ nodes_words others
  pub fits : Stacked text others (h + 1 - arity node)

here : {text tree : List ℕ} {i h : ℕ} {rest : List TreeNode} → drop i tree ≡ nodes_words rest → Stacked text rest h → i < length tree → NodeHere text tree i h rest
unfolding nodes_words
here {text} {tree} {i} e none l = absurd (omega (arith, length-drop i tree, ap length e))
here {text} {tree} {i} {h} e (more {n} {l = r} s a b f) l = record {
  node = n;
  others = r;
  is = refl;
  at = record {
    inside = omega (arith, length-drop i tree, ap length e);
    is = record {
      tag_is = sym (ap (λ w. get_or w 0 0) e) ∙ get_or-drop i tree 0 0 ∙ ap (λ j. get_or tree j 0) (add-zero i);
      first_is = sym (ap (λ w. get_or w 1 0) e) ∙ get_or-drop i tree 1 0;
      second_is = sym (ap (λ w. get_or w 2 0) e) ∙ get_or-drop i tree 2 0;
      spells = s;
    };
    operands = a;
    fits = b;
  };
  then = sym (drop-drop 3 i tree) ∙ ap (drop 3) e;
  fits = f;
}

-- Before word i the expression e was typed: the rest of the walk is that of the nodes from there on.
pub record TypingFrom (text tree : List ℕ) (Γ : Declarations) (at : Point) (before code stack : List ℕ) (i h : ℕ) (e : Expr) : Type 0 where
  pub rest : List TreeNode
  pub from_here : drop i tree ≡ nodes_words rest
  pub fits : Stacked text rest h
  pub on : run at.context (nodes e) (way [] before) Γ ≡ run at.context rest (way (slots stack h) (take (at.size + i) code)) Γ

pub going_start : {text tree : List ℕ} {e : Expr} → Expression text tree e → (Γ : Declarations) (at : Point) (code stack : List ℕ) → TypingFrom text tree Γ at (take at.size code) code stack 0 0 e
unfolding slots
going_start {text} {tree} {e} x Γ at code stack = record {
  rest = nodes e;
  from_here = x.is ∙ flat-nodes e;
  fits = rw (append-nil (nodes e)) at (fits-nodes x.sound.in_text 0 (omega (arith, x.sound.fits)) [] none);
  on = rw (add-zero at.size);
}

module _ {S A B : Type 0} (f : A → B) where
  pub after_refused : (o : Out S A) {c : Refusal} {p : ℕ} → after o (λ a s. ok (f a) s) ≡ refused c p → o ≡ refused c p
  after_refused (ok a s) h = absurd (let z : ◌≡◌ {A = ℕ} 0 1 = cc in omega arith)
  after_refused (refused c p) h = cc

  pub after_ok : (o : Out S A) {b : B} {s : S} → after o (λ a s. ok (f a) s) ≡ ok b s → (a : A) × (o ≡ ok a s) × (f a ≡ b)
  after_ok (ok a s) h = (a, cc, cc)
  after_ok (refused c p) h = absurd (let z : ◌≡◌ {A = ℕ} 0 1 = cc in omega arith)

module _ {text tree : List ℕ} {Γ : Declarations} {at : Point} {before code stack : List ℕ} {i h : ℕ} {e : Expr} (g : TypingFrom text tree Γ at before code stack i h e) where
  pub going_here : i < length tree → NodeHere text tree i h g.rest
  going_here l = here g.from_here g.fits l

  module _ {r : Stage} {stack' : List ℕ} (x : NodeHere text tree i h g.rest) (s : TypesNode at x.node (slots stack h) Γ (h - arity x.node) stack stack' r) where
    stepped : run at.context (nodes e) (way [] before) Γ
        ≡ after (entry_out r (entry_at stack' (h - arity x.node)) Γ) (λ y Δ. run at.context x.others (pushed x.node y (way (slots stack h) (take (at.size + i) code))) Δ)
    unfolding run
    stepped = g.on ∙ rw x.is (rw s.is)

  module _ {stack' : List ℕ} (x : NodeHere text tree i h g.rest) where
    pub going_refused : {why : Refused} (code' stack'' : List ℕ) (end : ℕ) → TypesNode at x.node (slots stack h) Γ (h - arity x.node) stack stack' (Err why)
        → TypesAs before code' stack'' at.count end Γ (Err why) (typed at.context e Γ)
    unfolding entry_out typed_out
    going_refused code' stack'' end s = record {
      becomes = constant 0;
      is = sym (after_refused (λ a. entered a (way [] before)) (typed at.context e Γ) (sym (walked at.context e (way [] before) Γ) ∙ stepped x s));
      on = tt;
    }

    pub going_next : {reached : Reached} {t w z : ℕ} → TypesNode at x.node (slots stack h) Γ (h - arity x.node) stack stack' (Ok reached)
        → t ≡ code_tag x.node → w ≡ slot_word stack' (reached.count - 1) → z ≡ code_place x.node → at.size + i + 3 ≤ length code
        → TypingFrom text tree Γ at before (sets code (at.size + i) (unit t w z)) stack' (i + 3) reached.count e
    unfolding entry_out slots
    going_next {reached} {t} {w} {z} s et ew ez room = record {
      rest = x.others;
      from_here = x.then;
      fits = rw up x.fits;
      on = stepped x s ∙ rw (slots-drop stack (arity x.node) h x.at.operands, ← s.on.under, ← et, ← ez, ← its_word)
          (rw (written, top));
    }
      where
        m : ℕ
        m = reached.count

        up : m ≡ h + 1 - arity x.node
        up = omega (arith, s.on.height, x.at.operands)

        its_word : w ≡ slot_word stack' (h - arity x.node)
        its_word = let e : m - 1 ≡ h - arity x.node = omega (arith, s.on.height) in rw e at ew

        top : m ≡ suc (h - arity x.node)
        top = omega (arith, s.on.height)

        three : at.size + (i + 3) ≡ at.size + i + 3
        three = omega arith

        written : take (at.size + (i + 3)) (sets code (at.size + i) (unit t w z)) ≡ take (at.size + i) code ++ unit t w z
        written = rw (three, sets-eq (unit t w z) code (at.size + i) room)
            (take_at (take (at.size + i) code ++ unit t w z) (drop (at.size + i + 3) code) (at.size + i + 3)
            (length-append (take (at.size + i) code) (unit t w z) ∙ rw (length-take-le (at.size + i) code (omega arith))))

  ended : length tree ≤ i → run at.context (nodes e) (way [] before) Γ ≡ ok (way (slots stack h) (take (at.size + i) code)) Γ
  unfolding run nodes_words
  ended l = go g.rest g.from_here g.on
    where
      go : (m : List TreeNode) → drop i tree ≡ nodes_words m → run at.context (nodes e) (way [] before) Γ ≡ run at.context m (way (slots stack h) (take (at.size + i) code)) Γ
          → run at.context (nodes e) (way [] before) Γ ≡ ok (way (slots stack h) (take (at.size + i) code)) Γ
      go [] q o = o
      go (n ∷ m) q o = absurd (omega (arith, length-drop i tree, ap length q))

  pub going_end : i ≡ length tree → TypesAs before code stack at.count (at.size + length tree) Γ (Ok (record { count = at.count; size = at.size + length tree })) (typed at.context e Γ)
  unfolding typed_out slots
  going_end l =
      let a = after_ok (λ a. entered a (way [] before)) (typed at.context e Γ) (sym (walked at.context e (way [] before) Γ) ∙ ended (omega arith)) in
      let s : (a.0.kind, a.0.lanes) ∷ [] ≡ slots stack h = ap (λ v. v.on) a.2 in
      let top = only h s in
      record {
        becomes = a.0.code;
        is = rw (← top.0, ← top.1) (sym a.1);
        on = record { none_new = refl; ends = refl; words = ap (λ j. take (at.size + j) code) (sym l) ∙ sym (ap (λ v. v.words) a.2) };
      }
    where
      only : {b : Kind} {m : ℕ} (h : ℕ) → (b, m) ∷ [] ≡ slots stack h → (b ≡ kind_of (slot_kind stack 0)) × (m ≡ slot_lanes stack 0)
      only zero q = absurd (omega (arith, ap length q))
      only {b} {m} (suc zero) q = let p : ◌≡◌ {A = Slot} (b, m) (kind_of (slot_kind stack 0), slot_lanes stack 0) = cc in (ap (λ s. s.0) p, ap (λ s. s.1) p)
      only (suc (suc h)) q = absurd (omega (arith, ap length q))

pub limit : stack_limit ≡ 232
unfolding stack_limit
limit = refl

-- ---- the loop, for every expression that the words may be of
pub record Walking (text tree table : List ℕ) (at : Point) (code₀ stack₀ code stack : List ℕ) (i h : ℕ) : Type 0 where
  pub room : TypingRoom text tree table code₀ stack₀ at
  pub some : ThereIs (Expression text tree)
  pub code_long : length code ≡ length code₀
  pub stack_long : length stack ≡ length stack₀
  pub inside : i ≤ length tree
  pub high : h ≤ stack_limit
  pub on : (e : Expr) → Expression text tree e → TypingFrom text tree (entries text table at.count) at (take at.size code₀) code stack i h e

pub walking_start : {text tree table code stack : List ℕ} {at : Point} → TypingRoom text tree table code stack at → ThereIs (Expression text tree) → Walking text tree table at code stack code stack 0 0
walking_start r s = record {
  room = r;
  some = s;
  code_long = refl;
  stack_long = refl;
  inside = omega arith;
  high = omega arith;
  on = λ e x. going_start x _ _ _ _;
}

-- What is known of the buffers once a node was typed and the stack is m high.
pub record NodeRoom (tree code stack : List ℕ) (size i m : ℕ) : Type 0 where
  pub words : i + 3 ≤ length tree
  pub unit : size + i + 3 ≤ length code
  pub some : 1 ≤ m
  pub slot : (m - 1) * 3 + 3 ≤ length stack
  pub high : m ≤ stack_limit

module _ {text tree table : List ℕ} {at : Point} {code₀ stack₀ code stack : List ℕ} {i h : ℕ} (g : Walking text tree table at code₀ stack₀ code stack i h) where
  pub walking_end : i ≡ length tree → TypesExpression (typed at.context) at text tree table code₀ code stack (Ok (record { count = at.count; size = at.size + length tree }))
  walking_end l e x = going_end (g.on e x) l

  module _ (l : i < length tree) where
    its : ThereIs (NodeAt text tree i h)
    its = let x = going_here (g.on g.some.the g.some.is) l in record { the = x.node; is = x.at }

    pub walking_node : ThereIs (NodeAt text tree i h)
    walking_node = its

    pub walking_refused : {why : Refused} {stack' : List ℕ} (code' stack'' : List ℕ) → TypesAt at i h text tree table stack stack' (Err why)
        → TypesExpression (typed at.context) at text tree table code₀ code' stack'' (Err why)
    walking_refused code' stack'' s e x = let y = going_here (g.on e x) l in going_refused (g.on e x) y code' stack'' (at.size + length tree) (s y.node y.at)

    module _ {reached : Reached} {stack' : List ℕ} (s : TypesAt at i h text tree table stack stack' (Ok reached)) (same : length stack' ≡ length stack) where
      pub walking_room : NodeRoom tree code stack' at.size i reached.count
      walking_room =
          let n = its in
          let up = (s n.the n.is).on.height in
          record {
            words = n.is.inside;
            unit = omega (arith, n.is.inside, g.room.code_room, g.code_long);
            some = omega arith;
            slot = omega (arith, n.is.operands, n.is.fits, g.room.stack_room, g.stack_long, limit);
            high = omega (arith, n.is.operands, n.is.fits);
          }

      pub walking_next : {t w v : ℕ} {code' : List ℕ} → CodesAs (get_or tree i 0) t → w ≡ slot_word stack' (reached.count - 1) → CodesAt tree i v → code' ≡ sets code (at.size + i) (unit t w v)
          → Walking text tree table at code₀ stack₀ code' stack' (i + 3) reached.count
      walking_next {t} {w} {v} {code'} ft ew fv ec =
          let room = walking_room in
          record {
            room = g.room;
            some = g.some;
            code_long = rw ec (length-sets code (at.size + i) (unit t w v) ∙ g.code_long);
            stack_long = same ∙ g.stack_long;
            inside = room.words;
            high = room.high;
            on = λ e x.
                let y = going_here (g.on e x) l in
                rw ec (going_next (g.on e x) y (s y.node y.at) (ft y.node y.at.is.tag_is) ew (fv y.node y.at.is.tag_is y.at.is.first_is) room.unit);
          }
