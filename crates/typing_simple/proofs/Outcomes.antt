-- What an answer says of the outcome it stands for, and what typing makes of outcomes one after another.
use Prim.Native.Nat.{ℕ, ◌≤◌, ◌<◌}
use native.Mathlib.Omega.{arith}
use mathlib.Core.Path.{◌≡◌, refl, sym, ap, ◌∙◌}
use mathlib.Core.Logic.{◌⊎◌, inl, inr}
use mathlib.Core.Bool.{or-true, Bool, true, false, not, ◌||◌, true≢false}
use mathlib.Core.List.{List, []}
use mathlib.Core.Option.{Option, none, some}
use lib.Dec.{eqb}
use lib.ListN.{length}
use denote.Enum.Bare.{sameb}
use borrow.Author.Tests.{eq-eqb, ne_eqb}
use Rattle.std.proofs.lemmas.Bool.{not-true, not-false}
use Rattle.meaning.specs.contracts.Kind.{the_type}
use Rattle.meaning.specs.declared.Kind.{Kind}
use Rattle.meaning.specs.declared.Kind.TheVariants.{Bool as bool}
use Rattle.meaning.specs.declared.Refusal.TheVariants.{WrongKind, WrongLength, LengthOneTarget, LengthNotListed}
use Rattle.meaning.specs.Codes.{Out, ok, refused, after}
use Rattle.meaning.specs.Tree.{Name, kind_number, same_kind, Expr, Block, assign}
use Rattle.meaning.specs.Program.{constant, Program, nothing, step, put}
use Rattle.meaning.specs.Memory.{Declared, Declarations}
use Rattle.meaning.specs.Typing as T
use Rattle.meaning.specs.Typing.{typed, typed_condition, storable, variable_named, declare_name, typed_declaration, typed_statement, good_block}
use Rattle.layout.specs.Words.{block_length, block_place}
use Rattle.layout.specs.Stack.{slot_kind, slot_lanes, slot_word, with_slot}
use Rattle.layout.specs.Table.{kind_of, entries}
use Rattle.typing_expressions.specs.declared.Point.{Point}
use Rattle.typing_expressions.specs.Nodes.{Entry, a_name, step as node_step}
use Rattle.typing_expressions.specs.Answers.{entry_out, TypesNode, typed_out, TypesAs}
use Rattle.typing_expressions.proofs.Tags.{same_is}
use Rattle.typing_expressions.proofs.Slots.{entry_put}
use Rattle.typing_expressions.proofs.Walk.{after-after, after_same, after_refused, after_ok}
use Rattle.typing_simple.specs.declared.Target.{Target}
use Rattle.layout.specs.declared.Reached.{Reached}
use Rattle.layout.specs.declared.Refused.{Refused}
use Rattle.std.specs.declared.result.Result.TheVariants.{Ok, Err}
use Rattle.typing_simple.specs.Shapes.{listed_block}
use Rattle.typing_simple.specs.Answers.{length_or, valued, walked_out, WalkedTo, Walks}
use Rattle.typing_simple.proofs.Shapes.{length_good}

-- ---- answers
module _ {before code stack : List ℕ} {count end : ℕ} {Γ : Declarations} {o : Out Declarations T.Typed} where
  pub no_shows : {why : Refused} → o ≡ refused why.refusal why.place → TypesAs before code stack count end Γ (Err why) o
  unfolding typed_out
  no_shows e = record { becomes = constant 0; is = sym e; on = tt }

  pub shows_no : {why : Refused} → TypesAs before code stack count end Γ (Err why) o → o ≡ refused why.refusal why.place
  unfolding typed_out
  shows_no s = sym s.is

  pub shows_ok : {to : Reached} (s : TypesAs before code stack count end Γ (Ok to) o) → o ≡ ok (record { code = s.becomes; kind = kind_of (slot_kind stack 0); lanes = slot_lanes stack 0 }) Γ
  unfolding typed_out
  shows_ok s = sym s.is

module _ {text table before code : List ℕ} {count end : ℕ} {o : Out Declarations Program} where
  pub no_walks : {why : Refused} → o ≡ refused why.refusal why.place → Walks text table before code count end (Err why) o
  unfolding walked_out
  no_walks e = record { program = nothing; is = sym e; on = tt }

  pub on_walks : {to : Reached} {P : Program} → o ≡ ok P (entries text table to.count) → WalkedTo text table before code count end to.count to.size P → Walks text table before code count end (Ok to) o
  unfolding walked_out
  on_walks {P = P} e w = record { program = P; is = sym e; on = w }

  pub walks_no : {why : Refused} → Walks text table before code count end (Err why) o → o ≡ refused why.refusal why.place
  unfolding walked_out
  walks_no w = sym w.is

  pub walks_ok : {to : Reached} (w : Walks text table before code count end (Ok to) o) → o ≡ ok w.program (entries text table to.count)
  unfolding walked_out
  walks_ok w = sym w.is

-- ---- kinds
-- What the code's `!=` says of two kinds.
module _ (k l : Kind) {b : Bool} (e : b ≡ not (sameb the_type k l)) where
  pub kinds_differ : b ≡ true → same_kind k l ≡ false
  kinds_differ q = sym (same_is k l) ∙ not-true _ (sym e ∙ q)

  pub kinds_agree : b ≡ false → same_kind k l ≡ true
  kinds_agree q = sym (same_is k l) ∙ not-false _ (sym e ∙ q)

-- ---- a condition
module _ {before code stack : List ℕ} {count end : ℕ} {Γ : Declarations} (C p : ℕ) (e : Expr) where
  pub condition_no : {why : Refused} → TypesAs before code stack count end Γ (Err why) (typed C e Γ) → TypesAs before code stack count end Γ (Err why) (typed_condition C p e Γ)
  unfolding typed_condition
  condition_no s = no_shows (rw (shows_no s))

  module _ {to : Reached} (s : TypesAs before code stack count end Γ (Ok to) (typed C e Γ)) {k : Kind} (ek : k ≡ kind_of (slot_kind stack 0)) where
    pub condition_8 : same_kind k bool ≡ false → TypesAs before code stack count end Γ (Err (record { refusal = WrongKind; place = p })) (typed_condition C p e Γ)
    unfolding typed_condition
    condition_8 f = no_shows (rw (shows_ok s) (rw (← ek, f)))

    pub condition_ok : same_kind k bool ≡ true → TypesAs before code stack count end Γ (Ok to) (typed_condition C p e Γ)
    unfolding typed_condition typed_out
    condition_ok f = record { becomes = s.becomes; is = rw (shows_ok s) (rw (← ek, f)); on = s.on }

-- ---- a value for a target
-- A value of length n is stored in a target of length l, as the code's tests say it.
spread : {n l : ℕ} → ((n ≡ 1 → ⊥) × (n ≡ l)) ⊎ (n ≡ 1) → (eqb n 1 || eqb n l) ≡ true
spread {n} {l} (inl (p, q)) = rw (eq-eqb n l q) (or-true (eqb n 1))
spread {n} (inr q) = rw (eq-eqb n 1 q)

-- So is a target of length l in a context of length C.
wide : {C l : ℕ} → ((C ≡ 1 → ⊥) × (l ≡ 1 → ⊥)) ⊎ (C ≡ 1) → (eqb C 1 || not (eqb l 1)) ≡ true
wide {C} {l} (inl (p, q)) = rw (ne_eqb l 1 q) (or-true (eqb C 1))
wide {C} (inr q) = rw (eq-eqb C 1 q)

module _ {before code stack : List ℕ} {count end : ℕ} {Γ : Declarations} (C : ℕ) (t : Target) (e : Expr) where
  pub value_no : {why : Refused} → TypesAs before code stack count end Γ (Err why) (typed C e Γ) → TypesAs before code stack count end Γ (Err why) (valued C t e Γ)
  unfolding valued
  value_no s = no_shows (rw (shows_no s))

  module _ {to : Reached} (s : TypesAs before code stack count end Γ (Ok to) (typed C e Γ)) {n l : ℕ} {k : Kind} (ek : k ≡ kind_of (slot_kind stack 0)) (en : n ≡ slot_lanes stack 0) (el : l ≡ length_or t.lanes n) where
    pub value_8 : same_kind k t.kind ≡ false → TypesAs before code stack count end Γ (Err (record { refusal = WrongKind; place = t.place })) (valued C t e Γ)
    unfolding valued storable
    value_8 f = no_shows (rw (shows_ok s) (rw (← ek, f)))

    module _ (f : same_kind k t.kind ≡ true) where
      pub value_9 : (n ≡ 1 → ⊥) → (n ≡ l → ⊥) → TypesAs before code stack count end Γ (Err (record { refusal = WrongLength; place = t.place })) (valued C t e Γ)
      unfolding valued storable
      value_9 p q = no_shows (rw (shows_ok s) (rw (← ek, ← en, ← el, f, ne_eqb n 1 p, ne_eqb n l q)))

      module _ (g : ((n ≡ 1 → ⊥) × (n ≡ l)) ⊎ (n ≡ 1)) where
        pub value_10 : (C ≡ 1 → ⊥) → l ≡ 1 → TypesAs before code stack count end Γ (Err (record { refusal = LengthOneTarget; place = t.place })) (valued C t e Γ)
        unfolding valued storable
        value_10 p q = no_shows (rw (shows_ok s) (rw (← ek, ← en, ← el, f, spread g, ne_eqb C 1 p, eq-eqb l 1 q)))

        pub value_ok : ((C ≡ 1 → ⊥) × (l ≡ 1 → ⊥)) ⊎ (C ≡ 1) → {stack' : List ℕ} (w : ℕ) → stack' ≡ with_slot stack 0 (kind_number t.kind) l w → 3 ≤ length stack
            → TypesAs before code stack' count end Γ (Ok to) (valued C t e Γ)
        unfolding valued storable typed_out
        value_ok i {stack'} w es room = record { becomes = s.becomes; is = rw (put_kind, put_lanes) (rw (shows_ok s) (rw (← ek, ← en, ← el, f, spread g, wide i))); on = s.on }
          where
            put_kind : kind_of (slot_kind stack' 0) ≡ t.kind
            put_kind = rw es (ap (λ x. x.kind) (entry_put stack 0 t.kind l w room))

            put_lanes : slot_lanes stack' 0 ≡ l
            put_lanes = rw es (ap (λ x. x.lanes) (entry_put stack 0 t.kind l w room))

-- ---- a name
abbrev as_entry : ℕ × Declared → Entry
as_entry i = record { kind = i.1.kind; lanes = i.1.lanes; word = i.0 }

-- The declaration that was found, with the kind, the length and the number of the answer.
pub record FoundIt (C p : ℕ) (x : Name) (Γ : Declarations) (k : Kind) (n w : ℕ) : Type 0 where
  pub found : Declared
  pub is : variable_named C p x Γ ≡ ok (w, found) Γ
  pub kind_is : found.kind ≡ k
  pub lanes_is : found.lanes ≡ n

module _ {at : Point} {p b : ℕ} {x : Name} {Γ : Declarations} {before later : List ℕ} where
  pub name_no : {why : Refused} → TypesNode at (a_name p x) [] Γ b before later (Err why) → variable_named at.context p x Γ ≡ refused why.refusal why.place
  unfolding entry_out node_step
  name_no s = after_refused as_entry (variable_named at.context p x Γ) (sym s.is)

  pub name_ok : {to : Reached} {k : Kind} {n w : ℕ} → TypesNode at (a_name p x) [] Γ b before later (Ok to) → k ≡ kind_of (slot_kind later b) → n ≡ slot_lanes later b → w ≡ slot_word later b → FoundIt at.context p x Γ k n w
  unfolding entry_out node_step
  name_ok s ek en ew =
      let a = after_ok as_entry (variable_named at.context p x Γ) (sym s.is) in
      record {
        found = a.0.1;
        is = a.1 ∙ ap (λ i. ok (i, a.0.1) Γ) (ap (λ y. y.word) a.2 ∙ sym ew);
        kind_is = ap (λ y. y.kind) a.2 ∙ sym ek;
        lanes_is = ap (λ y. y.lanes) a.2 ∙ sym en;
      }

-- ---- statements, from what their parts become
-- What an `=` at a place writes to.
abbrev pub target : ℕ → Kind → ℕ → Target
target p k n = record { place = p; kind = k; lanes = n }

module _ {S A B D E : Type 0} where
  then_then : (o : Out S A) (f : A → S → Out S B) (g : A → D) (h : D → S → Out S E) → after (after o (λ a s. after (f a s) (λ _ u. ok (g a) u))) h ≡ after o (λ a s. after (f a s) (λ _ u. h (g a) u))
  then_then o f g h = after-after o (λ a s. after (f a s) (λ _ u. ok (g a) u)) h ∙ after_same o _ _ (λ a s. after-after (f a s) (λ _ u. ok (g a) u) h)

-- An assignment to the variable of number w.
pub assign_out : {C p w n : ℕ} {x : Name} {Γ : Declarations} {j : Kind} → FoundIt C p x Γ j n w → 0 < n → (q : ℕ) (e : Expr)
    → typed_statement C (assign p x q e) Γ ≡ after (valued C (target q j n) e Γ) (λ t Δ. ok (put p w t.code) Δ)
unfolding typed_statement valued length_or
assign_out {C} {p} {w} {n} {x} {Γ} {j} f l q e =
    rw f.is (rw (f.kind_is, f.lanes_is, ne_eqb n 0 (λ z. omega arith)) (sym (then_then (typed C e Γ) (storable C q j n) (λ a. record { code = a.code; kind = j; lanes = n }) (λ t Δ. ok (put p w t.code) Δ))))

-- A declaration whose N is not in the list.
pub block_7 : (C p : ℕ) (k : Kind) (b : Block) (q : ℕ) (x : Name) (v : Option (ℕ × Expr)) (Γ : Declarations) → listed_block b ≡ false → typed_declaration C p k b q x v Γ ≡ refused LengthNotListed (block_place b)
unfolding typed_declaration good_block listed_block block_place
block_7 C p k none q x v Γ h = absurd (true≢false h)
block_7 C p k (some n) q x none Γ h = rw h
block_7 C p k (some n) q x (some v) Γ h = rw h

module _ (C p : ℕ) (k : Kind) (b : Block) (q : ℕ) (x : Name) (Γ : Declarations) (g : listed_block b ≡ true) where
  good : good_block b Γ ≡ ok tt Γ
  unfolding good_block listed_block
  good = go b g
    where
      go : (b : Block) → listed_block b ≡ true → good_block b Γ ≡ ok tt Γ
      go none h = refl
      go (some n) h = rw h

  -- One whose N is good, without a value.
  pub plain_out : typed_declaration C p k b q x none Γ ≡ after (declare_name C k (length_or (block_length b) 1) q x Γ) (λ _ Δ. ok (step p) Δ)
  unfolding typed_declaration
  plain_out = rw (good, length_good b 1 g)

  -- And with a value.
  pub initial_out : (u : ℕ) (e : Expr) → typed_declaration C p k b q x (some (u, e)) Γ ≡ after (valued C (target u k (block_length b)) e Γ) (λ t Δ. after (declare_name C k t.lanes q x Δ) (λ i Θ. ok (put p i t.code) Θ))
  unfolding typed_declaration valued
  initial_out u e = rw good (sym (then_then (typed C e Γ) (λ a. storable C u k (length_or (block_length b) a.lanes) a) (λ a. record { code = a.code; kind = k; lanes = length_or (block_length b) a.lanes }) (λ t Δ. after (declare_name C k t.lanes q x Δ) (λ i Θ. ok (put p i t.code) Θ))
      ∙ after_same (typed C e Γ) _ _ (λ a Δ. rw (length_good b a.lanes g))))
