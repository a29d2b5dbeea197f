-- Each way through the typing of a simple statement gives what the definition says, and writes its program.
use Prim.Native.Nat.{ℕ, ◌+◌, ◌-◌, ◌≤◌}
use native.Mathlib.Omega.{arith}
use mathlib.Core.Path.{◌≡◌, refl, sym, ◌∙◌}
use mathlib.Core.Bool.{Bool, false}
use mathlib.Core.List.{List, [], ◌++◌}
use lib.ListN.{length, get_or, take}
use Rattle.meaning.specs.declared.Kind.{Kind}
use Rattle.meaning.specs.declared.Refusal.TheVariants.{LengthNotListed}
use Rattle.meaning.specs.Codes.{ok, refused, after}
use Rattle.meaning.specs.Tokens.{the, numbered, reserved, words, signs, marks}
use Rattle.meaning.specs.Tree.{Name, Expr, Stmt}
use Rattle.meaning.specs.Program.{Code, step, put}
use Rattle.meaning.specs.Memory.{Declarations}
use Rattle.meaning.specs.Typing.{typed, typed_declaration, declare_name, typed_statement}
use Rattle.layout.specs.Words.{unit_words, unit, headed}
use Rattle.layout.specs.Heads.{place_word, long_head, length_word, length_place_word, name_word, name_end_word, value_word, target_end_word, equals_word, condition_word}
use Rattle.layout.specs.Code.{code_words, program_words}
use Rattle.layout.specs.Stack.{slot_kind, slot_lanes, slot_word}
use Rattle.layout.specs.Table.{kind_of, entries}
use Rattle.laws.specs.Sound.{Spelled}
use Rattle.laws.proofs.Declarations.{listed_some}
use Rattle.typing_expressions.specs.declared.Point.{Point}
use Rattle.typing_expressions.specs.Rows.{Spans, ListedLength, Rows, spelled}
use Rattle.typing_expressions.specs.Nodes.{a_name}
use Rattle.typing_expressions.specs.Answers.{TypesNode, TypesName, TypingRoom, TypesAs, TypesExpression, number_out, DeclaresName}
use Rattle.typing_expressions.proofs.Walk.{limit}
use Rattle.layout.specs.Stage.{Stage}
use Rattle.layout.specs.declared.Reached.{Reached}
use Rattle.layout.specs.declared.Refused.{Refused}
use Rattle.std.specs.declared.result.Result.TheVariants.{Ok, Err}
use Rattle.typing_simple.specs.Shapes.{part, Empty, Declaration, PlainDeclaration, InitialDeclaration, Assignment, Condition}
use Rattle.typing_simple.specs.Answers.{length_or, valued, BlocksWell, WalksAt, PlainRoom, StepsOn}
use Rattle.typing_simple.proofs.Words.{length_part, kept, inside}
use Rattle.typing_simple.proofs.Shapes.{block_good, block_said}
use Rattle.typing_simple.proofs.Outcomes
use Rattle.typing_simple.proofs.Outcomes.{FoundIt, target}
use Rattle.typing_simple.proofs.Listed.{name_listed, valued-listed}

-- ---- what is lent on
pub room_again : {text tree tree' table table' code code' stack stack' : List ℕ} {at to : Point} → TypingRoom text tree table code stack at
    → Rows text table' to.count → ListedLength to.context → to.size + length tree' ≤ at.size + length tree → length code' ≡ length code → length stack' ≡ length stack
    → TypingRoom text tree' table' code' stack' to
room_again g r l h c k = record {
  rows = r;
  listed = l;
  short = omega (arith, g.short);
  code_room = omega (arith, g.code_room);
  stack_room = rw k g.stack_room;
}

-- The stack has a slot.
pub slot_room : {text tree table code stack : List ℕ} {at : Point} {long : ℕ} → TypingRoom text tree table code stack at → long ≡ length stack → 3 ≤ long
slot_room g k = omega (arith, g.stack_room, limit)

-- ---- names
pub name_within : {text : List ℕ} {p e : ℕ} {x : Name} → Spelled text p x → p + length x ≡ e → Spans text p e
name_within s h = record { order = omega arith; inside = omega (arith, s.inside) }

name_is : {text : List ℕ} {p e : ℕ} {x : Name} → Spelled text p x → p + length x ≡ e → spelled text p e ≡ x
name_is {text} {p} {e} {x} s h = let z : e - p ≡ length x = omega arith in rw z s.is

-- ---- a head of six words
-- The words of a put, from those of its part.
put_words : (c₀ c₁ c₂ : List ℕ) (n end p x : ℕ) (e : Code) → take end c₁ ≡ take (n + 6) c₀ ++ code_words e → n + 6 ≤ end → n + 6 ≤ length c₀
    → take end c₂ ≡ take n c₁ ++ headed 59 p (unit x 0 0) (part c₁ (n + 6) end) → take end c₂ ≡ take n c₀ ++ program_words (put p x e)
unfolding program_words the numbered reserved words signs marks
put_words c₀ c₁ c₂ n end p x e h l r w = w ∙ rw (kept c₀ c₁ (code_words e) n 6 end h l r, inside c₀ c₁ (code_words e) n 6 end h l r)

-- ---- a condition
module _ {text tree : List ℕ} {e : Expr} {a : ℕ} (x : Condition text tree e) (q : a ≡ get_or tree condition_word 0) where
  -- Where its code ends.
  pub condition_end : (size : ℕ) → size + long_head + length (part tree long_head (long_head + a)) ≡ size + (long_head + get_or tree condition_word 0)
  condition_end size = omega (arith, length_part tree 6 (6 + a) (omega arith) (omega (arith, x.long)))

  -- Its expression was typed, by the words between the head and the branches.
  pub condition_typed : {table code stack code' stack' : List ℕ} {at : Point} {r : Stage} → TypingRoom text tree table code stack at
      → TypesExpression (typed at.context) (record { context = at.context; count = at.count; size = at.size + long_head }) text (part tree long_head (long_head + a)) table code code' stack' r
      → TypesAs (take (at.size + long_head) code) code' stack' at.count (at.size + (long_head + get_or tree condition_word 0)) (entries text table at.count) r (typed at.context e (entries text table at.count))
  condition_typed {at = at} g t = rw (condition_end at.size) at (t e (rw q x.is))

-- ---- an assignment
module _ {text tree table code stack : List ℕ} {at : Point} (g : TypingRoom text tree table code stack at) where
  module _ {s : Stmt} (a : Assignment text tree s) {p e : ℕ} (ep : p ≡ get_or tree place_word 0) (ee : e ≡ get_or tree target_end_word 0) {stack₁ : List ℕ} where
    its_name : {t : Stage} → TypesName at p e text table 0 stack stack₁ t → TypesNode at (a_name (get_or tree place_word 0) a.name) [] (entries text table at.count) 0 stack stack₁ t
    its_name n = rw (name_is a.spelled a.ends) at (rw (ep, ee) at n)

    pub assign_5 : {code' : List ℕ} {why : Refused} → TypesName at p e text table 0 stack stack₁ (Err why) → WalksAt at text tree table table code code' s (Err why)
    unfolding typed_statement
    assign_5 n = Outcomes.no_walks (rw a.is (rw (Outcomes.name_no (its_name n))))

    module _ {to : Reached} (n : TypesName at p e text table 0 stack stack₁ (Ok to)) {k : Kind} {m w : ℕ} (ek : k ≡ kind_of (slot_kind stack₁ 0)) (em : m ≡ slot_lanes stack₁ 0) (ew : w ≡ slot_word stack₁ 0) where
      found : FoundIt at.context (get_or tree place_word 0) a.name (entries text table at.count) k m w
      found = Outcomes.name_ok (its_name n) ek em ew

      module _ {u : ℕ} (eu : u ≡ get_or tree equals_word 0) where
        out : typed_statement at.context s (entries text table at.count)
            ≡ after (valued at.context (target u k m) a.value (entries text table at.count)) (λ v Δ. ok (put (get_or tree place_word 0) w v.code) Δ)
        out = rw a.is (rw (← eu) (Outcomes.assign_out found (listed_some _ (name_listed g.listed g.rows found).is) u a.value))

        pub assign_8 : {code' code₁ stack₂ : List ℕ} {end : ℕ} {why : Refused} → TypesAs (take (at.size + long_head) code) code₁ stack₂ at.count end (entries text table at.count) (Err why) (valued at.context (target u k m) a.value (entries text table at.count))
            → WalksAt at text tree table table code code' s (Err why)
        assign_8 sh = Outcomes.no_walks (out ∙ rw (Outcomes.shows_no sh))

        pub assign_ok : {code₁ code₂ stack₂ : List ℕ} {end : ℕ} {all : Reached} → TypesAs (take (at.size + long_head) code) code₁ stack₂ at.count end (entries text table at.count) (Ok all) (valued at.context (target u k m) a.value (entries text table at.count))
            → end ≡ at.size + length tree
            → take all.size code₂ ≡ take at.size code₁ ++ headed 59 (get_or tree place_word 0) (unit w 0 0) (part code₁ (at.size + long_head) all.size)
            → WalksAt at text tree table table code code₂ s (Ok all)
        assign_ok {code₁} {code₂} {all = all} sh el c =
            let on = sh.on in
            Outcomes.on_walks (out ∙ rw (Outcomes.shows_ok sh, on.none_new)) (record {
              rows = rw on.none_new g.rows;
              more = omega (arith, on.none_new);
              room = omega (arith, on.ends);
              words = put_words code code₁ code₂ at.size all.size (get_or tree place_word 0) w sh.becomes (rw on.ends on.words) (omega (arith, a.long, on.ends)) (omega (arith, a.long, g.code_room)) c;
            })

-- ---- a declaration
module _ {text tree : List ℕ} {s : Stmt} (d : Declaration text tree s) where
  pub declare_within : Spans text (get_or tree name_word 0) (get_or tree name_end_word 0)
  declare_within = name_within d.spelled d.ends

  its_out : (C : ℕ) (Γ : Declarations)
      → typed_statement C s Γ ≡ typed_declaration C (get_or tree place_word 0) d.kind d.block (get_or tree name_word 0) (spelled text (get_or tree name_word 0) (get_or tree name_end_word 0)) d.value Γ
  unfolding typed_statement
  its_out C Γ = rw (d.is, name_is d.spelled d.ends)

  pub declare_7 : {table code code' stack : List ℕ} {at : Point} {p : ℕ} {b : Bool} → TypingRoom text tree table code stack at → BlocksWell (get_or tree length_word 0) p b → p ≡ get_or tree length_place_word 0 → b ≡ false
      → WalksAt at text tree table table code code' s (Err (record { refusal = LengthNotListed; place = p }))
  declare_7 {table = table} {at = at} g eb ep q =
      let Γ = entries text table at.count in
      Outcomes.no_walks (its_out at.context Γ ∙ Outcomes.block_7 at.context (get_or tree place_word 0) d.kind d.block (get_or tree name_word 0) _ d.value Γ (sym (block_said d eb ep) ∙ q) ∙ rw (d.lanes_at, ep))

module _ {text T U : List ℕ} {at : Point} {n p e : ℕ} {k : Kind} where
  declares_no : {why : Refused} → DeclaresName at k n p e text T U (Err why) → declare_name at.context k n p (spelled text p e) (entries text T at.count) ≡ refused why.refusal why.place
  unfolding number_out
  declares_no d = sym d.is

  declares_ok : {to : Reached} → DeclaresName at k n p e text T U (Ok to) → declare_name at.context k n p (spelled text p e) (entries text T at.count) ≡ ok at.count (entries text U to.count)
  unfolding number_out
  declares_ok d = sym d.is ∙ rw (← d.on.one_more)

-- Without a value.
module _ {text tree T code : List ℕ} {at : Point} {k : Kind} (g : PlainRoom text tree T code at) {s : Stmt} (d : PlainDeclaration k text tree s)
    {l p e : ℕ} (el : l ≡ length_or (get_or tree length_word 0) 1) (ep : p ≡ get_or tree name_word 0) (ee : e ≡ get_or tree name_end_word 0) where
  plain_is : typed_statement at.context s (entries text T at.count) ≡ after (declare_name at.context k l p (spelled text p e) (entries text T at.count)) (λ _ Δ. ok (step (get_or tree place_word 0)) Δ)
  plain_is = its_out d.shape at.context (entries text T at.count) ∙ rw (d.no_value, d.kind_is)
      (Outcomes.plain_out at.context (get_or tree place_word 0) k d.shape.block (get_or tree name_word 0) _ (entries text T at.count) d.good ∙ rw (d.shape.lanes, ← el, ← ep, ← ee))

  pub plain_no : {U code' : List ℕ} {why : Refused} → DeclaresName at k l p e text T U (Err why) → WalksAt at text tree T U code code' s (Err why)
  plain_no n = Outcomes.no_walks (plain_is ∙ rw (declares_no n))

  pub plain_ok : {U code' : List ℕ} {to : Reached} → DeclaresName at k l p e text T U (Ok to) → take (at.size + unit_words) code' ≡ take at.size code ++ program_words (step (get_or tree place_word 0))
      → WalksAt at text tree T U code code' s (Ok (record { count = to.count; size = at.size + unit_words }))
  plain_ok n c = Outcomes.on_walks (plain_is ∙ rw (declares_ok n)) (record { rows = n.on.rows; more = omega (arith, n.on.one_more); room = omega (arith, d.shape.long); words = c })

-- With a value.
module _ {text tree T code stack : List ℕ} {at : Point} {k : Kind} (g : TypingRoom text tree T code stack at) {s : Stmt} (d : InitialDeclaration k text tree s) {u : ℕ} (eu : u ≡ get_or tree value_word 0) where
  initial_is : typed_statement at.context s (entries text T at.count)
      ≡ after (valued at.context (target u k (get_or tree length_word 0)) d.right (entries text T at.count)) (λ t Δ.
      after (declare_name at.context k t.lanes (get_or tree name_word 0) (spelled text (get_or tree name_word 0) (get_or tree name_end_word 0)) Δ) (λ i Θ. ok (put (get_or tree place_word 0) i t.code) Θ))
  initial_is = its_out d.shape at.context (entries text T at.count) ∙ rw (d.its_value, d.kind_is)
      (Outcomes.initial_out at.context (get_or tree place_word 0) k d.shape.block (get_or tree name_word 0) _ (entries text T at.count) d.good (get_or tree value_word 0) d.right ∙ rw (d.shape.lanes, ← eu))

  pub initial_no : {U code' code₁ stack₁ : List ℕ} {end : ℕ} {why : Refused} → TypesAs (take (at.size + long_head) code) code₁ stack₁ at.count end (entries text T at.count) (Err why) (valued at.context (target u k (get_or tree length_word 0)) d.right (entries text T at.count))
      → WalksAt at text tree T U code code' s (Err why)
  initial_no sh = Outcomes.no_walks (initial_is ∙ rw (Outcomes.shows_no sh))

  module _ {code₁ stack₁ : List ℕ} {end : ℕ} {all : Reached} (sh : TypesAs (take (at.size + long_head) code) code₁ stack₁ at.count end (entries text T at.count) (Ok all) (valued at.context (target u k (get_or tree length_word 0)) d.right (entries text T at.count)))
      {l : ℕ} (el : l ≡ slot_lanes stack₁ 0) where
    pub initial-listed : ListedLength l
    initial-listed = rw el (valued-listed g.listed g.rows d.right (target u k (get_or tree length_word 0)) (λ q. rw d.shape.lanes at (block_good d.shape.block d.good (rw d.shape.lanes q))) sh)

    module _ {p e : ℕ} (ep : p ≡ get_or tree name_word 0) (ee : e ≡ get_or tree name_end_word 0) where
      then_declare : typed_statement at.context s (entries text T at.count) ≡ after (declare_name at.context k l p (spelled text p e) (entries text T at.count)) (λ i Θ. ok (put (get_or tree place_word 0) i sh.becomes) Θ)
      then_declare = initial_is ∙ rw (Outcomes.shows_ok sh) (rw (← ep, ← ee, ← el))

      pub initial_6 : {U code' : List ℕ} {why : Refused} → DeclaresName at k l p e text T U (Err why) → WalksAt at text tree T U code code' s (Err why)
      initial_6 n = Outcomes.no_walks (then_declare ∙ rw (declares_no n))

      pub initial_ok : {U code₂ : List ℕ} {to : Reached} → DeclaresName at k l p e text T U (Ok to) → end ≡ at.size + (length tree - 3)
          → take all.size code₂ ≡ take at.size code₁ ++ headed 59 (get_or tree place_word 0) (unit at.count 0 0) (part code₁ (at.size + long_head) all.size)
          → WalksAt at text tree T U code code₂ s (Ok (record { count = to.count; size = all.size }))
      initial_ok {code₂ = code₂} n ee c =
          let typed = sh.on in
          Outcomes.on_walks (then_declare ∙ rw (declares_ok n)) (record {
            rows = n.on.rows;
            more = omega (arith, n.on.one_more);
            room = omega (arith, d.shape.long, typed.ends);
            words = put_words code code₁ code₂ at.size all.size (get_or tree place_word 0) at.count sh.becomes (rw typed.ends typed.words) (omega (arith, d.shape.long, typed.ends)) (omega (arith, d.shape.long, g.code_room)) c;
          })

-- ---- `;`
pub empty_steps : {tree code code' : List ℕ} {at : Point} {s : Stmt} → Empty tree s → take (at.size + unit_words) code' ≡ take at.size code ++ program_words (step (get_or tree place_word 0))
    → StepsOn at s code code' (Ok (record { count = at.count; size = at.size + unit_words }))
unfolding typed_statement
empty_steps {tree} e w = record { program = step (get_or tree place_word 0); is = λ C Γ. rw e.is; answer = refl; words = w }
