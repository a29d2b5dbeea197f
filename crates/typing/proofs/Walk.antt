-- Each way through the typing of a statement that holds others, and of a program, gives what the definition says, and writes its program.
use Prim.Native.Nat.{ℕ, ◌+◌, ◌-◌, ◌≤◌}
use native.Mathlib.Omega.{arith}
use mathlib.Core.Path.{◌≡◌, refl, sym, ap, ◌∙◌}
use mathlib.Core.List.{List, ◌++◌, append_assoc}
use lib.ListN.{length, get_or, take}
use lib.Seq.{sets}
use Rattle.meaning.specs.Codes.{Out, ok, refused, after}
use Rattle.meaning.specs.Tokens.{the, numbered, reserved, words, signs, marks}
use Rattle.meaning.specs.Tree.{Expr, Stmt, Stmts}
use Rattle.meaning.specs.Program.{Code, constant, Program, nothing, choice, cycle, alone}
use Rattle.meaning.specs.Memory.{Declarations}
use Rattle.meaning.specs.Typing.{Typed, joined, typed_condition, typed_statement, typed_statements, typed_program, scope}
use Rattle.layout.specs.Words.{unit, headed}
use Rattle.layout.specs.Heads.{place_word, condition_word, branch_word}
use Rattle.layout.specs.Sizes.{tree_limit}
use Rattle.layout.specs.Code.{code_words, program_words}
use Rattle.layout.specs.Stack.{slot_kind, slot_lanes}
use Rattle.layout.specs.Table.{kind_of, entries}
use Rattle.typing_expressions.specs.declared.Point.{Point}
use Rattle.typing_expressions.specs.Rows.{end_of, closed, Closes}
use Rattle.typing_expressions.specs.Answers.{TypingRoom, TypedTo, TypesAs}
use Rattle.typing_expressions.proofs.Names.{length-entries}
use Rattle.typing_expressions.proofs.Tables.{listed_one}
use Rattle.std.specs.Result.{IfOk}
use Rattle.std.specs.declared.result.Result.TheVariants.{Ok, Err}
use Rattle.std.proofs.lemmas.Result.{IfOk-weaker}
use Rattle.layout.specs.Stage.{Stage}
use Rattle.layout.specs.declared.Reached.{Reached}
use Rattle.layout.specs.declared.Refused.{Refused}
use Rattle.typing_simple.specs.Shapes.{part, Condition}
use Rattle.typing_simple.specs.Answers.{Walks, WalksAt, StepsOn, ScopeOpen, ScopeClosed}
use Rattle.typing_simple.proofs.Words.{length_part, rest_long, then, kept, inside, long_of, unit_over}
use Rattle.typing_simple.proofs.Walk.{room_again}
use Rattle.typing_simple.proofs.Outcomes
use Rattle.typing_simple.proofs.Listed.{condition_listed, listed-joined}
use Rattle.typing.specs.Shapes.{Braces, ChoiceOf, Choice, CycleOf, Cycle, Alone}
use Rattle.typing.specs.Answers.{tested_out, Tests, TestsAt, TypesBranch, program_out, ProgramRoom, TypedProgram}

-- ---- a head of six words
-- The words of a choice and a cycle, from those of their parts.
choice_words : (c₀ c₁ c₂ : List ℕ) (n end p : ℕ) (e : Code) (s t : Program) → take end c₁ ≡ take (n + 6) c₀ ++ (code_words e ++ (program_words s ++ program_words t)) → n + 6 ≤ end → n + 6 ≤ length c₀
    → take end c₂ ≡ take n c₁ ++ headed 19 p (unit (length (code_words e)) (length (program_words s)) 0) (part c₁ (n + 6) end) → take end c₂ ≡ take n c₀ ++ program_words (choice p e s t)
unfolding program_words the numbered reserved words signs marks
choice_words c₀ c₁ c₂ n end p e s t h l r w =
    let all = code_words e ++ (program_words s ++ program_words t) in w ∙ rw (kept c₀ c₁ all n 6 end h l r, inside c₀ c₁ all n 6 end h l r)

cycle_words : (c₀ c₁ c₂ : List ℕ) (n end p : ℕ) (e : Code) (s : Program) → take end c₁ ≡ take (n + 6) c₀ ++ (code_words e ++ program_words s) → n + 6 ≤ end → n + 6 ≤ length c₀
    → take end c₂ ≡ take n c₁ ++ headed 21 p (unit (length (code_words e)) 0 0) (part c₁ (n + 6) end) → take end c₂ ≡ take n c₀ ++ program_words (cycle p e s)
unfolding program_words the numbered reserved words signs marks
cycle_words c₀ c₁ c₂ n end p e s h l r w =
    let all = code_words e ++ program_words s in w ∙ rw (kept c₀ c₁ all n 6 end h l r, inside c₀ c₁ all n 6 end h l r)

-- ---- `;`
pub step_walks : {text tree table code code' stack : List ℕ} {at : Point} {r : Stage} {s : Stmt} → TypingRoom text tree table code stack at → 3 ≤ length tree → StepsOn at s code code' r
    → WalksAt at text tree table table code code' s r
step_walks {text = text} {table = table} {at = at} g l s = rw s.answer (Outcomes.on_walks (s.is at.context (entries text table at.count)) (record { rows = g.rows; more = omega arith; room = omega arith; words = s.words }))

-- ---- a scope
pub can_close : {text T before code : List ℕ} {count end : ℕ} {one : Stage} {o : Out Declarations Program} → Walks text T before code count end one o → IfOk one (λ to. ScopeOpen count to.count T)
can_close {one = one} w = IfOk-weaker one _ _ (λ to k. record { order = k.more; few = k.rows.few; room = k.rows.room }) w.on

pub scope_walks : {text tree T T₁ U before code c₀ stack : List ℕ} {at : Point} {end : ℕ} {one r : Stage} → TypingRoom text tree T c₀ stack at → (m : Declarations → Out Declarations Program) → Walks text T₁ before code at.count end one (m (entries text T at.count)) → ScopeClosed at.count one T₁ U r
    → Walks text U before code at.count end r (scope m (entries text T at.count))
unfolding scope closed
scope_walks {text} {T = T} {T₁} {U} {before} {code} {at = at} {end = end} {one} {r} g m w s = rw s.same (go one w s.closes)
  where
    go : (one : Stage) → Walks text T₁ before code at.count end one (m (entries text T at.count)) → IfOk one (λ to. Closes at.count to.count T₁ U) → Walks text U before code at.count end one (scope m (entries text T at.count))
    go (Err why) w c = Outcomes.no_walks (rw (Outcomes.walks_no w))
    go (Ok to) w c =
        Outcomes.on_walks (rw (Outcomes.walks_ok w) (rw (length-entries text T at.count) (ap (ok w.program) (sym (c.shuts text)))))
        (record { rows = c.keeps text w.on.rows; more = w.on.more; room = w.on.room; words = w.on.words })

-- Braces are a scope of what is inside.
pub braces_ok : {text tree T T₁ U code code₁ stack : List ℕ} {at : Point} {r : ℕ} {s : Stmt} {all w : Stage} → TypingRoom text tree T code stack at → (b : Braces r text tree s)
    → Walks text T₁ (take at.size code) code₁ at.count (at.size + length (part tree 3 (length tree))) all (typed_statements at.context b.inside (entries text T at.count)) → ScopeClosed at.count all T₁ U w
    → WalksAt at text tree T U code code₁ s w
unfolding typed_statement
braces_ok {tree = tree} {at = at} {w = w} g b x s = let v = scope_walks g (typed_statements at.context b.inside) x s in
    record {
      program = v.program;
      is = v.is ∙ rw b.is;
      on = IfOk-weaker w _ _ (λ to k. record { rows = k.rows; more = k.more; room = omega (arith, k.room, rest_long tree 3 at.size b.long); words = k.words }) v.on;
    }

-- ---- conditions
module _ {at : Point} {before code stack : List ℕ} {end : ℕ} {Γ : Declarations} {o : Out Declarations Typed} where
  pub tests_no : {why : Refused} → TypesAs before code stack at.count end Γ (Err why) o → Tests at before code end Γ (Err why) o
  unfolding tested_out
  tests_no te = record { becomes = record { code = constant 0; kind = kind_of 0; lanes = 1 }; is = sym (Outcomes.shows_no te); on = tt }

module _ {at : Point} {before code : List ℕ} {end : ℕ} {Γ : Declarations} {o : Out Declarations Typed} where
  refused_test : {why : Refused} → Tests at before code end Γ (Err why) o → o ≡ refused why.refusal why.place
  unfolding tested_out
  refused_test te = sym te.is

  passed_test : {inside : Point} (te : Tests at before code end Γ (Ok inside) o) → o ≡ ok te.becomes Γ
  unfolding tested_out
  passed_test te = sym te.is

pub tests_ok : (p : ℕ) (e : Expr) {text tree T code code₁ stack stack₁ : List ℕ} {at : Point} {end l D : ℕ} {test : Reached} → TypingRoom text tree T code stack at
    → TypesAs (take (at.size + 6) code) code₁ stack₁ at.count end (entries text T at.count) (Ok test) (typed_condition at.context p e (entries text T at.count))
    → l ≡ slot_lanes stack₁ 0 → D ≡ joined l at.context
    → Tests at (take (at.size + 6) code) code₁ end (entries text T at.count) (Ok (record { context = D; count = test.count; size = test.size })) (typed_condition at.context p e (entries text T at.count))
unfolding tested_out
tests_ok p e {stack₁ = stack₁} g te el ed = record {
  becomes = record { code = te.becomes; kind = kind_of (slot_kind stack₁ 0); lanes = slot_lanes stack₁ 0 };
  is = sym (Outcomes.shows_ok te);
  on = record { context = rw (← el) ed; listed = rw ed (listed-joined (rw el (condition_listed g.listed g.rows e p te)) g.listed); on = te.on };
}

pub choice_condition : {text tree : List ℕ} {r a b : ℕ} {s : Stmt} → a ≡ get_or tree condition_word 0 → (k : ChoiceOf r text tree a b s) → Condition text tree k.test
choice_condition e k = record { long = omega (arith, k.long); is = rw (← e) k.its_test }

pub cycle_condition : {text tree : List ℕ} {r a : ℕ} {s : Stmt} → a ≡ get_or tree condition_word 0 → (k : CycleOf r text tree a s) → Condition text tree k.test
cycle_condition e k = record { long = omega (arith, k.long); is = rw (← e) k.its_test }

-- ---- `if`
choice_is : {text tree : List ℕ} {r a b : ℕ} {s : Stmt} (k : ChoiceOf r text tree a b s) (C : ℕ) (Γ : Declarations) → typed_statement C s Γ ≡ after (typed_condition C (get_or tree place_word 0) k.test Γ) (λ v Δ.
    after (scope (typed_statement (joined v.lanes C) k.first) Δ) (λ x Θ.
    after (scope (typed_statement (joined v.lanes C) k.second) Θ) (λ y Ξ. ok (choice (get_or tree place_word 0) v.code x y) Ξ)))
unfolding typed_statement
choice_is k C Γ = rw k.is

pub choice_test : {text tree T U code code' code₁ stack : List ℕ} {at : Point} {r : ℕ} {s : Stmt} {why : Refused} → TypingRoom text tree T code stack at → Choice r text tree s → TestsAt at text tree T code code₁ (Err why)
    → WalksAt at text tree T U code code' s (Err why)
choice_test g k t = Outcomes.no_walks (choice_is k _ _ ∙ rw (refused_test (t k.test (choice_condition refl k))))

-- A choice, a words of condition and b words of first branch, whose condition was typed.
pub record Chosen (text tree T code stack code₁ : List ℕ) (at inside : Point) (r a b : ℕ) (s : Stmt) : Type 0 where
  pub lent : TypingRoom text tree T code stack at
  pub words : a ≡ get_or tree condition_word 0
  pub parts : ChoiceOf r text tree a b s
  pub tested : Tests at (take (at.size + 6) code) code₁ (at.size + (6 + a)) (entries text T at.count) (Ok inside) (typed_condition at.context (get_or tree place_word 0) parts.test (entries text T at.count))

pub chosen : {text tree T code stack code₁ : List ℕ} {at inside : Point} {r a b : ℕ} {s : Stmt} → TypingRoom text tree T code stack at → a ≡ get_or tree condition_word 0 → b ≡ get_or tree branch_word 0 → Choice r text tree s
    → TestsAt at text tree T code code₁ (Ok inside) → Chosen text tree T code stack code₁ at inside r a b s
chosen g ea eb x t = let k = rw (← ea, ← eb) at x in record { lent = g; words = ea; parts = k; tested = rw (← ea) at (t k.test (choice_condition ea k)) }

module _ {text tree T code stack code₁ : List ℕ} {at inside : Point} {r a b : ℕ} {s : Stmt} (h : Chosen text tree T code stack code₁ at inside r a b s) where
  -- The condition has declared nothing, and its code ends where the first branch begins.
  choice_on : TypedTo (take (at.size + 6) code) code₁ at.count (at.size + (6 + a)) inside.count inside.size h.tested.becomes.code
  choice_on = h.tested.on.on

  pub choice_first_room : {stack₁ : List ℕ} → length code₁ ≡ length code → length stack₁ ≡ length stack → TypingRoom text (part tree (6 + a) (6 + a + b)) T code₁ stack₁ inside
  choice_first_room l k = room_again h.lent (rw choice_on.none_new h.lent.rows) h.tested.on.listed
      (omega (arith, choice_on.ends, length_part tree (6 + a) (6 + a + b) (omega arith) h.parts.long, h.parts.long)) l k

  module _ {T₁ code₂ : List ℕ} {one : Stage} (x : TypesBranch r inside text (part tree (6 + a) (6 + a + b)) T T₁ code₁ code₂ one) where
    its_first : Walks text T₁ (take (at.size + (6 + a)) code₁) code₂ at.count (at.size + (6 + a) + length (part tree (6 + a) (6 + a + b))) one (scope (typed_statement inside.context h.parts.first) (entries text T at.count))
    its_first = rw (choice_on.none_new, choice_on.ends) at (x h.parts.first h.parts.its_first)

  pub choice_first : {T₁ code₂ code' : List ℕ} {why : Refused} → TypesBranch r inside text (part tree (6 + a) (6 + a + b)) T T₁ code₁ code₂ (Err why) → WalksAt at text tree T T₁ code code' s (Err why)
  choice_first x = Outcomes.no_walks (choice_is h.parts _ _ ∙ rw (passed_test h.tested) (rw (← h.tested.on.context) (rw (Outcomes.walks_no (its_first x)))))

  module _ {T₁ code₂ : List ℕ} {yes : Reached} (x : TypesBranch r inside text (part tree (6 + a) (6 + a + b)) T T₁ code₁ code₂ (Ok yes)) where
    fi : Walks text T₁ (take (at.size + (6 + a)) code₁) code₂ at.count (at.size + (6 + a) + length (part tree (6 + a) (6 + a + b))) (Ok yes) (scope (typed_statement inside.context h.parts.first) (entries text T at.count))
    fi = its_first x

    pub choice_second_room : {stack₂ : List ℕ} → length code₂ ≡ length code → length stack₂ ≡ length stack → TypingRoom text (part tree (6 + a + b) (length tree)) T₁ code₂ stack₂ (record { context = inside.context; count = yes.count; size = yes.size })
    choice_second_room l k =
        let ra = length_part tree (6 + a) (6 + a + b) (omega arith) h.parts.long in
        let rb = length_part tree (6 + a + b) (length tree) h.parts.long (omega arith) in
        room_again h.lent fi.on.rows h.tested.on.listed (omega (arith, fi.on.room, h.parts.long)) l k

    pub choice_second : {T₂ code₃ code' : List ℕ} {why : Refused} → TypesBranch r (record { context = inside.context; count = yes.count; size = yes.size }) text (part tree (6 + a + b) (length tree)) T₁ T₂ code₂ code₃ (Err why)
        → WalksAt at text tree T T₂ code code' s (Err why)
    choice_second y = Outcomes.no_walks (choice_is h.parts _ _ ∙ rw (passed_test h.tested) (rw (← h.tested.on.context) (rw (Outcomes.walks_ok fi) (rw (Outcomes.walks_no (y h.parts.second h.parts.its_second))))))

    module _ {T₂ code₃ : List ℕ} {no : Reached} (y : TypesBranch r (record { context = inside.context; count = yes.count; size = yes.size }) text (part tree (6 + a + b) (length tree)) T₁ T₂ code₂ code₃ (Ok no))
        (l₁ : length code₁ ≡ length code) (l₂ : length code₂ ≡ length code₁) (l₃ : length code₃ ≡ length code₂) where
      se : Walks text T₂ (take yes.size code₂) code₃ yes.count (yes.size + length (part tree (6 + a + b) (length tree))) (Ok no) (scope (typed_statement inside.context h.parts.second) (entries text T₁ yes.count))
      se = y h.parts.second h.parts.its_second

      -- Where each part of the code ends.
      record ChoiceEnds : Type 0 where
        pub first : yes.size ≡ at.size + (6 + a) + length (program_words fi.program)
        pub condition : a ≡ length (code_words h.tested.becomes.code)
        pub second : yes.size ≤ no.size
        pub last : no.size ≤ at.size + length tree
        pub held : no.size ≤ length code₃

      choice_ends : ChoiceEnds
      choice_ends =
          let g = h.lent in
          let k = h.parts in
          let ra = length_part tree (6 + a) (6 + a + b) (omega arith) k.long in
          let rb = length_part tree (6 + a + b) (length tree) k.long (omega arith) in
          let v = fi.on in
          let w = se.on in
          let below : yes.size ≤ length code₂ = omega (arith, v.room, g.code_room, k.long) in
          let far : no.size ≤ at.size + length tree = omega (arith, v.room, w.room, k.long) in
          record {
            first = long_of code₁ code₂ (program_words fi.program) (at.size + (6 + a)) yes.size v.words below (omega (arith, g.code_room, k.long));
            condition = omega (arith, long_of code code₁ (code_words h.tested.becomes.code) (at.size + 6) (at.size + (6 + a)) choice_on.words (omega (arith, g.code_room, k.long)) (omega (arith, g.code_room, k.long)));
            second = omega (arith, long_of code₂ code₃ (program_words se.program) yes.size no.size w.words (omega (arith, g.code_room)) below);
            last = far;
            held = omega (arith, g.code_room);
          }

      -- The same, as the long head wants it: no program is named.
      pub record ChoiceHead : Type 0 where
        pub first : inside.size ≤ yes.size
        pub low : yes.size ≤ tree_limit
        pub room : (at.size + 6 ≤ no.size) × (no.size ≤ length code₃) × (no.size ≤ tree_limit)

      pub choice_head : ChoiceHead
      choice_head =
          let d = choice_ends in
          record {
            first = omega (arith, d.first, choice_on.ends);
            low = omega (arith, d.second, d.last, h.lent.short);
            room = (omega (arith, d.first, d.second), d.held, omega (arith, d.last, h.lent.short));
          }

      written : take no.size code₃ ≡ take (at.size + 6) code ++ (code_words h.tested.becomes.code ++ (program_words fi.program ++ program_words se.program))
      written =
          let e = code_words h.tested.becomes.code in
          let v = program_words fi.program in
          let one = then (take (at.size + 6) code) e v choice_on.words fi.on.words in
          then (take (at.size + 6) code) (e ++ v) (program_words se.program) one se.on.words ∙ rw (append_assoc e v (program_words se.program))

      pub choice_ok : {code₄ : List ℕ} → take no.size code₄ ≡ take at.size code₃ ++ headed 19 (get_or tree place_word 0) (unit (get_or tree condition_word 0) (yes.size - inside.size) 0) (part code₃ (at.size + 6) no.size)
          → WalksAt at text tree T T₂ code code₄ s (Ok no)
      choice_ok {code₄} w =
          let d = choice_ends in
          let size_of : yes.size - inside.size ≡ length (program_words fi.program) = omega (arith, d.first, choice_on.ends) in
          Outcomes.on_walks (choice_is h.parts _ _ ∙ rw (passed_test h.tested) (rw (← h.tested.on.context) (rw (Outcomes.walks_ok fi) (rw (Outcomes.walks_ok se))))) (record {
            rows = se.on.rows;
            more = omega (arith, fi.on.more, se.on.more);
            room = d.last;
            words = choice_words code code₃ code₄ at.size no.size (get_or tree place_word 0) h.tested.becomes.code fi.program se.program written (omega (arith, d.first, d.second)) (omega (arith, h.lent.code_room, h.parts.long)) (rw (← d.condition, ← size_of) (rw h.words w));
          })

-- ---- `while`
cycle_is : {text tree : List ℕ} {r a : ℕ} {s : Stmt} (k : CycleOf r text tree a s) (C : ℕ) (Γ : Declarations) → typed_statement C s Γ ≡ after (typed_condition C (get_or tree place_word 0) k.test Γ) (λ v Δ.
    after (scope (typed_statement (joined v.lanes C) k.body) Δ) (λ x Θ. ok (cycle (get_or tree place_word 0) v.code x) Θ))
unfolding typed_statement
cycle_is k C Γ = rw k.is

pub cycle_test : {text tree T U code code' code₁ stack : List ℕ} {at : Point} {r : ℕ} {s : Stmt} {why : Refused} → TypingRoom text tree T code stack at → Cycle r text tree s → TestsAt at text tree T code code₁ (Err why)
    → WalksAt at text tree T U code code' s (Err why)
cycle_test g k t = Outcomes.no_walks (cycle_is k _ _ ∙ rw (refused_test (t k.test (cycle_condition refl k))))

-- A cycle, a words of condition, whose condition was typed.
pub record Begun (text tree T code stack code₁ : List ℕ) (at inside : Point) (r a : ℕ) (s : Stmt) : Type 0 where
  pub lent : TypingRoom text tree T code stack at
  pub words : a ≡ get_or tree condition_word 0
  pub parts : CycleOf r text tree a s
  pub tested : Tests at (take (at.size + 6) code) code₁ (at.size + (6 + a)) (entries text T at.count) (Ok inside) (typed_condition at.context (get_or tree place_word 0) parts.test (entries text T at.count))

pub begun : {text tree T code stack code₁ : List ℕ} {at inside : Point} {r a : ℕ} {s : Stmt} → TypingRoom text tree T code stack at → a ≡ get_or tree condition_word 0 → Cycle r text tree s
    → TestsAt at text tree T code code₁ (Ok inside) → Begun text tree T code stack code₁ at inside r a s
begun g ea x t = let k = rw (← ea) at x in record { lent = g; words = ea; parts = k; tested = rw (← ea) at (t k.test (cycle_condition ea k)) }

module _ {text tree T code stack code₁ : List ℕ} {at inside : Point} {r a : ℕ} {s : Stmt} (h : Begun text tree T code stack code₁ at inside r a s) where
  -- The condition has declared nothing, and its code ends where the body begins.
  cycle_on : TypedTo (take (at.size + 6) code) code₁ at.count (at.size + (6 + a)) inside.count inside.size h.tested.becomes.code
  cycle_on = h.tested.on.on

  pub cycle_body_room : {stack₁ : List ℕ} → length code₁ ≡ length code → length stack₁ ≡ length stack → TypingRoom text (part tree (6 + a) (length tree)) T code₁ stack₁ inside
  cycle_body_room l k = room_again h.lent (rw cycle_on.none_new h.lent.rows) h.tested.on.listed
      (omega (arith, cycle_on.ends, length_part tree (6 + a) (length tree) h.parts.long (omega arith), h.parts.long)) l k

  module _ {T₁ code₂ : List ℕ} {one : Stage} (x : TypesBranch r inside text (part tree (6 + a) (length tree)) T T₁ code₁ code₂ one) where
    its_body : Walks text T₁ (take (at.size + (6 + a)) code₁) code₂ at.count (at.size + (6 + a) + length (part tree (6 + a) (length tree))) one (scope (typed_statement inside.context h.parts.body) (entries text T at.count))
    its_body = rw (cycle_on.none_new, cycle_on.ends) at (x h.parts.body h.parts.its_body)

  pub cycle_body : {T₁ code₂ code' : List ℕ} {why : Refused} → TypesBranch r inside text (part tree (6 + a) (length tree)) T T₁ code₁ code₂ (Err why) → WalksAt at text tree T T₁ code code' s (Err why)
  cycle_body x = Outcomes.no_walks (cycle_is h.parts _ _ ∙ rw (passed_test h.tested) (rw (← h.tested.on.context) (rw (Outcomes.walks_no (its_body x)))))

  module _ {T₁ code₂ : List ℕ} {to : Reached} (x : TypesBranch r inside text (part tree (6 + a) (length tree)) T T₁ code₁ code₂ (Ok to)) (l₁ : length code₁ ≡ length code) (l₂ : length code₂ ≡ length code₁) where
    bo : Walks text T₁ (take (at.size + (6 + a)) code₁) code₂ at.count (at.size + (6 + a) + length (part tree (6 + a) (length tree))) (Ok to) (scope (typed_statement inside.context h.parts.body) (entries text T at.count))
    bo = its_body x

    record CycleEnds : Type 0 where
      pub condition : a ≡ length (code_words h.tested.becomes.code)
      pub body : at.size + (6 + a) ≤ to.size
      pub last : to.size ≤ at.size + length tree
      pub held : to.size ≤ length code₂

    cycle_ends : CycleEnds
    cycle_ends =
        let g = h.lent in
        let k = h.parts in
        let rb = length_part tree (6 + a) (length tree) k.long (omega arith) in
        let v = bo.on in
        let far : to.size ≤ at.size + length tree = omega (arith, v.room, k.long) in
        record {
          condition = omega (arith, long_of code code₁ (code_words h.tested.becomes.code) (at.size + 6) (at.size + (6 + a)) cycle_on.words (omega (arith, g.code_room, k.long)) (omega (arith, g.code_room, k.long)));
          body = omega (arith, long_of code₁ code₂ (program_words bo.program) (at.size + (6 + a)) to.size v.words (omega (arith, g.code_room)) (omega (arith, g.code_room, k.long)));
          last = far;
          held = omega (arith, g.code_room);
        }

    pub cycle_room : (at.size + 6 ≤ to.size) × (to.size ≤ length code₂) × (to.size ≤ tree_limit)
    cycle_room = let d = cycle_ends in (omega (arith, d.body), d.held, omega (arith, d.last, h.lent.short))

    pub cycle_ok : {code₃ : List ℕ} → take to.size code₃ ≡ take at.size code₂ ++ headed 21 (get_or tree place_word 0) (unit (get_or tree condition_word 0) 0 0) (part code₂ (at.size + 6) to.size)
        → WalksAt at text tree T T₁ code code₃ s (Ok to)
    cycle_ok {code₃} w =
        let d = cycle_ends in
        let v = bo.on in
        let written = then (take (at.size + 6) code) (code_words h.tested.becomes.code) (program_words bo.program) cycle_on.words v.words in
        Outcomes.on_walks (cycle_is h.parts _ _ ∙ rw (passed_test h.tested) (rw (← h.tested.on.context) (rw (Outcomes.walks_ok bo)))) (record {
          rows = v.rows;
          more = v.more;
          room = d.last;
          words = cycle_words code code₂ code₃ at.size to.size (get_or tree place_word 0) h.tested.becomes.code bo.program written (omega (arith, d.body)) (omega (arith, h.lent.code_room, h.parts.long)) (rw (← d.condition) (rw h.words w));
        })

-- ---- `scalar`
module _ {text tree T code stack : List ℕ} {at : Point} {r : ℕ} {s : Stmt} (g : TypingRoom text tree T code stack at) (k : Alone r text tree s) where
  alone_is : typed_statement at.context s (entries text T at.count) ≡ after (scope (typed_statement 1 k.body) (entries text T at.count)) (λ x Θ. ok (alone x) Θ)
  unfolding typed_statement
  alone_is = rw k.is

  pub alone_no : {T₁ code₁ code' : List ℕ} {why : Refused} → TypesBranch r (record { context = 1; count = at.count; size = at.size + 3 }) text (part tree 3 (length tree)) T T₁ code code₁ (Err why) → WalksAt at text tree T T₁ code code' s (Err why)
  alone_no x = Outcomes.no_walks (alone_is ∙ rw (Outcomes.walks_no (x k.body k.its_body)))

  module _ {T₁ code₁ : List ℕ} {to : Reached} (x : TypesBranch r (record { context = 1; count = at.count; size = at.size + 3 }) text (part tree 3 (length tree)) T T₁ code code₁ (Ok to)) (l : length code₁ ≡ length code) where
    its_own : Walks text T₁ (take (at.size + 3) code) code₁ at.count (at.size + 3 + length (part tree 3 (length tree))) (Ok to) (scope (typed_statement 1 k.body) (entries text T at.count))
    its_own = x k.body k.its_body

    far : to.size ≤ at.size + length tree
    far = omega (arith, its_own.on.room, length_part tree 3 (length tree) k.long (omega arith), k.long)

    pub alone_ends : (at.size + 3 ≤ to.size) × (to.size ≤ length code₁) × (to.size ≤ tree_limit)
    alone_ends = (omega (arith, long_of code code₁ (program_words its_own.program) (at.size + 3) to.size its_own.on.words (omega (arith, far, g.code_room)) (omega (arith, g.code_room, k.long))), omega (arith, far, g.code_room), omega (arith, far, g.short))

    pub alone_ok : {code₂ : List ℕ} → code₂ ≡ sets code₁ at.size (unit 22 0 (to.size - (at.size + 3))) → WalksAt at text tree T T₁ code code₂ s (Ok to)
    unfolding program_words headed the numbered reserved words signs marks
    alone_ok {code₂} w =
        let d = alone_ends in
        let v = its_own.on in
        let z = to.size in
        let p = program_words its_own.program in
        let long : z - (at.size + 3) ≡ 0 + length p = omega (arith, long_of code code₁ p (at.size + 3) z v.words d.1 (omega (arith, g.code_room, k.long))) in
        Outcomes.on_walks {P = alone its_own.program} (alone_is ∙ rw (Outcomes.walks_ok its_own)) (record {
          rows = v.rows;
          more = v.more;
          room = far;
          words = rw (w, long) (unit_over code₁ at.size 22 0 (0 + length p) z d.0 d.1 ∙ rw (kept code code₁ p at.size 3 z v.words d.0 (omega (arith, g.code_room, k.long)), inside code code₁ p at.size 3 z v.words d.0 (omega (arith, g.code_room, k.long))));
        })

-- ---- a program
-- Where typing stands before a program.
abbrev pub before_all : Point
before_all = record { context = 1; count = 0; size = 0 }

pub room_before_all : {text tree table code stack : List ℕ} → ProgramRoom text tree table code stack → TypingRoom text tree table code stack before_all
unfolding end_of
room_before_all l = record {
  rows = record {
    short = l.short;
    few = omega arith;
    room = l.rows_room;
    names = λ i h. absurd (omega arith);
    listed = λ i h. absurd (omega arith);
    ends = λ i h. absurd (omega arith);
    small = omega arith;
  };
  listed = listed_one;
  short = omega (arith, l.few);
  code_room = omega (arith, l.code_room);
  stack_room = l.stack_room;
}

module _ {text tree T U code₀ code stack : List ℕ} {all : Stage} (g : ProgramRoom text tree T code₀ stack) (l : Stmts) (w : Walks text U (take 0 code₀) code 0 (0 + length tree) all (typed_statements 1 l (entries text T 0))) where
  program_is : typed_program l ≡ typed_statements 1 l (entries text T 0)
  unfolding typed_program entries
  program_is = refl

  -- What is said of the statements is said of the program.
  pub program_typed : length code ≡ length code₀ → TypedProgram text U code l all
  unfolding program_out
  program_typed same = go all w
    where
      go : (r : Stage) → Walks text U (take 0 code₀) code 0 (0 + length tree) r (typed_statements 1 l (entries text T 0)) → TypedProgram text U code l r
      go (Ok to) v = record {
        program = v.program;
        is = sym (program_is ∙ Outcomes.walks_ok v);
        accepted = record { rows = v.on.rows; fits = omega (arith, v.on.room, g.code_room); short = omega (arith, v.on.room, g.few); words = v.on.words };
      }
      go (Err why) v = record {
        program = nothing;
        is = sym (program_is ∙ Outcomes.walks_no v);
        accepted = tt;
      }
