-- A program that is typed can be run over its declarations: numbers, places, lengths and kinds are in order; and a refusal is one of the
-- judge's, at a place of the text.
use Prim.Native.Nat.{ℕ, zero, suc, ◌+◌, ◌≤◌, ◌<◌}
use mathlib.Core.Path.{◌≡◌, refl, ap, ap₂, ◌∙◌}
use mathlib.Core.Bool.{Bool, true, false, ◌&&◌, ◌||◌, not, false≢true}
use mathlib.Core.List.{List, [], ◌∷◌}
use mathlib.Core.Option.{Option, none, some}
use native.Mathlib.Omega.{arith}
use lib.Dec.{eqb, ltb}
use lib.ListN.{length}
use borrow.Author.Tests.{ltb-true}
use Rattle.meaning.specs.declared.Kind.{Kind}
use Rattle.meaning.specs.declared.Kind.TheVariants.{Int as int, Bool as bool, Float as float}
use Rattle.meaning.specs.declared.Refusal.TheVariants.{UnknownName, WrongLength, WrongKind, AlreadyOpen, TooManyDeclarations, LengthNotListed, LengthOneTarget}
use Rattle.meaning.specs.Codes.{Out, after, give, refuse, check, option, when◌then◌else◌, ◌among◌, lengths, nesting_limit, declaration_limit, the_judge_gives, only_a_run_gives}
use Rattle.meaning.specs.Tokens.{equal}
use Rattle.meaning.specs.Tree.{Name, kind_number, same_kind, ◌one_of◌, table, unary_table, Expr, number, float_number, boolean, name, current_mask, unary, binary, Block, Stmt, empty, braces, declare, assign, if_else, while, scalar, Stmts, none_yet, ◌⨾◌}
use Rattle.meaning.specs.Program.{Program, put}
use Rattle.meaning.specs.Memory.{Declared, Declarations, declared, whole, next_multiple, need}
use Rattle.meaning.specs.Typing.{Types, Typed, accepts, match, joined, fits, find, variable_named, typed, width, typed_condition, storable, with_one, declare_name, good_block, lanes_or, typed_declaration, scope, typed_statement, typed_statements, typed_program}
use Rattle.laws.specs.Outcomes.{Ends, well, refusal, Still, RefusedIn}
use Rattle.laws.specs.Sound.{Spelled, stack, InText, of_number, of_float, of_boolean, of_name, of_mask, of_unary, of_binary, Sound, Placed, no_block, at_place, Valued, no_value, a_value, Walkable, of_empty, of_braces, of_declare, of_assign, of_if, of_while, of_scalar, AllWalkable, of_none, of_more, code_stack, Able, Runnable, of_nothing, of_step, of_put, of_both, of_choice, of_cycle, of_alone}
use Rattle.laws.specs.Declarations.{Listed, Ordered, Grows}
use Rattle.laws.specs.Lengths.{Spreadable, Suits, matched_constant, matched_variable, matched_mask, matched_one, matched_two, kinded_number, kinded_float, kinded_truth, kinded_variable, kinded_mask, kinded_one, kinded_two, TypedAs, Fits, fits_nothing, fits_step, fits_put, fits_both, fits_choice, fits_cycle, fits_alone}
use Rattle.laws.specs.Accepted.{Ready}
use Rattle.laws.specs.Near.{NearProgram, near_nothing, near_step, near_put, near_both, near_choice, near_cycle, near_alone}
use Rattle.laws.proofs.Outcomes.{still, followed, keeping, weaker, checked, passed}
use Rattle.laws.proofs.Tests.{and_l, and_r}
use Rattle.laws.proofs.Declarations.{ordered_none, ordered_one, new_length, new_declared, grows_new, closing_alike, grows_alike, ordered_alike}
use Rattle.laws.proofs.Lengths.{suits_of, match_of, spreadable_of, mask_for, joined_cases, matched_numbers, grows_same, grows_on, width_grows, matched_grows, typed_grows, fits_grows}
use Rattle.laws.proofs.Sound.{runnable_more, deeper}

listed_one : Listed 1
unfolding lengths
listed_one = refl

listed-joined : (n m : ℕ) → Listed n → Listed m → Listed (joined n m)
listed-joined n m h g = joined_cases n m Listed (λ _. g) (λ _. h)

-- "of one kind"
pub same_kind_is : (k l : Kind) → same_kind k l ≡ true → k ≡ l
unfolding same_kind kind_number
same_kind_is int int h = refl
same_kind_is int bool h = absurd (false≢true h)
same_kind_is int float h = absurd (false≢true h)
same_kind_is bool int h = absurd (false≢true h)
same_kind_is bool bool h = refl
same_kind_is bool float h = absurd (false≢true h)
same_kind_is float int h = absurd (false≢true h)
same_kind_is float bool h = absurd (false≢true h)
same_kind_is float float h = refl

-- A name that is found is one of the declarations.
pub found_below : (x : Name) (k : ℕ) (Γ : Declarations) (i : ℕ) → find x k Γ ≡ some i → i < k + length Γ
unfolding find
found_below x k [] i e = let z : ◌≡◌ {A = ℕ} 0 1 = cc in absurd (omega arith)
found_below x k (d ∷ Γ) i e = go (d.open? && equal d.name x) (found_below x (suc k) Γ i) e
  where
    go : (b : Bool) → (find x (suc k) Γ ≡ some i → i < suc k + length Γ) → (when b then (λ _. some k) else λ _. find x (suc k) Γ) ≡ some i → i < k + suc (length Γ)
    go true r e = let z : k ≡ i = cc in omega arith
    go false r e = omega (arith, r e)

module _ (text : List ℕ) where
  -- What typing ends in: P, or a refusal of the text.
  abbrev Goes : {A : Type 0} → (A → Declarations → Type 0) → Out Declarations A → Type 0
  Goes P o = Ends P (RefusedIn text) o

  abbrev Near : ℕ → Type 0
  Near p = p ≤ length text

  -- A variable: its number and its declaration.
  record Named (Γ : Declarations) (C : ℕ) (v : ℕ × Declared) : Type 0 where
    below : v.0 < length Γ
    is : v.1 ≡ declared Γ v.0
    suits : Suits C (declared Γ v.0).lanes

  named_goes : (C p : ℕ) (x : Name) (Γ : Declarations) → Near p → Goes (Still Γ (Named Γ C)) (variable_named C p x Γ)
  unfolding variable_named the_judge_gives only_a_run_gives
  named_goes C p x Γ near = go (find x 0 Γ) refl
    where
      go : (o : Option ℕ) → find x 0 Γ ≡ o → Goes (Still Γ (Named Γ C))
          (option (refuse UnknownName p) (λ i Δ. after (check (fits C (declared Γ i).lanes) WrongLength p Δ) (λ _. give (i, declared Γ i))) o Γ)
      go none e = refusal {c = UnknownName} (record { judges = refl; near = near })
      go (some i) e =
          passed (fits C (declared Γ i).lanes) WrongLength p Γ _ (record { judges = refl; near = near }) (λ h.
          still (record { below = omega (arith, found_below x 0 Γ i e); is = refl; suits = suits_of C _ h }))

  -- What is known of a typed expression of e.
  record Well (Γ : Declarations) (C : ℕ) (e : Expr) (a : Typed) : Type 0 where
    alike : code_stack a.code ≡ stack e
    listed : Listed a.lanes
    typed : TypedAs Γ C a.kind a.code
    wide : width Γ C a.code ≡ a.lanes

  module _ (C : ℕ) (listed : Listed C) (Γ : Declarations) (order : Ordered text Γ) where
    typed_goes : (e : Expr) → InText text e → Goes (Still Γ (Well Γ C e)) (typed C e Γ)
    unfolding typed accepts code_stack stack width the_judge_gives only_a_run_gives
    typed_goes (number n) (of_number l) = still (record { alike = refl; listed = listed_one; typed = record { kinded = kinded_number l; matched = matched_constant }; wide = refl })
    typed_goes (float_number n) (of_float l) = still (record { alike = refl; listed = listed_one; typed = record { kinded = kinded_float l; matched = matched_constant }; wide = refl })
    typed_goes (boolean b) of_boolean = still (record { alike = refl; listed = listed_one; typed = record { kinded = kinded_truth b; matched = matched_constant }; wide = refl })
    typed_goes (name p x) (of_name s) =
        keeping _ (named_goes C p x Γ (omega (arith, s.inside))) (λ v h.
        rw h.is (still (record {
          alike = refl;
          listed = order.laid.listed v.0 h.below;
          typed = record { kinded = kinded_variable h.below; matched = matched_variable h.below h.suits };
          wide = refl;
        })))
    typed_goes current_mask of_mask = still (record { alike = refl; listed = listed; typed = record { kinded = kinded_mask; matched = matched_mask }; wide = refl })
    typed_goes (unary p o e) (of_unary near h) =
        keeping _ (typed_goes e h) (λ a w.
        passed (a.kind one_of (unary_table o).1) WrongKind p Γ _ (record { judges = refl; near = near }) (λ t.
        still (record {
          alike = w.alike;
          listed = w.listed;
          typed = record { kinded = kinded_one t w.typed.kinded; matched = matched_one w.typed.matched };
          wide = w.wide;
        })))
    typed_goes (binary p o e e') (of_binary near h h') =
        keeping _ (typed_goes e h) (λ a w.
        keeping _ (typed_goes e' h') (λ b w'.
        passed (accepts (table o).1 a.kind b.kind) WrongKind p Γ _ (record { judges = refl; near = near }) (λ t.
        passed (match a.lanes b.lanes) WrongLength p Γ _ (record { judges = refl; near = near }) (λ m.
        let kinds : a.kind ≡ b.kind = same_kind_is a.kind b.kind (and_r (a.kind one_of (table o).1) (same_kind a.kind b.kind) t) in
        still (record {
          alike = rw (w.alike, w'.alike);
          listed = listed-joined a.lanes b.lanes w.listed w'.listed;
          typed = record {
            kinded = kinded_two (and_l (a.kind one_of (table o).1) (same_kind a.kind b.kind) t) w.typed.kinded (rw kinds w'.typed.kinded);
            matched = matched_two w.typed.matched w'.typed.matched (rw (w.wide, w'.wide) (match_of _ _ m));
          };
          wide = ap₂ joined w.wide w'.wide;
        })))))

    condition_goes : (p : ℕ) (e : Expr) → Near p → InText text e → Goes (Still Γ (λ a. (a.kind ≡ bool) × Well Γ C e a)) (typed_condition C p e Γ)
    unfolding typed_condition the_judge_gives only_a_run_gives
    condition_goes p e near h =
        keeping _ (typed_goes e h) (λ a w.
        passed (same_kind a.kind bool) WrongKind p Γ _ (record { judges = refl; near = near }) (λ t. still (same_kind_is a.kind bool t, w)))

  -- A value for a target of kind k and n lanes.
  record Stored (C : ℕ) (k : Kind) (n : ℕ) (a : Typed) : Type 0 where
    kind : a.kind ≡ k
    value : Spreadable n a.lanes
    mask : Suits C n → Spreadable n C

  stored_goes : (C p : ℕ) (k : Kind) (n : ℕ) (a : Typed) (Γ : Declarations) → Near p → Goes (Still Γ (λ _. Stored C k n a)) (storable C p k n a Γ)
  unfolding storable the_judge_gives only_a_run_gives
  stored_goes C p k n a Γ near =
      passed (same_kind a.kind k) WrongKind p Γ _ (record { judges = refl; near = near }) (λ t.
      passed (eqb a.lanes 1 || eqb a.lanes n) WrongLength p Γ _ (record { judges = refl; near = near }) (λ u.
      checked (eqb C 1 || not (eqb n 1)) LengthOneTarget p Γ (record { judges = refl; near = near }) (λ v.
      (refl, record { kind = same_kind_is a.kind k t; value = spreadable_of n a.lanes u; mask = mask_for C n v }))))

  -- One more declaration, of a length of the list.
  record New (C : ℕ) (Γ : Declarations) (k : Kind) (n i : ℕ) (Δ : Declarations) : Type 0 where
    grows : Grows Γ Δ
    below : i < length Δ
    kind : (declared Δ i).kind ≡ k
    lanes : (declared Δ i).lanes ≡ n
    suits : Suits C n
    order : Ordered text Δ

  declare_goes : (C : ℕ) (k : Kind) (n p : ℕ) (x : Name) (Γ : Declarations) → Listed n → Spelled text p x → Ordered text Γ → Goes (New C Γ k n) (declare_name C k n p x Γ)
  unfolding declare_name with_one the_judge_gives only_a_run_gives
  declare_goes C k n p x Γ l s order =
      let near : Near p = omega (arith, s.inside) in
      passed (fits C n) WrongLength p Γ _ (record { judges = refl; near = near }) (λ t.
      passed (option true (λ i. false) (find x 0 Γ)) AlreadyOpen p Γ _ (record { judges = refl; near = near }) (λ _.
      passed (ltb (length Γ) declaration_limit) TooManyDeclarations p Γ _ (record { judges = refl; near = near }) (λ room.
      let d : Declared = record { name = x; place = p; kind = k; lanes = n; address = next_multiple (need Γ) (whole k n); open? = true } in
      well {a = length Γ} (record {
        grows = grows_new Γ d;
        below = omega (arith, new_length Γ d);
        kind = ap (λ (d : Declared). d.kind) (new_declared Γ d);
        lanes = ap (λ (d : Declared). d.lanes) (new_declared Γ d);
        suits = suits_of C n t;
        order = ordered_one order k n p x l s (ltb-true (length Γ) declaration_limit room);
      }))))

  -- A block's length is of the list.
  block_goes : (b : Block) (Γ : Declarations) → Placed text b → Goes (Still Γ (λ _. (m : ℕ) → Listed m → Listed (lanes_or m b))) (good_block b Γ)
  unfolding good_block lanes_or the_judge_gives only_a_run_gives
  block_goes none Γ no_block = still (λ m l. l)
  block_goes (some (n, p)) Γ (at_place _ near) = checked (n among lengths) LengthNotListed p Γ (record { judges = refl; near = near }) (λ l. (refl, λ m _. l))

  -- What typing a statement leaves, from Γ on, in a context of C lanes.
  record Grown (r C : ℕ) (Γ : Declarations) (P : Program) (Δ : Declarations) : Type 0 where
    grows : Grows Γ Δ
    runs : Runnable (length Δ) r P
    near : NearProgram (length text) P
    fit : Fits Δ C P
    order : Ordered text Δ

  -- A typed expression, after more declarations.
  module _ {C : ℕ} {Γ Δ : Declarations} {e : Expr} {a : Typed} (g : Grows Γ Δ) (sound : Sound text e) (w : Well Γ C e a) where
    able : Able (length Δ) a.code
    able = record { numbers = matched_numbers (matched_grows g w.typed.matched); fits = omega (arith, sound.fits, w.alike) }

    lanes_of : width Δ C a.code ≡ a.lanes
    lanes_of = width_grows g w.typed.matched ∙ w.wide

    -- It is put into the variable x.
    put_grown : {r x : ℕ} {k : Kind} {n : ℕ} (p : ℕ) → Near p → x < length Δ → (declared Δ x).kind ≡ k → (declared Δ x).lanes ≡ n → Stored C k n a → Suits C n → Ordered text Δ
        → Grown r C Γ (put p x a.code) Δ
    put_grown p near below kind lanes s suits order = record {
      grows = g;
      runs = of_put below able;
      near = near_put near;
      fit = fits_put {C = C} {e = a.code} below (rw (kind, ← s.kind) (typed_grows g w.typed)) (rw lanes (s.mask suits)) (rw (lanes, lanes_of) s.value);
      order = order;
    }

  declaration_goes : (r C p : ℕ) (k : Kind) (b : Block) (q : ℕ) (x : Name) (v : Option (ℕ × Expr)) (Γ : Declarations)
      → Listed C → Near p → Placed text b → Spelled text q x → Valued text v → Ordered text Γ → Goes (Grown r C Γ) (typed_declaration C p k b q x v Γ)
  unfolding typed_declaration
  declaration_goes r C p k b q x none Γ l near hb hx no_value order =
      keeping _ (block_goes b Γ hb) (λ _ good.
      followed _ (declare_goes C k (lanes_or 1 b) q x Γ (good 1 listed_one) hx order) (λ i Δ d.
      well (record { grows = d.grows; runs = of_step; near = near_step near; fit = fits_step; order = d.order })))
  declaration_goes r C p k b q x (some (e, v)) Γ l near hb hx (a_value _ at_equals sound) order =
      keeping _ (block_goes b Γ hb) (λ _ good.
      keeping _ (typed_goes C l Γ order v sound.in_text) (λ a w.
      keeping _ (stored_goes C e k (lanes_or a.lanes b) a Γ at_equals) (λ _ s.
      followed _ (declare_goes C k (lanes_or a.lanes b) q x Γ (good a.lanes w.listed) hx order) (λ i Δ d.
      well (put_grown d.grows sound w p near d.below d.kind d.lanes s d.suits d.order)))))

  -- What a scope leaves: its declarations keep their bytes.
  scoped : {r C : ℕ} (m : Types Program) {Γ : Declarations} → Goes (Grown r C Γ) (m Γ) → Goes (Grown r C Γ) (scope m Γ)
  unfolding scope
  scoped m {Γ} h = followed _ h (λ P Δ g.
      let a = closing_alike (length Γ) Δ in
      let more = grows_alike a in
      well (record {
        grows = grows_on g.grows more;
        runs = runnable_more more.longer g.runs;
        near = g.near;
        fit = fits_grows more g.fit;
        order = ordered_alike a g.order;
      }))

  mutual
    unfolding typed_statement

    statement_goes : (r C : ℕ) (s : Stmt) (Γ : Declarations) → Listed C → Walkable text r s → Ordered text Γ → Goes (Grown r C Γ) (typed_statement C s Γ)
    statement_goes r C (empty p) Γ l (of_empty near) order = well {s = Γ} (record { grows = grows_same Γ; runs = of_step; near = near_step near; fit = fits_step; order = order })
    statement_goes zero C (braces p s) Γ l w order = elim w [ ]
    statement_goes (suc r) C (braces p s) Γ l (of_braces w) order =
        scoped (typed_statements C s) (weaker (statements_go r C s Γ l w order) (λ P Δ g. record { grows = g.grows; runs = deeper g.runs; near = g.near; fit = g.fit; order = g.order }))
    statement_goes r C (declare p k b q x v) Γ l (of_declare near hb hx hv) order = declaration_goes r C p k b q x v Γ l near hb hx hv order
    statement_goes r C (assign p x q e) Γ l (of_assign hx at_equals sound) order =
        let near : Near p = omega (arith, hx.inside) in
        keeping _ (named_goes C p x Γ near) (λ v h.
        keeping _ (typed_goes C l Γ order e sound.in_text) (λ a w.
        keeping _ (stored_goes C q v.1.kind v.1.lanes a Γ at_equals) (λ _ s.
        let same : Stored C (declared Γ v.0).kind (declared Γ v.0).lanes a = rw h.is at s in
        well {s = Γ} (put_grown (grows_same Γ) sound w p near h.below refl refl same h.suits order))))
    statement_goes zero C (if_else p e s t) Γ l w order = elim w [ ]
    statement_goes (suc r) C (if_else p e s t) Γ l (of_if near sound a b) order =
        keeping _ (condition_goes C l Γ order p e near sound.in_text) (λ c h.
        let w = h.1 in
        let body = listed-joined c.lanes C w.listed l in
        followed _ (scoped (typed_statement (joined c.lanes C) s) (statement_goes r (joined c.lanes C) s Γ body a order)) (λ P Δ g.
        followed _ (scoped (typed_statement (joined c.lanes C) t) (statement_goes r (joined c.lanes C) t Δ body b g.order)) (λ Q Θ f.
        let all = grows_on g.grows f.grows in
        let lanes = lanes_of all sound w in
        well {s = Θ} (record {
          grows = all;
          runs = of_choice (able all sound w) (runnable_more f.grows.longer g.runs) f.runs;
          near = near_choice near g.near f.near;
          fit = fits_choice (typed_grows all (rw h.0 at w.typed)) (rw (← lanes) at (fits_grows f.grows g.fit)) (rw (← lanes) at f.fit);
          order = f.order;
        }))))
    statement_goes zero C (while p e s) Γ l w order = elim w [ ]
    statement_goes (suc r) C (while p e s) Γ l (of_while near sound a) order =
        keeping _ (condition_goes C l Γ order p e near sound.in_text) (λ c h.
        let w = h.1 in
        let body = listed-joined c.lanes C w.listed l in
        followed _ (scoped (typed_statement (joined c.lanes C) s) (statement_goes r (joined c.lanes C) s Γ body a order)) (λ P Δ g.
        let lanes = lanes_of g.grows sound w in
        well {s = Δ} (record {
          grows = g.grows;
          runs = of_cycle (able g.grows sound w) g.runs;
          near = near_cycle near g.near;
          fit = fits_cycle (typed_grows g.grows (rw h.0 at w.typed)) (rw (← lanes) at g.fit);
          order = g.order;
        })))
    statement_goes zero C (scalar p s) Γ l w order = elim w [ ]
    statement_goes (suc r) C (scalar p s) Γ l (of_scalar a) order =
        followed _ (scoped (typed_statement 1 s) (statement_goes r 1 s Γ listed_one a order)) (λ P Δ g.
        well {s = Δ} (record { grows = g.grows; runs = of_alone g.runs; near = near_alone g.near; fit = fits_alone g.fit; order = g.order }))

    statements_go : (r C : ℕ) (s : Stmts) (Γ : Declarations) → Listed C → AllWalkable text r s → Ordered text Γ → Goes (Grown r C Γ) (typed_statements C s Γ)
    statements_go r C none_yet Γ l of_none order = well {s = Γ} (record { grows = grows_same Γ; runs = of_nothing; near = near_nothing; fit = fits_nothing; order = order })
    statements_go r C (s ⨾ t) Γ l (of_more a b) order =
        followed _ (statements_go r C s Γ l a order) (λ P Δ g.
        followed _ (statement_goes r C t Δ l b g.order) (λ Q Θ f.
        well {s = Θ} (record {
          grows = grows_on g.grows f.grows;
          runs = of_both (runnable_more f.grows.longer g.runs) f.runs;
          near = near_both g.near f.near;
          fit = fits_both (fits_grows f.grows g.fit) f.fit;
          order = f.order;
        })))

  -- Every program that is typed is ready, and every refusal is one of the text's.
  pub program_ends : (l : Stmts) → AllWalkable text nesting_limit l → Ends (Ready text) (RefusedIn text) (typed_program l)
  unfolding typed_program
  program_ends l w =
      weaker (statements_go nesting_limit 1 l [] listed_one w (ordered_none text)) (λ P Γ g.
      record { runs = g.runs; near = g.near; fits = g.fit; laid = g.order.laid; ordered = g.order })
