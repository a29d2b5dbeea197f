-- Every length that typing finds is one of the list, since those of the context and of the declarations are.
use Prim.Native.Nat.{ℕ, ◌<◌}
use native.Mathlib.Omega.{arith}
use mathlib.Core.Path.{◌≡◌, refl}
use mathlib.Core.Bool.{Bool, true, false, not, ◌||◌}
use mathlib.Core.List.{List}
use mathlib.Core.Option.{Option, none, some}
use lib.Dec.{eqb}
use Rattle.meaning.specs.declared.Kind.{Kind}
use Rattle.meaning.specs.declared.Kind.TheVariants.{Bool as bool}
use Rattle.meaning.specs.declared.Refusal.TheVariants.{UnknownName, WrongKind, WrongLength, LengthOneTarget}
use Rattle.meaning.specs.Codes.{when◌then◌else◌, Out, ok, after, check, option, refuse, give, ◌>>◌}
use Rattle.meaning.specs.Tree.{Name, same_kind, ◌one_of◌, table as signs, unary_table, Expr, number, float_number, boolean, name, current_mask, unary, binary}
use Rattle.meaning.specs.Memory.{Declared, Declarations, declared}
use Rattle.meaning.specs.Typing as T
use Rattle.meaning.specs.Typing.{typed, typed_condition, storable, find, fits, joined, variable_named}
use Rattle.layout.specs.Stack.{slot_lanes}
use Rattle.layout.specs.Table.{entry, entries}
use Rattle.layout.specs.declared.Reached.{Reached}
use Rattle.std.specs.declared.result.Result.TheVariants.{Ok}
use Rattle.typing_expressions.specs.Rows.{ListedLength, Rows}
use Rattle.typing_expressions.specs.Answers.{TypesAs}
use Rattle.typing_expressions.proofs.Names.{length-entries, entries_at}
use Rattle.typing_expressions.proofs.Tables.{listed_one}
use Rattle.typing_expressions.proofs.Steps.{find_low}
use Rattle.laws.specs.Outcomes.{Yields, Still, well, refusal}
use Rattle.laws.proofs.Outcomes.{keeping, passed, said}
use Rattle.typing_simple.specs.declared.Target.{Target}
use Rattle.typing_simple.specs.Answers.{length_or, valued}
use Rattle.typing_simple.proofs.Outcomes.{shows_ok, FoundIt}

pub listed-joined : {n m : ℕ} → ListedLength n → ListedLength m → ListedLength (joined n m)
unfolding joined
listed-joined {n} {m} l k = go (eqb n 1)
  where
    go : (b : Bool) → ListedLength (when b then (λ _. m) else λ _. n)
    go true = k
    go false = l

-- A value of a listed length, a variable of one; the declarations are those before it.
abbrev Good : Declarations → Out Declarations T.Typed → Type 0
Good Γ o = Yields (Still Γ (λ a. ListedLength a.lanes)) o

abbrev Named : Declarations → Out Declarations (ℕ × Declared) → Type 0
Named Γ o = Yields (Still Γ (λ x. ListedLength x.1.lanes)) o

module _ {C count : ℕ} {text table : List ℕ} (c : ListedLength C) (r : Rows text table count) where
  good_name : (p : ℕ) (x : Name) → Named (entries text table count) (variable_named C p x (entries text table count))
  unfolding variable_named declared entry
  good_name p x = go (find x 0 (entries text table count)) refl
    where
      Γ : Declarations
      Γ = entries text table count

      its : (i : ℕ) → i < count → ListedLength (declared Γ i).lanes
      its i l = rw (entries_at text table count i _ l) (r.listed i l)

      go : (o : Option ℕ) → find x 0 Γ ≡ o → Named Γ (option (refuse UnknownName p) (λ i. check (fits C (declared Γ i).lanes) WrongLength p >> give (i, declared Γ i)) o Γ)
      go none q = refusal tt
      go (some i) q = passed (fits C (declared Γ i).lanes) WrongLength p Γ _ tt (λ _. well (refl, its i (omega (arith, find_low x 0 Γ q, length-entries text table count))))

  pub name_listed : {p n w : ℕ} {x : Name} {k : Kind} → FoundIt C p x (entries text table count) k n w → ListedLength n
  name_listed {p} {n} {w} {x} f = rw (← f.lanes_is) (said (good_name p x) f.is).1

  good_typed : (e : Expr) → Good (entries text table count) (typed C e (entries text table count))
  unfolding typed
  good_typed (number n) = well (refl, listed_one)
  good_typed (float_number n) = well (refl, listed_one)
  good_typed (boolean b) = well (refl, listed_one)
  good_typed (name p x) = keeping _ (good_name p x) (λ x l. well (refl, l))
  good_typed current_mask = well (refl, c)
  good_typed (unary p o e) = keeping _ (good_typed e) (λ a l. passed (a.kind one_of (unary_table o).1) WrongKind p _ _ tt (λ _. well (refl, l)))
  good_typed (binary p o e e') =
      keeping _ (good_typed e) (λ a l. keeping _ (good_typed e') (λ b m.
      passed (T.accepts (signs o).1 a.kind b.kind) WrongKind p _ _ tt (λ _.
      passed (T.match a.lanes b.lanes) WrongLength p _ _ tt (λ _. well (refl, listed-joined l m)))))

  good_condition : (p : ℕ) (e : Expr) → Good (entries text table count) (typed_condition C p e (entries text table count))
  unfolding typed_condition
  good_condition p e = keeping _ (good_typed e) (λ a l. passed (same_kind a.kind bool) WrongKind p _ _ tt (λ _. well (refl, l)))

  good_valued : (t : Target) (e : Expr) → (eqb t.lanes 0 ≡ false → ListedLength t.lanes) → Good (entries text table count) (valued C t e (entries text table count))
  unfolding valued storable length_or
  good_valued t e l = keeping _ (good_typed e) (λ a g.
      stored a g (same_kind a.kind t.kind) (eqb a.lanes 1 || eqb a.lanes (length_or t.lanes a.lanes)) (eqb C 1 || not (eqb (length_or t.lanes a.lanes) 1)))
    where
      Γ : Declarations
      Γ = entries text table count

      own : (n : ℕ) → ListedLength n → (b : Bool) → eqb t.lanes 0 ≡ b → ListedLength (when b then (λ _. n) else λ _. t.lanes)
      own n g true q = g
      own n g false q = l q

      stored : (a : T.Typed) → ListedLength a.lanes → (x y z : Bool)
          → Good Γ (after ((check x WrongKind t.place >> (check y WrongLength t.place >> check z LengthOneTarget t.place)) Γ) (λ _ u. ok (record { code = a.code; kind = t.kind; lanes = length_or t.lanes a.lanes }) u))
      stored a g true true true = well (refl, own a.lanes g (eqb t.lanes 0) refl)
      stored a g true true false = refusal tt
      stored a g true false z = refusal tt
      stored a g false y z = refusal tt

  -- The length of an answer.
  module _ {before code stack : List ℕ} {m end : ℕ} {to : Reached} (e : Expr) where
    pub condition_listed : (p : ℕ) → TypesAs before code stack m end (entries text table count) (Ok to) (typed_condition C p e (entries text table count)) → ListedLength (slot_lanes stack 0)
    condition_listed p s = (said (good_condition p e) (shows_ok s)).1

    pub valued-listed : (t : Target) → (eqb t.lanes 0 ≡ false → ListedLength t.lanes) → TypesAs before code stack m end (entries text table count) (Ok to) (valued C t e (entries text table count)) → ListedLength (slot_lanes stack 0)
    valued-listed t l s = (said (good_valued t e l) (shows_ok s)).1
