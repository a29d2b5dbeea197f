-- How variables are laid out: the table of `meaning` is such a table, and there is one, but for the scopes that are open.
use Prim.Native.Nat.{ℕ, zero, suc, ◌+◌, ◌*◌, ◌-◌, ◌/◌, ◌≤◌, ◌<◌}
use mathlib.Core.Path.{◌≡◌, refl, ap}
use mathlib.Core.Bool.{Bool, true}
use mathlib.Core.List.{List, [], ◌∷◌, ◌++◌, append_assoc, append-nil}
use native.Mathlib.Omega.{arith}
use lib.ListN.{length}
use native.Mathlib.Nat.{div-add-mod', mod-lt, div-lt_iff_lt-mul, mul-le-mul_right}
use Rattle.meaning.specs.declared.Kind.{Kind}
use Rattle.meaning.specs.declared.Kind.TheVariants.{Int as int, Bool as bool, Float as float}
use Rattle.meaning.specs.Tree.{Name}
use Rattle.meaning.specs.Memory.{Declared, Declarations, declared, whole, size, next_multiple, need}
use Rattle.meaning.specs.Typing.{with_one, shut}
use Rattle.laws.specs.Declarations.{end_of, closing, Alike, none_yet, both_more}
use Rattle.laws.proofs.Declarations.{new_need, closing_alike, alike_need}
use Rattle.rules.specs.Laying.{Variable, lying, bytes, Next, Lays, lay_none, lay_next}

-- "the next multiple" of the definition is the next one, for every size above 0.
pub next_is : (end n : ℕ) → 0 < n → Next end n (next_multiple end n)
unfolding next_multiple
next_is end n h =
    let x = end + (n - 1) in
    let whole_and_rest = div-add-mod' x n in
    let rest = mod-lt x h in
    record { times = x / n; multiple = refl; behind = omega arith; least = λ i e. least i (omega arith) }
  where
    least : (i : ℕ) → end ≤ i * n → (end + (n - 1)) / n * n ≤ i * n
    least i e =
        let more : suc i * n ≡ i * n + n = omega arith in
        let fewer : (end + (n - 1)) / n < suc i = (div-lt_iff_lt-mul h).1 (omega arith) in
        mul-le-mul_right n (omega arith)

-- There is one.
pub one_next : {end n a b : ℕ} → Next end n a → Next end n b → a ≡ b
one_next x y =
    let below = x.least y.times (omega (arith, y.multiple, y.behind)) in
    let above = y.least x.times (omega (arith, x.multiple, x.behind)) in
    omega (arith, x.multiple, y.multiple)

-- A table for the same variables is the same, but for the scopes that are open; and need is one.
alike_next : {v : Variable} {a b : ℕ} {o p : Bool} {Γ Δ : Declarations} → a ≡ b → Alike Γ Δ →
    Alike (lying v a o ∷ Γ) (lying v b p ∷ Δ)
unfolding shut
alike_next {v} {a} {b} {o} {p} e r = both_more {d = lying v a o} {e = lying v b p} (rw e) r

pub one_table : {end N N' : ℕ} {l : List Variable} {Γ Γ' : Declarations} → Lays end l Γ N → Lays end l Γ' N' →
    Alike Γ Γ' × (N ≡ N')
one_table lay_none lay_none = (none_yet, refl)
one_table (lay_next x a) (lay_next y b) =
    let same = one_next x y in
    let rest = one_table a (rw (← same) at b) in
    (alike_next same rest.0, rest.1)

-- "an address of its own, in text order, never shared with another": a variable lies behind the end so far, and ends before the
-- next ones begin and before need.
begins : {end N : ℕ} {l : List Variable} {Γ : Declarations} → Lays end l Γ N → end ≤ N
begins lay_none = omega arith
begins (lay_next x a) = let more = begins a in let behind = x.behind in omega arith

pub lies_within : {end N : ℕ} {l : List Variable} {Γ : Declarations} → Lays end l Γ N → (i : ℕ) → i < length Γ →
    (end ≤ (declared Γ i).address) × (end_of (declared Γ i) ≤ N)
unfolding declared
lies_within lay_none i h = absurd (omega arith)
lies_within (lay_next x a) zero h = (x.behind, begins a)
lies_within (lay_next x a) (suc i) h =
    let rest = lies_within a i (omega arith) in
    let behind = x.behind in
    let here = rest.0 in
    (omega arith, rest.1)

pub never_shared : {end N : ℕ} {l : List Variable} {Γ : Declarations} → Lays end l Γ N → (i j : ℕ) → i < j → j < length Γ →
    end_of (declared Γ i) ≤ (declared Γ j).address
unfolding declared
never_shared lay_none i j o h = absurd (omega arith)
never_shared (lay_next x a) i zero o h = absurd (omega arith)
never_shared (lay_next x a) zero (suc j) o h = (lies_within a j (omega arith)).0
never_shared (lay_next x a) (suc i) (suc j) o h = never_shared a i j (omega arith) (omega arith)

-- The same table with other scopes open.
but_open : (v : Variable) (a : ℕ) (o : Bool) (e : Declared) → shut e ≡ shut (lying v a o) → e ≡ lying v a e.open?
unfolding shut
but_open v a o e s =
    let variable : Declared → Variable = λ d. record { name = d.name; place = d.place; kind = d.kind; lanes = d.lanes } in
    ap (λ (d : Declared). lying (variable d) d.address e.open?) s

pub lays_alike : {end N : ℕ} {l : List Variable} {Γ Δ : Declarations} → Alike Γ Δ → Lays end l Γ N → Lays end l Δ N
lays_alike none_yet lay_none = lay_none
lays_alike (both_more {e = e} s a) (lay_next {a = from} {v = v} {o = o} x b) =
    rw (but_open v from o e s) (lay_next x (lays_alike {end = from + bytes v} a b))

-- One variable more, behind the others.
lays_one : {end N a : ℕ} {l : List Variable} {Γ : Declarations} (v : Variable) (o : Bool) → Lays end l Γ N → Next N (bytes v) a →
    Lays end (l ++ (v ∷ [])) (Γ ++ (lying v a o ∷ [])) (a + bytes v)
lays_one v o lay_none y = lay_next y lay_none
lays_one v o (lay_next x a) y = lay_next x (lays_one v o a y)

-- The table of `meaning`: from 0 on, up to need.
pub record Lies (l : List Variable) (Γ : Declarations) : Type 0 where
  pub lays : Lays 0 l Γ (need Γ)

pub lies_none : Lies [] []
unfolding need
lies_none = record { lays = lay_none }

lies_alike : {l : List Variable} {Γ Δ : Declarations} → Alike Γ Δ → Lies l Γ → Lies l Δ
lies_alike a h = record { lays = rw (alike_need a) (lays_alike a h.lays) }

some_bytes : (k : Kind) (n : ℕ) → 0 < n → 0 < whole k n
unfolding whole size
some_bytes int n h = omega arith
some_bytes bool n h = omega arith
some_bytes float n h = omega arith

-- An act of typing adds the variables l behind those before.
pub record Adds (l : List Variable) (Γ Γ' : Declarations) : Type 0 where
  pub behind : (before : List Variable) → Lies before Γ → Lies (before ++ l) Γ'

pub adds_none : {Γ : Declarations} → Adds [] Γ Γ
adds_none = record { behind = λ before h. rw (append-nil before) h }

pub adds_both : {a b : List Variable} {Γ Γ₁ Γ₂ : Declarations} → Adds a Γ Γ₁ → Adds b Γ₁ Γ₂ → Adds (a ++ b) Γ Γ₂
adds_both {a} {b} x y = record { behind = λ before h. rw (← append_assoc before a b) (y.behind (before ++ a) (x.behind before h)) }

-- A scope that is closed.
pub adds_closed : {a : List Variable} {Γ Γ' : Declarations} (n : ℕ) → Adds a Γ Γ' → Adds a Γ (closing n Γ')
adds_closed {Γ'} n x = record { behind = λ before h. lies_alike (closing_alike n Γ') (x.behind before h) }

-- A declaration, of some lanes.
pub adds_one : (k : Kind) (n p : ℕ) (x : Name) (Γ : Declarations) → 0 < n →
    Adds (record { name = x; place = p; kind = k; lanes = n } ∷ []) Γ (with_one k n p x Γ)
unfolding with_one
adds_one k n p x Γ above = record {
  behind = λ before h.
      let v : Variable = record { name = x; place = p; kind = k; lanes = n } in
      let next = next_is (need Γ) (whole k n) (some_bytes k n above) in
      record { lays = rw (new_need Γ (lying v (next_multiple (need Γ) (whole k n)) true)) (lays_one v true h.lays next) };
}
