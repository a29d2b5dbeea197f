-- The first word of a statement says what it is, and where its parts stand.
use Prim.Native.Nat.{ℕ, suc, ◌+◌, ◌-◌, ◌≤◌, ◌<◌}
use native.Mathlib.Omega.{arith}
use mathlib.Core.Path.{◌≡◌, refl}
use mathlib.Core.List.{List, ◌++◌}
use mathlib.Core.Option.{Option}
use lib.ListN.{length, get_or, length-append}
use Rattle.meaning.specs.declared.Kind.{Kind}
use Rattle.meaning.specs.declared.Kind.TheVariants.{Int as int, Bool as bool, Float as float}
use Rattle.meaning.specs.Tokens.{the, numbered, reserved, words, signs, marks}
use Rattle.meaning.specs.Tree.{Name, Expr, Block, Stmt, braces, declare, assign, if_else, while, scalar}
use Rattle.layout.specs.Words.{flat, headed, kind_tag, value_words, flat_stmt, flat_stmts}
use Rattle.laws.specs.Sound.{Spelled, Placed, Valued, Walkable, of_empty, of_braces, of_declare, of_assign, of_if, of_while, of_scalar}
use Rattle.typing_simple.specs.Shapes.{Empty, Declaration, Assignment}
use Rattle.typing.specs.Shapes.{Statement, Braces, Choice, Cycle, Alone}
use Rattle.typing_simple.proofs.Words.{part_next, drop_next, part_last}

-- A statement of at most n levels, by its tag.
pub data Shape (text : List ℕ) (n : ℕ) (words : List ℕ) (s : Stmt) : ℕ → Type 0 where
  an_assignment : Assignment text words s → Shape text n words s 2
  an_int : Declaration text words s → Shape text n words s 16
  a_bool : Declaration text words s → Shape text n words s 17
  a_choice : 0 < n → Choice (n - 1) text words s → Shape text n words s 19
  a_cycle : 0 < n → Cycle (n - 1) text words s → Shape text n words s 21
  an_alone : 0 < n → Alone (n - 1) text words s → Shape text n words s 22
  a_float : Declaration text words s → Shape text n words s 26
  an_empty : Empty words s → Shape text n words s 52
  some_braces : 0 < n → Braces (n - 1) text words s → Shape text n words s 53

one_less : (n : ℕ) → suc n - 1 ≡ n
one_less n = omega arith

module _ {text : List ℕ} where
  declaration_of : {p q : ℕ} {k : Kind} {b : Block} {x : Name} {v : Option (ℕ × Expr)} → Placed text b → Spelled text q x → Valued text v → Declaration text (flat_stmt (declare p k b q x v)) (declare p k b q x v)
  unfolding flat_stmt headed
  declaration_of {p} {q} {k} {b} {x} {v} a s w = record {
    kind = k;
    block = b;
    name = x;
    value = v;
    is = refl;
    long = omega arith;
    tag = refl;
    lanes = refl;
    lanes_at = refl;
    placed = a;
    ends = refl;
    spelled = s;
    equals = refl;
    value_is = part_last (flat_stmt (declare p k b q x v)) (value_words v) 9 refl;
    valued = w;
  }

  shape_of : {n : ℕ} {s : Stmt} → Walkable text n s → Shape text n (flat_stmt s) s (get_or (flat_stmt s) 0 0)
  unfolding flat_stmt headed kind_tag the numbered reserved words signs marks
  shape_of (of_empty {p = p} i) = an_empty (record { long = omega arith; is = refl })
  shape_of (of_braces {r} {p} {l} a) = some_braces (omega arith) (rw (one_less r) (record {
    place = p;
    inside = l;
    is = refl;
    long = omega arith;
    all = record { is = part_last (flat_stmt (braces p l)) (flat_stmts l) 3 refl; walkable = a };
  }))
  shape_of (of_declare {k = int} i b x v) = an_int (declaration_of b x v)
  shape_of (of_declare {k = bool} i b x v) = a_bool (declaration_of b x v)
  shape_of (of_declare {k = float} i b x v) = a_float (declaration_of b x v)
  shape_of (of_assign {p = p} {q} {x} {e} s i d) = an_assignment (record {
    name = x;
    value = e;
    is = refl;
    long = omega arith;
    ends = refl;
    spelled = s;
    right = record { is = part_last (flat_stmt (assign p x q e)) (flat e) 6 refl; sound = d };
  })
  shape_of (of_if {r} {p} {e} {s} {t} i d x y) =
      let l = flat_stmt (if_else p e s t) in
      let behind = drop_next l (flat e) 6 (flat_stmt s ++ flat_stmt t) refl in
      a_choice (omega arith) (rw (one_less r) (record {
        test = e;
        first = s;
        second = t;
        is = refl;
        long = omega (arith, length-append (flat e) (flat_stmt s ++ flat_stmt t), length-append (flat_stmt s) (flat_stmt t));
        its_test = record { is = part_next l (flat e) 6 (flat_stmt s ++ flat_stmt t) refl; sound = d };
        its_first = record { is = part_next l (flat_stmt s) (6 + length (flat e)) (flat_stmt t) behind; walkable = x };
        its_second = record { is = part_last l (flat_stmt t) (6 + length (flat e) + length (flat_stmt s)) (drop_next l (flat_stmt s) (6 + length (flat e)) (flat_stmt t) behind); walkable = y };
      }))
  shape_of (of_while {r} {p} {e} {s} i d x) =
      let l = flat_stmt (while p e s) in
      a_cycle (omega arith) (rw (one_less r) (record {
        test = e;
        body = s;
        is = refl;
        long = omega (arith, length-append (flat e) (flat_stmt s));
        its_test = record { is = part_next l (flat e) 6 (flat_stmt s) refl; sound = d };
        its_body = record { is = part_last l (flat_stmt s) (6 + length (flat e)) (drop_next l (flat e) 6 (flat_stmt s) refl); walkable = x };
      }))
  shape_of (of_scalar {r} {p} {s} x) = an_alone (omega arith) (rw (one_less r) (record {
    place = p;
    body = s;
    is = refl;
    long = omega arith;
    its_body = record { is = part_last (flat_stmt (scalar p s)) (flat_stmt s) 3 refl; walkable = x };
  }))

pub shape : {text words : List ℕ} {n tag : ℕ} {s : Stmt} → get_or words 0 0 ≡ tag → Statement n text words s → Shape text n words s tag
shape q i = rw (← q, i.is) (shape_of i.walkable)

-- ---- a statement by its tag
module _ {text words : List ℕ} {n : ℕ} {s : Stmt} where
  pub long_shape : {tag : ℕ} → Shape text n words s tag → 3 ≤ length words
  long_shape (an_assignment a) = omega (arith, a.long)
  long_shape (an_int d) = omega (arith, d.long)
  long_shape (a_bool d) = omega (arith, d.long)
  long_shape (a_float d) = omega (arith, d.long)
  long_shape (a_choice l c) = omega (arith, c.long)
  long_shape (a_cycle l c) = omega (arith, c.long)
  long_shape (an_alone l a) = a.long
  long_shape (an_empty e) = e.long
  long_shape (some_braces l b) = b.long

  pub empty_shape : Shape text n words s 52 → Empty words s
  empty_shape (an_empty e) = e

  pub braces_shape : Shape text n words s 53 → (0 < n) × Braces (n - 1) text words s
  braces_shape (some_braces l b) = (l, b)

  pub assign_shape : Shape text n words s 2 → Assignment text words s
  assign_shape (an_assignment a) = a

  pub choice_shape : Shape text n words s 19 → (0 < n) × Choice (n - 1) text words s
  choice_shape (a_choice l c) = (l, c)

  pub cycle_shape : Shape text n words s 21 → (0 < n) × Cycle (n - 1) text words s
  cycle_shape (a_cycle l c) = (l, c)

  pub alone_shape : Shape text n words s 22 → (0 < n) × Alone (n - 1) text words s
  alone_shape (an_alone l a) = (l, a)

  pub declare_shape : {tag : ℕ} → Shape text n words s tag → (tag ≡ 52 → ⊥) → (tag ≡ 53 → ⊥) → (tag ≡ 2 → ⊥) → (tag ≡ 19 → ⊥) → (tag ≡ 21 → ⊥) → (tag ≡ 22 → ⊥) → Declaration text words s
  declare_shape (an_assignment a) e b n i w c = absurd (n refl)
  declare_shape (an_int d) e b n i w c = d
  declare_shape (a_bool d) e b n i w c = d
  declare_shape (a_float d) e b n i w c = d
  declare_shape (a_choice l x) e b n i w c = absurd (i refl)
  declare_shape (a_cycle l x) e b n i w c = absurd (w refl)
  declare_shape (an_alone l x) e b n i w c = absurd (c refl)
  declare_shape (an_empty x) e b n i w c = absurd (e refl)
  declare_shape (some_braces l x) e b n i w c = absurd (b refl)
