-- Declarations keep their order as they are made and as their scopes are closed: listed lengths, addresses of their own, ends before need.
use Prim.Native.Nat.{ℕ, zero, suc, ◌+◌, ◌*◌, ◌-◌, ◌/◌, ◌≤◌, ◌<◌, ◌∣◌}
use mathlib.Core.Path.{◌≡◌, refl, ap}
use mathlib.Core.Logic.{⊎_elim}
use mathlib.Core.Bool.{Bool, true, false, ◌||◌, false≢true}
use mathlib.Core.List.{List, [], ◌∷◌, ◌++◌}
use native.Mathlib.Omega.{arith}
use native.Mathlib.Nat.{eq-or-lt_of_le, dvd-mul_left, lt-div-mul-add, div-lt_iff_lt-mul, div-mul_cancel, mul-le-mul_right}
use lib.Dec.{eqb}
use lib.ListN.{length, length-append, get_or-append}
use lib.Seq.{get_or_at}
use borrow.Author.Tests.{eqb-true}
use Rattle.meaning.specs.declared.Kind.{Kind}
use Rattle.meaning.specs.declared.Kind.TheVariants.{Int as int, Bool as bool, Float as float}
use Rattle.meaning.specs.Codes.{lengths, declaration_limit}
use Rattle.meaning.specs.Tree.{Name}
use Rattle.meaning.specs.Memory.{Declared, Declarations, declared, whole, size, next_multiple, need}
use Rattle.meaning.specs.Typing.{with_one, shut}
use Rattle.laws.specs.Sound.{Spelled}
use Rattle.laws.specs.Declarations.{end_of, end_before, Listed, lane_limit, whole_limit, Ordered, closing, Alike, none_yet, both_more, Grows}

-- A length of the list is one of seven.
pub by_length : (P : ℕ → Type 0) (n : ℕ) → Listed n → P 1 → P 2 → P 4 → P 8 → P 16 → P 32 → P 64 → P n
unfolding lengths
by_length P n h a b c d e f g = go (eqb n 1) refl (eqb n 2) refl (eqb n 4) refl (eqb n 8) refl (eqb n 16) refl (eqb n 32) refl (eqb n 64) refl h
  where
    go : (p : Bool) → eqb n 1 ≡ p → (q : Bool) → eqb n 2 ≡ q → (r : Bool) → eqb n 4 ≡ r → (s : Bool) → eqb n 8 ≡ s → (t : Bool) → eqb n 16 ≡ t → (u : Bool) → eqb n 32 ≡ u → (v : Bool) → eqb n 64 ≡ v
        → (p || (q || (r || (s || (t || (u || (v || false))))))) ≡ true → P n
    go true x q _ r _ s _ t _ u _ v _ _ = rw (eqb-true n 1 x) a
    go false _ true x r _ s _ t _ u _ v _ _ = rw (eqb-true n 2 x) b
    go false _ false _ true x s _ t _ u _ v _ _ = rw (eqb-true n 4 x) c
    go false _ false _ false _ true x t _ u _ v _ _ = rw (eqb-true n 8 x) d
    go false _ false _ false _ false _ true x u _ v _ _ = rw (eqb-true n 16 x) e
    go false _ false _ false _ false _ false _ true x v _ _ = rw (eqb-true n 32 x) f
    go false _ false _ false _ false _ false _ false _ true x _ = rw (eqb-true n 64 x) g
    go false _ false _ false _ false _ false _ false _ false _ z = absurd (false≢true z)

pub listed_some : (n : ℕ) → Listed n → 0 < n
listed_some n h = by_length (λ n. 0 < n) n h (omega arith) (omega arith) (omega arith) (omega arith) (omega arith) (omega arith) (omega arith)

pub listed_few : (n : ℕ) → Listed n → n ≤ lane_limit
listed_few n h = by_length (λ n. n ≤ lane_limit) n h (omega arith) (omega arith) (omega arith) (omega arith) (omega arith) (omega arith) (omega arith)

-- The next multiple of a whole size, and the size: each size divides the largest.
record Rounded (end l w : ℕ) : Type 0 where
  after : end ≤ next_multiple end w
  before : next_multiple end w + w ≤ whole_limit * suc l

rounded : (k : Kind) (n end l : ℕ) → Listed n → end ≤ whole_limit * l → Rounded end l (whole k n)
unfolding next_multiple whole size
rounded k n end l h e = by_size k
  where
    four : Rounded end l (n * 4)
    four =
        by_length (λ n. Rounded end l (n * 4)) n h
        (record { after = omega arith; before = omega arith })
        (record { after = omega arith; before = omega arith })
        (record { after = omega arith; before = omega arith })
        (record { after = omega arith; before = omega arith })
        (record { after = omega arith; before = omega arith })
        (record { after = omega arith; before = omega arith })
        (record { after = omega arith; before = omega arith })

    by_size : (k : Kind) → Rounded end l (whole k n)
    by_size int = four
    by_size bool =
        by_length (λ n. Rounded end l (whole bool n)) n h
        (record { after = omega arith; before = omega arith })
        (record { after = omega arith; before = omega arith })
        (record { after = omega arith; before = omega arith })
        (record { after = omega arith; before = omega arith })
        (record { after = omega arith; before = omega arith })
        (record { after = omega arith; before = omega arith })
        (record { after = omega arith; before = omega arith })
    by_size float = four

-- "the next multiple": a multiple, at or behind the end, and the least such.
module _ (end size : ℕ) (some : 0 < size) where
  pub next_divides : size ∣ next_multiple end size
  unfolding next_multiple
  next_divides = dvd-mul_left size ((end + (size - 1)) / size)

  pub next_behind : end ≤ next_multiple end size
  unfolding next_multiple
  next_behind = omega (arith, lt-div-mul-add {a = end + (size - 1)} {b = size} some)

  pub next_least : (a : ℕ) → size ∣ a → end ≤ a → next_multiple end size ≤ a
  unfolding next_multiple
  next_least a d h =
      let times = a / size in
      let is : times * size ≡ a = div-mul_cancel size d in
      let within : end + (size - 1) < (times + 1) * size = omega (arith, is) in
      let few : (end + (size - 1)) / size < times + 1 = (div-lt_iff_lt-mul {k = size} {x = end + (size - 1)} {y = times + 1} some).1 within in
      let fewer : (end + (size - 1)) / size ≤ times = omega arith in
      omega (arith, is, mul-le-mul_right size fewer)

-- No declaration keeps to it all.
pub ordered_none : (text : List ℕ) → Ordered text []
unfolding need
ordered_none text = record {
  laid = record {
    few = omega arith;
    listed = λ x h. absurd (omega arith);
    ends = λ x h. absurd (omega arith);
    apart = λ x y h g. absurd (omega arith);
    small = omega arith;
  };
  named = λ x h. absurd (omega arith);
  next = λ x h. absurd (omega arith);
}

-- Need is the end of the last declaration.
pub need_last : (Γ : Declarations) → need Γ ≡ end_before Γ (length Γ)
unfolding need end_before declared
need_last [] = refl
need_last (d ∷ []) = refl
need_last (d ∷ e ∷ Γ) = need_last (e ∷ Γ)

-- One more declaration is the last, where need is, and those before it stay.
module _ (Γ : Declarations) (d : Declared) where
  pub new_length : length (Γ ++ (d ∷ [])) ≡ suc (length Γ)
  new_length = simp length-append (omega arith)

  pub new_declared : declared (Γ ++ (d ∷ [])) (length Γ) ≡ d
  unfolding declared
  new_declared = get_or_at Γ d [] _ (length Γ) refl

  pub old_declared : (x : ℕ) → x < length Γ → declared (Γ ++ (d ∷ [])) x ≡ declared Γ x
  unfolding declared
  old_declared x h = get_or-append Γ (d ∷ []) _ x h

  pub new_need : need (Γ ++ (d ∷ [])) ≡ end_of d
  unfolding need
  new_need = go Γ
    where
      go : (Γ : Declarations) → need (Γ ++ (d ∷ [])) ≡ end_of d
      go [] = refl
      go (e ∷ []) = refl
      go (e ∷ f ∷ Γ) = go (f ∷ Γ)

  -- What holds of each declaration, of one more.
  pub each_new : (P : Declared → Type 0) → ((x : ℕ) → x < length Γ → P (declared Γ x)) → P d → (x : ℕ) → x < length (Γ ++ (d ∷ [])) → P (declared (Γ ++ (d ∷ [])) x)
  each_new P h p x l =
      let le : x ≤ length Γ = omega (arith, new_length) in
      ⊎_elim (λ (e : x ≡ length Γ). rw (e, new_declared) p) (λ (lt : x < length Γ). rw (old_declared x lt) (h x lt)) (eq-or-lt_of_le le)

  pub grows_new : Grows Γ (Γ ++ (d ∷ []))
  grows_new = record { longer = omega (arith, new_length); kinds = λ x h. ap (λ (d : Declared). d.kind) (old_declared x h); lanes = λ x h. ap (λ (d : Declared). d.lanes) (old_declared x h) }

  old_before : (x : ℕ) → x ≤ length Γ → end_before (Γ ++ (d ∷ [])) x ≡ end_before Γ x
  unfolding end_before
  old_before zero h = refl
  old_before (suc x) h = ap end_of (old_declared x (omega arith))

  -- Where it lies at the next multiple behind them, so do all.
  next_new : d.address ≡ next_multiple (need Γ) (whole d.kind d.lanes)
      → ((x : ℕ) → x < length Γ → (declared Γ x).address ≡ next_multiple (end_before Γ x) (whole (declared Γ x).kind (declared Γ x).lanes))
      → (x : ℕ) → x < length (Γ ++ (d ∷ []))
      → (declared (Γ ++ (d ∷ [])) x).address ≡ next_multiple (end_before (Γ ++ (d ∷ [])) x) (whole (declared (Γ ++ (d ∷ [])) x).kind (declared (Γ ++ (d ∷ [])) x).lanes)
  next_new new next x l =
      let le : x ≤ length Γ = omega (arith, new_length) in
      rw (old_before x le)
      (⊎_elim
      (λ (e : x ≡ length Γ). rw (e, new_declared, ← need_last Γ) new)
      (λ (lt : x < length Γ). rw (old_declared x lt) (next x lt))
      (eq-or-lt_of_le le))

  -- Where it begins after the others' end.
  apart_new : need Γ ≤ d.address → ((x : ℕ) → x < length Γ → end_of (declared Γ x) ≤ need Γ) → ((x y : ℕ) → x < y → y < length Γ → end_of (declared Γ x) ≤ (declared Γ y).address)
      → (x y : ℕ) → x < y → y < length (Γ ++ (d ∷ [])) → end_of (declared (Γ ++ (d ∷ [])) x) ≤ (declared (Γ ++ (d ∷ [])) y).address
  apart_new after ends apart x y l h =
      let below : x < length Γ = omega (arith, new_length) in
      let le : y ≤ length Γ = omega (arith, new_length) in
      rw (old_declared x below)
      (⊎_elim
      (λ (e : y ≡ length Γ). rw (e, new_declared) (omega (arith, ends x below)))
      (λ (lt : y < length Γ). rw (old_declared y lt) (apart x y l lt))
      (eq-or-lt_of_le le))

module _ {text : List ℕ} {Γ : Declarations} (k : Ordered text Γ) (kind : Kind) (n p : ℕ) (x : Name) (fits : Listed n) (spelled : Spelled text p x) (room : length Γ < declaration_limit) where
  pub ordered_one : Ordered text (with_one kind n p x Γ)
  unfolding with_one
  ordered_one =
      let d : Declared = record { name = x; place = p; kind = kind; lanes = n; address = next_multiple (need Γ) (whole kind n); open? = true } in
      let l = k.laid in
      let r = rounded kind n (need Γ) (length Γ) fits l.small in
      let last = new_need Γ d in
      let more = new_length Γ d in
      record {
        laid = record {
          few = omega (arith, more, room);
          listed = each_new Γ d (λ d. Listed d.lanes) l.listed fits;
          ends = each_new Γ d (λ e. end_of e ≤ need (Γ ++ (d ∷ []))) (λ x h. omega (arith, l.ends x h, last, r.after)) (omega (arith, last));
          apart = apart_new Γ d r.after l.ends l.apart;
          small = omega (arith, last, more, r.before);
        };
        named = each_new Γ d (λ d. Spelled text d.place d.name) k.named spelled;
        next = next_new Γ d refl k.next;
      }

-- A closed scope's declarations are alike.
pub closing_alike : (n : ℕ) (Γ : Declarations) → Alike Γ (closing n Γ)
unfolding shut
closing_alike zero [] = none_yet
closing_alike (suc n) [] = none_yet
closing_alike zero (d ∷ Γ) = both_more refl (closing_alike zero Γ)
closing_alike (suc n) (d ∷ Γ) = both_more refl (closing_alike n Γ)

pub alike_length : {Γ Δ : Declarations} → Alike Γ Δ → length Δ ≡ length Γ
alike_length none_yet = refl
alike_length (both_more _ a) = ap suc (alike_length a)

pub alike_need : {Γ Δ : Declarations} → Alike Γ Δ → need Δ ≡ need Γ
unfolding need shut
alike_need none_yet = refl
alike_need (both_more s none_yet) = ap end_of s
alike_need (both_more _ (both_more {d = d} {e = e} s a)) = alike_need (both_more {d = d} {e = e} s a)

pub alike_declared : {Γ Δ : Declarations} (x : ℕ) → Alike Γ Δ → shut (declared Δ x) ≡ shut (declared Γ x)
unfolding declared
alike_declared x none_yet = refl
alike_declared zero (both_more s a) = s
alike_declared (suc x) (both_more s a) = alike_declared x a

pub grows_alike : {Γ Δ : Declarations} → Alike Γ Δ → Grows Γ Δ
unfolding shut
grows_alike a = record {
  longer = omega (arith, alike_length a);
  kinds = λ x h. ap (λ (d : Declared). d.kind) (alike_declared x a);
  lanes = λ x h. ap (λ (d : Declared). d.lanes) (alike_declared x a);
}

pub ordered_alike : {text : List ℕ} {Γ Δ : Declarations} → Alike Γ Δ → Ordered text Γ → Ordered text Δ
unfolding shut end_before
ordered_alike {text} {Γ} {Δ} a k =
    let l = alike_length a in
    let n = alike_need a in
    let o = k.laid in
    record {
      laid = record {
        few = omega (arith, l, o.few);
        listed = λ x h. each (λ d. Listed d.lanes) x (o.listed x (omega arith));
        ends = λ x h. rw n (each (λ d. end_of d ≤ need Γ) x (o.ends x (omega arith)));
        apart = λ x y h g. each (λ d. end_of d ≤ (declared Δ y).address) x (each (λ d. end_of (declared Γ x) ≤ d.address) y (o.apart x y h (omega arith)));
        small = rw (n, l) o.small;
      };
      named = λ x h. each (λ d. Spelled text d.place d.name) x (k.named x (omega arith));
      next = λ x h. rw (before x) (each (λ d. d.address ≡ next_multiple (end_before Γ x) (whole d.kind d.lanes)) x (k.next x (omega arith)));
    }
  where
    each : (P : Declared → Type 0) (x : ℕ) → P (shut (declared Γ x)) → P (shut (declared Δ x))
    each P x h = rw (alike_declared x a) h

    before : (x : ℕ) → end_before Δ x ≡ end_before Γ x
    before zero = refl
    before (suc x) = ap end_of (alike_declared x a)
