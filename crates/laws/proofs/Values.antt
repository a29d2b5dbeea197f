-- A value has as many lanes as typing says, and its lanes are words below 2^32, 0 or 1 for a bool; a memory of bytes stays one.
use Prim.Native.Nat.{ℕ, zero, suc, ◌/◌, ◌^◌, ◌<◌}
use mathlib.Core.Path.{◌≡◌, refl, sym, ap, ap₂, ◌∙◌}
use mathlib.Core.Bool.{Bool, true, false, false≢true}
use mathlib.Core.List.{List, [], ◌∷◌, map, zip_with}
use native.Mathlib.Omega.{arith}
use native.Mathlib.Nat.{mod-lt, pow-suc, one-le-pow}
use lib.Bits.{or_lt, xor_lt, and_lt}
use lib.ListN.{length, take, drop, length-map, length-replicate}
use Rattle.meaning.specs.declared.Kind.{Kind}
use Rattle.meaning.specs.declared.Kind.TheVariants.{Int as int, Bool as bool, Float as float}
use Rattle.meaning.specs.declared.Unary.{Unary}
use Rattle.meaning.specs.declared.Unary.TheVariants.{Neg as neg, Inv as inv, Not as unary_not}
use Rattle.meaning.specs.declared.Binary.{Binary}
use Rattle.meaning.specs.declared.Binary.TheVariants.{Or as or, Xor as xor, And as and, Eq as eq, Ne as ne, Lt as lt, Gt as gt, Le as le, Ge as ge, Add as add, Sub as sub, Mul as mul}
use Rattle.meaning.specs.Tree.{kind_number, same_kind, ◌one_of◌, table, unary_table}
use Rattle.meaning.specs.Program.{Code, Program}
use Rattle.meaning.specs.Memory.{Memory, Value, Mask, Declarations, declared, size, bit, truth, true_byte, bool_byte, whole, little_endian, number_of, lane_of, bytes_of, load, store, spread, fetch, update}
use Rattle.meaning.specs.Floats.{one_nan}
use Rattle.meaning.specs.Running.{word, word_unary, word_binary, float_unary, float_binary, unary_of, binary_of, lanewise, value, mask_and, mask_and_not, Event, passes, stores}
use Rattle.meaning.specs.Typing.{joined, gives_kind, width}
use Rattle.meaning.specs.Services.{evaluate, effect}
use Rattle.laws.specs.Lengths.{Spreadable, single, full, Match, equal, left, right, Matched, matched_constant, matched_variable, matched_mask, matched_one, matched_two, Kinded, kinded_number, kinded_float, kinded_truth, kinded_variable, kinded_mask, kinded_one, kinded_two, TypedAs, Fits, fits_nothing, fits_step, fits_put, fits_both, fits_choice, fits_cycle, fits_alone}
use Rattle.laws.specs.Values.{All, no_more, and_one, lane_bits, Lanes, Bytes, Every, every_nothing, every_step, every_put, every_both, every_choice, every_cycle, every_alone}
use Rattle.laws.proofs.Lengths.{joined_one, joined_same, joined_right}
use Rattle.laws.proofs.Floats.{plus-storable, negated-storable, minus-storable, times-storable}
use Rattle.laws.proofs.Lists.{all_take, all_drop, all_append, all_replicate, all_map, all_zip}

-- The length of a value that is spread.
module _ {A : Type 0} where
  pub length-spread : (n : ℕ) (u : List A) → Spreadable n (length u) → length (spread n u) ≡ n
  unfolding spread
  length-spread n [] (single e) = absurd (omega arith)
  length-spread n [] (full e) = e
  length-spread n (x ∷ []) t = length-replicate n x
  length-spread n (x ∷ y ∷ r) (single e) = absurd (omega arith)
  length-spread n (x ∷ y ∷ r) (full e) = e

  pub spread_one : (u : List A) → spread 1 u ≡ u
  unfolding spread
  spread_one [] = refl
  spread_one (x ∷ []) = refl
  spread_one (x ∷ y ∷ r) = refl

  pub spread_full : (u : List A) → spread (length u) u ≡ u
  unfolding spread
  spread_full [] = refl
  spread_full (x ∷ []) = refl
  spread_full (x ∷ y ∷ r) = refl

  pub all_spread : {P : A → Type 0} (n : ℕ) {u : List A} → All P u → All P (spread n u)
  unfolding spread
  all_spread n no_more = no_more
  all_spread n (and_one {x = x} p no_more) = all_replicate n x p
  all_spread n (and_one p (and_one q a)) = and_one p (and_one q a)

-- An operator on two values, one of them perhaps replicated.
module _ {A B D : Type 0} (f : A → B → D) where
  pub length-zip_with : (u : List A) (v : List B) → length u ≡ length v → length (zip_with f u v) ≡ length v
  unfolding zip_with
  length-zip_with [] v e = e
  length-zip_with (a ∷ u) [] e = refl
  length-zip_with (a ∷ u) (b ∷ v) e = ap suc (length-zip_with u v (omega arith))

  pub length-lanewise : (u : List A) (v : List B) → Match (length u) (length v) → length (lanewise f u v) ≡ joined (length u) (length v)
  unfolding lanewise
  length-lanewise u v (equal e) =
      rw (e, spread_full v, joined_same (length v)) (length-zip_with (spread (length v) u) v (length-spread (length v) u (full e)))
  length-lanewise u v (left e) =
      rw (joined_one (length u) (length v) e, e, spread_one v) (length-zip_with (spread (length v) u) v (length-spread (length v) u (single e)))
  length-lanewise u v (right e) =
      let k : length (spread (length u) v) ≡ length u = length-spread (length u) v (single e) in
      rw (joined_right (length u) (length v) e, e, spread_one u) (length-zip_with u (spread (length u) v) (sym k) ∙ k)

-- The masks of the branches of a vector condition.
module _ (m : Mask) (v : Value) (t : Spreadable (length v) (length m)) where
  pub length-mask_and : length (mask_and m v) ≡ length v
  unfolding mask_and
  length-mask_and = length-zip_with _ (spread (length v) m) v (length-spread (length v) m t)

  pub length-mask_and_not : length (mask_and_not m v) ≡ length v
  unfolding mask_and_not
  length-mask_and_not = length-zip_with _ (spread (length v) m) v (length-spread (length v) m t)

-- ρ gives the variables' values, of the declared lengths: so each expression has its length.
module _ {Γ : Declarations} {C : ℕ} (m : Mask) (as_long : length m ≡ C) (ρ : ℕ → Value) (sized : (x : ℕ) → x < length Γ → length (ρ x) ≡ (declared Γ x).lanes) where
  pub value-length : {e : Code} → Matched Γ C e → length (value e m ρ) ≡ width Γ C e
  unfolding value width
  value-length matched_constant = refl
  value-length (matched_variable {x = x} h s) = sized x h
  value-length matched_mask = length-map m bit ∙ as_long
  value-length (matched_one {k = k} {o = o} {a = a} h) = length-map (value a m ρ) (unary_of k o) ∙ value-length h
  value-length (matched_two {k = k} {o = o} {a = a} {b = b} h g t) =
      length-lanewise (binary_of k o) (value a m ρ) (value b m ρ) (rw (value-length h, value-length g) t)
      ∙ ap₂ joined (value-length h) (value-length g)

pub length-load : (k : Kind) (n : ℕ) (l : List ℕ) → length (load k n l) ≡ n
unfolding load
length-load k zero l = refl
length-load k (suc n) l = ap suc (length-load k n (drop (size k) l))

pub fetch-length : (Γ : Declarations) (M : Memory) (x : ℕ) → length (fetch Γ M x) ≡ (declared Γ x).lanes
unfolding fetch
fetch-length Γ M x = length-load (declared Γ x).kind (declared Γ x).lanes (drop (declared Γ x).address M)

pub evaluate-length : {Γ : Declarations} {C : ℕ} {e : Code} (M : Memory) (m : Mask) → length m ≡ C → Matched Γ C e → length (evaluate Γ M e m) ≡ width Γ C e
unfolding evaluate
evaluate-length {Γ} M m z t = value-length m z (fetch Γ M) (λ x h. fetch-length Γ M x) t

-- A truth is 0 or 1, and what keeps the low 32 bits is a word.
pub bit_low : (b : Bool) → bit b < 2 ^ 1
unfolding bit
bit_low true = omega arith
bit_low false = omega arith

pub word_low : (n : ℕ) → word n < 2 ^ 32
unfolding word
word_low n = mod-lt n (omega arith)

-- An operator gives lanes of the kind that it gives, from lanes of a kind that it takes.
pub unary_low : (k : Kind) (o : Unary) (a : ℕ) → k one_of (unary_table o).1 ≡ true → a < 2 ^ lane_bits k → unary_of k o a < 2 ^ lane_bits k
unfolding unary_table ◌one_of◌ same_kind kind_number unary_of word_unary float_unary lane_bits
unary_low int neg a t h = word_low _
unary_low int inv a t h = omega arith
unary_low int unary_not a t h = absurd (false≢true t)
unary_low bool neg a t h = absurd (false≢true t)
unary_low bool inv a t h = absurd (false≢true t)
unary_low bool unary_not a t h = omega arith
unary_low float neg a t h = (negated-storable a).fits
unary_low float inv a t h = absurd (false≢true t)
unary_low float unary_not a t h = absurd (false≢true t)

pub binary_low : (k : Kind) (o : Binary) (a b : ℕ) → k one_of (table o).1 ≡ true → a < 2 ^ lane_bits k → b < 2 ^ lane_bits k → binary_of k o a b < 2 ^ lane_bits (gives_kind (table o).2 k)
unfolding table ◌one_of◌ same_kind kind_number binary_of word_binary float_binary gives_kind lane_bits
binary_low int or a b t h g = or_lt 32 a b h g
binary_low int xor a b t h g = xor_lt 32 a b h g
binary_low int and a b t h g = and_lt 32 a b h g
binary_low int eq a b t h g = bit_low _
binary_low int ne a b t h g = bit_low _
binary_low int lt a b t h g = bit_low _
binary_low int gt a b t h g = bit_low _
binary_low int le a b t h g = bit_low _
binary_low int ge a b t h g = bit_low _
binary_low int add a b t h g = word_low _
binary_low int sub a b t h g = word_low _
binary_low int mul a b t h g = word_low _
binary_low bool or a b t h g = or_lt 1 a b h g
binary_low bool xor a b t h g = xor_lt 1 a b h g
binary_low bool and a b t h g = and_lt 1 a b h g
binary_low bool eq a b t h g = bit_low _
binary_low bool ne a b t h g = bit_low _
binary_low bool lt a b t h g = absurd (false≢true t)
binary_low bool gt a b t h g = absurd (false≢true t)
binary_low bool le a b t h g = absurd (false≢true t)
binary_low bool ge a b t h g = absurd (false≢true t)
binary_low bool add a b t h g = absurd (false≢true t)
binary_low bool sub a b t h g = absurd (false≢true t)
binary_low bool mul a b t h g = absurd (false≢true t)
binary_low float or a b t h g = absurd (false≢true t)
binary_low float xor a b t h g = absurd (false≢true t)
binary_low float and a b t h g = absurd (false≢true t)
binary_low float eq a b t h g = bit_low _
binary_low float ne a b t h g = bit_low _
binary_low float lt a b t h g = bit_low _
binary_low float gt a b t h g = bit_low _
binary_low float le a b t h g = bit_low _
binary_low float ge a b t h g = bit_low _
binary_low float add a b t h g = (plus-storable a b).fits
binary_low float sub a b t h g = (minus-storable a b).fits
binary_low float mul a b t h g = (times-storable a b).fits

all_bits : (m : Mask) → Lanes bool (map bit m)
unfolding lane_bits
all_bits [] = no_more
all_bits (c ∷ m) = and_one (bit_low c) (all_bits m)

-- Where ρ gives each variable lanes of its kind, every expression has lanes of its kind.
module _ {Γ : Declarations} (m : Mask) (ρ : ℕ → Value) (lanes : (x : ℕ) → x < length Γ → Lanes (declared Γ x).kind (ρ x)) where
  pub value_lanes : {k : Kind} {e : Code} → Kinded Γ k e → Lanes k (value e m ρ)
  unfolding value lanewise lane_bits
  value_lanes (kinded_number {n = n} l) = and_one {x = n} (omega arith) no_more
  value_lanes (kinded_float {n = n} l) = and_one {x = n} l no_more
  value_lanes (kinded_truth b) = and_one (bit_low b) no_more
  value_lanes (kinded_variable {x = x} h) = lanes x h
  value_lanes kinded_mask = all_bits m
  value_lanes (kinded_one {k = k} {o = o} t h) = all_map (unary_of k o) (λ a l. unary_low k o a t l) (value_lanes h)
  value_lanes (kinded_two {k = k} {o = o} t h g) =
      all_zip (binary_of k o) (λ a b l r. binary_low k o a b t l r) (all_spread _ (value_lanes h)) (all_spread _ (value_lanes g))

-- Bytes hold lanes of any kind.
number_low : (l : List ℕ) (w : ℕ) → Bytes l → number_of (take w l) < 256 ^ w
unfolding number_of
number_low l zero a = omega arith
number_low [] (suc w) a = omega (arith, one-le-pow (suc w) 256 (omega arith))
number_low (b ∷ l) (suc w) (and_one h a) = rw (pow-suc 256 w) (omega (arith, number_low l w a))

pub lane_low : (k : Kind) (l : List ℕ) → Bytes l → lane_of k (take (size k) l) < 2 ^ lane_bits k
unfolding lane_of size lane_bits
lane_low int l a = number_low l 4 a
lane_low bool l a = bit_low _
lane_low float l a = number_low l 4 a

pub load_lanes : (k : Kind) (n : ℕ) (l : List ℕ) → Bytes l → Lanes k (load k n l)
unfolding load
load_lanes k zero l a = no_more
load_lanes k (suc n) l a = and_one (lane_low k l a) (load_lanes k n (drop (size k) l) (all_drop (size k) a))

pub fetch_lanes : (Γ : Declarations) {M : Memory} (x : ℕ) → Bytes M → Lanes (declared Γ x).kind (fetch Γ M x)
unfolding fetch
fetch_lanes Γ x a = load_lanes _ (declared Γ x).lanes _ (all_drop (declared Γ x).address a)

-- So over a memory of bytes every expression has words for lanes, 0 or 1 for a bool.
pub evaluate_lanes : {Γ : Declarations} {k : Kind} {e : Code} {M : Memory} (m : Mask) → Kinded Γ k e → Bytes M → Lanes k (evaluate Γ M e m)
unfolding evaluate
evaluate_lanes {Γ} m t a = value_lanes m _ (λ x h. fetch_lanes Γ x a) t

-- What typing makes sure of each expression, of every expression of a program.
pub fits_every : {Γ : Declarations} {C : ℕ} {P : Program} (Q : Kind → Code → Type 0) → ((C : ℕ) (k : Kind) (e : Code) → TypedAs Γ C k e → Q k e) → Fits Γ C P → Every Q Γ P
fits_every Q f fits_nothing = every_nothing
fits_every Q f fits_step = every_step
fits_every Q f (fits_put _ t _ _) = every_put (f _ _ _ t)
fits_every Q f (fits_both s t) = every_both (fits_every Q f s) (fits_every Q f t)
fits_every Q f (fits_choice t r q) = every_choice (f _ _ _ t) (fits_every Q f r) (fits_every Q f q)
fits_every Q f (fits_cycle t r) = every_cycle (f _ _ _ t) (fits_every Q f r)
fits_every Q f (fits_alone r) = every_alone (fits_every Q f r)

-- A store writes bytes: a memory of bytes stays one.
little_endian-bytes : (w n : ℕ) → Bytes (little_endian w n)
unfolding little_endian
little_endian-bytes zero n = no_more
little_endian-bytes (suc w) n = and_one (mod-lt n (omega arith)) (little_endian-bytes w (n / 256))

bytes_of-bytes : (k : Kind) (n : ℕ) → Bytes (bytes_of k n)
unfolding bytes_of bool_byte true_byte
bytes_of-bytes int n = little_endian-bytes 4 n
bytes_of-bytes float n = little_endian-bytes 4 (one_nan n)
bytes_of-bytes bool n = and_one (go (truth n)) no_more
  where
    go : (b : Bool) → bool_byte b < 256
    go true = omega arith
    go false = omega arith

pub store_bytes : (k : Kind) (m : Mask) (v : Value) {l : List ℕ} → Bytes l → Bytes (store k m v l)
unfolding store
store_bytes k [] v a = a
store_bytes k (c ∷ m) [] a = a
store_bytes k (true ∷ m) (x ∷ v) a = all_append (bytes_of-bytes k x) (store_bytes k m v (all_drop (size k) a))
store_bytes k (false ∷ m) (x ∷ v) a = all_append (all_take (size k) a) (store_bytes k m v (all_drop (size k) a))

pub effect-bytes : (Γ : Declarations) (M : Memory) (e : Event) → Bytes M → Bytes (effect Γ M e)
unfolding effect update
effect-bytes Γ M (passes p) a = a
effect-bytes Γ M (stores p x m v) a =
    let d = declared Γ x in
    let n = whole d.kind d.lanes in
    let l = all_drop d.address a in
    all_append (all_take d.address a) (all_append (store_bytes d.kind (spread d.lanes m) (spread d.lanes v) (all_take n l)) (all_drop n l))
