-- A variable's bytes, lane by lane: what `fetch` reads and what `update` writes and leaves.
use mathlib.Core.Path.{◌≡◌, refl, sym, ap, ◌∙◌}
use mathlib.Core.Bool.{true, false, cond}
use mathlib.Core.List.{List, [], ◌∷◌, ◌++◌}
use Prim.Native.Nat.{ℕ, zero, suc, ◌+◌, ◌*◌, ◌-◌, ◌/◌, ◌≤◌, ◌<◌}
use native.Mathlib.Nat.{zero-mul, mul-le-mul_right}
use native.Mathlib.Omega.{arith}
use lib.ListN.{length, get_or, take, drop, length-append, length-take, length-drop, take-append-drop}
use lib.Seq.{drop-drop, length-take-le, take-append-le, drop-append-le, drop-append-add, take_at}
use Rattle.meaning.specs.declared.Kind.{Kind}
use Rattle.meaning.specs.declared.Kind.TheVariants.{Int as int, Bool as bool, Float as float}
use Rattle.meaning.specs.Floats.{one_nan}
use Rattle.meaning.specs.Memory.{Memory, Value, Mask, Declared, Declarations, declared, size, whole, little_endian, bytes_of, lane_of, load, store, spread, fetch, update}
use Rattle.laws.specs.Lengths.{Spreadable}
use Rattle.laws.specs.Declarations.{end_of}
use Rattle.laws.proofs.Values.{length-spread, length-load}
use Rattle.lane.specs.Lane.{seat, lane_bytes}
use Rattle.lane.specs.Values.{lane}
use Rattle.lane.proofs.Lanes.{Reaches, lane-spread}

-- Part of a list: c elements from b on.
abbrev pub part : {A : Type 0} → ℕ → ℕ → List A → List A
part b c l = take c (drop b l)

module _ {A : Type 0} where
  part_left : (xs ys : List A) (b c : ℕ) → b + c ≤ length xs → part b c (xs ++ ys) ≡ part b c xs
  part_left xs ys b c h = rw (drop-append-le b xs ys (omega arith)) (take-append-le c (drop b xs) ys (omega (arith, length-drop b xs)))

  part_right : (xs ys : List A) (a b c : ℕ) → length xs ≡ a → part (a + b) c (xs ++ ys) ≡ part b c ys
  part_right xs ys a b c e = rw (← e) (ap (take c) (drop-append-add xs ys b))

  part-part : (a w : ℕ) (M : List A) (b c : ℕ) → a + w ≤ length M → b + c ≤ w → part b c (part a w M) ≡ part (a + b) c M
  part-part a w M b c f h =
      let l : List A = drop a M in
      sym (part_left (take w l) (drop w l) b c (omega (arith, length-take-le w l (omega (arith, length-drop a M)))))
      ∙ ap (part b c) (take-append-drop w l)
      ∙ ap (take c) (drop-drop b a M)

  -- M with w elements from a on replaced by ys.
  module _ (a w : ℕ) (ys M : List A) (fits : a + w ≤ length M) (size : length ys ≡ w) where
    abbrev pub replaced : List A
    replaced = take a M ++ (ys ++ drop w (drop a M))

    front : length (take a M) ≡ a
    front = length-take-le a M (omega arith)

    pub length_replaced : length replaced ≡ length M
    length_replaced = omega (arith, front, length-append (take a M) (ys ++ drop w (drop a M)), length-append ys (drop w (drop a M)), length-drop w (drop a M), length-drop a M)

    pub part_inside : (b c : ℕ) → b + c ≤ w → part (a + b) c replaced ≡ part b c ys
    part_inside b c h = part_right (take a M) (ys ++ drop w (drop a M)) a b c front ∙ part_left ys (drop w (drop a M)) b c (omega arith)

    pub part_before : (b c : ℕ) → b + c ≤ a → part b c replaced ≡ part b c M
    part_before b c h =
        part_left (take a M) (ys ++ drop w (drop a M)) b c (omega (arith, front))
        ∙ sym (part_left (take a M) (drop a M) b c (omega (arith, front)))
        ∙ ap (part b c) (take-append-drop a M)

    pub part-after : (b c : ℕ) → a + w ≤ b → part b c replaced ≡ part b c M
    part-after b c h =
        let e : b ≡ a + (w + (b - (a + w))) = omega arith in
        let k : ℕ = b - (a + w) in
        rw e
        (part_right (take a M) (ys ++ drop w (drop a M)) a (w + k) c front
        ∙ part_right ys (drop w (drop a M)) w k c size
        ∙ ap (take c) (drop-drop k w (drop a M) ∙ drop-drop (w + k) a M))

-- One lane's bytes.
length-little_endian : (w n : ℕ) → length (little_endian w n) ≡ w
unfolding little_endian
length-little_endian zero n = refl
length-little_endian (suc w) n = ap suc (length-little_endian w (n / 256))

length-bytes_of : (k : Kind) (a : ℕ) → length (bytes_of k a) ≡ size k
unfolding bytes_of size
length-bytes_of int a = length-little_endian 4 a
length-bytes_of bool a = refl
length-bytes_of float a = length-little_endian 4 (one_nan a)

-- Lane 0, and a lane further on.
module _ (k : Kind) where
  first_of : (xs ys : List ℕ) → length xs ≡ size k → part (0 * size k) (size k) (xs ++ ys) ≡ xs
  first_of xs ys e = rw (zero-mul (size k)) (take_at xs ys (size k) e)

  next_of : (j : ℕ) (xs ys : List ℕ) → length xs ≡ size k → part (suc j * size k) (size k) (xs ++ ys) ≡ part (j * size k) (size k) ys
  next_of j xs ys e =
      let t : suc j * size k ≡ size k + j * size k = omega arith in
      rw t (part_right xs ys (size k) (j * size k) (size k) e)

  next : (j : ℕ) (l : List ℕ) → part (suc j * size k) (size k) l ≡ part (j * size k) (size k) (drop (size k) l)
  next j l =
      let t : suc j * size k ≡ size k + j * size k = omega arith in
      rw (t, drop-drop (j * size k) (size k) l)

get_or-load : (k : Kind) (n j : ℕ) (l : List ℕ) → j < n → get_or (load k n l) j 0 ≡ lane_of k (part (j * size k) (size k) l)
unfolding load
get_or-load k zero j l h = absurd (omega arith)
get_or-load k (suc n) zero l h = rw (zero-mul (size k))
get_or-load k (suc n) (suc j) l h = rw (next k j l) (get_or-load k n j (drop (size k) l) (omega arith))

-- What a store of as many lanes as its target has leaves in each.
module _ (k : Kind) where
  length-store : (m : Mask) (v : Value) (l : List ℕ) → length m * size k ≤ length l → length (store k m v l) ≡ length l
  unfolding store
  length-store [] v l h = refl
  length-store (c ∷ m) [] l h = refl
  length-store (true ∷ m) (x ∷ v) l h =
      length-append (bytes_of k x) (store k m v (drop (size k) l))
      ∙ omega (arith, length-bytes_of k x, length-store m v (drop (size k) l) (omega (arith, length-drop (size k) l)), length-drop (size k) l)
  length-store (false ∷ m) (x ∷ v) l h =
      length-append (take (size k) l) (store k m v (drop (size k) l))
      ∙ omega (arith, length-take (size k) l, length-store m v (drop (size k) l) (omega (arith, length-drop (size k) l)), length-drop (size k) l)

  store-lane : (j : ℕ) (m : Mask) (v : Value) (l : List ℕ) → length m * size k ≤ length l → j < length m → j < length v
      → part (j * size k) (size k) (store k m v l) ≡ cond (get_or m j false) (bytes_of k (get_or v j 0)) (part (j * size k) (size k) l)
  unfolding store
  store-lane j [] v l h a b = absurd (omega arith)
  store-lane j (c ∷ m) [] l h a b = absurd (omega arith)
  store-lane zero (true ∷ m) (x ∷ v) l h a b = first_of k (bytes_of k x) (store k m v (drop (size k) l)) (length-bytes_of k x)
  store-lane (suc j) (true ∷ m) (x ∷ v) l h a b =
      rw (next_of k j (bytes_of k x) (store k m v (drop (size k) l)) (length-bytes_of k x), next k j l)
      (store-lane j m v (drop (size k) l) (omega (arith, length-drop (size k) l)) (omega arith) (omega arith))
  store-lane zero (false ∷ m) (x ∷ v) l h a b =
      rw (zero-mul (size k)) (take_at (take (size k) l) (store k m v (drop (size k) l)) (size k) (length-take-le (size k) l (omega arith)))
  store-lane (suc j) (false ∷ m) (x ∷ v) l h a b =
      rw (next_of k j (take (size k) l) (store k m v (drop (size k) l)) (length-take-le (size k) l (omega arith)), next k j l)
      (store-lane j m v (drop (size k) l) (omega (arith, length-drop (size k) l)) (omega arith) (omega arith))

load-lane : (k : Kind) (n i a : ℕ) (M : Memory) → Reaches i n → lane 0 (load k n (drop a M)) i ≡ lane_of k (part (a + seat n i * size k) (size k) M)
unfolding lane
load-lane k n i a M h =
    rw (length-load k n (drop a M), ← (drop-drop (seat n i * size k) a M)) (get_or-load k n (seat n i) (drop a M) h)

-- Reading one variable.
module _ (Γ : Declarations) (M : Memory) (x : ℕ) where
  pub fetch-lane : (i : ℕ) → Reaches i (declared Γ x).lanes → lane 0 (fetch Γ M x) i ≡ lane_of (declared Γ x).kind (lane_bytes i (declared Γ x) M)
  unfolding fetch lane_bytes
  fetch-lane i h = load-lane (declared Γ x).kind (declared Γ x).lanes i (declared Γ x).address M h

-- Writing one.
module _ (Γ : Declarations) (M : Memory) (x : ℕ) (m : Mask) (v : Value) (fits : end_of (declared Γ x) ≤ length M)
    (sm : Spreadable (declared Γ x).lanes (length m)) (sv : Spreadable (declared Γ x).lanes (length v)) where
  abbrev d : Declared
  d = declared Γ x

  abbrev w : ℕ
  w = whole d.kind d.lanes

  abbrev new : List ℕ
  new = store d.kind (spread d.lanes m) (spread d.lanes v) (part d.address w M)

  room : length (part d.address w M) ≡ w
  room = length-take-le w (drop d.address M) (omega (arith, length-drop d.address M))

  enough : length (spread d.lanes m) * size d.kind ≤ length (part d.address w M)
  unfolding whole
  enough = rw (length-spread d.lanes m sm) (omega (arith, room))

  length_new : length new ≡ w
  length_new = length-store d.kind (spread d.lanes m) (spread d.lanes v) (part d.address w M) enough ∙ room

  update_is : update Γ M x m v ≡ replaced d.address w new M fits length_new
  unfolding update
  update_is = refl

  inside : (i : ℕ) → Reaches i d.lanes → seat d.lanes i * size d.kind + size d.kind ≤ w
  unfolding whole
  inside i h = omega (arith, mul-le-mul_right (size d.kind) h)

  pub length-update : length (update Γ M x m v) ≡ length M
  length-update = rw update_is (length_replaced d.address w new M fits length_new)

  pub update-lane : (i : ℕ) → Reaches i d.lanes
      → lane_bytes i d (update Γ M x m v) ≡ cond (lane false m i) (bytes_of d.kind (lane 0 v i)) (lane_bytes i d M)
  unfolding lane_bytes
  update-lane i h =
      let k : Kind = d.kind in
      let n : ℕ = d.lanes in
      let j : ℕ = seat n i in
      rw (update_is)
      (part_inside d.address w new M fits length_new (j * size k) (size k) (inside i h)
      ∙ store-lane k j (spread n m) (spread n v) (part d.address w M) enough (omega (arith, length-spread n m sm)) (omega (arith, length-spread n v sv))
      ∙ (λ t. cond (lane-spread false n i m sm h t) (bytes_of k (lane-spread 0 n i v sv h t)) (part-part d.address w M (j * size k) (size k) fits (inside i h) t)))

  pub update_before : (b c : ℕ) → b + c ≤ d.address → part b c (update Γ M x m v) ≡ part b c M
  update_before b c h = rw update_is (part_before d.address w new M fits length_new b c h)

  pub update-after : (b c : ℕ) → end_of d ≤ b → part b c (update Γ M x m v) ≡ part b c M
  update-after b c h = rw update_is (part-after d.address w new M fits length_new b c h)
