-- Values and masks, read at one lane: what `spread`, `lanewise`, `mask_and` and `mask_and_not` have there.
use mathlib.Core.Path.{◌≡◌, refl, sym, ap, ◌∙◌}
use mathlib.Core.Bool.{true, false, not, ◌&&◌}
use mathlib.Core.List.{List, [], ◌∷◌, map, zip_with}
use Prim.Native.Nat.{ℕ, zero, suc, ◌<◌}
use native.Mathlib.Omega.{arith}
use lib.ListN.{length, get_or, get_or-replicate, length-map}
use Rattle.meaning.specs.Memory.{Value, Mask, truth, spread}
use Rattle.meaning.specs.Running.{lanewise, some_lane, mask_and, mask_and_not}
use Rattle.meaning.specs.Typing.{joined}
use Rattle.laws.specs.Lengths.{Spreadable, single, full, Match, equal, left, right}
use Rattle.laws.proofs.Lengths.{joined_cases}
use Rattle.laws.proofs.Values.{length-spread, spread_one, spread_full, length-zip_with}
use Rattle.lane.specs.Lane.{seat}
use Rattle.lane.specs.Values.{lane}

-- Lane i is one of n.
abbrev pub Reaches : ℕ → ℕ → Type 0
Reaches i n = seat n i < n

pub seat_many : (n i : ℕ) → 1 < n → seat n i ≡ i
unfolding seat
seat_many zero i h = refl
seat_many (suc zero) i h = absurd (omega arith)
seat_many (suc (suc n)) i h = refl

pub reaches_one : (i : ℕ) → Reaches i 1
unfolding seat
reaches_one i = omega arith

pub reaches-below : (i n : ℕ) → i < n → Reaches i n
unfolding seat
reaches-below i zero h = absurd (omega arith)
reaches-below i (suc zero) h = omega arith
reaches-below i (suc (suc n)) h = h

pub reaches-joined : (n m i : ℕ) → Reaches i n → Reaches i m → Reaches i (joined n m)
reaches-joined n m i a b = joined_cases n m (λ k. Reaches i k) (λ h. b) (λ h. a)

-- A spread value.
module _ {A : Type 0} where
  pub lane-spread : (d : A) (n i : ℕ) (u : List A) → Spreadable n (length u) → Reaches i n → get_or (spread n u) (seat n i) d ≡ lane d u i
  unfolding spread lane seat
  lane-spread d n i [] t h = refl
  lane-spread d n i (x ∷ []) t h = get_or-replicate n (seat n i) x d h
  lane-spread d n i (x ∷ y ∷ r) (single e) h = absurd (omega arith)
  lane-spread d n i (x ∷ y ∷ r) (full e) h = ap (λ (j : ℕ). get_or (x ∷ y ∷ r) j d) (seat_many n i (omega arith))

module _ {A B D : Type 0} (f : A → B → D) where
  module _ (a : A) (b : B) (d : D) where
    get_or-zip_with : (j : ℕ) (u : List A) (v : List B) → length u ≡ length v → j < length v → get_or (zip_with f u v) j d ≡ f (get_or u j a) (get_or v j b)
    unfolding zip_with
    get_or-zip_with j [] v e h = absurd (omega arith)
    get_or-zip_with j (x ∷ u) [] e h = absurd (omega arith)
    get_or-zip_with zero (x ∷ u) (y ∷ v) e h = refl
    get_or-zip_with (suc j) (x ∷ u) (y ∷ v) e h = get_or-zip_with j u v (omega arith) (omega arith)

    -- Of two lists, one of them spread to the length of the other.
    module _ (i : ℕ) (u : List A) (v : List B) where
      pub lane_zip_left : Spreadable (length v) (length u) → Reaches i (length v) → lane d (zip_with f (spread (length v) u) v) i ≡ f (lane a u i) (lane b v i)
      unfolding lane
      lane_zip_left t h =
          let e : length (spread (length v) u) ≡ length v = length-spread (length v) u t in
          rw (length-zip_with f (spread (length v) u) v e)
          (get_or-zip_with (seat (length v) i) (spread (length v) u) v e h ∙ ap (λ (x : A). f x (lane b v i)) (lane-spread a (length v) i u t h))

      lane_zip_right : Spreadable (length u) (length v) → Reaches i (length u) → lane d (zip_with f u (spread (length u) v)) i ≡ f (lane a u i) (lane b v i)
      unfolding lane
      lane_zip_right t h =
          let e : length (spread (length u) v) ≡ length u = length-spread (length u) v t in
          rw (length-zip_with f u (spread (length u) v) (sym e), e)
          (get_or-zip_with (seat (length u) i) u (spread (length u) v) (sym e) (rw e h) ∙ ap (λ (y : B). f (lane a u i) y) (lane-spread b (length u) i v t h))

  -- An operator on two values, one of them perhaps replicated.
  module _ (u : List A) (v : List B) where
    pub lane-lanewise : (a : A) (b : B) (d : D) (i : ℕ) → Match (length u) (length v) → Reaches i (length u) → Reaches i (length v)
        → lane d (lanewise f u v) i ≡ f (lane a u i) (lane b v i)
    unfolding lanewise
    lane-lanewise a b d i (equal e) h k = rw (e, spread_full v) (lane_zip_left a b d i u v (full e) k)
    lane-lanewise a b d i (left e) h k = rw (e, spread_one v) (lane_zip_left a b d i u v (single e) k)
    lane-lanewise a b d i (right e) h k = rw (e, spread_one u) (lane_zip_right a b d i u v (single e) h)

-- The masks of the branches of a vector condition.
module _ (m : Mask) (v : Value) (t : Spreadable (length v) (length m)) (i : ℕ) (h : Reaches i (length v)) where
  pub lane-mask_and : lane false (mask_and m v) i ≡ lane false m i && truth (lane 0 v i)
  unfolding mask_and
  lane-mask_and = lane_zip_left (λ c x. c && truth x) false 0 false i m v t h

  pub lane-mask_and_not : lane false (mask_and_not m v) i ≡ lane false m i && not (truth (lane 0 v i))
  unfolding mask_and_not
  lane-mask_and_not = lane_zip_left (λ c x. c && not (truth x)) false 0 false i m v t h

-- A lane that is active is some lane.
pub active_is_some : (i : ℕ) (m : Mask) → lane false m i ≡ true → some_lane m ≡ true
unfolding lane some_lane
active_is_some i m e = go (seat (length m) i) m e
  where
    go : (j : ℕ) (m : Mask) → get_or m j false ≡ true → some_lane m ≡ true
    go j [] e = e
    go zero (c ∷ m) e = rw e
    go (suc j) (true ∷ m) e = refl
    go (suc j) (false ∷ m) e = go j m e

-- What is done to each lane.
pub lane-map : {A : Type 0} (f : A → ℕ) (d : A) (e i : ℕ) (u : List A) → Reaches i (length u) → lane e (map f u) i ≡ f (lane d u i)
unfolding lane
lane-map {A} f d e i u h = rw (length-map u f) (go u (seat (length u) i) h)
  where
    go : (u : List A) (j : ℕ) → j < length u → get_or (map f u) j e ≡ f (get_or u j d)
    go [] j h = absurd (omega arith)
    go (x ∷ u) zero h = refl
    go (x ∷ u) (suc j) h = go u j (omega arith)
