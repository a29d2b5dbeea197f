-- What holds of each element of a list holds of each element of its parts, of two lists together, and of what is made of each.
use Prim.Native.Nat.{ℕ, zero, suc, ◌<◌, min}
use mathlib.Core.Path.{◌≡◌, refl}
use mathlib.Core.List.{List, [], ◌∷◌, ◌++◌, map, zip_with}
use native.Mathlib.Omega.{arith}
use lib.ListN.{length, get_or, take, drop, replicate}
use Rattle.laws.specs.Values.{All, no_more, and_one}

-- An element of a list, whatever stands past its end.
pub get_or_inside : {A : Type 0} (l : List A) (i : ℕ) (d e : A) → i < length l → get_or l i d ≡ get_or l i e
get_or_inside [] i d e h = absurd (omega arith)
get_or_inside (x ∷ l) zero d e h = refl
get_or_inside (x ∷ l) (suc i) d e h = get_or_inside l i d e (omega arith)

module _ {A : Type 0} {P : A → Type 0} where
  pub all_at : {l : List A} → All P l → (i : ℕ) (d : A) → i < length l → P (get_or l i d)
  all_at no_more i d h = absurd (omega arith)
  all_at (and_one p a) zero d h = p
  all_at (and_one p a) (suc i) d h = all_at a i d (omega arith)

  pub all_of : (l : List A) (d : A) → ((i : ℕ) → i < length l → P (get_or l i d)) → All P l
  all_of [] d h = no_more
  all_of (x ∷ l) d h = and_one (h 0 (omega arith)) (all_of l d (λ i lt. h (suc i) (omega arith)))

  pub all_take : {l : List A} (n : ℕ) → All P l → All P (take n l)
  all_take zero a = no_more
  all_take (suc n) no_more = no_more
  all_take (suc n) (and_one {x = x} {l = l} p a) = and_one p (all_take {l = l} n a)

  pub all_drop : {l : List A} (n : ℕ) → All P l → All P (drop n l)
  all_drop zero a = a
  all_drop (suc n) no_more = no_more
  all_drop (suc n) (and_one {x = x} {l = l} p a) = all_drop {l = l} n a

  pub all_append : {l r : List A} → All P l → All P r → All P (l ++ r)
  all_append no_more b = b
  all_append (and_one p a) b = and_one p (all_append a b)

  pub all_replicate : (n : ℕ) (x : A) → P x → All P (replicate n x)
  all_replicate zero x p = no_more
  all_replicate (suc n) x p = and_one p (all_replicate n x p)

module _ {A B : Type 0} {P : A → Type 0} {Q : B → Type 0} where
  pub all_map : (f : A → B) {l : List A} → ((x : A) → P x → Q (f x)) → All P l → All Q (map f l)
  all_map f h no_more = no_more
  all_map f h (and_one {x = x} p a) = and_one (h x p) (all_map f h a)

  pub all_zip : {D : Type 0} {R : D → Type 0} (f : A → B → D) {u : List A} {v : List B} → ((x : A) (y : B) → P x → Q y → R (f x y)) → All P u → All Q v → All R (zip_with f u v)
  unfolding zip_with
  all_zip f h no_more b = no_more
  all_zip f h (and_one p a) no_more = no_more
  all_zip f h (and_one {x = x} p a) (and_one {x = y} q b) = and_one (h x y p q) (all_zip f h a b)

-- Elements and lengths of lists that are made from lists, element by element.
pub length_zip : {A B D : Type 0} (f : A → B → D) (u : List A) (v : List B) → length (zip_with f u v) ≡ min (length u) (length v)
unfolding zip_with
length_zip f [] v = omega arith
length_zip f (x ∷ u) [] = omega arith
length_zip f (x ∷ u) (y ∷ v) = omega (arith, length_zip f u v)

pub zip_at : (f : ℕ → ℕ → ℕ) (u v : List ℕ) (i : ℕ) → i < length u → i < length v → get_or (zip_with f u v) i 0 ≡ f (get_or u i 0) (get_or v i 0)
unfolding zip_with
zip_at f [] v i h l = absurd (omega arith)
zip_at f (x ∷ u) [] i h l = absurd (omega arith)
zip_at f (x ∷ u) (y ∷ v) zero h l = refl
zip_at f (x ∷ u) (y ∷ v) (suc i) h l = zip_at f u v i (omega arith) (omega arith)

pub map_at : {A : Type 0} (f : A → ℕ) (l : List A) (i : ℕ) (d : A) → i < length l → get_or (map f l) i 0 ≡ f (get_or l i d)
map_at f [] i d h = absurd (omega arith)
map_at f (x ∷ l) zero d h = refl
map_at f (x ∷ l) (suc i) d h = map_at f l i d (omega arith)
