-- Parts of word lists, and heads that are written in front of their parts.
use Prim.Native.Nat.{ℕ, zero, suc, ◌+◌, ◌-◌, ◌≤◌}
use native.Mathlib.Omega.{arith}
use mathlib.Core.Path.{◌≡◌, refl, sym, ap, ◌∙◌}
use mathlib.Core.List.{List, [], ◌∷◌, ◌++◌, append_assoc}
use lib.ListN.{length, take, drop, length-append, length-drop}
use lib.Seq.{sets, sets-eq, length-sets, take_at, drop_at, take-take, drop-drop, take-append-le, take-append-add, length-take-le, take_all, take-append_seam, drop-append_seam}
use Rattle.meaning.specs.Tokens.{the, numbered, reserved, words, signs, marks}
use Rattle.meaning.specs.Program.{step}
use Rattle.layout.specs.Words.{unit, headed}
use Rattle.layout.specs.Code.{program_words}
use Rattle.typing_simple.specs.Shapes.{part}

-- ---- parts
drop-take : (a e : ℕ) (l : List ℕ) → drop a (take e l) ≡ part l a e
drop-take zero e l = let z : e ≡ e - 0 = omega arith in ap (λ n. take n l) z
drop-take (suc a) zero l = let z : 0 - suc a ≡ 0 = omega arith in rw z
drop-take (suc a) (suc e) [] = nil (suc e - suc a)
  where
    nil : (n : ℕ) → ◌≡◌ {A = List ℕ} [] (take n [])
    nil zero = refl
    nil (suc n) = refl
drop-take (suc a) (suc e) (x ∷ l) = let z : suc e - suc a ≡ e - a = omega arith in drop-take a e l ∙ rw z

pub length_part : (l : List ℕ) (a e : ℕ) → a ≤ e → e ≤ length l → length (part l a e) ≡ e - a
length_part l a e p q = length-take-le (e - a) (drop a l) (rw (length-drop a l) (omega arith))

pub rest_long : (l : List ℕ) (k n : ℕ) → k ≤ length l → n + k + length (part l k (length l)) ≡ n + length l
rest_long l k n h = omega (arith, length_part l k (length l) h (omega arith))

-- What stands behind x, up to e.
pub part_of : (l x w : List ℕ) (a e : ℕ) → take e l ≡ x ++ w → length x ≡ a → part l a e ≡ w
part_of l x w a e h q = sym (drop-take a e l) ∙ rw h (drop_at x w a q)

-- Parts one after another: what stands from k on is v and then u, or v alone.
module _ (l v : List ℕ) (k : ℕ) where
  module _ (u : List ℕ) (h : drop k l ≡ v ++ u) where
    pub part_next : part l k (k + length v) ≡ v
    part_next = let z : k + length v - k ≡ length v = omega arith in rw (z, h) (take-append_seam v u)

    pub drop_next : drop (k + length v) l ≡ u
    drop_next = sym (drop-drop (length v) k l) ∙ rw h (drop-append_seam v u)

  pub part_last : drop k l ≡ v → part l k (length l) ≡ v
  part_last h = rw h (take_all (length l - k) v (omega (arith, length-drop k l, ap length h)))

-- ---- code
module _ (code : List ℕ) (n a b c : ℕ) (room : n + 3 ≤ length code) where
  put : sets code n (unit a b c) ≡ (take n code ++ unit a b c) ++ drop (n + 3) code
  put = sets-eq (unit a b c) code n room

  front : length (take n code ++ unit a b c) ≡ n + 3
  front = length-append (take n code) (unit a b c) ∙ rw (length-take-le n code (omega arith))

  pub unit_written : take (n + 3) (sets code n (unit a b c)) ≡ take n code ++ unit a b c
  unit_written = rw put (take_at (take n code ++ unit a b c) (drop (n + 3) code) (n + 3) front)

  unit_rest : drop (n + 3) (sets code n (unit a b c)) ≡ drop (n + 3) code
  unit_rest = rw put (drop_at (take n code ++ unit a b c) (drop (n + 3) code) (n + 3) front)

-- A unit in front of its parts.
pub unit_over : (code : List ℕ) (n a b c end : ℕ) → n + 3 ≤ end → end ≤ length code → take end (sets code n (unit a b c)) ≡ take n code ++ (unit a b c ++ part code (n + 3) end)
unit_over code n a b c end l r =
    let x = take n code ++ unit a b c in
    let z : end ≡ length x + (end - (n + 3)) = omega (arith, front code n a b c (omega arith)) in
    rw (put code n a b c (omega arith)) (ap (λ m. take m (x ++ drop (n + 3) code)) z ∙ take-append-add x (drop (n + 3) code) (end - (n + 3)) ∙ append_assoc (take n code) (unit a b c) (part code (n + 3) end))

pub step_written : (code : List ℕ) (n p : ℕ) → n + 3 ≤ length code → take (n + 3) (sets code n (unit 52 p 0)) ≡ take n code ++ program_words (step p)
unfolding program_words headed the numbered reserved words signs marks
step_written code n p r = unit_written code n 52 p 0 r

pub head_written : (code : List ℕ) (n tag p a b end : ℕ) → n + 6 ≤ end → end ≤ length code
    → take end (sets (sets code n (unit tag p (end - n - 3))) (n + 3) (unit a b 0)) ≡ take n code ++ headed tag p (unit a b 0) (part code (n + 6) end)
unfolding headed
head_written code n tag p a b end l r = rw (put U (n + 3) a b 0 wide, unit_written code n tag p (end - n - 3) (omega arith), behind) (cut ∙ regroup)
  where
    U : List ℕ
    U = sets code n (unit tag p (end - n - 3))

    wide : n + 3 + 3 ≤ length U
    wide = rw (length-sets code n (unit tag p (end - n - 3))) (omega arith)

    behind : drop (n + 3 + 3) U ≡ drop (n + 6) code
    behind = let z : n + 3 + 3 ≡ n + 6 = omega arith in
        sym (drop-drop 3 (n + 3) U) ∙ rw (unit_rest code n tag p (end - n - 3) (omega arith)) (drop-drop 3 (n + 3) code ∙ rw z)

    x : List ℕ
    x = take n code ++ unit tag p (end - n - 3) ++ unit a b 0

    long : length x ≡ n + 6
    long = length-append (take n code ++ unit tag p (end - n - 3)) (unit a b 0) ∙ rw (front code n tag p (end - n - 3) (omega arith)) (omega arith)

    cut : take end (x ++ drop (n + 6) code) ≡ x ++ part code (n + 6) end
    cut = let z : end ≡ length x + (end - (n + 6)) = omega (arith, long) in ap (λ m. take m (x ++ drop (n + 6) code)) z ∙ take-append-add x (drop (n + 6) code) (end - (n + 6))

    regroup : x ++ part code (n + 6) end ≡ take n code ++ (unit tag p (3 + length (part code (n + 6) end)) ++ (unit a b 0 ++ part code (n + 6) end))
    regroup =
        let z : end - n - 3 ≡ 3 + length (part code (n + 6) end) = omega (arith, length_part code (n + 6) end l r) in
        rw (← z) (simp append_assoc)

-- What was written behind the words before, and then behind that.
pub then : (before : List ℕ) {a b : List ℕ} (x y : List ℕ) → a ≡ before ++ x → b ≡ a ++ y → b ≡ before ++ (x ++ y)
then before x y p q = q ∙ rw p (append_assoc before x y)

-- The words before a head of k words stay, and behind it stand its parts.
module _ (c₀ c w : List ℕ) (n k end : ℕ) (h : take end c ≡ take (n + k) c₀ ++ w) (l : n + k ≤ end) (r : n + k ≤ length c₀) where
  pub kept : take n c ≡ take n c₀
  kept =
      sym (take-take n end c (omega arith)) ∙ rw h (take-append-le n (take (n + k) c₀) w (rw (length-take-le (n + k) c₀ r) (omega arith)) ∙ take-take n (n + k) c₀ (omega arith))

  pub inside : part c (n + k) end ≡ w
  inside = part_of c (take (n + k) c₀) w (n + k) end h (length-take-le (n + k) c₀ r)

-- How many words were written.
pub long_of : (c₀ c w : List ℕ) (n end : ℕ) → take end c ≡ take n c₀ ++ w → end ≤ length c → n ≤ length c₀ → end ≡ n + length w
long_of c₀ c w n end h l r = sym (length-take-le end c l) ∙ ap length h ∙ length-append (take n c₀) w ∙ rw (length-take-le n c₀ r)
