-- One text, one lane and one pair of memories: what OneLane and demand 3 ask of them and say are computed tests. So an instance is
-- proved by computation, and so is a refutation, of a definition that breaks them.
use mathlib.Core.Path.{◌≡◌, refl}
use mathlib.Core.Bool.{Bool, true, not, ◌&&◌, ◌||◌}
use mathlib.Core.List.{List, [], ◌∷◌}
use Prim.Native.Nat.{ℕ, zero, suc, ◌<◌}
use native.Mathlib.Omega.{arith}
use lib.Dec.{T, T_not, eqb, leb, ltb, eqb→eq, eqb_refl, leb→le, ltb→lt}
use lib.ListN.{length}
use Rattle.meaning.specs.Tokens.{starts, equal}
use Rattle.meaning.specs.Memory.{Memory, declared}
use Rattle.meaning.specs.Services.{judge, run}
use Rattle.lane.specs.Narrow.{narrow}
use Rattle.lane.specs.Lane.{scalar_free, variables, lane_bytes, reaches, HasLane, HoldsLane, FollowsLane, OneLane}
use Rattle.lane.specs.Demand.{OneLength, OfOneLength, DemandThree}
use Rattle.lane.proofs.Tests.{and_l, and_r, and_both, or_cases, Order, below, same, above, order}

-- Two lists of bytes are the same where the definition finds them equal.
starts_same : (a b : List ℕ) → length a ≡ length b → T (starts a b) → a ≡ b
unfolding starts
starts_same [] [] e t = refl
starts_same [] (d ∷ s) e t = absurd (omega arith)
starts_same (c ∷ l) [] e t = absurd t
starts_same (c ∷ l) (d ∷ s) e t = rw (eqb→eq c d (and_l (eqb c d) (starts l s) t), starts_same l s (omega arith) (and_r (eqb c d) (starts l s) t))

starts_itself : (a : List ℕ) → T (starts a a)
unfolding starts
starts_itself [] = tt
starts_itself (c ∷ l) = and_both (eqb c c) (starts l l) (eqb_refl c) (starts_itself l)

equal_same : (a b : List ℕ) → T (equal a b) → a ≡ b
unfolding equal
equal_same a b t = starts_same a b (eqb→eq (length a) (length b) (and_l (eqb (length a) (length b)) (starts a b) t)) (and_r (eqb (length a) (length b)) (starts a b) t)

same_equal : (a b : List ℕ) → a ≡ b → T (equal a b)
unfolding equal
same_equal a b e = rw e (and_both (eqb (length b) (length b)) (starts b b) (eqb_refl (length b)) (starts_itself b))

-- A test of all numbers below n.
unfoldable pub all_below : ℕ → (ℕ → Bool) → Bool
all_below zero f = true
all_below (suc n) f = f n && all_below n f

each_below : (n : ℕ) (f : ℕ → Bool) → T (all_below n f) → (x : ℕ) → x < n → T (f x)
unfolding all_below
each_below zero f t x l = absurd (omega arith)
each_below (suc n) f t x l = go (order x n) (λ h. each_below n f (and_r (f n) (all_below n f) t) x h)
  where
    go : Order x n → (x < n → T (f x)) → T (f x)
    go (below h) k = k h
    go (same h) k = rw h (and_l (f n) (all_below n f) t)
    go (above h) k = absurd (omega arith)

below_each : (n : ℕ) (f : ℕ → Bool) → ((x : ℕ) → x < n → T (f x)) → T (all_below n f)
unfolding all_below
below_each zero f h = tt
below_each (suc n) f h = and_both (f n) (all_below n f) (h n (omega arith)) (below_each n f (λ x l. h x (omega arith)))

-- Every variable has the lane; two memories hold one lane.
module _ (i : ℕ) (text : List ℕ) where
  unfoldable pub has_lane? : Bool
  has_lane? = all_below (length (variables text)) (λ x. reaches i (declared (variables text) x))

  has_lane : T has_lane? → HasLane i text
  unfolding has_lane?
  has_lane t = record { each = each_below (length (variables text)) _ t }

  unfoldable pub holds_lane? : Memory → Memory → Bool
  holds_lane? M N = all_below (length (variables text)) (λ x. equal (lane_bytes i (declared (variables (narrow text)) x) N) (lane_bytes i (declared (variables text) x) M))

  holds_lane : (M N : Memory) → T (holds_lane? M N) → HoldsLane i text M N
  unfolding holds_lane?
  holds_lane M N t = record { each = λ x l. equal_same _ _ (each_below (length (variables text)) _ t x l) }

  lane-held : (M N : Memory) → HoldsLane i text M N → T (holds_lane? M N)
  unfolding holds_lane?
  lane-held M N h = below_each (length (variables text)) _ (λ x l. same_equal _ _ (h.each x l))

module _ (text : List ℕ) (i budget : ℕ) (M N : Memory) where
  -- What OneLane asks, beside that there is no `scalar`.
  pub record Asked : Type 0 where
    pub has : HasLane i text
    pub ended : (run text M budget).0.code ≡ 0
    pub holds : HoldsLane i text M N

  unfoldable pub asked? : Bool
  asked? = has_lane? i text && (eqb (run text M budget).0.code 0 && holds_lane? i text M N)

  pub asked : T asked? → Asked
  unfolding asked?
  asked t = record {
    has = has_lane i text (search and_l);
    ended = eqb→eq (run text M budget).0.code 0 (search (and_l, and_r));
    holds = holds_lane i text M N (search (and_l, and_r));
  }

  -- What it says of the bytes that are left.
  unfoldable pub follows? : Bool
  follows? = holds_lane? i text (run text M budget).1 (run (narrow text) N budget).1

  pub not_followed : T (not follows?) → FollowsLane i text budget M N → ⊥
  unfolding follows?
  not_followed t f = T_not follows? t (lane-held i text (run text M budget).1 (run (narrow text) N budget).1 f.holds)

  -- The instance of OneLane.
  pub instance : OneLane → T (scalar_free text) → T asked? → FollowsLane i text budget M N
  instance one free t = let a = asked t in one text i budget M N free a.has a.ended a.holds

-- What demand 3 asks of a text whose blocks longer than one all have n lanes.
module _ (n : ℕ) (text : List ℕ) where
  unfoldable pub one_length? : Bool
  one_length? = all_below (length (variables text)) (λ x. leb (declared (variables text) x).lanes 1 || eqb (declared (variables text) x).lanes n)

  one_length : T one_length? → OneLength n text
  unfolding one_length?
  one_length t = record { each = λ x l. one_of (declared (variables text) x).lanes (each_below (length (variables text)) _ t x l) }
    where
      one_of : (m : ℕ) → T (leb m 1 || eqb m n) → 1 < m → m ≡ n
      one_of m t more = or_cases (leb m 1) (eqb m n) (λ h. absurd (omega (arith, leb→le m 1 h))) (eqb→eq m n) t

  unfoldable pub of_one_length? : Bool
  of_one_length? = eqb (judge text).code 0 && (scalar_free text && one_length?)

  pub of_one_length : T of_one_length? → OfOneLength n text
  unfolding of_one_length?
  of_one_length t = record { accepted = eqb→eq (judge text).code 0 (search and_l); no_scalar = search (and_l, and_r); one_length = one_length (search (and_l, and_r)) }

-- The instance of demand 3; and a refutation, of OneLane and of demand 3.
module _ (n : ℕ) (text : List ℕ) (i budget : ℕ) (M N : Memory) (of : T (of_one_length? n text)) where
  pub lane_instance : DemandThree → T (ltb i n) → T (asked? text i budget M N) → FollowsLane i text budget M N
  lane_instance demand l t =
      let a = asked text i budget M N t in
      ((demand n text (of_one_length n text of)).one_lane budget M (record { code = a.ended }) i (ltb→lt i n l)).for_every N a.holds

  pub refutes : T (ltb i n) → T (asked? text i budget M N) → T (not (follows? text i budget M N)) → (OneLane → ⊥) × (DemandThree → ⊥)
  refutes l t u = (
    λ one. not_followed text i budget M N u (instance text i budget M N one (of_one_length n text of).no_scalar t),
    λ demand. not_followed text i budget M N u (lane_instance demand l t),
  )
