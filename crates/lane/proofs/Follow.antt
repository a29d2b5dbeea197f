-- One lane of a run is the run of that lane: over any two states of which one holds lane i of the other, the narrow run ends
-- where the full run does, in no more steps, and still holds that lane.
use mathlib.Core.Path.{◌≡◌, refl, ◌∙◌}
use mathlib.Core.Bool.{Bool, true, false, not}
use mathlib.Core.List.{[], ◌∷◌}
use Prim.Native.Nat.{ℕ, zero, suc, ◌≤◌, ◌<◌}
use native.Mathlib.Omega.{arith}
use lib.Dec.{T}
use lib.ListN.{length}
use Rattle.meaning.specs.Codes.{when◌then◌else◌}
use Rattle.meaning.specs.Program.{Code, Program}
use Rattle.meaning.specs.Memory.{Value, Mask, truth, Declarations}
use Rattle.meaning.specs.Running.{value, Event, passes, stores, Ran, stopped, done, Run, and_then, costs, mask_and, mask_and_not, unless_empty, branches, while_left, loop, evaluating, testing, run}
use Rattle.meaning.specs.Typing.{joined, width}
use Rattle.laws.specs.Lengths.{Spreadable, Suits, Matched, Fits, fits_nothing, fits_step, fits_put, fits_both, fits_choice, fits_cycle, fits_alone}
use Rattle.laws.proofs.Lengths.{joined_many, matched_suits, mask_spreads, suits_body, joined_body}
use Rattle.laws.proofs.Values.{value-length, length-mask_and, length-mask_and_not}
use Rattle.lane.specs.Lane.{seat}
use Rattle.lane.specs.Values.{lane}
use Rattle.lane.proofs.Tests.{and_l, and_r}
use Rattle.lane.proofs.Lanes.{Reaches, reaches-joined, lane-mask_and, lane-mask_and_not, active_is_some}
use Rattle.lane.proofs.Programs.{no_alone, lanes_of, reaches-width}
use Rattle.lane.proofs.Values.{value-lane}
use Rattle.lane.proofs.Masked.{Still, Leaves, Off, Quiet, quiet_then, quiet_unless, QuietTest, quiet_loop, quiet_testing, by, run_quiet}

-- One true lane.
abbrev pub one_true : Mask
one_true = true ∷ []

-- `R σ τ`: the narrow state τ holds lane i of the full state σ. It reads that lane, follows a write with that lane on, and has
-- nothing to do at one with that lane off.
pub record Holds {S S' : Type 0} (Γ : Declarations) (i : ℕ) (get : S → ℕ → Value) (effect : S → Event → S)
    (get' : S' → ℕ → Value) (effect' : S' → Event → S') (R : S → S' → Type 0) : Type 0 where
  pub still : (τ : S') → Still Γ i get effect (λ σ. R σ τ)
  pub reads : (σ : S) (τ : S') → R σ τ → (x : ℕ) → x < length Γ → get' τ x ≡ lane 0 (get σ x) i ∷ []
  pub steps : (σ : S) (τ : S') → R σ τ → (p : ℕ) → R (effect σ (passes p)) (effect' τ (passes p))
  pub writes : (σ : S) (τ : S') → R σ τ → (p x : ℕ) (m : Mask) (v : Value) → x < length Γ → Spreadable (lanes_of Γ x) (length m) → Spreadable (lanes_of Γ x) (length v)
      → lane false m i ≡ true → R (effect σ (stores p x m v)) (effect' τ (stores p x one_true (lane 0 v i ∷ [])))

-- What ends is followed, with no fewer steps left.
abbrev pub Followed : {S S' : Type 0} → (S → S' → Type 0) → Ran S → Ran S' → Type 0
Followed R (stopped c p σ b) o = Unit {0}
Followed R (done σ b) (stopped c p τ b') = ⊥
Followed R (done σ b) (done τ c) = R σ τ × (b ≤ c)

-- A start with lane i on, in a context of length C: the mask, the two budgets and the two states.
pub record On {S S' : Type 0} (i : ℕ) (R : S → S' → Type 0) (C : ℕ) : Type 0 where
  pub mask : Mask
  pub budget : ℕ
  pub budget' : ℕ
  pub state : S
  pub state' : S'
  pub size : length mask ≡ C
  pub on : lane false mask i ≡ true
  pub within : budget ≤ budget'
  pub holds : R state state'

module _ {S S' : Type 0} (i : ℕ) (R : S → S' → Type 0) where
  -- From each such start r' follows r.
  abbrev pub Follows : ℕ → Run S → Run S' → Type 0
  Follows C r r' = (s : On i R C) → Followed R (r s.mask s.budget s.state) (r' one_true s.budget' s.state')

  -- Where lane i is off, r leaves what R says of each narrow state.
  abbrev pub Rests : ℕ → Run S → Type 0
  Rests C r = (τ : S') → Quiet i (λ σ. R σ τ) C r

  -- The start of what comes next, and of what runs under another mask with lane i on, or off.
  on_next : {C : ℕ} (s : On i R C) (b c : ℕ) (σ : S) (τ : S') → b ≤ c → R σ τ → On i R C
  on_next s b c σ τ l h = record { mask = s.mask; budget = b; budget' = c; state = σ; state' = τ; size = s.size; on = s.on; within = l; holds = h }

  on_under : {C : ℕ} (s : On i R C) (n : ℕ) (m : Mask) → length m ≡ n → lane false m i ≡ true → On i R n
  on_under s n m z o = record { mask = m; budget = s.budget; budget' = s.budget'; state = s.state; state' = s.state'; size = z; on = o; within = s.within; holds = s.holds }

  off_under : {C : ℕ} (s : On i R C) (n : ℕ) (m : Mask) → length m ≡ n → lane false m i ≡ false → Off i (λ σ. R σ s.state') n
  off_under s n m z o = record { mask = m; budget = s.budget; bound = s.budget'; state = s.state; size = z; off = o; within = s.within; has = s.holds }

  stay : (C : ℕ) → Follows C (λ m b σ. done σ b) (λ m b τ. done τ b)
  stay C s = (s.holds, s.within)

  after_then : (r : Ran S) (r' : Ran S') (k : ℕ → S → Ran S) (k' : ℕ → S' → Ran S') → Followed R r r'
      → ((b c : ℕ) (σ : S) (τ : S') → b ≤ c → R σ τ → Followed R (k b σ) (k' c τ)) → Followed R (and_then r k) (and_then r' k')
  unfolding and_then
  after_then (stopped c p σ b) r' k k' h f = tt
  after_then (done σ b) (stopped c p τ b') k k' h f = absurd h
  after_then (done σ b) (done τ c) k k' h f = f b c σ τ h.1 h.0

  follow_then : (C : ℕ) (r q : Run S) (r' q' : Run S') → Follows C r r' → Follows C q q' → Follows C (λ m b σ. and_then (r m b σ) (q m)) (λ m b τ. and_then (r' m b τ) (q' m))
  unfolding on_next
  follow_then C r q r' q' h k s =
      after_then (r s.mask s.budget s.state) (r' one_true s.budget' s.state') (q s.mask) (q' one_true) (h s) (λ b c σ τ l w. k (on_next s b c σ τ l w))

  -- What the full run does alone: only that, afterwards, and before.
  full_alone : (r : Ran S) (τ : S') (c : ℕ) → Leaves (λ σ. R σ τ) c r → Followed R r (done τ c)
  full_alone (stopped c' p σ b) τ c h = tt
  full_alone (done σ b) τ c h = h

  full_after : (r : Ran S) (r' : Ran S') (k : ℕ → S → Ran S) → Followed R r r'
      → ((b c : ℕ) (σ : S) (τ : S') → b ≤ c → R σ τ → Leaves (λ σ. R σ τ) c (k b σ)) → Followed R (and_then r k) r'
  unfolding and_then
  full_after (stopped c p σ b) r' k h f = tt
  full_after (done σ b) (stopped c p τ b') k h f = absurd h
  full_after (done σ b) (done τ c) k h f = full_alone (k b σ) τ c (f b c σ τ h.1 h.0)

  full_before : (τ : S') (c : ℕ) (r : Ran S) (r' : Ran S') (k : ℕ → S → Ran S) → Leaves (λ σ. R σ τ) c r
      → ((b : ℕ) (σ : S) → b ≤ c → R σ τ → Followed R (k b σ) r') → Followed R (and_then r k) r'
  unfolding and_then
  full_before τ c (stopped c' p σ b) r' k h f = tt
  full_before τ c (done σ b) r' k h f = f b σ h.1 h.0

  follow_costs : (C p : ℕ) (r : Run S) (r' : Run S') → Follows C r r' → Follows C (costs p r) (costs p r')
  unfolding costs on_next
  follow_costs C p r r' h s = go s.budget s.budget' s.within
    where
      go : (b c : ℕ) → b ≤ c → Followed R (costs p r s.mask b s.state) (costs p r' one_true c s.state')
      go zero c l = tt
      go (suc b) zero l = absurd (omega arith)
      go (suc b) (suc c) l = h (on_next s b c s.state s.state' (omega arith) s.holds)

  follow_if : (C : ℕ) (g : Bool) (r q : Run S) (r' q' : Run S') → Follows C r r' → Follows C q q'
      → Follows C (λ m b σ. when g then (λ _. r m b σ) else λ _. q m b σ) (λ m b σ. when g then (λ _. r' m b σ) else λ _. q' m b σ)
  follow_if C true r q r' q' h k = h
  follow_if C false r q r' q' h k = k

  -- A condition v of more lanes than one: lane i goes into one of the branches, and is off in the other.
  module _ (C : ℕ) (v : Value) (fits : Suits C (length v)) (here : Reaches i (length v)) (many : 1 < length v) (s : On i R C) where
    spreads : Spreadable (length v) (length s.mask)
    spreads = rw s.size (mask_spreads C (length v) fits many)

    in_first : (g : Bool) → truth (lane 0 v i) ≡ g → lane false (mask_and s.mask v) i ≡ g
    in_first g e = lane-mask_and s.mask v spreads i here ∙ rw (s.on, e)

    in_second : (g : Bool) → truth (lane 0 v i) ≡ g → lane false (mask_and_not s.mask v) i ≡ not g
    in_second g e = lane-mask_and_not s.mask v spreads i here ∙ rw (s.on, e)

    module _ (r : Run S) (rests : Rests (joined (length v) C) r) where
      rest_first : truth (lane 0 v i) ≡ false → Leaves (λ σ. R σ s.state') s.budget' (unless_empty r (mask_and s.mask v) s.budget s.state)
      unfolding off_under
      rest_first e =
          quiet_unless i (λ σ. R σ s.state') (length v) r (rw joined_many at (rests s.state'))
          (off_under s (length v) (mask_and s.mask v) (length-mask_and s.mask v spreads) (in_first false e))

      rest_second : truth (lane 0 v i) ≡ true → Leaves (λ σ. R σ s.state') s.budget' (unless_empty r (mask_and_not s.mask v) s.budget s.state)
      unfolding off_under
      rest_second e =
          quiet_unless i (λ σ. R σ s.state') (length v) r (rw joined_many at (rests s.state'))
          (off_under s (length v) (mask_and_not s.mask v) (length-mask_and_not s.mask v spreads) (in_second true e))

    module _ (r : Run S) (r' : Run S') (follows : Follows (joined (length v) C) r r') where
      follow_first : truth (lane 0 v i) ≡ true → Followed R (unless_empty r (mask_and s.mask v) s.budget s.state) (r' one_true s.budget' s.state')
      unfolding unless_empty on_under
      follow_first e =
          let a = in_first true e in
          rw (active_is_some i (mask_and s.mask v) a) ((rw joined_many at follows) (on_under s (length v) (mask_and s.mask v) (length-mask_and s.mask v spreads) a))

      follow_second : truth (lane 0 v i) ≡ false → Followed R (unless_empty r (mask_and_not s.mask v) s.budget s.state) (r' one_true s.budget' s.state')
      unfolding unless_empty on_under
      follow_second e =
          let a = in_second false e in
          rw (active_is_some i (mask_and_not s.mask v) a) ((rw joined_many at follows) (on_under s (length v) (mask_and_not s.mask v) (length-mask_and_not s.mask v spreads) a))

  follow_branches : (C : ℕ) (v : Value) → Suits C (length v) → Reaches i (length v) → (r q : Run S) (r' q' : Run S') → Rests (joined (length v) C) r → Rests (joined (length v) C) q
      → Follows (joined (length v) C) r r' → Follows (joined (length v) C) q q' → Follows C (branches v r q) (branches (lane 0 v i ∷ []) r' q')
  unfolding branches joined lane seat on_next
  follow_branches C [] fits here r q r' q' rest rest' h k s = absurd (omega arith)
  follow_branches C (x ∷ []) fits here r q r' q' rest rest' h k s = follow_if C (truth x) r q r' q' h k s
  follow_branches C (x ∷ y ∷ u) fits here r q r' q' rest rest' h k s = go (truth (lane 0 v i)) refl
    where
      v : Value
      v = x ∷ y ∷ u

      many : 1 < length v
      many = omega arith

      first : Ran S
      first = unless_empty r (mask_and s.mask v) s.budget s.state

      second : ℕ → S → Ran S
      second b σ = unless_empty q (mask_and_not s.mask v) b σ

      go : (g : Bool) → truth (lane 0 v i) ≡ g → Followed R (and_then first second) (when g then (λ _. r' one_true s.budget' s.state') else λ _. q' one_true s.budget' s.state')
      go true e =
          full_after first (r' one_true s.budget' s.state') second (follow_first C v fits here many s r r' h e)
          (λ b c σ τ l w. rest_second C v fits here many (on_next s b c σ τ l w) q rest' e)
      go false e =
          full_before s.state' s.budget' first (q' one_true s.budget' s.state') second (rest_first C v fits here many s r rest e)
          (λ b σ l w. follow_second C v fits here many (on_next s b s.budget' σ s.state' l w) q q' k e)

  follow_while_left : (C : ℕ) (v : Value) → Suits C (length v) → Reaches i (length v) → (r : Run S) (r' : Run S') → Rests (joined (length v) C) r
      → Follows (joined (length v) C) r r' → Follows C (while_left v r) (while_left (lane 0 v i ∷ []) r')
  unfolding while_left joined lane seat
  follow_while_left C [] fits here r r' rest h s = absurd (omega arith)
  follow_while_left C (x ∷ []) fits here r r' rest h s = follow_if C (truth x) r (λ m b σ. done σ b) r' (λ m b τ. done τ b) h (stay C) s
  follow_while_left C (x ∷ y ∷ u) fits here r r' rest h s = go (truth (lane 0 v i)) refl
    where
      v : Value
      v = x ∷ y ∷ u

      many : 1 < length v
      many = omega arith

      first : Ran S
      first = unless_empty r (mask_and s.mask v) s.budget s.state

      go : (g : Bool) → truth (lane 0 v i) ≡ g → Followed R first (when g then (λ _. r' one_true s.budget' s.state') else λ _. done s.state' s.budget')
      go true e = follow_first C v fits here many s r r' h e
      go false e = full_alone first s.state' s.budget' (rest_first C v fits here many s r rest e)

  -- A test gives values of n lanes, and the other test lane i of each.
  abbrev pub FollowTest : ℕ → ((Value → Run S) → Run S) → ((Value → Run S') → Run S') → Type 0
  FollowTest n test test' =
      (D : ℕ) (k : Value → Run S) (k' : Value → Run S') → ((v : Value) → length v ≡ n → Follows D (k v) (k' (lane 0 v i ∷ []))) → Follows D (test k) (test' k')

  -- The body runs in a context of length B, the tests in D: the loop's own at first, and then B.
  module _ (n B p : ℕ) (here : Reaches i n) (test : (Value → Run S) → Run S) (test' : (Value → Run S') → Run S') (follows : FollowTest n test test')
      (quiet : (τ : S') → QuietTest i (λ σ. R σ τ) n test) (r : Run S) (r' : Run S') (rests : Rests B r) (h : Follows B r r') where
    follow_loop : (k k' D : ℕ) → k ≤ k' → Suits D n → joined n D ≡ B → Follows D (loop k p test r) (loop k' p test' r')
    unfolding loop
    follow_loop zero k' D g fits e s = tt
    follow_loop (suc k) zero D g fits e s = absurd (omega arith)
    follow_loop (suc k) (suc k') D g fits e s =
        let fits' = suits_body D n B e in
        let same' = joined_body D n B e in
        follows D (λ v. while_left v (λ m b σ. and_then (r m b σ) (loop k p test r m))) (λ v. while_left v (λ m b τ. and_then (r' m b τ) (loop k' p test' r' m)))
        (λ v z s. follow_while_left D v (rw z fits) (rw z here) (λ m b σ. and_then (r m b σ) (loop k p test r m)) (λ m b τ. and_then (r' m b τ) (loop k' p test' r' m))
        (rw (z, e) (λ τ. quiet_then i (λ σ. R σ τ) B r (loop k p test r) (rests τ) (quiet_loop i (λ σ. R σ τ) n B p here test (quiet τ) r (rests τ) k B fits' same')))
        (rw (z, e) (follow_then B r (loop k p test r) r' (loop k' p test' r') h (follow_loop k k' B (omega arith) fits' same'))) s)
        s

module _ {S S' : Type 0} (Γ : Declarations) (i : ℕ) (all : (x : ℕ) → x < length Γ → Reaches i (lanes_of Γ x))
    (get : S → ℕ → Value) (effect : S → Event → S) (get' : S' → ℕ → Value) (effect' : S' → Event → S')
    (R : S → S' → Type 0) (holds : Holds Γ i get effect get' effect' R) where
  abbrev go : Program → Run S
  go = run (by get) effect

  abbrev go' : Program → Run S'
  go' = run (by get') effect'

  rests : {C : ℕ} {P : Program} → Fits Γ C P → T (no_alone P) → Reaches i C → Rests i R C (go P)
  rests h free here τ = run_quiet Γ i get effect (λ σ. R σ τ) (holds.still τ) all h free here

  -- A step that evaluates e, and a test: of the value lane i.
  module _ {C : ℕ} (here : Reaches i C) {e : Code} (has : Matched Γ C e) (p : ℕ) (m : Mask) (z : length m ≡ C) (on : lane false m i ≡ true) where
    follow_evaluating : FollowTest i R (width Γ C e) (evaluating (by get) effect p e m) (evaluating (by get') effect' p e one_true)
    unfolding evaluating
    follow_evaluating D k k' h =
        follow_costs i R D p (λ m' b σ. k (value e m (get σ)) m' b σ) (λ m' b τ. k' (value e one_true (get' τ)) m' b τ)
        (λ s. let σ = s.state in let τ = s.state' in let w = s.holds in
        rw (rw on at (value-lane m z (get σ) ((holds.still τ).sized σ w) i here all (get' τ) (holds.reads σ τ w) has))
        (h (value e m (get σ)) (value-length m z (get σ) ((holds.still τ).sized σ w) has) s))

    follow_testing : FollowTest i R (width Γ C e) (testing (by get) effect p e m) (testing (by get') effect' p e one_true)
    unfolding testing on_next
    follow_testing D k k' h =
        follow_evaluating D (λ v m b σ. k v m b (effect σ (passes p))) (λ v m b τ. k' v m b (effect' τ (passes p)))
        (λ v q s. h v q (on_next i R s s.budget s.budget' (effect s.state (passes p)) (effect' s.state' (passes p)) s.within (holds.steps s.state s.state' s.holds p)))

  -- The narrow run follows.
  pub run_follows : {C : ℕ} {P : Program} → Fits Γ C P → T (no_alone P) → Reaches i C → Follows i R C (go P) (go' P)
  unfolding run no_alone
  run_follows fits_nothing free here s = (s.holds, s.within)
  run_follows {C} (fits_step {p = p}) free here s =
      follow_costs i R C p (λ m b σ. done (effect σ (passes p)) b) (λ m b τ. done (effect' τ (passes p)) b) (λ s. (holds.steps s.state s.state' s.holds p, s.within)) s
  run_follows {C} (fits_put {p = p} {x = x} {e = e} x_in t from to) free here s =
      follow_evaluating here t.matched p s.mask s.size s.on C (λ v m b σ. done (effect σ (stores p x m v)) b) (λ v m b τ. done (effect' τ (stores p x m v)) b)
      (λ v z s. (holds.writes s.state s.state' s.holds p x s.mask v x_in (rw s.size from) (rw z to) s.on, s.within))
      s
  run_follows {C} (fits_both {s = t} {t = u} h k) free here s =
      follow_then i R C (go t) (go u) (go' t) (go' u)
      (run_follows h (and_l (no_alone t) (no_alone u) free) here) (run_follows k (and_r (no_alone t) (no_alone u) free) here) s
  run_follows {C} (fits_choice {p = p} {e = e} {s = t} {t = u} is h k) free here s =
      let has = is.matched in
      let n = width Γ C e in
      let there : Reaches i n = reaches-width i all here has in
      let body : Reaches i (joined n C) = reaches-joined n C i there here in
      let free_t : T (no_alone t) = and_l (no_alone t) (no_alone u) free in
      let free_u : T (no_alone u) = and_r (no_alone t) (no_alone u) free in
      follow_testing here has p s.mask s.size s.on C (λ v. branches v (go t) (go u)) (λ v. branches v (go' t) (go' u))
      (λ v z s. follow_branches i R C v (rw z (matched_suits has)) (rw z there) (go t) (go u) (go' t) (go' u)
      (rw z (rests h free_t body)) (rw z (rests k free_u body)) (rw z (run_follows h free_t body)) (rw z (run_follows k free_u body)) s)
      s
  run_follows {C} (fits_cycle {p = p} {e = e} {s = t} is h) free here s =
      let has = is.matched in
      let n = width Γ C e in
      let there : Reaches i n = reaches-width i all here has in
      let body : Reaches i (joined n C) = reaches-joined n C i there here in
      follow_loop i R n (joined n C) p there (testing (by get) effect p e s.mask) (testing (by get') effect' p e one_true)
      (follow_testing here has p s.mask s.size s.on)
      (λ τ. quiet_testing Γ i get effect (λ σ. R σ τ) (holds.still τ) all has p s.mask s.size)
      (go t) (go' t) (rests h free body) (run_follows h free body)
      s.budget s.budget' C s.within (matched_suits has) refl s
  run_follows (fits_alone h) free here s = absurd free
