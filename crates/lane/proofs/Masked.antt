-- A masked-off lane stays: what a run does under a mask that has lane i off leaves what is true of that lane, also where the
-- budget ends first.
use mathlib.Core.Path.{◌≡◌, refl, ◌∙◌}
use mathlib.Core.Bool.{Bool, true, false}
use mathlib.Core.List.{[], ◌∷◌}
use Prim.Native.Nat.{ℕ, zero, suc, ◌≤◌, ◌<◌}
use native.Mathlib.Omega.{arith}
use lib.Dec.{T}
use lib.ListN.{length}
use Rattle.meaning.specs.Codes.{when◌then◌else◌}
use Rattle.meaning.specs.Program.{Code, Program}
use Rattle.meaning.specs.Memory.{Value, Mask, truth, Declarations}
use Rattle.meaning.specs.Running.{value, Event, passes, stores, Ran, stopped, done, Run, and_then, costs, some_lane, mask_and, mask_and_not, unless_empty, branches, while_left, loop, evaluating, testing, run}
use Rattle.meaning.specs.Typing.{joined, width}
use Rattle.laws.specs.Lengths.{Spreadable, Suits, Matched, Fits, fits_nothing, fits_step, fits_put, fits_both, fits_choice, fits_cycle, fits_alone}
use Rattle.laws.proofs.Lengths.{joined_many, matched_suits, mask_spreads, suits_body, joined_body}
use Rattle.laws.proofs.Values.{value-length, length-mask_and, length-mask_and_not}
use Rattle.lane.specs.Values.{lane}
use Rattle.lane.proofs.Tests.{and_l, and_r, false_and}
use Rattle.lane.proofs.Lanes.{Reaches, reaches-joined, lane-mask_and, lane-mask_and_not}
use Rattle.lane.proofs.Programs.{no_alone, lanes_of, reaches-width}

-- `I` is true of states whose variables have the declared lengths, and a write with lane i off leaves it true.
pub record Still {S : Type 0} (Γ : Declarations) (i : ℕ) (get : S → ℕ → Value) (effect : S → Event → S) (I : S → Type 0) : Type 0 where
  pub sized : (σ : S) → I σ → (x : ℕ) → x < length Γ → length (get σ x) ≡ lanes_of Γ x
  pub passed : (σ : S) → I σ → (p : ℕ) → I (effect σ (passes p))
  pub stays : (σ : S) → I σ → (p x : ℕ) (m : Mask) (v : Value) → x < length Γ
      → Spreadable (lanes_of Γ x) (length m) → Spreadable (lanes_of Γ x) (length v) → lane false m i ≡ false → I (effect σ (stores p x m v))

-- The state that a run leaves has `I`, and no more than b steps are left.
abbrev pub Leaves : {S : Type 0} → (S → Type 0) → ℕ → Ran S → Type 0
Leaves I b (stopped c p σ b') = I σ
Leaves I b (done σ b') = I σ × (b' ≤ b)

-- A start with lane i off, in a context of length C: the mask, the budget and what bounds it, and a state with `I`.
pub record Off {S : Type 0} (i : ℕ) (I : S → Type 0) (C : ℕ) : Type 0 where
  pub mask : Mask
  pub budget : ℕ
  pub bound : ℕ
  pub state : S
  pub size : length mask ≡ C
  pub off : lane false mask i ≡ false
  pub within : budget ≤ bound
  pub has : I state

module _ {S : Type 0} (i : ℕ) (I : S → Type 0) where
  -- A run that leaves `I` from each such start.
  abbrev pub Quiet : ℕ → Run S → Type 0
  Quiet C r = (s : Off i I C) → Leaves I s.bound (r s.mask s.budget s.state)

  -- The start of what comes next, and of what runs under another mask.
  off_next : {C : ℕ} (s : Off i I C) (b : ℕ) (σ : S) → b ≤ s.bound → I σ → Off i I C
  off_next s b σ l h = record { mask = s.mask; budget = b; bound = s.bound; state = σ; size = s.size; off = s.off; within = l; has = h }

  off_under : {C : ℕ} (s : Off i I C) (n : ℕ) (m : Mask) → length m ≡ n → lane false m i ≡ false → Off i I n
  off_under s n m z o = record { mask = m; budget = s.budget; bound = s.bound; state = s.state; size = z; off = o; within = s.within; has = s.has }

  stay : (C : ℕ) → Quiet C (λ m b σ. done σ b)
  stay C s = (s.has, s.within)

  after_then : (c : ℕ) (r : Ran S) (k : ℕ → S → Ran S) → Leaves I c r → ((b : ℕ) (σ : S) → b ≤ c → I σ → Leaves I c (k b σ)) → Leaves I c (and_then r k)
  unfolding and_then
  after_then c (stopped c' p σ b) k h f = h
  after_then c (done σ b) k h f = f b σ h.1 h.0

  pub quiet_then : (C : ℕ) (r q : Run S) → Quiet C r → Quiet C q → Quiet C (λ m b σ. and_then (r m b σ) (q m))
  unfolding off_next
  quiet_then C r q h k s = after_then s.bound (r s.mask s.budget s.state) (q s.mask) (h s) (λ b σ l w. k (off_next s b σ l w))

  quiet_costs : (C p : ℕ) (r : Run S) → Quiet C r → Quiet C (costs p r)
  unfolding costs off_next
  quiet_costs C p r h s = go s.budget s.within
    where
      go : (b : ℕ) → b ≤ s.bound → Leaves I s.bound (costs p r s.mask b s.state)
      go zero l = s.has
      go (suc b) l = h (off_next s b s.state (omega arith) s.has)

  pub quiet_unless : (C : ℕ) (r : Run S) → Quiet C r → Quiet C (unless_empty r)
  unfolding unless_empty
  quiet_unless C r h s = go (some_lane s.mask)
    where
      go : (g : Bool) → Leaves I s.bound (when g then (λ _. r s.mask s.budget s.state) else λ _. done s.state s.budget)
      go true = h s
      go false = (s.has, s.within)

  quiet_if : (C : ℕ) (g : Bool) (r q : Run S) → Quiet C r → Quiet C q → Quiet C (λ m b σ. when g then (λ _. r m b σ) else λ _. q m b σ)
  quiet_if C true r q h k = h
  quiet_if C false r q h k = k

  -- Under the two masks of a condition v of more lanes than one.
  module _ (C : ℕ) (v : Value) (fits : Suits C (length v)) (here : Reaches i (length v)) (many : 1 < length v) (r : Run S) (h : Quiet (joined (length v) C) r) where
    spreads : (s : Off i I C) → Spreadable (length v) (length s.mask)
    spreads s = rw s.size (mask_spreads C (length v) fits many)

    quiet_first : Quiet C (λ m b σ. unless_empty r (mask_and m v) b σ)
    unfolding off_under
    quiet_first s =
        quiet_unless (length v) r (rw joined_many at h)
        (off_under s (length v) (mask_and s.mask v) (length-mask_and s.mask v (spreads s)) (lane-mask_and s.mask v (spreads s) i here ∙ false_and _ _ s.off))

    quiet_second : Quiet C (λ m b σ. unless_empty r (mask_and_not m v) b σ)
    unfolding off_under
    quiet_second s =
        quiet_unless (length v) r (rw joined_many at h)
        (off_under s (length v) (mask_and_not s.mask v) (length-mask_and_not s.mask v (spreads s)) (lane-mask_and_not s.mask v (spreads s) i here ∙ false_and _ _ s.off))

  quiet_branches : (C : ℕ) (v : Value) → Suits C (length v) → Reaches i (length v) → (r q : Run S)
      → Quiet (joined (length v) C) r → Quiet (joined (length v) C) q → Quiet C (branches v r q)
  unfolding branches joined off_next
  quiet_branches C [] fits here r q h k s = (s.has, s.within)
  quiet_branches C (x ∷ []) fits here r q h k s = quiet_if C (truth x) r q h k s
  quiet_branches C (x ∷ y ∷ w) fits here r q h k s =
      let v : Value = x ∷ y ∷ w in
      after_then s.bound _ _ (quiet_first C v fits here (omega arith) r h s) (λ b σ l w. quiet_second C v fits here (omega arith) q k (off_next s b σ l w))

  quiet_while_left : (C : ℕ) (v : Value) → Suits C (length v) → Reaches i (length v) → (r : Run S) → Quiet (joined (length v) C) r → Quiet C (while_left v r)
  unfolding while_left joined
  quiet_while_left C [] fits here r h s = (s.has, s.within)
  quiet_while_left C (x ∷ []) fits here r h s = quiet_if C (truth x) r (λ m b σ. done σ b) h (stay C) s
  quiet_while_left C (x ∷ y ∷ w) fits here r h s = quiet_first C (x ∷ y ∷ w) fits here (omega arith) r h s

  -- A test gives values of n lanes.
  abbrev pub QuietTest : ℕ → ((Value → Run S) → Run S) → Type 0
  QuietTest n test = (D : ℕ) (k : Value → Run S) → ((v : Value) → length v ≡ n → Quiet D (k v)) → Quiet D (test k)

  -- The body runs in a context of length B, the tests in D: the loop's own at first, and then B.
  module _ (n B p : ℕ) (here : Reaches i n) (test : (Value → Run S) → Run S) (quiet : QuietTest n test) (r : Run S) (h : Quiet B r) where
    pub quiet_loop : (k D : ℕ) → Suits D n → joined n D ≡ B → Quiet D (loop k p test r)
    unfolding loop
    quiet_loop zero D fits e s = s.has
    quiet_loop (suc k) D fits e s =
        quiet D (λ v. while_left v (λ m b σ. and_then (r m b σ) (loop k p test r m)))
        (λ v z s. quiet_while_left D v (rw z fits) (rw z here) (λ m b σ. and_then (r m b σ) (loop k p test r m))
        (rw (z, e) (quiet_then B r (loop k p test r) h (quiet_loop k B (suits_body D n B e) (joined_body D n B e)))) s)
        s

-- An evaluation by how a variable is read.
abbrev pub by : {S : Type 0} → (S → ℕ → Value) → S → Code → Mask → Value
by get σ e m = value e m (get σ)

module _ {S : Type 0} (Γ : Declarations) (i : ℕ) (get : S → ℕ → Value) (effect : S → Event → S) (I : S → Type 0) (still : Still Γ i get effect I)
    (all : (x : ℕ) → x < length Γ → Reaches i (lanes_of Γ x)) where
  abbrev pub go : Program → Run S
  go = run (by get) effect

  -- A step that evaluates e under the mask n; and a test.
  module _ {C : ℕ} {e : Code} (has : Matched Γ C e) (p : ℕ) (n : Mask) (z : length n ≡ C) where
    pub quiet_evaluating : QuietTest i I (width Γ C e) (evaluating (by get) effect p e n)
    unfolding evaluating
    quiet_evaluating D k h =
        quiet_costs i I D p (λ m b σ. k (value e n (get σ)) m b σ)
        (λ s. h (value e n (get s.state)) (value-length n z (get s.state) (still.sized s.state s.has) has) s)

    pub quiet_testing : QuietTest i I (width Γ C e) (testing (by get) effect p e n)
    unfolding testing off_next
    quiet_testing D k h =
        quiet_evaluating D (λ v m b σ. k v m b (effect σ (passes p)))
        (λ v q s. h v q (off_next i I s s.budget (effect s.state (passes p)) s.within (still.passed s.state s.has p)))

  -- A masked-off lane stays.
  pub run_quiet : {C : ℕ} {P : Program} → Fits Γ C P → T (no_alone P) → Reaches i C → Quiet i I C (go P)
  unfolding run no_alone
  run_quiet fits_nothing free here s = (s.has, s.within)
  run_quiet {C} (fits_step {p = p}) free here s =
      quiet_costs i I C p (λ m b σ. done (effect σ (passes p)) b) (λ s. (still.passed s.state s.has p, s.within)) s
  run_quiet {C} (fits_put {p = p} {x = x} {e = e} x_in t from to) free here s =
      quiet_evaluating t.matched p s.mask s.size C (λ v m b σ. done (effect σ (stores p x m v)) b)
      (λ v z s. (still.stays s.state s.has p x s.mask v x_in (rw s.size from) (rw z to) s.off, s.within))
      s
  run_quiet {C} (fits_both {s = t} {t = u} h k) free here s =
      quiet_then i I C (go t) (go u) (run_quiet h (and_l (no_alone t) (no_alone u) free) here) (run_quiet k (and_r (no_alone t) (no_alone u) free) here) s
  run_quiet {C} (fits_choice {p = p} {e = e} {s = t} {t = u} is h k) free here s =
      let has = is.matched in
      let n = width Γ C e in
      let there : Reaches i n = reaches-width i all here has in
      let body : Reaches i (joined n C) = reaches-joined n C i there here in
      quiet_testing has p s.mask s.size C (λ v. branches v (go t) (go u))
      (λ v z s. quiet_branches i I C v (rw z (matched_suits has)) (rw z there) (go t) (go u)
      (rw z (run_quiet h (and_l (no_alone t) (no_alone u) free) body)) (rw z (run_quiet k (and_r (no_alone t) (no_alone u) free) body)) s)
      s
  run_quiet {C} (fits_cycle {p = p} {e = e} {s = t} is h) free here s =
      let has = is.matched in
      let n = width Γ C e in
      let there : Reaches i n = reaches-width i all here has in
      quiet_loop i I n (joined n C) p there (testing (by get) effect p e s.mask) (quiet_testing has p s.mask s.size)
      (go t) (run_quiet h free (reaches-joined n C i there here)) s.budget C (matched_suits has) refl s
  run_quiet (fits_alone h) free here s = absurd free
