-- Byte memory holds lanes: a memory of the narrowed program that is alike in lane i reads that lane, and stays alike.
use mathlib.Core.Path.{◌≡◌, refl, sym, ap, ◌∙◌}
use mathlib.Core.Bool.{true, false}
use mathlib.Core.List.{List, [], ◌∷◌}
use Prim.Native.Nat.{ℕ, ◌+◌, ◌*◌, ◌≤◌, ◌<◌}
use native.Mathlib.Nat.{mul-le-mul_right}
use native.Mathlib.Decide.{ℕ_discrete}
use native.Mathlib.Omega.{arith}
use lib.ListN.{length}
use Rattle.meaning.specs.declared.Kind.{Kind}
use Rattle.meaning.specs.Memory.{Memory, Value, Mask, Declarations, declared, size, whole, need, bytes_of, fetch, update}
use Rattle.laws.specs.Lengths.{Spreadable, single}
use Rattle.laws.specs.Declarations.{end_of, Ordered}
use Rattle.laws.proofs.Values.{fetch-length}
use Rattle.lane.specs.Lane.{seat, lane_bytes}
use Rattle.lane.specs.Values.{lane}
use Rattle.lane.proofs.Tests.{Order, below, same, above, order}
use Rattle.lane.proofs.Lanes.{Reaches, reaches_one}
use Rattle.lane.proofs.Programs.{lanes_of}
use Rattle.lane.proofs.Declared.{each-length, thin_declared, Paired}
use Rattle.meaning.specs.Services.{effect}
use Rattle.lane.proofs.Masked.{Still}
use Rattle.lane.proofs.Follow.{Holds, one_true}
use Rattle.lane.proofs.Bytes.{fetch-lane, length-update, update-lane, update_before, update-after}

single_lane : (i : ℕ) (u : Value) → length u ≡ 1 → u ≡ lane 0 u i ∷ []
unfolding lane seat
single_lane i [] e = absurd (omega arith)
single_lane i (x ∷ []) e = refl
single_lane i (x ∷ y ∷ u) e = absurd (omega arith)

-- A write to x leaves every lane of another variable.
module _ (Γ : Declarations) {text : List ℕ} (laid : Ordered text Γ) (i : ℕ) (M : Memory) (long : need Γ ≤ length M) (x : ℕ) (x_in : x < length Γ) (m : Mask) (v : Value)
    (sm : Spreadable (lanes_of Γ x) (length m)) (sv : Spreadable (lanes_of Γ x) (length v)) where
  fits : end_of (declared Γ x) ≤ length M
  fits = omega (arith, laid.laid.ends x x_in)

  still_long : need Γ ≤ length (update Γ M x m v)
  still_long = omega (arith, length-update Γ M x m v fits sm sv)

  lane-end : (y : ℕ) → Reaches i (lanes_of Γ y) → (declared Γ y).address + seat (lanes_of Γ y) i * size (declared Γ y).kind + size (declared Γ y).kind ≤ end_of (declared Γ y)
  unfolding whole
  lane-end y h = omega (arith, mul-le-mul_right (size (declared Γ y).kind) h)

  pub update_other : (y : ℕ) → y < length Γ → Reaches i (lanes_of Γ y) → (y ≡ x → ⊥) → lane_bytes i (declared Γ y) (update Γ M x m v) ≡ lane_bytes i (declared Γ y) M
  unfolding lane_bytes
  update_other y y_in h other = go (order y x)
    where
      from : ℕ
      from = (declared Γ y).address + seat (lanes_of Γ y) i * size (declared Γ y).kind

      go : Order y x → lane_bytes i (declared Γ y) (update Γ M x m v) ≡ lane_bytes i (declared Γ y) M
      go (below l) = update_before Γ M x m v fits sm sv from (size (declared Γ y).kind) (omega (arith, laid.laid.apart y x l x_in, lane-end y h))
      go (same e) = absurd (other e)
      go (above l) = update-after Γ M x m v fits sm sv from (size (declared Γ y).kind) (omega (arith, laid.laid.apart x y l y_in))

-- A memory is long enough, and the bytes of lane i are as wanted.
pub record LaneIs (i : ℕ) (Γ : Declarations) (want : ℕ → List ℕ) (M : Memory) : Type 0 where
  pub long : need Γ ≤ length M
  pub each : (x : ℕ) → x < length Γ → lane_bytes i (declared Γ x) M ≡ want x

-- A write with lane i off leaves its bytes.
pub still_lane : {text : List ℕ} (i : ℕ) (Γ : Declarations) → Ordered text Γ → ((x : ℕ) → x < length Γ → Reaches i (lanes_of Γ x)) → (want : ℕ → List ℕ) → Still Γ i (fetch Γ) (effect Γ) (LaneIs i Γ want)
unfolding effect
still_lane i Γ laid all want = record {
  sized = λ M a x h. fetch-length Γ M x;
  passed = λ M a p. a;
  stays = λ M a p x m v h sm sv off. record {
    long = still_long Γ laid i M a.long x h m v sm sv;
    each = λ y y_in. kept M a.long x m v h sm sv off y y_in (ℕ_discrete y x) ∙ a.each y y_in;
  };
}
  where
    kept : (M : Memory) (l : need Γ ≤ length M) (x : ℕ) (m : Mask) (v : Value) (h : x < length Γ) (sm : Spreadable (lanes_of Γ x) (length m)) (sv : Spreadable (lanes_of Γ x) (length v)) → lane false m i ≡ false
        → (y : ℕ) → y < length Γ → Dec (y ≡ x) → lane_bytes i (declared Γ y) (update Γ M x m v) ≡ lane_bytes i (declared Γ y) M
    kept M l x m v h sm sv off y y_in (yes e) = rw e (update-lane Γ M x m v (fits Γ laid i M l x h m v sm sv) sm sv i (all x h) ∙ rw off)
    kept M l x m v h sm sv off y y_in (no n) = update_other Γ laid i M l x h m v sm sv y y_in (all y y_in) n

-- Lane i of a memory M is what a memory P of the narrowed program holds.
pub record Agree (i : ℕ) (Γ Δ : Declarations) (M P : Memory) : Type 0 where
  pub full : LaneIs i Γ (λ x. lane_bytes i (declared Δ x) P) M
  pub short : need Δ ≤ length P

module _ (text : List ℕ) (i : ℕ) (Γ Δ : Declarations) (pair : Paired text Γ Δ) (all : (x : ℕ) → x < length Γ → Reaches i (lanes_of Γ x)) where
  x_in' : (x : ℕ) → x < length Γ → x < length Δ
  x_in' x h = omega (arith, each-length pair.thin)

  all' : (x : ℕ) → x < length Γ → Reaches i (lanes_of Δ x)
  all' x h = rw (thin_declared pair.thin x).one_lane (reaches_one i)

  still_agree : (P : Memory) → Still Γ i (fetch Γ) (effect Γ) (λ M. Agree i Γ Δ M P)
  unfolding effect
  still_agree P =
      let still = still_lane i Γ pair.laid all (λ x. lane_bytes i (declared Δ x) P) in
      record {
        sized = λ M a x h. still.sized M a.full x h;
        passed = λ M a p. a;
        stays = λ M a p x m v h sm sv off. record { full = still.stays M a.full p x m v h sm sv off; short = a.short };
      }

  read_agree : (M P : Memory) → Agree i Γ Δ M P → (x : ℕ) → x < length Γ → fetch Δ P x ≡ lane 0 (fetch Γ M x) i ∷ []
  read_agree M P a x h =
      single_lane i (fetch Δ P x) (fetch-length Δ P x ∙ (thin_declared pair.thin x).one_lane)
      ∙ ap (λ (n : ℕ). n ∷ []) (fetch-lane Δ P x i (all' x h) ∙ rw (← (a.full.each x h), (thin_declared pair.thin x).same_kind) (sym (fetch-lane Γ M x i (all x h))))

  pub memory_holds : Holds Γ i (fetch Γ) (effect Γ) (fetch Δ) (effect Δ) (Agree i Γ Δ)
  unfolding lane seat effect
  memory_holds = record {
    still = still_agree;
    reads = read_agree;
    steps = λ M P a p. a;
    writes = λ M P a p x m v h sm sv on. record {
      full = record { long = still_long Γ pair.laid i M a.full.long x h m v sm sv; each = λ y y_in. written M P a x m v h sm sv on y y_in (ℕ_discrete y x) };
      short = still_long Δ pair.laid' i P a.short x (x_in' x h) one_true (lane 0 v i ∷ []) (single refl) (single refl);
    };
  }
    where
      written : (M P : Memory) (a : Agree i Γ Δ M P) (x : ℕ) (m : Mask) (v : Value) (h : x < length Γ) (sm : Spreadable (lanes_of Γ x) (length m)) (sv : Spreadable (lanes_of Γ x) (length v)) → lane false m i ≡ true
          → (y : ℕ) → y < length Γ → Dec (y ≡ x) → lane_bytes i (declared Γ y) (update Γ M x m v) ≡ lane_bytes i (declared Δ y) (update Δ P x one_true (lane 0 v i ∷ []))
      written M P a x m v h sm sv on y y_in (yes e) =
          rw (e, update-lane Γ M x m v (fits Γ pair.laid i M a.full.long x h m v sm sv) sm sv i (all x h), on)
          (ap (λ (k : Kind). bytes_of k (lane 0 v i)) (sym (thin_declared pair.thin x).same_kind)
          ∙ sym (update-lane Δ P x one_true (lane 0 v i ∷ []) (fits Δ pair.laid' i P a.short x (x_in' x h) one_true (lane 0 v i ∷ []) (single refl) (single refl)) (single refl) (single refl) i (all' x h)))
      written M P a x m v h sm sv on y y_in (no n) =
          update_other Γ pair.laid i M a.full.long x h m v sm sv y y_in (all y y_in) n
          ∙ a.full.each y y_in
          ∙ sym (update_other Δ pair.laid' i P a.short x (x_in' x h) one_true (lane 0 v i ∷ []) (single refl) (single refl) y (x_in' y y_in) (all' y y_in) n)
