-- There is a memory that holds lane i: one can be filled with any bytes, variable by variable. And every memory that holds it has room.
use mathlib.Core.Path.{◌≡◌, sym, ap, ◌∙◌}
use mathlib.Core.List.{List, [], ◌∷◌, ◌++◌}
use Prim.Native.Nat.{ℕ, zero, suc, ◌+◌, ◌*◌, ◌≤◌, ◌<◌}
use native.Mathlib.Nat.{add-zero, mul-le-mul_right}
use native.Mathlib.Omega.{arith}
use lib.ListN.{length, take, drop, replicate, length-replicate, length-take, length-drop}
use lib.Seq.{take_all, length-take-le}
use Rattle.meaning.specs.declared.Kind.{Kind}
use Rattle.meaning.specs.declared.Kind.TheVariants.{Int as int, Bool as bool, Float as float}
use Rattle.meaning.specs.Memory.{Memory, Declared, Declarations, declared, size, whole, need}
use Rattle.laws.specs.Declarations.{end_of, Ordered}
use Rattle.laws.specs.Values.{All, Bytes}
use Rattle.laws.proofs.Lists.{all_take, all_drop, all_append, all_replicate}
use Rattle.lane.specs.Lane.{seat, lane_bytes}
use Rattle.lane.proofs.Tests.{Order, below, same, above, order}
use Rattle.lane.proofs.Lanes.{Reaches}
use Rattle.lane.proofs.Programs.{lanes_of}
use Rattle.lane.proofs.Bytes.{part, length_replaced, part_inside, part_before}
use Rattle.lane.proofs.Declared.{each-length, thin_declared, Paired}
use Rattle.lane.proofs.Memories.{Agree}

module _ {text : List ℕ} (Δ : Declarations) (laid : Ordered text Δ) (given : ℕ → List ℕ) (sized : (x : ℕ) → x < length Δ → length (given x) ≡ whole (declared Δ x).kind (lanes_of Δ x)) where
  abbrev from : ℕ → ℕ
  from x = (declared Δ x).address

  abbrev width : ℕ → ℕ
  width x = whole (declared Δ x).kind (lanes_of Δ x)

  -- The bytes of the first n variables are those given.
  filled : ℕ → Memory
  filled zero = replicate (need Δ) 0
  filled (suc n) = take (from n) (filled n) ++ (given n ++ drop (width n) (drop (from n) (filled n)))

  length-filled : (n : ℕ) → n ≤ length Δ → length (filled n) ≡ need Δ
  unfolding filled
  length-filled zero h = length-replicate (need Δ) 0
  length-filled (suc n) h =
      let l : length (filled n) ≡ need Δ = length-filled n (omega arith) in
      length_replaced (from n) (width n) (given n) (filled n) (omega (arith, laid.laid.ends n h)) (sized n h) ∙ l

  all_filled : {Q : ℕ → Type 0} → Q 0 → ((x : ℕ) → All Q (given x)) → (n : ℕ) → All Q (filled n)
  unfolding filled
  all_filled z all zero = all_replicate (need Δ) 0 z
  all_filled z all (suc n) =
      let rest = all_filled z all n in
      all_append (all_take (from n) rest) (all_append (all n) (all_drop (width n) (all_drop (from n) rest)))

  filled_at : (n x : ℕ) → x < n → n ≤ length Δ → part (from x) (width x) (filled n) ≡ given x
  unfolding filled
  filled_at zero x h k = absurd (omega arith)
  filled_at (suc n) x h k = go (filled_at n x) (order x n)
    where
      fits : from n + width n ≤ length (filled n)
      fits = omega (arith, laid.laid.ends n k, length-filled n (omega arith))

      go : (x < n → n ≤ length Δ → part (from x) (width x) (filled n) ≡ given x) → Order x n → part (from x) (width x) (filled (suc n)) ≡ given x
      go old (below l) = part_before (from n) (width n) (given n) (filled n) fits (sized n k) (from x) (width x) (laid.laid.apart x n l k) ∙ old l (omega arith)
      go old (same e) =
          rw e
          (ap (λ (k : ℕ). part k (width n) (filled (suc n))) (sym (add-zero (from n)))
          ∙ part_inside (from n) (width n) (given n) (filled n) fits (sized n k) 0 (width n) (omega arith)
          ∙ take_all (width n) (given n) (omega (arith, sized n k)))
      go old (above l) = absurd (omega arith)

-- The one lane of a variable is the whole of it.
one_lane-part : (i : ℕ) (d : Declared) (N : Memory) → d.lanes ≡ 1 → lane_bytes i d N ≡ part d.address (whole d.kind d.lanes) N
unfolding lane_bytes seat whole
one_lane-part i d N e =
    let a : d.address + 0 * size d.kind ≡ d.address = omega arith in
    let w : 1 * size d.kind ≡ size d.kind = omega arith in
    rw (e, a, w)

-- No more is needed than the end of every variable.
need_least : (Δ : Declarations) (n : ℕ) → ((x : ℕ) → x < length Δ → end_of (declared Δ x) ≤ n) → need Δ ≤ n
unfolding need declared
need_least [] n h = omega arith
need_least (d ∷ []) n h = h 0 (omega arith)
need_least (d ∷ e ∷ Δ) n h = need_least (e ∷ Δ) n (λ x l. h (suc x) (omega arith))

some_size : (k : Kind) → 0 < size k
unfolding size
some_size int = omega arith
some_size bool = omega arith
some_size float = omega arith

some_whole : (k : Kind) (n : ℕ) → n ≡ 1 → 0 < whole k n
unfolding whole
some_whole k n e = rw e (omega (arith, some_size k))

-- A memory from which as many bytes can be taken has them.
part_there : (a w : ℕ) (N : Memory) → 0 < w → length (part a w N) ≡ w → a + w ≤ length N
part_there a w N h e = omega (arith, length-take w (drop a N), length-drop a N)

-- A memory for the narrowed declarations that agrees in lane i: of just the bytes that they need, each a byte of M or 0.
pub record Start (i : ℕ) (Γ Δ : Declarations) (M : Memory) : Type 0 where
  pub memory : Memory
  pub as_long : length memory ≡ need Δ
  pub all_bytes : Bytes M → Bytes memory
  pub agree : Agree i Γ Δ M memory

module _ (text : List ℕ) (i : ℕ) (Γ Δ : Declarations) (pair : Paired text Γ Δ) (all : (x : ℕ) → x < length Γ → Reaches i (lanes_of Γ x)) (M : Memory) (long : need Γ ≤ length M) where
  lane-size : (x : ℕ) → x < length Γ → length (lane_bytes i (declared Γ x) M) ≡ size (declared Γ x).kind
  unfolding lane_bytes whole
  lane-size x h =
      let d = declared Γ x in
      let at : ℕ = d.address + seat d.lanes i * size d.kind in
      length-take-le (size d.kind) (drop at M) (omega (arith, length-drop at M, pair.laid.laid.ends x h, mul-le-mul_right (size d.kind) (all x h)))

  thin_size : (x : ℕ) → x < length Δ → length (lane_bytes i (declared Γ x) M) ≡ whole (declared Δ x).kind (lanes_of Δ x)
  unfolding whole
  thin_size x h =
      let t = thin_declared pair.thin x in
      let k : x < length Γ = omega (arith, each-length pair.thin) in
      rw (t.one_lane, t.same_kind) (lane-size x k ∙ omega arith)

  lane_all : {Q : ℕ → Type 0} → All Q M → (x : ℕ) → All Q (lane_bytes i (declared Γ x) M)
  unfolding lane_bytes
  lane_all all x = let d = declared Γ x in all_take (size d.kind) (all_drop (d.address + seat d.lanes i * size d.kind) all)

  pub narrow_start : Start i Γ Δ M
  narrow_start =
      let given : ℕ → List ℕ = λ x. lane_bytes i (declared Γ x) M in
      let N = filled Δ pair.laid' given thin_size (length Δ) in
      let as_long : length N ≡ need Δ = length-filled Δ pair.laid' given thin_size (length Δ) (omega arith) in
      record {
        memory = N;
        as_long = as_long;
        all_bytes = λ all. all_filled Δ pair.laid' given thin_size (omega arith) (lane_all all) (length Δ);
        agree = record {
          full = record {
            long = long;
            each = λ x h. sym (one_lane-part i (declared Δ x) N (thin_declared pair.thin x).one_lane
                ∙ filled_at Δ pair.laid' given thin_size (length Δ) x (omega (arith, each-length pair.thin)) (omega arith));
          };
          short = omega arith;
        };
      }

  -- A memory that holds the lane has room: of each variable the bytes are there, and so those of the last.
  pub held_room : (N : Memory) → ((x : ℕ) → x < length Γ → lane_bytes i (declared Γ x) M ≡ lane_bytes i (declared Δ x) N) → need Δ ≤ length N
  held_room N each = need_least Δ (length N) there
    where
      there : (x : ℕ) → x < length Δ → end_of (declared Δ x) ≤ length N
      there x h =
          let d = declared Δ x in
          let w = whole d.kind d.lanes in
          let one = (thin_declared pair.thin x).one_lane in
          let k : x < length Γ = omega (arith, each-length pair.thin) in
          let e : length (part d.address w N) ≡ w = ap length (sym (each x k ∙ one_lane-part i d N one)) ∙ thin_size x h in
          part_there d.address w N (some_whole d.kind d.lanes one) e
