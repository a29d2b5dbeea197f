-- One printing after another is one printing of both. Assumes nothing.
use Prim.Native.Nat.{ℕ}
use mathlib.Core.Path.{◌≡◌, refl}
use mathlib.Core.List.{List, [], ◌++◌}
use native.Mathlib.Omega.{arith}
use lib.ListN.{length, length-append}
use lib.Seq.{length-sets}
use Rattle.numbers.proofs.Stores.{sets-append}
use Rattle.print.specs.Printed.{Printed}

pub printed_none : (page : List ℕ) (at : ℕ) → Printed page at [] page at
printed_none page at = record { page_is = refl; next_is = omega arith }

pub printed_both : {a b c : List ℕ} {i j k : ℕ} {u v : List ℕ} → Printed a i u b j → Printed b j v c k → Printed a i (u ++ v) c k
printed_both {a} {b} {c} {i} {j} {k} {u} {v} p q =
    record {
      page_is = rw (q.page_is, p.page_is) (sets-append u v a i j p.next_is);
      next_is = simp length-append (omega (arith, p.next_is, q.next_is));
    }

-- The page keeps its length.
pub printed_length : {a b : List ℕ} {i j : ℕ} {u : List ℕ} → Printed a i u b j → length b ≡ length a
printed_length {a} {b} {i} {j} {u} p = rw p.page_is (length-sets a i u)

-- The same bytes, said otherwise.
pub printed_as : {a b : List ℕ} {i j : ℕ} {u v : List ℕ} → u ≡ v → Printed a i u b j → Printed a i v b j
printed_as e p = rw e at p
