-- Words written one after another: those before them stay, and those written are read.
use mathlib.Core.Path.{◌≡◌, refl, ◌∙◌}
use mathlib.Core.List.{List, [], ◌∷◌}
use Prim.Native.Nat.{ℕ, zero, suc, ◌+◌, ◌≤◌, ◌<◌}
use native.Mathlib.Nat.{add-zero}
use native.Mathlib.Omega.{arith}
use lib.ListN.{length, get_or, set, length-set}
use lib.Seq.{sets, get_or-set_same, get_or-set_other}

pub written_before : (w l : List ℕ) (n i : ℕ) → i < n → get_or (sets l n w) i 0 ≡ get_or l i 0
written_before [] l n i lt = refl
written_before (a ∷ w) l n i lt =
    let ne : i ≡ n → ⊥ = λ e. omega arith in
    written_before w (set l n a) (suc n) i (omega arith) ∙ get_or-set_other l n i a 0 ne

pub written_there : (w l : List ℕ) (n i : ℕ) → n + length w ≤ length l → i < length w → get_or (sets l n w) (n + i) 0 ≡ get_or w i 0
written_there [] l n i le lt = absurd (omega arith)
written_there (a ∷ w) l n zero le lt =
    rw (add-zero n) (written_before w (set l n a) (suc n) n (omega arith) ∙ get_or-set_same l n a 0 (omega arith))
written_there (a ∷ w) l n (suc i) le lt =
    let next : n + suc i ≡ suc n + i = omega arith in
    rw next (written_there w (set l n a) (suc n) i (rw (length-set l n a) (omega arith)) (omega arith))
