-- Where the variables of an accepted text lie: in one table, but for the scopes that are open. The judge's need and the listing are its.
use Prim.Native.Nat.{ℕ}
use mathlib.Core.Path.{◌≡◌, refl, ap, sym, ◌∙◌}
use mathlib.Core.List.{List, ◌∷◌}
use lib.ListN.{length, drop}
use Rattle.meaning.specs.Codes.{ok}
use Rattle.meaning.specs.Program.{Program}
use Rattle.meaning.specs.Memory.{Declared, Declarations, need}
use Rattle.meaning.specs.Typing.{shut}
use Rattle.meaning.specs.Services.{answer, verdict, judge, listed, table_of, variables}
use Rattle.laws.specs.Declarations.{Alike, none_yet, both_more}
use Rattle.laws.proofs.Declarations.{alike_length}
use Rattle.rules.specs.Accepted.{Accepted, Placed}
use Rattle.rules.proofs.Laying.{one_table}
use Rattle.rules.proofs.Alike.{alike_back, alike_then}
use Rattle.rules.proofs.Acceptance.{text_becomes, judges}

-- The variables of an accepted text lie somewhere.
pub some_table : (text : List ℕ) (a : Accepted text) → (Γ : Declarations) × ((N : ℕ) × Placed text a Γ N)
some_table text a = let t = text_becomes text a in (t.table, (need t.table, t.lays))

-- The table of `meaning` is any such table, but for the scopes that are open.
pub same_table : (text : List ℕ) (a : Accepted text) (Γ : Declarations) (N : ℕ) → Placed text a Γ N →
    Alike (text_becomes text a).table Γ × (need (text_becomes text a).table ≡ N)
same_table text a Γ N placed = one_table (text_becomes text a).lays placed

-- Two tables of one text have the same names, places, kinds, lengths and addresses, however the text was typed; and need is one.
pub one_layout : (text : List ℕ) (a b : Accepted text) (Γ Δ : Declarations) (N N' : ℕ) → Placed text a Γ N → Placed text b Δ N' →
    Alike Γ Δ × (N ≡ N')
one_layout text a b Γ Δ N N' placed placed' =
    let x = same_table text a Γ N placed in
    let y = same_table text b Δ N' placed' in
    let one : (text_becomes text a).table ≡ (text_becomes text b).table = same (sym (judges text a) ∙ judges text b) in
    (alike_then (alike_back x.0) (rw (← one) at y.0), sym x.1 ∙ (ap need one ∙ y.1))
  where
    same : {P Q : Program} {Γ Δ : Declarations} → ok P Γ ≡ ok Q Δ → Γ ≡ Δ
    same e = cc

-- What the listing tells of a table does not depend on the scopes that are open.
same_listed : {Γ Δ : Declarations} (l : List ℕ) → Alike Γ Δ → listed Γ l ≡ listed Δ l
unfolding listed shut
same_listed l none_yet = refl
same_listed l (both_more {Γ = Γ} s a) = ap (λ (d : Declared). listed (d ∷ Γ) l) (sym s) ∙ simp (same_listed (drop 16 l) a)

module _ (text : List ℕ) (a : Accepted text) (Γ : Declarations) (N : ℕ) (placed : Placed text a Γ N) where
  -- The judge: "need given".
  pub need_by_rules : judge text ≡ answer 0 0 N 0
  unfolding judge verdict answer
  need_by_rules = rw (judges text a, (same_table text a Γ N placed).1)

  -- The listing: a record for each variable, with the address that the rules give it.
  pub listed_by_rules : (records : List ℕ) → variables text records ≡ (answer 0 0 N (length Γ), listed Γ records)
  unfolding variables verdict table_of
  listed_by_rules records =
      let x = same_table text a Γ N placed in
      rw (judges text a, x.1, ← alike_length x.0, same_listed records x.0)
