-- Slices are compared as names are, and the declarations of a table are searched from the first on.
use Prim.Native.Nat.{ℕ, zero, suc, ◌+◌, ◌<◌}
use native.Mathlib.Omega.{arith}
use native.Mathlib.Numerals.{add-one}
use mathlib.Core.Path.{◌≡◌, refl, sym, ap, ◌∙◌}
use mathlib.Core.Bool.{Bool, true, false, cond, ◌&&◌}
use mathlib.Core.List.{List, [], ◌∷◌, ◌++◌}
use lib.Arith.{lt_of_le-ne}
use lib.Dec.{eqb}
use lib.ListN.{length, get_or, drop, length-append, drop_of_length-le, get_or-append}
use lib.Seq.{drop-cons, get_or_at}
use borrow.Author.Tests.{eqb-true, eqb-false}
use Rattle.std.specs.Bool.{nat_eq}
use Rattle.std.specs.declared.option.Option.{Option as Found}
use Rattle.std.specs.declared.option.Option.TheVariants.{Some}
use Rattle.std.specs.Option.{option_map}
use Rattle.std.specs.Cmp.Lexicographic.{pointwise}
use Rattle.std.specs.List.{find as first, range_with_len}
use mathlib.Core.Option as M
use Rattle.std.proofs.lemmas.Iterator.Adapters.{option_map_id}
use Rattle.meaning.specs.Codes.{when◌then◌else◌}
use Rattle.meaning.specs.Tokens.{equal, starts}
use Rattle.meaning.specs.Tree.{Name}
use Rattle.meaning.specs.Memory.{Declared}
use Rattle.meaning.specs.Typing.{find}
use Rattle.layout.specs.Table.{entry, entries}
use Rattle.typing_expressions.specs.Rows.{spelled, is_named, number_of, Finds}

-- ---- bytes
-- Slices' `==` is the definition's.
pub equal_is : (a b : List ℕ) → pointwise nat_eq a b ≡ equal a b
unfolding equal starts
equal_is [] [] = refl
equal_is [] (y ∷ b) = grind arith
equal_is (x ∷ a) [] = grind arith
equal_is (x ∷ a) (y ∷ b) = let e = equal_is a b in grind arith

-- ---- declarations
module _ (text table : List ℕ) where
  pub length-entries : (n : ℕ) → length (entries text table n) ≡ n
  unfolding entries
  length-entries zero = refl
  length-entries (suc n) = length-append (entries text table n) (entry text table n ∷ []) ∙ rw (length-entries n) (omega arith)

  pub entries_at : (n i : ℕ) (d : Declared) → i < n → get_or (entries text table n) i d ≡ entry text table i
  unfolding entries
  entries_at zero i d h = absurd (omega arith)
  entries_at (suc n) i d h = go (λ l. entries_at n i d l) (eqb i n) refl
    where
      go : (i < n → get_or (entries text table n) i d ≡ entry text table i) → (b : Bool) → eqb i n ≡ b → get_or (entries text table n ++ (entry text table n ∷ [])) i d ≡ entry text table i
      go f true q = rw (eqb-true i n q) (get_or_at (entries text table n) (entry text table n) [] d n (length-entries n))
      go f false q =
          let z = eqb-false i n q in
          let l : i < n = lt_of_le-ne (omega arith) z in
          get_or-append (entries text table n) (entry text table n ∷ []) d i (omega (arith, length-entries n)) ∙ f l

  -- The numbers from k on are searched as the declarations from there on.
  pub searched : (x : Name) (count n k : ℕ) → k + n ≡ count → number_of (first (λ i. is_named text table i x) (range_with_len k n)) ≡ find x k (drop k (entries text table count))
  unfolding number_of find is_named
  searched x count zero k h = rw (drop_of_length-le (entries text table count) {i = k} (omega (arith, length-entries count)))
  searched x count (suc n) k h =
      rw (drop-cons (entries text table count) k (entry text table k) (omega (arith, length-entries count)), entries_at count k (entry text table k) (omega arith))
      (go ((entry text table k).open? && equal (entry text table k).name x) (searched x count n (k + 1) (omega arith)))
    where
      go : (b : Bool) → number_of (first (λ i. is_named text table i x) (range_with_len (k + 1) n)) ≡ find x (k + 1) (drop (k + 1) (entries text table count))
          → number_of (cond b (Some k) (first (λ i. is_named text table i x) (range_with_len (k + 1) n))) ≡ when b then (λ _. M.some k) else λ _. find x (suc k) (drop (suc k) (entries text table count))
      go true e = refl
      go false e = rw (← add-one k) e

pub found : {text table : List ℕ} {count place end : ℕ} {r : Found ℕ} → option_map (λ i. i) r ≡ first (λ i. is_named text table i (spelled text place end)) (range_with_len 0 count)
    → Finds text table count place end r
found {text} {table} {count} {place} {end} {r} e = record { is = ap number_of (sym (option_map_id r) ∙ e) ∙ searched text table (spelled text place end) count count 0 (omega arith) }
