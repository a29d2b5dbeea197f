-- What the verdict of a text makes of the listing of its variables.
use Prim.Native.Nat.{ℕ, zero, suc, ◌≤◌, ◌<◌}
use mathlib.Core.Path.{◌≡◌, refl, sym, ap, ◌∙◌}
use mathlib.Core.List.{List, [], ◌∷◌, map, map-append}
use lib.ListN.{length, drop}
use Rattle.std.specs.declared.result.Result.TheVariants.{Ok, Err}
use Rattle.meaning.specs.Codes.{code}
use Rattle.meaning.specs.Memory.{Declared, Declarations, need}
use Rattle.meaning.specs.Services.{with_numbers, verdict, listed, table_of, variables, variables_call, Kept}
use Rattle.layout.specs.declared.Reached.{Reached}
use Rattle.layout.specs.declared.Refused.{Refused}
use Rattle.layout.specs.Table.{entry, entries}
use Rattle.numbers.specs.Sizes.{four_bytes}
use Rattle.typing_expressions.proofs.Names.{length-entries}
use Rattle.judge.specs.Contract.{JudgesText}
use Rattle.ruihmento.specs.Contract.{with_refusal, Leaves}
use Rattle.ruihmento.proofs.Slices.{not_called, kept, leaves}
use Rattle.ruihmento.proofs.Judging.{is_refused, is_accepted}

-- A record of the listing has no name in it.
nameless : Declared → Declared
nameless d = record { name = []; place = d.place; kind = d.kind; lanes = d.lanes; address = d.address; open? = d.open? }

listed_nameless : (Γ : Declarations) (l : List ℕ) → listed (map nameless Γ) l ≡ listed Γ l
unfolding listed nameless
listed_nameless [] l = refl
listed_nameless (d ∷ Γ) l = rw (listed_nameless Γ (drop 16 l))

entries_nameless : (text table : List ℕ) (n : ℕ) → map nameless (entries text table n) ≡ map nameless (entries [] table n)
unfolding entries entry nameless
entries_nameless text table zero = refl
entries_nameless text table (suc n) =
    rw (map-append nameless (entries text table n), map-append nameless (entries [] table n), entries_nameless text table n)

-- So the text does not matter to it.
listed-entries : (text table : List ℕ) (n : ℕ) (l : List ℕ) → listed (entries [] table n) l ≡ listed (entries text table n) l
listed-entries text table n l =
    sym (listed_nameless (entries [] table n) l)
    ∙ ap (λ (Γ : Declarations). listed Γ l) (sym (entries_nameless text table n))
    ∙ listed_nameless (entries text table n) l

-- A slice without room.
pub variables_not_called : (text table slice : List ℕ) → length slice < four_bytes → Kept (variables_call text table slice) 0 slice table
unfolding variables_call
variables_not_called text table slice h = not_called slice table (variables text table).0 (variables text table).1 h

-- A slice with room.
pub variables-called : (text table slice : List ℕ) {written after : List ℕ} → four_bytes ≤ length slice → Leaves (variables text table) slice written after → Kept (variables_call text table slice) 1 written after
unfolding variables_call
variables-called text table slice h l = kept slice table (variables text table) h l

module _ {text rows words : List ℕ} where
  pub variables_refused : {why : Refused} → JudgesText text rows words (Err why) → (table slice : List ℕ) {written : List ℕ} → written ≡ with_refusal why slice → Leaves (variables text table) slice written table
  unfolding variables verdict table_of with_refusal
  variables_refused {why} g table slice w = leaves _ (code why.refusal) why.place 0 0 (rw (is_refused g)) w

  module _ {reached : Reached} (g : JudgesText text rows words (Ok reached)) where
    pub variables_accepted : (table slice : List ℕ) {after written : List ℕ} {m : ℕ} → ((text : List ℕ) → m ≡ need (entries text rows reached.count)) → after ≡ listed (entries [] rows reached.count) table
        → written ≡ with_numbers (0 ∷ 0 ∷ m ∷ reached.count ∷ []) slice → Leaves (variables text table) slice written after
    unfolding variables verdict table_of
    variables_accepted table slice {m = m} needs e w =
        leaves _ 0 0 m reached.count (rw (is_accepted g, needs text, length-entries text rows reached.count, e, listed-entries text rows reached.count table)) w
