-- What is put into a slot of the stack stands there, and the slots under it stay as they were.
use Prim.Native.Nat.{ℕ, zero, suc, ◌+◌, ◌*◌, ◌≤◌, ◌<◌}
use native.Mathlib.Omega.{arith}
use native.Mathlib.Numerals.{add-one}
use mathlib.Core.Path.{◌≡◌, refl}
use mathlib.Core.List.{List, ◌∷◌}
use lib.ListN.{length, get_or}
use Rattle.meaning.specs.declared.Kind.{Kind}
use Rattle.meaning.specs.Codes.{ok, refused}
use Rattle.meaning.specs.Tree.{kind_number}
use Rattle.meaning.specs.Memory.{Declarations}
use Rattle.layout.specs.Stack.{slot_kind, slot_lanes, with_slot}
use Rattle.layout.specs.Table.{kind_of}
use Rattle.layout.specs.declared.Reached.{Reached}
use Rattle.layout.specs.declared.Refused.{Refused}
use Rattle.std.specs.declared.result.Result.TheVariants.{Ok, Err}
use Rattle.layout.proofs.KindNumbers.{kind_back}
use Rattle.typing_expressions.specs.declared.Point.{Point}
use Rattle.typing_expressions.specs.Nodes.{TreeNode, entry_at, Slot, step, slots}
use Rattle.typing_expressions.specs.Answers.{entry_out, TypesNode}
use Rattle.typing_expressions.proofs.Tables.{unit_0, unit_1, unit_2, unit-other}

module _ (st : List ℕ) (b : ℕ) where
  module _ (x n w : ℕ) where
    slot_other : (j : ℕ) → j < b * 3 → get_or (with_slot st b x n w) j 0 ≡ get_or st j 0
    slot_other j l = unit-other st (b * 3) x n w j (λ z. omega arith) (λ z. omega arith) (λ z. omega arith)

    pub slots_under : (h : ℕ) → h ≤ b → slots (with_slot st b x n w) h ≡ slots st h
    unfolding slots
    slots_under zero q = refl
    slots_under (suc h) q = rw (slot_other (h * 3) (omega arith), slot_other (h * 3 + 1) (omega arith), slots_under h (omega arith))

  pub entry_put : (k : Kind) (n w : ℕ) → b * 3 + 3 ≤ length st → entry_at (with_slot st b (kind_number k) n w) b ≡ record { kind = k; lanes = n; word = w }
  entry_put k n w l = rw (unit_0 st (b * 3) (kind_number k) n w l, unit_1 st (b * 3) (kind_number k) n w l, unit_2 st (b * 3) (kind_number k) n w l, kind_back k)

  -- The last operand, and the last two.
  pub one_slot : slots st (b + 1) ≡ (kind_of (slot_kind st b), slot_lanes st b) ∷ slots st b
  unfolding slots
  one_slot = rw (add-one b)

  pub two_slots : slots st (b + 2) ≡ (kind_of (slot_kind st (b + 1)), slot_lanes st (b + 1)) ∷ (kind_of (slot_kind st b), slot_lanes st b) ∷ slots st b
  unfolding slots
  two_slots = let two : b + 2 ≡ suc (suc b) = omega arith in rw (two, add-one b)

-- ---- a node's answer
module _ {at : Point} {n : TreeNode} {l : List Slot} {Γ : Declarations} {b : ℕ} {before after : List ℕ} where
  -- A refusal pushes nothing.
  pub node_refused : {why : Refused} → refused why.refusal why.place ≡ step at.context n l Γ → TypesNode at n l Γ b before after (Err why)
  unfolding entry_out
  node_refused e = record { is = e; on = tt }

  -- A result that is put into its slot stands there.
  pub node_put : {k : Kind} {m w : ℕ} → after ≡ with_slot before b (kind_number k) m w → b * 3 + 3 ≤ length before → ok (record { kind = k; lanes = m; word = w }) Γ ≡ step at.context n l Γ
      → TypesNode at n l Γ b before after (Ok (record { count = b + 1; size = at.size }))
  unfolding entry_out
  node_put {k} {m} {w} e room s = record {
    is = rw (e, entry_put before b k m w room) s;
    on = record { height = refl; size = refl; under = rw e (slots_under before b (kind_number k) m w b (omega arith)) };
  }

  -- What a callee has typed and put.
  pub node_done : {reached : Reached} → TypesNode at n l Γ b before after (Ok reached) → TypesNode at n l Γ b before after (Ok (record { count = b + 1; size = at.size }))
  unfolding entry_out
  node_done t = record { is = t.is; on = record { height = refl; size = refl; under = t.on.under } }
