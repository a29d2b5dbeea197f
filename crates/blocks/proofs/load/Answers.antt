-- `blocks::load` meets its contract. Assumes nothing.
use borrow.Enum.Refused.{opened}
use mathlib.Core.Path.{◌≡◌, sym, ap, ◌∙◌}
use lib.ListN.{drop}
use Rattle.meaning.specs.Memory.{load}
use Rattle.blocks.specs.Chunks.{padded}
use Rattle.blocks.proofs.Bytes.{length-load, loaded-padded}
use Rattle.blocks.proofs.Chunks.{one_in_chunk, more_in_chunk}
use Rattle.blocks.proofs.ByKind.{load_word, whole_word}
use Rattle.blocks.proofs.load.Goals as goal
use Rattle.blocks.proofs.load.Goals.{Joined-kind, in-Int, in-Bool}

-- The lanes that are loaded, of a word or of a byte each.
loads : (c : Joined-kind) → c.match-kind.lanes ≡ padded (load c.args.kind c.args.n (drop c.args.at c.args.memory.now))
loads c = let a = c.args in
    elim c.match-kind.branch [
      | in-Int w ↦ w.lanes-is ∙ w.ints-lanes.ensures ∙ ap padded (load_word a.kind (search opened) a.n (drop a.at a.memory.now))
      | in-Bool w ↦ loaded-padded _ _ w.in-Bool.is w.lanes-is w.bools-lanes.ensures
    ]

pub ints-lanes-requires : goal.ints-lanes-requires
ints-lanes-requires c = (c.requires.0, rw (whole_word c.args.kind (search opened) c.args.n) at c.requires.1)

pub bools-lanes-requires : goal.bools-lanes-requires
bools-lanes-requires c = (c.requires.0, rw c.in-Bool.is at c.requires.1)

pub returns-then-n-eq1 : goal.returns-then-n-eq1
returns-then-n-eq1 c = let a = c.args in
    let v = load a.kind a.n (drop a.at a.memory.now) in
    c.all.ensures ∙ rw (loads (goal.at.returns-then-n-eq1 c).Joined-kind) (one_in_chunk v (length-load a.kind a.n (drop a.at a.memory.now) ∙ c.if-n-eq1.true))

pub returns : goal.returns
returns c = let a = c.args in
    let v = load a.kind a.n (drop a.at a.memory.now) in
    loads (goal.at.returns c).Joined-kind ∙ more_in_chunk v (λ e. c.if-n-eq1.false (sym (length-load a.kind a.n (drop a.at a.memory.now)) ∙ e))
