-- `tokens::word::spells` meets its contract: four letters, and where these are the row's, four more, and four.
use mathlib.Core.Path.{◌≡◌, sym, ◌∙◌}
use mathlib.Core.List.{List}
use Prim.Native.Nat.{ℕ, ◌-◌}
use native.Mathlib.Omega.{arith}
use borrow.Author.Tests.{eq-eqb, ne_eqb}
use lib.ListN.{length, take, drop}
use Rattle.meaning.specs.declared.Kind.TheVariants.{Int as int}
use Rattle.meaning.specs.Memory.{lane_of, number_of}
use Rattle.tokens.specs.Lexing.{row_bytes, letters, spelled}
use Rattle.tokens.proofs.Spelling.{four_letters}
use Rattle.tokens.proofs.word.spells.Goals as goal

-- The first four letters of the row.
first_letters : (row : List ℕ) {r : ℕ} → length row ≡ row_bytes → r ≡ lane_of int (take (4 - 0) (drop 0 row)) → number_of (letters row 0) ≡ r
unfolding lane_of
first_letters row long is = sym (is ∙ rw (four_letters row 0 (omega arith)))

pub returns-then-one-first : goal.returns-then-one-first
unfolding spelled
returns-then-one-first c = rw (first_letters c.args.row.now c.told-row c.int_of-one.ensures, ne_eqb c.int_of-one.result _ c.if-one-first.true)

pub returns : goal.returns
unfolding lane_of spelled
returns c = let row = c.args.row.now in
    let two : number_of (letters row 4) ≡ c.int_of-two.result = sym (c.int_of-two.ensures ∙ rw (four_letters row 4 (omega arith))) in
    let three : number_of (letters row 8) ≡ c.int_of-three.result = sym (c.int_of-three.ensures ∙ rw (four_letters row 8 (omega arith))) in
    rw (first_letters row c.told-row c.int_of-one.ensures, eq-eqb c.int_of-one.result _ c.if-one-first.false, two, three)
