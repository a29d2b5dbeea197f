-- `tokens::word::letters` meets its contract: four bytes at once where the word has them, and else with spaces.
use mathlib.Core.Path.{◌≡◌, sym, ap, ◌∙◌}
use Prim.Native.Nat.{◌+◌, ◌-◌}
use native.Mathlib.Omega.{arith}
use Rattle.meaning.specs.Memory.{lane_of, number_of}
use Rattle.tokens.proofs.Spelling.{four_letters, each-letter, no_letters}
use Rattle.tokens.proofs.word.letters.Goals as goal

pub returns-then-from-word : goal.returns-then-from-word
unfolding lane_of
returns-then-from-word c = let from = c.args.from in
    let width : from + 4 - from ≡ 4 = omega arith in
    c.int_of.ensures ∙ rw (width, four_letters c.args.word.now from c.if-from-word.true)

pub returns-then-word-from : goal.returns-then-word-from
returns-then-word-from c = let args = c.args in sym (no_letters args.word.now args.from c.if-word-from.true)

pub returns : goal.returns
unfolding lane_of
returns c = let args = c.args in
    c.int_of-2.ensures
    ∙ rw (c.byte_at-a.ensures, c.byte_at-b.ensures, c.byte_at-c.ensures, c.byte_at-d.ensures) (ap number_of (each-letter args.word.now args.from))
