-- `tokens::word::kind` meets its contract: a word of two letters to a row's is looked for by them.
use mathlib.Core.Path.{refl, ◌∙◌}
use native.Mathlib.Omega.{arith}
use borrow.Author.Tests.{ltb-true, ltb-false}
use lib.Dec.{ltb}
use lib.ListN.{length}
use Rattle.meaning.specs.Tokens.{reserved, bytes}
use Rattle.laws.proofs.Tests.{or_r_false}
use Rattle.tokens.proofs.Words.{neither, name_by_length, row_word, short_word}
use Rattle.tokens.proofs.word.kind.Goals as goal

pub returns-then-len : goal.returns-then-len
returns-then-len c = let n = length c.args.word.now in
    name_by_length c.args.word.now (λ x fit e.
    let low = fit.some_letters in
    let high = fit.in_row in
    neither (ltb n 2) _ n c.if-len.true (λ t. let lt = ltb-true n 2 t in omega arith) (λ lt. omega arith))

pub row_kind-requires : goal.row_kind-requires
unfolding reserved bytes
row_kind-requires c = refl

pub returns-then-len-le-PART : goal.returns-then-len-le-PART
returns-then-len-le-PART c = c.row_kind.ensures ∙ rw c.letters-first.ensures (short_word c.args.word.now c.requires c.if-len-le-PART.true)

pub row_kind-requires-2 : goal.row_kind-requires-2
unfolding reserved bytes
row_kind-requires-2 c = refl

pub returns : goal.returns
returns c = let n = length c.args.word.now in
    let le = ltb-false _ n (or_r_false (ltb n 2) _ c.if-len.false) in
    c.row_kind-2.ensures
    ∙ rw (c.letters-first.ensures, c.letters-second.ensures, c.letters-third.ensures) (row_word c.args.word.now c.requires (omega arith))
