-- `value` reads `=`, an expression and `;`.
use mathlib.Core.Path.{refl}
use native.Mathlib.Omega.{arith}
use borrow.Author.Rules.{rules}
use Rattle.reading_expressions.proofs.Laws.{seen}
use Rattle.reading_expressions.proofs.Answers.{ready_behind, hands_up, shows_unexpected, shows_then, past}
use Rattle.reading.proofs.LawsValue as law
use Rattle.reading.proofs.value.Goals as goal

pub returns-in_err-sign : goal.returns-in_err-sign
returns-in_err-sign c = shows_unexpected c.in_err-sign.ensures c.from_residual.ensures.1 (λ ts h no. law.value_none _ (seen h (search rules)) no)

pub expression-requires : goal.expression-requires
expression-requires c = let sign = c.in_ok-sign.ensures.done in rw sign.1 (ready_behind (search) sign.0 (omega arith))

pub returns-in_err-right : goal.returns-in_err-right
returns-in_err-right c = let sign = c.in_ok-sign.ensures.done in
    hands_up c.in_err-right.ensures c.from_residual-in_err-right.ensures.1 (λ ts h said. law.value_refused _ (seen h (search rules)) sign.0 (rw sign.1 at said))

pub returns-in_err-close : goal.returns-in_err-close
returns-in_err-close c = let sign = c.in_ok-sign.ensures.done in
    let right = c.in_ok-right.ensures in
    shows_unexpected c.in_err-close.ensures c.from_residual-in_err-close.ensures.1
    (λ ts h no. law.value_open _ (seen h c.requires.within) sign.0 (seen h right.moved.within) (rw sign.1 at (right.done ts h).is) no)

pub returns : goal.returns
returns c = let sign = c.in_ok-sign.ensures.done in
    let ended = c.in_ok-close.ensures.done in
    let right = c.in_ok-right.ensures in
    let put = rw c.place-place.ensures at c.put_unit.ensures in
    shows_then right refl (λ m. omega (arith, past c.requires.text m.within ended.0 (omega arith), ended))
    (λ ts h d. rw (ended.1, ended.2)
    (law.value_read _ (seen h c.requires.within) sign.0 (seen h right.moved.within) ended.0 (omega (arith, c.requires)) (omega (arith, c.requires)) (rw sign.1 at d) put))
