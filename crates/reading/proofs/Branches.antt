-- What `if_else` and `while_loop` answer, from the answers of their calls.
use Prim.Native.Nat.{ℕ, ◌+◌}
use mathlib.Core.Path.{◌≡◌}
use mathlib.Core.List.{List}
use native.Mathlib.Omega.{arith}
use lib.ListN.{length}
use Rattle.std.specs.declared.result.Result.TheVariants.{Ok, Err}
use Rattle.std.specs.Result.{IsErrAnd}
use Rattle.meaning.specs.Tokens.{the}
use Rattle.layout.specs.Tokens.{kind_at, place_at}
use Rattle.layout.specs.Stage.{Stage}
use Rattle.layout.specs.declared.Reached.{Reached}
use Rattle.layout.specs.declared.Refused.{Refused}
use Rattle.reading_expressions.specs.Contract.{ReadyToRead}
use Rattle.reading_expressions.proofs.Answers.{hands_up, shows_then}
use Rattle.reading_expressions.proofs.Laws.{seen}
use Rattle.reading.specs.Contract.{ReadsCondition, ReadsOpening, ReadsOtherwise, ReadsStatement, with_long_head}
use Rattle.reading.proofs.Laws as law

-- A condition was read, which turned the tree `old` into `tree₁`.
module _ {T : List ℕ} {at : ℕ} {old : List ℕ} {n : ℕ} {tree₁ : List ℕ} {tested : Reached} (r : ℕ)
    (ready : ReadyToRead T at old n) (test : ReadsCondition r T (at + 1) old (n + 3) tree₁ (Ok tested)) where
  -- Where it is refused, the statement is.
  module _ {tree₂ : List ℕ} {why : Refused} (branch : ReadsOpening r T tested.count tree₁ tested.size tree₂ (Err why)) {new : List ℕ} {res : Stage} (up : IsErrAnd res (λ x. x ≡ why)) where
    pub body_refused : kind_at T at ≡ the "while" → ReadsStatement r T at old n new res
    body_refused word = hands_up branch up (λ ts h said. law.while_body_refused r (seen h ready.within) word (test.done ts h).is said)

    pub first_refused : kind_at T at ≡ the "if" → ReadsStatement r T at old n new res
    first_refused word = hands_up branch up (λ ts h said. law.if_first_refused r (seen h ready.within) word (test.done ts h).is said)

  -- It was read, which turned that into `tree₂`.
  module _ (kept₁ : length tree₁ ≡ length old) {tree₂ : List ℕ} {opened : Reached} (branch : ReadsOpening r T tested.count tree₁ tested.size tree₂ (Ok opened))
      (kept₂ : length tree₂ ≡ length tree₁) where
    -- A `while` is whole: its head is written before them.
    pub while_reads : {place : ℕ} {new : List ℕ} {res : Stage} → kind_at T at ≡ the "while" → place ≡ place_at T at
        → (res ≡ Ok opened) × (new ≡ with_long_head 21 place n tested.size tested.size opened.size tree₂) → ReadsStatement r T at old n new res
    while_reads word is head =
        let m = test.moved in
        let b = branch.moved in
        shows_then branch head.0 (λ b. omega arith)
        (λ ts h d. law.while_read r (seen h ready.within) word (omega (arith, ready)) (omega (arith, ready)) (omega (arith, ready)) (test.done ts h) d (rw is at head.1))

    -- The second branch turns that into `tree₃`.
    module _ (word : kind_at T at ≡ the "if") {tree₃ : List ℕ} where
      pub second_refused : {why : Refused} {new : List ℕ} {res : Stage} → ReadsOtherwise r T opened.count tree₂ opened.size tree₃ (Err why) → IsErrAnd res (λ x. x ≡ why)
          → ReadsStatement r T at old n new res
      second_refused second up = hands_up second up
          (λ ts h said. law.if_second_refused r (seen h ready.within) word (test.done ts h).is (branch.done ts h).is said)

      module _ {otherwise : Reached} (second : ReadsOtherwise r T opened.count tree₂ opened.size tree₃ (Ok otherwise)) (kept₃ : length tree₃ ≡ length tree₂) where
        pub if_reads : {place : ℕ} {new : List ℕ} {res : Stage} → place ≡ place_at T at
            → (res ≡ Ok otherwise) × (new ≡ with_long_head 19 place n tested.size opened.size otherwise.size tree₃) → ReadsStatement r T at old n new res
        if_reads is head =
            let m = test.moved in
            let b = branch.moved in
            let e = second.moved in
            shows_then second head.0 (λ e. omega arith)
            (λ ts h d. law.if_read r (seen h ready.within) word (omega (arith, ready)) (omega (arith, ready)) (omega (arith, ready)) (omega (arith, ready))
            (test.done ts h) (branch.done ts h) d (rw is at head.1))
