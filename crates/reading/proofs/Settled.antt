-- The door's contract settles the answer and the tree: two results that satisfy it coincide.
use Prim.Native.Nat.{ℕ}
use mathlib.Core.Path.{◌≡◌, sym, ap, ◌∙◌}
use mathlib.Core.List.{List}
use native.Mathlib.Omega.{arith}
use lib.ListN.{length, take}
use lib.Seq.{length-take-le}
use Rattle.std.specs.declared.result.Result.TheVariants.{Ok, Err}
use Rattle.std.specs.Result.{IfOk}
use Rattle.meaning.specs.declared.Refusal.{Refusal}
use Rattle.meaning.specs.Tokens.{Token}
use Rattle.layout.specs.Words.{flat_stmts}
use Rattle.reading_expressions.specs.Contract.{HoldsOnly}
use Rattle.layout.specs.Stage.{Stage}
use Rattle.reading.specs.Contract.{ReadsText}

-- The same answer, and the same words of the tree.
pub record SameReading (tree tree' : List ℕ) (r r' : Stage) : Type 0 where
  pub answer : r ≡ r'
  pub words : IfOk r (λ reached. take reached.size tree ≡ take reached.size tree')

-- Answers are the same where their parts are.
same_reached : {p p' q q' : ℕ} → p ≡ p' → q ≡ q' → ◌≡◌ {A = Stage} (Ok (record { count = p; size = q })) (Ok (record { count = p'; size = q' }))
same_reached here size = rw (here, size)

same_refused : {c c' : Refusal} {p p' : ℕ} → c ≡ c' → p ≡ p' → ◌≡◌ {A = Stage} (Err (record { refusal = c; place = p })) (Err (record { refusal = c'; place = p' }))
same_refused code place = rw (code, place)

module _ {tokens tree tree' : List ℕ} (ts : List Token) (h : HoldsOnly tokens ts) where
  pub coincide : (r r' : Stage) → ReadsText tokens tree r → ReadsText tokens tree' r' → SameReading tree tree' r r'
  coincide (Ok reached) (Ok reached') s s' =
      let w = s.told ts h in
      let w' = s'.told ts h in
      let here : reached.count ≡ reached'.count = cc in
      let words : take reached.size tree ≡ take reached'.size tree' = w.words ∙ ap flat_stmts (cc) ∙ sym w'.words in
      let size : reached.size ≡ reached'.size = sym (length-take-le reached.size tree s.fits) ∙ ap (λ (l : List ℕ). length l) words ∙ length-take-le reached'.size tree' s'.fits in
      record { answer = same_reached here size; words = rw (← size) at words }
  coincide (Ok reached) (Err why) s s' = let z : ◌≡◌ {A = ℕ} 0 1 = cc ((s.told ts h).is, (s'.told ts h).is) in absurd (omega arith)
  coincide (Err why) (Ok reached) s s' = let z : ◌≡◌ {A = ℕ} 0 1 = cc ((s.told ts h).is, (s'.told ts h).is) in absurd (omega arith)
  coincide (Err why) (Err why') s s' =
      let said = (s.told ts h).is in
      let said' = (s'.told ts h).is in
      let code : why.refusal ≡ why'.refusal = cc in
      let place : why.place ≡ why'.place = cc in
      record { answer = same_refused code place; words = tt }
