-- The contract of `program` settles its answer, the declarations and the program: two results that satisfy it coincide.
use Prim.Native.Nat.{ℕ}
use mathlib.Core.Path.{◌≡◌, sym, ap, ◌∙◌}
use mathlib.Core.List.{List}
use native.Mathlib.Omega.{arith}
use lib.ListN.{length, take}
use lib.Seq.{length-take-le}
use Rattle.meaning.specs.Tree.{Stmts}
use Rattle.meaning.specs.Memory.{Declarations}
use Rattle.layout.specs.Code.{program_words}
use Rattle.layout.specs.Table.{entries}
use Rattle.typing_expressions.proofs.Names.{length-entries}
use Rattle.std.specs.Result.{IfOk}
use Rattle.std.specs.declared.result.Result.TheVariants.{Ok, Err}
use Rattle.layout.specs.Stage.{Stage}
use Rattle.layout.specs.declared.Reached.{Reached}
use Rattle.layout.specs.declared.Refused.{Refused}
use Rattle.meaning.specs.declared.Refusal.{Refusal}
use Rattle.typing.specs.Answers.{program_out, TypedProgram}

-- The same answer: one refusal and one place, or one count and one size; and of an accepted text the same declarations
-- and the same words of its program.
pub record SameVerdict (text table table' code code' : List ℕ) (r r' : Stage) : Type 0 where
  pub answer : r ≡ r'
  pub declarations : IfOk r (λ to. entries text table to.count ≡ entries text table' to.count)
  pub words : IfOk r (λ to. take to.size code ≡ take to.size code')

reached : ℕ → ℕ → Reached
reached n z = record { count = n; size = z }

same_reached : (a b : Reached) → a.count ≡ b.count → a.size ≡ b.size → a ≡ b
unfolding reached
same_reached a b p q = ap (λ n. reached n a.size) p ∙ ap (λ z. reached b.count z) q

refused_at : Refusal → ℕ → Refused
refused_at c p = record { refusal = c; place = p }

same_refused : (a b : Refused) → a.refusal ≡ b.refusal → a.place ≡ b.place → a ≡ b
unfolding refused_at
same_refused a b p q = ap (λ c. refused_at c a.place) p ∙ ap (λ n. refused_at b.refusal n) q

module _ {text table table' code code' : List ℕ} (l : Stmts) where
  pub coincide : (r r' : Stage) → TypedProgram text table code l r → TypedProgram text table' code' l r' → SameVerdict text table table' code code' r r'
  unfolding program_out
  coincide (Ok to) (Ok to') s s' =
      let a = s.accepted in
      let a' = s'.accepted in
      let all : entries text table to.count ≡ entries text table' to'.count = cc (s.is, s'.is) in
      let count : to.count ≡ to'.count = sym (length-entries text table to.count) ∙ ap (λ (Γ : Declarations). length Γ) all ∙ length-entries text table' to'.count in
      let words : take to.size code ≡ take to'.size code' = a.words ∙ ap program_words (cc (s.is, s'.is)) ∙ sym a'.words in
      let size : to.size ≡ to'.size = sym (length-take-le to.size code a.fits) ∙ ap (λ (c : List ℕ). length c) words ∙ length-take-le to'.size code' a'.fits in
      record {
        answer = ap Ok (same_reached to to' count size);
        declarations = rw (← count) at all;
        words = rw (← size) at words;
      }
  coincide (Ok to) (Err why) s s' = let x : ◌≡◌ {A = ℕ} 0 1 = cc (s.is, s'.is) in absurd (omega arith)
  coincide (Err why) (Ok to) s s' = let x : ◌≡◌ {A = ℕ} 0 1 = cc (s.is, s'.is) in absurd (omega arith)
  coincide (Err why) (Err why') s s' = record {
    answer = ap Err (same_refused why why' (cc (s.is, s'.is)) (cc (s.is, s'.is)));
    declarations = tt;
    words = tt;
  }
