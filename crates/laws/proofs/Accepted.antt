-- A text that is accepted is ready to run, and one that is not is refused by one of the judge's codes, at a place of the text.
use Prim.Native.Nat.{ℕ, ◌≤◌}
use mathlib.Core.Path.{◌≡◌, refl}
use mathlib.Core.Bool.{Bool, true, false}
use mathlib.Core.List.{List}
use native.Mathlib.Omega.{arith}
use lib.Dec.{leb}
use lib.ListN.{length}
use borrow.Author.Tests.{leb-true}
use Rattle.meaning.specs.declared.Refusal.{Refusal}
use Rattle.meaning.specs.declared.Refusal.TheVariants.{TextTooLong}
use Rattle.meaning.specs.Codes.{ok, refused, text_limit}
use Rattle.meaning.specs.Tokens.{lexed}
use Rattle.meaning.specs.Program.{Program}
use Rattle.meaning.specs.Memory.{Declarations}
use Rattle.meaning.specs.Reading.{read}
use Rattle.meaning.specs.Typing.{typed_program}
use Rattle.meaning.specs.Services.{pass, judged}
use Rattle.laws.specs.Outcomes.{Ends, RefusedIn}
use Rattle.laws.specs.Accepted.{Ready}
use Rattle.laws.proofs.Outcomes.{passed_on, said, refusal_said}
use Rattle.laws.proofs.Tokens.{lexed_ends}
use Rattle.laws.proofs.Reading.{read_ends}
use Rattle.laws.proofs.Typing.{program_ends}

module _ (text : List ℕ) where
  pub judged_ends : Ends (Ready text) (RefusedIn text) (judged text)
  unfolding judged
  judged_ends =
      passed_on (λ ts. pass (read ts) typed_program) (lexed_ends text) (λ ts p t.
      passed_on typed_program (read_ends text ts t.spelled) (λ l q w. program_ends text l w.1))

  pub accepted_ready : {P : Program} {Γ : Declarations} → judged text ≡ ok P Γ → Ready text P Γ
  accepted_ready e = said judged_ends e

  pub refused_in : {c : Refusal} {p : ℕ} → judged text ≡ refused c p → RefusedIn text c p
  refused_in e = refusal_said judged_ends e

  -- A text that is too long is refused at 0: so what is accepted is short, and no place is above the limit of a text.
  too_long : leb (length text) text_limit ≡ false → judged text ≡ refused TextTooLong 0
  unfolding judged pass lexed
  too_long h = rw h

  pub accepted_short : {P : Program} {Γ : Declarations} → judged text ≡ ok P Γ → length text ≤ text_limit
  accepted_short {P} {Γ} e = go (leb (length text) text_limit) refl
    where
      go : (b : Bool) → leb (length text) text_limit ≡ b → length text ≤ text_limit
      go true h = leb-true (length text) text_limit h
      go false h = let z : ◌≡◌ {A = ℕ} 0 1 = cc (too_long h) in absurd (omega arith)

  pub refused_low : {c : Refusal} {p : ℕ} → judged text ≡ refused c p → p ≤ text_limit
  refused_low {c} {p} e = go (leb (length text) text_limit) refl
    where
      go : (b : Bool) → leb (length text) text_limit ≡ b → p ≤ text_limit
      go true h = omega (arith, leb-true (length text) text_limit h, (refused_in e).near)
      go false h = let z : 0 ≡ p = cc (too_long h) in omega arith
