-- The invariant of the loop of `ruihmento::refuse_each`: the first answers are told.
use Prim.Native.Nat.{ℕ}
use mathlib.Core.List.{List}
use Rattle.ruihmento.specs.Contract.{ImagesRoom}
use Rattle.ruihmento.proofs.Images.{SoFar, refusal_of}
use Rattle.ruihmento.proofs.refuse_each.Given as goal

abbrev pub invariant-loop-told : goal.invariant-loop-told
invariant-loop-told l = (size : ℕ) (images : List ℕ) → ImagesRoom size l.count images l.initial.answers → SoFar (refusal_of l.why) size l.count images l.initial.answers l.told images l.answers
