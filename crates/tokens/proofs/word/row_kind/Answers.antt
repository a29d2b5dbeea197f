-- `tokens::word::row_kind` meets its contract: a walk to the first row that has the letters.
use mathlib.Core.Path.{◌≡◌, sym, ◌∙◌}
use mathlib.Core.Bool.{Bool}
use mathlib.Core.List.{List, []}
use Prim.Native.Nat.{ℕ}
use native.Mathlib.Omega.{arith}
use lib.ListN.{get_or}
use Rattle.meaning.specs.Tokens.{bytes, reserved, words}
use Rattle.laws.proofs.The.{the_name}
use Rattle.tokens.specs.Lexing.{row_bytes, spelled, row_kind}
use Rattle.tokens.proofs.Walking.{Row, walk_start, walk_row, walk_end}
use Rattle.tokens.proofs.Spelling.{row_spelled}
use Rattle.tokens.proofs.Words.{first_word}
use Rattle.tokens.proofs.word.row_kind.Goals as goal

-- What is asked of it is asked of its text.
told : (first second third : ℕ) {i : ℕ} {list : List (List ℕ)} {r : Bool} (row : Row row_bytes (λ s. spelled s first second third) first_word reserved list i)
    → r ≡ spelled (get_or list i []) first second third → spelled (bytes row.text) first second third ≡ r
told first second third row is = sym (is ∙ rw row.row (row_spelled _ _ _ _))

pub loop-i-init : goal.loop-i-init
loop-i-init c = walk_start _ _ _ _ _ c.requires

pub overflow_cast-result : goal.overflow_cast-result
unfolding reserved
overflow_cast-result c = let few = (walk_row _ _ _ _ _ c.loop-i.invariant c.loop-i-test.true).few in omega arith

pub overflow_add-result : goal.overflow_add-result
unfolding reserved
overflow_add-result c = let few = (walk_row _ _ _ _ _ c.loop-i.invariant c.loop-i-test.true).few in omega arith

pub returns-then-spells : goal.returns-then-spells
unfolding row_kind words
returns-then-spells c = let row = walk_row _ _ _ _ _ c.loop-i.invariant c.loop-i-test.true in sym (rw (row.hit (told _ _ _ row c.spells.ensures ∙ c.if-spells.true)))

pub loop-i-preserved : goal.loop-i-preserved
loop-i-preserved c = let row = walk_row _ _ _ _ _ c.loop-i.invariant c.loop-i-test.true in row.miss (told _ _ _ row c.spells.ensures ∙ c.if-spells.false)

pub returns : goal.returns
unfolding row_kind words
returns c = sym (rw (walk_end _ _ _ _ _ c.loop-i.invariant c.loop-i-test.false, the_name))
