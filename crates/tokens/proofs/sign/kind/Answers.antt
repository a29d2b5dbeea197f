-- `tokens::sign::kind` meets its contract: a walk to the first sign that has the bytes.
use mathlib.Core.Path.{◌≡◌, sym, ◌∙◌}
use mathlib.Core.Bool.{◌&&◌}
use mathlib.Core.List.{List, []}
use Prim.Native.Nat.{ℕ}
use native.Mathlib.Omega.{arith}
use lib.Dec.{eqb}
use lib.ListN.{get_or}
use Rattle.meaning.specs.Tokens.{bytes, signs, marks}
use Rattle.tokens.specs.Lexing.{pair_bytes, paired, sign_kind}
use Rattle.tokens.proofs.Walking.{Row, walk_start, walk_row, row_byte, walk_end}
use Rattle.tokens.proofs.Signs.{first_sign}
use Rattle.tokens.proofs.sign.kind.Goals as goal

-- What is asked of its bytes is asked of it.
told : (b c : ℕ) {i : ℕ} {list : List (List ℕ)} (row : Row pair_bytes (λ s. paired s b c) first_sign signs list i)
    → paired (bytes row.text) b c ≡ (eqb (get_or (get_or list i []) 0 0) b && eqb (get_or (get_or list i []) 1 0) c)
unfolding paired
told b c row = let byte = row_byte _ _ _ _ _ row in rw (byte 0 (omega arith), byte 1 (omega arith))

pub loop-i-init : goal.loop-i-init
loop-i-init c = walk_start _ _ _ _ _ c.requires

pub overflow_cast-result : goal.overflow_cast-result
unfolding signs
overflow_cast-result c = let few = (walk_row _ _ _ _ _ c.loop-i.invariant c.loop-i-test.true).few in omega arith

pub overflow_add-result : goal.overflow_add-result
unfolding signs
overflow_add-result c = let few = (walk_row _ _ _ _ _ c.loop-i.invariant c.loop-i-test.true).few in omega arith

pub returns-then-sign-b : goal.returns-then-sign-b
unfolding sign_kind marks
returns-then-sign-b c = let row = walk_row _ _ _ _ _ c.loop-i.invariant c.loop-i-test.true in sym (rw (row.hit (told _ _ row ∙ c.if-sign-b.true)))

pub loop-i-preserved : goal.loop-i-preserved
loop-i-preserved c = let row = walk_row _ _ _ _ _ c.loop-i.invariant c.loop-i-test.true in row.miss (told _ _ row ∙ c.if-sign-b.false)

pub returns : goal.returns
unfolding sign_kind marks
returns c = sym (rw (walk_end _ _ _ _ _ c.loop-i.invariant c.loop-i-test.false))
