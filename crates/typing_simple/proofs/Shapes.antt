-- What the first words of a declaration say: its kind, its length and whether it has a value.
use Prim.Native.Nat.{ℕ}
use native.Mathlib.Omega.{arith}
use mathlib.Core.Path.{◌≡◌, refl, sym, ◌∙◌}
use mathlib.Core.List.{List}
use mathlib.Core.Bool.{Bool, true, false, ◌||◌, true≢false}
use mathlib.Core.Option.{Option, none, some}
use lib.Dec.{eqb}
use borrow.Author.Tests.{ne_eqb}
use lib.ListN.{length, get_or}
use Rattle.meaning.specs.declared.Kind.{Kind}
use Rattle.meaning.specs.declared.Kind.TheVariants.{Int as int, Bool as bool, Float as float}
use Rattle.meaning.specs.Codes.{◌among◌, lengths}
use Rattle.meaning.specs.Tokens.{the, numbered, reserved, words, signs, marks}
use Rattle.meaning.specs.Tree.{Expr, Block, Stmt}
use Rattle.layout.specs.Words.{kind_tag, block_length, block_place, value_place, value_words}
use Rattle.layout.specs.Heads.{declaration_head, tag_word, length_word, length_place_word, value_word}
use Rattle.laws.specs.Sound.{Placed, no_block, at_place, Valued, no_value, a_value}
use Rattle.meaning.specs.Typing.{lanes_or}
use Rattle.laws.proofs.Declarations.{listed_some}
use Rattle.typing_expressions.specs.Rows.{ListedLength}
use Rattle.typing_simple.specs.Shapes.{listed_block, part, Declaration, PlainDeclaration, InitialDeclaration}
use Rattle.typing_simple.specs.Answers.{length_or, NamesKind, BlocksWell}

-- ---- its kind
pub named_int : (k : Kind) → kind_tag k ≡ 16 → int ≡ k
unfolding kind_tag the numbered reserved words signs marks
named_int int h = refl
named_int bool h = absurd (omega arith)
named_int float h = absurd (omega arith)

pub named_bool : (k : Kind) → kind_tag k ≡ 17 → bool ≡ k
unfolding kind_tag the numbered reserved words signs marks
named_bool int h = absurd (omega arith)
named_bool bool h = refl
named_bool float h = absurd (omega arith)

pub named_float : (k : Kind) → (kind_tag k ≡ 16 → ⊥) → (kind_tag k ≡ 17 → ⊥) → float ≡ k
unfolding kind_tag the numbered reserved words signs marks
named_float int h g = absurd (h refl)
named_float bool h g = absurd (g refl)
named_float float h g = refl

-- ---- its length
-- A place of 0 says that there is no block.
pub block_listed : {text : List ℕ} {b : Block} {n p : ℕ} → Placed text b → block_length b ≡ n → block_place b ≡ p → (eqb p 0 || n among lengths) ≡ listed_block b
unfolding block_length block_place listed_block
block_listed no_block n p = rw (← p)
block_listed (at_place {p = q} l i) n p = rw (← p, ← n, ne_eqb q 0 (λ z. omega arith))

pub length_good : (b : Block) (n : ℕ) → listed_block b ≡ true → length_or (block_length b) n ≡ lanes_or n b
unfolding listed_block length_or block_length lanes_or
length_good none n g = refl
length_good (some m) n g = rw (ne_eqb m.0 0 (λ z. absurd (omega (arith, listed_some m.0 g))))

pub block_good : (b : Block) → listed_block b ≡ true → eqb (block_length b) 0 ≡ false → ListedLength (block_length b)
unfolding listed_block block_length
block_good none g q = absurd (true≢false q)
block_good (some m) g q = record { is = g }

pub length-listed : (b : Block) {n : ℕ} → listed_block b ≡ true → ListedLength n → ListedLength (length_or (block_length b) n)
unfolding listed_block lanes_or
length-listed b {n} g l = rw (length_good b n g) (go b g)
  where
    go : (b : Block) → listed_block b ≡ true → ListedLength (lanes_or n b)
    go none h = l
    go (some m) h = record { is = h }

-- What the code says of an N and its place, it says of the block.
pub block_said : {text tree : List ℕ} {s : Stmt} {b : Bool} {p : ℕ} (d : Declaration text tree s) → BlocksWell (get_or tree length_word 0) p b → p ≡ get_or tree length_place_word 0 → b ≡ listed_block d.block
block_said {text} d eb ep = eb text d.block d.placed d.lanes (d.lanes_at ∙ sym ep)

-- ---- its value
-- The place of `=` is 0 where there is no value.
module _ {text tree : List ℕ} {s : Stmt} {k : Kind} {b : Bool} {p : ℕ} (d : Declaration text tree s) (ek : NamesKind (get_or tree tag_word 0) k) (eb : BlocksWell (get_or tree length_word 0) p b) (ep : p ≡ get_or tree length_place_word 0) (yes : b ≡ true) where
  pub without_value : get_or tree value_word 0 ≡ 0 → PlainDeclaration k text tree s
  unfolding value_place
  without_value z = record { shape = d; kind_is = sym (ek d.kind d.tag); good = sym (block_said d eb ep) ∙ yes; no_value = go d.valued (d.equals ∙ z) }
    where
      go : {v : Option (ℕ × Expr)} → Valued text v → value_place v ≡ 0 → v ≡ none
      go no_value h = refl
      go (a_value l i x) h = absurd (omega arith)

  pub with_value : (get_or tree value_word 0 ≡ 0 → ⊥) → InitialDeclaration k text tree s
  unfolding value_place value_words
  with_value z = go d.value refl d.valued d.equals d.value_is
    where
      go : (v : Option (ℕ × Expr)) → d.value ≡ v → Valued text v → value_place v ≡ get_or tree value_word 0 → part tree declaration_head (length tree) ≡ value_words v → InitialDeclaration k text tree s
      go none q w h u = absurd (z (sym h))
      go (some (p, e)) q (a_value l i x) h u = record {
        shape = d;
        kind_is = sym (ek d.kind d.tag);
        good = sym (block_said d eb ep) ∙ yes;
        right = e;
        its_value = q ∙ rw h;
        its_right = record { is = u; sound = x };
      }
