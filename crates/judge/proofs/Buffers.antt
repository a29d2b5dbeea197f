-- The buffers as the lexer leaves them are what the reader asks for.
use Prim.Native.Nat.{ℕ, suc, ◌+◌, ◌*◌, ◌-◌, ◌<◌}
use mathlib.Core.Path.{◌≡◌, ap, ◌∙◌}
use mathlib.Core.List.{List}
use native.Mathlib.Omega.{arith}
use lib.ListN.{length, take}
use lib.Seq.{length-take-le, get_or-take}
use Rattle.std.specs.declared.result.Result.TheVariants.{Ok}
use Rattle.meaning.specs.Tokens.{Token, end_at, the}
use Rattle.layout.specs.declared.Reached.{Reached}
use Rattle.layout.specs.Tokens.{token_words, kind_at}
use Rattle.laws.specs.Tokens.{Accepted}
use Rattle.laws.proofs.Tokens.{lexed_accepted, lexed_short, spelled_some, spelled_last}
use Rattle.tokens.specs.Lexing.{Lexes}
use Rattle.reading_expressions.specs.Contract.{token_count, HoldsOnly, EndsAText}
use Rattle.reading.specs.Contract.{LentToRead}
use Rattle.judge.specs.Contract.{JudgingRoom}

module _ {text buffer : List ℕ} {lexed : Reached} (l : Lexes text (Ok lexed) buffer) where
  -- The words of the tokens, and no others.
  whole : length (take lexed.size buffer) ≡ length l.tokens * token_words
  whole = length-take-le lexed.size buffer (omega (arith, l.size, l.holds.room)) ∙ l.size

  count_is : token_count (take lexed.size buffer) ≡ length l.tokens
  unfolding token_count
  count_is = rw whole (omega arith)

  pub holds_only : HoldsOnly (take lexed.size buffer) l.tokens
  holds_only = record {
    holds = record {
      room = omega (arith, whole);
      row = λ i lt.
          let z = lexed.size in
          let s = l.size in
          let a : i * token_words < z = omega arith in
          let b : i * token_words + 1 < z = omega arith in
          let d : i * token_words + 2 < z = omega arith in
          rw (get_or-take z buffer (i * token_words) 0 a, get_or-take z buffer (i * token_words + 1) 0 b, get_or-take z buffer (i * token_words + 2) 0 d) (l.holds.row i lt);
    };
    whole = whole;
  }

  accepted : Accepted text l.tokens (length text)
  accepted = lexed_accepted text l.is

  -- The last of them is the end.
  last_is_end : (i : ℕ) → length l.tokens ≡ suc i → kind_at (take lexed.size buffer) i ≡ the "end"
  unfolding end_at
  last_is_end i e = (holds_only.holds.row i (omega arith)).is ∙ ap (λ (t : Token). t.is) (spelled_last i accepted.spelled e)

  pub ends_a_text : EndsAText (take lexed.size buffer)
  ends_a_text =
      let k = count_is in
      let some = spelled_some accepted.spelled in
      record {
        whole = rw k whole;
        some = omega (arith, k, some);
        few = omega (arith, k, accepted.few, lexed_short text l.is);
        ends = rw k (last_is_end (length l.tokens - 1) (omega (arith, some)));
      }

  pub read_room : {tree table code stack : List ℕ} → JudgingRoom text tree table code stack → LentToRead (take lexed.size buffer) tree
  read_room room = record {
    text = ends_a_text;
    space = omega (arith, count_is, accepted.few, lexed_short text l.is, room.tree_fits);
  }
