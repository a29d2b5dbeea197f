-- How the definitions read a text, and what the door's answer then says.
use Prim.Native.Nat.{ℕ, ◌+◌}
use mathlib.Core.Path.{◌≡◌, refl}
use mathlib.Core.List.{List}
use native.Mathlib.Omega.{arith}
use lib.ListN.{length}
use Rattle.std.specs.declared.result.Result.TheVariants.{Ok, Err}
use Rattle.meaning.specs.declared.Refusal.{Refusal}
use Rattle.meaning.specs.declared.Refusal.TheVariants.{NotAllowed}
use Rattle.meaning.specs.Codes.{ok, refused, after, ◌>>=◌, give, nesting_limit}
use Rattle.meaning.specs.Tokens.{Token, the, words, marks, numbered, reserved, signs}
use Rattle.meaning.specs.Tree.{Stmts, none_yet}
use Rattle.meaning.specs.Reading.{expect, read}
use Rattle.layout.specs.Stage.{Stage}
use Rattle.layout.specs.declared.Reached.{Reached}
use Rattle.layout.specs.declared.Refused.{Refused}
use Rattle.reading_expressions.specs.Contract.{HoldsOnly, ReadyToRead, Expects}
use Rattle.reading_expressions.proofs.Laws.{Seen, seen, expected, not_expected}
use Rattle.reading.specs.Contract.{listed, LentToRead, ReadsStatements, ReadsText}
use Rattle.reading.proofs.Laws.{sequence_is}

-- A text is its statements and its end.
pub read_is : (ts : List Token) → read ts ≡ after (listed ts 0 nesting_limit 0) (λ l. expect ts "end" >>= λ _. give l)
unfolding read the numbered reserved signs words marks
read_is ts = sequence_is ts "end" nesting_limit 0

pub read_refused : {c : Refusal} {x : ℕ} (ts : List Token) → listed ts 0 nesting_limit 0 ≡ refused c x → read ts ≡ refused c x
read_refused ts e = rw (read_is, e)

module _ {ts : List Token} {l : Stmts} {q k p v : ℕ} (t : Seen ts q k p v) (is : listed ts 0 nesting_limit 0 ≡ ok l q) where
  pub read_open : (k ≡ 0 → ⊥) → read ts ≡ refused NotAllowed p
  unfolding the numbered reserved signs words marks
  read_open ne = rw (read_is, is, not_expected "end" t ne)

  pub read_whole : k ≡ 0 → read ts ≡ ok l (q + 1)
  unfolding the numbered reserved signs words marks
  read_whole e = rw (read_is, is, expected "end" t e)

-- Lent buffers suffice to begin.
pub ready_first : {T tree : List ℕ} → LentToRead T tree → ReadyToRead T 0 tree 0
ready_first lent = record { text = lent.text; within = lent.text.some; space = omega (arith, lent.space) }

-- A refusal is handed up as it is.
pub tells_refused : {T tree : List ℕ} {r : Stage} {why : Refused} → r ≡ Err why → ((ts : List Token) → HoldsOnly T ts → read ts ≡ refused why.refusal why.place) → ReadsText T tree r
tells_refused is said = rw is (record { fits = tt; told = λ ts h. record { what = none_yet; is = said ts h; words = tt } })

-- After the statements stands the end of the text.
pub tells_end : {T old new : List ℕ} {before : Reached} (r : Stage) → LentToRead T old → length new ≡ length old → ReadsStatements 0 nesting_limit T 0 old 0 new (Ok before)
    → Expects 0 T before.count before.size r → ReadsText T new r
tells_end (Ok reached) lent kept s x =
    let ready = ready_first lent in
    let y = x.done in
    record {
      fits = omega (arith, s.moved, y.2);
      told = λ ts h. let d = s.done ts h in record { what = d.what; is = rw y.1 (read_whole (seen h s.moved.within) d.is y.0); words = rw y.2 d.wrote.is };
    }
tells_end (Err why) lent kept s x = let y = x.refused in tells_refused refl (λ ts h. rw (y.1, y.2) (read_open (seen h s.moved.within) (s.done ts h).is y.0))
