-- What the verdict of a text makes of the judge's answer.
use Prim.Native.Nat.{ℕ, ◌*◌, ◌-◌, ◌≤◌, ◌<◌}
use mathlib.Core.Path.{◌≡◌, refl}
use mathlib.Core.List.{List, [], ◌∷◌}
use native.Mathlib.Omega.{arith}
use lib.ListN.{length, take}
use lib.Seq.{length-take-le}
use Rattle.std.specs.declared.result.Result.TheVariants.{Ok, Err}
use Rattle.meaning.specs.Codes.{ok, refused}
use Rattle.meaning.specs.Memory.{need}
use Rattle.meaning.specs.Services.{answer, numbers, with_numbers, judged, verdict, judge, judge_call, answer_bytes, Kept}
use Rattle.layout.specs.declared.Reached.{Reached}
use Rattle.layout.specs.declared.Refused.{Refused}
use Rattle.layout.specs.Tokens.{token_words}
use Rattle.layout.specs.Sizes.{table_room}
use Rattle.layout.specs.Table.{entries}
use Rattle.laws.specs.Sound.{stack_limit}
use Rattle.laws.proofs.Accepted.{refused_low}
use Rattle.numbers.specs.Sizes.{four_bytes}
use Rattle.typing.specs.Answers.{program_out}
use Rattle.judge.specs.Contract.{JudgingRoom, JudgesText}
use Rattle.ruihmento.specs.Contract.{TextRoom, RunningRoom, with_refusal, Tellable, Refusable}
use Rattle.ruihmento.proofs.Slices.{not_called, kept}

-- A slice without room.
pub judge_not_called : (text slice : List ℕ) → length slice < four_bytes → Kept (judge_call text slice) 0 slice tt
unfolding judge_call
judge_not_called text slice h = not_called slice tt (judge text) tt h

-- A slice with room.
pub judge-called : (text slice : List ℕ) {written : List ℕ} → four_bytes ≤ length slice → written ≡ with_numbers (numbers (judge text)) slice → Kept (judge_call text slice) 1 written tt
unfolding judge_call
judge-called text slice h w = kept slice tt (judge text, tt) h (record { written_is = w; after_is = refl })

-- With a table and a stack of their greatest sizes the text can be judged.
pub judging_room : {text tree code table stack : List ℕ} {n m : ℕ} → TextRoom text n m → length tree ≡ n → length code ≡ m → table_room ≤ length table → length stack ≡ 696 → JudgingRoom text tree table code stack
unfolding stack_limit
judging_room g tree code t s = record {
  tokens_room = rw code g.tokens_fit;
  tree_fits = rw tree g.tree_fits;
  few = rw tree g.few;
  code_room = rw (tree, code) g.code_room;
  rows_room = t;
  stack_room = omega arith;
}

-- The same where the tree has the first words of the plan's.
pub judging_shared : (planned : List ℕ) {text code table stack : List ℕ} {n m : ℕ} → RunningRoom text n m → length code ≡ n → length planned ≡ m → table_room ≤ length table → length stack ≡ 696
    → JudgingRoom text (take (n - token_words) planned) table code stack
judging_shared planned {n = n} g code plan t s = judging_room (record {
  tokens_fit = g.tokens_fit;
  tree_fits = omega (arith, g.tree_fits);
  few = omega (arith, g.few);
  code_room = omega arith;
}) (length-take-le (n - token_words) planned (omega (arith, g.plan_room))) code t s

-- A text that is refused.
module _ {text table words : List ℕ} {why : Refused} (g : JudgesText text table words (Err why)) where
  pub is_refused : judged text ≡ refused why.refusal why.place
  unfolding program_out
  is_refused = g.is

  pub judge_refused : (slice : List ℕ) {written : List ℕ} → written ≡ with_refusal why slice → written ≡ with_numbers (numbers (judge text)) slice
  unfolding judge verdict answer numbers with_refusal
  judge_refused slice w = rw is_refused w

  -- The refusal can be told: its place is one of the longest text's.
  pub tellable : (slice : List ℕ) → four_bytes ≤ length slice → Tellable why slice
  tellable slice h = record { room = h; low = refused_low text is_refused }

  pub refusable : (count : ℕ) (answers : List ℕ) → count * answer_bytes ≤ length answers → Refusable why count answers
  refusable count answers h = record { room = h; low = refused_low text is_refused }

-- A text that is accepted.
module _ {text table words : List ℕ} {reached : Reached} (g : JudgesText text table words (Ok reached)) where
  pub is_accepted : judged text ≡ ok g.program (entries text table reached.count)
  unfolding program_out
  is_accepted = g.is

  pub judge_accepted : (slice : List ℕ) {written : List ℕ} {m : ℕ} → ((text : List ℕ) → m ≡ need (entries text table reached.count)) → written ≡ with_numbers (0 ∷ 0 ∷ m ∷ 0 ∷ []) slice → written ≡ with_numbers (numbers (judge text)) slice
  unfolding judge verdict answer numbers
  judge_accepted slice m w = rw (is_accepted, ← m text) w
