-- What a loop over images leaves, and what a call that runs each of them does.
use Prim.Native.Nat.{ℕ, suc, ◌+◌, ◌*◌, ◌-◌, ◌/◌, ◌≤◌, ◌<◌, min}
use mathlib.Core.Path.{◌≡◌, refl, sym, subst, ◌∙◌}
use mathlib.Core.List.{List, ◌++◌, append-nil}
use native.Mathlib.Omega.{arith}
use native.Mathlib.Numerals.{add-one}
use native.Mathlib.Nat.{le_refl}
use lib.ListN.{length, take, drop, length-take, length-drop, take-append-drop, drop_of_length-le}
use lib.Seq.{length-take-le, take-length}
use borrow.Author.Tests.{le-leb, lt-leb}
use Rattle.std.specs.declared.result.Result.TheVariants.{Ok, Err}
use Rattle.meaning.specs.Codes.{code, Out, ok}
use Rattle.meaning.specs.Program.{Program}
use Rattle.meaning.specs.Memory.{Memory, Declarations}
use Rattle.meaning.specs.Services.{Answer, answer, program_run, executed, run, in_a_row, numbers, with_numbers, answer_bytes, how_many, each, run_call, run_each_call, Kept}
use Rattle.layout.specs.declared.Reached.{Reached}
use Rattle.layout.specs.declared.Refused.{Refused}
use Rattle.layout.specs.Table.{entries}
use Rattle.laws.proofs.Images.{whole_images, whole_answers, goes_on, goes_on_first, goes_on_last, goes_on_more}
use Rattle.numbers.specs.Sizes.{four_bytes}
use Rattle.judge.specs.Contract.{JudgesText}
use Rattle.ruihmento.specs.Contract.{with_refusal, Leaves, ImagesRoom, LeavesEach, RefusesEach}
use Rattle.ruihmento.proofs.Slices.{not_called, kept}
use Rattle.ruihmento.proofs.Judging.{is_refused, is_accepted}

-- How many stand whole, by the tests.
module _ (size : ℕ) (images answers : List ℕ) where
  pub none_whole : size ≡ 0 → 0 ≡ how_many size images answers
  unfolding how_many
  none_whole e = let h : size < 1 = omega arith in rw (lt-leb 1 size h)

  pub some_whole : 1 ≤ size → min (length images / size) (length answers / answer_bytes) ≡ how_many size images answers
  unfolding how_many
  some_whole some = rw (le-leb 1 size some)

-- The bytes of a part.
pub part_bytes : (at size : ℕ) → at + size - at ≡ size
part_bytes at size = omega arith

-- Sixteen bytes of an answer that was told in a slice of just as many.
row_alone : (l : List ℕ) (a : Answer) → length l ≤ answer_bytes → with_numbers (numbers a) l ≡ in_a_row (numbers a)
unfolding with_numbers numbers
row_alone l a h = rw (drop_of_length-le l h) (append-nil (in_a_row (numbers a)))

module _ (by : Memory → Answer × Memory) (size count : ℕ) (images₀ answers₀ : List ℕ) where
  -- Where the first k are done, what is still to do leaves what the whole leaves.
  pub record SoFar (k : ℕ) (images answers : List ℕ) : Type 0 where
    pub is : each by size count images₀ answers₀ ≡ goes_on by size (count - k) k images answers

  pub none_done : SoFar 0 images₀ answers₀
  none_done = let e : count - 0 ≡ count = omega arith in record { is = rw e (sym (goes_on_first by size count images₀ answers₀)) }

  pub all_done : (k : ℕ) {images answers : List ℕ} → count ≤ k → SoFar k images answers → LeavesEach by size count images₀ answers₀ images answers
  all_done k {images} {answers} h so_far =
      let e : count - k ≡ 0 = omega arith in
      let g = (rw e at so_far.is) ∙ goes_on_last by size k images answers in
      record { images_are = rw g; answers_are = rw g }

  -- One more: its image and its answer stand where they were lent.
  module _ (k : ℕ) {images answers M told : List ℕ} (more : k < count) (image_fits : k * size + size ≤ length images) (answer-fits : k * answer_bytes + answer_bytes ≤ length answers)
      (so_far : SoFar k images answers) where
    one : length M ≡ size → Leaves (by (take size (drop (k * size) images))) (take answer_bytes (drop (k * answer_bytes) answers)) told M
        → SoFar (k + 1) (take (k * size) images ++ (M ++ drop size (drop (k * size) images))) (take (k * answer_bytes) answers ++ (told ++ drop answer_bytes (drop (k * answer_bytes) answers)))
    one as_long left =
        let o = by (take size (drop (k * size) images)) in
        let lent = take answer_bytes (drop (k * answer_bytes) answers) in
        let short : length lent ≤ answer_bytes = omega (arith, length-take answer_bytes (drop (k * answer_bytes) answers)) in
        let is : told ≡ in_a_row (numbers o.0) = left.written_is ∙ row_alone lent o.0 short in
        let made : o ≡ (o.0, M) = rw left.after_is in
        let e : count - k ≡ suc (count - suc k) = omega arith in
        record { is = rw (add-one, is) ((rw e at so_far.is) ∙ goes_on_more by size k images answers M o.0 as_long image_fits answer-fits made (count - suc k)) }

    pub one_more : {n m : ℕ} → n ≡ size → m ≡ answer_bytes → length M ≡ length (take n (drop (k * size) images))
        → Leaves (by (take n (drop (k * size) images))) (take m (drop (k * answer_bytes) answers)) told M
        → SoFar (k + 1) (take (k * size) images ++ (M ++ drop n (drop (k * size) images))) (take (k * answer_bytes) answers ++ (told ++ drop m (drop (k * answer_bytes) answers)))
    one_more n m as_long left =
        let room : size ≤ length (drop (k * size) images) = simp length-drop (omega arith) in
        rw (n, m) (one ((rw n at as_long) ∙ length-take-le size (drop (k * size) images) room) (rw (n, m) at left))

-- What is told of a text that is refused, whatever the memory.
abbrev pub refusal_of : Refused → Memory → Answer × Memory
refusal_of why M = (answer (code why.refusal) why.place 0 0, M)

-- A refusal told of one more, whose image stays.
pub one_refused : (why : Refused) (size count : ℕ) (images answers₀ : List ℕ) (k : ℕ) {answers told : List ℕ} → k < count → k * size + size ≤ length images → k * answer_bytes + answer_bytes ≤ length answers
    → SoFar (refusal_of why) size count images answers₀ k images answers → {m : ℕ} → m ≡ answer_bytes → told ≡ with_refusal why (take m (drop (k * answer_bytes) answers))
    → SoFar (refusal_of why) size count images answers₀ (k + 1) images (take (k * answer_bytes) answers ++ (told ++ drop m (drop (k * answer_bytes) answers)))
unfolding answer numbers with_refusal
one_refused why size count images answers₀ k more image_fits answer-fits so_far m w =
    rw (take-append-drop size (drop (k * size) images), take-append-drop (k * size) images)
    at (one_more _ size count images answers₀ k more image_fits answer-fits so_far refl m refl (record { written_is = w; after_is = refl }))

-- A text that was judged once: refused for every image, or run over each.
module _ {text table words : List ℕ} (budget size count : ℕ) {images answers : List ℕ} where
  pub each_refused : {why : Refused} {answers' : List ℕ} → JudgesText text table words (Err why) → ImagesRoom size count images answers → RefusesEach why count answers answers'
      → LeavesEach (λ M. run text M budget) size count images answers images answers'
  unfolding run executed
  each_refused {answers' = answers'} g room refuses =
      subst (λ (o : Out Declarations Program). LeavesEach (λ M. executed program_run M budget o) size count images answers images answers') (sym (is_refused g)) (refuses size images room)

  pub each_accepted : {reached : Reached} {images' answers' : List ℕ} (g : JudgesText text table words (Ok reached))
      → LeavesEach (λ M. executed program_run M budget (ok g.program (entries text table reached.count))) size count images answers images' answers' → LeavesEach (λ M. run text M budget) size count images answers images' answers'
  unfolding run
  each_accepted {images' = images'} {answers'} g l = subst (λ (o : Out Declarations Program). LeavesEach (λ M. executed program_run M budget o) size count images answers images' answers') (sym (is_accepted g)) l

-- As many as stand whole have room.
module _ (size : ℕ) (images answers : List ℕ) {n : ℕ} (how : n ≡ how_many size images answers) where
  pub images_room : ImagesRoom size n images answers
  images_room = record { images_fit = rw how (whole_images size images answers); answers_fit = rw how (whole_answers size images answers) }

-- What a call leaves: without an image that stands whole, all as it was.
module _ (text images : List ℕ) (size budget : ℕ) (answers : List ℕ) {n : ℕ} (how : n ≡ how_many size images answers) where
  pub none_run : n ≡ 0 → Kept (run_each_call text images size budget answers) 0 answers images
  unfolding run_each_call each
  none_run e = rw (← how, e) (record { returns = refl; slice_is = refl; lent_is = refl })

  pub each-run : {images' answers' : List ℕ} → LeavesEach (λ M. run text M budget) size n images answers images' answers' → Kept (run_each_call text images size budget answers) n answers' images'
  unfolding run_each_call
  each-run l = rw (← how) (record { returns = refl; slice_is = l.answers_are; lent_is = l.images_are })

-- One image of all the bytes that are lent is left as a memory is.
module _ (by : Memory → Answer × Memory) (M : Memory) (slice : List ℕ) where
  pub each_one : each by (length M) 1 M slice ≡ ((by M).1, with_numbers (numbers (by M).0) slice)
  unfolding each with_numbers numbers
  each_one = rw (take-length M, drop_of_length-le M (le_refl (length M)), append-nil (by M).1)

  pub one_left : {M' slice' : List ℕ} → LeavesEach by (length M) 1 M slice M' slice' → Leaves (by M) slice slice' M'
  one_left l = record { written_is = l.answers_are ∙ rw each_one; after_is = l.images_are ∙ rw each_one }

-- What a call with one memory leaves: with a slice without room, all as it was.
module _ (text : List ℕ) (M : Memory) (budget : ℕ) (slice : List ℕ) where
  pub run_not_called : length slice < four_bytes → Kept (run_call text M budget slice) 0 slice M
  unfolding run_call
  run_not_called h = not_called slice M (run text M budget).0 (run text M budget).1 h

  pub run-called : {M' slice' : List ℕ} → four_bytes ≤ length slice → LeavesEach (λ M. run text M budget) (length M) 1 M slice M' slice' → Kept (run_call text M budget slice) 1 slice' M'
  unfolding run_call
  run-called h l = kept slice M (run text M budget) h (one_left (λ M. run text M budget) M slice l)
