-- Judged once, run on many: what holds of every result that keeps the promise of run_each.
use Prim.Native.Nat.{ℕ, ◌*◌, ◌^◌, ◌≤◌, ◌<◌}
use mathlib.Core.Path.{◌≡◌, refl, sym, ◌∙◌}
use mathlib.Core.List.{List, [], append-nil}
use native.Mathlib.Omega.{arith}
use native.Mathlib.Nat.{le-div_iff_mul-le}
use lib.ListN.{length, drop, length-drop, drop_of_length-le}
use lib.Seq.{length-take-le}
use borrow.Author.Tests.{le-leb}
use Rattle.meaning.specs.declared.Refusal.TheVariants.{MemoryTooShort}
use Rattle.meaning.specs.Codes.{code}
use Rattle.meaning.specs.Memory.{Memory}
use Rattle.meaning.specs.Services.{Answer, answer, judge, run, in_a_row, numbers, with_numbers, called, run_call, answer_bytes, how_many, run_each_call, Kept}
use Rattle.laws.proofs.Images as I
use Rattle.laws.proofs.Images.{whole_images, whole_answers, piece-fits, each_image, each-answer}
use Rattle.promises.specs.Promise.{numbers_in}
use Rattle.promises.specs.Answers.{Runs}
use Rattle.promises.specs.Each.{piece, RunsEach}
use Rattle.promises.proofs.Answers.{run_judges, run_short}
use Rattle.promises.proofs.Calls.{with_one}
use Rattle.promises.proofs.Demands.{run_delivers, run_reads, run_tells}
use Rattle.promises.proofs.Outside.{run_long}

-- A piece that lies within has its size.
length-piece : {k n : ℕ} (size : ℕ) (l : List ℕ) → k < n → n * size ≤ length l → length (piece size k l) ≡ size
unfolding piece
length-piece {k} size l h fits = length-take-le size (drop (k * size) l) (simp length-drop (omega (arith, piece-fits size (length l) h fits)))

-- As many as stand whole, and no fewer; none of size 0.
most_images : (size : ℕ) (images answers : List ℕ) (m : ℕ) → 0 < size → m * size ≤ length images → m * answer_bytes ≤ length answers → m ≤ how_many size images answers
unfolding how_many
most_images size images answers m h p q = rw (le-leb 1 size h) (omega (arith, (le-div_iff_mul-le h).1 p))

no_images : (size : ℕ) (images answers : List ℕ) → size ≡ 0 → how_many size images answers ≡ 0
unfolding how_many
no_images size images answers e = rw e

-- A run whose answer slice has just the bytes of an answer.
kept_alone : (text : List ℕ) (M : Memory) (budget : ℕ) (slice : List ℕ) {slice' : List ℕ} {M' : Memory} → length slice ≡ answer_bytes → slice' ≡ in_a_row (numbers (run text M budget).0) → M' ≡ (run text M budget).1
    → Kept (run_call text M budget slice) 1 slice' M'
unfolding run_call called with_numbers numbers
kept_alone text M budget slice l s m =
    let room : answer_bytes ≤ length slice = omega arith in
    let short : length slice ≤ answer_bytes = omega arith in
    let none : drop answer_bytes slice ≡ [] = drop_of_length-le slice short in
    rw (le-leb answer_bytes (length slice) room, none) (record { returns = refl; slice_is = s ∙ sym (append-nil _); lent_is = m })

module _ (text images : List ℕ) (size budget : ℕ) (answers : List ℕ) {returned : ℕ} {answers' images' : List ℕ} (kept : Kept (run_each_call text images size budget answers) returned answers' images') where
  -- The definition's images and answers, each by itself.
  pub runs_each : RunsEach text images size budget answers returned answers' images'
  unfolding run_each_call piece
  runs_each =
      let by : Memory → Answer × Memory = λ M. run text M budget in
      let n = how_many size images answers in
      let keeps : (M : Memory) → length (by M).1 ≡ length M = λ M. run_long text M budget in
      let images_fit = whole_images size images answers in
      let answers_fit = whole_answers size images answers in
      rw (kept.returns, kept.slice_is, kept.lent_is) (record {
        how = refl;
        images_fit = images_fit;
        answers_fit = answers_fit;
        most = most_images size images answers;
        none = no_images size images answers;
        as_run = λ k h. kept_alone text (piece size k images) budget (piece answer_bytes k answers) (length-piece answer_bytes answers h answers_fit)
            (each-answer by size n k images answers h) (each_image by keeps size n k images answers images_fit h);
        images_behind = I.images_behind by keeps size n images answers images_fit;
        answers_behind = I.answers_behind by size n images answers;
        images_long = I.images_long by keeps size n images answers images_fit;
        answers_long = I.answers_long by size n images answers answers_fit;
      })

  module _ (k : ℕ) (one : k < returned) where
    as_run : Kept (run_call text (piece size k images) budget (piece answer_bytes k answers)) 1 (piece answer_bytes k answers') (piece size k images')
    as_run = runs_each.as_run k one

    length_image : length (piece size k images) ≡ size
    length_image = length-piece size images one (rw runs_each.how (whole_images size images answers))

    image_is : piece size k images' ≡ (run text (piece size k images) budget).1
    image_is = let d = run_delivers text (piece size k images) budget (piece answer_bytes k answers) as_run in (d.with_room (with_one d refl)).2

    -- What a caller reads in answer k, with "a budget of 0 to 4,294,967,295 steps".
    module _ (word : budget < 2 ^ 32) where
      pub each_reads : numbers_in (piece answer_bytes k answers') ≡ (run text (piece size k images) budget).0
      each_reads = run_reads text (piece size k images) budget (piece answer_bytes k answers) as_run word refl

      pub each_tells : Runs (piece size k images) budget (numbers_in (piece answer_bytes k answers'), piece size k images')
      each_tells = run_tells text (piece size k images) budget (piece answer_bytes k answers) as_run word refl

      -- "So a refused text gives each image its refusal".
      pub each_refused : 1 ≤ (judge text).code → (numbers_in (piece answer_bytes k answers') ≡ judge text) × (piece size k images' ≡ piece size k images)
      each_refused h = let e = run_judges text (piece size k images) budget h in (each_reads ∙ rw e, image_is ∙ rw e)

      -- "and an image shorter than need 12."
      pub each_short : size < (judge text).need → (numbers_in (piece answer_bytes k answers') ≡ answer (code MemoryTooShort) 0 (judge text).need 0) × (piece size k images' ≡ piece size k images)
      each_short h =
          let short : length (piece size k images) < (judge text).need = omega (arith, length_image) in
          let e = run_short text (piece size k images) budget short in (each_reads ∙ rw e, image_is ∙ rw e)
