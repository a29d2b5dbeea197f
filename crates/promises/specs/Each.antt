-- What a text leaves that is judged once and run over many images: the statement.
use Rattle.std.specs.Prelude.{ℕ, ◌*◌, ◌≤◌, ◌<◌, ◌≡◌, List, length, take, drop}
use Rattle.meaning.specs.Services.{answer_bytes, how_many, run_call, Kept}

-- "Image k is the bytes from k·size to (k+1)·size, its answer the 16 bytes at 16·k."
unfoldable pub piece : ℕ → ℕ → List ℕ → List ℕ
piece size k l = take size (drop (k * size) l)

-- It "runs as many images as stand whole in `images` and in `answers` (none where size is 0), answers how many, and leaves image k and
-- answer k exactly as `run` would ..; every other byte stays."
pub record RunsEach (text images : List ℕ) (size budget : ℕ) (answers : List ℕ) (returned : ℕ) (answers' images' : List ℕ) : Type 0 where
  pub how : returned ≡ how_many size images answers
  pub images_fit : returned * size ≤ length images
  pub answers_fit : returned * answer_bytes ≤ length answers
  pub most : (m : ℕ) → 0 < size → m * size ≤ length images → m * answer_bytes ≤ length answers → m ≤ returned
  pub none : size ≡ 0 → returned ≡ 0
  pub as_run : (k : ℕ) → k < returned → Kept (run_call text (piece size k images) budget (piece answer_bytes k answers)) 1 (piece answer_bytes k answers') (piece size k images')
  pub images_behind : drop (returned * size) images' ≡ drop (returned * size) images
  pub answers_behind : drop (returned * answer_bytes) answers' ≡ drop (returned * answer_bytes) answers
  pub images_long : length images' ≡ length images
  pub answers_long : length answers' ≡ length answers
