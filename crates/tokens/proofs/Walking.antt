-- A list of texts in rows of bytes, each filled up with spaces, and the walk from row to row to the first text that passes a test. The texts
-- that are left are numbered as the definition numbers them, so that what the walk finds is what the definition looks up.
use mathlib.Core.Path.{◌≡◌, refl, sym, ap, ◌∙◌}
use mathlib.Core.Bool.{Bool, true, false, ◌&&◌}
use mathlib.Core.List.{List, [], ◌∷◌, ◌++◌}
use mathlib.Core.Option.{Option, none, some}
use Prim.Native.Nat.{ℕ, zero, suc, ◌+◌, ◌≤◌, ◌<◌}
use Prim.Native.String.{String}
use native.Mathlib.Nat.{add-zero, zero-add, suc-add}
use native.Mathlib.Numerals.{add-one}
use native.Mathlib.Omega.{arith}
use lib.ListN.{length, get_or, drop, drop_of_length-le}
use lib.Seq.{drop-nil, drop-cons}
use Rattle.meaning.specs.Codes.{lookup}
use Rattle.meaning.specs.Tokens.{bytes, numbered}
use Rattle.tokens.specs.Lexing.{blank, filled, rows}

pub length-filled : (n : ℕ) (s : List ℕ) → length (filled n s) ≡ n
length-filled zero s = refl
length-filled (suc n) [] = ap suc (length-filled n [])
length-filled (suc n) (b ∷ s) = ap suc (length-filled n s)

-- A row in two parts.
pub filled_parts : (n m : ℕ) (s : List ℕ) → filled (n + m) s ≡ filled n s ++ filled m (drop n s)
filled_parts zero m s = rw (zero-add m)
filled_parts (suc n) m [] = rw (suc-add n m, filled_parts n m [], drop-nil n)
filled_parts (suc n) m (b ∷ s) = rw (suc-add n m, filled_parts n m s)

filled_at : (n : ℕ) (s : List ℕ) (i : ℕ) → i < n → get_or (filled n s) i 0 ≡ get_or s i blank
filled_at zero s i lt = absurd (omega arith)
filled_at (suc n) [] zero lt = refl
filled_at (suc n) [] (suc i) lt = filled_at n [] i (omega arith)
filled_at (suc n) (b ∷ s) zero lt = refl
filled_at (suc n) (b ∷ s) (suc i) lt = filled_at n s i (omega arith)

-- Every text passes a test.
abbrev pub every : (List ℕ → Bool) → List String → Bool
every test [] = true
every test (r ∷ l) = test (bytes r) && every test l

module _ (width : ℕ) (test : List ℕ → Bool) (first : ℕ) (texts : List String) (list : List (List ℕ)) where
  -- What the definition finds.
  abbrev pub looked : Option ℕ
  looked = lookup (λ r. test (bytes r)) (numbered first texts)

  -- At row i: no text before it has passed.
  pub record Walk (i : ℕ) : Type 0 where
    pub left : List String
    pub here : drop i list ≡ rows width left
    pub same : looked ≡ lookup (λ r. test (bytes r)) (numbered (first + i) left)
    pub count : i + length left ≡ length texts

  pub walk_start : list ≡ rows width texts → Walk 0
  walk_start is = record { left = texts; here = is; same = rw add-zero; count = omega arith }

  -- The row at which a walk is, and how it goes on.
  pub record Row (i : ℕ) : Type 0 where
    pub text : String
    pub row : get_or list i [] ≡ filled width (bytes text)
    pub few : i < length texts
    pub hit : test (bytes text) ≡ true → looked ≡ some (first + i)
    pub miss : test (bytes text) ≡ false → Walk (i + 1)

  pub walk_row : {i : ℕ} → Walk i → i < length list → Row i
  unfolding numbered
  walk_row {i} w lt = go w.left (sym (drop-cons list i [] lt) ∙ w.here) w.same w.count
    where
      go : (l : List String) → get_or list i [] ∷ drop (suc i) list ≡ rows width l → looked ≡ lookup (λ r. test (bytes r)) (numbered (first + i) l)
          → i + length l ≡ length texts → Row i
      go [] here same count = absurd (cc)
      go (r ∷ l) here same count =
          let next : suc (first + i) ≡ first + (i + 1) = omega arith in
          record {
            text = r;
            row = cc;
            few = omega arith;
            hit = λ e. same ∙ rw e;
            miss = λ e.
                record {
                  left = l;
                  here = rw (add-one i) (cc);
                  same = same ∙ rw (e, next);
                  count = omega arith;
                };
          }

  -- A byte of the row.
  pub row_byte : {i : ℕ} (r : Row i) (j : ℕ) → j < width → get_or (get_or list i []) j 0 ≡ get_or (bytes r.text) j blank
  row_byte r j lt = rw r.row (filled_at width (bytes r.text) j lt)

  -- Past the last row.
  pub walk_end : {i : ℕ} → Walk i → length list ≤ i → looked ≡ none
  unfolding numbered
  walk_end {i} w le = go w.left (sym (drop_of_length-le list le) ∙ w.here) w.same
    where
      go : (l : List String) → [] ≡ rows width l → looked ≡ lookup (λ r. test (bytes r)) (numbered (first + i) l) → looked ≡ none
      go [] here same = same
      go (r ∷ l) here same = absurd (cc)
