-- The table of declarations: addresses, a row that is written behind the others, and the rows of a scope that are closed.
use Prim.Native.Nat.{ℕ, zero, suc, ◌+◌, ◌-◌, ◌*◌, ◌/◌, ◌%◌, ◌≤◌, ◌<◌}
use native.Mathlib.Omega.{arith}
use native.Mathlib.Nat.{add-zero, mul_comm, mul_assoc, mul-le-mul_right, suc-mul, div-add-mod', mod-lt, div-lt_iff_lt-mul}
use native.Mathlib.Numerals.{add-one}
use mathlib.Core.Path.{◌≡◌, refl, sym, ap, ◌∙◌}
use mathlib.Core.Bool.{Bool, true, false}
use mathlib.Core.List.{List, [], ◌∷◌, ◌++◌, map, map-append, append-nil, append_assoc}
use lib.Dec.{leb}
use lib.ListN.{length, get_or, take, drop, set, length-set, drop_of_length-le}
use lib.Seq.{sets, length-sets, get_or-set_same, get_or-set_other, take_all, take-append-le, drop-append-le}
use Rattle.std.proofs.lemmas.Nat.{div-mul-add}
use borrow.Author.Count.{below_more}
use borrow.Author.Tests.{leb-true, leb-false}
use Rattle.meaning.specs.declared.Kind.{Kind}
use Rattle.meaning.specs.declared.Kind.TheVariants.{Int as int, Bool as bool, Float as float}
use Rattle.meaning.specs.Codes.{lengths, declaration_limit}
use Rattle.meaning.specs.Memory.{Declared, Declarations, whole, size, next_multiple, need}
use Rattle.meaning.specs.Tree.{kind_number}
use Rattle.meaning.specs.Typing.{shut, with_one}
use Rattle.layout.specs.Words.{unit}
use Rattle.layout.specs.Table.{row_words, word_of, kind_of, entry, entries, with_row, place_column, end_column, kind_column, lanes_column, address_column, open_column}
use Rattle.layout.proofs.KindNumbers.{kind_back}
use Rattle.laws.specs.Declarations.{whole_limit}
use Rattle.laws.proofs.Declarations.{by_length}
use Rattle.typing_expressions.specs.Rows.{Spans, ListedLength, Rows, spelled, end_of, closed, Closes}
use Rattle.typing_expressions.proofs.Names.{length-entries}

-- ---- lengths and sizes
-- A whole size is at least 1, and the largest is a multiple of it.
pub record Size (s : ℕ) : Type 0 where
  pub some : 0 < s
  pub few : s ≤ whole_limit
  pub times : ℕ
  pub is : times * s ≡ whole_limit

of : (s t : ℕ) → 0 < s → s ≤ whole_limit → t * s ≡ whole_limit → Size s
of s t p f e = record { some = p; few = f; times = t; is = e }

pub listed_one : ListedLength 1
unfolding lengths
listed_one = record { is = refl }

four_size : {n : ℕ} → ListedLength n → Size (n * 4)
four_size {n} l =
    by_length (λ n. Size (n * 4)) n l.is
    (of 4 64 (omega arith) (omega arith) refl)
    (of 8 32 (omega arith) (omega arith) refl)
    (of 16 16 (omega arith) (omega arith) refl)
    (of 32 8 (omega arith) (omega arith) refl)
    (of 64 4 (omega arith) (omega arith) refl)
    (of 128 2 (omega arith) (omega arith) refl)
    (of 256 1 (omega arith) (omega arith) refl)

pub whole-size : (k : Kind) {n : ℕ} → ListedLength n → Size (whole k n)
unfolding whole size
whole-size int l = four_size l
whole-size bool {n} l =
    by_length (λ n. Size (n * 1)) n l.is
    (of 1 256 (omega arith) (omega arith) refl)
    (of 2 128 (omega arith) (omega arith) refl)
    (of 4 64 (omega arith) (omega arith) refl)
    (of 8 32 (omega arith) (omega arith) refl)
    (of 16 16 (omega arith) (omega arith) refl)
    (of 32 8 (omega arith) (omega arith) refl)
    (of 64 4 (omega arith) (omega arith) refl)
whole-size float l = four_size l

-- ---- addresses
module _ {s : ℕ} (z : Size s) (end : ℕ) where
  pub after-end : end ≤ next_multiple end s
  unfolding next_multiple
  after-end = omega (arith, div-add-mod' (end + (s - 1)) s, mod-lt (end + (s - 1)) z.some, z.some)

  -- The largest size for each of the declarations so far is a multiple of the size, so the next multiple stays below it.
  pub in_reach : (c : ℕ) → end ≤ whole_limit * c → next_multiple end s ≤ whole_limit * c
  unfolding next_multiple
  in_reach c h =
      let e : whole_limit * c ≡ c * z.times * s = mul_comm whole_limit c ∙ rw (← z.is) (sym (mul_assoc c z.times s)) in
      let q : (end + (s - 1)) / s < suc (c * z.times) = (div-lt_iff_lt-mul z.some).1 (rw (suc-mul (c * z.times) s, ← e) (omega (arith, z.some))) in
      rw e (mul-le-mul_right s (omega arith))

-- What the library rounds an end up to is the next multiple.
pub rounded : (r end s : ℕ) → 0 < s → end ≤ r → r < end + s → r % s ≡ 0 → r ≡ next_multiple end s
unfolding next_multiple
rounded r end s p low high e =
    let up : end + (s - 1) ≡ r / s * s + (end + (s - 1) - r) = omega (arith, div-add-mod' r s) in
    rw (up, div-mul-add (r / s) s (end + (s - 1) - r) (omega arith)) (omega (arith, div-add-mod' r s))

pub need-entries : (text table : List ℕ) (n : ℕ) → need (entries text table n) ≡ end_of table n
unfolding entries entry end_of need
need-entries text table zero = refl
need-entries text table (suc n) = last (entries text table n) (entry text table n)
  where
    last : (Γ : Declarations) (d : Declared) → need (Γ ++ (d ∷ [])) ≡ d.address + whole d.kind d.lanes
    last [] d = refl
    last (c ∷ []) d = refl
    last (c ∷ e ∷ Γ) d = last (e ∷ Γ) d

-- The end of the last declaration, by the words that the code has read.
pub last_end : (table : List ℕ) (n : ℕ) {a s l : ℕ} {k : Kind} → (n ≡ 0 → ⊥) → a ≡ word_of table (n - 1) address_column → s ≡ whole k l → k ≡ kind_of (word_of table (n - 1) kind_column) → l ≡ word_of table (n - 1) lanes_column
    → end_of table n ≡ a + s
unfolding end_of
last_end table zero h ea es ek el = absurd (h refl)
last_end table (suc n) h ea es ek el = let e : suc n - 1 ≡ n = omega arith in rw (es, ek, el, ea, e)

-- ---- a unit of words that is written
module _ (l : List ℕ) (n a b c : ℕ) where
  pub unit-other : (j : ℕ) → (j ≡ n → ⊥) → (j ≡ suc n → ⊥) → (j ≡ suc (suc n) → ⊥) → get_or (sets l n (unit a b c)) j 0 ≡ get_or l j 0
  unit-other j p q r =
      get_or-set_other (set (set l n a) (suc n) b) (suc (suc n)) j c 0 r ∙ get_or-set_other (set l n a) (suc n) j b 0 q ∙ get_or-set_other l n j a 0 p

  module _ (room : n + 3 ≤ length l) where
    pub unit_0 : get_or (sets l n (unit a b c)) n 0 ≡ a
    unit_0 =
        get_or-set_other (set (set l n a) (suc n) b) (suc (suc n)) n c 0 (λ z. omega arith)
        ∙ get_or-set_other (set l n a) (suc n) n b 0 (λ z. omega arith)
        ∙ get_or-set_same l n a 0 (omega arith)

    pub unit_1 : get_or (sets l n (unit a b c)) (n + 1) 0 ≡ b
    unit_1 = rw (add-one n) (
        get_or-set_other (set (set l n a) (suc n) b) (suc (suc n)) (suc n) c 0 (λ z. omega arith)
        ∙ get_or-set_same (set l n a) (suc n) b 0 (rw (length-set l n a) (omega arith)))

    pub unit_2 : get_or (sets l n (unit a b c)) (n + 2) 0 ≡ c
    unit_2 =
        let two : n + 2 ≡ suc (suc n) = omega arith in
        rw two (get_or-set_same (set (set l n a) (suc n) b) (suc (suc n)) c 0 (rw (length-set (set l n a) (suc n) b, length-set l n a) (omega arith)))

-- ---- tables that agree
module _ (text T U : List ℕ) where
  entry_same : (i : ℕ) → ((k : ℕ) → k < 6 → word_of U i k ≡ word_of T i k) → entry text U i ≡ entry text T i
  unfolding entry
  entry_same i h = rw (h 0 (omega arith), h 1 (omega arith), h 2 (omega arith), h 3 (omega arith), h 4 (omega arith), h 5 (omega arith))

  entries_same : (n : ℕ) → ((i k : ℕ) → i < n → k < 6 → word_of U i k ≡ word_of T i k) → entries text U n ≡ entries text T n
  unfolding entries
  entries_same zero h = refl
  entries_same (suc n) h = rw (entries_same n (λ i k l m. h i k (omega arith) m), entry_same n (λ k m. h n k (omega arith) m))

end_same : (T U : List ℕ) (n : ℕ) → ((i k : ℕ) → i < n → k < 5 → word_of U i k ≡ word_of T i k) → end_of U n ≡ end_of T n
unfolding end_of
end_same T U zero h = refl
end_same T U (suc n) h = rw (h n 4 (omega arith) (omega arith), h n 2 (omega arith) (omega arith), h n 3 (omega arith) (omega arith))

-- ---- one more declaration
-- The table U has the n rows of the table T, and behind them a row that is open.
pub record Added (T U : List ℕ) (n place end kind lanes address : ℕ) : Type 0 where
  pub as_long : length U ≡ length T
  pub before : (i k : ℕ) → i < n → k < row_words → word_of U i k ≡ word_of T i k
  pub its_place : word_of U n place_column ≡ place
  pub its_end : word_of U n end_column ≡ end
  pub its_kind : word_of U n kind_column ≡ kind
  pub its_lanes : word_of U n lanes_column ≡ lanes
  pub its_address : word_of U n address_column ≡ address
  pub its_open : word_of U n open_column ≡ 1

pub added : (T : List ℕ) (n place end kind lanes address : ℕ) → n * 6 + 6 ≤ length T
    → Added T (with_row T n place end kind lanes address) n place end kind lanes address
added T n place end kind lanes address room = record {
  as_long = length-sets U (n * 6 + 3) (unit lanes address 1) ∙ length-sets T (n * 6) (unit place end kind);
  before = λ i k l m. second (i * 6 + k) (omega arith) ∙ unit-other T (n * 6) place end kind (i * 6 + k) (λ z. omega arith) (λ z. omega arith) (λ z. omega arith);
  its_place = second (n * 6 + 0) (omega arith) ∙ rw (add-zero (n * 6)) (unit_0 T (n * 6) place end kind (omega arith));
  its_end = second (n * 6 + 1) (omega arith) ∙ unit_1 T (n * 6) place end kind (omega arith);
  its_kind = second (n * 6 + 2) (omega arith) ∙ unit_2 T (n * 6) place end kind (omega arith);
  its_lanes = unit_0 U (n * 6 + 3) lanes address 1 wide;
  its_address = rw four (unit_1 U (n * 6 + 3) lanes address 1 wide);
  its_open = rw five (unit_2 U (n * 6 + 3) lanes address 1 wide);
}
  where
    U : List ℕ
    U = sets T (n * 6) (unit place end kind)

    wide : n * 6 + 3 + 3 ≤ length U
    wide = rw (length-sets T (n * 6) (unit place end kind)) (omega arith)

    four : n * 6 + 4 ≡ n * 6 + 3 + 1
    four = omega arith

    five : n * 6 + 5 ≡ n * 6 + 3 + 2
    five = omega arith

    second : (j : ℕ) → j < n * 6 + 3 → get_or (sets U (n * 6 + 3) (unit lanes address 1)) j 0 ≡ get_or U j 0
    second j l = unit-other U (n * 6 + 3) lanes address 1 j (λ z. omega arith) (λ z. omega arith) (λ z. omega arith)

module _ {T U : List ℕ} {n place end lanes : ℕ} (text : List ℕ) (k : Kind) (a : Added T U n place end (kind_number k) lanes (next_multiple (end_of T n) (whole k lanes))) where
  pub added_entries : entries text U (n + 1) ≡ with_one k lanes place (spelled text place end) (entries text T n)
  unfolding entries entry with_one
  added_entries = rw (add-one n) (rw (
    entries_same text T U n a.before,
    a.its_place,
    a.its_end,
    a.its_kind,
    a.its_lanes,
    a.its_address,
    a.its_open,
    kind_back k,
    need-entries text T n,
  ))

  pub added_rows : Rows text T n → n < declaration_limit → Spans text place end → ListedLength lanes → Rows text U (n + 1)
  unfolding end_of
  added_rows r l w s = record {
    short = r.short;
    few = omega arith;
    room = omega (arith, r.room, a.as_long);
    names = below_more (λ i. Spans text (word_of U i 0) (word_of U i 1)) n (λ i m. rw (a.before i 0 m (omega arith), a.before i 1 m (omega arith)) (r.names i m)) (rw (a.its_place, a.its_end) w);
    listed = below_more (λ i. ListedLength (word_of U i 3)) n (λ i m. rw (a.before i 3 m (omega arith)) (r.listed i m)) (rw a.its_lanes s);
    ends = below_more (λ i. end_of U (suc i) ≤ end_of U (n + 1)) n (λ i m. omega (arith, old (suc i) m, r.ends i m, up, now)) (omega (arith, ap (end_of U) (add-one n)));
    small = omega (arith, z.few, far, now);
  }
    where
      z : Size (whole k lanes)
      z = whole-size k s

      up : end_of T n ≤ next_multiple (end_of T n) (whole k lanes)
      up = after-end z (end_of T n)

      far : next_multiple (end_of T n) (whole k lanes) ≤ whole_limit * n
      far = in_reach z (end_of T n) n r.small

      old : (i : ℕ) → i ≤ n → end_of U i ≡ end_of T i
      old i m = end_same T U i (λ j q b d. a.before j q (omega arith) (omega arith))

      now : end_of U (n + 1) ≡ next_multiple (end_of T n) (whole k lanes) + whole k lanes
      now = rw (add-one n) (rw (a.its_address, a.its_kind, a.its_lanes, kind_back k))

-- ---- closing a scope
-- From one number to another the rows are no longer open; nothing else has changed.
pub record Shut (from i : ℕ) (T U : List ℕ) : Type 0 where
  pub as_long : length U ≡ length T
  pub words : (j k : ℕ) → k < 5 → word_of U j k ≡ word_of T j k
  pub before : (j : ℕ) → j < from → word_of U j 5 ≡ word_of T j 5
  pub rest : (j : ℕ) → i ≤ j → word_of U j 5 ≡ word_of T j 5
  pub shuts : (j : ℕ) → from ≤ j → j < i → word_of U j 5 ≡ 0

pub shut_none : (from : ℕ) (T : List ℕ) → Shut from from T T
shut_none from T = record { as_long = refl; words = λ j k l. refl; before = λ j l. refl; rest = λ j l. refl; shuts = λ j p q. absurd (omega arith) }

pub shut_more : {from i : ℕ} {T U : List ℕ} → Shut from i T U → from ≤ i → i * 6 + 5 < length U → Shut from (i + 1) T (set U (i * 6 + 5) 0)
shut_more {from} {i} {T} {U} s l room = record {
  as_long = length-set U (i * 6 + 5) 0 ∙ s.as_long;
  words = λ j k m. other (j * 6 + k) (λ z. omega arith) ∙ s.words j k m;
  before = λ j m. other (j * 6 + 5) (λ z. omega arith) ∙ s.before j m;
  rest = λ j m. other (j * 6 + 5) (λ z. omega arith) ∙ s.rest j (omega arith);
  shuts = λ j p q. below_more (λ j. from ≤ j → word_of (set U (i * 6 + 5) 0) j 5 ≡ 0) i (λ j m p. other (j * 6 + 5) (λ z. omega arith) ∙ s.shuts j p m) (λ p. get_or-set_same U (i * 6 + 5) 0 0 room) j q p;
}
  where
    other : (j : ℕ) → (j ≡ i * 6 + 5 → ⊥) → get_or (set U (i * 6 + 5) 0) j 0 ≡ get_or U j 0
    other j n = get_or-set_other U (i * 6 + 5) j 0 0 n

module _ (from : ℕ) where
  closed_short : (Γ : Declarations) → length Γ ≤ from → closed from Γ ≡ Γ
  unfolding closed
  closed_short Γ h = rw (take_all from Γ h, drop_of_length-le Γ {i = from} h) (append-nil Γ)

  closed_snoc : (Γ : Declarations) (d : Declared) → from ≤ length Γ → closed from (Γ ++ (d ∷ [])) ≡ closed from Γ ++ (shut d ∷ [])
  unfolding closed
  closed_snoc Γ d h = rw (take-append-le from Γ (d ∷ []) h, drop-append-le from Γ (d ∷ []) h, map-append shut (drop from Γ) (d ∷ [])) (sym (append_assoc (take from Γ) (map shut (drop from Γ)) (shut d ∷ [])))

module _ {from count : ℕ} {T U : List ℕ} (s : Shut from count T U) where
  shut-entries : (text : List ℕ) (n : ℕ) → n ≤ count → entries text U n ≡ closed from (entries text T n)
  unfolding entries entry shut
  shut-entries text zero h = sym (closed_short from [] (omega arith))
  shut-entries text (suc n) h = go (shut-entries text n (omega arith)) (leb from n) refl
    where
      same : (i k : ℕ) → i < from → k < 6 → word_of U i k ≡ word_of T i k
      same i k l w = below_more (λ k. word_of U i k ≡ word_of T i k) 5 (λ k m. s.words i k m) (s.before i l) k w

      go : entries text U n ≡ closed from (entries text T n) → (b : Bool) → leb from n ≡ b → entries text U (suc n) ≡ closed from (entries text T (suc n))
      go e true q =
          let m = leb-true from n q in
          rw (e, closed_snoc from (entries text T n) (entry text T n) (omega (arith, length-entries text T n)), s.words n 0 (omega arith), s.words n 1 (omega arith), s.words n 2 (omega arith), s.words n 3 (omega arith), s.words n 4 (omega arith), s.shuts n m (omega arith))
      go e false q =
          let m = leb-false from n q in
          rw (closed_short from (entries text T (suc n)) (omega (arith, length-entries text T (suc n))))
          (entries_same text T U (suc n) (λ i k l w. same i k (omega arith) w))

  shut-rows : (text : List ℕ) → Rows text T count → Rows text U count
  shut-rows text r = record {
    short = r.short;
    few = r.few;
    room = omega (arith, r.room, s.as_long);
    names = λ i l. rw (s.words i 0 (omega arith), s.words i 1 (omega arith)) (r.names i l);
    listed = λ i l. rw (s.words i 3 (omega arith)) (r.listed i l);
    ends = λ i l. rw (ends (suc i), ends count) (r.ends i l);
    small = rw (ends count) r.small;
  }
    where
      ends : (n : ℕ) → end_of U n ≡ end_of T n
      ends n = end_same T U n (λ i k l m. s.words i k m)

  pub shut_all : Closes from count T U
  shut_all = record { shuts = λ text. shut-entries text count (omega arith); keeps = shut-rows }
