-- Addresses, of every text and of every result that keeps the listing's promise: each at the next multiple of its whole size, none
-- shared; need is the end of the last; and every place lies in the text or is its length.
use Prim.Native.Nat.{ℕ, zero, suc, ◌+◌, ◌*◌, ◌^◌, ◌≤◌, ◌<◌}
use mathlib.Core.Path.{◌≡◌, refl, sym, ap, ◌∙◌}
use mathlib.Core.List.{List, [], ◌∷◌, ◌++◌}
use native.Mathlib.Omega.{arith}
use lib.Dec.{leb}
use lib.ListN.{length, drop, length-drop}
use lib.Seq.{drop-append-add, drop-drop}
use borrow.Author.Tests.{leb-true, leb-false}
use Rattle.meaning.specs.declared.Kind.{Kind}
use Rattle.meaning.specs.declared.Kind.TheVariants.{Int as int, Bool as bool, Float as float}
use Rattle.meaning.specs.Codes.{Out, ok, refused, text_limit}
use Rattle.meaning.specs.Program.{Program}
use Rattle.meaning.specs.Tree.{kind_number}
use Rattle.meaning.specs.Memory.{Declared, Declarations, declared, size, whole, little_endian, number_of, need}
use Rattle.meaning.specs.Services.{Answer, answer, judged, verdict, in_a_row, listed, table_of, variables_call, Kept}
use Rattle.meaning.specs.Services as S
use Rattle.laws.specs.Declarations as D
use Rattle.laws.specs.Declarations.{Ordered}
use Rattle.laws.specs.Order.{InTextOrder}
use Rattle.laws.specs.Words.{need_limit, InLimits}
use Rattle.laws.proofs.Tests.{by_if}
use Rattle.laws.proofs.Declarations.{listed_some, listed_few, next_divides, next_behind, next_least, need_last, ordered_none}
use Rattle.laws.proofs.Order.{accepted_rising}
use Rattle.laws.proofs.Services.{need_low, by_verdict, judge_limits, run_limits, variables_limits}
use Rattle.lane.specs.Lane.{variables_in, variables}
use Rattle.promises.specs.Promise.{number_at, numbers_in}
use Rattle.promises.specs.Addresses.{Span, end, Covers, previous_end, Addresses, Needs, span_of, record_bytes, entry_of, entry_in, size_told, span_in, shown, ListsAddresses, Placed, EveryPlace}
use Rattle.promises.proofs.Calls.{four_bytes, with_one}
use Rattle.promises.proofs.Demands.{judge_reads, run_reads, variables_delivers, variables_reads}

-- The whole size of a listed length is a byte at least.
some_bytes : (k : Kind) (n : ℕ) → 0 < n → 0 < whole k n
unfolding whole size
some_bytes int n h = omega arith
some_bytes bool n h = omega arith
some_bytes float n h = omega arith

-- Declarations in order.
module _ {text : List ℕ} {Γ : Declarations} (order : Ordered text Γ) where
  spans : ℕ → Span
  spans x = span_of (declared Γ x)

  before : (x : ℕ) → previous_end spans x ≡ D.end_before Γ x
  unfolding previous_end D.end_before spans span_of
  before zero = refl
  before (suc x) = refl

  apart : (x y b : ℕ) → x < y → y < length Γ → Covers (spans x) b → Covers (spans y) b → ⊥
  unfolding spans span_of
  apart x y b l h c e = omega (arith, order.laid.apart x y l h, c.to, e.from)

  ordered_addresses : Addresses (length Γ) spans
  unfolding spans span_of
  ordered_addresses = record {
    some_bytes = some;
    multiple = λ x h. rw (order.next x h) (next_divides (D.end_before Γ x) (size_of x) (some x h));
    behind = λ x h. rw (before x, order.next x h) (next_behind (D.end_before Γ x) (size_of x) (some x h));
    least = λ x a h m l. rw (order.next x h) (next_least (D.end_before Γ x) (size_of x) (some x h) a m (rw (before x) at l));
    own = λ x y b h g c e.
        let not_less : x < y → ⊥ = λ l. apart x y b l g c e in
        let not_more : y < x → ⊥ = λ l. apart y x b l h e c in
        omega arith;
  }
    where
      size_of : ℕ → ℕ
      size_of x = whole (declared Γ x).kind (declared Γ x).lanes

      some : (x : ℕ) → x < length Γ → 0 < size_of x
      some x h = some_bytes (declared Γ x).kind (declared Γ x).lanes (listed_some _ (order.laid.listed x h))

  ordered_needs : Needs (length Γ) spans (need Γ)
  ordered_needs = record { last = need_last Γ ∙ sym (before (length Γ)); limit = need_low order.laid }

-- The declarations of a text are in order; of a refused text there are none. A place of a name is low, since no long text is accepted.
module _ (text : List ℕ) where
  in_order : Ordered text (variables text)
  unfolding variables_in
  in_order = by_verdict text (λ o. Ordered text (variables_in o)) (λ P Γ _ r. r.ordered) (λ c p _ _. ordered_none text)

  -- Document 01's sentences of the declarations of every text.
  pub declared_addresses : Addresses (length (variables text)) (λ x. span_of (declared (variables text) x))
  unfolding spans
  declared_addresses = ordered_addresses in_order

  pub declared_needs : Needs (length (variables text)) (λ x. span_of (declared (variables text) x)) (need (variables text))
  unfolding spans
  declared_needs = ordered_needs in_order

  -- "in text order"
  pub declared_order : InTextOrder (variables text)
  unfolding variables_in
  declared_order = go (judged text) refl
    where
      go : (o : Out Declarations Program) → judged text ≡ o → InTextOrder (variables_in o)
      go (ok P Γ) e = accepted_rising text e
      go (refused c p) e = record { rising = λ x y h g. absurd (omega arith) }

  short : 0 < length (variables text) → length text ≤ text_limit
  unfolding variables_in
  short = by_verdict text (λ o. 0 < length (variables_in o) → length text ≤ text_limit) (λ P Γ l _ _. l) (λ c p _ _ h. absurd (omega arith))

-- Fewer variables at the same addresses.
module _ {n m : ℕ} {f g : ℕ → Span} (less : n ≤ m) (same : (x : ℕ) → x < n → g x ≡ f x) where
  previous_same : (x : ℕ) → x ≤ n → previous_end g x ≡ previous_end f x
  unfolding previous_end
  previous_same zero h = refl
  previous_same (suc x) h = ap end (same x (omega arith))

  addresses_same : Addresses m f → Addresses n g
  addresses_same a = record {
    some_bytes = λ x h. rw (same x h) (a.some_bytes x (omega arith));
    multiple = λ x h. rw (same x h) (a.multiple x (omega arith));
    behind = λ x h. rw (previous_same x (omega arith), same x h) (a.behind x (omega arith));
    least = λ x b h d l. rw (same x h) (a.least x b (omega arith) (rw (same x h) at d) (rw (previous_same x (omega arith)) at l));
    own = λ x y b h k c e. a.own x y b (omega arith) (omega arith) (rw (same x h) at c) (rw (same y k) at e);
  }

-- The numbers of a declaration fit 32 bits.
record Low (d : Declared) : Type 0 where
  place : d.place < 2 ^ 32
  lanes : d.lanes < 2 ^ 32
  address : d.address < 2 ^ 32

kind_low : (k : Kind) → kind_number k < 2 ^ 32
unfolding kind_number
kind_low int = omega arith
kind_low bool = omega arith
kind_low float = omega arith

-- The bytes of a record.
abbrev record_of : Declared → List ℕ
record_of d = in_a_row (d.place ∷ kind_number d.kind ∷ d.lanes ∷ d.address ∷ [])

-- What is written in a table is read back, record by record, and behind the last record it is as it was.
first_entry : (d : Declared) (l : List ℕ) → Low d → entry_in (record_of d ++ l) 0 ≡ entry_of d
unfolding entry_in entry_of number_at in_a_row little_endian number_of
first_entry d l w = λ i. record {
  place = four_bytes d.place w.place i;
  kind = four_bytes (kind_number d.kind) (kind_low d.kind) i;
  lanes = four_bytes d.lanes w.lanes i;
  address = four_bytes d.address w.address i;
}

drop_record : (d : Declared) (l : List ℕ) (n : ℕ) → drop (record_bytes + n) (record_of d ++ l) ≡ drop n l
unfolding in_a_row little_endian
drop_record d l n = drop-append-add (record_of d) l n

next_entry : (d : Declared) (l : List ℕ) (x : ℕ) → entry_in (record_of d ++ l) (suc x) ≡ entry_in l x
unfolding entry_in
next_entry d l x =
    let more : record_bytes * suc x ≡ record_bytes + record_bytes * x = omega arith in
    rw (more, drop_record d l (record_bytes * x))

entries-listed : (Γ : Declarations) (l : List ℕ) (x : ℕ) → x < length Γ → record_bytes * suc x ≤ length l → ((y : ℕ) → y < length Γ → Low (declared Γ y))
    → entry_in (listed Γ l) x ≡ entry_of (declared Γ x)
unfolding listed declared
entries-listed [] l x h _ _ = absurd (omega arith)
entries-listed (d ∷ Γ) l zero h room low =
    let rest = listed Γ (drop record_bytes l) in
    by_if (λ t. entry_in t 0 ≡ entry_of d) (leb record_bytes (length l)) (λ _. record_of d ++ rest) (λ _. l)
    (λ _. first_entry d rest (low 0 (omega arith)))
    (λ t. absurd (omega (arith, leb-false record_bytes (length l) t)))
entries-listed (d ∷ Γ) l (suc x) h room low =
    let rest = listed Γ (drop record_bytes l) in
    let tail = entries-listed Γ (drop record_bytes l) x (omega arith) (omega (arith, length-drop record_bytes l)) (λ y k. low (suc y) (omega arith)) in
    by_if (λ t. entry_in t (suc x) ≡ entry_of (declared Γ x)) (leb record_bytes (length l)) (λ _. record_of d ++ rest) (λ _. l)
    (λ _. next_entry d rest x ∙ tail)
    (λ t. absurd (omega (arith, leb-false record_bytes (length l) t)))

rest_listed : (Γ : Declarations) (l : List ℕ) → drop (record_bytes * shown (length Γ) l) (listed Γ l) ≡ drop (record_bytes * shown (length Γ) l) l
unfolding listed
rest_listed [] l = refl
rest_listed (d ∷ Γ) l =
    let left = drop record_bytes l in
    let n = record_bytes * shown (length Γ) left in
    let tail : drop n (listed Γ left) ≡ drop n left = rest_listed Γ left in
    by_if (λ t. drop (record_bytes * shown (suc (length Γ)) l) t ≡ drop (record_bytes * shown (suc (length Γ)) l) l) (leb record_bytes (length l)) (λ _. record_of d ++ listed Γ left) (λ _. l)
    (λ t.
    let one_more : record_bytes * shown (suc (length Γ)) l ≡ record_bytes + n = omega (arith, length-drop record_bytes l, leb-true record_bytes (length l) t) in
    rw one_more (drop_record d (listed Γ left) n ∙ tail ∙ drop-drop n record_bytes l))
    (λ _. refl)

-- A record tells where its variable's bytes lie.
told-size : (k : Kind) → size_told (kind_number k) ≡ size k
unfolding size_told kind_number
told-size int = refl
told-size bool = refl
told-size float = refl

told_span : (table : List ℕ) (x : ℕ) (d : Declared) → entry_in table x ≡ entry_of d → span_in table x ≡ span_of d
unfolding span_in span_of entry_of whole
told_span table x d e = rw (e, told-size d.kind)

-- The listing, as it is defined.
module _ (text table : List ℕ) where
  abbrev Γ : Declarations
  Γ = variables text

  counted : (S.variables text table).0.steps ≡ length Γ
  unfolding S.variables verdict variables_in answer
  counted = by_verdict text (λ o. (verdict length o).steps ≡ length (variables_in o)) (λ P Γ _ _. refl) (λ c p _ _. refl)

  needed : (S.variables text table).0.need ≡ need Γ
  unfolding S.variables verdict variables_in answer need
  needed = by_verdict text (λ o. (verdict length o).need ≡ need (variables_in o)) (λ P Γ _ _. refl) (λ c p _ _. refl)

  written : (S.variables text table).1 ≡ listed Γ table
  unfolding S.variables table_of variables_in listed
  written = by_verdict text (λ o. table_of o table ≡ listed (variables_in o) table) (λ P Γ _ _. refl) (λ c p _ _. refl)

  named : (x : ℕ) → x < length Γ → (declared Γ x).place < length text
  named x h = let s = (in_order text).named x h in omega (arith, s.some_bytes, s.inside)

  low : (x : ℕ) → x < length Γ → Low (declared Γ x)
  unfolding need_limit
  low x h =
      let order = in_order text in
      record {
        place = omega (arith, named x h, short text (omega arith));
        lanes = omega (arith, listed_few _ (order.laid.listed x h));
        address = omega (arith, order.laid.ends x h, need_low order.laid);
      }

  entry_is : (x : ℕ) → x < shown (length Γ) table → entry_in (listed Γ table) x ≡ entry_of (declared Γ x)
  entry_is x h = entries-listed Γ table x (omega arith) (omega arith) low

  span_is : (x : ℕ) → x < shown (length Γ) table → span_in (listed Γ table) x ≡ span_of (declared Γ x)
  span_is x h = told_span (listed Γ table) x (declared Γ x) (entry_is x h)

  pub listing_addresses : ListsAddresses text table (S.variables text table).0 (S.variables text table).1
  unfolding span_of entry_of
  listing_addresses = record {
    count = counted;
    entries = rw (counted, written) entry_is;
    rest = rw (counted, written) (rest_listed Γ table);
    places = rw (counted, written) (λ x h. rw (entry_is x h) (named x (omega arith)));
    names = rw (counted, written) (λ x h. rw (entry_is x h) ((in_order text).named x (omega arith)));
    in_order = rw (counted, written) ordered_places;
    addresses = rw (counted, written) (addresses_same (omega arith) span_is (declared_addresses text));
    enough = rw (counted, written, needed) (λ x h. rw (span_is x h) ((in_order text).laid.ends x (omega arith)));
    limit = (variables_limits text table).need;
    needs = rw (counted, written, needed) all;
  }
    where
      ordered_places : (x y : ℕ) → x < y → y < shown (length Γ) table → (entry_in (listed Γ table) x).place < (entry_in (listed Γ table) y).place
      ordered_places x y h g = rw (entry_is x (omega arith), entry_is y g) ((declared_order text).rising x y h (omega arith))

      all : record_bytes * length Γ ≤ length table → Needs (length Γ) (span_in (listed Γ table)) (need Γ)
      all room =
          let every : (x : ℕ) → x < length Γ → span_in (listed Γ table) x ≡ span_of (declared Γ x) = λ x h. span_is x (omega arith) in
          let needs = declared_needs text in
          let same = previous_same {n = length Γ} {m = length Γ} (omega arith) every (length Γ) (omega arith) in
          record { last = needs.last ∙ sym same; limit = needs.limit }

-- Every result that keeps the listing's promise: what a caller reads who is returned 1.
pub variables_addresses : (text table slice : List ℕ) {returned : ℕ} {slice' table' : List ℕ} → Kept (variables_call text table slice) returned slice' table'
    → returned ≡ 1 → ListsAddresses text table (numbers_in slice') table'
variables_addresses text table slice kept answered =
    let d = variables_delivers text table slice kept in
    rw (variables_reads text table slice kept answered, (d.with_room (with_one d answered)).2) (listing_addresses text table)

-- Every place that a caller reads lies in the text or is its length.
pub every_place : (text slice slice' : List ℕ) → EveryPlace text slice slice'
every_place text slice slice' = record {
  judges = λ kept. rw (judge_reads text slice kept refl) (placed (judge_limits text));
  runs = λ M budget {M'} word kept. rw (run_reads text M budget slice kept word refl) (placed (run_limits text M budget));
  lists = λ table {table'} kept. rw (variables_reads text table slice kept refl) (placed (variables_limits text table));
}
  where
    placed : {most : ℕ} {a : Answer} → InLimits text most a → Placed text a
    placed l = record { inside = l.place; low = l.low }
