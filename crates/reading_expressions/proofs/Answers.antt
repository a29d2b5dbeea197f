-- What an answer shows follows from what was read and written on the way to it.
use Prim.Native.Nat.{ℕ, zero, suc, ◌+◌, ◌*◌, ◌-◌, ◌≤◌, ◌<◌}
use mathlib.Core.Path.{◌≡◌, refl, sym, ap, ◌∙◌}
use mathlib.Core.List.{List, [], ◌++◌, append_assoc, append-nil}
use native.Mathlib.Nat.{lt_of_not-le, mul-div_cancel}
use native.Mathlib.Omega.{arith}
use lib.ListN.{length, take, drop, length-append}
use lib.Seq.{sets, sets-eq, take-take, take-append-le, take_at, take-add, take-append-add, drop_at, length-take-le}
use Rattle.std.specs.declared.result.Result.TheVariants.{Ok, Err}
use Rattle.std.specs.Result.{IsErrAnd}
use Rattle.std.proofs.lemmas.Result.{IfOk-weaker, IfErr-weaker}
use Rattle.meaning.specs.declared.Refusal.{Refusal}
use Rattle.meaning.specs.declared.Refusal.TheVariants.{NotAllowed}
use Rattle.meaning.specs.Codes.{Out, ok, refused}
use Rattle.meaning.specs.Tokens.{Token, the}
use Rattle.layout.proofs.Handed.{handed_up}
use Rattle.laws.proofs.The.{the_end}
use Rattle.layout.specs.Tokens.{token_words, kind_at, place_at}
use Rattle.layout.specs.Words.{unit}
use Rattle.layout.specs.Stage.{Stage}
use Rattle.layout.specs.declared.Reached.{Reached}
use Rattle.layout.specs.declared.Refused.{Refused}
use Rattle.reading_expressions.specs.Contract.{HoldsOnly, EndsAText, ReadyToRead, Appends, PutsNode, Moved, Read, ReadsAs, Expects, token_count}

-- How many tokens a buffer of n tokens has.
pub count_is : (tokens : List ℕ) (n : ℕ) → length tokens ≡ n * token_words → token_count tokens ≡ n
unfolding token_count
count_is tokens n e = rw e (mul-div_cancel n (omega arith))

-- It has as many as the list that it holds.
pub held_count : {T : List ℕ} {ts : List Token} → HoldsOnly T ts → token_count T ≡ length ts
held_count {T} {ts} h = count_is T (length ts) h.whole

-- Where there are tokens left and room for them, reading can go on.
pub ready_at : {T : List ℕ} {at : ℕ} {old : List ℕ} {n : ℕ} {new : List ℕ} {p q : ℕ} → ReadyToRead T at old n → p < token_count T → q + 3 * at ≤ n + 3 * p
    → length new ≡ length old → ReadyToRead T p new q
ready_at ready within few kept = record { text = ready.text; within = within; space = omega (arith, ready.space) }

pub ready_on : {least : ℕ} {T : List ℕ} {at : ℕ} {old : List ℕ} {n : ℕ} {new : List ℕ} {p q : ℕ} → ReadyToRead T at old n → Moved least (token_count T) at n p q
    → length new ≡ length old → ReadyToRead T p new q
ready_on ready m kept = ready_at ready m.within m.few kept

-- A token that is not the end of the text has one after it.
pub past : {T : List ℕ} {p k : ℕ} → EndsAText T → p < token_count T → kind_at T p ≡ k → 0 < k → p + 1 < token_count T
past {T} {p} text within is more =
    lt_of_not-le (λ le. let last : token_count T - 1 ≡ p = omega arith in let ends : kind_at T p ≡ the "end" = rw last at text.ends in omega (arith, the_end))

-- There is room for its unit, and reading can go on behind that unit, or without one.
module _ {T : List ℕ} {at : ℕ} {tree : List ℕ} {size k : ℕ} (ready : ReadyToRead T at tree size) (is : kind_at T at ≡ k) (more : 0 < k) where
  pub goes_on : at + 1 < token_count T
  goes_on = past ready.text ready.within is more

  pub unit-fits : size + 3 ≤ length tree
  unit-fits = omega (arith, goes_on, ready.space)

  pub ready_behind : ReadyToRead T (at + 1) tree (size + 3)
  ready_behind = ready_at ready goes_on (omega arith) refl

  pub ready_next : ReadyToRead T (at + 1) tree size
  ready_next = ready_at ready goes_on (omega arith) refl

-- Appending.
pub appends_none : (a : List ℕ) (n : ℕ) → Appends a n a n []
appends_none a n = record { is = sym (append-nil (take n a)) }

pub appends_then : {a b c : List ℕ} {n m q : ℕ} {xs ys : List ℕ} → Appends a n b m xs → Appends b m c q ys → Appends a n c q (xs ++ ys)
appends_then {a} {n = n} {xs = xs} {ys = ys} h k = record { is = k.is ∙ ap (λ (l : List ℕ). l ++ ys) h.is ∙ append_assoc (take n a) xs ys }

-- As much is written as the size has grown by.
pub appends_size : {a b : List ℕ} {n m : ℕ} {xs : List ℕ} → n ≤ length a → m ≤ length b → Appends a n b m xs → m ≡ n + length xs
appends_size {a} {b} {n} {m} {xs} le le' h =
    omega (arith, ap (λ (l : List ℕ). length l) h.is, length-take-le m b le', length-append (take n a) xs, length-take-le n a le)

-- What stood before it stays.
pub appends_keep : {a b : List ℕ} {n m : ℕ} {xs : List ℕ} → n ≤ length a → m ≤ length b → Appends a n b m xs → take n b ≡ take n a
appends_keep {a} {b} {n} {m} {xs} le le' h =
    let grown : n ≤ m = omega (arith, appends_size le le' h) in
    let long : n ≤ length (take n a) = rw length-take-le (omega arith) in
    sym (take-take n m b grown) ∙ ap (take n) h.is ∙ take-append-le n (take n a) xs long ∙ take-take n n a (omega arith)

-- What stood before it may be named in either tree.
pub appends_here : {a b : List ℕ} {n m : ℕ} {xs : List ℕ} → n ≤ length a → m ≤ length b → Appends a n b m xs → Appends b n b m xs
appends_here {xs = xs} le le' h = record { is = h.is ∙ ap (λ (l : List ℕ). l ++ xs) (sym (appends_keep le le' h)) }

pub appends_from : {a b c : List ℕ} {n m q : ℕ} {xs ys : List ℕ} → n ≤ length a → m ≤ length b → Appends a n b m xs → Appends b n c q ys → Appends a n c q ys
appends_from {ys = ys} le le' h k = record { is = k.is ∙ ap (λ (l : List ℕ). l ++ ys) (appends_keep le le' h) }

-- Words that are written at the end of a tree.
pub appends_sets : {a : List ℕ} {n : ℕ} {vs : List ℕ} → n + length vs ≤ length a → Appends a n (sets a n vs) (n + length vs) vs
appends_sets {a} {n} {vs} le =
    let long : length (take n a ++ vs) ≡ n + length vs = length-append (take n a) vs ∙ ap (λ (k : ℕ). k + length vs) (length-take-le n a (omega arith)) in
    record { is = rw (sets-eq vs a n le) (take_at (take n a ++ vs) (drop (n + length vs) a) (n + length vs) long) }

-- A head whose place was left free and which is written before the parts that stand behind it.
pub appends_head : {a b : List ℕ} {n q : ℕ} {xs : List ℕ} (h : List ℕ) → n + length h ≤ length a → q ≤ length b → Appends a (n + length h) b q xs
    → Appends a n (sets b n h) q (h ++ xs)
appends_head {a} {b} {n} {q} {xs} h le le' parts =
    let m : ℕ = n + length h in
    let size : q ≡ m + length xs = appends_size le le' parts in
    let keep : take m b ≡ take m a = appends_keep le le' parts in
    let before : take n b ≡ take n a = sym (take-take n m b (omega arith)) ∙ ap (take n) keep ∙ take-take n m a (omega arith) in
    let behind : take (length xs) (drop m b) ≡ xs =
    sym (drop_at (take m b) (take (length xs) (drop m b)) m (length-take-le m b (omega arith)))
    ∙ ap (drop m) (sym (take-add m (length xs) b) ∙ ap (λ (k : ℕ). take k b) (sym size) ∙ parts.is) ∙ drop_at (take m a) xs m (length-take-le m a le) in
    let long : length (take n b ++ h) ≡ m = length-append (take n b) h ∙ ap (λ (k : ℕ). k + length h) (length-take-le n b (omega arith)) in
    record {
      is = rw (sets-eq h b n (omega arith), size, ← long, take-append-add) (rw (long, behind, before) (append_assoc (take n a) h xs));
    }

-- The same of what was read.
pub read_here : {A : Type 0} {o : Out ℕ A} {fl : A → List ℕ} {old : List ℕ} {n : ℕ} {new : List ℕ} {p q : ℕ} → n ≤ length old → q ≤ length new
    → Read o fl old n new p q → Read o fl new n new p q
read_here le le' d = record { what = d.what; is = d.is; wrote = appends_here le le' d.wrote }

pub read_from : {A B : Type 0} {o : Out ℕ A} {o' : Out ℕ B} {fl : A → List ℕ} {fl' : B → List ℕ} {old : List ℕ} {n : ℕ} {mid new : List ℕ} {p q p' q' : ℕ}
    → n ≤ length old → q' ≤ length mid → Read o' fl' old n mid p' q' → Read o fl mid n new p q → Read o fl old n new p q
read_from le le' before d = record { what = d.what; is = d.is; wrote = appends_from le le' before.wrote d.wrote }

-- What was read is one token, whose unit is known.
pub record Leaf {A : Type 0} (fl : A → List ℕ) (o : Out ℕ A) (p tag a b : ℕ) : Type 0 where
  pub what : A
  pub is : o ≡ ok what p
  pub words : fl what ≡ unit tag a b

-- A repetition: what was read so far, from which K reads on, in as many turns as there are tokens left at most.
pub record SoFar {A : Type 0} (o : Out ℕ A) (K : ℕ → A → ℕ → Out ℕ A) (fl : A → List ℕ) (count : ℕ) (old : List ℕ) (n : ℕ) (new : List ℕ) (p q : ℕ) : Type 0 where
  pub turns : ℕ
  pub what : A
  pub enough : count ≤ p + turns
  pub is : o ≡ K turns what p
  pub wrote : Appends old n new q (fl what)

-- Before the end of the tokens there is a turn left.
pub turn_left : {A : Type 0} {o : Out ℕ A} {K : ℕ → A → ℕ → Out ℕ A} {fl : A → List ℕ} {count : ℕ} {old : List ℕ} {n : ℕ} {new : List ℕ} {p q : ℕ}
    (s : SoFar o K fl count old n new p q) → p < count → (k : ℕ) × (count ≤ p + suc k) × (o ≡ K (suc k) s.what p)
turn_left {o = o} {K = K} {count = count} {p = p} s lt = go s.turns s.enough s.is
  where
    go : (k : ℕ) → count ≤ p + k → o ≡ K k s.what p → (k : ℕ) × (count ≤ p + suc k) × (o ≡ K (suc k) s.what p)
    go zero enough is = absurd (omega arith)
    go (suc k) enough is = (k, enough, is)

-- The same, whatever tokens the buffers hold.
pub record ReadsOn (least : ℕ) {A : Type 0} (G : List Token → Out ℕ A) (K : List Token → ℕ → A → ℕ → Out ℕ A) (fl : A → List ℕ) (tokens : List ℕ) (at : ℕ) (old : List ℕ) (n : ℕ) (new : List ℕ) (p q : ℕ) : Type 0 where
  pub moved : Moved least (token_count tokens) at n p q
  pub kept : length new ≡ length old
  pub so_far : (ts : List Token) → HoldsOnly tokens ts → SoFar (G ts) (K ts) fl (length ts) old n new p q

-- The answers.
module _ {least : ℕ} {A : Type 0} {G : List Token → Out ℕ A} {fl : A → List ℕ} {T : List ℕ} {at : ℕ} {old : List ℕ} {n : ℕ} {new : List ℕ} {r : Stage} where
  pub shows_done : {reached : Reached} → r ≡ Ok reached → Moved least (token_count T) at n reached.count reached.size
      → ((ts : List Token) → HoldsOnly T ts → Read (G ts) fl old n new reached.count reached.size) → ReadsAs least G fl T at old n new r
  shows_done is moved read = rw is (record { moved = moved; done = read; refused = tt })

  pub shows_refused : {why : Refused} → r ≡ Err why → ((ts : List Token) → HoldsOnly T ts → G ts ≡ refused why.refusal why.place) → ReadsAs least G fl T at old n new r
  shows_refused is said = rw is (record { moved = tt; done = tt; refused = said })

  -- A refusal is handed up as it is.
  pub hands_up : {least' : ℕ} {B : Type 0} {G' : List Token → Out ℕ B} {fl' : B → List ℕ} {at' : ℕ} {old' : List ℕ} {n' : ℕ} {new' : List ℕ} {why : Refused}
      → ReadsAs least' G' fl' T at' old' n' new' (Err why) → IsErrAnd r (λ x. x ≡ why)
      → ((ts : List Token) → HoldsOnly T ts → G' ts ≡ refused why.refusal why.place → G ts ≡ refused why.refusal why.place) → ReadsAs least G fl T at old n new r
  hands_up s up f = shows_refused (handed_up _ up) (λ ts h. f ts h (s.refused ts h))

  -- A token of another kind than one that has to stand there is refused.
  pub refuses_unexpected : {kind p q : ℕ} {why : Refused} → Expects kind T p q (Err why) → r ≡ Err why
      → ((ts : List Token) → HoldsOnly T ts → (kind_at T p ≡ kind → ⊥) → G ts ≡ refused NotAllowed (place_at T p)) → ReadsAs least G fl T at old n new r
  refuses_unexpected x is none = let y = x.refused in shows_refused is (λ ts h. rw (y.1, y.2) (none ts h y.0))

  -- The same, handed up by `?`.
  pub shows_unexpected : {kind p q : ℕ} {why : Refused} → Expects kind T p q (Err why) → IsErrAnd r (λ x. x ≡ why)
      → ((ts : List Token) → HoldsOnly T ts → (kind_at T p ≡ kind → ⊥) → G ts ≡ refused NotAllowed (place_at T p)) → ReadsAs least G fl T at old n new r
  shows_unexpected x up = refuses_unexpected x (handed_up _ up)

  -- What is made of what was read.
  pub shows_made : {least' : ℕ} {B : Type 0} {G' : List Token → Out ℕ B} {fl' : B → List ℕ} {at' : ℕ} → ReadsAs least' G' fl' T at' old n new r → (at ≤ at') × (at + least ≤ at' + least')
      → ((ts : List Token) → HoldsOnly T ts → (p q : ℕ) → Read (G' ts) fl' old n new p q → Read (G ts) fl old n new p q)
      → ((ts : List Token) → HoldsOnly T ts → (c : Refusal) (p : ℕ) → G' ts ≡ refused c p → G ts ≡ refused c p) → ReadsAs least G fl T at old n new r
  shows_made s le read fail = record {
    moved = IfOk-weaker r _ _ (λ reached m. record { on = omega arith; within = m.within; grown = m.grown; few = omega arith }) s.moved;
    done = IfOk-weaker r _ _ (λ reached d ts h. read ts h reached.count reached.size (d ts h)) s.done;
    refused = IfErr-weaker r _ _ (λ why said ts h. fail ts h why.refusal why.place (said ts h)) s.refused;
  }

  -- What is read the same way shows the same.
  pub shows_alike : {least' : ℕ} {G' : List Token → Out ℕ A} {at' : ℕ} → ReadsAs least' G' fl T at' old n new r → (at ≤ at') × (at + least ≤ at' + least') → ((ts : List Token) → HoldsOnly T ts → G ts ≡ G' ts)
      → ReadsAs least G fl T at old n new r
  shows_alike s le alike = shows_made s le (λ ts h p q d. record { what = d.what; is = alike ts h ∙ d.is; wrote = d.wrote }) (λ ts h c p said. alike ts h ∙ said)

  -- What is read on from an answer.
  pub shows_then : {least' : ℕ} {B : Type 0} {G' : List Token → Out ℕ B} {fl' : B → List ℕ} {at' : ℕ} {old' : List ℕ} {n' : ℕ} {new' : List ℕ} {before reached : Reached}
      → ReadsAs least' G' fl' T at' old' n' new' (Ok before) → r ≡ Ok reached
      → (Moved least' (token_count T) at' n' before.count before.size → Moved least (token_count T) at n reached.count reached.size)
      → ((ts : List Token) → HoldsOnly T ts → Read (G' ts) fl' old' n' new' before.count before.size → Read (G ts) fl old n new reached.count reached.size)
      → ReadsAs least G fl T at old n new r
  shows_then s is move read = shows_done is (move s.moved) (λ ts h. read ts h (s.done ts h))

  -- What is read on by a token of one kind.
  pub shows_expect : {G' : List Token → Out ℕ A} {before : Reached} {kind : ℕ} → ReadyToRead T at old n → ReadsAs least G' fl T at old n new (Ok before)
      → Expects kind T before.count before.size r → 0 < kind
      → ((ts : List Token) → HoldsOnly T ts → (a : A) → G' ts ≡ ok a before.count → kind_at T before.count ≡ kind → G ts ≡ ok a (before.count + 1))
      → ((ts : List Token) → HoldsOnly T ts → (a : A) → G' ts ≡ ok a before.count → (kind_at T before.count ≡ kind → ⊥) → G ts ≡ refused NotAllowed (place_at T before.count))
      → ReadsAs least G fl T at old n new r
  shows_expect ready s x more read none = record {
    moved = IfOk-weaker r _ _ (λ reached y. omega (arith, s.moved, past ready.text s.moved.within y.0 more)) x.done;
    done = IfOk-weaker r _ _ (λ reached y ts h. let d = s.done ts h in rw (y.1, y.2) (record { what = d.what; is = read ts h d.what d.is y.0; wrote = d.wrote })) x.done;
    refused = IfErr-weaker r _ _ (λ why y ts h. let d = s.done ts h in rw (y.1, y.2) (none ts h d.what d.is y.0)) x.refused;
  }

-- One token and its unit.
pub shows_leaf : {A : Type 0} {G : List Token → Out ℕ A} {fl : A → List ℕ} {T : List ℕ} {at : ℕ} {old : List ℕ} {n : ℕ} {new : List ℕ} {r : Stage} {tag a b : ℕ}
    → PutsNode tag a b (at + 1) old n new r → at + 1 < token_count T
    → ((ts : List Token) → HoldsOnly T ts → Leaf fl (G ts) (at + 1) tag a b) → ReadsAs 1 G fl T at old n new r
shows_leaf node on read = shows_done node.is (record { on = omega arith; within = on; grown = omega arith; few = omega arith })
    (λ ts h. let l = read ts h in record { what = l.what; is = l.is; wrote = rw l.words node.wrote })
