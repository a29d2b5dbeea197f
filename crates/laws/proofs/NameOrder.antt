-- In a tree that is read, the names of declarations stand among the tokens one after another.
use Prim.Native.Nat.{ℕ, zero, suc, ◌≤◌, ◌<◌}
use Prim.Native.String.{String}
use mathlib.Core.Path.{◌≡◌, refl, ap}
use mathlib.Core.Bool.{Bool, true, false}
use mathlib.Core.List.{List, [], ◌∷◌}
use mathlib.Core.Option.{Option, none, some}
use native.Mathlib.Omega.{arith}
use native.Mathlib.Nat.{le_refl}
use lib.Dec.{eqb}
use lib.ListN.{length}
use borrow.Author.Tests.{eqb-true}
use Rattle.meaning.specs.declared.Kind.{Kind}
use Rattle.meaning.specs.declared.Refusal.TheVariants.{NotAllowed}
use Rattle.meaning.specs.Codes.{Out, after, give, refuse, option, lookup, when◌then◌else◌, ◌among◌, nesting_limit}
use Rattle.meaning.specs.Tokens.{Token, the}
use Rattle.meaning.specs.Tree.{kinds, Stmt, Stmts, none_yet, ◌⨾◌}
use Rattle.meaning.specs.Reading.{Reads, After, ◌⇒◌, look, next, choose, expect, as_long, no_room, declaration, assignment, opening, another, sequence, statement_over, statement, read, begins}
use Rattle.laws.specs.Outcomes.{Yields, well, refusal}
use Rattle.laws.specs.Tokens.{AllIn}
use Rattle.laws.specs.Order.{token_at, Stands, Rises, rises_empty, rises_braces, rises_declare, rises_assign, rises_if, rises_while, rises_scalar, AllRise, rises_none, rises_more}
use Rattle.laws.proofs.Outcomes.{weaker, followed, refused_as, passed, repeated}
use Rattle.laws.proofs.Reading.{Goes, expression_gives, condition_gives, block_goes}

module _ {ts : List Token} where
  -- From an earlier position, and to a later one.
  pub wider_stands : {lo hi lo' hi' q : ℕ} → lo' ≤ lo → hi ≤ hi' → Stands ts lo hi q → Stands ts lo' hi' q
  wider_stands l h s = record { at = s.at; from = omega (arith, s.from); before = omega (arith, s.before); named = s.named; is = s.is }

  mutual
    wider : {lo hi lo' hi' : ℕ} {s : Stmt} → lo' ≤ lo → hi ≤ hi' → Rises ts lo hi s → Rises ts lo' hi' s
    wider {lo' = lo'} {hi' = hi'} l h (rises_empty m) = rises_empty {lo = lo'} {hi = hi'} (omega arith)
    wider l h (rises_braces r) = rises_braces (all_wider l h r)
    wider l h (rises_declare s) = rises_declare (wider_stands l h s)
    wider {lo' = lo'} {hi' = hi'} l h (rises_assign m) = rises_assign {lo = lo'} {hi = hi'} (omega arith)
    wider l h (rises_if {mid = mid} r q) = rises_if (wider l (le_refl mid) r) (wider (le_refl mid) h q)
    wider l h (rises_while r) = rises_while (wider l h r)
    wider l h (rises_scalar r) = rises_scalar (wider l h r)

    all_wider : {lo hi lo' hi' : ℕ} {l : Stmts} → lo' ≤ lo → hi ≤ hi' → AllRise ts lo hi l → AllRise ts lo' hi' l
    all_wider {lo' = lo'} {hi' = hi'} l h (rises_none m) = rises_none {lo = lo'} {hi = hi'} (omega arith)
    all_wider l h (rises_more {mid = mid} r q) = rises_more (all_wider l (le_refl mid) r) (wider (le_refl mid) h q)

-- Reading: where the names of declarations stand among the tokens.
module _ (text : List ℕ) (ts : List Token) (spelled : AllIn text 0 ts) where
  -- The token at a position.
  abbrev here : ℕ → Token
  here at = token_at ts at

  -- A statement that is read from position p to q.
  abbrev From : ℕ → Stmt → ℕ → Type 0
  From p s q = Rises ts p q s

  -- What follows the token at a position.
  data Cases {A : Type 0} (Q : A → ℕ → Type 0) (at : ℕ) : List (ℕ × After A) → Type 0 where
    none_left : Cases Q at []
    case : {k : ℕ} {f : After A} {l : List (ℕ × After A)} → ((here at).is ≡ k → Yields Q (f (here at) (suc at))) → Cases Q at l → Cases Q at ((k, f) ∷ l)

  module _ {A : Type 0} (Q : A → ℕ → Type 0) (at : ℕ) where
    abbrev Picks : Option (After A) → Type 0
    Picks o = Yields Q (option (refuse NotAllowed (here at).place) (λ k s. k (here at) (suc s)) o at)

    picks : (l : List (ℕ × After A)) → Cases Q at l → Picks (lookup (eqb (here at).is) l)
    picks [] none_left = refusal tt
    picks ((k, f) ∷ l) (case h c) = go (eqb (here at).is k) refl (picks l c)
      where
        go : (b : Bool) → eqb (here at).is k ≡ b → Picks (lookup (eqb (here at).is) l) → Picks (when b then (λ _. some f) else λ _. lookup (eqb (here at).is) l)
        go true e r = h (eqb-true _ _ e)
        go false e r = r

    chosen : (l : List (ℕ × After A)) → Cases Q at l → Yields Q (choose ts l at)
    unfolding choose look next
    chosen l c = picks l c

  -- A token that is expected.
  record Expected (s : String) (p : ℕ) (t : Token) (q : ℕ) : Type 0 where
    on : q ≡ suc p
    is : t ≡ here p
    sort : (here p).is ≡ the s

  expected : (s : String) (p : ℕ) → Yields (Expected s p) (expect ts s p)
  unfolding expect ◌⇒◌
  expected s p = chosen (Expected s p) p _ (case (λ e. well {s = suc p} (record { on = refl; is = refl; sort = e })) none_left)

  -- What is read goes on.
  goes_on : {A : Type 0} {Q : A → Type 0} {p : ℕ} {o : Out ℕ A} → Goes text ts spelled Q p o → Yields (λ _ q. p ≤ q) o
  goes_on h = refused_as (weaker h (λ a q l. l.0)) (λ c p _. tt)

  declaration_rises : (r p : ℕ) (k : Kind) (t : Token) → r ≤ nesting_limit → 0 < p → Yields (From p) (declaration ts r k t p)
  unfolding declaration ◌⇒◌
  declaration_rises r p k t low later =
      followed _ (goes_on (block_goes text ts spelled p later)) (λ b q l.
      followed _ (expected "name" q) (λ x s e.
      let stands : (hi : ℕ) → q < hi → Stands ts p hi x.place = λ hi h. record { at = q; from = l; before = h; named = e.sort; is = ap (λ (t : Token). t.place) e.is } in
      chosen (From p) s _
      (case (λ _. well {s = suc s} (rises_declare (stands (suc s) (omega (arith, e.on)))))
      (case (λ _.
      followed _ (goes_on ((expression_gives text ts spelled r low).at (suc s))) (λ v u m.
      followed _ (expected ";" u) (λ _ w f. well {s = w} (rises_declare (stands w (omega (arith, e.on, f.on)))))))
      none_left))))

  assignment_rises : (r p : ℕ) (x : Token) → r ≤ nesting_limit → Yields (From p) (assignment ts r x p)
  unfolding assignment
  assignment_rises r p x low =
      followed _ (expected "=" p) (λ _ q e.
      followed _ (goes_on ((expression_gives text ts spelled r low).at q)) (λ v u m.
      followed _ (expected ";" u) (λ _ w f. well {s = w} (rises_assign {lo = p} {hi = w} (omega (arith, e.on, f.on))))))

  -- What `deep` reads from each position, from there on.
  abbrev Gives : Reads Stmt → Type 0
  Gives m = (p : ℕ) → Yields (From p) (m p)

  opening_rises : (deep : After Stmt) → ((t : Token) → Gives (deep t)) → Gives (opening ts deep)
  unfolding opening look
  opening_rises deep g p = passed ((here p).is among begins) NotAllowed _ p _ tt (λ _. g (here p) p)

  sequence_rises : (close : String) (m : Reads Stmt) → Gives m → (p : ℕ) → Yields (λ l q. AllRise ts p q l) (sequence ts close m p)
  unfolding sequence as_long another look
  sequence_rises close m g p =
      followed _ (repeated (λ l q. AllRise ts p q l) (another ts close m) (λ l q h. go l q h (eqb (here q).is (the close))) (length ts) none_yet p (rises_none (le_refl p)))
      (λ l q h. followed _ (expected close q) (λ _ s e. well {s = s} (all_wider (le_refl p) (omega (arith, e.on)) h)))
    where
      go : (l : Stmts) (q : ℕ) → AllRise ts p q l → (b : Bool)
          → Yields (λ o s. AllRise ts p s (option l (λ a. a) o)) (when◌then◌else◌ {A = Reads (Option Stmts)} b (λ _. give none) (λ _ s. after (m s) (λ a. give (some (l ⨾ a)))) q)
      go l q h true = well {s = q} h
      go l q h false = followed _ (g q) (λ a s k. well {s = s} (rises_more h k))

  -- A statement, by what is known of branches, bodies and braces.
  module _ (r : ℕ) (low : r ≤ nesting_limit) (deep : After Stmt) (braced : After Stmts)
      (deeper : (t : Token) → Gives (deep t)) (inside : (t : Token) (p : ℕ) → Yields (λ l q. AllRise ts p q l) (braced t p)) where
    part : Gives (opening ts deep)
    part = opening_rises deep deeper

    on : {p : ℕ} {o : Out ℕ Stmt} → Yields (From (suc p)) o → Yields (From p) o
    on {p} h = weaker h (λ s q k. wider (omega arith) (le_refl q) k)

    over_rises : Gives (statement_over ts r deep braced)
    unfolding statement_over ◌⇒◌ kinds
    over_rises p =
        chosen (From p) p _
        (case (λ _. well {s = suc p} (rises_empty {lo = p} {hi = suc p} (omega arith)))
        (case (λ _. on (followed _ (inside (here p) (suc p)) (λ l q h. well {s = q} (rises_braces h))))
        (case (λ _. on (declaration_rises r (suc p) _ (here p) low (omega arith)))
        (case (λ _. on (declaration_rises r (suc p) _ (here p) low (omega arith)))
        (case (λ _. on (declaration_rises r (suc p) _ (here p) low (omega arith)))
        (case (λ _. on (assignment_rises r (suc p) (here p) low))
        (case (λ _. on (
        followed _ (goes_on ((condition_gives text ts spelled r low).at (suc p))) (λ e q l.
        followed _ (part q) (λ a u h.
        followed _ (expected "else" u) (λ _ v f.
        followed _ (part v) (λ b w g. well {s = w} (rises_if (wider l (le_refl u) h) (wider (omega (arith, f.on)) (le_refl w) g))))))))
        (case (λ _. on (
        followed _ (goes_on ((condition_gives text ts spelled r low).at (suc p))) (λ e q l.
        followed _ (part q) (λ a u h. well {s = u} (rises_while (wider l (le_refl u) h))))))
        (case (λ _. on (followed _ (part (suc p)) (λ a u h. well {s = u} (rises_scalar h))))
        none_left)))))))))

  statement_rises : (r : ℕ) → r ≤ nesting_limit → Gives (statement ts r)
  unfolding statement no_room
  statement_rises zero low = over_rises zero low (no_room ts) (no_room ts) (λ t p. refusal tt) (λ t p. refusal tt)
  statement_rises (suc r) low =
      let h = statement_rises r (omega arith) in
      over_rises (suc r) low _ _ (λ t. h) (λ t. sequence_rises "}" (statement ts r) h)

  pub read_rises : Yields (λ l q. AllRise ts 0 q l) (read ts)
  unfolding read
  read_rises = sequence_rises "end" (statement ts nesting_limit) (statement_rises nesting_limit (omega arith)) 0
