-- Which sign some bytes start with depends on the first two of them alone, and on the second only where it is `=`.
use mathlib.Core.Path.{◌≡◌, refl, sym, ap, ◌∙◌}
use mathlib.Core.Bool.{Bool, true, false, not, ◌&&◌, ◌||◌, false≢true, and-true, and-false}
use mathlib.Core.List.{List, [], ◌∷◌}
use mathlib.Core.Option.{Option, none, some, none-ne-some}
use Prim.Native.Nat.{ℕ, suc, ◌≤◌, ◌<◌}
use Prim.Native.String.{String}
use native.Mathlib.Omega.{arith}
use lib.Dec.{eqb}
use lib.ListN.{length, get_or}
use borrow.Author.Tests.{eq-eqb, ne_eqb, eqb-true, eqb-false, not-true}
use Rattle.meaning.specs.Codes.{when◌then◌else◌, option, lookup}
use Rattle.meaning.specs.Tokens.{Piece, bad, token, bytes, signs, numbered, marks, starts, sign}
use Rattle.std.specs.declared.option.Option.TheVariants.{Some, None}
use Rattle.tokens.specs.declared.Lexeme.TheVariants.{Token}
use Rattle.tokens.specs.Lexing.{blank, paired, sign_kind, lexeme}
use Rattle.laws.proofs.The.{the_name}
use Rattle.laws.proofs.Tests.{and_l, and_r, or_cases}
use Rattle.laws.proofs.Pieces.{lookup_from}
use Rattle.tokens.proofs.Walking.{every}

-- One byte, or two of which the second is not 0.
abbrev small : List ℕ → Bool
small [] = true
small (a ∷ []) = true
small (a ∷ b ∷ []) = not (eqb b 0)
small (a ∷ b ∷ c ∷ e) = false

abbrev smalls : List (String × ℕ) → Bool
smalls [] = true
smalls ((r, k) ∷ l) = small (bytes r) && smalls l

starts_small : (e s : List ℕ) → small e ≡ true → 0 < length s → starts e s ≡ starts e (get_or s 0 0 ∷ get_or s 1 0 ∷ [])
unfolding starts
starts_small e [] h lt = absurd (omega arith)
starts_small [] (x ∷ s) h lt = refl
starts_small (a ∷ []) (x ∷ []) h lt = refl
starts_small (a ∷ []) (x ∷ y ∷ s) h lt = refl
starts_small (a ∷ b ∷ []) (x ∷ []) h lt = rw (not-true (eqb b 0) h)
starts_small (a ∷ b ∷ []) (x ∷ y ∷ s) h lt = refl
starts_small (a ∷ b ∷ c ∷ e) (x ∷ s) h lt = absurd (false≢true h)

sign_small : (l : List (String × ℕ)) (s : List ℕ) → smalls l ≡ true → 0 < length s → sign l (get_or s 0 0 ∷ get_or s 1 0 ∷ []) ≡ sign l s
unfolding sign
sign_small [] s h lt = refl
sign_small ((r, k) ∷ l) s h lt =
    rw (← starts_small (bytes r) s (and_l (small (bytes r)) (smalls l) h) lt, sign_small l s (and_r (small (bytes r)) (smalls l) h) lt)

pub sign_of_two : (s : List ℕ) → 0 < length s → sign marks (get_or s 0 0 ∷ get_or s 1 0 ∷ []) ≡ sign marks s
unfolding marks numbered signs bytes
sign_of_two s lt = sign_small marks s refl lt

pub eqb_swap : (a b : ℕ) → eqb a b ≡ eqb b a
eqb_swap a b = go (eqb b a) refl
  where
    go : (g : Bool) → eqb b a ≡ g → eqb a b ≡ g
    go true e = eq-eqb a b (sym (eqb-true b a e))
    go false e = ne_eqb a b (λ q. eqb-false b a e (sym q))

-- The same of the two bytes that begin a comment.
pub slashes : (s : List ℕ) → 0 < length s → (eqb (get_or s 0 0) 47 && eqb (get_or s 1 0) 47) ≡ starts (bytes "//") s
unfolding bytes starts
slashes s lt =
    rw (starts_small (47 ∷ 47 ∷ []) s refl lt, eqb_swap (get_or s 0 0) 47, eqb_swap (get_or s 1 0) 47, and-true (eqb 47 (get_or s 1 0)))

-- The number of the first sign.
abbrev pub first_sign : ℕ
first_sign = 48

-- A sign of one byte, and one of two bytes, which ends with `=`.
abbrev equals : ℕ
equals = 61

abbrev short : List ℕ → Bool
short [] = false
short (a ∷ []) = true
short (a ∷ d ∷ e) = false

abbrev long : List ℕ → Bool
long [] = false
long (a ∷ []) = false
long (a ∷ d ∷ []) = eqb d equals
long (a ∷ d ∷ e ∷ f) = false

record Short (e : List ℕ) : Type 0 where
  pub first : ℕ
  pub is : e ≡ first ∷ []

record Long (e : List ℕ) : Type 0 where
  pub first : ℕ
  pub is : e ≡ first ∷ equals ∷ []

is_short : (e : List ℕ) → short e ≡ true → Short e
is_short [] h = absurd (false≢true h)
is_short (a ∷ []) h = record { first = a; is = refl }
is_short (a ∷ d ∷ e) h = absurd (false≢true h)

is_long : (e : List ℕ) → long e ≡ true → Long e
is_long [] h = absurd (false≢true h)
is_long (a ∷ []) h = absurd (false≢true h)
is_long (a ∷ d ∷ []) h = record { first = a; is = rw (eqb-true d equals h) }
is_long (a ∷ d ∷ e ∷ f) h = absurd (false≢true h)

-- The signs of two bytes stand before those of one.
abbrev ordered : List String → Bool
ordered [] = true
ordered (r ∷ l) = long (bytes r) && ordered l || every short (r ∷ l)

signs_ordered : ordered signs ≡ true
unfolding signs bytes
signs_ordered = refl

-- One sign against two bytes.
short_starts : {e : List ℕ} (b c : ℕ) → Short e → starts e (b ∷ c ∷ []) ≡ paired e b blank
unfolding starts paired
short_starts b c s = rw s.is

short_ends : {e : List ℕ} (b : ℕ) → Short e → paired e b equals ≡ false
unfolding paired
short_ends b s = rw s.is (and-false (eqb s.first b))

long_starts : {e : List ℕ} (b c : ℕ) → Long e → starts e (b ∷ c ∷ []) ≡ paired e b c
unfolding starts paired
long_starts b c s = rw (s.is, and-true (eqb equals c))

long_ends : {e : List ℕ} (b c : ℕ) → Long e → (c ≡ equals → ⊥) → paired e b c ≡ false
unfolding paired
long_ends b c s ne = rw (s.is, ne_eqb equals c (λ e. ne (sym e))) (and-false (eqb s.first b))

-- The sign of a list that has the bytes b and c, the second of which may be a space.
abbrev with : ℕ → ℕ → List (String × ℕ) → Option ℕ
with b c = lookup (λ r. paired (bytes r) b c)

-- What is found, as a piece of n bytes.
abbrev piece_of : ℕ → Option ℕ → Piece
piece_of n none = bad
piece_of n (some k) = token k 0 [] n

module _ (b : ℕ) where
  shorts_end : (l : List String) (k : ℕ) → every short l ≡ true → with b equals (numbered k l) ≡ none
  unfolding numbered
  shorts_end [] k h = refl
  shorts_end (r ∷ l) k h =
      rw (short_ends b (is_short (bytes r) (and_l (short (bytes r)) (every short l) h))) (shorts_end l (suc k) (and_r (short (bytes r)) (every short l) h))

  -- A sign of two bytes is found where there is one.
  long_first : (l : List String) (k n : ℕ) → ordered l ≡ true → with b equals (numbered k l) ≡ some n
      → sign (numbered k l) (b ∷ equals ∷ []) ≡ token n 0 [] 2
  unfolding numbered sign
  long_first [] k n h e = absurd (none-ne-some n e)
  long_first (r ∷ l) k n h e =
      or_cases (long (bytes r) && ordered l) (every short (r ∷ l)) h
      (λ o. let s = is_long (bytes r) (and_l (long (bytes r)) (ordered l) o) in
      rw (long_starts b equals s, ap length s.is)
      (go (long_first l (suc k) n (and_r (long (bytes r)) (ordered l) o)) (paired (bytes r) b equals) e))
      (λ o. absurd (none-ne-some n (sym (shorts_end (r ∷ l) k o) ∙ e)))
    where
      go : (with b equals (numbered (suc k) l) ≡ some n → sign (numbered (suc k) l) (b ∷ equals ∷ []) ≡ token n 0 [] 2) → (g : Bool)
          → (when g then (λ _. some k) else λ _. with b equals (numbered (suc k) l)) ≡ some n
          → (when g then (λ _. token k 0 [] 2) else λ _. sign (numbered (suc k) l) (b ∷ equals ∷ [])) ≡ token n 0 [] 2
      go later true e' = let is : k ≡ n = cc in rw is
      go later false e' = later e'

module _ (b c : ℕ) where
  shorts_only : (l : List String) (k : ℕ) → every short l ≡ true → sign (numbered k l) (b ∷ c ∷ []) ≡ piece_of 1 (with b blank (numbered k l))
  unfolding numbered sign
  shorts_only [] k h = refl
  shorts_only (r ∷ l) k h =
      let s = is_short (bytes r) (and_l (short (bytes r)) (every short l) h) in
      rw (short_starts b c s, ap length s.is)
      (go (shorts_only l (suc k) (and_r (short (bytes r)) (every short l) h)) (paired (bytes r) b blank))
    where
      go : sign (numbered (suc k) l) (b ∷ c ∷ []) ≡ piece_of 1 (with b blank (numbered (suc k) l)) → (g : Bool)
          → (when g then (λ _. token k 0 [] 1) else λ _. sign (numbered (suc k) l) (b ∷ c ∷ []))
          ≡ piece_of 1 (when g then (λ _. some k) else λ _. with b blank (numbered (suc k) l))
      go later true = refl
      go later false = later

  -- Where there is no sign of two bytes, one of one byte is.
  short_next : (l : List String) (k : ℕ) → ordered l ≡ true → (c ≡ equals → with b equals (numbered k l) ≡ none)
      → sign (numbered k l) (b ∷ c ∷ []) ≡ piece_of 1 (with b blank (numbered k l))
  unfolding numbered sign
  short_next [] k h none_long = refl
  short_next (r ∷ l) k h none_long =
      or_cases (long (bytes r) && ordered l) (every short (r ∷ l)) h
      (λ o. let s = is_long (bytes r) (and_l (long (bytes r)) (ordered l) o) in
      rw (long_starts b c s, no_pair s, long_ends b blank s (λ e. omega arith))
      (short_next l (suc k) (and_r (long (bytes r)) (ordered l) o) (λ e. later (paired (bytes r) b equals) (none_long e))))
      (shorts_only (r ∷ l) k)
    where
      later : (g : Bool) → (when g then (λ _. some k) else λ _. with b equals (numbered (suc k) l)) ≡ none → with b equals (numbered (suc k) l) ≡ none
      later true e = absurd (none-ne-some k (sym e))
      later false e = e

      missed : (g : Bool) → (when g then (λ _. some k) else λ _. with b equals (numbered (suc k) l)) ≡ none → g ≡ false
      missed true e = absurd (none-ne-some k (sym e))
      missed false e = refl

      no_pair : Long (bytes r) → paired (bytes r) b c ≡ false
      no_pair s = by (eqb c equals) refl
        where
          by : (g : Bool) → eqb c equals ≡ g → paired (bytes r) b c ≡ false
          by true e = let is = eqb-true c equals e in rw is (missed (paired (bytes r) b equals) (none_long is))
          by false e = long_ends b c s (eqb-false c equals e)

-- What is found has the number of a sign.
found_above : (b c n : ℕ) → with b c marks ≡ some n → first_sign ≤ n
unfolding marks
found_above b c n = lookup_from (λ r. paired (bytes r) b c) signs first_sign

kind_found : (b c : ℕ) {k : ℕ} → Some k ≡ sign_kind b c → with b c marks ≡ some k
unfolding sign_kind
kind_found b c = told (with b c marks)
  where
    told : {k : ℕ} (o : Option ℕ) → Some k ≡ option None Some o → o ≡ some k
    told none e = cc
    told (some n) e = cc

kind_none : (b c : ℕ) → None ≡ sign_kind b c → with b c marks ≡ none
unfolding sign_kind
kind_none b c = told (with b c marks)
  where
    told : (o : Option ℕ) → None ≡ option None Some o → o ≡ none
    told none e = refl
    told (some n) e = cc

sign-lexeme : (at k n : ℕ) → first_sign ≤ k → Some (Token k 0 n) ≡ lexeme at (token k 0 [] n)
unfolding lexeme
sign-lexeme at k n le = rw (the_name, ne_eqb k 2 (λ e. omega arith))

module _ (b c at : ℕ) where
  pub long_sign : {k : ℕ} → c ≡ equals → Some k ≡ sign_kind b equals → Some (Token k 0 2) ≡ lexeme at (sign marks (b ∷ c ∷ []))
  unfolding marks
  long_sign {k} is kind =
      let found = kind_found b equals kind in
      sign-lexeme at k 2 (found_above b equals k found) ∙ rw (is, long_first b signs first_sign k signs_ordered found)

  module _ (none_long : c ≡ equals → None ≡ sign_kind b equals) where
    one_byte : sign marks (b ∷ c ∷ []) ≡ piece_of 1 (with b blank marks)
    unfolding marks
    one_byte = short_next b c signs first_sign signs_ordered (λ e. kind_none b equals (none_long e))

    pub short_sign : {k : ℕ} → Some k ≡ sign_kind b blank → Some (Token k 0 1) ≡ lexeme at (sign marks (b ∷ c ∷ []))
    short_sign {k} kind =
        let found = kind_found b blank kind in
        sign-lexeme at k 1 (found_above b blank k found) ∙ rw (one_byte, found)

    pub no_sign : None ≡ sign_kind b blank → None ≡ lexeme at (sign marks (b ∷ c ∷ []))
    unfolding lexeme
    no_sign kind = rw (one_byte, kind_none b blank kind)
