-- Lexing a narrowed text: its tokens are the narrowed tokens, at the same places, and it is as long.
use mathlib.Core.Path.{◌≡◌, refl, sym, ap, ap₂, ◌∙◌, subst}
use mathlib.Core.Bool.{Bool, true, false, ◌&&◌}
use mathlib.Core.List.{List, [], ◌∷◌, ◌++◌, append_assoc, append-nil}
use mathlib.Core.Option.{Option}
use Prim.Native.Nat.{ℕ, zero, suc, ◌+◌, ◌-◌, ◌≤◌, ◌<◌}
use native.Mathlib.Nat.{add-zero}
use native.Mathlib.Omega.{arith}
use lib.Dec.{eqb, leb, eqb→eq, leb→le}
use lib.ListN.{length, take, drop, replicate, length-append, length-drop, length-replicate}
use lib.Seq.{length-take-le, drop_at, drop-drop, drop-append-add}
use Rattle.meaning.specs.declared.Refusal.TheVariants.{TextTooLong}
use Rattle.meaning.specs.Codes.{Out, ok, refused, after, give, repeat, option, when◌then◌else◌, text_limit}
use Rattle.meaning.specs.Tokens.{Token, end_at, the, space, digit, run_of, starts, bytes, decimal, good_number, digits, Piece, over, bad, gap, token, piece, turn, tokens, lexed}
use Rattle.laws.proofs.The.{float_number_not_number}
use Rattle.lane.specs.Narrow.{is_block, one_padded, narrow_piece, narrow_from, narrow}
use Rattle.lane.specs.NarrowTree.{narrow_length, narrow_token, narrow_tokens}
use Rattle.lane.proofs.Tests.{and_r, true_of, false_of}
use Rattle.lane.proofs.Trees.{end_stays}
use Rattle.lane.proofs.Pieces.{Near, no_bytes, same_byte, near_point, near_digits, Stops, run_none, piece-space, piece-number, Takes, Whole, whole-piece, Number, number-piece}

-- From place p on the bytes s have the tokens ts, and end at q.
data Lexes : ℕ → List ℕ → List Token → ℕ → Type 0 where
  ends : {p : ℕ} {s : List ℕ} → piece s ≡ over → Lexes p s [] p
  skips : {p q n : ℕ} {s : List ℕ} {ts : List Token} → piece s ≡ gap n → Lexes (p + n) (drop n s) ts q → Lexes p s ts q
  takes : {p q i v n : ℕ} {x s : List ℕ} {ts : List Token} → piece s ≡ token i v x n → Lexes (p + n) (drop n s) ts q → Lexes p s (record { is = i; place = p; value = v; spelled = x } ∷ ts) q

gap_whole : (s : List ℕ) (n : ℕ) → piece s ≡ gap n → Whole s n
gap_whole s n e = whole-piece s n (subst (λ (P : Piece). Takes P n) (sym e) refl)

token-whole : (s : List ℕ) (i v : ℕ) (x : List ℕ) (n : ℕ) → piece s ≡ token i v x n → Whole s n
token-whole s i v x n e = whole-piece s n (subst (λ (P : Piece). Takes P n) (sym e) refl)

-- The turns of the definition, at most k of them, are such a derivation.
module _ (text : List ℕ) where
  abbrev at : List Token → ℕ → Out ℕ (Option (List Token))
  at l p = turn (piece (drop p text)) l p

  less : (p n k : ℕ) → Whole (drop p text) n → length (drop p text) < suc k → length (drop (p + n) text) < k
  less p n k w h = rw (← (drop-drop n p text)) (omega (arith, length-drop n (drop p text), w.positive, w.within))

  record From (l : List Token) (p : ℕ) (l' : List Token) (q : ℕ) : Type 0 where
    found : List Token
    all : l' ≡ l ++ found
    lexes : Lexes p (drop p text) found q

  lexes_of : (k : ℕ) (l : List Token) (p : ℕ) (l' : List Token) (q : ℕ) → length (drop p text) < k → repeat k at l p ≡ ok l' q → From l p l' q
  unfolding turn
  lexes_of zero l p l' q h e = absurd (omega arith)
  lexes_of (suc k) l p l' q h e = go (λ l p. lexes_of k l p l' q) (piece (drop p text)) refl e
    where
      go : ((l : List Token) (p : ℕ) → length (drop p text) < k → repeat k at l p ≡ ok l' q → From l p l' q)
          → (P : Piece) → piece (drop p text) ≡ P → after (turn P l p) (option (give l) (λ l. repeat k at l)) ≡ ok l' q → From l p l' q
      go more over z e =
          let at_end : p ≡ q = cc in
          record { found = []; all = cc (append-nil l); lexes = subst (λ (q : ℕ). Lexes p (drop p text) [] q) at_end (ends z) }
      go more bad z e = let y : ◌≡◌ {A = ℕ} 0 1 = cc in absurd (omega arith)
      go more (gap n) z e =
          let f : From l (p + n) l' q = more l (p + n) (less p n k (gap_whole (drop p text) n z) h) e in
          record { found = f.found; all = f.all; lexes = skips z (subst (λ (s : List ℕ). Lexes (p + n) s f.found q) (sym (drop-drop n p text)) f.lexes) }
      go more (token i v x n) z e =
          let t : Token = record { is = i; place = p; value = v; spelled = x } in
          let f : From (l ++ (t ∷ [])) (p + n) l' q = more (l ++ (t ∷ [])) (p + n) (less p n k (token-whole (drop p text) i v x n z) h) e in
          record { found = t ∷ f.found; all = f.all ∙ append_assoc l (t ∷ []) f.found; lexes = takes z (subst (λ (s : List ℕ). Lexes (p + n) s f.found q) (sym (drop-drop n p text)) f.lexes) }

  lexes_to : {p q : ℕ} {s : List ℕ} {ts : List Token} → Lexes p s ts q → drop p text ≡ s → (k : ℕ) → length s < k → (l : List Token) → repeat k at l p ≡ ok (l ++ ts) q
  unfolding turn
  lexes_to (ends e) z zero h l = absurd (omega arith)
  lexes_to (ends {p = p} e) z (suc k) h l = rw (z, e) (ap (λ (l : List Token). ok l p) (sym (append-nil l)))
  lexes_to (skips e t) z zero h l = absurd (omega arith)
  lexes_to (skips {p = p} {n = n} {s = s} e t) z (suc k) h l =
      let w : Whole s n = gap_whole s n e in
      rw (z, e) (lexes_to t (sym (drop-drop n p text) ∙ ap (drop n) z) k (omega (arith, length-drop n s)) l)
  lexes_to (takes e t) z zero h l = absurd (omega arith)
  lexes_to (takes {p = p} {q = q} {i = i} {v = v} {n = n} {x = x} {s = s} {ts = ts} e t) z (suc k) h l =
      let w : Whole s n = token-whole s i v x n e in
      let u : Token = record { is = i; place = p; value = v; spelled = x } in
      rw (z, e) (lexes_to t (sym (drop-drop n p text) ∙ ap (drop n) z) k (omega (arith, length-drop n s)) (l ++ (u ∷ []))
      ∙ ap (λ (l : List Token). ok l q) (append_assoc l (u ∷ []) ts))

-- Spaces before a text move its tokens on.
after_spaces : {p q : ℕ} {ts : List Token} (r : List ℕ) → Lexes p r ts q → Lexes (p + run_of space r) (drop (run_of space r) r) ts q
unfolding run_of
after_spaces {p} {q} {ts} [] t = subst (λ (p : ℕ). Lexes p [] ts q) (sym (add-zero p)) t
after_spaces {p} {q} {ts} (c ∷ r) t = go (space c) refl
  where
    first : {p : ℕ} {s : List ℕ} {ts : List Token} (n : ℕ) → Lexes p s ts q → piece s ≡ gap n → Lexes (p + n) (drop n s) ts q
    first n (ends e) z = let y : ◌≡◌ {A = ℕ} 0 1 = cc in absurd (omega arith)
    first {p} {s} {ts} n (skips {n = m} e t) z = let y : m ≡ n = cc in subst (λ (n : ℕ). Lexes (p + n) (drop n s) ts q) y t
    first n (takes e t) z = let y : ◌≡◌ {A = ℕ} 0 1 = cc in absurd (omega arith)

    go : (b : Bool) → space c ≡ b → Lexes (p + (when b then (λ _. suc (run_of space r)) else λ _. 0)) (drop (when b then (λ _. suc (run_of space r)) else λ _. 0) (c ∷ r)) ts q
    go true e = first (suc (run_of space r)) t (piece-space c r (rw e tt))
    go false e = subst (λ (p : ℕ). Lexes p (c ∷ r) ts q) (sym (add-zero p)) t

run_of_spaces : (k : ℕ) (r : List ℕ) → run_of space (replicate k 32 ++ r) ≡ k + run_of space r
unfolding run_of space bytes
run_of_spaces zero r = omega arith
run_of_spaces (suc k) r = rw (run_of_spaces k r) (omega arith)

drop_spaces : (k m : ℕ) (r : List ℕ) → drop (k + m) (replicate k 32 ++ r) ≡ drop m r
drop_spaces k m r = ap (λ (n : ℕ). drop (n + m) (replicate k 32 ++ r)) (sym (length-replicate k 32)) ∙ drop-append-add (replicate k 32) r m

spaces_before : {q : ℕ} {ts : List Token} (p k : ℕ) (r : List ℕ) → Lexes (p + k) r ts q → Lexes p (replicate k 32 ++ r) ts q
unfolding space bytes
spaces_before {q} {ts} p zero r t = subst (λ (p : ℕ). Lexes p r ts q) (add-zero p) t
spaces_before {q} {ts} p (suc k) r t =
    let m : ℕ = run_of space r in
    let e : p + suc k + m ≡ p + suc (k + m) = omega arith in
    let u : Lexes (p + suc (k + m)) (drop (k + m) (replicate k 32 ++ r)) ts q = rw (drop_spaces k m r, ← e) (after_spaces r t) in
    skips (piece-space 32 (replicate k 32 ++ r) tt) (subst (λ (n : ℕ). Lexes (p + suc n) (drop n (replicate k 32 ++ r)) ts q) (sym (run_of_spaces k r)) u)

-- A `1` that neither a digit nor a point follows.
piece_one : (u : List ℕ) → Stops digit u → starts (bytes ".") u ≡ false → piece (49 ∷ u) ≡ token (the "number") 1 [] 1
unfolding digits good_number decimal digit
piece_one u h p = piece-number 49 u tt (rw (run_none digit u h) p) ∙ rw (run_none digit u h)

-- The N of a `block[N]` is a number.
block_number : (j k i : ℕ) → is_block j k i ≡ true → i ≡ the "number"
unfolding is_block
block_number j k i e = eqb→eq i (the "number") (and_r (eqb j (the "block") && eqb k (the "[")) (eqb i (the "number")) (rw e tt))

-- So a float's constant stays as it is written.
pub constant_stays : (rest : ℕ → ℕ → List ℕ → List ℕ) (j k v : ℕ) (x : List ℕ) (n : ℕ) (s : List ℕ)
    → narrow_piece rest j k (token (the "float number") v x n) s ≡ take n s ++ rest k (the "float number") (drop n s)
unfolding narrow_piece
constant_stays rest j k v x n s = rw (false_of (is_block j k (the "float number")) (λ t. float_number_not_number (block_number j k _ (true_of _ t))))

-- The narrowed bytes begin alike, and are as many.
near_self : (s : List ℕ) → Near s s
near_self [] = no_bytes
near_self (c ∷ s) = same_byte

near_take : (n : ℕ) (s r : List ℕ) → 0 < n → n ≤ length s → Near s (take n s ++ r)
near_take zero s r h l = absurd (omega arith)
near_take (suc n) [] r h l = absurd (omega arith)
near_take (suc n) (c ∷ s) r h l = same_byte

near_narrow : (f j k : ℕ) (s : List ℕ) → Near s (narrow_from f j k s)
unfolding narrow_from narrow_piece one_padded
near_narrow zero j k s = near_self s
near_narrow (suc f) j k s = go (piece s) refl
  where
    go : (P : Piece) → piece s ≡ P → Near s (narrow_piece (narrow_from f) j k P s)
    go over e = near_self s
    go bad e = near_self s
    go (gap n) e = near_take n s (narrow_from f j k (drop n s)) (gap_whole s n e).positive (gap_whole s n e).within
    go (token i v x n) e = pick (is_block j k i) refl (leb 2 v) refl
      where
        pick : (a : Bool) → is_block j k i ≡ a → (b : Bool) → leb 2 v ≡ b → Near s ((when a && b then (λ _. one_padded n) else λ _. take n s) ++ narrow_from f k i (drop n s))
        pick true y true z = (number-piece s i v x n e (block_number j k i y) (leb→le 2 v (rw z tt))).begins _
        pick true y false z = near_take n s (narrow_from f k i (drop n s)) (token-whole s i v x n e).positive (token-whole s i v x n e).within
        pick false y b z = near_take n s (narrow_from f k i (drop n s)) (token-whole s i v x n e).positive (token-whole s i v x n e).within

length-narrow_from : (f j k : ℕ) (s : List ℕ) → length (narrow_from f j k s) ≡ length s
unfolding narrow_from narrow_piece one_padded
length-narrow_from zero j k s = refl
length-narrow_from (suc f) j k s = go (λ j k s. length-narrow_from f j k s) (piece s) refl
  where
    first : (n : ℕ) (r : List ℕ) → n ≤ length s → length r ≡ length (drop n s) → length (take n s ++ r) ≡ length s
    first n r l e = omega (arith, length-append (take n s) r, length-take-le n s l, length-drop n s)

    padded : (n : ℕ) (r : List ℕ) → 0 < n → n ≤ length s → length r ≡ length (drop n s) → length (one_padded n ++ r) ≡ length s
    padded n r h l e = omega (arith, length-append (replicate (n - 1) 32) r, length-replicate {A = ℕ} (n - 1) 32, length-drop n s)

    go : ((j k : ℕ) (s : List ℕ) → length (narrow_from f j k s) ≡ length s) → (P : Piece) → piece s ≡ P → length (narrow_piece (narrow_from f) j k P s) ≡ length s
    go rest over e = refl
    go rest bad e = refl
    go rest (gap n) e = first n (narrow_from f j k (drop n s)) (gap_whole s n e).within (rest j k (drop n s))
    go rest (token i v x n) e = pick (is_block j k i && leb 2 v)
      where
        pick : (b : Bool) → length ((when b then (λ _. one_padded n) else λ _. take n s) ++ narrow_from f k i (drop n s)) ≡ length s
        pick true = padded n (narrow_from f k i (drop n s)) (token-whole s i v x n e).positive (token-whole s i v x n e).within (rest k i (drop n s))
        pick false = first n (narrow_from f k i (drop n s)) (token-whole s i v x n e).within (rest k i (drop n s))

-- What follows a piece that stays, or is narrowed.
module _ (s : List ℕ) (n : ℕ) (w : Whole s n) (r : List ℕ) where
  rest_of : {p q : ℕ} {ts : List Token} → Lexes p r ts q → Lexes p (drop n (take n s ++ r)) ts q
  rest_of {p} {q} {ts} t = subst (λ (s : List ℕ). Lexes p s ts q) (sym (drop_at (take n s) r n (length-take-le n s w.within))) t

  takes_one : {q : ℕ} {ts : List Token} (p i : ℕ) (x : List ℕ) → i ≡ the "number" → x ≡ [] → Stops digit r → starts (bytes ".") r ≡ false → Lexes (p + n) r ts q
      → Lexes p (one_padded n ++ r) (record { is = i; place = p; value = 1; spelled = x } ∷ ts) q
  unfolding one_padded digit starts bytes
  takes_one {q} {ts} p i x y z h g t =
      let e : p + n ≡ p + 1 + (n - 1) = omega (arith, w.positive) in
      takes (piece_one (replicate (n - 1) 32 ++ r) (padded (n - 1)) (no_point (n - 1)) ∙ ap₂ (λ (i : ℕ) (x : List ℕ). token i 1 x 1) (sym y) (sym z))
      (spaces_before (p + 1) (n - 1) r (subst (λ (p : ℕ). Lexes p r ts q) e t))
    where
      padded : (m : ℕ) → Stops digit (replicate m 32 ++ r)
      padded zero = h
      padded (suc m) = tt

      no_point : (m : ℕ) → starts (bytes ".") (replicate m 32 ++ r) ≡ false
      no_point zero = g
      no_point (suc m) = refl

narrow_token_is : (j k i p v : ℕ) (x : List ℕ) (a b : Bool) → is_block j k i ≡ a → leb 2 v ≡ b
    → narrow_token j k (record { is = i; place = p; value = v; spelled = x }) ≡ record { is = i; place = p; value = when a && b then (λ _. 1) else λ _. v; spelled = x }
unfolding narrow_token narrow_length
narrow_token_is j k i p v x true true y z = rw (y, z)
narrow_token_is j k i p v x true false y z = rw (y, z)
narrow_token_is j k i p v x false b y z = rw y

-- The narrowed bytes have the narrowed tokens.
lexes_narrow : {p q : ℕ} {s : List ℕ} {ts : List Token} → Lexes p s ts q → (f j k : ℕ) → length s ≤ f → Lexes p (narrow_from f j k s) (narrow_tokens j k ts) q
unfolding narrow_from narrow_piece narrow_tokens
lexes_narrow (ends e) zero j k l = ends e
lexes_narrow (ends e) (suc f) j k l = rw e (ends e)
lexes_narrow (skips {n = n} {s = s} e t) zero j k l = absurd (omega (arith, (gap_whole s n e).positive, (gap_whole s n e).within))
lexes_narrow (skips {n = n} {s = s} e t) (suc f) j k l =
    let w : Whole s n = gap_whole s n e in
    let r : List ℕ = narrow_from f j k (drop n s) in
    rw e (skips (w.before r (near_narrow f j k (drop n s)) ∙ e) (rest_of s n w r (lexes_narrow t f j k (omega (arith, length-drop n s)))))
lexes_narrow (takes {i = i} {v = v} {n = n} {x = x} {s = s} e t) zero j k l = absurd (omega (arith, (token-whole s i v x n e).positive, (token-whole s i v x n e).within))
lexes_narrow (takes {p = p} {q = q} {i = i} {v = v} {n = n} {x = x} {s = s} {ts = ts} e t) (suc f) j k l =
    rw e (go (is_block j k i) refl (leb 2 v) refl (lexes_narrow t f k i (omega (arith, length-drop n s, (token-whole s i v x n e).positive))))
  where
    w : Whole s n
    w = token-whole s i v x n e

    r : List ℕ
    r = narrow_from f k i (drop n s)

    near : Near (drop n s) r
    near = near_narrow f k i (drop n s)

    go : (a : Bool) → is_block j k i ≡ a → (b : Bool) → leb 2 v ≡ b → Lexes (p + n) r (narrow_tokens k i ts) q
        → Lexes p ((when a && b then (λ _. one_padded n) else λ _. take n s) ++ r) (narrow_token j k (record { is = i; place = p; value = v; spelled = x }) ∷ narrow_tokens k i ts) q
    go true y true z u =
        let is : i ≡ the "number" = block_number j k i y in
        let m : Number s x n = number-piece s i v x n e is (leb→le 2 v (rw z tt)) in
        rw (narrow_token_is j k i p v x true true y z)
        (takes_one s n w r p i x is m.unspelled (near_digits near m.stops) (sym (near_point near) ∙ m.no_point) u)
    go true y false z u = rw (narrow_token_is j k i p v x true false y z) (takes (w.before r near ∙ e) (rest_of s n w r u))
    go false y b z u = rw (narrow_token_is j k i p v x false b y z) (takes (w.before r near ∙ e) (rest_of s n w r u))

-- The text's length stays.
pub length-narrow : (text : List ℕ) → length (narrow text) ≡ length text
unfolding narrow
length-narrow text = length-narrow_from (length text) (the "end") (the "end") text

narrow_tokens-end : (j k : ℕ) (ts : List Token) (q : ℕ) → narrow_tokens j k (ts ++ (end_at q ∷ [])) ≡ narrow_tokens j k ts ++ (end_at q ∷ [])
unfolding narrow_tokens
narrow_tokens-end j k [] q = ap (λ (t : Token). t ∷ []) (end_stays j k q)
narrow_tokens-end j k (t ∷ ts) q = ap (λ (l : List Token). narrow_token j k t ∷ l) (narrow_tokens-end k t.is ts q)

-- The narrowed text has the narrowed tokens.
tokens-narrow : (text : List ℕ) (ts : List Token) (q : ℕ) → tokens text ≡ ok ts q → tokens (narrow text) ≡ ok (narrow_tokens (the "end") (the "end") ts) q
unfolding tokens narrow
tokens-narrow text ts q e = go (repeat (suc (length text)) (at text) [] 0) refl e
  where
    last : List Token → ℕ → Out ℕ (List Token)
    last l p = ok (l ++ (end_at p ∷ [])) p

    go : (o : Out ℕ (List Token)) → repeat (suc (length text)) (at text) [] 0 ≡ o → after o last ≡ ok ts q
        → after (repeat (suc (length (narrow text))) (at (narrow text)) [] 0) last ≡ ok (narrow_tokens (the "end") (the "end") ts) q
    go (refused c p) z e = let y : ◌≡◌ {A = ℕ} 0 1 = cc in absurd (omega arith)
    go (ok l p) z e =
        let f : From text [] 0 l p = lexes_of text (suc (length text)) [] 0 l p (omega arith) z in
        let t = lexes_narrow f.lexes (length text) (the "end") (the "end") (omega arith) in
        let all : f.found ++ (end_at p ∷ []) ≡ ts = ap (λ (l : List Token). l ++ (end_at p ∷ [])) (sym f.all) ∙ cc in
        let place : p ≡ q = cc in
        rw (lexes_to (narrow text) t refl (suc (length (narrow text))) (omega arith) [], ← all, ← place, narrow_tokens-end (the "end") (the "end") f.found p)

-- "At most 4,096 bytes."
abbrev limited : ℕ → Out ℕ (List Token) → Out ℕ (List Token)
limited n o = when leb n text_limit then (λ _. o) else λ _. refused TextTooLong 0

lexed_is : (text : List ℕ) → lexed text ≡ limited (length text) (tokens text)
unfolding lexed
lexed_is text = refl

pub lexed-narrow : (text : List ℕ) (ts : List Token) (q : ℕ) → lexed text ≡ ok ts q → lexed (narrow text) ≡ ok (narrow_tokens (the "end") (the "end") ts) q
lexed-narrow text ts q e =
    lexed_is (narrow text) ∙ ap (λ (n : ℕ). limited n (tokens (narrow text))) (length-narrow text) ∙ go (leb (length text) text_limit) (sym (lexed_is text) ∙ e)
  where
    go : (b : Bool) → (when b then (λ _. tokens text) else λ _. refused TextTooLong 0) ≡ ok ts q
        → (when b then (λ _. tokens (narrow text)) else λ _. refused TextTooLong 0) ≡ ok (narrow_tokens (the "end") (the "end") ts) q
    go true e = tokens-narrow text ts q e
    go false e = let y : ◌≡◌ {A = ℕ} 0 1 = cc in absurd (omega arith)
