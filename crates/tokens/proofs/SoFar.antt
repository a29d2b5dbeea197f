-- The loop over the text: the buffer holds the tokens so far, and the definition goes on from the place reached.
use mathlib.Core.Path.{◌≡◌, refl, sym, ap, ◌∙◌}
use mathlib.Core.List.{List, [], ◌∷◌, ◌++◌}
use Prim.Native.Nat.{ℕ, suc, pred, ◌+◌, ◌*◌, ◌-◌, ◌≤◌, ◌<◌}
use native.Mathlib.Omega.{arith}
use lib.Dec.{eqb}
use lib.ListN.{length, drop, take, length-drop, length-append, drop_of_length-le}
use lib.Seq.{sets, length-sets}
use borrow.Author.Rules.{part_to_end}
use borrow.Author.Tests.{eq-eqb, ne_eqb, le-leb, lt-leb}
use Rattle.meaning.specs.declared.Refusal.TheVariants.{TextTooLong, BadBytes}
use Rattle.meaning.specs.Codes.{ok, when◌then◌else◌, text_limit}
use Rattle.meaning.specs.Tokens.{Token, Piece, over, bad, gap, token, piece, end_at, the, tokens, lexed}
use Rattle.layout.specs.Words.{unit}
use Rattle.layout.specs.Tokens.{token_words, TokenRow, Holds}
use Rattle.tokens.specs.declared.Lexeme.TheVariants.{Gap, Token as OneToken}
use Rattle.std.specs.declared.option.Option.TheVariants.{Some, None}
use Rattle.std.specs.declared.result.Result.TheVariants.{Ok, Err}
use Rattle.tokens.specs.Lexing.{lexeme, TokenRoom, Lexes}
use Rattle.laws.proofs.The.{the_end, number_not_end, name_not_end, number_not_name, float_number_not_end, float_number_not_name}
use Rattle.laws.proofs.Pieces.{Taken, Fair, nothing, between, taken, fair}
use Rattle.laws.proofs.Turns.{tokens_from, from_start, turn_over, turn_bad, turn_gap, turn-token}
use Rattle.tokens.proofs.Rows.{holds_none, holds_more}

-- A slice's part from a place to its end, as the code lends it.
abbrev pub rest : List ℕ → ℕ → List ℕ
rest s at = take (length s - at) (drop at s)

-- What the code's token at place p says of the piece.
record TokenTold (p k w n : ℕ) (q : Piece) : Type 0 where
  value : ℕ
  bytes : List ℕ
  is : q ≡ token k value bytes n
  beside : w ≡ (when eqb k (the "name") then (λ _. p + n) else λ _. value)

-- From what the code answers to the piece that stands there.
told_gap : (p n : ℕ) (q : Piece) → Some (Gap n) ≡ lexeme p q → q ≡ gap n
unfolding lexeme
told_gap p n over e = cc
told_gap p n bad e = cc
told_gap p n (gap m) e = cc
told_gap p n (token k v x m) e = cc

told-token : (p k w n : ℕ) (q : Piece) → Some (OneToken k w n) ≡ lexeme p q → TokenTold p k w n q
unfolding lexeme
told-token p k w n over e = let z : ◌≡◌ {A = ℕ} 0 1 = cc in absurd (omega arith)
told-token p k w n bad e = let z : ◌≡◌ {A = ℕ} 0 1 = cc in absurd (omega arith)
told-token p k w n (gap m) e = let z : ◌≡◌ {A = ℕ} 0 1 = cc in absurd (omega arith)
told-token p k w n (token i v x m) e =
    let a : k ≡ i = cc in
    let b : n ≡ m = cc in
    let c : w ≡ (when eqb i (the "name") then (λ _. p + m) else λ _. v) = cc in
    record { value = v; bytes = x; is = rw (a, b); beside = rw (a, b) c }

told_bad : (p : ℕ) (s : List ℕ) (q : Piece) → Fair s q → 0 < length s → None ≡ lexeme p q → q ≡ bad
unfolding lexeme
told_bad p s over (nothing z) lt e = absurd (omega arith)
told_bad p s bad f lt e = refl
told_bad p s (gap n) f lt e = cc
told_bad p s (token k v x n) f lt e = cc

-- Past the last byte nothing stands.
over_at : (text : List ℕ) {at : ℕ} → length text ≤ at → piece (drop at text) ≡ over
unfolding piece
over_at text le = rw (drop_of_length-le text le)

-- The tokens of a text that is not too long.
lexed_within : (text : List ℕ) → length text ≤ text_limit → lexed text ≡ tokens text
unfolding lexed
lexed_within text le = rw (le-leb (length text) text_limit le)

-- What a gap and a token take of the bytes.
fair_gap : {s : List ℕ} {n : ℕ} → Fair s (gap n) → (0 < n) × (n ≤ length s)
fair_gap (between lt le) = (lt, le)

fair_token : {s x : List ℕ} {k v n : ℕ} → Fair s (token k v x n) → Taken s k v x n
fair_token (taken t) = t

-- The row of a token, and that of the end.
token_row : {s x : List ℕ} {k p v w n : ℕ} → Taken s k v x n → w ≡ (when eqb k (the "name") then (λ _. p + n) else λ _. v)
    → TokenRow k p w (record { is = k; place = p; value = v; spelled = x })
token_row {k = k} {p} {v} {w} {n} t beside =
    record {
      is = refl;
      at = refl;
      worth = λ e. beside ∙ rw (ne_eqb k (the "name") (λ q. number_not_name (sym e ∙ q)));
      pattern = λ e. beside ∙ rw (ne_eqb k (the "name") (λ q. float_number_not_name (sym e ∙ q)));
      end = λ e. beside ∙ rw (eq-eqb k (the "name") e, (t.name e).1);
    }

end_row : (p : ℕ) → TokenRow 0 p 0 (end_at p)
unfolding end_at
end_row p =
    record {
      is = sym the_end;
      at = refl;
      worth = λ e. absurd (number_not_end (sym e));
      pattern = λ e. absurd (float_number_not_end (sym e));
      end = λ e. absurd (name_not_end (sym e));
    }

-- So far n tokens are in the buffer, and the text is read up to `at`.
pub record TokensSoFar (text buffer₀ buffer : List ℕ) (at n : ℕ) : Type 0 where
  pub within : at ≤ length text
  pub few : n ≤ at
  pub same_length : length buffer ≡ length buffer₀
  pub so_far : List Token
  pub turns : ℕ
  pub enough : length text ≤ at + turns
  pub is : tokens text ≡ tokens_from text (suc turns) so_far at
  pub count : n ≡ length so_far
  pub holds : Holds buffer so_far

-- Before the first turn.
pub none_so_far : (text buffer : List ℕ) → TokensSoFar text buffer buffer 0 0
none_so_far text buffer =
    record {
      within = omega arith;
      few = omega arith;
      same_length = refl;
      so_far = [];
      turns = length text;
      enough = omega arith;
      is = from_start text;
      count = refl;
      holds = holds_none buffer;
    }

-- A turn of the loop, by what stands there.
module _ {text buffer₀ buffer : List ℕ} {at n : ℕ} (g : TokensSoFar text buffer₀ buffer at n) (lt : at < length text) where
  inside : {m : ℕ} → m ≤ length (drop at text) → at + m ≤ length text
  inside le = let d = length-drop at text in omega arith

  -- The step takes one of the turns.
  step : (l : List Token) (m : ℕ) → tokens_from text (suc g.turns) g.so_far at ≡ tokens_from text g.turns l (at + m)
      → tokens text ≡ tokens_from text (suc (pred g.turns)) l (at + m)
  step l m e = let more : g.turns ≡ suc (pred g.turns) = omega arith in g.is ∙ e ∙ ap (λ k. tokens_from text k l (at + m)) more

  gap_at : {m : ℕ} → Some (Gap m) ≡ lexeme at (piece (rest text at)) → piece (drop at text) ≡ gap m
  gap_at {m} h = told_gap at m (piece (drop at text)) (rw (part_to_end text at) at h)

  pub gap_moves : {m : ℕ} → Some (Gap m) ≡ lexeme at (piece (rest text at)) → (0 < m) × (at + m ≤ length text)
  gap_moves h = let f = fair_gap (rw (gap_at h) at (fair (drop at text))) in (f.0, inside f.1)

  pub after_gap : {m : ℕ} → Some (Gap m) ≡ lexeme at (piece (rest text at)) → TokensSoFar text buffer₀ buffer (at + m) n
  after_gap {m} h =
      let moves = gap_moves h in
      record {
        within = moves.1;
        few = omega arith;
        same_length = g.same_length;
        so_far = g.so_far;
        turns = pred g.turns;
        enough = omega arith;
        is = step g.so_far m (turn_gap text g.turns g.so_far at (gap_at h));
        count = g.count;
        holds = g.holds;
      }

  token_at : {k w m : ℕ} → Some (OneToken k w m) ≡ lexeme at (piece (rest text at)) → TokenTold at k w m (piece (drop at text))
  token_at {k} {w} {m} h = told-token at k w m (piece (drop at text)) (rw (part_to_end text at) at h)

  token_taken : {k w m : ℕ} (t : TokenTold at k w m (piece (drop at text))) → Taken (drop at text) k t.value t.bytes m
  token_taken t = fair_token (rw t.is at (fair (drop at text)))

  pub token_moves : {k w m : ℕ} → Some (OneToken k w m) ≡ lexeme at (piece (rest text at)) → (0 < m) × (at + m ≤ length text)
  token_moves h = let t = token_taken (token_at h) in (t.some_bytes, inside t.within)

  pub after-token : {k w m : ℕ} {new : List ℕ} → Some (OneToken k w m) ≡ lexeme at (piece (rest text at)) → length text ≤ text_limit → TokenRoom text buffer₀
      → new ≡ sets buffer (n * token_words) (unit k at w) → TokensSoFar text buffer₀ new (at + m) (n + 1)
  after-token {k} {w} {m} h short room in_new =
      let moves = token_moves h in
      let told = token_at h in
      let t : Token = record { is = k; place = at; value = told.value; spelled = told.bytes } in
      record {
        within = moves.1;
        few = omega arith;
        same_length = rw in_new (length-sets buffer (n * token_words) (unit k at w) ∙ g.same_length);
        so_far = g.so_far ++ (t ∷ []);
        turns = pred g.turns;
        enough = omega arith;
        is = step (g.so_far ++ (t ∷ [])) m (turn-token text g.turns g.so_far at told.is);
        count = omega (arith, length-append g.so_far (t ∷ []));
        holds = rw in_new (holds_more n g.holds (token_row (token_taken told) told.beside) g.count (omega arith));
      }

  pub bad_there : None ≡ lexeme at (piece (rest text at)) → length text ≤ text_limit → Lexes text (Err (record { refusal = BadBytes; place = at })) buffer
  bad_there h short =
      let some_bytes : 0 < length (drop at text) = omega (arith, length-drop at text) in
      let wrong = told_bad at (drop at text) (piece (drop at text)) (fair (drop at text)) some_bytes (rw (part_to_end text at) at h) in
      record {
        tokens = [];
        is = lexed_within text short ∙ g.is ∙ turn_bad text g.turns g.so_far at wrong;
        count = refl;
        size = refl;
        few = omega arith;
        near = omega arith;
        holds = holds_none buffer;
      }

-- The end of the text, and a text that is too long.
pub all_so_far : {text buffer₀ buffer new : List ℕ} {at n : ℕ} → TokensSoFar text buffer₀ buffer at n → length text ≤ at → length text ≤ text_limit → TokenRoom text buffer₀
    → new ≡ sets buffer (n * token_words) (unit 0 at 0) → Lexes text (Ok (record { count = n + 1; size = n * token_words + token_words })) new
all_so_far {text} {at = at} {n} g le short room in_new =
    let last : at ≡ length text = omega arith in
    let long = length-append g.so_far (end_at at ∷ []) in
    record {
      tokens = g.so_far ++ (end_at at ∷ []);
      is = lexed_within text short ∙ g.is ∙ turn_over text g.turns g.so_far at (over_at text le) ∙ ap (ok (g.so_far ++ (end_at at ∷ []))) last;
      count = omega arith;
      size = rw (long, g.count) (omega arith);
      few = omega arith;
      near = omega arith;
      holds = rw in_new (holds_more n g.holds (end_row at) g.count (omega arith));
    }

pub too_long : (text buffer : List ℕ) → text_limit < length text → Lexes text (Err (record { refusal = TextTooLong; place = 0 })) buffer
unfolding lexed
too_long text buffer lt =
    record { tokens = []; is = rw (lt-leb (length text) text_limit lt); count = refl; size = refl; few = omega arith; near = omega arith; holds = holds_none buffer }
