-- What a later stage may rely on of the tokens of a text: names are spelled in it, numbers are small, and the end comes last.
use mathlib.Core.Path.{◌≡◌, refl, sym, ◌∙◌}
use mathlib.Core.List.{List, [], ◌∷◌, ◌++◌}
use Prim.Native.Nat.{ℕ, zero, suc, ◌+◌, ◌-◌, ◌^◌, ◌≤◌, ◌<◌}
use native.Mathlib.Omega.{arith}
use lib.ListN.{length, get_or, drop, length-append, length-drop}
use lib.Dec.{leb}
use borrow.Author.Tests.{leb-true}
use Rattle.meaning.specs.declared.Refusal.TheVariants.{TextTooLong, BadBytes}
use Rattle.meaning.specs.Codes.{Out, ok, text_limit, number_limit, the_judge_gives, only_a_run_gives}
use Rattle.meaning.specs.Tokens.{Token, Piece, over, bad, gap, token, piece, end_at, the, tokens, lexed}
use Rattle.laws.specs.Outcomes.{Ends, well, refusal, RefusedIn}
use Rattle.laws.specs.Sound.{Spelled}
use Rattle.laws.specs.Tokens.{TokenIn, AllIn, the_last, one_more, Accepted}
use Rattle.laws.proofs.Outcomes.{said}
use Rattle.laws.proofs.Tests.{by_if}
use Rattle.laws.proofs.The.{number_not_end, float_number_not_end, name_not_end}
use Rattle.laws.proofs.Pieces.{Taken, Fair, nothing, wrong, between, taken, fair}
use Rattle.laws.proofs.Turns.{tokens_from, from_start, turn_over, turn_bad, turn_gap, turn-token}

-- Tokens one after another, from number k on.
data Each (text : List ℕ) : ℕ → List Token → Type 0 where
  no_more : {k : ℕ} → Each text k []
  and_one : {k : ℕ} {t : Token} {ts : List Token} → k ≤ t.place → TokenIn text t → Each text (suc k) ts → Each text k (t ∷ ts)

each_snoc : {text : List ℕ} {k : ℕ} {l : List Token} {t : Token} → Each text k l → k + length l ≤ t.place → TokenIn text t → Each text k (l ++ (t ∷ []))
each_snoc {k = k} {t = t} no_more le h = and_one {k = k} {t = t} (omega arith) h no_more
each_snoc (and_one lt g e) le h = and_one lt g (each_snoc e (omega arith) h)

each-end : {text : List ℕ} {k : ℕ} {l : List Token} → Each text k l → AllIn text k (l ++ (end_at (length text) ∷ []))
each-end no_more = the_last
each-end (and_one lt g e) = one_more lt g (each-end e)

-- A piece that is a token, at place p.
token_in : {text x : List ℕ} {p k v n : ℕ} → p ≤ length text → Taken (drop p text) k v x n → TokenIn text (record { is = k; place = p; value = v; spelled = x })
token_in {text} {x} {p} {k} {v} {n} le t =
    let d = length-drop p text in
    let a = t.some_bytes in
    let b = t.within in
    record {
      inside = omega arith;
      not_end = t.not_end;
      number = t.number;
      float = t.float;
      name = λ e.
          let x_is = (t.name e).0 in
          let x_long : length x ≡ n = (t.name e).1 in
          record { some_bytes = omega arith; inside = omega arith; is = rw x_long (sym x_is) };
    }

-- From a place on, with turns enough.
ends_from : (text : List ℕ) (k : ℕ) (l : List Token) (p : ℕ) → Each text 0 l → length l ≤ p → p ≤ length text → length text < p + k → Ends (Accepted text) (RefusedIn text) (tokens_from text k l p)
unfolding the_judge_gives only_a_run_gives
ends_from text zero l p e few in' enough = absurd (omega arith)
ends_from text (suc k) l p e few in' enough = go (λ l' n. ends_from text k l' (p + n)) (piece (drop p text)) refl (fair (drop p text)) (length-drop p text)
  where
    go : ((l' : List Token) (n : ℕ) → Each text 0 l' → length l' ≤ p + n → p + n ≤ length text → length text < p + n + k → Ends (Accepted text) (RefusedIn text) (tokens_from text k l' (p + n)))
        → (q : Piece) → piece (drop p text) ≡ q → Fair (drop p text) q → length (drop p text) ≡ length text - p → Ends (Accepted text) (RefusedIn text) (tokens_from text (suc k) l p)
    go later over h (nothing z) d =
        let end : p ≡ length text = omega arith in
        let long = length-append l (end_at p ∷ []) in
        let a : Accepted text (l ++ (end_at p ∷ [])) p = record { spelled = rw end (each-end e); few = omega arith; to_end = end } in
        rw (turn_over text k l p h) (well a)
    go later bad h wrong d = rw (turn_bad text k l p h) (refusal {c = BadBytes} (record { judges = refl; near = in' }))
    go later (gap n) h (between lt le) d = rw (turn_gap text k l p h) (later l n e (omega arith) (omega arith) (omega arith))
    go later (token i v x n) h (taken t) d =
        let a = t.some_bytes in
        let b = t.within in
        let long = length-append l (record { is = i; place = p; value = v; spelled = x } ∷ []) in
        rw (turn-token text k l p h)
        (later (l ++ (record { is = i; place = p; value = v; spelled = x } ∷ [])) n (each_snoc e (omega arith) (token_in in' t)) (omega arith) (omega arith) (omega arith))

-- The tokens of any text.
tokens-end : (text : List ℕ) → Ends (Accepted text) (RefusedIn text) (tokens text)
tokens-end text = rw (from_start text) (ends_from text (suc (length text)) [] 0 no_more (omega arith) (omega arith) (omega arith))

pub lexed_ends : (text : List ℕ) → Ends (Accepted text) (RefusedIn text) (lexed text)
unfolding lexed the_judge_gives only_a_run_gives
lexed_ends text =
    by_if (Ends (Accepted text) (RefusedIn text)) (leb (length text) text_limit) _ _ (λ _. tokens-end text) (λ _. refusal {c = TextTooLong} {p = 0} (record { judges = refl; near = omega arith }))

-- The tokens of an accepted text are spelled in it.
pub lexed_accepted : (text : List ℕ) {ts : List Token} {p : ℕ} → lexed text ≡ ok ts p → Accepted text ts p
lexed_accepted text e = said (lexed_ends text) e

-- An accepted text is short.
pub lexed_short : (text : List ℕ) {ts : List Token} {p : ℕ} → lexed text ≡ ok ts p → length text ≤ text_limit
unfolding lexed
lexed_short text {ts} {p} e =
    by_if (λ (o : Out ℕ (List Token)). o ≡ ok ts p → length text ≤ text_limit) (leb (length text) text_limit) _ _
    (λ h _. leb-true (length text) text_limit h)
    (λ _ q. let z : ◌≡◌ {A = ℕ} 0 1 = cc in absurd (omega arith))
    e

-- What is known of the token at a position, as the reader looks at it.
module _ {text : List ℕ} where
  -- There is a token.
  pub spelled_some : {k : ℕ} {ts : List Token} → AllIn text k ts → 0 < length ts
  spelled_some the_last = omega arith
  spelled_some (one_more l h s) = omega arith

  -- Each token but the last is one of the text, and so not the end.
  pub spelled_at : {k : ℕ} {ts : List Token} (i : ℕ) → AllIn text k ts → suc i < length ts → TokenIn text (get_or ts i (end_at 0))
  spelled_at i the_last lt = absurd (omega arith)
  spelled_at zero (one_more l h s) lt = h
  spelled_at (suc i) (one_more l h s) lt = spelled_at i s (omega arith)

  -- The last is the end of the text.
  pub spelled_last : {k : ℕ} {ts : List Token} (i : ℕ) → AllIn text k ts → length ts ≡ suc i → get_or ts i (end_at 0) ≡ end_at (length text)
  spelled_last zero the_last e = refl
  spelled_last (suc i) the_last e = absurd (omega arith)
  spelled_last zero (one_more l h s) e = absurd (omega (arith, spelled_some s))
  spelled_last (suc i) (one_more l h s) e = spelled_last i s (omega arith)

  -- What is not the end is a token of the text.
  pub spelled_is : {k : ℕ} {ts : List Token} (i : ℕ) → AllIn text k ts → ((get_or ts i (end_at 0)).is ≡ the "end" → ⊥) → TokenIn text (get_or ts i (end_at 0))
  unfolding end_at
  spelled_is zero the_last ne = absurd (ne refl)
  spelled_is (suc i) the_last ne = absurd (ne refl)
  spelled_is zero (one_more l h s) ne = h
  spelled_is (suc i) (one_more l h s) ne = spelled_is i s ne

  pub spelled_name : {k : ℕ} {ts : List Token} (i : ℕ) → AllIn text k ts → (get_or ts i (end_at 0)).is ≡ the "name" → Spelled text (get_or ts i (end_at 0)).place (get_or ts i (end_at 0)).spelled
  spelled_name i s e = (spelled_is i s (λ q. name_not_end (sym e ∙ q))).name e

  pub spelled-number : {k : ℕ} {ts : List Token} (i : ℕ) → AllIn text k ts → (get_or ts i (end_at 0)).is ≡ the "number" → (get_or ts i (end_at 0)).value ≤ number_limit
  spelled-number i s e = (spelled_is i s (λ q. number_not_end (sym e ∙ q))).number e

  pub spelled_float : {k : ℕ} {ts : List Token} (i : ℕ) → AllIn text k ts → (get_or ts i (end_at 0)).is ≡ the "float number" → (get_or ts i (end_at 0)).value < 2 ^ 32
  spelled_float i s e = (spelled_is i s (λ q. float_number_not_end (sym e ∙ q))).float e

  -- Each place is inside the text or at its end.
  pub spelled_place : {k : ℕ} {ts : List Token} (i : ℕ) → AllIn text k ts → (get_or ts i (end_at 0)).place ≤ length text
  unfolding end_at
  spelled_place zero the_last = omega arith
  spelled_place (suc i) the_last = omega arith
  spelled_place zero (one_more l h s) = omega (arith, h.inside)
  spelled_place (suc i) (one_more l h s) = spelled_place i s

  -- Each token that is not the end takes a byte, so it stands at its number or later.
  pub spelled_later : {k : ℕ} {ts : List Token} (i : ℕ) → AllIn text k ts → ((get_or ts i (end_at 0)).is ≡ the "end" → ⊥) → k + i ≤ (get_or ts i (end_at 0)).place
  unfolding end_at
  spelled_later zero the_last ne = absurd (ne refl)
  spelled_later (suc i) the_last ne = absurd (ne refl)
  spelled_later zero (one_more l h s) ne = omega arith
  spelled_later (suc i) (one_more l h s) ne = omega (arith, spelled_later i s ne)
