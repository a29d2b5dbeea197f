-- The contract of `lex` determines its answer and the tokens' entries: two results that satisfy it coincide.
use mathlib.Core.Path.{◌≡◌, sym, ap, ◌∙◌}
use mathlib.Core.List.{List}
use Prim.Native.Nat.{ℕ, ◌<◌}
use native.Mathlib.Omega.{arith}
use lib.ListN.{length}
use Rattle.meaning.specs.Tokens.{Token, the}
use Rattle.layout.specs.Tokens.{kind_at, place_at, value_at, TokenRow}
use Rattle.layout.specs.Stage.{Stage}
use Rattle.std.specs.declared.result.Result.TheVariants.{Ok, Err}
use Rattle.tokens.specs.Lexing.{lexed_count, Lexes}

-- The words of two tokens coincide: the kinds, the places, and the values of a number and of a name.
pub record SameToken (kind place value kind' place' value' : ℕ) : Type 0 where
  pub same_kind : kind ≡ kind'
  pub same_place : place ≡ place'
  pub same_number : kind ≡ the "number" → value ≡ value'
  pub same_name : kind ≡ the "name" → value ≡ value'

same_token : {k p v k' p' v' : ℕ} {t : Token} → TokenRow k p v t → TokenRow k' p' v' t → SameToken k p v k' p' v'
same_token r r' =
    record {
      same_kind = r.is ∙ sym r'.is;
      same_place = r.at ∙ sym r'.at;
      same_number = λ e. let number = sym r.is ∙ e in r.worth number ∙ sym (r'.worth number);
      same_name = λ e. let name = sym r.is ∙ e in r.end name ∙ sym (r'.end name);
    }

-- Two answers with their buffers coincide.
pub record SameLexed (r r' : Stage) (buffer buffer' : List ℕ) : Type 0 where
  pub same_answer : r ≡ r'
  pub same_rows : (i : ℕ) → i < lexed_count r → SameToken (kind_at buffer i) (place_at buffer i) (value_at buffer i) (kind_at buffer' i) (place_at buffer' i) (value_at buffer' i)

module _ {text buffer buffer' : List ℕ} where
  answers : (r r' : Stage) → Lexes text r buffer → Lexes text r' buffer' → r ≡ r'
  answers (Ok reached) (Ok again) x y =
      let e : x.tokens ≡ y.tokens = cc (x.is, y.is) in
      let count_is : reached.count ≡ again.count = x.count ∙ ap length e ∙ sym y.count in
      let size_is : reached.size ≡ again.size = x.size ∙ rw e (sym y.size) in
      let same : Ok (record { count = reached.count; size = reached.size }) ≡ Ok again = rw (count_is, size_is) in same
  answers (Ok reached) (Err why) x y = cc (x.is, y.is)
  answers (Err why) (Ok reached) x y = cc (x.is, y.is)
  answers (Err why) (Err again) x y =
      let refusal_is : why.refusal ≡ again.refusal = cc (x.is, y.is) in
      let place_is : why.place ≡ again.place = cc (x.is, y.is) in
      let same : Err (record { refusal = why.refusal; place = why.place }) ≡ Err again = rw (refusal_is, place_is) in same

  tokens_of : (r : Stage) (x : Lexes text r buffer) (y : Lexes text r buffer') (i : ℕ) → i < lexed_count r → x.tokens ≡ y.tokens
  tokens_of (Ok reached) x y i lt = cc (x.is, y.is)
  tokens_of (Err why) x y i lt = absurd (omega arith)

  pub lex_unique : (r r' : Stage) → Lexes text r buffer → Lexes text r' buffer' → SameLexed r r' buffer buffer'
  lex_unique r r' x y =
      let e = answers r r' x y in
      let z : Lexes text r buffer' = rw e y in
      record {
        same_answer = e;
        same_rows = λ i lt.
            let ts = tokens_of r x z i lt in
            let n = x.count in
            let m = z.count in
            same_token (x.holds.row i (omega arith)) (rw ts (z.holds.row i (omega arith)));
      }
