-- What a derivation is written as parses, and parses as that derivation.
use Prim.Native.Nat.{ℕ, zero, suc, ◌+◌, ◌-◌, ◌≤◌}
use Prim.Native.String.{String}
use mathlib.Core.Path.{◌≡◌, refl, ◌∙◌}
use mathlib.Core.Bool as B
use mathlib.Core.Bool.{Bool, ◌&&◌}
use mathlib.Core.List.{List, [], ◌∷◌}
use mathlib.Core.Option.{Option, none, some}
use native.Mathlib.Omega.{arith}
use native.Mathlib.Nat.{zero-add}
use lib.Dec.{eqb}
use lib.ListN.{length}
use borrow.Author.Tests.{eqb-true, eq-eqb}
use Rattle.meaning.specs.Codes.{ok, after, ◌>>=◌, give, option, repeat, ◌among◌}
use Rattle.meaning.specs.Tokens.{Token, the, words, marks, numbered, reserved, signs}
use Rattle.meaning.specs.Tree.{kinds}
use Rattle.meaning.specs.Reading.{begins}
use Rattle.grammar.specs.Grammar.{The, every_level, no_level, Operator, or, xor, and, eq, ne, lt, gt, le, ge, add, sub, mul, Sign, neg, inv, not, Expression, number, float_number, true, false, name, current_mask, parenthesised, unary, binary, tighter, KindWord, int, bool, float, BlockPart, no_block, block, Statement, empty, braces, declaration, initialised, assignment, if_else, while, scalar, Statements, none_yet, ◌⨾◌, Program, token, operator_token, sign_token, kind_token, expression_nesting, statement_nesting, statements_nesting}
use Rattle.grammar.proofs.Written.{expression_before, block_before, statement_before, statements_before}
use Rattle.grammar.proofs.Parse.{Parse, find, pick, one, first, operators, one_more, grouped, operand, operands, expression, deeper_operand, deeper_expression, operands_is, condition, a_block, declared, opening, another, many, braced, statement_over, statement, deeper_statement, deeper_statements, statement_is, program}

-- An operator's token is found at its level.
pub found-operator : {n : ℕ} (o : Operator n) → find (operator_token o) (operators n) ≡ some o
unfolding find operators operator_token the words marks numbered reserved signs
found-operator (or t) = refl
found-operator (xor t) = refl
found-operator (and t) = refl
found-operator (eq t) = refl
found-operator (ne t) = refl
found-operator (lt t) = refl
found-operator (gt t) = refl
found-operator (le t) = refl
found-operator (ge t) = refl
found-operator (add t) = refl
found-operator (sub t) = refl
found-operator (mul t) = refl

-- Is a token none of the operators of the n tightest levels?
unfoldable pub clear : Token → ℕ → Bool
unfolding find operators the words marks numbered reserved signs
clear t zero = B.true
clear t (suc n) = option B.true (λ _. B.false) (find t (operators n)) && clear t n

-- An operator is none of a tighter level.
pub operator_clear : {n : ℕ} (o : Operator n) → clear (operator_token o) n ≡ B.true
unfolding clear operator_token
operator_clear (or t) = refl
operator_clear (xor t) = refl
operator_clear (and t) = refl
operator_clear (eq t) = refl
operator_clear (ne t) = refl
operator_clear (lt t) = refl
operator_clear (gt t) = refl
operator_clear (le t) = refl
operator_clear (ge t) = refl
operator_clear (add t) = refl
operator_clear (sub t) = refl
operator_clear (mul t) = refl

clear_none : (t : Token) (n : ℕ) → clear t (suc n) ≡ B.true → find t (operators n) ≡ none
unfolding clear
clear_none t n e = go (find t (operators n)) refl e
  where
    go : (o : Option (Operator n)) → find t (operators n) ≡ o → (option B.true (λ _. B.false) o && clear t n) ≡ B.true → find t (operators n) ≡ none
    go none g h = g
    go (some x) g h = let z : ◌≡◌ {A = ℕ} 0 1 = cc in absurd (omega arith)

-- The levels that are tighter than the loosest of n.
unfoldable pub less : ℕ → ℕ
less zero = zero
less (suc n) = n

pub clear_less : (t : Token) (n : ℕ) → clear t n ≡ B.true → clear t (less n) ≡ B.true
unfolding clear less
clear_less t zero e = e
clear_less t (suc n) e = go (find t (operators n)) e
  where
    go : (o : Option (Operator n)) → (option B.true (λ _. B.false) o && clear t n) ≡ B.true → clear t n ≡ B.true
    go none h = h
    go (some x) h = let z : ◌≡◌ {A = ℕ} 0 1 = cc in absurd (omega arith)

-- How many operators of its loosest level an expression has outside parentheses; it has at least as many tokens.
unfoldable pub turns : {n : ℕ} → Expression n → ℕ
turns (number t) = 0
turns (float_number t) = 0
turns (true t) = 0
turns (false t) = 0
turns (name t) = 0
turns (current_mask t) = 0
turns (parenthesised x e y) = 0
turns (unary o e) = 0
turns (binary e o e') = suc (turns e)
turns (tighter e) = 0

pub longer : {n : ℕ} (e : Expression n) (l : List Token) → turns e + length l ≤ length (expression_before e l)
unfolding turns expression_before
longer (number t) l = omega arith
longer (float_number t) l = omega arith
longer (true t) l = omega arith
longer (false t) l = omega arith
longer (name t) l = omega arith
longer (current_mask t) l = omega arith
longer (parenthesised x e y) l = omega (arith, longer e (token y ∷ l))
longer (unary o e) l = omega (arith, longer e l)
longer (binary e o e') l = omega (arith, longer e (operator_token o ∷ expression_before e' l), longer e' l)
longer (tighter e) l = omega (arith, longer e l)

pub signed : (o : Sign) (deep : Parse (Expression no_level)) (inside : Parse (Expression every_level)) (l : List Token) →
    operand deep inside (sign_token o ∷ l) ≡ after (deep l) (λ e. give (unary o e))
unfolding operand pick find sign_token the words marks numbered reserved signs
signed (neg t) deep inside l = refl
signed (inv t) deep inside l = refl
signed (not t) deep inside l = refl

pub block_complete : (b : BlockPart) (x : The "name") (l : List Token) → a_block (block_before b (token x ∷ l)) ≡ ok b (token x ∷ l)
unfolding a_block pick find block_before token the words marks numbered reserved signs
block_complete no_block x l = refl
block_complete (block t a n c) x l = refl

-- A statement begins with one of `begins`, and neither `}` nor the end is one.
starts : (s : Statement) (l : List Token) → (first (statement_before s l)).is among begins ≡ B.true
unfolding first statement_before kind_token token begins kinds the words marks numbered reserved signs
starts (empty t) l = refl
starts (braces x m y) l = refl
starts (declaration (int t) b x c) l = refl
starts (declaration (bool t) b x c) l = refl
starts (declaration (float t) b x c) l = refl
starts (initialised (int t) b x q e c) l = refl
starts (initialised (bool t) b x q e c) l = refl
starts (initialised (float t) b x q e c) l = refl
starts (assignment x q e c) l = refl
starts (if_else t x e y s v u) l = refl
starts (while t x e y s) l = refl
starts (scalar t s) l = refl

pub not_closed : (close : String) → the close among begins ≡ B.false → (s : Statement) (l : List Token) → eqb (first (statement_before s l)).is (the close) ≡ B.false
not_closed close h s l = go (eqb (first (statement_before s l)).is (the close)) refl
  where
    go : (b : Bool) → eqb (first (statement_before s l)).is (the close) ≡ b → b ≡ B.false
    go B.true e =
        let same : (first (statement_before s l)).is ≡ the close = eqb-true _ _ e in
        let never : the close among begins ≡ B.true = rw same at (starts s l) in
        cc
    go B.false e = refl

pub opened : (deep : Parse Statement) (s : Statement) (l : List Token) → opening deep (statement_before s l) ≡ deep (statement_before s l)
unfolding opening
opened deep s l = rw (starts s l)

-- How many statements there are; there are at least as many tokens.
unfoldable pub how_many : Statements → ℕ
how_many none_yet = 0
how_many (m ⨾ s) = suc (how_many m)

pub block_longer : (b : BlockPart) (l : List Token) → length l ≤ length (block_before b l)
unfolding block_before
block_longer no_block l = omega arith
block_longer (block t x n y) l = omega arith

mutual
  unfolding how_many statement_before

  pub statement_longer : (s : Statement) (l : List Token) → suc (length l) ≤ length (statement_before s l)
  statement_longer (empty t) l = omega arith
  statement_longer (braces x m y) l = omega (arith, statements_longer m (token y ∷ l))
  statement_longer (declaration k b x c) l = omega (arith, block_longer b (token x ∷ token c ∷ l))
  statement_longer (initialised k b x q e c) l =
      omega (arith, block_longer b (token x ∷ token q ∷ expression_before e (token c ∷ l)), longer e (token c ∷ l))
  statement_longer (assignment x q e c) l = omega (arith, longer e (token c ∷ l))
  statement_longer (if_else t x e y s v u) l =
      omega (arith, longer e (token y ∷ statement_before s (token v ∷ statement_before u l)), statement_longer s (token v ∷ statement_before u l), statement_longer u l)
  statement_longer (while t x e y s) l = omega (arith, longer e (token y ∷ statement_before s l), statement_longer s l)
  statement_longer (scalar t s) l = omega (arith, statement_longer s l)

  pub statements_longer : (m : Statements) (l : List Token) → how_many m + length l ≤ length (statements_before m l)
  statements_longer none_yet l = omega arith
  statements_longer (m ⨾ s) l = omega (arith, statements_longer m (statement_before s l), statement_longer s l)

module _ (K : ℕ) where
  -- The operators of level n, k at most, over operands with room r: all of them, and from e on.
  unfoldable pub loop : (k n r : ℕ) → Parse (Expression n)
  loop k zero r = operands K r
  loop k (suc n) r = grouped K n (operands K r) >>= λ e. repeat k (one_more n (grouped K n (operands K r))) (tighter e)

  unfoldable pub rest : (k n r : ℕ) → Expression n → Parse (Expression n)
  rest k zero r e = give e
  rest k (suc n) r e = repeat k (one_more n (grouped K n (operands K r))) e

  pub loop_is : (n r : ℕ) → loop K n r ≡ grouped K n (operands K r)
  unfolding loop grouped
  loop_is zero r = refl
  loop_is (suc n) r = refl

  -- e is read in as many turns as it has operators, where no operator of a tighter level follows.
  pub record Complete {n : ℕ} (e : Expression n) : Type 0 where
    pub by : (k r : ℕ) (l : List Token) → length (expression_before e l) ≤ K → expression_nesting e ≤ r → clear (first l) (less n) ≡ B.true →
        loop (turns e + k) n r (expression_before e l) ≡ rest k n r e l

  -- Where no operator of the level follows, there is no other turn.
  stops : (k n r : ℕ) (e : Expression n) (l : List Token) → clear (first l) n ≡ B.true → rest k n r e l ≡ ok e l
  unfolding rest one_more first
  stops k zero r e l c = refl
  stops zero (suc n) r e l c = refl
  stops (suc k) (suc n) r e l c = go l c
    where
      go : (l : List Token) → clear (first l) (suc n) ≡ B.true → repeat (suc k) (one_more n (grouped K n (operands K r))) e l ≡ ok e l
      go [] c = refl
      go (t ∷ l) c = rw (clear_none t n c)

  -- The whole of an expression, where no operator of its levels follows; one level deeper.
  module _ {n : ℕ} (e : Expression n) (h : Complete e) (l : List Token) (fits : length (expression_before e l) ≤ K) (c : clear (first l) n ≡ B.true) where
    whole : (r : ℕ) → expression_nesting e ≤ r → grouped K n (operands K r) (expression_before e l) ≡ ok e l
    whole r d =
        let k = K - turns e in
        let all : turns e + k ≡ K = omega (arith, longer e l) in
        let g : loop K n r (expression_before e l) ≡ rest k n r e l = rw all at (h.by k r l fits d (clear_less (first l) n c)) in
        rw (← loop_is n r) (g ∙ stops k n r e l c)

  module _ (e : Expression every_level) (h : Complete e) (l : List Token) (fits : length (expression_before e l) ≤ K) (c : clear (first l) every_level ≡ B.true) where
    deeper_whole : (r : ℕ) → suc (expression_nesting e) ≤ r → deeper_expression K r (expression_before e l) ≡ ok e l
    unfolding deeper_expression expression
    deeper_whole zero d = absurd (omega arith)
    deeper_whole (suc r) d = whole e h l fits c r (omega arith)

  -- One turn.
  turned : {n : ℕ} (k r : ℕ) (e : Expression (suc n)) (o : Operator n) (e' : Expression n) (l : List Token) →
      grouped K n (operands K r) (expression_before e' l) ≡ ok e' l →
      rest (suc k) (suc n) r e (operator_token o ∷ expression_before e' l) ≡ rest k (suc n) r (binary e o e') l
  unfolding rest one_more
  turned k r e o e' l h = rw (found-operator o, h)

  deeper_operand-whole : (e : Expression no_level) (h : Complete e) (l : List Token) → length (expression_before e l) ≤ K → (r : ℕ) → suc (expression_nesting e) ≤ r →
      deeper_operand K r (expression_before e l) ≡ ok e l
  unfolding deeper_operand loop rest less clear
  deeper_operand-whole e h l fits zero d = absurd (omega arith)
  deeper_operand-whole e h l fits (suc r) d = h.by 0 r l fits (omega arith) refl

  pub complete : {n : ℕ} (e : Expression n) → Complete e
  unfolding loop rest turns less expression_before expression_nesting operand pick find one first clear token the words marks numbered reserved signs
  complete (number t) = record { by = λ k r l f d c. rw (operands_is K r) }
  complete (float_number t) = record { by = λ k r l f d c. rw (operands_is K r) }
  complete (true t) = record { by = λ k r l f d c. rw (operands_is K r) }
  complete (false t) = record { by = λ k r l f d c. rw (operands_is K r) }
  complete (name t) = record { by = λ k r l f d c. rw (operands_is K r) }
  complete (current_mask t) = record { by = λ k r l f d c. rw (operands_is K r) }
  complete (parenthesised x e y) = record { by = λ k r l f d c. rw (operands_is K r, deeper_whole e (complete e) (token y ∷ l) (omega arith) refl r d) }
  complete (unary o e) = record { by = λ k r l f d c. rw (operands_is K r, signed o, deeper_operand-whole e (complete e) l (omega arith) r d) }
  complete (binary {n = n} e o e') = record {
    by = λ k r l f d c.
        let one_less : suc (turns e) + k ≡ turns e + suc k = omega arith in
        let short : length (expression_before e' l) ≤ K = omega (arith, longer e (operator_token o ∷ expression_before e' l)) in
        rw one_less (
        (complete e).by (suc k) r (operator_token o ∷ expression_before e' l) f (omega arith) (operator_clear o)
        ∙ turned k r e o e' l (whole e' (complete e') l short c r (omega arith)));
  }
  complete (tighter e) = record { by = λ k r l f d c. rw (whole e (complete e) l f c r d, zero-add) }

  -- An expression before a `;` or a `)`.
  module _ (e : Expression every_level) (r : ℕ) where
    pub expression_complete : (c : The ";") (l : List Token) → length (expression_before e (token c ∷ l)) ≤ K → expression_nesting e ≤ r →
        expression K r (expression_before e (token c ∷ l)) ≡ ok e (token c ∷ l)
    unfolding expression clear first token
    expression_complete c l f d = whole e (complete e) (token c ∷ l) f refl r d

    pub condition_complete : (x : The "(") (y : The ")") (l : List Token) → length (expression_before e (token y ∷ l)) ≤ K → suc (expression_nesting e) ≤ r →
        condition K r (token x ∷ expression_before e (token y ∷ l)) ≡ ok (x, e, y) l
    unfolding condition pick find one clear first token the words marks numbered reserved signs
    condition_complete x y l f d = rw (deeper_whole e (complete e) (token y ∷ l) f refl r d)

  -- A branch or a body.
  pub part_complete : (s : Statement) (l : List Token) → ((r : ℕ) → statement_nesting s ≤ r → statement K r (statement_before s l) ≡ ok s l) → (r : ℕ) → suc (statement_nesting s) ≤ r →
      opening (deeper_statement K r) (statement_before s l) ≡ ok s l
  unfolding deeper_statement
  part_complete s l h zero d = absurd (omega arith)
  part_complete s l h (suc r) d = opened (statement K r) s l ∙ h r (omega arith)

  -- Statement after statement, up to the closing token.
  closes : (close : String) (y : The close) (k : ℕ) (st : Parse Statement) (m : Statements) (l : List Token) →
      repeat k (another close st) m (token y ∷ l) ≡ ok m (token y ∷ l)
  unfolding another first token
  closes close y zero st m l = refl
  closes close y (suc k) st m l = rw (eq-eqb (the close) (the close) refl)

  module _ (m : Statements) (close : String) (y : The close) (l : List Token) (r : ℕ)
      (h : (k : ℕ) → repeat (how_many m + k) (another close (statement K r)) none_yet (statements_before m (token y ∷ l)) ≡ repeat k (another close (statement K r)) m (token y ∷ l))
      (fits : length (statements_before m (token y ∷ l)) ≤ K) where
    many_complete : many K close (statement K r) (statements_before m (token y ∷ l)) ≡ ok m (token y ∷ l)
    unfolding many
    many_complete =
        let k = K - how_many m in
        let all : how_many m + k ≡ K = omega (arith, statements_longer m (token y ∷ l)) in
        let g = h k in
        rw all at g ∙ closes close y k (statement K r) m l

  braced_complete : (m : Statements) (y : The "}") (l : List Token) →
      ((r : ℕ) → statements_nesting m ≤ r → many K "}" (statement K r) (statements_before m (token y ∷ l)) ≡ ok m (token y ∷ l)) →
      (r : ℕ) → suc (statements_nesting m) ≤ r → deeper_statements K r (statements_before m (token y ∷ l)) ≡ ok (m, y) l
  unfolding deeper_statements braced one pick find token the words marks numbered reserved signs
  braced_complete m y l h zero d = absurd (omega arith)
  braced_complete m y l h (suc r) d = rw (h r (omega arith))

  -- A declaration, from its first token on and after it.
  pub kinded : (k : KindWord) (r : ℕ) (l : List Token) → statement K r (kind_token k ∷ l) ≡ declared K r k l
  unfolding statement_over pick find kind_token the words marks numbered reserved signs
  kinded (int t) r l = rw (statement_is K r)
  kinded (bool t) r l = rw (statement_is K r)
  kinded (float t) r l = rw (statement_is K r)

  module _ (r : ℕ) (k : KindWord) (b : BlockPart) (x : The "name") (l : List Token) where
    declaration_complete : (c : The ";") → declared K r k (block_before b (token x ∷ token c ∷ l)) ≡ ok (declaration k b x c) l
    unfolding declared pick find one token the words marks numbered reserved signs
    declaration_complete c = rw (block_complete b x (token c ∷ l))

    initialised_complete : (q : The "=") (e : Expression every_level) (c : The ";") → length (expression_before e (token c ∷ l)) ≤ K → expression_nesting e ≤ r →
        declared K r k (block_before b (token x ∷ token q ∷ expression_before e (token c ∷ l))) ≡ ok (initialised k b x q e c) l
    unfolding declared pick find one token the words marks numbered reserved signs
    initialised_complete q e c f d = rw (block_complete b x (token q ∷ expression_before e (token c ∷ l)), expression_complete e r c l f d)

  -- One more statement.
  more_complete : (m : Statements) (s : Statement) (k r : ℕ) (close : String) (l : List Token) → the close among begins ≡ B.false →
      statement K r (statement_before s l) ≡ ok s l →
      repeat (suc k) (another close (statement K r)) m (statement_before s l) ≡ repeat k (another close (statement K r)) (m ⨾ s) l
  unfolding another
  more_complete m s k r close l n h = rw (not_closed close n s l, h)

  mutual
    unfolding how_many statement_before statement_nesting statement_over pick find one token begins kinds the words marks numbered reserved signs

    pub statement_complete : (s : Statement) (r : ℕ) (l : List Token) → length (statement_before s l) ≤ K → statement_nesting s ≤ r →
        statement K r (statement_before s l) ≡ ok s l
    statement_complete (empty t) r l f d = rw (statement_is K r)
    statement_complete (braces x m y) r l f d =
        let inside : length (statements_before m (token y ∷ l)) ≤ K = omega arith in
        rw (
          statement_is K r,
          braced_complete m y l (λ q g. many_complete m "}" y l q (λ k. statements_complete m k q "}" (token y ∷ l) refl inside g) inside) r d,
        )
    statement_complete (declaration k b x c) r l f d = kinded k r (block_before b (token x ∷ token c ∷ l)) ∙ declaration_complete r k b x l c
    statement_complete (initialised k b x q e c) r l f d =
        let value = token x ∷ token q ∷ expression_before e (token c ∷ l) in
        kinded k r (block_before b value) ∙ initialised_complete r k b x l q e c (omega (arith, block_longer b value)) d
    statement_complete (assignment x q e c) r l f d = rw (statement_is K r, expression_complete e r c l (omega arith) d)
    statement_complete (if_else t x e y s v u) r l f d =
        let after_else = statement_before u l in
        let after_condition = statement_before s (token v ∷ after_else) in
        let short : length after_condition ≤ K = omega (arith, longer e (token y ∷ after_condition)) in
        let shorter : length after_else ≤ K = omega (arith, statement_longer s (token v ∷ after_else)) in
        rw (
          statement_is K r,
          condition_complete e r x y after_condition (omega arith) (omega arith),
          part_complete s (token v ∷ after_else) (λ q g. statement_complete s q (token v ∷ after_else) short g) r (omega arith),
          part_complete u l (λ q g. statement_complete u q l shorter g) r (omega arith),
        )
    statement_complete (while t x e y s) r l f d =
        let after_condition = statement_before s l in
        let short : length after_condition ≤ K = omega (arith, longer e (token y ∷ after_condition)) in
        rw (
          statement_is K r,
          condition_complete e r x y after_condition (omega arith) (omega arith),
          part_complete s l (λ q g. statement_complete s q l short g) r (omega arith),
        )
    statement_complete (scalar t s) r l f d = rw (statement_is K r, part_complete s l (λ q g. statement_complete s q l (omega arith) g) r d)

    pub statements_complete : (m : Statements) (k r : ℕ) (close : String) (l : List Token) → the close among begins ≡ B.false → length (statements_before m l) ≤ K → statements_nesting m ≤ r →
        repeat (how_many m + k) (another close (statement K r)) none_yet (statements_before m l) ≡ repeat k (another close (statement K r)) m l
    statements_complete none_yet k r close l n f d = rw zero-add
    statements_complete (m ⨾ s) k r close l n f d =
        let one_less : suc (how_many m) + k ≡ how_many m + suc k = omega arith in
        let short : length (statement_before s l) ≤ K = omega (arith, statements_longer m (statement_before s l)) in
        rw one_less (statements_complete m (suc k) r close (statement_before s l) n f (omega arith) ∙ more_complete m s k r close l n (statement_complete s r l short (omega arith)))

  -- The tokens of a program parse as that program, given enough turns and levels.
  pub program_complete : (p : Program) (r : ℕ) → length (statements_before p.statements (token p.end ∷ [])) ≤ K → statements_nesting p.statements ≤ r →
      program K r (statements_before p.statements (token p.end ∷ [])) ≡ ok p []
  unfolding program pick find one token begins kinds the words marks numbered reserved signs
  program_complete p r f d =
      rw (many_complete p.statements "end" p.end [] r (λ k. statements_complete p.statements k r "end" (token p.end ∷ []) refl f d) f)
