-- A derivation that nests deeper than the room is refused as too deep.
use Prim.Native.Nat.{ℕ, zero, suc, ◌+◌, ◌-◌, ◌≤◌, ◌<◌, max}
use Prim.Native.String.{String}
use mathlib.Core.Path.{◌≡◌, refl}
use mathlib.Core.Bool as B
use mathlib.Core.List.{List, [], ◌∷◌}
use native.Mathlib.Omega.{arith}
use native.Mathlib.Decide.{dec_lt}
use lib.ListN.{length}
use Rattle.meaning.specs.declared.Refusal.TheVariants.{TooDeep}
use Rattle.meaning.specs.Codes.{Out, refused, Doing, after, repeat, ◌among◌}
use Rattle.meaning.specs.Tokens.{Token, the, words, marks, numbered, reserved, signs}
use Rattle.meaning.specs.Tree.{kinds}
use Rattle.meaning.specs.Reading.{begins}
use Rattle.grammar.specs.Grammar.{The, every_level, no_level, Operator, Expression, number, float_number, true, false, name, current_mask, parenthesised, unary, binary, tighter, KindWord, BlockPart, Statement, empty, braces, declaration, initialised, assignment, if_else, while, scalar, Statements, none_yet, ◌⨾◌, Program, token, operator_token, expression_nesting, statement_nesting, statements_nesting}
use Rattle.grammar.proofs.Written.{expression_before, block_before, statement_before, statements_before}
use Rattle.grammar.proofs.Parse.{find, pick, one, first, one_more, grouped, operand, operands, expression, deeper_operand, deeper_expression, operands_is, condition, declared, opening, another, many, braced, statement_over, statement, deeper_statement, deeper_statements, statement_is, program}
use Rattle.grammar.proofs.Complete.{found-operator, clear, operator_clear, less, clear_less, turns, longer, loop, rest, loop_is, complete, signed, block_complete, kinded, condition_complete, part_complete, opened, not_closed, how_many, block_longer, statement_longer, statements_longer, statement_complete, statements_complete}

-- An outcome that is refusal 4, at some place.
pub record IsTooDeep {S A : Type 0} (o : Out S A) : Type 0 where
  pub place : ℕ
  pub is : o ≡ refused TooDeep place

pub stays_deep : {S A C : Type 0} {o : Out S A} (f : A → Doing S C) → IsTooDeep o → IsTooDeep (after o f)
stays_deep f h = record { place = h.place; is = rw h.is }

at_once : {S A : Type 0} → IsTooDeep {S = S} {A = A} (refused TooDeep 0)
at_once = record { place = 0; is = refl }

module _ (K : ℕ) where
  -- e is refused where it nests deeper than the room.
  record Deep {n : ℕ} (e : Expression n) : Type 0 where
    by : (k r : ℕ) (l : List Token) → length (expression_before e l) ≤ K → r < expression_nesting e → clear (first l) (less n) ≡ B.true →
        IsTooDeep (loop K (turns e + k) n r (expression_before e l))

  module _ {n : ℕ} (e : Expression n) (h : Deep e) (l : List Token) (fits : length (expression_before e l) ≤ K) (c : clear (first l) n ≡ B.true) where
    whole_deep : (r : ℕ) → r < expression_nesting e → IsTooDeep (grouped K n (operands K r) (expression_before e l))
    whole_deep r d =
        let k = K - turns e in
        let all : turns e + k ≡ K = omega (arith, longer e l) in
        let g : IsTooDeep (loop K K n r (expression_before e l)) = rw all at (h.by k r l fits d (clear_less (first l) n c)) in
        rw (← loop_is K n r) g

  deeper_deep : (e : Expression every_level) → Deep e → (l : List Token) → length (expression_before e l) ≤ K → clear (first l) every_level ≡ B.true →
      (r : ℕ) → r < suc (expression_nesting e) → IsTooDeep (deeper_expression K r (expression_before e l))
  unfolding deeper_expression expression
  deeper_deep e h l fits c zero d = at_once
  deeper_deep e h l fits c (suc r) d = whole_deep e h l fits c r (omega arith)

  operand_deep : (e : Expression no_level) → Deep e → (l : List Token) → length (expression_before e l) ≤ K → (r : ℕ) → r < suc (expression_nesting e) →
      IsTooDeep (deeper_operand K r (expression_before e l))
  unfolding deeper_operand loop less clear
  operand_deep e h l fits zero d = at_once
  operand_deep e h l fits (suc r) d = h.by 0 r l fits (omega arith) refl

  turn_deep : {n : ℕ} (k r : ℕ) (e : Expression (suc n)) (o : Operator n) (e' : Expression n) (l : List Token) →
      IsTooDeep (grouped K n (operands K r) (expression_before e' l)) → IsTooDeep (rest K (suc k) (suc n) r e (operator_token o ∷ expression_before e' l))
  unfolding rest one_more
  turn_deep k r e o e' l h = rw (found-operator o) (stays_deep _ (stays_deep _ h))

  binary_deep : {n : ℕ} (e : Expression (suc n)) (o : Operator n) (e' : Expression n) → Deep e → Deep e' → Deep (binary e o e')
  unfolding turns less expression_before expression_nesting first
  binary_deep {n} e o e' h h' = record {
    by = λ k r l f d c.
        let one_less : suc (turns e) + k ≡ turns e + suc k = omega arith in
        rw one_less (go k r l f d c (dec_lt r (expression_nesting e)));
  }
    where
      go : (k r : ℕ) (l : List Token) → length (expression_before (binary e o e') l) ≤ K → r < expression_nesting (binary e o e') → clear (first l) n ≡ B.true →
          Dec (r < expression_nesting e) → IsTooDeep (loop K (turns e + suc k) (suc n) r (expression_before (binary e o e') l))
      go k r l f d c (yes g) = h.by (suc k) r (operator_token o ∷ expression_before e' l) f g (operator_clear o)
      go k r l f d c (no g) =
          let right = operator_token o ∷ expression_before e' l in
          let short : length (expression_before e' l) ≤ K = omega (arith, longer e right) in
          rw ((complete K e).by (suc k) r right f (omega (arith, g)) (operator_clear o)) (turn_deep k r e o e' l (whole_deep e' h' l short c r (omega (arith, g))))

  deep : {n : ℕ} (e : Expression n) → Deep e
  unfolding loop rest turns less expression_before expression_nesting operand pick find one first clear token the words marks numbered reserved signs
  deep (number t) = record { by = λ k r l f d c. absurd (omega arith) }
  deep (float_number t) = record { by = λ k r l f d c. absurd (omega arith) }
  deep (true t) = record { by = λ k r l f d c. absurd (omega arith) }
  deep (false t) = record { by = λ k r l f d c. absurd (omega arith) }
  deep (name t) = record { by = λ k r l f d c. absurd (omega arith) }
  deep (current_mask t) = record { by = λ k r l f d c. absurd (omega arith) }
  deep (parenthesised x e y) = record { by = λ k r l f d c. rw (operands_is K r) (stays_deep _ (deeper_deep e (deep e) (token y ∷ l) (omega arith) refl r d)) }
  deep (unary o e) = record { by = λ k r l f d c. rw (operands_is K r, signed o) (stays_deep _ (operand_deep e (deep e) l (omega arith) r d)) }
  deep (binary e o e') = binary_deep e o e' (deep e) (deep e')
  deep (tighter e) = record { by = λ k r l f d c. stays_deep _ (whole_deep e (deep e) l f c r d) }

  -- A condition, and a right side.
  condition_deep : (e : Expression every_level) (x : The "(") (y : The ")") (l : List Token) → length (expression_before e (token y ∷ l)) ≤ K → (r : ℕ) →
      r < suc (expression_nesting e) → IsTooDeep (condition K r (token x ∷ expression_before e (token y ∷ l)))
  unfolding condition pick find one clear first token the words marks numbered reserved signs
  condition_deep e x y l f r d = stays_deep _ (deeper_deep e (deep e) (token y ∷ l) f refl r d)

  expression_deep : (e : Expression every_level) (c : The ";") (l : List Token) → length (expression_before e (token c ∷ l)) ≤ K → (r : ℕ) →
      r < expression_nesting e → IsTooDeep (expression K r (expression_before e (token c ∷ l)))
  unfolding expression clear first token
  expression_deep e c l f r d = whole_deep e (deep e) (token c ∷ l) f refl r d

  initialised_deep : (k : KindWord) (b : BlockPart) (x : The "name") (q : The "=") (e : Expression every_level) (c : The ";") (l : List Token) →
      length (expression_before e (token c ∷ l)) ≤ K → (r : ℕ) → r < expression_nesting e →
      IsTooDeep (declared K r k (block_before b (token x ∷ token q ∷ expression_before e (token c ∷ l))))
  unfolding declared pick find one token the words marks numbered reserved signs
  initialised_deep k b x q e c l f r d = rw (block_complete b x (token q ∷ expression_before e (token c ∷ l))) (stays_deep _ (expression_deep e c l f r d))

  -- A branch or a body, and statements in braces.
  part_deep : (s : Statement) (l : List Token) → ((r : ℕ) → r < statement_nesting s → IsTooDeep (statement K r (statement_before s l))) → (r : ℕ) →
      r < suc (statement_nesting s) → IsTooDeep (opening (deeper_statement K r) (statement_before s l))
  unfolding deeper_statement
  part_deep s l h zero d = rw (opened (deeper_statement K zero) s l) at_once
  part_deep s l h (suc r) d = rw (opened (statement K r) s l) (h r (omega arith))

  module _ (m : Statements) (close : String) (l : List Token) (r : ℕ)
      (h : (k : ℕ) → IsTooDeep (repeat (how_many m + k) (another close (statement K r)) none_yet (statements_before m l))) (fits : length (statements_before m l) ≤ K) where
    many_deep : IsTooDeep (many K close (statement K r) (statements_before m l))
    unfolding many
    many_deep =
        let k = K - how_many m in
        let all : how_many m + k ≡ K = omega (arith, statements_longer m l) in
        rw all at (h k)

  braced_deep : (m : Statements) (l : List Token) → ((r : ℕ) → r < statements_nesting m → IsTooDeep (many K "}" (statement K r) (statements_before m l))) → (r : ℕ) →
      r < suc (statements_nesting m) → IsTooDeep (deeper_statements K r (statements_before m l))
  unfolding deeper_statements braced
  braced_deep m l h zero d = at_once
  braced_deep m l h (suc r) d = stays_deep _ (h r (omega arith))

  more_deep : (m : Statements) (s : Statement) (k r : ℕ) (close : String) (l : List Token) → the close among begins ≡ B.false →
      IsTooDeep (statement K r (statement_before s l)) → IsTooDeep (repeat (suc k) (another close (statement K r)) m (statement_before s l))
  unfolding another
  more_deep m s k r close l n h = rw (not_closed close n s l) (stays_deep _ (stays_deep _ h))

  -- `if` and `while`: the condition is too deep, or else a branch.
  module _ (r : ℕ) (x : The "(") (e : Expression every_level) (y : The ")") (s : Statement) where
    while_deep : (t : The "while") (l : List Token) → length (expression_before e (token y ∷ statement_before s l)) ≤ K → r < max (suc (expression_nesting e)) (suc (statement_nesting s)) →
        ((r : ℕ) → r < statement_nesting s → IsTooDeep (statement K r (statement_before s l))) →
        IsTooDeep (statement K r (statement_before (while t x e y s) l))
    unfolding statement_before statement_over pick find token the words marks numbered reserved signs
    while_deep t l f d h = rw (statement_is K r) (go (dec_lt r (suc (expression_nesting e))))
      where
        go : Dec (r < suc (expression_nesting e)) → IsTooDeep (statement_over K r (deeper_statement K r) (deeper_statements K r) (statement_before (while t x e y s) l))
        go (yes g) = stays_deep _ (condition_deep e x y (statement_before s l) f r g)
        go (no g) = rw (condition_complete K e r x y (statement_before s l) f (omega (arith, g))) (stays_deep _ (part_deep s l h r (omega (arith, g))))

    if_deep : (t : The "if") (v : The "else") (u : Statement) (l : List Token) →
        length (expression_before e (token y ∷ statement_before s (token v ∷ statement_before u l))) ≤ K →
        r < max (suc (expression_nesting e)) (max (suc (statement_nesting s)) (suc (statement_nesting u))) →
        ((r : ℕ) → r < statement_nesting s → IsTooDeep (statement K r (statement_before s (token v ∷ statement_before u l)))) →
        ((r : ℕ) → r < statement_nesting u → IsTooDeep (statement K r (statement_before u l))) →
        IsTooDeep (statement K r (statement_before (if_else t x e y s v u) l))
    unfolding statement_before statement_over pick find one token the words marks numbered reserved signs
    if_deep t v u l f d h h' = rw (statement_is K r) (go (dec_lt r (suc (expression_nesting e))) (dec_lt r (suc (statement_nesting s))))
      where
        second : List Token
        second = token v ∷ statement_before u l

        go : Dec (r < suc (expression_nesting e)) → Dec (r < suc (statement_nesting s)) →
            IsTooDeep (statement_over K r (deeper_statement K r) (deeper_statements K r) (statement_before (if_else t x e y s v u) l))
        go (yes g) g' = stays_deep _ (condition_deep e x y (statement_before s second) f r g)
        go (no g) (yes g') = rw (condition_complete K e r x y (statement_before s second) f (omega (arith, g))) (stays_deep _ (part_deep s second h r g'))
        go (no g) (no g') =
            let short : length (statement_before s second) ≤ K = omega (arith, longer e (token y ∷ statement_before s second)) in
            rw (
              condition_complete K e r x y (statement_before s second) f (omega (arith, g)),
              part_complete K s second (λ q i. statement_complete K s q second short i) r (omega (arith, g')),
            ) (stays_deep _ (part_deep u l h' r (omega (arith, g, g'))))

  sequence_deep : (m : Statements) (s : Statement) (k r : ℕ) (close : String) (l : List Token) → the close among begins ≡ B.false →
      length (statements_before (m ⨾ s) l) ≤ K → r < statements_nesting (m ⨾ s) →
      (r < statements_nesting m → IsTooDeep (repeat (how_many m + suc k) (another close (statement K r)) none_yet (statements_before (m ⨾ s) l))) →
      (r < statement_nesting s → IsTooDeep (statement K r (statement_before s l))) →
      IsTooDeep (repeat (how_many (m ⨾ s) + k) (another close (statement K r)) none_yet (statements_before (m ⨾ s) l))
  unfolding how_many statements_before statements_nesting
  sequence_deep m s k r close l n f d h h' =
      let one_less : suc (how_many m) + k ≡ how_many m + suc k = omega arith in
      rw one_less (go (dec_lt r (statements_nesting m)))
    where
      go : Dec (r < statements_nesting m) → IsTooDeep (repeat (how_many m + suc k) (another close (statement K r)) none_yet (statements_before (m ⨾ s) l))
      go (yes g) = h g
      go (no g) = rw (statements_complete K m (suc k) r close (statement_before s l) n f (omega (arith, g))) (more_deep m s k r close l n (h' (omega (arith, g))))

  mutual
    unfolding how_many statement_before statement_nesting statement_over pick find one token begins kinds the words marks numbered reserved signs

    statement_deep : (s : Statement) (r : ℕ) (l : List Token) → length (statement_before s l) ≤ K → r < statement_nesting s → IsTooDeep (statement K r (statement_before s l))
    statement_deep (empty t) r l f d = absurd (omega arith)
    statement_deep (braces x m y) r l f d =
        let inside : length (statements_before m (token y ∷ l)) ≤ K = omega arith in
        rw (statement_is K r)
        (stays_deep _ (braced_deep m (token y ∷ l) (λ q g. many_deep m "}" (token y ∷ l) q (λ k. statements_deep m k q "}" (token y ∷ l) refl inside g) inside) r d))
    statement_deep (declaration k b x c) r l f d = absurd (omega arith)
    statement_deep (initialised k b x q e c) r l f d =
        let value = token x ∷ token q ∷ expression_before e (token c ∷ l) in
        rw (kinded K k r (block_before b value)) (initialised_deep k b x q e c l (omega (arith, block_longer b value)) r d)
    statement_deep (assignment x q e c) r l f d = rw (statement_is K r) (stays_deep _ (expression_deep e c l (omega arith) r d))
    statement_deep (if_else t x e y s v u) r l f d =
        let second = statement_before u l in
        let first_branch = statement_before s (token v ∷ second) in
        let short : length first_branch ≤ K = omega (arith, longer e (token y ∷ first_branch)) in
        let shorter : length second ≤ K = omega (arith, statement_longer s (token v ∷ second)) in
        if_deep r x e y s t v u l (omega arith) d (λ q g. statement_deep s q (token v ∷ second) short g) (λ q g. statement_deep u q l shorter g)
    statement_deep (while t x e y s) r l f d =
        let short : length (statement_before s l) ≤ K = omega (arith, longer e (token y ∷ statement_before s l)) in
        while_deep r x e y s t l (omega arith) d (λ q g. statement_deep s q l short g)
    statement_deep (scalar t s) r l f d = rw (statement_is K r) (stays_deep _ (part_deep s l (λ q g. statement_deep s q l (omega arith) g) r d))

    statements_deep : (m : Statements) (k r : ℕ) (close : String) (l : List Token) → the close among begins ≡ B.false → length (statements_before m l) ≤ K →
        r < statements_nesting m → IsTooDeep (repeat (how_many m + k) (another close (statement K r)) none_yet (statements_before m l))
    statements_deep none_yet k r close l n f d = absurd (omega arith)
    statements_deep (m ⨾ s) k r close l n f d =
        let short : length (statement_before s l) ≤ K = omega (arith, statements_longer m (statement_before s l)) in
        sequence_deep m s k r close l n f d
        (λ g. statements_deep m (suc k) r close (statement_before s l) n f g)
        (λ g. statement_deep s r l short g)

  -- The tokens of a program that nests deeper than r are refused as too deep where r levels may open.
  pub program_deep : (p : Program) (r : ℕ) → length (statements_before p.statements (token p.end ∷ [])) ≤ K → r < statements_nesting p.statements →
      IsTooDeep (program K r (statements_before p.statements (token p.end ∷ [])))
  unfolding program begins kinds the words marks numbered reserved signs
  program_deep p r f d =
      let l = token p.end ∷ [] in
      stays_deep _ (many_deep p.statements "end" l r (λ k. statements_deep p.statements k r "end" l refl f d) f)
