-- Reading narrowed tokens: the tree that is read is the narrowed tree.
use mathlib.Core.Path.{◌≡◌, refl, sym, ap, ◌∙◌}
use mathlib.Core.Bool as B
use mathlib.Core.Bool.{Bool, true, false, ◌&&◌}
use mathlib.Core.List.{List, [], ◌∷◌, map}
use mathlib.Core.Option.{Option, none, some}
use Prim.Native.Nat.{ℕ, zero, suc}
use Prim.Native.String.{String}
use native.Mathlib.Omega.{arith}
use lib.Dec.{T, eqb, eqb→eq}
use lib.ListN.{length, get_or, get_or-map}
use Rattle.meaning.specs.declared.Kind.{Kind}
use Rattle.meaning.specs.declared.Kind.TheVariants.{Int as int, Bool as bool, Float as float}
use Rattle.meaning.specs.declared.Refusal.TheVariants.{NotAllowed}
use Rattle.meaning.specs.Codes.{Out, ◌>>=◌, ◌>>◌, give, refuse, repeat, option, lookup, when◌then◌else◌, ◌among◌, nesting_limit}
use Rattle.meaning.specs.Tokens.{Token, end_at, the, words, marks, numbered, reserved, signs}
use Rattle.meaning.specs.Tree as M
use Rattle.meaning.specs.declared.Unary.TheVariants.{Neg as neg, Inv as inv, Not as unary_not}
use Rattle.meaning.specs.declared.Binary.{Binary}
use Rattle.meaning.specs.declared.Binary.TheVariants.{Or as or, Xor as xor, And as and, Eq as eq, Ne as ne, Lt as lt, Gt as gt, Le as le, Ge as ge, Add as add, Sub as sub, Mul as mul}
use Rattle.meaning.specs.Tree.{table, unary_table, levels, Expr, number, float_number, boolean, name, current_mask, unary, binary, Block, Stmt, empty, braces, declare, assign, if_else, while, scalar, Stmts, none_yet, ◌⨾◌}
use Rattle.meaning.specs.Reading.{Reads, After, ◌⇒◌, operator, begins, look, next, choose, expect, as_long, more, binaries, operand, no_room, closed, unaries, expression, parenthesised, block, declaration, assignment, condition, opening, another, sequence, statement_over, statement, read}
use Rattle.laws.specs.Outcomes.{refusal, Beside}
use Rattle.laws.proofs.Outcomes.{both_well, both_followed, both_weaker, both_passed}
use Rattle.lane.specs.Narrow.{is_block}
use Rattle.lane.specs.NarrowTree.{narrow_length, narrow_token, narrow_tokens, narrow_block, narrow_stmt, narrow_stmts}

-- What a token is stays; and all of it, unless it stands after `[`.
module _ (j k : ℕ) (t : Token) where
  same_is : (narrow_token j k t).is ≡ t.is
  unfolding narrow_token
  same_is = go (is_block j k t.is)
    where
      go : (b : Bool) → (when b then (λ _. record { is = t.is; place = t.place; value = narrow_length t.value; spelled = t.spelled }) else λ _. t).is ≡ t.is
      go true = refl
      go false = refl

  same_token : T (B.not (eqb k (the "["))) → narrow_token j k t ≡ t
  unfolding narrow_token is_block
  same_token h = go (eqb j (the "block")) (eqb k (the "[")) _ h
    where
      go : (a b c : Bool) → T (B.not b) → (when a && b && c then (λ _. record { is = t.is; place = t.place; value = narrow_length t.value; spelled = t.spelled }) else λ _. t) ≡ t
      go true true c h = absurd h
      go true false c h = refl
      go false b c h = refl

pub length-narrow_tokens : (j k : ℕ) (ts : List Token) → length (narrow_tokens j k ts) ≡ length ts
unfolding narrow_tokens
length-narrow_tokens j k [] = refl
length-narrow_tokens j k (t ∷ ts) = ap suc (length-narrow_tokens k t.is ts)

-- The end of the text has no value to narrow.
pub end_stays : (j k q : ℕ) → narrow_token j k (end_at q) ≡ end_at q
unfolding narrow_token end_at narrow_length
end_stays j k q = go (is_block j k (the "end"))
  where
    go : (b : Bool) → (when b then (λ _. record { is = the "end"; place = q; value = narrow_length 0; spelled = [] }) else λ _. end_at q) ≡ end_at q
    go true = refl
    go false = refl

-- The token at a position, and the two before it.
kinds : ℕ → ℕ → List Token → List ℕ
kinds j k ts = j ∷ k ∷ map (λ (t : Token). t.is) ts

narrow_at : (j k : ℕ) (ts : List Token) (at : ℕ)
    → get_or (narrow_tokens j k ts) at (end_at 0) ≡ narrow_token (get_or (kinds j k ts) at (the "end")) (get_or (kinds j k ts) (suc at) (the "end")) (get_or ts at (end_at 0))
unfolding narrow_tokens kinds
narrow_at j k [] at = sym (end_stays _ _ 0)
narrow_at j k (t ∷ ts) zero = refl
narrow_at j k (t ∷ ts) (suc at) = narrow_at k t.is ts at

bracket_closes : T (B.not (eqb (the "]") (the "[")))
unfolding the words marks numbered reserved signs
bracket_closes = tt

-- No operator is `[`.
sign-other : (b : Binary) → T (B.not (eqb (the (table b).0) (the "[")))
unfolding table the words marks numbered reserved signs
sign-other or = tt
sign-other xor = tt
sign-other and = tt
sign-other eq = tt
sign-other ne = tt
sign-other lt = tt
sign-other gt = tt
sign-other le = tt
sign-other ge = tt
sign-other add = tt
sign-other sub = tt
sign-other mul = tt

operator-other : (k : ℕ) (os : List Binary) (o : Binary) → operator k os ≡ some o → T (B.not (eqb k (the "[")))
unfolding operator
operator-other k [] o z = let y : ◌≡◌ {A = ℕ} 0 1 = cc in absurd (omega arith)
operator-other k (b ∷ os) o z = go (eqb k (the (table b).0)) refl (operator-other k os o) z
  where
    go : (c : Bool) → eqb k (the (table b).0) ≡ c → (operator k os ≡ some o → T (B.not (eqb k (the "["))))
        → (when c then (λ _. some b) else λ _. lookup (eqb k) (map (λ o. (the (table o).0, o)) os)) ≡ some o → T (B.not (eqb k (the "[")))
    go true e h z = rw (eqb→eq k (the (table b).0) (rw e tt)) (sign-other b)
    go false e h z = h z

module _ (ts : List Token) where
  abbrev thin : List Token
  thin = narrow_tokens (the "end") (the "end") ts

  abbrev full_at : ℕ → Token
  full_at at = get_or ts at (end_at 0)

  abbrev thin_at : ℕ → Token
  thin_at at = get_or thin at (end_at 0)

  -- The token before a position is not `[`.
  abbrev Clear : ℕ → Type 0
  Clear zero = Unit {0}
  Clear (suc at) = T (B.not (eqb (full_at at).is (the "[")))

  is_at : (at : ℕ) → (thin_at at).is ≡ (full_at at).is
  is_at at = ap (λ (t : Token). t.is) (narrow_at (the "end") (the "end") ts at) ∙ same_is _ _ (full_at at)

  kind_before : (at : ℕ) → get_or (kinds (the "end") (the "end") ts) (suc (suc at)) (the "end") ≡ (full_at at).is
  unfolding kinds end_at
  kind_before at = get_or-map (λ (t : Token). t.is) ts at (end_at 0)

  clear_at : (at : ℕ) → Clear at → thin_at at ≡ full_at at
  unfolding kinds the words marks numbered reserved signs
  clear_at zero c = narrow_at (the "end") (the "end") ts zero ∙ same_token _ _ (full_at zero) tt
  clear_at (suc at) c = narrow_at (the "end") (the "end") ts (suc at) ∙ same_token _ _ (full_at (suc at)) (rw (kind_before at) c)

  -- What is read of the narrowed tokens: g of what is read, up to the same position.
  record Read {A : Type 0} (g : A → A) (a : A) (p : ℕ) (a' : A) (p' : ℕ) : Type 0 where
    value : a' ≡ g a
    place : p' ≡ p
    clear : Clear p

  abbrev Reading : {A : Type 0} → (A → A) → Reads A → Reads A → Type 0
  Reading g m m' = (at : ℕ) → Clear at → Beside (Read g) (m at) (m' at)

  module _ {A B : Type 0} {g : A → A} {h : B → B} where
    reading_then : (m m' : Reads A) (f f' : A → Reads B) → Reading g m m' → ((a : A) → Reading h (f a) (f' (g a))) → Reading h (m >>= f) (m' >>= f')
    reading_then m m' f f' r k at c = both_followed f f' (r at c) (λ a p a' p' q. rw (q.value, q.place) (k a p q.clear))

  reading_give : {A : Type 0} (g : A → A) (a : A) → Reading g (give a) (give (g a))
  reading_give g a at c = both_well (record { value = refl; place = refl; clear = c })

  -- The cases of a choice, none of which is `[`.
  data Cases {A : Type 0} (g : A → A) : List (ℕ × After A) → List (ℕ × After A) → Type 0 where
    no_case : Cases g [] []
    case : {n : ℕ} {k k' : After A} {l l' : List (ℕ × After A)} → T (B.not (eqb n (the "["))) → ((t : Token) → Reading g (k t) (k' t)) → Cases g l l' → Cases g ((n, k) ∷ l) ((n, k') ∷ l')

  -- What a choice reads at a token, from what stands beside it.
  abbrev at_token : {A : Type 0} → List Token → ℕ → Token → Option (After A) → Out ℕ A
  at_token us at t o = option (refuse NotAllowed t.place) (λ k. do next us; k t) o at

  reading_choose : {A : Type 0} {g : A → A} {l l' : List (ℕ × After A)} → Cases g l l' → Reading g (choose ts l) (choose thin l')
  unfolding choose look next
  reading_choose {A} {g} cases at c = rw (clear_at at c) (go cases)
    where
      t : Token
      t = full_at at

      pick : (n : ℕ) (k k' : After A) (l l' : List (ℕ × After A)) → T (B.not (eqb n (the "["))) → ((t : Token) → Reading g (k t) (k' t))
          → Beside (Read g) (at_token ts at t (lookup (eqb t.is) l)) (at_token thin at t (lookup (eqb t.is) l')) → (b : Bool) → eqb t.is n ≡ b
          → Beside (Read g) (at_token ts at t (when b then (λ _. some k) else λ _. lookup (eqb t.is) l)) (at_token thin at t (when b then (λ _. some k') else λ _. lookup (eqb t.is) l'))
      pick n k k' l l' other h r true e = h t (suc at) (rw (eqb→eq t.is n (rw e tt)) other)
      pick n k k' l l' other h r false e = r

      go : {l l' : List (ℕ × After A)} → Cases g l l' → Beside (Read g) (at_token ts at t (lookup (eqb t.is) l)) (at_token thin at t (lookup (eqb t.is) l'))
      go no_case = refusal tt
      go (case {n = n} {k = k} {k' = k'} {l = l} {l' = l'} other h cs) = pick n k k' l l' other h (go cs) (eqb t.is n) refl

  reading_expect : (s : String) → T (B.not (eqb (the s) (the "["))) → Reading (λ t. t) (expect ts s) (expect thin s)
  unfolding expect ◌⇒◌
  reading_expect s other = reading_choose (case other (reading_give (λ t. t)) no_case)

  -- Repetition.
  abbrev map-option : {A : Type 0} → (A → A) → Option A → Option A
  map-option g none = none
  map-option g (some a) = some (g a)

  reading_repeat : {A : Type 0} (g : A → A) (k : ℕ) (turn turn' : A → Reads (Option A)) → ((a : A) → Reading (map-option g) (turn a) (turn' (g a))) → (a : A) → Reading g (repeat k turn a) (repeat k turn' (g a))
  reading_repeat g zero turn turn' h a = reading_give g a
  reading_repeat {A} g (suc k) turn turn' h a = reading_then (turn a) (turn' (g a)) _ _ (h a) (go (reading_repeat g k turn turn' h))
    where
      go : ((b : A) → Reading g (repeat k turn b) (repeat k turn' (g b))) → (o : Option A) → Reading g (option (give a) (λ a'. repeat k turn a') o) (option (give (g a)) (λ a'. repeat k turn' a') (map-option g o))
      go r none = reading_give g a
      go r (some b) = r b

  reading_as_long : {A : Type 0} (g : A → A) (turn turn' : A → Reads (Option A)) → ((a : A) → Reading (map-option g) (turn a) (turn' (g a))) → (a : A) → Reading g (as_long ts turn a) (as_long thin turn' (g a))
  unfolding as_long
  reading_as_long g turn turn' h a = rw (length-narrow_tokens (the "end") (the "end") ts) (reading_repeat g (length ts) turn turn' h a)

  -- Expressions are the same.
  abbrev Expressions : Reads Expr → Reads Expr → Type 0
  Expressions = Reading (λ e. e)

  reading_more : (os : List Binary) (m m' : Reads Expr) → Expressions m m' → (e : Expr) → Reading (map-option (λ e. e)) (more ts os m e) (more thin os m' e)
  unfolding more look next
  reading_more os m m' h e at c = rw (clear_at at c) (go (operator (full_at at).is os) refl)
    where
      t : Token
      t = full_at at

      go : (o : Option Binary) → operator t.is os ≡ o → Beside (Read (map-option (λ e. e)))
          (option (give none) (λ o. do next ts; e' ← m; give (some (binary t.place o e e'))) o at)
          (option (give none) (λ o. do next thin; e' ← m'; give (some (binary t.place o e e'))) o at)
      go none z = both_well (record { value = refl; place = refl; clear = c })
      go (some o) z = reading_then m m' _ _ h (λ e'. reading_give (map-option (λ e. e)) (some (binary t.place o e e'))) (suc at) (operator-other t.is os o z)

  reading_binaries : (ls : List (List Binary)) (m m' : Reads Expr) → Expressions m m' → Expressions (binaries ts ls m) (binaries thin ls m')
  unfolding binaries
  reading_binaries [] m m' h = h
  reading_binaries (os ∷ ls) m m' h =
      reading_then (binaries ts ls m) (binaries thin ls m') _ _ (reading_binaries ls m m' h)
      (λ e. reading_as_long (λ e. e) _ _ (λ e. reading_more os (binaries ts ls m) (binaries thin ls m') (reading_binaries ls m m' h) e) e)

  reading_operand : (deep deep' parens parens' : After Expr) → ((t : Token) → Expressions (deep t) (deep' t)) → ((t : Token) → Expressions (parens t) (parens' t)) → Expressions (operand ts deep parens) (operand thin deep' parens')
  unfolding operand ◌⇒◌ unary_table the words marks numbered reserved signs
  reading_operand deep deep' parens parens' h k = reading_choose (
      case tt (λ t. reading_then (deep t) (deep' t) _ _ (h t) (λ e. reading_give (λ e. e) (unary t.place neg e)))
      (case tt (λ t. reading_then (deep t) (deep' t) _ _ (h t) (λ e. reading_give (λ e. e) (unary t.place inv e)))
      (case tt (λ t. reading_then (deep t) (deep' t) _ _ (h t) (λ e. reading_give (λ e. e) (unary t.place unary_not e)))
      (case tt (λ t. reading_give (λ e. e) (number t.value))
      (case tt (λ t. reading_give (λ e. e) (float_number t.value))
      (case tt (λ t. reading_give (λ e. e) (boolean true))
      (case tt (λ t. reading_give (λ e. e) (boolean false))
      (case tt (λ t. reading_give (λ e. e) (name t.place t.spelled))
      (case tt (λ t. reading_give (λ e. e) current_mask)
      (case tt k no_case))))))))))

  reading_no_room : {A : Type 0} (g : A → A) (t : Token) → Reading g (no_room ts t) (no_room thin t)
  unfolding no_room
  reading_no_room g t at c = refusal tt

  reading_closed : (m m' : Reads Expr) → Expressions m m' → (t : Token) → Expressions (closed ts m t) (closed thin m' t)
  unfolding closed the words marks numbered reserved signs
  reading_closed m m' h t = reading_then m m' _ _ h (λ e. reading_then (expect ts ")") (expect thin ")") _ _ (reading_expect ")" tt) (λ u. reading_give (λ e. e) e))

  reading_unaries : (r : ℕ) → Expressions (unaries ts r) (unaries thin r)
  unfolding unaries
  reading_unaries zero = reading_operand _ _ _ _ (reading_no_room (λ e. e)) (reading_no_room (λ e. e))
  reading_unaries (suc r) = reading_operand _ _ _ _ (λ t. reading_unaries r) (reading_closed _ _ (reading_binaries levels _ _ (reading_unaries r)))

  reading_expression : (r : ℕ) → Expressions (expression ts r) (expression thin r)
  unfolding expression
  reading_expression r = reading_binaries levels _ _ (reading_unaries r)

  reading_parenthesised : (r : ℕ) (t : Token) → Expressions (parenthesised ts r t) (parenthesised thin r t)
  unfolding parenthesised
  reading_parenthesised zero t = reading_no_room (λ e. e) t
  reading_parenthesised (suc r) t = reading_closed _ _ (reading_expression r) t

  reading_condition : (r : ℕ) → Expressions (condition ts r) (condition thin r)
  unfolding condition the words marks numbered reserved signs
  reading_condition r = reading_then (expect ts "(") (expect thin "(") _ _ (reading_expect "(" tt) (λ t. reading_parenthesised r t)

  -- A token of one sort, wherever it stands.
  record Taken (s : String) (at : ℕ) (t : Token) (p : ℕ) (t' : Token) (p' : ℕ) : Type 0 where
    this : t ≡ full_at at
    this' : t' ≡ thin_at at
    past : p ≡ suc at
    past' : p' ≡ suc at
    sort : (full_at at).is ≡ the s

  reading_taken : (s : String) (at : ℕ) → Beside (Taken s at) (expect ts s at) (expect thin s at)
  unfolding expect choose look next ◌⇒◌
  reading_taken s at = rw (is_at at) (go (eqb (full_at at).is (the s)) refl)
    where
      go : (b : Bool) → eqb (full_at at).is (the s) ≡ b
          → Beside (Taken s at) (at_token ts at (full_at at) (when b then (λ _. some give) else λ _. none)) (at_token thin at (thin_at at) (when b then (λ _. some give) else λ _. none))
      go true e = both_well (record { this = refl; this' = refl; past = refl; past' = refl; sort = eqb→eq (full_at at).is (the s) (rw e tt) })
      go false e = refusal tt

  -- N in `block[N]` is narrowed.
  block_at : (at : ℕ) → (full_at at).is ≡ the "block" → (full_at (suc at)).is ≡ the "[" → (full_at (suc (suc at))).is ≡ the "number"
      → thin_at (suc (suc at)) ≡ record { is = (full_at (suc (suc at))).is; place = (full_at (suc (suc at))).place; value = narrow_length (full_at (suc (suc at))).value; spelled = (full_at (suc (suc at))).spelled }
  unfolding narrow_token is_block the words marks numbered reserved signs
  block_at at e e' e'' = narrow_at (the "end") (the "end") ts (suc (suc at)) ∙ rw (kind_before at, kind_before (suc at), e, e', e'')

  reading_block : Reading narrow_block (block ts) (block thin)
  unfolding block look next narrow_block
  reading_block at c = rw (clear_at at c) (go (eqb (full_at at).is (the "block")) refl)
    where
      either : List Token → Bool → Reads Block
      either us b = when b then (λ _. do next us; expect us "["; n ← expect us "number"; expect us "]"; give (some (n.value, n.place))) else λ _. give none

      go : (b : Bool) → eqb (full_at at).is (the "block") ≡ b → Beside (Read narrow_block) (either ts b at) (either thin b at)
      go true e =
          let e₀ = eqb→eq (full_at at).is (the "block") (rw e tt) in
          both_followed _ _ (reading_taken "[" (suc at))
          (λ t p t' p' q. rw (q.past, q.past') (both_followed _ _ (reading_taken "number" (suc (suc at)))
          (λ n p n' p' r. rw (r.past, r.past') (both_followed _ _ (reading_taken "]" (suc (suc (suc at))))
          (λ u p u' p' w. let v : ◌≡◌ {A = Block} (some (n'.value, n'.place)) (narrow_block (some (n.value, n.place))) = rw (r.this', block_at at e₀ q.sort r.sort, r.this) in
          let z : Clear (suc (suc (suc (suc at)))) = rw w.sort bracket_closes in
          rw (w.past, w.past') (both_well (record { value = v; place = refl; clear = z })))))))
      go false e = both_well (record { value = refl; place = refl; clear = c })

  -- Statements are narrowed.
  abbrev Statements : Reads Stmt → Reads Stmt → Type 0
  Statements = Reading narrow_stmt

  reading_declaration : (r : ℕ) (k : Kind) (t : Token) → Statements (declaration ts r k t) (declaration thin r k t)
  unfolding declaration ◌⇒◌ narrow_stmt the words marks numbered reserved signs
  reading_declaration r k t =
      reading_then (block ts) (block thin) _ _ reading_block
      (λ b. reading_then (expect ts "name") (expect thin "name") _ _ (reading_expect "name" tt)
      (λ x. reading_choose (
      case tt (λ u. reading_give narrow_stmt (declare t.place k b x.place x.spelled none))
      (case tt (λ q. reading_then (expression ts r) (expression thin r) _ _ (reading_expression r)
      (λ e. reading_then (expect ts ";") (expect thin ";") _ _ (reading_expect ";" tt)
      (λ u. reading_give narrow_stmt (declare t.place k b x.place x.spelled (some (q.place, e))))))
      no_case))))

  reading_assignment : (r : ℕ) (x : Token) → Statements (assignment ts r x) (assignment thin r x)
  unfolding assignment narrow_stmt the words marks numbered reserved signs
  reading_assignment r x =
      reading_then (expect ts "=") (expect thin "=") _ _ (reading_expect "=" tt)
      (λ q. reading_then (expression ts r) (expression thin r) _ _ (reading_expression r)
      (λ e. reading_then (expect ts ";") (expect thin ";") _ _ (reading_expect ";" tt)
      (λ u. reading_give narrow_stmt (assign x.place x.spelled q.place e))))

  reading_opening : (deep deep' : After Stmt) → ((t : Token) → Statements (deep t) (deep' t)) → Statements (opening ts deep) (opening thin deep')
  unfolding opening look
  reading_opening deep deep' h at c =
      rw (clear_at at c) (both_passed ((full_at at).is among begins) ((full_at at).is among begins) NotAllowed (full_at at).place at at _ _ (λ t. t) (λ t. h (full_at at) at c))

  reading_another : (close : String) (m m' : Reads Stmt) → Statements m m' → (l : Stmts) → Reading (map-option narrow_stmts) (another ts close m l) (another thin close m' (narrow_stmts l))
  unfolding another look narrow_stmts
  reading_another close m m' h l at c = rw (clear_at at c) (go (eqb (full_at at).is (the close)))
    where
      either : Stmts → Reads Stmt → Bool → Reads (Option Stmts)
      either l m b = when b then (λ _. give none) else λ _. do s ← m; give (some (l ⨾ s))

      go : (b : Bool) → Beside (Read (map-option narrow_stmts)) (either l m b at) (either (narrow_stmts l) m' b at)
      go true = both_well (record { value = refl; place = refl; clear = c })
      go false = reading_then m m' _ _ h (λ s. reading_give (map-option narrow_stmts) (some (l ⨾ s))) at c

  reading_sequence : (close : String) → T (B.not (eqb (the close) (the "["))) → (m m' : Reads Stmt) → Statements m m' → Reading narrow_stmts (sequence ts close m) (sequence thin close m')
  unfolding sequence narrow_stmts
  reading_sequence close other m m' h =
      reading_then (as_long ts (another ts close m) none_yet) (as_long thin (another thin close m') none_yet) _ _
      (reading_as_long narrow_stmts (another ts close m) (another thin close m') (reading_another close m m' h) none_yet)
      (λ l. reading_then (expect ts close) (expect thin close) _ _ (reading_expect close other) (λ u. reading_give narrow_stmts l))

  reading_statement_over : (r : ℕ) (deep deep' : After Stmt) (braced braced' : After Stmts) → ((t : Token) → Statements (deep t) (deep' t)) → ((t : Token) → Reading narrow_stmts (braced t) (braced' t))
      → Statements (statement_over ts r deep braced) (statement_over thin r deep' braced')
  unfolding statement_over ◌⇒◌ M.kinds narrow_stmt the words marks numbered reserved signs
  reading_statement_over r deep deep' braced braced' h k = reading_choose (
      case tt (λ t. reading_give narrow_stmt (empty t.place))
      (case tt (λ t. reading_then (braced t) (braced' t) _ _ (k t) (λ l. reading_give narrow_stmt (braces t.place l)))
      (case tt (reading_declaration r int)
      (case tt (reading_declaration r bool)
      (case tt (reading_declaration r float)
      (case tt (reading_assignment r)
      (case tt (λ t. reading_then (condition ts r) (condition thin r) _ _ (reading_condition r)
      (λ e. reading_then (opening ts deep) (opening thin deep') _ _ (reading_opening deep deep' h)
      (λ s. reading_then (expect ts "else") (expect thin "else") _ _ (reading_expect "else" tt)
      (λ u. reading_then (opening ts deep) (opening thin deep') _ _ (reading_opening deep deep' h)
      (λ s'. reading_give narrow_stmt (if_else t.place e s s'))))))
      (case tt (λ t. reading_then (condition ts r) (condition thin r) _ _ (reading_condition r)
      (λ e. reading_then (opening ts deep) (opening thin deep') _ _ (reading_opening deep deep' h)
      (λ s. reading_give narrow_stmt (while t.place e s))))
      (case tt (λ t. reading_then (opening ts deep) (opening thin deep') _ _ (reading_opening deep deep' h) (λ s. reading_give narrow_stmt (scalar t.place s)))
      no_case)))))))))

  reading_statement : (r : ℕ) → Statements (statement ts r) (statement thin r)
  unfolding statement the words marks numbered reserved signs
  reading_statement zero = reading_statement_over zero _ _ _ _ (reading_no_room narrow_stmt) (reading_no_room narrow_stmts)
  reading_statement (suc r) = reading_statement_over (suc r) _ _ _ _ (λ t. reading_statement r) (λ t. reading_sequence "}" tt _ _ (reading_statement r))

  -- The tree of the narrowed tokens is the narrowed tree.
  pub reading_read : Beside (λ l p l' p'. l' ≡ narrow_stmts l) (read ts) (read thin)
  unfolding read
  reading_read = both_weaker (reading_sequence "end" tt (statement ts nesting_limit) (statement thin nesting_limit) (reading_statement nesting_limit) zero tt) (λ l p l' p' q. q.value)
