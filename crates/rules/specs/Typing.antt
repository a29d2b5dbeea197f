-- 001's typing rules (Figure 8), narrowed as document 01 says.
use Rattle.std.specs.Prelude.{ℕ, ◌≡◌, Bool, true, List, [], ◌∷◌, ◌++◌}
use Rattle.std.proofs.Math.Option.{Option, none, some}
use Rattle.meaning.specs.declared.Kind.{Kind}
use Rattle.meaning.specs.declared.Kind.TheVariants.{Int as int, Bool as bool, Float as float}
use Rattle.meaning.specs.Codes.{lookup, ◌among◌, lengths}
use Rattle.meaning.specs.Tokens.{equal}
use Rattle.meaning.specs.declared.Unary.{Unary}
use Rattle.meaning.specs.declared.Binary.{Binary}
use Rattle.meaning.specs.Tree.{Name, Expr, number, float_number, boolean, name, current_mask, unary, binary, Block, Stmt, empty, braces, declare, assign, if_else, while, scalar, Stmts, none_yet, ◌⨾◌}
use Rattle.meaning.specs.Typing.{joined, lanes_or}
use Rattle.rules.specs.Lengths.{Match, Target, Fills}
use Rattle.rules.specs.Operators.{◌takes◌, ◌takes_two◌gives◌}

-- "the declarations of the open scopes": the kind and the length of each name, in text order. 001's Γ.
abbrev pub Names : Type 0
Names = List (Name × (Kind × ℕ))

infix 60 ◌at◌
-- Γ(x), if x is in dom(Γ).
unfoldable pub ◌at◌ : Names → Name → Option (Kind × ℕ)
◌at◌ Γ x = lookup (λ y. equal y x) Γ

-- N is of the list, where there is one.
pub data Listed : Block → Type 0 where
  no_block : Listed none
  block : {b : ℕ × ℕ} → b.0 among lengths ≡ true → Listed (some b)

infix 10 ◌∣◌⊢◌∶⟨◌∣◌⟩
-- Γ ∣ C ⊢ e ∶⟨ k ∣ n ⟩: among the names Γ, in a context of length C, e has the kind k and the length n.
pub data ◌∣◌⊢◌∶⟨◌∣◌⟩ (Γ : Names) (C : ℕ) : Expr → Kind → ℕ → Type 0 where
  -- "Constants have length 1." A float's is known by its pattern.
  t_number : {i : ℕ} → Γ ∣ C ⊢ number i ∶⟨ int ∣ 1 ⟩
  t_float : {i : ℕ} → Γ ∣ C ⊢ float_number i ∶⟨ float ∣ 1 ⟩
  t_boolean : {c : Bool} → Γ ∣ C ⊢ boolean c ∶⟨ bool ∣ 1 ⟩
  -- "A name must have length 1 or C, unless C is 1."
  t_var : {p : ℕ} {x : Name} {k : Kind} {n : ℕ} →
      Γ at x ≡ some (k, n) →
      Match C n →
      -----------------------------
      Γ ∣ C ⊢ name p x ∶⟨ k ∣ n ⟩
  -- "current_mask is bool of length C."
  t_mask : Γ ∣ C ⊢ current_mask ∶⟨ bool ∣ C ⟩
  -- "`-` `~` take int, `!` bool"; document 02, R-2: of floats "unary minus"
  t_unary : {p : ℕ} {o : Unary} {e : Expr} {k : Kind} {n : ℕ} →
      o takes k →
      Γ ∣ C ⊢ e ∶⟨ k ∣ n ⟩ →
      -------------------------------
      Γ ∣ C ⊢ unary p o e ∶⟨ k ∣ n ⟩
  -- "`+ - *` and `< > <= >=` take ints; `== != & | ^` take two of one kind"; document 02, R-2: of floats "`+ - *` .. and all
  -- comparisons", refused "mixed with int". "A binary operator needs equal lengths or one of length 1, which is replicated."
  -- "Comparisons give bool, the others their operands' kind."
  t_binary : {p : ℕ} {o : Binary} {e e' : Expr} {k l : Kind} {n n' : ℕ} →
      o takes_two k gives l →
      Γ ∣ C ⊢ e ∶⟨ k ∣ n ⟩ →
      Γ ∣ C ⊢ e' ∶⟨ k ∣ n' ⟩ →
      Match n n' →
      ---------------------------------------------
      Γ ∣ C ⊢ binary p o e e' ∶⟨ l ∣ joined n n' ⟩

infix 10 ◌∣◌⊢◌⊣◌ ◌∣◌⊢*◌⊣◌
-- Γ ∣ C ⊢ s ⊣ Γ': in a context of length C, s takes the names Γ to Γ'. With ⊢*, a sequence of statements.
mutual
  pub data ◌∣◌⊢◌⊣◌ : Names → ℕ → Stmt → Names → Type 0 where
    -- `;`
    t_skip : {Γ : Names} {C p : ℕ} → Γ ∣ C ⊢ empty p ⊣ Γ
    -- "Braces, branches and bodies are scopes".
    t_scope : {Γ Γ' : Names} {C p : ℕ} {l : Stmts} →
        Γ ∣ C ⊢* l ⊣ Γ' →
        --------------------------
        Γ ∣ C ⊢ braces p l ⊣ Γ
    -- "`t x;` without `block` has length 1". "length neither 1 nor C, where C is above 1" is refused. "redeclaring one that is open
    -- is refused, with no shadowing (001)".
    t_decl : {Γ : Names} {C p q : ℕ} {k : Kind} {b : Block} {x : Name} →
        Listed b →
        Match C (lanes_or 1 b) →
        Γ at x ≡ none →
        -----------------------------------------------------------------------------
        Γ ∣ C ⊢ declare p k b q x none ⊣ Γ ++ ((x, (k, lanes_or 1 b)) ∷ [])
    -- "`t x = e;` without `block` takes the length of e." "The initial value is typed before its name is open."
    t_init : {Γ : Names} {C p q l : ℕ} {k : Kind} {b : Block} {x : Name} {e : ℕ × Expr} →
        Listed b →
        Γ ∣ C ⊢ e.1 ∶⟨ k ∣ l ⟩ →
        Fills l (lanes_or l b) →
        Target C (lanes_or l b) →
        Γ at x ≡ none →
        ---------------------------------------------------------------------------------
        Γ ∣ C ⊢ declare p k b q x (some e) ⊣ Γ ++ ((x, (k, lanes_or l b)) ∷ [])
    -- "The right side has the target's kind, and its length".
    t_assign : {Γ : Names} {C p q n : ℕ} {k : Kind} {x : Name} {e : Expr} →
        Γ at x ≡ some (k, n) →
        Γ ∣ C ⊢ e ∶⟨ k ∣ n ⟩ →
        Target C n →
        ------------------------------
        Γ ∣ C ⊢ assign p x q e ⊣ Γ
    -- ".. or 1 (001, broadcast)".
    t_broadcast : {Γ : Names} {C p q n : ℕ} {k : Kind} {x : Name} {e : Expr} →
        Γ at x ≡ some (k, n) →
        Γ ∣ C ⊢ e ∶⟨ k ∣ 1 ⟩ →
        Target C n →
        ------------------------------
        Γ ∣ C ⊢ assign p x q e ⊣ Γ
    -- "A condition is bool. Its branches or body have context length C if the condition's length is 1, otherwise the condition's
    -- length."
    t_if : {Γ Γ₁ Γ₂ : Names} {C p l : ℕ} {e : Expr} {s t : Stmt} →
        Γ ∣ C ⊢ e ∶⟨ bool ∣ l ⟩ →
        Match C l →
        Γ ∣ joined l C ⊢ s ⊣ Γ₁ →
        Γ ∣ joined l C ⊢ t ⊣ Γ₂ →
        -------------------------------
        Γ ∣ C ⊢ if_else p e s t ⊣ Γ
    t_while : {Γ Γ' : Names} {C p l : ℕ} {e : Expr} {s : Stmt} →
        Γ ∣ C ⊢ e ∶⟨ bool ∣ l ⟩ →
        Match C l →
        Γ ∣ joined l C ⊢ s ⊣ Γ' →
        ---------------------------
        Γ ∣ C ⊢ while p e s ⊣ Γ
    -- "`scalar` makes it 1."
    t_scalar : {Γ Γ' : Names} {C p : ℕ} {s : Stmt} →
        Γ ∣ 1 ⊢ s ⊣ Γ' →
        --------------------------
        Γ ∣ C ⊢ scalar p s ⊣ Γ

  pub data ◌∣◌⊢*◌⊣◌ : Names → ℕ → Stmts → Names → Type 0 where
    t_none : {Γ : Names} {C : ℕ} → Γ ∣ C ⊢* none_yet ⊣ Γ
    t_sequence : {Γ Γ₁ Γ₂ : Names} {C : ℕ} {l : Stmts} {s : Stmt} →
        Γ ∣ C ⊢* l ⊣ Γ₁ →
        Γ₁ ∣ C ⊢ s ⊣ Γ₂ →
        ------------------------
        Γ ∣ C ⊢* l ⨾ s ⊣ Γ₂
