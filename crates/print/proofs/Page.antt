-- A page: its line and its rows, and how long it can be. Assumes nothing.
use Prim.Native.Nat.{ℕ, zero, suc, ◌+◌, ◌*◌, ◌^◌, ◌≤◌, ◌<◌}
use mathlib.Core.Path.{◌≡◌}
use mathlib.Core.List.{List}
use native.Mathlib.Omega.{arith}
use lib.ListN.{length, take, drop, length-append, length-take}
use lib.Seq.{sets-eq, take_at}
use Rattle.meaning.specs.Tokens.{bytes}
use Rattle.meaning.specs.Memory.{Memory, number_of}
use Rattle.meaning.specs.Services.{Answer, answer}
use Rattle.print.specs.Printed.{Printed}
use Rattle.print.specs.Shown.{row_size, held, line, rows, row_count, shown}
use Rattle.print.proofs.Printing.{printed_both}
use Rattle.print.proofs.Numbers.{ten_digits, line-length}
use Rattle.print.proofs.Rows.{hex-length}

-- The numbers p, q, r, s that were read from the answer slice l are the answer that it holds.
pub record Numbers (l : List ℕ) (p q r s : ℕ) : Type 0 where
  pub code : p ≡ number_of (take 4 l)
  pub place : q ≡ number_of (take 4 (drop 4 l))
  pub need : r ≡ number_of (take 4 (drop 8 l))
  pub steps : s ≡ number_of (take 4 (drop 12 l))

pub held_is : {l : List ℕ} {p q r s : ℕ} → Numbers l p q r s → answer p q r s ≡ held l
unfolding held
held_is n = rw (n.code, n.place, n.need, n.steps)

-- A page is as long as its line and its rows.
pub shown-length : (a : Answer) (M : Memory) → length (shown (a, M)) ≡ length (line a) + length (rows (row_count M) M)
unfolding shown
shown-length a M = length-append (line a) (rows (row_count M) M)

-- The line, then the rows.
pub shown_both : (u : Answer) (M : Memory) {a b c : List ℕ} {i j k : ℕ} → Printed a i (line u) b j → Printed b j (rows (row_count M) M) c k → Printed a i (shown (u, M)) c k
unfolding shown
shown_both u M p q = printed_both p q

-- A row has at most two digits for each of its bytes and the byte that ends it, so the page of a memory of at most k rows has at most
-- four numbers of ten digits, each with the byte that ends it, and k such rows.
rows-length : (k : ℕ) (M : Memory) → length (rows k M) ≤ k * (2 * row_size + 1)
unfolding rows bytes
rows-length zero M = omega arith
rows-length (suc k) M = simp length-append (omega (arith, hex-length (take row_size M), length-take row_size M, rows-length k (drop row_size M)))

pub shown-fits : (c p n s : ℕ) (M : Memory) (k : ℕ) → c < 2 ^ 32 → p < 2 ^ 32 → n < 2 ^ 32 → s < 2 ^ 32 → length M ≤ k * row_size
    → length (shown (answer c p n s, M)) ≤ 4 * (10 + 1) + k * (2 * row_size + 1)
unfolding row_count
shown-fits c p n s M k hc hp hn hs short =
    omega (arith, shown-length (answer c p n s) M, line-length c p n s, ten_digits c hc, ten_digits p hp, ten_digits n hn, ten_digits s hs, rows-length (row_count M) M)

-- What is printed from the page's start on is its first bytes.
pub page_start : {a b : List ℕ} {r : ℕ} {u : List ℕ} → Printed a 0 u b r → length u ≤ length a → take r b ≡ u
page_start {a} {b} {r} {u} p room = rw (p.page_is, sets-eq u a 0 (omega arith)) (take_at u (drop (0 + length u) a) r (omega (arith, p.next_is)))
