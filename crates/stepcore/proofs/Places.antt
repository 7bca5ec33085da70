-- The places of the mailboxes: each pair of numbers has its own, and those of the first n harts
-- take the first n * n.
use Rattle.std.proofs.Common.{◌≡◌, ℕ, zero, suc, ◌+◌, ◌*◌, ◌<◌, ◌≤◌, cond, length, refl, ap, inl, inr, ◌⊎◌, arith, le_trans, mul-le-mul_left, mul-le-mul_right, ⊎_elim}
use Rattle.std.specs.Prelude.{nat_lt}
use Rattle.std.proofs.lemmas.Bool.{ltb-true, ltb-false}
use Rattle.laws.proofs.Tools.{by_test}
use Rattle.stepcore.specs.State.{State, IsMachine, mailbox_index}

square_grows : (a b : ℕ) → a ≤ b → a * a ≤ b * b
square_grows a b le = le_trans (mul-le-mul_left a le) (mul-le-mul_right b le)

-- the square of the next number
square_next : (a : ℕ) → suc a * suc a ≡ suc (a * a + a + a)
square_next a = omega arith

-- the place of a pair of numbers, by which of them is less
by_less : (P : ℕ → Type 0) (s h : ℕ) → (s < h → P (h * h + s)) → (h ≤ s → P (s * s + s + h)) → P (mailbox_index s h)
by_less P s h below above = by_test (λ t. P (cond t (h * h + s) (s * s + s + h))) (nat_lt s h) (λ e. below (ltb-true s h e)) (λ e. above (ltb-false s h e))

pub place_below : (n s h : ℕ) → s < n → h < n → mailbox_index s h < n * n
place_below n s h ls lh =
    by_less (λ place. place < n * n) s h
    (λ less. omega (arith, less, square_grows (suc h) n lh, square_next h))
    (λ least. omega (arith, least, square_grows (suc s) n ls, square_next s))

-- two places in the rings of two numbers are those of one number
same_ring : (m k i j : ℕ) → m * m + i ≡ k * k + j → i ≤ m + m → j ≤ k + k → m ≡ k
same_ring m k i j e li lj =
    ⊎_elim
    (λ (less : m < k). absurd (omega (arith, less, square_grows (suc m) k less, square_next m)))
    (⊎_elim (λ (same : m ≡ k). same)
    (λ (more : k < m). absurd (omega (arith, more, square_grows (suc k) m more, square_next k))))
    (three m k)
  where
    three : (a b : ℕ) → (a < b) ⊎ ((a ≡ b) ⊎ (b < a))
    three zero zero = inr (inl refl)
    three zero (suc b) = inl (omega arith)
    three (suc a) zero = inr (inr (omega arith))
    three (suc a) (suc b) =
        ⊎_elim (λ (l : a < b). inl (omega (arith, l)))
        (⊎_elim (λ (s : a ≡ b). inr (inl (ap suc s))) (λ (g : b < a). inr (inr (omega (arith, g)))))
        (three a b)

-- two pairs of numbers have different places
pub same_place : (a b s h : ℕ) → mailbox_index a b ≡ mailbox_index s h → (a ≡ s) × (b ≡ h)
same_place a b s h =
    by_less (λ place. place ≡ mailbox_index s h → (a ≡ s) × (b ≡ h)) a b
    (λ ab. by_less (λ place. b * b + a ≡ place → (a ≡ s) × (b ≡ h)) s h
    (λ sh e. let m = same_ring b h a s e (omega (arith, ab)) (omega (arith, sh)) in
    (omega (arith, ap (λ (n : ℕ). n * n) m), m))
    (λ hs e. let m = same_ring b s a (s + h) (omega (arith, e)) (omega (arith, ab)) (omega (arith, hs)) in
    absurd (omega (arith, ap (λ (n : ℕ). n * n) m, m, ab))))
    (λ ba. by_less (λ place. a * a + a + b ≡ place → (a ≡ s) × (b ≡ h)) s h
    (λ sh e. let m = same_ring a h (a + b) s (omega (arith, e)) (omega (arith, ba)) (omega (arith, sh)) in
    absurd (omega (arith, ap (λ (n : ℕ). n * n) m, m, sh)))
    (λ hs e. let m = same_ring a s (a + b) (s + h) (omega (arith, e)) (omega (arith, ba)) (omega (arith, hs)) in
    (m, omega (arith, ap (λ (n : ℕ). n * n) m, m))))

-- each pair of harts has a mailbox
pub place_in : (m : State) → IsMachine m → (s h : ℕ) → s < length m.harts → h < length m.harts → mailbox_index s h < length m.mailboxes
place_in m is s h ls lh = rw is.mailboxes (place_below (length m.harts) s h ls lh)
