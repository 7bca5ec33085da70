-- Lists of spaces that were left.
use Rattle.std.proofs.Common.{◌≡◌, ◌⊎◌, Bool, true, false, List, [], ◌∷◌, filter, ap, sym, ◌∙◌, refl, inl, inr}
use Rattle.std.specs.Prelude.{cond, nat_le}
use Rattle.watch_engine.specs.declared.left.Left.{Left}
use Rattle.watch_engine.specs.Left.{AnyLeft, EachLeft, added}

pub any_weaker : (P Q : Left → Type 0) → ((l : Left) → P l → Q l) → (left : List Left) → AnyLeft P left → AnyLeft Q left
any_weaker P Q f [] a = absurd a
any_weaker P Q f (l ∷ left) (inl p) = inl (f l p)
any_weaker P Q f (l ∷ left) (inr a) = inr (any_weaker P Q f left a)

pub each_weaker : (P Q : Left → Type 0) → ((l : Left) → P l → Q l) → (left : List Left) → EachLeft P left → EachLeft Q left
each_weaker P Q f [] e = tt
each_weaker P Q f (l ∷ left) e = (f l e.0, each_weaker P Q f left e.1)

-- one of which each fact holds
pub any_with : (P R : Left → Type 0) → (left : List Left) → EachLeft R left → AnyLeft P left → AnyLeft (λ l. P l × R l) left
any_with P R [] e a = absurd a
any_with P R (l ∷ left) e (inl p) = inl (p, e.0)
any_with P R (l ∷ left) e (inr a) = inr (any_with P R left e.1 a)

-- what is so of one is so
pub any_out : (P : Left → Type 0) (A : Type 0) → ((l : Left) → P l → A) → (left : List Left) → AnyLeft P left → A
any_out P A f [] a = absurd a
any_out P A f (l ∷ left) (inl p) = f l p
any_out P A f (l ∷ left) (inr a) = any_out P A f left a

pub any_or : (P Q : Left → Type 0) (A : Type 0) → ((l : Left) → P l → A ⊎ Q l) → (left : List Left) → AnyLeft P left → A ⊎ AnyLeft Q left
any_or P Q A f [] a = absurd a
any_or P Q A f (l ∷ left) (inl p) =
    elim (f l p) [
      | inl a ↦ inl a
      | inr q ↦ inr (inl q)
    ]
any_or P Q A f (l ∷ left) (inr a) =
    elim (any_or P Q A f left a) [
      | inl b ↦ inl b
      | inr q ↦ inr (inr q)
    ]

-- of those that a test leaves
filter-out-at : (P : Left → Type 0) (p : Left → Bool) (l : Left) (left kept : List Left) → (AnyLeft P kept → AnyLeft (λ l. P l × (p l ≡ true)) left) → (b : Bool) → p l ≡ b
    → AnyLeft P (cond b (l ∷ kept) kept) → AnyLeft (λ l. P l × (p l ≡ true)) (l ∷ left)
filter-out-at P p l left kept rest true is (inl h) = inl (h, is)
filter-out-at P p l left kept rest true is (inr a) = inr (rest a)
filter-out-at P p l left kept rest false is a = inr (rest a)

pub filter_out : (P : Left → Type 0) (p : Left → Bool) → (left : List Left) → AnyLeft P (filter p left) → AnyLeft (λ l. P l × (p l ≡ true)) left
filter_out P p [] a = absurd a
filter_out P p (l ∷ left) a = filter-out-at P p l left (filter p left) (filter_out P p left) (p l) refl a

filter-in-at : (P : Left → Type 0) (p : Left → Bool) (l : Left) (left kept : List Left) → (AnyLeft (λ l. P l × (p l ≡ true)) left → AnyLeft P kept) → (b : Bool) → p l ≡ b
    → AnyLeft (λ l. P l × (p l ≡ true)) (l ∷ left) → AnyLeft P (cond b (l ∷ kept) kept)
filter-in-at P p l left kept rest true is (inl h) = inl h.0
filter-in-at P p l left kept rest true is (inr a) = inr (rest a)
filter-in-at P p l left kept rest false is (inl h) = let none = sym h.1 ∙ is in cc
filter-in-at P p l left kept rest false is (inr a) = rest a

pub filter_in : (P : Left → Type 0) (p : Left → Bool) → (left : List Left) → AnyLeft (λ l. P l × (p l ≡ true)) left → AnyLeft P (filter p left)
filter_in P p [] a = absurd a
filter_in P p (l ∷ left) a = filter-in-at P p l left (filter p left) (filter_in P p left) (p l) refl a

filter-each-at : (P : Left → Type 0) (p : Left → Bool) (l : Left) (kept : List Left) → (p l ≡ true → P l) → EachLeft P kept → (b : Bool) → p l ≡ b → EachLeft P (cond b (l ∷ kept) kept)
filter-each-at P p l kept h rest true is = (h is, rest)
filter-each-at P p l kept h rest false is = rest

pub filter_each : (P Q : Left → Type 0) (p : Left → Bool) → ((l : Left) → P l → p l ≡ true → Q l) → (left : List Left) → EachLeft P left → EachLeft Q (filter p left)
filter_each P Q p f [] e = tt
filter_each P Q p f (l ∷ left) e = filter-each-at Q p l (filter p left) (f l e.0) (filter_each P Q p f left e.1) (p l) refl

-- where it leaves each, it leaves the list
pub each_kept : (P : Left → Type 0) (p : Left → Bool) → ((l : Left) → P l → p l ≡ true) → (left : List Left) → EachLeft P left → filter p left ≡ left
each_kept P p f [] e = refl
each_kept P p f (l ∷ left) e = ap (λ b. cond b (l ∷ filter p left) (filter p left)) (f l e.0) ∙ ap (λ ls. l ∷ ls) (each_kept P p f left e.1)

-- with one more
first-at : (P : Left → Type 0) (m : Left) (left : List Left) (l : Left) (b : Bool) → (AnyLeft P left → AnyLeft P (added l left)) → AnyLeft P (m ∷ left) → AnyLeft P (cond b (m ∷ added l left) (l ∷ m ∷ left))
first-at P m left l true rest (inl p) = inl p
first-at P m left l true rest (inr a) = inr (rest a)
first-at P m left l false rest a = inr a

pub any_first : (P : Left → Type 0) (left : List Left) (l : Left) → AnyLeft P left → AnyLeft P (added l left)
any_first P [] l a = absurd a
any_first P (m ∷ left) l a = first-at P m left l (nat_le m.space.root l.space.root) (any_first P left l) a

last-at : (P : Left → Type 0) (m : Left) (left : List Left) (l : Left) (b : Bool) → AnyLeft P (added l left) → P l → AnyLeft P (cond b (m ∷ added l left) (l ∷ m ∷ left))
last-at P m left l true rest p = inr rest
last-at P m left l false rest p = inl p

pub any_last : (P : Left → Type 0) (left : List Left) (l : Left) → P l → AnyLeft P (added l left)
any_last P [] l p = inl p
any_last P (m ∷ left) l p = last-at P m left l (nat_le m.space.root l.space.root) (any_last P left l p) p

pushed-at : (P : Left → Type 0) (m : Left) (left : List Left) (l : Left) (b : Bool) → (AnyLeft P (added l left) → AnyLeft P left ⊎ P l) → AnyLeft P (cond b (m ∷ added l left) (l ∷ m ∷ left)) → AnyLeft P (m ∷ left) ⊎ P l
pushed-at P m left l true rest (inl p) = inl (inl p)
pushed-at P m left l true rest (inr a) =
    elim (rest a) [
      | inl b ↦ inl (inr b)
      | inr p ↦ inr p
    ]
pushed-at P m left l false rest (inl p) = inr p
pushed-at P m left l false rest (inr a) = inl a

pub any_pushed : (P : Left → Type 0) (left : List Left) (l : Left) → AnyLeft P (added l left) → AnyLeft P left ⊎ P l
any_pushed P [] l (inl p) = inr p
any_pushed P [] l (inr a) = absurd a
any_pushed P (m ∷ left) l a = pushed-at P m left l (nat_le m.space.root l.space.root) (any_pushed P left l) a

each-at : (P : Left → Type 0) (m : Left) (left : List Left) (l : Left) (b : Bool) → EachLeft P (m ∷ left) → EachLeft P (added l left) → P l → EachLeft P (cond b (m ∷ added l left) (l ∷ m ∷ left))
each-at P m left l true e rest p = (e.0, rest)
each-at P m left l false e rest p = (p, e)

pub each_pushed : (P : Left → Type 0) (left : List Left) (l : Left) → EachLeft P left → P l → EachLeft P (added l left)
each_pushed P [] l e p = (p, tt)
each_pushed P (m ∷ left) l e p = each-at P m left l (nat_le m.space.root l.space.root) e (each_pushed P left l e.1 p) p

-- one of them
pub record Member (P : Left → Type 0) (left : List Left) : Type 1 where
  pub one : Left
  pub has : P one
  pub among : (Q : Left → Type 0) → Q one → AnyLeft Q left

pub any_member : (P : Left → Type 0) (left : List Left) → AnyLeft P left → Member P left
any_member P [] a = absurd a
any_member P (l ∷ left) (inl p) = record { one = l; has = p; among = λ Q q. inl q }
any_member P (l ∷ left) (inr a) = let m = any_member P left a in record { one = m.one; has = m.has; among = λ Q q. inr (m.among Q q) }
