-- Replies that are due after no lawful history, and lists that are no interleaving.
use Rattle.std.proofs.Common.{◌≡◌, ℕ, zero, suc, ◌<◌, ◌&&◌, ◌||◌, not, Bool, true, false, cond, eqb, List, [], ◌∷◌, length, get_or, refl, sym, ap, ◌∙◌, arith}
use Rattle.std.proofs.lemmas.Bool.{eq-eqb, ne_eqb, true≢false}
use Rattle.std.specs.Prelude.{is_some, slice_index_or}
use Rattle.history.specs.Numbers.{code_of}
use Rattle.history.specs.declared.refusal.Refusal.TheVariants.{AsidInUse, NoSpace, NotFree, Retiring, Walking}
use Rattle.history.specs.declared.event.Event.TheVariants.{Create, Switch}
use Rattle.history.specs.declared.reply.Reply.{Reply}
use Rattle.history.specs.declared.reply.Reply.TheVariants as reply
use Rattle.history.specs.Due.{is_asid_of, Lawful}
use Rattle.history.specs.Harts.{space_of, walk_of}
use Rattle.history.specs.Spaces.{Free, Live, Retires, Status, asid_of, is_free, is_retiring, status_of}
use Rattle.history.specs.Turns.{History}
use Rattle.laws.specs.Kept.{HavePages}
use Rattle.laws.proofs.Asids.{asid_bound, live_hart}
use Rattle.laws.proofs.Causes.{space_there}
use Rattle.counterexamples.specs.ShootdownRuns.{spaces_of_one_home}
use Rattle.counterexamples.specs.WorkedRuns.{refused, two_harts}
use Rattle.harts.specs.Books.{IsDueAfterSome}
use Rattle.harts.specs.Turns.{IsInterleaving, turns_of}
use Rattle.counterexamples.proofs.PremisesMet.{one_home, one_space}

-- the number of a refusal, 0 of any other reply
abbrev number_of : Reply → ℕ
number_of (reply.Refused refusal) = code_of refusal
number_of _ = 0

pub switched : IsDueAfterSome two_harts (Switch 0 0) reply.Ok
switched = ([], tt, tt, refl)

only_live : (H : History) → Lawful two_harts H → status_of H 0 ≡ Live
only_live H lawful =
    let there = space_there two_harts H 0 one_space.asids lawful in
    let is : space_of H 0 ≡ 0 = omega (arith, there) in
    ap (status_of H) (sym is) ∙ live_hart two_harts one_space H 0 lawful (omega arith)

-- what a switch to the space is answered
by_walk : (walking : Bool) → refused Retiring ≡ cond walking (refused Walking) reply.Ok → ⊥
by_walk true is = let numbers = ap number_of is in omega (arith, numbers)
by_walk false is = let numbers = ap number_of is in omega (arith, numbers)

by_status : (status : Status) (walking : Bool) → status ≡ Live
    → refused Retiring ≡ cond (not (not (is_free status))) (refused NoSpace) (cond (is_retiring status) (refused Retiring) (cond walking (refused Walking) reply.Ok)) → ⊥
by_status Live walking live is = by_walk walking is
by_status (Retires order) walking live is = true≢false (ap is_retiring live)
by_status Free walking live is = true≢false (ap is_free live)

pub only_space_retires : ¬ IsDueAfterSome two_harts (Switch 0 0) (refused Retiring)
only_space_retires (H, lawful, pages, is) = by_status (status_of H 0) (is_some (walk_of H 0)) (only_live H lawful) is

-- ASIDs
pub live : IsDueAfterSome spaces_of_one_home (Create 0 1 65536) (refused NotFree)
live = ([], tt, tt, refl)

neither : (a b x y : Bool) → x ≡ false → y ≡ false → ((a && x) || ((b && y) || false)) ≡ false
neither true true x y p q = ap (λ z. z || (y || false)) p ∙ ap (λ z. z || false) q
neither true false x y p q = ap (λ z. z || false) p
neither false true x y p q = ap (λ z. z || false) q
neither false false x y p q = refl

by_asid : (free used : Bool) → used ≡ false → refused AsidInUse ≡ cond (not free) (refused NotFree) (cond used (refused AsidInUse) reply.Ok) → ⊥
by_asid true true unused is = true≢false unused
by_asid true false unused is = let numbers = ap number_of is in omega (arith, numbers)
by_asid false used unused is = let numbers = ap number_of is in omega (arith, numbers)

no_large : (H : History) → Lawful spaces_of_one_home H → HavePages H → (s : ℕ) → s < 2 → eqb (asid_of spaces_of_one_home H s) 65536 ≡ false
no_large H lawful pages s there =
    let bound = asid_bound spaces_of_one_home one_home H s lawful pages there in
    ne_eqb (asid_of spaces_of_one_home H s) 65536 (λ same. omega (arith, bound, same))

pub asid_of_17_bits : ¬ IsDueAfterSome spaces_of_one_home (Create 0 1 65536) (refused AsidInUse)
asid_of_17_bits (H, lawful, pages, is) =
    let unused = neither (not (is_free (status_of H 1))) (not (is_free (status_of H 0))) _ _ (no_large H lawful pages 1 (omega arith)) (no_large H lawful pages 0 (omega arith)) in
    by_asid (is_free (status_of H 1)) (is_asid_of spaces_of_one_home H 65536 2) unused is

-- interleavings
-- a turn is in the list of its owner
own_turn : (caller turn : ℕ) (owners history : List ℕ) → length (turns_of caller (caller ∷ owners) (turn ∷ history)) ≡ suc (length (turns_of caller owners history))
own_turn caller turn owners history =
    ap (λ b. length (cond b (turn ∷ turns_of caller owners history) (turns_of caller owners history))) (eq-eqb caller caller refl)

not_empty : (caller turn : ℕ) (owners history : List ℕ) → [] ≡ turns_of caller (caller ∷ owners) (turn ∷ history) → ⊥
not_empty caller turn owners history none =
    let lengths : 0 ≡ suc (length (turns_of caller owners history)) = ap length none ∙ own_turn caller turn owners history in
    omega (arith, lengths)

-- and in no other list
other_turn : (caller owner turn : ℕ) (owners history : List ℕ) → (owner ≡ caller → ⊥) → turns_of caller (owner ∷ owners) (turn ∷ history) ≡ turns_of caller owners history
other_turn caller owner turn owners history apart =
    ap (λ b. cond b (turn ∷ turns_of caller owners history) (turns_of caller owners history)) (ne_eqb owner caller apart)

pub woven : IsInterleaving {A = ℕ} ((1 ∷ 3 ∷ []) ∷ (2 ∷ []) ∷ []) (1 ∷ 2 ∷ 3 ∷ [])
woven = (0 ∷ 1 ∷ 0 ∷ [], refl, parts) where
  parts : (caller : ℕ) → slice_index_or {A = List ℕ} ((1 ∷ 3 ∷ []) ∷ (2 ∷ []) ∷ []) caller [] ≡ turns_of caller (0 ∷ 1 ∷ 0 ∷ []) (1 ∷ 2 ∷ 3 ∷ [])
  parts zero = refl
  parts (suc zero) = refl
  parts (suc (suc caller)) =
      sym (other_turn (suc (suc caller)) 0 1 (1 ∷ 0 ∷ []) (2 ∷ 3 ∷ []) (λ e. omega (arith, e)) ∙ other_turn (suc (suc caller)) 1 2 (0 ∷ []) (3 ∷ []) (λ e. omega (arith, e))
      ∙ other_turn (suc (suc caller)) 0 3 [] [] (λ e. omega (arith, e)))

two_turns : (a b c : ℕ) → ¬ IsInterleaving {A = ℕ} ((a ∷ []) ∷ []) (b ∷ c ∷ [])
two_turns a b c (owners, same, parts) = by_owners owners same parts where
  by_owners : (owners : List ℕ) → length owners ≡ 2
      → ((caller : ℕ) → slice_index_or ((a ∷ []) ∷ []) caller [] ≡ turns_of caller owners (b ∷ c ∷ [])) → ⊥
  by_owners [] same parts = omega (arith, same)
  by_owners (x ∷ []) same parts = omega (arith, same)
  by_owners (suc x ∷ y ∷ []) same parts = not_empty (suc x) b (y ∷ []) (c ∷ []) (parts (suc x))
  by_owners (zero ∷ suc y ∷ []) same parts =
      not_empty (suc y) c [] [] (parts (suc y) ∙ other_turn (suc y) 0 b (suc y ∷ []) (c ∷ []) (λ e. omega (arith, e)))
  by_owners (zero ∷ zero ∷ []) same parts = let lengths = ap length (parts 0) in omega (arith, lengths)
  by_owners (x ∷ y ∷ z ∷ owners) same parts = omega (arith, same)

pub one_more : ¬ IsInterleaving {A = ℕ} ((1 ∷ []) ∷ []) (1 ∷ 1 ∷ [])
one_more = two_turns 1 1 1

pub one_of_none : ¬ IsInterleaving {A = ℕ} ((1 ∷ []) ∷ []) (1 ∷ 2 ∷ [])
one_of_none = two_turns 1 1 2

pub one_less : ¬ IsInterleaving {A = ℕ} ((1 ∷ 1 ∷ []) ∷ []) (1 ∷ [])
one_less (owners, same, parts) = by_owners owners same (parts 0) where
  by_test : (mine : Bool) → ◌≡◌ {A = List ℕ} (1 ∷ 1 ∷ []) (cond mine (1 ∷ []) []) → ⊥
  by_test true is = let lengths = ap length is in omega (arith, lengths)
  by_test false is = let lengths = ap length is in omega (arith, lengths)

  by_owners : (owners : List ℕ) → length owners ≡ 1 → ◌≡◌ {A = List ℕ} (1 ∷ 1 ∷ []) (turns_of 0 owners (1 ∷ [])) → ⊥
  by_owners [] same is = omega (arith, same)
  by_owners (x ∷ []) same is = by_test (eqb x 0) is
  by_owners (x ∷ y ∷ owners) same is = omega (arith, same)

pub swapped : ¬ IsInterleaving {A = ℕ} ((1 ∷ 2 ∷ []) ∷ []) (2 ∷ 1 ∷ [])
swapped (owners, same, parts) = by_owners owners same (parts 0) where
  by_tests : (first second : Bool) → ◌≡◌ {A = List ℕ} (1 ∷ 2 ∷ []) (cond first (2 ∷ cond second (1 ∷ []) []) (cond second (1 ∷ []) [])) → ⊥
  by_tests true true is = let firsts = ap (λ turns. get_or turns 0 0) is in omega (arith, firsts)
  by_tests true false is = let lengths = ap length is in omega (arith, lengths)
  by_tests false true is = let lengths = ap length is in omega (arith, lengths)
  by_tests false false is = let lengths = ap length is in omega (arith, lengths)

  by_owners : (owners : List ℕ) → length owners ≡ 2 → ◌≡◌ {A = List ℕ} (1 ∷ 2 ∷ []) (turns_of 0 owners (2 ∷ 1 ∷ [])) → ⊥
  by_owners [] same is = omega (arith, same)
  by_owners (x ∷ []) same is = omega (arith, same)
  by_owners (x ∷ y ∷ []) same is = by_tests (eqb x 0) (eqb y 0) is
  by_owners (x ∷ y ∷ z ∷ owners) same is = omega (arith, same)
