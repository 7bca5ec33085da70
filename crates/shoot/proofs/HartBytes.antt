-- What bytes and tests say of sets of harts.
use Rattle.std.proofs.Common.{◌≡◌, ◌∙◌, sym, ap, refl, ℕ, zero, suc, ◌<◌, Bool, true, false, not, ◌&&◌, ◌↔◌, List, [], ◌∷◌, length, IsTrue, arith, eqb}
use Rattle.std.proofs.lemmas.Bool.{and_parts}
use Rattle.std.proofs.lemmas.List.Folds.{list_all-map}
use Rattle.std.specs.List.{list_all}
use Rattle.std.specs.Int.{bit_at}
use Rattle.shoot.specs.HartSet.{all_harts, contains, harts_where, byte_of, difference}
use Rattle.shoot.specs.Tickets.{is_done}
use Rattle.pte.specs.declared.TheConstants.{MAX_HARTS}
use Rattle.shoot.specs.declared.tickets.Ticket.{Ticket}
use Rattle.shoot.proofs.HartBits.{all_pass, pass_all}
use Rattle.shoot.proofs.HartSets.{contains_where}

-- ---- tests of all lists of a length

all_lists : ℕ → (List Bool → Bool) → Bool
all_lists zero test = test []
all_lists (suc count) test = all_lists count (λ bits. test (true ∷ bits)) && all_lists count (λ bits. test (false ∷ bits))

of_all_lists : (count : ℕ) (test : List Bool → Bool) → all_lists count test ≡ true → (bits : List Bool) → length bits ≡ count → test bits ≡ true
unfolding all_lists
of_all_lists zero test h [] e = h
of_all_lists zero test h (bit ∷ bits) e = absurd (omega arith)
of_all_lists (suc count) test h [] e = absurd (omega arith)
of_all_lists (suc count) test h (true ∷ bits) e = of_all_lists count (λ more. test (true ∷ more)) (and_parts _ _ h).0 bits (omega arith)
of_all_lists (suc count) test h (false ∷ bits) e = of_all_lists count (λ more. test (false ∷ more)) (and_parts _ _ h).1 bits (omega arith)

-- ---- bytes

agree : Bool → Bool → Bool
agree true b = b
agree false b = not b

agree-same : (a b : Bool) → agree a b ≡ true → a ≡ b
unfolding agree
agree-same true true e = refl
agree-same true false e = absurd cc
agree-same false true e = absurd cc
agree-same false false e = refl

bits_agree : List Bool → Bool
bits_agree bits = list_all (λ hart. agree (eqb (bit_at (byte_of bits) hart) 1) (contains bits hart)) all_harts

every_bit : all_lists MAX_HARTS bits_agree ≡ true
unfolding all_lists bits_agree agree byte_of
every_bit = refl

byte_read : (set : List Bool) → byte_of (harts_where (contains set)) ≡ byte_of set
unfolding byte_of
byte_read set = refl

-- bit h of the byte of a set says whether hart h is in the set
pub bit_told : (set : List Bool) (hart : ℕ) → hart < MAX_HARTS → eqb (bit_at (byte_of set) hart) 1 ≡ contains set hart
unfolding bits_agree
bit_told set hart below =
    let bits = harts_where (contains set) in
    let all : bits_agree bits ≡ true = of_all_lists MAX_HARTS bits_agree every_bit bits refl in
    let here = agree-same _ _ (all_pass (λ n. agree (eqb (bit_at (byte_of bits) n) 1) (contains bits n)) 0 MAX_HARTS all hart (omega arith) below) in
    ap (λ byte. eqb (bit_at byte hart) 1) (sym (byte_read set)) ∙ (here ∙ contains_where (contains set) hart below)

-- ---- what is left

pub contains_difference : (a b : List Bool) (hart : ℕ) → hart < MAX_HARTS → contains (difference a b) hart ≡ contains a hart && not (contains b hart)
unfolding difference
contains_difference a b hart below = contains_where (λ n. contains a n && not (contains b n)) hart below

left_over : (a b : Bool) → not (a && not b) ≡ true → a ≡ true → b ≡ true
left_over true true e h = refl
left_over true false e h = absurd cc
left_over false b e h = absurd cc

none_left : (a b : Bool) → (a ≡ true → b ≡ true) → not (a && not b) ≡ true
none_left true true h = refl
none_left true false h = absurd (let wrong : false ≡ true = h refl in cc)
none_left false b h = refl

-- a ticket is done exactly if each hart that it names is collected
pub done : (ticket : Ticket) → IsTrue (is_done ticket) ↔ ((hart : ℕ) → hart < MAX_HARTS → IsTrue (contains ticket.named hart) → IsTrue (contains ticket.collected hart))
unfolding difference
done ticket =
    let test : ℕ → Bool = λ n. contains ticket.named n && not (contains ticket.collected n) in
    let same = list_all-map not test all_harts in (
      λ e hart below named. left_over _ _ (all_pass (λ n. not (test n)) 0 MAX_HARTS (sym same ∙ e) hart (omega arith) below) named,
      λ h. same ∙ pass_all (λ n. not (test n)) 0 MAX_HARTS (λ n above below. none_left _ _ (h n below)),
    )
