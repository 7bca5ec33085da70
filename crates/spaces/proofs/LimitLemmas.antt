-- The test of the limits is the limits.
use Rattle.std.proofs.Common.{◌≡◌, ℕ, ◌+◌, ◌^◌, ◌<◌, ◌≤◌, ◌↔◌, ◌&&◌, Bool, true, false, cond, not, nat_lt, nat_le, Option, Some, None, is_some, List, [], ◌∷◌, length, refl, ap, sym, ◌∙◌, le-leb}
use Rattle.std.specs.Prelude.{IsTrue}
use Rattle.std.specs.List.{AllByRecursion, list_all}
use Rattle.std.proofs.lemmas.Bool.{and_parts, eqb-true, eq-eqb, false≢true, leb-true, lt-ltb, ltb-true, not-false}
use Rattle.std.proofs.lemmas.List.Elements.{All-from_recursion, recursion_from_All}
use Rattle.pte.specs.declared.entry.TheConstants.{PPN_BITS}
use Rattle.walk.proofs.Unique.{same_bool}
use Rattle.spaces.specs.declared.configuration.Config.{Config}
use Rattle.spaces.specs.declared.configuration.Space.{Space}
use Rattle.spaces.specs.Layout.{frame_count, layout_of}
use Rattle.pte.specs.declared.TheConstants.{MAX_CAPACITY, MAX_HARTS}
use Rattle.spaces.specs.declared.configuration.TheConstants.{MAX_SPACES, MAX_WINDOW}
use Rattle.spaces.specs.declared.faults.Limit.{Limit}
use Rattle.spaces.specs.Limits.{MeetsLimits, broken_limit, is_from_one, is_within_limits}

both : (a b : Bool) → a ≡ true → b ≡ true → (a && b) ≡ true
both a b e f = rw (e, f) refl

from_one : (most n : ℕ) → 1 ≤ n → n ≤ most → is_from_one most n ≡ true
from_one most n low high = both (nat_le 1 n) (nat_le n most) (le-leb 1 n low) (le-leb n most high)

is_one_to : (most n : ℕ) → is_from_one most n ≡ true → (1 ≤ n) × (n ≤ most)
is_one_to most n e = let parts = and_parts (nat_le 1 n) (nat_le n most) e in (leb-true 1 n parts.0, leb-true n most parts.1)

homes_test : (harts : ℕ) (ss : List Space) → AllByRecursion (λ s. s.home < harts) ss → list_all (λ s. nat_lt s.home harts) ss ≡ true
homes_test harts [] h = refl
homes_test harts (s ∷ ss) h = both (nat_lt s.home harts) _ (lt-ltb s.home harts h.0) (homes_test harts ss h.1)

homes_told : (harts : ℕ) (ss : List Space) → list_all (λ s. nat_lt s.home harts) ss ≡ true → AllByRecursion (λ s. s.home < harts) ss
homes_told harts [] e = tt
homes_told harts (s ∷ ss) e = let parts = and_parts (nat_lt s.home harts) _ e in (ltb-true s.home harts parts.0, homes_told harts ss parts.1)

pub within : (frames : ℕ) (c : Config) → MeetsLimits frames c → is_within_limits frames c ≡ true
unfolding is_within_limits
within frames c m =
    both _ _ (from_one MAX_HARTS c.harts m.some_hart m.harts)
    (both _ _ (from_one MAX_SPACES (length c.spaces.items) m.some_space m.spaces)
    (both _ _ (from_one MAX_WINDOW c.window m.some_window m.window)
    (both _ _ (from_one MAX_CAPACITY c.capacity m.some_capacity m.capacity)
    (both _ _ (eq-eqb (length c.spares.items) c.harts m.spares)
    (both _ _ (homes_test c.harts c.spaces.items (recursion_from_All _ c.spaces.items m.homes))
    (both _ _ m.asids
    (both _ _ (le-leb (frame_count (layout_of c)) frames m.frames_fit) (le-leb (c.base + frame_count (layout_of c)) (2 ^ PPN_BITS) m.ppns_fit))))))))

pub meets : (frames : ℕ) (c : Config) → is_within_limits frames c ≡ true → MeetsLimits frames c
unfolding is_within_limits
meets frames c e =
    let harts = and_parts _ _ e in
    let spaces = and_parts _ _ harts.1 in
    let window = and_parts _ _ spaces.1 in
    let capacity = and_parts _ _ window.1 in
    let spares = and_parts _ _ capacity.1 in
    let homes = and_parts _ _ spares.1 in
    let asids = and_parts _ _ homes.1 in
    let fits = and_parts _ _ asids.1 in
    let hart_range = is_one_to MAX_HARTS c.harts harts.0 in
    let space_range = is_one_to MAX_SPACES (length c.spaces.items) spaces.0 in
    let window_range = is_one_to MAX_WINDOW c.window window.0 in
    let capacity_range = is_one_to MAX_CAPACITY c.capacity capacity.0 in
    record {
      some_hart = hart_range.0;
      harts = hart_range.1;
      some_space = space_range.0;
      spaces = space_range.1;
      homes = All-from_recursion _ c.spaces.items (homes_told c.harts c.spaces.items homes.0);
      asids = asids.0;
      some_window = window_range.0;
      window = window_range.1;
      spares = eqb-true (length c.spares.items) c.harts spares.0;
      frames_fit = leb-true (frame_count (layout_of c)) frames fits.0;
      ppns_fit = leb-true (c.base + frame_count (layout_of c)) (2 ^ PPN_BITS) fits.1;
      some_capacity = capacity_range.0;
      capacity = capacity_range.1;
    }

pub checked_is : (frames : ℕ) (c : Config) (b : Bool) → (IsTrue b ↔ MeetsLimits frames c) → b ≡ is_within_limits frames c
checked_is frames c b h = same_bool b (is_within_limits frames c) (λ e. within frames c (h.0 e), λ e. h.1 (meets frames c e))

-- the first of the limits that does not hold is none exactly if all hold
past : (b : Bool) (limit : Limit) (rest : Option Limit) → b ≡ true → rest ≡ None → cond (not b) (Some limit) rest ≡ None
past b limit rest e f = rw (e, f) refl

not_here : (b : Bool) (limit : Limit) (rest : Option Limit) → cond (not b) (Some limit) rest ≡ None → (b ≡ true) × (rest ≡ None)
not_here true limit rest e = (refl, e)
not_here false limit rest e = absurd (let bad : Some limit ≡ None = e in cc)

pub none_broken : (frames : ℕ) (c : Config) → MeetsLimits frames c → broken_limit frames c ≡ None
none_broken frames c m =
    past _ _ _ (from_one MAX_HARTS c.harts m.some_hart m.harts)
    (past _ _ _ (from_one MAX_SPACES (length c.spaces.items) m.some_space m.spaces)
    (past _ _ _ (homes_test c.harts c.spaces.items (recursion_from_All _ c.spaces.items m.homes))
    (past _ _ _ m.asids
    (past _ _ _ (from_one MAX_WINDOW c.window m.some_window m.window)
    (past _ _ _ (le-leb (c.base + frame_count (layout_of c)) (2 ^ PPN_BITS) m.ppns_fit)
    (past _ _ _ (eq-eqb (length c.spares.items) c.harts m.spares)
    (past _ _ _ (le-leb (frame_count (layout_of c)) frames m.frames_fit)
    (past _ _ _ (from_one MAX_CAPACITY c.capacity m.some_capacity m.capacity) refl))))))))

pub met_if_none_broken : (frames : ℕ) (c : Config) → broken_limit frames c ≡ None → MeetsLimits frames c
met_if_none_broken frames c e =
    let harts = not_here _ _ _ e in
    let spaces = not_here _ _ _ harts.1 in
    let homes = not_here _ _ _ spaces.1 in
    let asids = not_here _ _ _ homes.1 in
    let window = not_here _ _ _ asids.1 in
    let ppns = not_here _ _ _ window.1 in
    let spares = not_here _ _ _ ppns.1 in
    let counted = not_here _ _ _ spares.1 in
    let capacity = not_here _ _ _ counted.1 in
    let hart_range = is_one_to MAX_HARTS c.harts harts.0 in
    let space_range = is_one_to MAX_SPACES (length c.spaces.items) spaces.0 in
    let window_range = is_one_to MAX_WINDOW c.window window.0 in
    let capacity_range = is_one_to MAX_CAPACITY c.capacity capacity.0 in
    record {
      some_hart = hart_range.0;
      harts = hart_range.1;
      some_space = space_range.0;
      spaces = space_range.1;
      homes = All-from_recursion _ c.spaces.items (homes_told c.harts c.spaces.items homes.0);
      asids = asids.0;
      some_window = window_range.0;
      window = window_range.1;
      spares = eqb-true (length c.spares.items) c.harts spares.0;
      frames_fit = leb-true (frame_count (layout_of c)) frames counted.0;
      ppns_fit = leb-true (c.base + frame_count (layout_of c)) (2 ^ PPN_BITS) ppns.0;
      some_capacity = capacity_range.0;
      capacity = capacity_range.1;
    }

none_of : (r : Option Limit) → is_some r ≡ false → r ≡ None
none_of None e = refl
none_of (Some limit) e = absurd (false≢true (sym e))

pub none_is : (frames : ℕ) (c : Config) (r : Option Limit) → r ≡ broken_limit frames c → (is_some r ≡ false) ↔ MeetsLimits frames c
none_is frames c r e = ((λ n. met_if_none_broken frames c (sym e ∙ none_of r n)), (λ m. ap is_some (e ∙ none_broken frames c m)))

-- the test that no limit is broken is the test of the limits
pub tested_is : (frames : ℕ) (c : Config) (r : Option Limit) (b : Bool) → is_some r ≡ not b → ((is_some r ≡ false) ↔ MeetsLimits frames c) → b ≡ is_within_limits frames c
tested_is frames c r b e h = checked_is frames c b ((λ t. h.0 (e ∙ ap not t)), (λ m. not-false b (sym e ∙ h.1 m)))
