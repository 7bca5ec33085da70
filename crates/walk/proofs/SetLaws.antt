-- What a walk grants under a policy, by what it grants once the bits are set.
use Rattle.std.proofs.Common.{◌≡◌, ℕ, Bool, true, false, cond, Option, Some, None, ap, sym, ◌∙◌, refl}
use Rattle.std.specs.Prelude.{◌↔◌, ◌==◌, ◌||◌, ◌&&◌, not}
use Rattle.std.specs.Int.Bits.{bit_or, or_zero_r}
use Rattle.pte.specs.declared.permission.Access.{Access}
use Rattle.pte.specs.declared.flags.PteFlags.{PteFlags}
use Rattle.pte.specs.declared.entry.Kind.{Kind}
use Rattle.pte.specs.declared.entry.Kind.TheVariants as kinds
use Rattle.pte.specs.Entry.{flags_of, is_accessed, is_dirty, is_global, kind_of}
use Rattle.pte.specs.Permission.{is_permitted}
use Rattle.walk.specs.declared.found_or_trap.Found.{Found}
use Rattle.walk.specs.declared.found_or_trap.Trap.{Trap}
use Rattle.walk.specs.declared.found_or_trap.Why.{Why}
use Rattle.walk.specs.declared.found_or_trap.Why.TheVariants as why
use Rattle.walk.specs.declared.stepping.AccessedDirty.TheVariants as policy
use Rattle.walk.specs.declared.stepping.Advance.TheVariants as advance
use Rattle.walk.specs.declared.stepping.Granted.{Granted}
use Rattle.walk.specs.declared.walking.Progress.{Progress}
use Rattle.walk.specs.declared.walking.Progress.TheVariants as progress
use Rattle.walk.specs.Answer.{found_at, found_unless, is_aligned, is_store, leaf_fault}
use Rattle.walk.specs.Policy.{clear_bits, load_under, no_bits, read_at, step_under, told, with_bits}
use Rattle.walk.specs.Stage.{Stage}
use Rattle.walk.specs.Step.{ended, load_of, step_of}
use Rattle.walk.proofs.SetBits.{adds-flags, adds-word, to_flags, with-leaf, without-leaf, leaf-flags}

-- what is told of a word is what it makes of the walk
told-granted : (s : Stage) (word : ℕ) (bits : PteFlags) (p : Progress) (given : Granted) → told s word bits p ≡ advance.Granted given → (p ≡ progress.Found given.found) × (given.set ≡ bits) × (given.read ≡ read_at s word)
told-granted s word bits (progress.More next) given e = cc
told-granted s word bits (progress.Trap trap) given e = cc
told-granted s word bits (progress.Found found) given e =
    let same : record { found = found; set = bits; read = read_at s word } ≡ given = cc in
    (ap (λ (g : Granted). progress.Found g.found) same, ap (λ (g : Granted). g.set) (sym same), ap (λ (g : Granted). g.read) (sym same))

granted-told : (s : Stage) (word : ℕ) (bits : PteFlags) (p : Progress) (given : Granted) → p ≡ progress.Found given.found → given.set ≡ bits → given.read ≡ read_at s word → told s word bits p ≡ advance.Granted given
granted-told s word bits p given is set read =
    ap (told s word bits) is
    ∙ ap (λ b. advance.Granted (record { found = given.found; set = b; read = read_at s word })) (sym set)
    ∙ ap (λ r. advance.Granted (record { found = given.found; set = given.set; read = r })) (sym read)

-- a pointer is not found
no_pointer : (b : Bool) (trap : Trap) (next : Stage) (found : Found) → cond b (progress.Trap trap) (progress.More next) ≡ progress.Found found → ⊥
no_pointer true trap next found e = cc
no_pointer false trap next found e = cc

-- what is found is a leaf
found-leaf : (s : Stage) (k : Kind) (found : Found) → step_of s k ≡ progress.Found found → (ppn : ℕ) × (flags : PteFlags) × (k ≡ kinds.Leaf ppn flags)
found-leaf s kinds.Invalid found e = cc
found-leaf s kinds.Reserved found e = cc
found-leaf s (kinds.Table ppn global) found e = absurd (no_pointer (s.level == 0) _ _ found e)
found-leaf s (kinds.Leaf ppn flags) found e = (ppn, flags, refl)

record FromLeaf (s : Stage) (word : ℕ) (k : Kind) (given : Granted) : Type 0 where
  ppn : ℕ
  flags : PteFlags
  kind : k ≡ kinds.Leaf ppn flags
  found : step_of s (kinds.Leaf ppn (with_bits (clear_bits s.access flags) flags)) ≡ progress.Found given.found
  set : given.set ≡ clear_bits s.access flags
  read : given.read ≡ read_at s word

from_leaf : (s : Stage) (word : ℕ) (k : Kind) (given : Granted) → step_under policy.Set s word k ≡ advance.Granted given → FromLeaf s word k given
from_leaf s word kinds.Invalid given e = cc
from_leaf s word kinds.Reserved given e = cc
from_leaf s word (kinds.Table ppn global) given e =
    absurd (no_pointer (s.level == 0) _ _ given.found (told-granted s word no_bits (step_of s (kinds.Table ppn global)) given e).0)
from_leaf s word (kinds.Leaf ppn flags) given e =
    let bits = clear_bits s.access flags in
    let is = told-granted s word bits (step_of s (kinds.Leaf ppn (with_bits bits flags))) given e in
    record { ppn = ppn; flags = flags; kind = refl; found = is.0; set = is.1; read = is.2 }

module _ (s : Stage) (word : ℕ) (given : Granted) where
  abbrev pub WithBits : Type 0
  WithBits =
      (load_of s (Some (bit_or word given.set.0)) ≡ progress.Found given.found)
      × (given.set ≡ clear_bits s.access (flags_of word)) × (given.read ≡ read_at s word)

  granted-if : load_under policy.Set s (Some word) ≡ advance.Granted given → WithBits
  granted-if e =
      let leaf = from_leaf s word (kind_of word) given e in
      let same : leaf.flags ≡ flags_of word = leaf-flags word leaf.ppn leaf.flags leaf.kind in
      let set : given.set ≡ clear_bits s.access (flags_of word) = leaf.set ∙ ap (clear_bits s.access) same in
      let bits = clear_bits s.access (flags_of word) in
      let kind = with-leaf word bits (adds-word s.access word) (adds-flags s.access (flags_of word)) leaf.ppn leaf.flags leaf.kind in (
        ap (λ (b : PteFlags). step_of s (kind_of (bit_or word b.0))) set ∙ ap (step_of s) kind
            ∙ ap (λ (b : PteFlags). step_of s (kinds.Leaf leaf.ppn (with_bits b leaf.flags))) (ap (clear_bits s.access) (sym same))
            ∙ leaf.found,
        set,
        leaf.read,
      )

  granted-from : WithBits → load_under policy.Set s (Some word) ≡ advance.Granted given
  granted-from is =
      let bits = clear_bits s.access (flags_of word) in
      let here : step_of s (kind_of (bit_or word bits.0)) ≡ progress.Found given.found = ap (λ (b : PteFlags). step_of s (kind_of (bit_or word b.0))) (sym is.1) ∙ is.0 in
      let leaf = found-leaf s (kind_of (bit_or word bits.0)) given.found here in
      let kind = without-leaf word bits (adds-word s.access word) (adds-flags s.access (flags_of word)) leaf.0 leaf.1 leaf.2 in
      let again = with-leaf word bits (adds-word s.access word) (adds-flags s.access (flags_of word)) leaf.0 (flags_of word) kind in
      ap (step_under policy.Set s word) kind
      ∙ granted-told s word bits (step_of s (kinds.Leaf leaf.0 (with_bits bits (flags_of word)))) given
      (ap (step_of s) (sym again) ∙ here) is.1 is.2

  pub granted-exactly : load_under policy.Set s (Some word) ≡ advance.Granted given ↔ WithBits
  granted-exactly = (granted-if, granted-from)

-- behind a test that gives a fault
past : (b : Bool) (w : Why) (rest : Option Why) → cond b (Some w) rest ≡ None → (b ≡ false) × (rest ≡ None)
past true w rest e = cc
past false w rest e = (refl, e)

flag-set : (b : Bool) → not b ≡ false → b ≡ true
flag-set true e = refl
flag-set false e = cc

no_fault : (o : Option Why) (access : Access) (at found : Found) → ended (found_unless o access at) ≡ progress.Found found → o ≡ None
no_fault None access at found e = refl
no_fault (Some w) access at found e = cc

none-clear : (a d : Bool) → a ≡ true → d ≡ false → bit_or (cond a 0 0x40) (cond d 0x80 0) ≡ 0
none-clear true false _ _ = refl
none-clear false d a _ = cc
none-clear true true _ d = cc

-- what is found at once has no bit to set
nothing-clear : (s : Stage) (ppn : ℕ) (flags : PteFlags) (found : Found) → step_of s (kinds.Leaf ppn flags) ≡ progress.Found found → clear_bits s.access flags ≡ no_bits
nothing-clear s ppn flags found e =
    let none = no_fault (leaf_fault s.access s.ctx s.level ppn flags) s.access (found_at s.va s.level (s.global || is_global flags.0) ppn flags) found e in
    let permitted = past (not (is_permitted flags.0 s.access s.ctx)) why.Denied _ none in
    let aligned = past (not (is_aligned s.level ppn)) why.Misaligned _ permitted.1 in
    let accessed = past (not (is_accessed flags.0)) why.NotAccessed _ aligned.1 in
    let dirty = past (is_store s.access && not (is_dirty flags.0)) why.NotDirty _ accessed.1 in
    ap to_flags (none-clear (is_accessed flags.0) (is_store s.access && not (is_dirty flags.0)) (flag-set _ accessed.0) dirty.0)

pub nothing-exactly : (s : Stage) (word : ℕ) (given : Granted) → load_under policy.Set s (Some word) ≡ advance.Granted given → (given.set ≡ no_bits) ↔ (load_of s (Some word) ≡ progress.Found given.found)
nothing-exactly s word given e = (
  (λ none.
      let same : bit_or word given.set.0 ≡ word = ap (λ (b : PteFlags). bit_or word b.0) none ∙ or_zero_r word in
      ap (λ n. step_of s (kind_of n)) (sym same) ∙ (granted-if s word given e).0),
  (λ at_once.
      let leaf = from_leaf s word (kind_of word) given e in
      leaf.set ∙ nothing-clear s leaf.ppn leaf.flags given.found (ap (step_of s) (sym leaf.kind) ∙ at_once)),
)

-- the other policy sets nothing
trap_kind : (s : Stage) (word : ℕ) (k : Kind) → step_under policy.Trap s word k ≡ told s word no_bits (step_of s k)
trap_kind s word kinds.Invalid = refl
trap_kind s word kinds.Reserved = refl
trap_kind s word (kinds.Table ppn global) = refl
trap_kind s word (kinds.Leaf ppn flags) =
    ap (λ n. told s word no_bits (step_of s (kinds.Leaf ppn (to_flags n)))) (or_zero_r flags.0)

pub trap-plain : (s : Stage) (word : ℕ) → load_under policy.Trap s (Some word) ≡ told s word no_bits (load_of s (Some word))
trap-plain s word = trap_kind s word (kind_of word)
