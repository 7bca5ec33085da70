-- A leaf whose A or D is set is a leaf with that flag, and no other word becomes a leaf by it.
use Rattle.std.proofs.Common.{◌≡◌, ℕ, ◌+◌, ◌%◌, ◌<◌, Bool, true, false, cond, ap, sym, ◌∙◌, refl, arith}
use Rattle.std.specs.Prelude.{◌==◌, ◌&&◌, not}
use Rattle.std.specs.Int.{bit_at}
use Rattle.std.specs.Int.Bits.{bit_or, or_zero_r}
use Rattle.std.proofs.lemmas.Nat.{or_disjoint}
use Rattle.std.proofs.lemmas.Nat.Bits.{and_high}
use Rattle.std.proofs.lemmas.Bool.Decides.{nat_tests}
use Rattle.pte.specs.declared.flags.PteFlags.{PteFlags}
use Rattle.pte.specs.declared.entry.Kind.TheVariants as kinds
use Rattle.pte.specs.declared.permission.Access.{Access}
use Rattle.pte.specs.Entry.{flags_of, is_accessed, is_dirty, is_high_clear, is_pointer, is_valid, is_write_only, kind_of, ppn_of}
use Rattle.walk.specs.Answer.{is_store}
use Rattle.walk.specs.Policy.{clear_bits, with_bits}

-- to set bits, of A and D, adds them
pub record Adds (n b : ℕ) : Type 0 where
  pub or : bit_or n b ≡ n + b
  pub room : n % 256 + b < 256
  pub low : b % 64 ≡ 0

is_clear : (n k : ℕ) → (bit_at n k == 1) ≡ false → bit_at n k ≡ 0
is_clear n k e = grind (arith, nat_tests)

abbrev bits : Bool → Bool → ℕ
bits a d = bit_or (cond a 0 0x40) (cond d 0x80 0)

adds : (n : ℕ) (a d : Bool) → is_accessed n ≡ a → (d ≡ true → is_dirty n ≡ false) → Adds n (bits a d)
adds n true false a d = record { or = or_zero_r n ∙ omega arith; room = omega arith; low = refl }
adds n true true a d =
    let clear : bit_at n 7 ≡ 0 = is_clear n 7 (d refl) in
    record { or = or_disjoint n 128 (and_high n 1 7 ∙ omega (arith, clear)); room = omega (arith, clear); low = refl }
adds n false false a d =
    let clear : bit_at n 6 ≡ 0 = is_clear n 6 a in
    record { or = or_disjoint n 64 (and_high n 1 6 ∙ omega (arith, clear)); room = omega (arith, clear); low = refl }
adds n false true a d =
    let clear : bit_at n 6 ≡ 0 = is_clear n 6 a in
    let other : bit_at n 7 ≡ 0 = is_clear n 7 (d refl) in
    record { or = or_disjoint n 192 (and_high n 2 6 ∙ omega (arith, clear, other)); room = omega (arith, clear, other); low = refl }

-- the word is a leaf's
record IsLeaf (word ppn : ℕ) (flags : PteFlags) : Type 0 where
  valid : is_valid word ≡ true
  high : is_high_clear word ≡ true
  write : is_write_only (flags_of word).0 ≡ false
  pointer : is_pointer (flags_of word).0 ≡ false
  ppn_is : ppn ≡ ppn_of word
  flags_is : flags ≡ flags_of word

flags-leaf : (wo ip x : Bool) (p q : ℕ) (f g : PteFlags) (k : Bool) → cond wo kinds.Reserved (cond (ip && x) kinds.Reserved (cond ip (kinds.Table p k) (kinds.Leaf p f))) ≡ kinds.Leaf q g → (wo ≡ false) × (ip ≡ false) × (q ≡ p) × (g ≡ f)
flags-leaf true ip x p q f g k e = cc
flags-leaf false true true p q f g k e = cc
flags-leaf false true false p q f g k e = cc
flags-leaf false false x p q f g k e = (refl, refl, cc, cc)

word-leaf : (v h wo ip x : Bool) (p q : ℕ) (f g : PteFlags) (k : Bool) → cond (not v) kinds.Invalid (cond (not h) kinds.Reserved (cond wo kinds.Reserved (cond (ip && x) kinds.Reserved (cond ip (kinds.Table p k) (kinds.Leaf p f))))) ≡ kinds.Leaf q g → (v ≡ true) × (h ≡ true) × (wo ≡ false) × (ip ≡ false) × (q ≡ p) × (g ≡ f)
word-leaf false h wo ip x p q f g k e = cc
word-leaf true false wo ip x p q f g k e = cc
word-leaf true true wo ip x p q f g k e =
    let rest = flags-leaf wo ip x p q f g k e in (refl, refl, rest.0, rest.1, rest.2, rest.3)

leaf-if : (word ppn : ℕ) (flags : PteFlags) → kind_of word ≡ kinds.Leaf ppn flags → IsLeaf word ppn flags
unfolding kind_of
leaf-if word ppn flags is =
    let parts = word-leaf (is_valid word) (is_high_clear word) (is_write_only (flags_of word).0) (is_pointer (flags_of word).0) _ (ppn_of word) ppn (flags_of word) flags _ is in
    record { valid = parts.0; high = parts.1; write = parts.2; pointer = parts.3; ppn_is = parts.4; flags_is = parts.5 }

word-is : (v h wo ip x : Bool) (p q : ℕ) (f g : PteFlags) (k : Bool) → v ≡ true → h ≡ true → wo ≡ false → ip ≡ false → q ≡ p → g ≡ f → cond (not v) kinds.Invalid (cond (not h) kinds.Reserved (cond wo kinds.Reserved (cond (ip && x) kinds.Reserved (cond ip (kinds.Table p k) (kinds.Leaf p f))))) ≡ kinds.Leaf q g
word-is true true false false x p q f g k v h wo ip a b = rw (a, b) refl
word-is false h wo ip x p q f g k v _ _ _ a b = cc
word-is true false wo ip x p q f g k _ h _ _ a b = cc
word-is true true true ip x p q f g k _ _ wo _ a b = cc
word-is true true false true x p q f g k _ _ _ ip a b = cc

leaf-from : (word ppn : ℕ) (flags : PteFlags) → IsLeaf word ppn flags → kind_of word ≡ kinds.Leaf ppn flags
unfolding kind_of
leaf-from word ppn flags is = word-is (is_valid word) (is_high_clear word) (is_write_only (flags_of word).0) (is_pointer (flags_of word).0) _ (ppn_of word) ppn (flags_of word) flags _ is.valid is.high is.write is.pointer is.ppn_is is.flags_is

-- what the bits leave as it is
module _ (n b : ℕ) (room : n % 256 + b < 256) (low : b % 64 ≡ 0) where
  same-valid : is_valid (n + b) ≡ is_valid n
  same-valid = ap (λ m. m == 1) (omega (arith, room, low))

  same-high : is_high_clear (n + b) ≡ is_high_clear n
  same-high = ap (λ m. m == 0) (omega (arith, room, low))

  same-ppn : ppn_of (n + b) ≡ ppn_of n
  same-ppn = omega (arith, room, low)

  more-flags : (flags_of (n + b)).0 ≡ (flags_of n).0 + b
  more-flags = omega (arith, room, low)

module _ (f b : ℕ) (low : b % 64 ≡ 0) where
  same-read : bit_at (f + b) 1 ≡ bit_at f 1
  same-read = omega (arith, low)

  same-write : bit_at (f + b) 2 ≡ bit_at f 2
  same-write = omega (arith, low)

  same-execute : bit_at (f + b) 3 ≡ bit_at f 3
  same-execute = omega (arith, low)

  same-write_only : is_write_only (f + b) ≡ is_write_only f
  same-write_only = ap (λ m. (m == 1) && not (bit_at (f + b) 1 == 1)) same-write ∙ ap (λ m. (bit_at f 2 == 1) && not (m == 1)) same-read

  same-pointer : is_pointer (f + b) ≡ is_pointer f
  same-pointer =
      ap (λ m. not (m == 1) && not (bit_at (f + b) 2 == 1) && not (bit_at (f + b) 3 == 1)) same-read
      ∙ ap (λ m. not (bit_at f 1 == 1) && not (m == 1) && not (bit_at (f + b) 3 == 1)) same-write
      ∙ ap (λ m. not (bit_at f 1 == 1) && not (bit_at f 2 == 1) && not (m == 1)) same-execute

abbrev pub to_flags : ℕ → PteFlags
to_flags n = record { 0 = n }

-- the word with the bits is a leaf's exactly if the word is, with the same PPN and these flags more
module _ (word : ℕ) (bits : PteFlags) (to_word : Adds word bits.0) (to_flag : Adds (flags_of word).0 bits.0) where
  flags-with : flags_of (bit_or word bits.0) ≡ with_bits bits (flags_of word)
  flags-with =
      ap flags_of to_word.or ∙ ap to_flags (more-flags word bits.0 to_word.room to_word.low ∙ sym to_flag.or)

  write-with : is_write_only (flags_of (bit_or word bits.0)).0 ≡ is_write_only (flags_of word).0
  write-with = ap (λ f. is_write_only f.0) flags-with ∙ ap is_write_only to_flag.or ∙ same-write_only (flags_of word).0 bits.0 to_word.low

  pointer-with : is_pointer (flags_of (bit_or word bits.0)).0 ≡ is_pointer (flags_of word).0
  pointer-with = ap (λ f. is_pointer f.0) flags-with ∙ ap is_pointer to_flag.or ∙ same-pointer (flags_of word).0 bits.0 to_word.low

  valid-with : is_valid (bit_or word bits.0) ≡ is_valid word
  valid-with = ap is_valid to_word.or ∙ same-valid word bits.0 to_word.room to_word.low

  high-with : is_high_clear (bit_or word bits.0) ≡ is_high_clear word
  high-with = ap is_high_clear to_word.or ∙ same-high word bits.0 to_word.room to_word.low

  ppn-with : ppn_of (bit_or word bits.0) ≡ ppn_of word
  ppn-with = ap ppn_of to_word.or ∙ same-ppn word bits.0 to_word.room to_word.low

  pub with-leaf : (ppn : ℕ) (flags : PteFlags) → kind_of word ≡ kinds.Leaf ppn flags → kind_of (bit_or word bits.0) ≡ kinds.Leaf ppn (with_bits bits flags)
  with-leaf ppn flags is =
      let leaf = leaf-if word ppn flags is in
      leaf-from (bit_or word bits.0) ppn (with_bits bits flags)
      (record {
        valid = valid-with ∙ leaf.valid;
        high = high-with ∙ leaf.high;
        write = write-with ∙ leaf.write;
        pointer = pointer-with ∙ leaf.pointer;
        ppn_is = leaf.ppn_is ∙ sym ppn-with;
        flags_is = ap (with_bits bits) leaf.flags_is ∙ sym flags-with;
      })

  pub without-leaf : (ppn : ℕ) (flags : PteFlags) → kind_of (bit_or word bits.0) ≡ kinds.Leaf ppn flags → kind_of word ≡ kinds.Leaf ppn (flags_of word)
  without-leaf ppn flags is =
      let leaf = leaf-if (bit_or word bits.0) ppn flags is in
      leaf-from word ppn (flags_of word)
      (record {
        valid = sym valid-with ∙ leaf.valid;
        high = sym high-with ∙ leaf.high;
        write = sym write-with ∙ leaf.write;
        pointer = sym pointer-with ∙ leaf.pointer;
        ppn_is = leaf.ppn_is ∙ ppn-with;
        flags_is = refl;
      })

-- the flags of a word have its A and D
word-accessed : (word : ℕ) → is_accessed (flags_of word).0 ≡ is_accessed word
word-accessed word = ap (λ m. m == 1) (omega arith)

word-dirty : (word : ℕ) → is_dirty (flags_of word).0 ≡ is_dirty word
word-dirty word = ap (λ m. m == 1) (omega arith)

only-dirty : (store : Bool) (d : Bool) → (store && not d) ≡ true → d ≡ false
only-dirty true false e = refl
only-dirty true true e = cc
only-dirty false d e = cc

pub adds-flags : (access : Access) (flags : PteFlags) → Adds flags.0 (clear_bits access flags).0
adds-flags access flags =
    adds flags.0 (is_accessed flags.0) (is_store access && not (is_dirty flags.0)) refl (only-dirty (is_store access) (is_dirty flags.0))

pub adds-word : (access : Access) (word : ℕ) → Adds word (clear_bits access (flags_of word)).0
adds-word access word =
    adds word (is_accessed (flags_of word).0) (is_store access && not (is_dirty (flags_of word).0)) (sym (word-accessed word))
    (λ on. sym (word-dirty word) ∙ only-dirty (is_store access) (is_dirty (flags_of word).0) on)

pub leaf-flags : (word ppn : ℕ) (flags : PteFlags) → kind_of word ≡ kinds.Leaf ppn flags → flags ≡ flags_of word
leaf-flags word ppn flags is = (leaf-if word ppn flags is).flags_is
