-- Memory after a word is stored, and after frames are cleared.
use Rattle.std.proofs.Common.{ℕ, ◌≡◌, ◌+◌, ◌*◌, ◌/◌, ◌<◌, ◌≤◌, Bool, true, false, Option, Some, None, cond, ap, sym, ◌∙◌, subst, refl, inl, inr, ◌⊎◌, arith}
use Rattle.std.specs.Prelude.{◌==◌, ◌&&◌, nat_lt, Result, Ok, Err, OnOk}
use mathlib.Core.Path.{fun_ext}
use Rattle.std.specs.Option.{unwrap_or}
use Rattle.std.proofs.lemmas.Bool.{cases_lt, and_parts, and_from, ltb-true, lt-ltb, eqb-true, eq-eqb, cond-true, cond-false, false_from_ne_true}
use Rattle.pte.specs.declared.entry.Kind.{Kind}
use Rattle.pte.specs.declared.entry.Kind.TheVariants as kinds
use Rattle.pte.specs.Entry.{kind_of}
use Rattle.walk.specs.Leads.{Tables, PointsTo}
use Rattle.walk.specs.Maps.{page_number}
use Rattle.walk.specs.Stores.{stored}
use Rattle.watch.specs.declared.trace.Frames.{Frames}
use Rattle.watch.specs.Trace.{index_of, is_among}
use Rattle.watch_tables.specs.declared.frame.StoredWord.{StoredWord}
use Rattle.watch_tables.specs.Stored.{is_table, table_of, table_of_kind, up_to_limit, value_of}
use Rattle.watch_tables.specs.Words.{is_word, memory_of, word_number}
use Rattle.watch_tables.proofs.Storing.{Put, zero-points-nowhere}
use Rattle.watch_tables.proofs.Filled.{bounds-from, among-from}

abbrev pub memory : (ℕ → Option StoredWord) → Tables
memory at = memory_of (λ n. value_of (at n))

-- a word of memory by the test of its place
in-memory : (at : ℕ → Option StoredWord) (t n : ℕ) → is_word t n ≡ true → memory at t n ≡ Some (unwrap_or (value_of (at (word_number t n))) 0)
in-memory at t n is = ap Some (cond-true (is_word t n) _ 0 is)

outside : (at : ℕ → Option StoredWord) (t n : ℕ) → is_word t n ≡ false → memory at t n ≡ Some 0
outside at t n is = ap Some (cond-false (is_word t n) _ 0 is)

put-value : (word count : ℕ) (test : Bool) → (word == 0) ≡ test → unwrap_or (value_of (cond test None (Some (record { word = word; since = count })))) 0 ≡ word
put-value word count true is = sym (eqb-true word 0 is)
put-value word count false is = refl

pub place-is : (t n : ℕ) → is_word t n ≡ true → (t < 4503599627370496) × (n < 512)
place-is t n is = let parts = and_parts (nat_lt t 4503599627370496) (nat_lt n 512) is in (ltb-true t 4503599627370496 parts.0, ltb-true n 512 parts.1)

pub is-place : (t n : ℕ) → t < 4503599627370496 → n < 512 → is_word t n ≡ true
is-place t n small index = and_from (nat_lt t 4503599627370496) (nat_lt n 512) (lt-ltb t 4503599627370496 small) (lt-ltb n 512 index)

true_or_false : (b : Bool) → (b ≡ true) ⊎ (b ≡ false)
true_or_false true = inl refl
true_or_false false = inr refl

module _ (old new : ℕ → Option StoredWord) (address word count : ℕ) (fits : address < 18446744073709551616) (put : Put old new (address / 8) word count) where
  here : (t n : ℕ) → t ≡ page_number address → n ≡ index_of address → memory new t n ≡ Some word
  here t n page index =
      let same : word_number t n ≡ address / 8 = omega arith in
      in-memory new t n (is-place t n (omega arith) (omega arith))
      ∙ ap (λ (o : Option StoredWord). Some (unwrap_or (value_of o) 0)) (put (word_number t n) ∙ cond-true (word_number t n == address / 8) _ _ (eq-eqb (word_number t n) (address / 8) same))
      ∙ ap Some (put-value word count (word == 0) refl)

  elsewhere : (t n : ℕ) → ((t ≡ page_number address) × (n ≡ index_of address) → ⊥) → memory new t n ≡ memory old t n
  elsewhere t n other =
      elim (true_or_false (is_word t n)) [
        | inr out ↦ outside new t n out ∙ sym (outside old t n out)
        | inl is ↦
            let index = (place-is t n is).1 in
            let apart : (word_number t n == address / 8) ≡ false = false_from_ne_true (word_number t n == address / 8) (λ h. let same = eqb-true (word_number t n) (address / 8) h in other (omega arith, omega arith)) in
            in-memory new t n is ∙ ap (λ (o : Option StoredWord). Some (unwrap_or (value_of o) 0)) (put (word_number t n) ∙ cond-false (word_number t n == address / 8) _ _ apart) ∙ sym (in-memory old t n is)
      ]

  by-test : (t n : ℕ) (test : Bool) → ((t == page_number address) && (n == index_of address)) ≡ test → memory new t n ≡ cond test (Some word) (memory old t n)
  by-test t n true is = let parts = and_parts (t == page_number address) (n == index_of address) is in here t n (eqb-true t (page_number address) parts.0) (eqb-true n (index_of address) parts.1)
  by-test t n false is = elsewhere t n (λ both. absurd (let yes = and_from (t == page_number address) (n == index_of address) (eq-eqb t (page_number address) both.0) (eq-eqb n (index_of address) both.1) in cc))

  pub memory-put : memory new ≡ stored (memory old) (page_number address) (index_of address) word
  memory-put = fun_ext (λ t. fun_ext (λ n. by-test t n ((t == page_number address) && (n == index_of address)) refl))

-- nothing is left in the frames, and what lies outside stays
module _ (old new : ℕ → Option StoredWord) (frames : Frames) (start end : ℕ) (at_start : start ≡ up_to_limit frames.first * 512) (at_end : end ≡ up_to_limit (frames.first + frames.count) * 512)
    (below : (q : ℕ) → q < start → new q ≡ old q) (above : (q : ℕ) → end ≤ q → new q ≡ old q) (none : (q : ℕ) → start ≤ q → q < end → new q ≡ None) where
  cleared-at : (t n : ℕ) (test word : Bool) → is_among frames t ≡ test → is_word t n ≡ word → memory new t n ≡ cond test (Some 0) (memory old t n)
  cleared-at t n true false among out = outside new t n out
  cleared-at t n false false among out = outside new t n out ∙ sym (outside old t n out)
  cleared-at t n true true among is =
      let place = place-is t n is in
      let bounds = bounds-from frames t n among place.0 place.1 in
      in-memory new t n is ∙ ap (λ (o : Option StoredWord). Some (unwrap_or (value_of o) 0)) (none (word_number t n) (let b = bounds.0 in omega arith) (let b = bounds.1 in omega arith))
  cleared-at t n false true among is =
      let place = place-is t n is in
      let frame : word_number t n / 512 ≡ t = let index = place.1 in omega arith in
      let same : new (word_number t n) ≡ old (word_number t n) = elim (cases_lt (word_number t n) start) [
        | inl low ↦ below (word_number t n) low
        | inr from ↦
            elim (cases_lt (word_number t n) end) [
              | inr high ↦ above (word_number t n) high
              | inl within ↦
                  let yes = among-from frames (word_number t n) (omega arith) (omega arith) in
                  let never : true ≡ false = sym (subst (λ k. is_among frames k ≡ true) frame yes.0) ∙ among in
                  absurd (cc)
            ]
      ] in
      in-memory new t n is ∙ ap (λ (o : Option StoredWord). Some (unwrap_or (value_of o) 0)) same ∙ sym (in-memory old t n is)

  pub memory-cleared : memory new ≡ (λ t n. cond (is_among frames t) (Some 0) (memory old t n))
  memory-cleared = fun_ext (λ t. fun_ext (λ n. cleared-at t n (is_among frames t) (is_word t n) refl refl))

pub words-stored : {E : Type 0} (old new : ℕ → Option StoredWord) (address word count : ℕ) (r : Result (Unit {0}) E) → address < 18446744073709551616 → OnOk r (Put old new (address / 8) word count)
    → OnOk r (ℕ → memory new ≡ stored (memory old) (page_number address) (index_of address) word)
words-stored old new address word count (Ok x) fits put = λ hart. memory-put old new address word count fits put
words-stored old new address word count (Err e) fits put = tt

-- a word that points to a table is one of those that are kept
stored-table : (at : ℕ → Option StoredWord) (t i table : ℕ) (word : Bool) (o : Option StoredWord) → is_word t i ≡ word → at (word_number t i) ≡ o → PointsTo (memory at t i) table → (word ≡ true) × (table_of o ≡ Some table)
stored-table at t i table false o is kept point = absurd (zero-points-nowhere table (subst (λ w. PointsTo w table) (outside at t i is) point))
stored-table at t i table true None is kept point = absurd (zero-points-nowhere table (subst (λ w. PointsTo w table) (in-memory at t i is ∙ ap (λ (s : Option StoredWord). Some (unwrap_or (value_of s) 0)) kept) point))
stored-table at t i table true (Some s) is kept point =
    let here : Some s.word ≡ Some point.entry = sym (in-memory at t i is ∙ ap (λ (w : Option StoredWord). Some (unwrap_or (value_of w) 0)) kept) ∙ point.is in
    let same : s.word ≡ point.entry = cc in
    (refl, ap table_of_kind (ap kind_of same ∙ point.kind))

pub linked-pointer : (at : ℕ → Option StoredWord) (has : ℕ → ℕ → Bool) → ((t n : ℕ) → has t n ≡ is_table (table_of (at n)) t)
    → (table t i : ℕ) → PointsTo (memory at t i) table → (word_number t i < 18446744073709551616) × (has table (word_number t i) ≡ true)
linked-pointer at has linked table t i point =
    let known = stored-table at t i table (is_word t i) (at (word_number t i)) refl refl point in
    let place = place-is t i known.0 in (
      let small = place.0 in let index = place.1 in omega arith,
      linked table (word_number t i) ∙ ap (λ o. is_table o table) known.1 ∙ eq-eqb table table refl,
    )

pub table-at : (at : ℕ → Option StoredWord) (t i table number : ℕ) (o : Option StoredWord) → at number ≡ o → word_number t i ≡ number → PointsTo (memory at t i) table → table_of o ≡ Some table
table-at at t i table number o is here point = ap table_of (sym is) ∙ ap (λ n. table_of (at n)) (sym here) ∙ (stored-table at t i table (is_word t i) (at (word_number t i)) refl refl point).1

-- the kind that points to a table
pub kind-of-table : (k : Kind) (table : ℕ) → table_of_kind k ≡ Some table → (global : Bool) × (k ≡ kinds.Table table global)
kind-of-table kinds.Invalid table is = absurd (cc)
kind-of-table kinds.Reserved table is = absurd (cc)
kind-of-table (kinds.Table ppn global) table is = (global, let same : ppn ≡ table = cc in ap (λ p. kinds.Table p global) same)
kind-of-table (kinds.Leaf ppn flags) table is = absurd (cc)
