-- A word is put down, and what points to a table goes with it.
use Rattle.std.proofs.Common.{ℕ, ◌≡◌, Bool, true, false, Option, Some, None, cond, ap, sym, ◌∙◌, subst, refl, inl, inr, ◌⊎◌, ◌<◌, arith, IsTrue}
use Rattle.std.specs.Prelude.{◌==◌, ◌&&◌, ◌||◌, not, Result, Ok, Err, OnOk, OnErr, eqb, nat_lt}
use Rattle.std.specs.Option.{option_eq}
use Rattle.std.specs.Result.{is_ok}
use Rattle.std.proofs.lemmas.Bool.{and_from, cases_eq, lt-ltb, cond-true, cond-false, eqb-true, eqb-false, eq-eqb, false_from_ne_true}
use Rattle.pte.specs.declared.entry.Kind.TheVariants as kinds
use Rattle.pte.specs.Entry.{kind_of}
use Rattle.walk.specs.Leads.{PointsTo}
use Rattle.watch_tables.specs.declared.frame.StoredWord.{StoredWord}
use Rattle.watch_tables.specs.Stored.{is_kept, is_table, table_of, table_of_kind, word_to_store}

pub zero-invalid : kind_of 0 ≡ kinds.Invalid
unfolding kind_of
zero-invalid = refl

-- 0 is no pointer
pub zero-points-nowhere : (next : ℕ) → PointsTo (Some 0) next → ⊥
zero-points-nowhere next point =
    let same : 0 ≡ point.entry = let e = point.is in cc in
    let kinds : kinds.Invalid ≡ kinds.Table next point.global = sym zero-invalid ∙ ap kind_of same ∙ point.kind in
    cc

word-kept : (number word count : ℕ) (test : Bool) → nat_lt number 2305843009213693952 ≡ true → (word == 0) ≡ test → IsTrue (is_kept number (cond test None (Some (record { word = word; since = count }))))
word-kept number word count true small is = refl
word-kept number word count false small is = and_from (nat_lt number 2305843009213693952) (not (word == 0)) small (ap not is)

word-table : (word count : ℕ) (test : Bool) → (word == 0) ≡ test → table_of (cond test None (Some (record { word = word; since = count }))) ≡ table_of_kind (kind_of word)
word-table word count true is = sym (ap table_of_kind (ap kind_of (eqb-true word 0 is) ∙ zero-invalid))
word-table word count false is = refl

-- tables that are one, and that are not
pub same-table : (from to : Option ℕ) → option_eq eqb from to ≡ true → from ≡ to
same-table None None is = refl
same-table None (Some t) is = cc
same-table (Some f) None is = cc
same-table (Some f) (Some t) is = ap Some (eqb-true f t is)

apart : (from to : Option ℕ) (table : ℕ) → option_eq eqb from to ≡ false → is_table from table ≡ true → is_table to table ≡ false
apart None to table is a = cc
apart (Some f) None table is a = refl
apart (Some f) (Some t) table is a = subst (λ n. (t == n) ≡ false) (eqb-true f table a) (false_from_ne_true (t == f) (λ h. absurd (eqb-false f t is (sym (eqb-true t f h)))))

pointer-put : (a b : Bool) → (a ≡ true → b ≡ false) → (not (a && true) && ((b && true) || a)) ≡ b
pointer-put true true none = let e = none refl in cc
pointer-put true false none = refl
pointer-put false true none = refl
pointer-put false false none = refl

pointer-undone : (a b : Bool) → (a ≡ true → b ≡ false) → (not (b && true) && ((b && true) || a)) ≡ a
pointer-undone true true none = let e = none refl in cc
pointer-undone true false none = refl
pointer-undone false true none = refl
pointer-undone false false none = refl

elsewhere : (a b c : Bool) → (not (a && false) && ((b && false) || c)) ≡ c
elsewhere true true c = refl
elsewhere true false c = refl
elsewhere false true c = refl
elsewhere false false c = refl

module _ (old new : ℕ → Option StoredWord) (number word count : ℕ) where
  abbrev pub Put : Type 0
  Put = (n : ℕ) → new n ≡ cond (n == number) (word_to_store word count) (old n)

  abbrev pub Kept : Type 0
  Kept = (n : ℕ) → new n ≡ old n

  abbrev pub to : Option ℕ
  to = table_of_kind (kind_of word)

  here : Put → (n : ℕ) → n ≡ number → new n ≡ word_to_store word count
  here put n is = put n ∙ cond-true (n == number) _ _ (eq-eqb n number is)

  there : Put → (n : ℕ) → (n ≡ number → ⊥) → new n ≡ old n
  there put n is = put n ∙ cond-false (n == number) _ _ (false_from_ne_true (n == number) (λ h. is (eqb-true n number h)))

  kept-put : number < 2305843009213693952 → ((n : ℕ) → IsTrue (is_kept n (old n))) → Put → (n : ℕ) → IsTrue (is_kept n (new n))
  kept-put small before put n =
      elim (cases_eq n number) [
        | inl same ↦ subst (λ (o : Option StoredWord). IsTrue (is_kept n o)) (sym (here put n same)) (word-kept n word count (word == 0) (lt-ltb n 2305843009213693952 (omega arith)) refl)
        | inr other ↦ subst (λ (o : Option StoredWord). IsTrue (is_kept n o)) (sym (there put n other)) (before n)
      ]

  pub kept-after : {E : Type 0} (r : Result (Unit {0}) E) → number < 2305843009213693952 → OnOk r Put → OnErr r Kept → ((n : ℕ) → IsTrue (is_kept n (old n))) → (n : ℕ) → IsTrue (is_kept n (new n))
  kept-after (Ok x) small put kept before = kept-put small before put
  kept-after (Err e) small put kept before = λ n. subst (λ (o : Option StoredWord). IsTrue (is_kept n o)) (sym (kept n)) (before n)

  module _ (before : ℕ → ℕ → Bool) (linked : (t n : ℕ) → before t n ≡ is_table (table_of (old n)) t) where
    -- a word that points to the same table as before
    tables-same : table_of (old number) ≡ to → Put → (n : ℕ) → table_of (old n) ≡ table_of (new n)
    tables-same same put n =
        elim (cases_eq n number) [
          | inl at ↦ ap (λ k. table_of (old k)) at ∙ same ∙ sym (ap table_of (here put n at) ∙ word-table word count (word == 0) refl)
          | inr other ↦ ap table_of (sym (there put n other))
        ]

    pub linked-same : {E : Type 0} (r : Result (Unit {0}) E) → OnOk r Put → OnErr r Kept → option_eq eqb (table_of (old number)) to ≡ true → (t n : ℕ) → before t n ≡ is_table (table_of (new n)) t
    linked-same (Ok x) put kept same t n = linked t n ∙ ap (λ o. is_table o t) (tables-same (same-table (table_of (old number)) to same) put n)
    linked-same (Err e) put kept same t n = linked t n ∙ ap (λ (o : Option StoredWord). is_table (table_of o) t) (sym (kept n))

    -- a word that points elsewhere
    module _ (between after : ℕ → ℕ → Bool) (gone : Option ℕ) (differ : option_eq eqb (table_of (old number)) to ≡ false)
        (added : (t n : ℕ) → between t n ≡ ((is_table to t && (number == n)) || before t n)) (removed : (t n : ℕ) → after t n ≡ (not (is_table gone t && (number == n)) && between t n)) where
      tests : (t n : ℕ) (same : Bool) → (number == n) ≡ same → after t n ≡ (not (is_table gone t && same) && ((is_table to t && same) || before t n))
      tests t n same is = removed t n ∙ ap (λ b. not (is_table gone t && (number == n)) && b) (added t n) ∙ ap (λ s. not (is_table gone t && s) && ((is_table to t && s) || before t n)) is

      pub linked-put : Put → gone ≡ table_of (old number) → (t n : ℕ) → after t n ≡ is_table (table_of (new n)) t
      linked-put put from t n =
          elim (cases_eq n number) [
            | inl at ↦
                tests t n true (eq-eqb number n (sym at)) ∙ ap (λ o. not (is_table o t && true) && ((is_table to t && true) || before t n)) from
                ∙ ap (λ b. not (is_table (table_of (old number)) t && true) && ((is_table to t && true) || b)) (linked t n ∙ ap (λ k. is_table (table_of (old k)) t) at)
                ∙ pointer-put (is_table (table_of (old number)) t) (is_table to t) (apart (table_of (old number)) to t differ)
                ∙ ap (λ o. is_table o t) (sym (ap table_of (here put n at) ∙ word-table word count (word == 0) refl))
            | inr other ↦
                tests t n false (false_from_ne_true (number == n) (λ h. other (sym (eqb-true number n h)))) ∙ elsewhere (is_table gone t) (is_table to t) (before t n)
                ∙ linked t n ∙ ap (λ (o : Option StoredWord). is_table (table_of o) t) (sym (there put n other))
          ]

      pub linked-undone : Kept → gone ≡ to → (t n : ℕ) → after t n ≡ is_table (table_of (new n)) t
      linked-undone kept from t n =
          elim (cases_eq n number) [
            | inl at ↦
                tests t n true (eq-eqb number n (sym at)) ∙ ap (λ o. not (is_table o t && true) && ((is_table to t && true) || before t n)) from
                ∙ ap (λ b. not (is_table to t && true) && ((is_table to t && true) || b)) (linked t n ∙ ap (λ k. is_table (table_of (old k)) t) at)
                ∙ pointer-undone (is_table (table_of (old number)) t) (is_table to t) (apart (table_of (old number)) to t differ)
                ∙ ap (λ k. is_table (table_of (old k)) t) (sym at) ∙ ap (λ (o : Option StoredWord). is_table (table_of o) t) (sym (kept n))
            | inr other ↦
                tests t n false (false_from_ne_true (number == n) (λ h. other (sym (eqb-true number n h)))) ∙ elsewhere (is_table gone t) (is_table to t) (before t n)
                ∙ linked t n ∙ ap (λ (o : Option StoredWord). is_table (table_of o) t) (sym (kept n))
          ]

      pub linked-after : {E : Type 0} (r : Result (Unit {0}) E) → OnOk r Put → OnErr r Kept → ((is_ok r ≡ true) × (gone ≡ table_of (old number))) ⊎ ((is_ok r ≡ false) × (gone ≡ to)) → (t n : ℕ) → after t n ≡ is_table (table_of (new n)) t
      linked-after (Ok x) put kept (inl from) = linked-put put from.1
      linked-after (Ok x) put kept (inr undone) = absurd (let e = undone.0 in cc)
      linked-after (Err e) put kept (inl from) = absurd (let e = from.0 in cc)
      linked-after (Err e) put kept (inr undone) = linked-undone kept undone.1

-- a test of what is the same
pub tested : (a b c d : Option ℕ) (test : Bool) → a ≡ c → b ≡ d → test ≡ option_eq eqb a b → option_eq eqb c d ≡ test
tested a b c d test left right is = ap (λ o. option_eq eqb o d) (sym left) ∙ ap (option_eq eqb a) (sym right) ∙ sym is
