-- What a machine's tables map is what those of the history map at which it stands.
use Rattle.std.proofs.Common.{◌≡◌, ℕ, ◌<◌, true, cond, not, length, Option, Some, None, refl, ap, sym, ◌∙◌, subst}
use Rattle.std.specs.Prelude.{is_none, nat_lt, ◌↔◌}
use Rattle.std.proofs.lemmas.Bool.{and_parts, and_from, eqb-true, eq-eqb, false≢true, not-true, not_from_false, ltb-true, lt-ltb}
use Rattle.walk.specs.Leads.{Tables}
use Rattle.walk.specs.Maps.{Maps}
use Rattle.spaces.specs.Layout.{Layout, root_ppn}
use Rattle.tlb.specs.Mappings.{Mapping}
use Rattle.history.specs.Setup.{Setup}
use Rattle.history.specs.Turns.{History}
use Rattle.history.specs.Spaces.{status_of, asid_of}
use Rattle.history.specs.Spaces as spaces
use Rattle.history.specs.Tables.{words_of}
use Rattle.history.specs.Staleness.{HasAsid, Reaches, IsMapped, IsMappedNow}
use Rattle.history.specs.Due as dues
use Rattle.laws.proofs.Tools.{by_test}
use Rattle.stepcore.specs.State.{State, words_in, space_at}
use Rattle.stepcore.specs.Answers as answers
use Rattle.stepcore.specs.Stands.{Stands}
use Rattle.stepcore.proofs.HartReplies.{words_same, layout_same}
use Rattle.stepcore.proofs.SpaceReplies.{space_same, space_below}
use Rattle.stale.specs.Mapped.{is_of, is_reached, IsMappedFrom, IsMappedIn}

module _ (C : Setup) (m : State) (H : History) (st : Stands C m H) where
  homes_same : length m.memory.layout.homes ≡ length C.asids
  homes_same = ap (λ (l : Layout). length l.homes) (layout_same C m H st) ∙ sym st.within.homes

  in_homes : (s : ℕ) → s < length C.asids → nat_lt s (length m.memory.layout.homes) ≡ true
  in_homes s below = lt-ltb s (length m.memory.layout.homes) (subst (λ n. s < n) (sym homes_same) below)

  asid_has : (a s : ℕ) → is_of a (answers.asid_of_space m s) ≡ true → HasAsid C H s a
  asid_has a s =
      by_test (λ v. is_of a (cond v (Some (space_at m s).asid) None) ≡ true → HasAsid C H s a) (answers.is_space m s)
      (λ there same. let is : dues.is_space C H s ≡ true = sym (space_same C m H st s) ∙ there in
      let below = space_below C m H st s is in
      record {
        there = below;
        kept = not-true (spaces.is_free (status_of H s)) (and_parts (dues.is_number C s) (not (spaces.is_free (status_of H s))) is).1;
        same = sym (st.spaces s below).asid ∙ eqb-true (space_at m s).asid a same;
      })
      (λ _ e. absurd (false≢true e))

  asid_had : (a s : ℕ) → HasAsid C H s a → is_of a (answers.asid_of_space m s) ≡ true
  asid_had a s has =
      let is : dues.is_space C H s ≡ true = and_from (dues.is_number C s) (not (spaces.is_free (status_of H s))) (lt-ltb s (length C.asids) has.there) (not_from_false (spaces.is_free (status_of H s)) has.kept) in
      rw (space_same C m H st s ∙ is) (eq-eqb (space_at m s).asid a ((st.spaces s has.there).asid ∙ has.same))

  pub reached_reaches : (of : Option ℕ) (s : ℕ) → is_reached m of s ≡ true → Reaches C H of s
  reached_reaches None s e = subst (λ n. s < n) homes_same (ltb-true s (length m.memory.layout.homes) (and_parts (nat_lt s (length m.memory.layout.homes)) true e).0)
  reached_reaches (Some a) s e = asid_has a s (and_parts (nat_lt s (length m.memory.layout.homes)) (is_of a (answers.asid_of_space m s)) e).1

  pub reaches_reached : (of : Option ℕ) (s : ℕ) → Reaches C H of s → is_reached m of s ≡ true
  reaches_reached None s below = and_from (nat_lt s (length m.memory.layout.homes)) true (in_homes s below) refl
  reaches_reached (Some a) s has = and_from (nat_lt s (length m.memory.layout.homes)) (is_of a (answers.asid_of_space m s)) (in_homes s has.there) (asid_had a s has)

  pub from_same : (s : ℕ) (p : Mapping) → IsMappedFrom m.memory s p ≡ IsMapped C (words_of C H) s p
  from_same s p =
      ap (λ (l : Layout). Maps l.scheme (words_in m) (root_ppn l s) p.page p.ppn p.flags (is_none p.asid)) (layout_same C m H st)
      ∙ ap (λ (words : Tables). Maps C.layout.scheme words (root_ppn C.layout s) p.page p.ppn p.flags (is_none p.asid)) (words_same C m H st)

  pub mapped_now : (p : Mapping) → IsMappedIn m p ↔ IsMappedNow C H (words_of C H) p.asid p
  mapped_now p = (
    λ mapped. record {
      some = (mapped.some.0, reached_reaches p.asid mapped.some.0 mapped.some.1);
      each = λ s reach. subst (λ (T : Type 0). T) (from_same s p) (mapped.each s (reaches_reached p.asid s reach));
    },
    λ now. record {
      some = (now.some.0, reaches_reached p.asid now.some.0 now.some.1);
      each = λ s reached. subst (λ (T : Type 0). T) (sym (from_same s p)) (now.each s (reached_reaches p.asid s reached));
    },
  )
