-- What Begin and Load answer.
use Rattle.std.proofs.Common.{◌≡◌, ℕ, true, false, cond, ◌<◌, ◌||◌, not, inl, inr, List, [], ◌∷◌, Option, Some, None, refl, ap, sym, ◌∙◌, eqb}
use Rattle.std.specs.Prelude.{Result, Ok, Err}
use Rattle.std.proofs.lemmas.Bool.{and_parts, and_from, or_cases, or_left, or_right, eqb-true, eq-eqb, lt-ltb, ltb-true, not-false, false_from_ne_true, false≢true}
use Rattle.std.proofs.lemmas.List.Folds.{find-append}
use Rattle.pte.specs.Address.{IsCanonical, is_canonical}
use Rattle.pte.specs.declared.permission.Access.{Access}
use Rattle.pte.specs.declared.permission.Ctx.{Ctx}
use Rattle.pte.proofs.Schemes.{is_canonical-IsCanonical}
use Rattle.walk.specs.declared.found_or_trap.Found.{Found}
use Rattle.walk.specs.declared.found_or_trap.Trap.{Trap as Fault}
use Rattle.walk.specs.declared.found_or_trap.Why.TheVariants.{NotCanonical}
use Rattle.walk.specs.Answer.{page_trap}
use Rattle.shoot.proofs.HartSets.{by_test}
use Rattle.spaces.specs.Layout.{root_ppn}
use Rattle.tlb.specs.declared.store.Entry.{Entry}
use Rattle.tlb.specs.Answer.{answer_of}
use Rattle.tlb.specs.Entries.{holds, is_match, first_match}
use Rattle.tlb.proofs.Overlapping.{holds-Holds}
use Rattle.history.specs.Setup.{Setup, is_hart}
use Rattle.history.specs.declared.event.Event.TheVariants.{Begin, Load}
use Rattle.history.specs.declared.refusal.Refusal.TheVariants.{NoHart, NotWalking}
use Rattle.history.specs.declared.reply.Reply.TheVariants as reply
use Rattle.history.specs.Turns.{History}
use Rattle.history.specs.Runs.{with_turn}
use Rattle.history.specs.Tables.{words_of}
use Rattle.history.specs.Spaces.{asid_of}
use Rattle.history.specs.Harts.{Walking, walk_of, space_of, entries_of, outcome_of}
use Rattle.history.specs.Occurrences.{LeadsOn}
use Rattle.history.specs.Due.{goes_on, begin_reply, match_reply, end_reply, load_reply, due, Lawful}
use Rattle.history.specs.Translations.{MayBegin, Matches, IsFirstMatch, NoneMatches, WalkEnds}
use Rattle.history.proofs.Passing.{passed}
use Rattle.history.proofs.Walks.{goes_on_by, walk_outcome}

-- the test of a match is the fact
matches_to : (asid va : ℕ) (e : Entry) → is_match asid va e ≡ true → Matches asid va e
matches_to asid va e t =
    let p = and_parts (holds e.page va) (e.global || (eqb e.asid asid)) t in (
      (holds-Holds e.page va).0 p.0,
      elim (or_cases e.global (eqb e.asid asid) p.1) [ inl g ↦ inl g | inr a ↦ inr (eqb-true e.asid asid a) ],
    )

matches_from : (asid va : ℕ) (e : Entry) → Matches asid va e → is_match asid va e ≡ true
matches_from asid va e m =
    and_from (holds e.page va) (e.global || (eqb e.asid asid)) ((holds-Holds e.page va).1 m.0)
    (elim m.1 [ inl g ↦ or_left e.global (eqb e.asid asid) g | inr a ↦ or_right e.global (eqb e.asid asid) (eq-eqb e.asid asid a) ])

not_match : (asid va : ℕ) (e : Entry) → (Matches asid va e → ⊥) → is_match asid va e ≡ false
not_match asid va e n = false_from_ne_true (is_match asid va e) (λ t. n (matches_to asid va e t))

none_found : (asid va : ℕ) (entries : List Entry) → NoneMatches entries asid va → first_match entries asid va ≡ None
none_found asid va [] n = refl
none_found asid va (x ∷ xs) n =
    let rest = none_found asid va xs (λ other front back e. n other (x ∷ front) back (ap (λ (es : List Entry). x ∷ es) e)) in
    rw (not_match asid va x (n x [] xs refl)) rest

first_found : (asid va : ℕ) (entries : List Entry) (e : Entry) → IsFirstMatch entries asid va e → first_match entries asid va ≡ Some e
first_found asid va entries e f =
    rw (f.split, find-append (is_match asid va) f.older (e ∷ f.younger), none_found asid va f.older f.none_older, matches_from asid va e f.matches) refl

module _ (C : Setup) (H : History) (hart va : ℕ) (access : Access) (ctx : Ctx) (may : MayBegin C H hart) where
  begins : due C H (Begin hart va access ctx) ≡ begin_reply C H hart va access ctx
  begins = rw (lt-ltb hart C.harts may.there, may.still, may.free) refl

  matched : (o : Option Entry) → IsCanonical C.layout.scheme va → first_match (entries_of C H hart) (asid_of C H (space_of H hart)) va ≡ o
      → due C H (Begin hart va access ctx) ≡ match_reply va access ctx o
  matched o canonical e = begins ∙ rw ((is_canonical-IsCanonical C.layout.scheme va).1 canonical, e) refl

  pub hit : (e : Entry) (pa : ℕ) → IsCanonical C.layout.scheme va → IsFirstMatch (entries_of C H hart) (asid_of C H (space_of H hart)) va e
      → answer_of e va access ctx ≡ Ok pa → due C H (Begin hart va access ctx) ≡ reply.Hit pa
  hit e pa canonical f a = matched (Some e) canonical (first_found (asid_of C H (space_of H hart)) va (entries_of C H hart) e f) ∙ rw a refl

  pub trapped : (e : Entry) (trap : Fault) → IsCanonical C.layout.scheme va → IsFirstMatch (entries_of C H hart) (asid_of C H (space_of H hart)) va e
      → answer_of e va access ctx ≡ Err trap → due C H (Begin hart va access ctx) ≡ reply.Trap trap
  trapped e trap canonical f a = matched (Some e) canonical (first_found (asid_of C H (space_of H hart)) va (entries_of C H hart) e f) ∙ rw a refl

  pub walks : IsCanonical C.layout.scheme va → NoneMatches (entries_of C H hart) (asid_of C H (space_of H hart)) va → due C H (Begin hart va access ctx) ≡ reply.More
  walks canonical n = matched None canonical (none_found (asid_of C H (space_of H hart)) va (entries_of C H hart) n)

  pub not_canonical : (IsCanonical C.layout.scheme va → ⊥) → due C H (Begin hart va access ctx) ≡ reply.Trap (page_trap access NotCanonical)
  not_canonical n =
      let test : is_canonical C.layout.scheme va ≡ false = false_from_ne_true (is_canonical C.layout.scheme va) (λ t. n ((is_canonical-IsCanonical C.layout.scheme va).0 t)) in
      begins ∙ rw test refl

module _ (C : Setup) (H : History) (hart : ℕ) where
  loads : (o : Option Walking) → hart < C.harts → walk_of H hart ≡ o → due C H (Load hart) ≡ load_reply C H hart o
  loads o there w = rw (lt-ltb hart C.harts there, w) refl

  pub load_goes_on : (walk : Walking) → hart < C.harts → walk_of H hart ≡ Some walk
      → LeadsOn C.layout.scheme (words_of C H) (root_ppn C.layout (space_of H hart)) walk → due C H (Load hart) ≡ reply.More
  load_goes_on walk there w on = loads (Some walk) there w ∙ rw ((goes_on_by C H hart walk).1 on) refl

  pub load_without_walk : hart < C.harts → walk_of H hart ≡ None → due C H (Load hart) ≡ reply.Refused NotWalking
  load_without_walk there w = loads None there w

  pub load_ends : (walk : Walking) (answer : Result Found Fault) → Lawful C H → WalkEnds C H hart walk answer → due C H (Load hart) ≡ end_reply answer
  load_ends walk answer l w =
      let last : goes_on C H hart walk ≡ false = false_from_ne_true (goes_on C H hart walk) (λ t. w.last ((goes_on_by C H hart walk).0 t)) in
      let is = (walk_outcome C H hart (space_of H hart) walk answer l w.walking).1 w.outcome in
      loads (Some walk) w.there w.walking ∙ rw (last, sym is) refl

  -- what a Load that is answered Filled found
  abbrev Found_for : ℕ → Type 0
  Found_for pa = (walk : Walking) × (found : Found) × WalkEnds C H hart walk (Ok found) × (pa ≡ found.pa)

  ended : (pa : ℕ) (walk : Walking) (answer : Result Found Fault) → Lawful C H → hart < C.harts → walk_of H hart ≡ Some walk → goes_on C H hart walk ≡ false
      → answer ≡ outcome_of C H (space_of H hart) walk → end_reply answer ≡ reply.Filled pa → Found_for pa
  ended pa walk (Ok found) l there w last is e = (
    walk,
    found,
    record {
      there = there;
      walking = w;
      last = λ on. false≢true (sym last ∙ (goes_on_by C H hart walk).1 on);
      outcome = (walk_outcome C H hart (space_of H hart) walk (Ok found) l w).0 is;
    },
    cc,
  )
  ended pa walk (Err trap) l there w last is e = absurd (cc (e))

  in_walk : (pa : ℕ) (o : Option Walking) → Lawful C H → hart < C.harts → walk_of H hart ≡ o → load_reply C H hart o ≡ reply.Filled pa → Found_for pa
  in_walk pa None l there w e = absurd (cc (e))
  in_walk pa (Some walk) l there w e =
      by_test (λ t. goes_on C H hart walk ≡ t → cond t reply.More (end_reply (outcome_of C H (space_of H hart) walk)) ≡ reply.Filled pa → Found_for pa)
      (goes_on C H hart walk) (λ _ _ m. absurd (cc (m))) (λ _ last f. ended pa walk (outcome_of C H (space_of H hart) walk) l there w last refl f) refl e

  pub filled_found : (pa : ℕ) → Lawful C (with_turn (Load hart) (reply.Filled pa) H) → Found_for pa
  filled_found pa l =
      let p = passed (not (is_hart C hart)) NoHart (load_reply C H hart (walk_of H hart)) (reply.Filled pa) (sym l.1) refl in
      in_walk pa (walk_of H hart) l.0 (ltb-true hart C.harts (not-false (is_hart C hart) p.0)) refl p.1
