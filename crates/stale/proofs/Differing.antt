-- No two entries of a TLB are equal: a walk begins only where no entry matches its address, none
-- comes to match it until the walk ends, and what the walk fills matches it.
use Rattle.std.proofs.Common.{◌≡◌, ℕ, zero, suc, ◌-◌, Bool, true, false, cond, ◌&&◌, not, List, [], ◌∷◌, ◌++◌, length, drop, Option, Some, None, filter, refl, ap, sym, ◌∙◌, subst, eqb, ◌⊎◌, inl, inr, arith}
use Rattle.std.specs.Prelude.{◌≢◌, All, AllPairs, Result, Ok, Err, find, is_some}
use Rattle.std.proofs.lemmas.Bool.{and_parts, eqb-true, eq-eqb, false≢true, true≢false}
use Rattle.std.proofs.lemmas.List.Elements.{All-nil, All-cons, All-weaker}
use Rattle.std.proofs.lemmas.List.Kept.{AllPairs-filter}
use Rattle.std.proofs.lemmas.List.Quantifiers.{all_pairs_push}
use Rattle.pte.specs.declared.permission.Access.{Access}
use Rattle.pte.specs.declared.permission.Ctx.{Ctx}
use Rattle.pte.specs.Address.{is_canonical}
use Rattle.walk.specs.declared.found_or_trap.Found.{Found}
use Rattle.walk.specs.declared.found_or_trap.Trap.{Trap}
use Rattle.walk.specs.declared.found_or_trap.Why.TheVariants.{NotCanonical}
use Rattle.walk.specs.Answer.{page_trap}
use Rattle.spaces.specs.Layout.{root_ppn}
use Rattle.tlb.specs.declared.store.Entry.{Entry}
use Rattle.tlb.specs.declared.store.TheConstants.{TLB_SIZE}
use Rattle.tlb.specs.Answer.{answer_of, entry_of}
use Rattle.tlb.specs.Entries.{filled, first_match, is_match}
use Rattle.tlb.specs.Fence.{is_fenced}
use Rattle.tlb.specs.Service.{is_dropped}
use Rattle.tlb.proofs.Walked.{entry_matches}
use Rattle.history.specs.declared.refusal.Refusal.TheVariants.{NoHart, NoSpace, Walking as WalkInFlight, Retiring, Serving}
use Rattle.history.specs.Setup.{Setup}
use Rattle.history.specs.declared.event.Event.{Event}
use Rattle.history.specs.declared.event.Event.TheVariants.{Begin, Load, Switch, Fence, ServeFence, AckSelf, Create}
use Rattle.history.specs.declared.reply.Reply.{Reply}
use Rattle.history.specs.declared.reply.Reply.TheVariants as reply
use Rattle.history.specs.Turns.{Turn, History, is_ok, is_filled, is_progress}
use Rattle.history.specs.Orders.{open_order, what_of}
use Rattle.history.specs.Service.{served, what_served}
use Rattle.history.specs.Spaces.{status_of, is_free, asid_of}
use Rattle.history.specs.Tables.{words_of}
use Rattle.history.specs.Harts.{Walking, begun, loaded, with_load, walk_after, walk_of, space_of, outcome_of, with_found, with_fill, entries_of}
use Rattle.history.specs.Due.{access_reply, match_reply, due, Lawful}
use Rattle.history.proofs.Walks.{walk_outcome}
use Rattle.laws.specs.Fills.{Fills}
use Rattle.laws.specs.Kept.{IsSetup}
use Rattle.laws.proofs.Tools.{by_test, none_since}
use Rattle.laws.proofs.Accepted.{turn_of, passed, ok_accepted, create_found}
use Rattle.laws.proofs.Asids.{live_hart}
use Rattle.laws.proofs.Walkers.{walking_there}
use Rattle.laws.proofs.Filling.{entries_each}
use Rattle.stale.specs.Told.{AreDifferent}

-- no entry matches the address
abbrev AreUnmatched : ℕ → ℕ → List Entry → Type 0
AreUnmatched asid va entries = All (λ e. is_match asid va e ≡ false) entries

unmatched : (asid va : ℕ) (entries : List Entry) → first_match entries asid va ≡ None → AreUnmatched asid va entries
unmatched asid va [] e = All-nil (λ e. is_match asid va e ≡ false)
unmatched asid va (x ∷ xs) e =
    by_test (λ v. cond v (Some x) (find (is_match asid va) xs) ≡ None → AreUnmatched asid va (x ∷ xs)) (is_match asid va x)
    (λ _ q. absurd cc) (λ f q. All-cons (λ y. is_match asid va y ≡ false) x xs f (unmatched asid va xs q)) e

-- an access that begins a walk was answered by no entry
no_more : (answer : Result ℕ Trap) → access_reply answer ≡ reply.More → ⊥
no_more (Ok pa) e = cc
no_more (Err trap) e = cc

no_trap : (trap : Trap) → reply.Trap trap ≡ reply.More → ⊥
no_trap trap e = cc

no_walk : (w : Walking) → None ≡ Some w → ⊥
no_walk w e = cc

missed : (va : ℕ) (access : Access) (ctx : Ctx) (o : Option Entry) → match_reply va access ctx o ≡ reply.More → o ≡ None
missed va access ctx None e = refl
missed va access ctx (Some entry) e = absurd (no_more (answer_of entry va access ctx) e)

-- a walk that goes on, for the same address
abbrev GoesOn : Option Walking → Walking → Type 0
GoesOn old w = (v : Walking) × (old ≡ Some v) × (v.va ≡ w.va)

abbrev va_of : Option Walking → ℕ → ℕ
va_of None other = other
va_of (Some walk) other = walk.va

load_goes_on : (old : Option Walking) (w : Walking) → with_load old ≡ Some w → GoesOn old w
load_goes_on None w e = absurd cc
load_goes_on (Some v) w e = (v, refl, ap (λ o. va_of o v.va) e)

loaded_goes_on : (r : Reply) (old : Option Walking) (w : Walking) → loaded r old ≡ Some w → GoesOn old w
loaded_goes_on reply.More old w e = load_goes_on old w e
loaded_goes_on (reply.Filled pa) old w e = absurd cc
loaded_goes_on (reply.Trap trap) old w e = absurd cc
loaded_goes_on _ old w e = (w, e, refl)

-- a fill ends the walk
filled_ends : (r : Reply) (h : ℕ) (old : Option Walking) → is_filled r ≡ true → walk_after (Load h) r h old ≡ None
filled_ends (reply.Filled pa) h old e = rw (eq-eqb h h refl) refl
filled_ends _ h old e = absurd (false≢true e)

-- lists of different elements
AllPairs-drop : {X : Type 0} (R : X → X → Type 0) (n : ℕ) (xs : List X) → AllPairs R xs → AllPairs R (drop n xs)
AllPairs-drop R zero xs h = h
AllPairs-drop R (suc n) [] h = h
AllPairs-drop R (suc n) (x ∷ xs) h = AllPairs-drop R n xs (λ i j d lt within. h (suc i) (suc j) d (omega arith) (omega arith))

different_filled : (entries : List Entry) (e : Entry) → AreDifferent entries → All (λ x. x ≢ e) entries → AreDifferent (filled entries e)
different_filled entries e old new =
    AllPairs-drop (λ a b. a ≢ b) (length (entries ++ e ∷ []) - TLB_SIZE) (entries ++ e ∷ []) (all_pairs_push (λ a b. a ≢ b) entries e old new)

different_left : (test : Entry → Bool) (apply : Bool) (entries : List Entry) → AreDifferent entries → AreDifferent (cond apply (filter test entries) entries)
different_left test true entries old = AllPairs-filter (λ a b. a ≢ b) test entries old
different_left test false entries old = old

different_found : (asid : ℕ) (answer : Result Found Trap) (old : List Entry) → AreDifferent old → ((found : Found) → answer ≡ Ok found → All (λ x. x ≢ entry_of asid found) old)
    → AreDifferent (with_found asid answer old)
different_found asid (Ok found) old are new = different_filled old (entry_of asid found) are (new found refl)
different_found asid (Err trap) old are new = are

different_fill : (C : Setup) (H : History) (space : ℕ) (walk : Option Walking) (old : List Entry) → AreDifferent old
    → ((w : Walking) (found : Found) → walk ≡ Some w → outcome_of C H space w ≡ Ok found → All (λ x. x ≢ entry_of (asid_of C H space) found) old)
    → AreDifferent (with_fill C H space walk old)
different_fill C H space None old are new = are
different_fill C H space (Some w) old are new = different_found (asid_of C H space) (outcome_of C H space w) old are (λ found e. new w found refl e)

module _ (C : Setup) (setup : IsSetup C) where
  abbrev Misses : History → ℕ → Walking → Type 0
  Misses H h w = AreUnmatched (asid_of C H (space_of H h)) w.va (entries_of C H h)

  begin_misses : (H : History) (h va : ℕ) (access : Access) (ctx : Ctx) → reply.More ≡ due C H (Begin h va access ctx)
      → AreUnmatched (asid_of C H (space_of H h)) va (entries_of C H h)
  begin_misses H h va access ctx d =
      let there = passed _ NoHart _ reply.More (sym d) refl in
      let walk = passed _ WalkInFlight _ reply.More there.1 refl in
      let serve = passed _ Serving _ reply.More walk.1 refl in
      let asid = asid_of C H (space_of H h) in
      unmatched asid va (entries_of C H h)
      (missed va access ctx (first_match (entries_of C H h) asid va)
      (by_test (λ t. cond t (match_reply va access ctx (first_match (entries_of C H h) asid va)) (reply.Trap (page_trap access NotCanonical)) ≡ reply.More
      → match_reply va access ctx (first_match (entries_of C H h) asid va) ≡ reply.More) (is_canonical C.layout.scheme va) (λ _ e. e) (λ _ e. absurd (no_trap (page_trap access NotCanonical) e)) serve.1))

  begun_cases : (H : History) (h va : ℕ) (access : Access) (ctx : Ctx) (r : Reply) (w : Walking) → r ≡ due C H (Begin h va access ctx) → begun r va access ctx (walk_of H h) ≡ Some w
      → GoesOn (walk_of H h) w ⊎ Misses H h w
  begun_cases H h va access ctx reply.More w d e =
      inr (subst (λ a. AreUnmatched (asid_of C H (space_of H h)) a (entries_of C H h)) (ap (λ o. va_of o va) e) (begin_misses H h va access ctx d))
  begun_cases H h va access ctx _ w d e = inl (w, e, refl)

  -- a walk in flight went on, or began where no entry matches
  walk_cases : (event : Event) (r : Reply) (H : History) (h : ℕ) (w : Walking) → r ≡ due C H event → walk_after event r h (walk_of H h) ≡ Some w → GoesOn (walk_of H h) w ⊎ Misses H h w
  walk_cases (Begin b va access ctx) r H h w d e =
      by_test (λ v. cond v (begun r va access ctx (walk_of H h)) (walk_of H h) ≡ Some w → GoesOn (walk_of H h) w ⊎ Misses H h w) (eqb b h)
      (λ t q. begun_cases H h va access ctx r w (d ∙ ap (λ x. due C H (Begin x va access ctx)) (eqb-true b h t)) q) (λ _ q. inl (w, q, refl)) e
  walk_cases (Load b) r H h w d e =
      by_test (λ v. cond v (loaded r (walk_of H h)) (walk_of H h) ≡ Some w → GoesOn (walk_of H h) w ⊎ Misses H h w) (eqb b h)
      (λ _ q. inl (loaded_goes_on r (walk_of H h) w q)) (λ _ q. inl (w, q, refl)) e
  walk_cases _ r H h w d e = inl (w, e, refl)

  -- a hart that walks keeps its space, and that its ASID
  no_switch : (H : History) (h s : ℕ) (r : Reply) (w : Walking) → r ≡ due C H (Switch h s) → is_ok r ≡ true → walk_of H h ≡ Some w → ⊥
  no_switch H h s r w d z e =
      let a = ok_accepted r z in
      let there = passed _ NoHart _ r (sym d) a in
      let space = passed _ NoSpace _ r there.1 a in
      let live = passed _ Retiring _ r space.1 a in
      let walks = passed (is_some (walk_of H h)) WalkInFlight _ r live.1 a in
      no_walk w (sym (none_since (walk_of H h) walks.0) ∙ e)

  same_asid : (event : Event) (r : Reply) (H : History) (h : ℕ) (w : Walking) → Lawful C H → r ≡ due C H event → walk_after event r h (walk_of H h) ≡ Some w
      → asid_of C (turn_of event r ∷ H) (space_of (turn_of event r ∷ H) h) ≡ asid_of C H (space_of H h)
  same_asid (Switch b s) r H h w l d e =
      by_test (λ v. asid_of C H (cond v s (space_of H h)) ≡ asid_of C H (space_of H h)) (is_ok r && eqb b h)
      (λ z. let p = and_parts (is_ok r) (eqb b h) z in
      absurd (no_switch H h s r w (d ∙ ap (λ x. due C H (Switch x s)) (eqb-true b h p.1)) p.0 e))
      (λ _. refl)
  same_asid (Create hart space asid) r H h w l d e =
      by_test (λ v. cond v asid (asid_of C H (space_of H h)) ≡ asid_of C H (space_of H h)) (is_ok r && eqb space (space_of H h))
      (λ z. let p = and_parts (is_ok r) (eqb space (space_of H h)) z in
      let live = live_hart C setup H h l (walking_there C H h l w e) in
      absurd (true≢false (sym (create_found C H hart space asid r d p.0).free ∙ ap (λ x. is_free (status_of H x)) (eqb-true space (space_of H h) p.1) ∙ ap is_free live)))
      (λ _. refl)
  same_asid _ r H h w l d e = refl

  no_fill : (turn : Turn) (H : History) (h : ℕ) (e : Entry) (w : Walking) → Fills C h e turn H → walk_of (turn ∷ H) h ≡ Some w → ⊥
  no_fill turn H h e w f walks =
      no_walk w (sym (filled_ends turn.reply h (walk_of H h) f.accepted) ∙ ap (λ (x : Event). walk_after x turn.reply h (walk_of H h)) (sym f.event) ∙ walks)

  -- while a hart walks, no entry of its TLB matches the address
  pub walk_misses : (H : History) (h : ℕ) (w : Walking) → Lawful C H → walk_of H h ≡ Some w → Misses H h w
  walk_misses [] h w l e = absurd cc
  walk_misses (turn ∷ H) h w l e =
      let asid = asid_of C H (space_of H h) in
      let before : Misses H h w = elim (walk_cases turn.event turn.reply H h w l.1 e) [
        | inl on ↦ subst (λ a. AreUnmatched asid a (entries_of C H h)) on.2 (walk_misses H h on.0 l.0 on.1)
        | inr begins ↦ begins
      ] in
      subst (λ a. AreUnmatched a w.va (entries_of C (turn ∷ H) h)) (sym (same_asid turn.event turn.reply H h w l.0 l.1 e))
      (entries_each C turn.event turn.reply H h (λ x. is_match asid w.va x ≡ false) before (λ x f. absurd (no_fill turn H h x w f e)))

  -- so no entry is the one that the walk fills
  fill_is_new : (H : History) (h : ℕ) (w : Walking) (found : Found) → Lawful C H → walk_of H h ≡ Some w → outcome_of C H (space_of H h) w ≡ Ok found
      → All (λ x. x ≢ entry_of (asid_of C H (space_of H h)) found) (entries_of C H h)
  fill_is_new H h w found l walks finds =
      let asid = asid_of C H (space_of H h) in
      let out = (walk_outcome C H h (space_of H h) w (Ok found) l walks).0 (sym finds) in
      let matches = (entry_matches C.layout.scheme (words_of C H) (root_ppn C.layout (space_of H h)) w.va w.access w.ctx found asid out).1 in
      All-weaker (λ x. is_match asid w.va x ≡ false) (λ x. x ≢ entry_of asid found)
      (λ x none same. false≢true (sym none ∙ ap (is_match asid w.va) same ∙ matches)) (entries_of C H h) (walk_misses H h w l walks)

  differ_step : (event : Event) (r : Reply) (H : History) (h : ℕ) → Lawful C H → AreDifferent (entries_of C H h) → AreDifferent (entries_of C (turn_of event r ∷ H) h)
  differ_step (Load b) r H h l old =
      by_test (λ v. AreDifferent (cond v (with_fill C H (space_of H h) (walk_of H h) (entries_of C H h)) (entries_of C H h))) (is_filled r && eqb b h)
      (λ _. different_fill C H (space_of H h) (walk_of H h) (entries_of C H h) old (λ w found walks finds. fill_is_new H h w found l walks finds)) (λ _. old)
  differ_step (Fence b rs1 rs2) r H h l old = different_left (λ e. not (is_fenced C.layout.scheme rs1 rs2 e)) (is_ok r && eqb b h) (entries_of C H h) old
  differ_step (ServeFence b) r H h l old = different_left (λ e. not (is_dropped (what_served (served C H h)) e)) (is_ok r && eqb b h) (entries_of C H h) old
  differ_step (AckSelf b t) r H h l old = different_left (λ e. not (is_dropped (what_of C H (open_order H b t)) e)) (is_progress r && eqb b h) (entries_of C H h) old
  differ_step _ r H h l old = old

  pub entries_differ : (H : History) (h : ℕ) → Lawful C H → AreDifferent (entries_of C H h)
  entries_differ [] h l = λ i j d lt within. absurd (omega arith)
  entries_differ (turn ∷ H) h l = differ_step turn.event turn.reply H h l.0 (entries_differ H h l.0)
