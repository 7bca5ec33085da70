-- The path of a Load, and the outcome of a walk.
use Rattle.pte.specs.declared.scheme.Scheme.{Scheme}
use Rattle.std.proofs.Common.{◌≡◌, ℕ, suc, ◌-◌, ◌<◌, ◌≤◌, true, cond, ◌&&◌, [], ◌∷◌, Option, Some, None, refl, ap, sym, ◌∙◌, subst, eqb, arith, ltb}
use Rattle.std.proofs.lemmas.Bool.{and_parts, ltb-true, lt-ltb, false≢true}
use Rattle.std.specs.Prelude.{◌↔◌, is_some, Result}
use Rattle.pte.specs.Address.{IsCanonical, top_level, is_canonical}
use Rattle.pte.specs.declared.permission.Access.{Access}
use Rattle.pte.specs.declared.permission.Ctx.{Ctx}
use Rattle.walk.specs.declared.found_or_trap.Found.{Found}
use Rattle.walk.specs.declared.found_or_trap.Trap.{Trap as Fault}
use Rattle.walk.specs.declared.found_or_trap.Why.TheVariants.{NotCanonical}
use Rattle.walk.specs.Answer.{page_trap}
use Rattle.walk.specs.Leads.{Tables, Leads, word_at}
use Rattle.walk.specs.Outcome.{Outcome}
use Rattle.walk.specs.Pointers.{table_after}
use Rattle.walk.proofs.Downward.{leads_by_pointers}
use Rattle.walk.proofs.Unique.{level_count_loads}
use Rattle.spaces.specs.Layout.{root_ppn}
use Rattle.tlb.specs.Entries.{first_match}
use Rattle.pte.proofs.Schemes.{is_canonical-IsCanonical}
use Rattle.history.specs.Setup.{Setup}
use Rattle.history.specs.Spaces.{asid_of}
use Rattle.history.specs.declared.event.Event.{Event}
use Rattle.history.specs.declared.event.Event.TheVariants.{Begin, Load}
use Rattle.history.specs.declared.refusal.Refusal.TheVariants.{NoHart, Walking, Serving}
use Rattle.history.specs.declared.reply.Reply.{Reply}
use Rattle.history.specs.declared.reply.Reply.TheVariants.{More, Filled, Trap}
use Rattle.history.specs.Turns.{History}
use Rattle.history.specs.Tables.{words_of}
use Rattle.history.specs.Harts.{Walking as Walk, space_of, walk_of, walk_after, begun, loaded, with_load, entries_of, outcome_of}
use Rattle.history.specs.Due.{goes_on, match_reply, begin_reply, due, Lawful}
use Rattle.history.specs.Occurrences.{LeadsOn}
use Rattle.shoot.proofs.HartSets.{by_test}
use Rattle.history.proofs.Passing.{passed}

-- n pointers lead from the root
pub leads_after : (scheme : Scheme) (words : Tables) (root va n table : ℕ) → n ≤ top_level scheme
    → (table_after scheme words root va n ≡ Some table) ↔ Leads scheme words root va (top_level scheme - n) table (word_at words va (top_level scheme - n) table)
leads_after scheme words root va n table l =
    let back : top_level scheme - (top_level scheme - n) ≡ n = omega arith in
    let both = leads_by_pointers scheme words root va (top_level scheme - n) table (word_at words va (top_level scheme - n) table) in (
      λ e. both.1 (omega arith, ap (table_after scheme words root va) back ∙ e, refl),
      λ p. sym (ap (table_after scheme words root va) back) ∙ (both.0 p).1,
    )

some_is : {A : Type 0} (o : Option A) → is_some o ≡ true → (a : A) × (o ≡ Some a)
some_is None e = absurd (false≢true e)
some_is (Some a) e = (a, refl)

-- a Load goes on over a pointer
on_to : (scheme : Scheme) (words : Tables) (root : ℕ) (walk : Walk) → (ltb walk.loads (top_level scheme) && is_some (table_after scheme words root walk.va (suc walk.loads))) ≡ true → LeadsOn scheme words root walk
on_to scheme words root walk e =
    let p = and_parts (ltb walk.loads (top_level scheme)) (is_some (table_after scheme words root walk.va (suc walk.loads))) e in
    let l : walk.loads < top_level scheme = ltb-true walk.loads (top_level scheme) p.0 in
    let t = some_is (table_after scheme words root walk.va (suc walk.loads)) p.1 in
    (l, (t.0, (leads_after scheme words root walk.va (suc walk.loads) t.0 (omega arith)).0 t.1))

on_from : (scheme : Scheme) (words : Tables) (root : ℕ) (walk : Walk) → LeadsOn scheme words root walk → (ltb walk.loads (top_level scheme) && is_some (table_after scheme words root walk.va (suc walk.loads))) ≡ true
on_from scheme words root walk p =
    let l : walk.loads < top_level scheme = p.0 in
    let t = (leads_after scheme words root walk.va (suc walk.loads) p.1.0 (omega arith)).1 p.1.1 in
    rw (lt-ltb walk.loads (top_level scheme) l, t) refl

pub goes_on_by : (C : Setup) (H : History) (hart : ℕ) (walk : Walk) → (goes_on C H hart walk ≡ true) ↔ LeadsOn C.layout.scheme (words_of C H) (root_ppn C.layout (space_of H hart)) walk
goes_on_by C H hart walk = (on_to C.layout.scheme (words_of C H) (root_ppn C.layout (space_of H hart)) walk, on_from C.layout.scheme (words_of C H) (root_ppn C.layout (space_of H hart)) walk)

-- the walks of a lawful history are for canonical addresses
abbrev IsCanonicalWalk : Scheme → Option Walk → Type 0
IsCanonicalWalk scheme o = (walk : Walk) → o ≡ Some walk → IsCanonical scheme walk.va

abbrev va_of : Option Walk → ℕ → ℕ
va_of None old = old
va_of (Some walk) old = walk.va

module _ (C : Setup) where
  begun_canonical : (H : History) (hart va : ℕ) (access : Access) (ctx : Ctx) → begin_reply C H hart va access ctx ≡ More → IsCanonical C.layout.scheme va
  begun_canonical H hart va access ctx e =
      by_test (λ t. is_canonical C.layout.scheme va ≡ t → cond t (match_reply va access ctx (first_match (entries_of C H hart) (asid_of C H (space_of H hart)) va)) (Trap (page_trap access NotCanonical)) ≡ More → IsCanonical C.layout.scheme va)
      (is_canonical C.layout.scheme va) (λ _ t _. (is_canonical-IsCanonical C.layout.scheme va).0 t) (λ _ _ e. absurd cc) refl e

  due_canonical : (H : History) (hart va : ℕ) (access : Access) (ctx : Ctx) → More ≡ due C H (Begin hart va access ctx) → IsCanonical C.layout.scheme va
  due_canonical H hart va access ctx e =
      let there = passed _ NoHart _ More (sym e) refl in
      let walk = passed _ Walking _ More there.1 refl in
      let serve = passed _ Serving _ More walk.1 refl in
      begun_canonical H hart va access ctx serve.1

  begun_keeps : (H : History) (hart va : ℕ) (access : Access) (ctx : Ctx) (r : Reply) (old : Option Walk) → r ≡ due C H (Begin hart va access ctx) → IsCanonicalWalk C.layout.scheme old
      → IsCanonicalWalk C.layout.scheme (begun r va access ctx old)
  begun_keeps H hart va access ctx More old d canonical walk e =
      let same : va ≡ walk.va = ap (λ o. va_of o va) e in
      subst (IsCanonical C.layout.scheme) same (due_canonical H hart va access ctx d)
  begun_keeps H hart va access ctx r old d canonical walk e = canonical walk e

  with_load_keeps : (old : Option Walk) → IsCanonicalWalk C.layout.scheme old → IsCanonicalWalk C.layout.scheme (with_load old)
  with_load_keeps None canonical walk e = absurd cc
  with_load_keeps (Some before) canonical walk e =
      let same : before.va ≡ walk.va = ap (λ o. va_of o before.va) e in
      subst (IsCanonical C.layout.scheme) same (canonical before refl)

  loaded_keeps : (r : Reply) (old : Option Walk) → IsCanonicalWalk C.layout.scheme old → IsCanonicalWalk C.layout.scheme (loaded r old)
  loaded_keeps More old canonical walk e = with_load_keeps old canonical walk e
  loaded_keeps (Filled pa) old canonical walk e = absurd cc
  loaded_keeps (Trap trap) old canonical walk e = absurd cc
  loaded_keeps r old canonical walk e = canonical walk e

  walk_keeps : (e : Event) (r : Reply) (H : History) (h : ℕ) (old : Option Walk) → r ≡ due C H e → IsCanonicalWalk C.layout.scheme old → IsCanonicalWalk C.layout.scheme (walk_after e r h old)
  walk_keeps (Begin hart va access ctx) r H h old d canonical =
      by_test (λ t. IsCanonicalWalk C.layout.scheme (cond t (begun r va access ctx old) old)) (eqb hart h) (λ _. begun_keeps H hart va access ctx r old d canonical) (λ _. canonical)
  walk_keeps (Load hart) r H h old d canonical =
      by_test (λ t. IsCanonicalWalk C.layout.scheme (cond t (loaded r old) old)) (eqb hart h) (λ _. loaded_keeps r old canonical) (λ _. canonical)
  walk_keeps e r H h old d canonical = canonical

  pub canonical_walk : (H : History) (h : ℕ) → Lawful C H → IsCanonicalWalk C.layout.scheme (walk_of H h)
  canonical_walk [] h l = λ walk e. cc
  canonical_walk (turn ∷ H) h l = walk_keeps turn.event turn.reply H h (walk_of H h) l.1 (canonical_walk H h l.0)

  -- what a walk of a lawful history finds is the outcome in the current words
  pub walk_outcome : (H : History) (h space : ℕ) (walk : Walk) (answer : Result Found Fault) → Lawful C H → walk_of H h ≡ Some walk
      → (answer ≡ outcome_of C H space walk) ↔ Outcome C.layout.scheme (words_of C H) (root_ppn C.layout space) walk.va walk.access walk.ctx answer
  walk_outcome H h space walk answer l w =
      let both = level_count_loads C.layout.scheme (words_of C H) (root_ppn C.layout space) walk.va walk.access walk.ctx answer (canonical_walk H h l walk w) in
      (both.1, both.0)
