-- What a port answers to each call is due, by the clauses of the call.
use Rattle.std.proofs.Common.{◌≡◌, ℕ, cond, Bool, true, false, not, ◌&&◌, [], ◌∷◌, Option, Some, None, refl, ap, sym, subst, ◌∙◌, arith}
use Rattle.std.specs.Prelude.{Result, Ok, Err, OnErr, is_none, if◌then◌else◌}
use Rattle.std.proofs.lemmas.Bool.{lt-ltb, false≢true}
use Rattle.atomic_table.specs.Table.{State as Shared}
use Rattle.pte.specs.declared.flags.PteFlags.{PteFlags}
use Rattle.pte.specs.declared.permission.Access.{Access}
use Rattle.pte.specs.declared.permission.Ctx.{Ctx}
use Rattle.pte.specs.Address.{IsCanonical, IsPage, Span, is_canonical, level_count, widest}
use Rattle.pte.proofs.Tests.{is_canonical-IsCanonical}
use Rattle.walk.specs.declared.found_or_trap.Trap.{Trap}
use Rattle.walk.specs.declared.found_or_trap.Why.TheVariants.{NotCanonical}
use Rattle.walk.specs.Answer.{page_trap}
use Rattle.spaces.specs.declared.places.Place.{Place}
use Rattle.spaces.specs.declared.wishes.Wish.TheVariants as wish
use Rattle.tlb.specs.declared.store.Entry.{Entry}
use Rattle.tlb.specs.Answer.{answer_of}
use Rattle.tlb.specs.Entries.{first_match}
use Rattle.shoot.specs.Request.{Request}
use Rattle.shoot.specs.declared.tickets.Collected.{Collected}
use Rattle.shoot.specs.declared.tickets.Collected.TheVariants as collected
use Rattle.shoot.specs.Tickets.{TicketTable, is_open, progress_at}
use Rattle.history.specs.Setup.{Setup, is_hart}
use Rattle.history.specs.Turns.{History, is_more}
use Rattle.history.specs.Due.{access_reply, are_pair, due, first_of, match_reply, when}
use Rattle.history.specs.declared.event.Event.{Event}
use Rattle.history.specs.declared.event.Event.TheVariants as event
use Rattle.history.specs.declared.event.Scope.{Scope}
use Rattle.history.specs.declared.refusal.Refusal.{Refusal}
use Rattle.history.specs.declared.refusal.Refusal.TheVariants.{NoHart, NotOpen}
use Rattle.history.specs.declared.reply.Reply.{Reply}
use Rattle.history.specs.declared.reply.Reply.TheVariants as reply
use Rattle.laws.proofs.Tools.{by_test}
use Rattle.stepcore.specs.Answers.{progress_reply}
use Rattle.stepcore.specs.Stands.{tickets_of}
use Rattle.views.specs.declared.view.View.{View}
use Rattle.views.specs.OrderTurns.{with_armed}
use Rattle.board.specs.declared.mapped.Mapped.{Mapped}
use Rattle.board.specs.declared.mapped.Mapped.TheVariants as mapped
use Rattle.board.specs.Ports.{PortState}
use Rattle.board.specs.Promises.{HasView}
use Rattle.board.specs.Answers.{ack_self_answer, answer_or, after_ack_self, after_close_to, after_finish_of, after_flush, after_no_post, close_answer, finish_answer, flush_answer, or_refusal, outbox_refusal, post_refusal, refused_if}
use Rattle.board.specs.Ports.{outbox_to}
use Rattle.board.specs.Collects.{IsCollected}
use Rattle.board.specs.Tables.{IsMissed, after_edit, after_fence, after_map, after_switch, edit_answer, map_answer, own_asid, switch_answer}
use Rattle.one_hart.specs.declared.call.Call.TheVariants as call
use Rattle.one_hart.specs.Answering.{call_told, heard, map_told, translation_told, opening_told, progress_told, service_told}
use Rattle.one_hart.specs.Asked.{Turned, loaded, turned}
use Rattle.one_hart.specs.Alone.{IsAlone, IsDueAtPort}
use Rattle.one_hart.proofs.Steps.{Steps, tied, told-due}
use Rattle.one_hart.proofs.Calls.{ack-steps, close-steps, fence-steps, finish-steps, flush-steps, nothing-looked, own-pair, post-steps, serve-steps, switch-steps}
use Rattle.one_hart.proofs.Edited.{change-steps, map-steps}
use Rattle.one_hart.proofs.Walked.{at-once, loaded-stops, walked-due}

-- ---- replies that no access gives are heard as they are

heard-opening : (r : Result ℕ Refusal) → opening_told r ≡ heard (opening_told r)
heard-opening (Ok ticket) = refl
heard-opening (Err why) = refl

heard-call : (r : Result (Unit {0}) Refusal) → call_told r ≡ heard (call_told r)
heard-call (Ok nothing) = refl
heard-call (Err why) = refl

heard-map : (r : Result Mapped Refusal) → map_told r ≡ heard (map_told r)
heard-map (Ok (mapped.Table ppn)) = refl
heard-map (Ok mapped.Leaf) = refl
heard-map (Err why) = refl

heard-progress : (r : Result Collected Refusal) → progress_told r ≡ heard (progress_told r)
heard-progress (Ok collected.Done) = refl
heard-progress (Ok (collected.Waiting harts)) = refl
heard-progress (Err why) = refl

heard-access : (r : Result ℕ Trap) → translation_told r ≡ heard (access_reply r)
heard-access (Ok pa) = refl
heard-access (Err trap) = refl

access-stops : (r : Result ℕ Trap) → is_more (access_reply r) ≡ false
access-stops (Ok pa) = refl
access-stops (Err trap) = refl

-- ---- a call whose result and port after are those of its steps

steps-to : (p after done : PortState) (e : Event) (r : Reply) → after ≡ done → Steps p done e r → Steps p after e r
steps-to p after done e r same steps = subst (λ (q : PortState). Steps p q e r) (sym same) steps

pub flush_due : (p after : PortState) (s : Scope) (named : ℕ) (r : Result ℕ Refusal) (answer : Reply) → r ≡ flush_answer p s named → after ≡ after_flush p s named
    → answer ≡ opening_told r → IsDueAtPort (call.Flush s named) p answer after
flush_due p after s named r answer is-r is-after same C H is =
    tied C H p after (event.Flush 0 s named) (opening_told (flush_answer p s named)) answer is (steps-to p after (after_flush p s named) _ _ is-after (flush-steps C H p is s named))
    (same ∙ ap opening_told is-r ∙ heard-opening (flush_answer p s named))

pub switch_due : (p after : PortState) (space : ℕ) (r : Result (Unit {0}) Refusal) (answer : Reply) → r ≡ switch_answer p space → after ≡ after_switch p space
    → answer ≡ call_told r → IsDueAtPort (call.Switch space) p answer after
switch_due p after space r answer is-r is-after same C H is =
    tied C H p after (event.Switch 0 space) (call_told (switch_answer p space)) answer is (steps-to p after (after_switch p space) _ _ is-after (switch-steps C H p is space))
    (same ∙ ap call_told is-r ∙ heard-call (switch_answer p space))

pub fence_due : (p after : PortState) (rs1 rs2 : Option ℕ) (answer : Reply) → after ≡ after_fence p rs1 rs2 → answer ≡ reply.Ok → IsDueAtPort (call.Fence rs1 rs2) p answer after
fence_due p after rs1 rs2 answer is-after same C H is =
    tied C H p after (event.Fence 0 rs1 rs2) reply.Ok answer is (steps-to p after (after_fence p rs1 rs2) _ _ is-after (fence-steps C H p is rs1 rs2)) same

pub finish_due : (p after : PortState) (ticket : ℕ) (r : Result (Unit {0}) Refusal) (answer : Reply) → r ≡ finish_answer p ticket → after ≡ after_finish_of p ticket
    → answer ≡ call_told r → IsDueAtPort (call.Finish ticket) p answer after
finish_due p after ticket r answer is-r is-after same C H is =
    tied C H p after (event.Finish 0 ticket) (call_told (finish_answer p ticket)) answer is (steps-to p after (after_finish_of p ticket) _ _ is-after (finish-steps C H p is ticket))
    (same ∙ ap call_told is-r ∙ heard-call (finish_answer p ticket))

pub ack_due : (p after : PortState) (ticket : ℕ) (r : Result Collected Refusal) (answer : Reply) → r ≡ ack_self_answer p ticket → after ≡ after_ack_self p ticket
    → answer ≡ progress_told r → IsDueAtPort (call.AckSelf ticket) p answer after
ack_due p after ticket r answer is-r is-after same C H is =
    tied C H p after (event.AckSelf 0 ticket) (progress_told (ack_self_answer p ticket)) answer is (steps-to p after (after_ack_self p ticket) _ _ is-after (ack-steps C H p is ticket))
    (same ∙ ap progress_told is-r ∙ heard-progress (ack_self_answer p ticket))

-- ---- there is no other hart

answer-first : {X : Type 0} (b : Bool) (rest : Option Refusal) (x : Result X Refusal) → b ≡ false → answer_or (refused_if (not b) NoHart rest) x ≡ Err NoHart
answer-first false rest x e = refl
answer-first true rest x e = absurd (false≢true (sym e))

refusal-first : (b : Bool) (rest more : Option Refusal) → b ≡ false → or_refusal (refused_if (not b) NoHart rest) more ≡ Some NoHart
refusal-first false rest more e = refl
refusal-first true rest more e = absurd (false≢true (sym e))

closes-nothing : {X : Type 0} (a b : Bool) (x y : X) → a ≡ false → cond (a && b) x y ≡ y
closes-nothing false b x y e = refl
closes-nothing true b x y e = absurd (false≢true (sym e))

pub close_due : (p after : PortState) (to : ℕ) (r : Result (Unit {0}) Refusal) (answer : Reply) → r ≡ close_answer p to → after ≡ after_close_to p to
    → answer ≡ call_told r → IsDueAtPort (call.CloseTo to) p answer after
close_due p after to r answer is-r is-after same C H is =
    let alone = own-pair C H p is to in
    let refused : r ≡ Err NoHart = is-r ∙ answer-first (are_pair p.setup p.hart to) _ _ alone in
    let stays : after ≡ p = is-after ∙ closes-nothing (are_pair p.setup p.hart to) _ _ _ alone in
    tied C H p after (event.Close 0 to) (reply.Refused NoHart) answer is (steps-to p after p _ _ stays (close-steps C H p is to))
    (same ∙ ap call_told refused)

pub post_due : (p after : PortState) (ticket to : ℕ) (r : Result (Unit {0}) Refusal) (answer : Reply)
    → ((why : Refusal) → post_refusal p ticket to ≡ Some why → r ≡ Err why) → OnErr r (after ≡ after_no_post p ticket to)
    → answer ≡ call_told r → IsDueAtPort (call.Post ticket to) p answer after
post_due p after ticket to r answer refuses stays same C H is =
    let alone = own-pair C H p is to in
    let why : post_refusal p ticket to ≡ Some NoHart = refusal-first (are_pair p.setup p.hart to) _ (outbox_refusal (outbox_to p to)) alone in
    let refused : r ≡ Err NoHart = refuses NoHart why in
    let same-port : after ≡ p = subst (λ (x : Result (Unit {0}) Refusal). OnErr x (after ≡ after_no_post p ticket to)) refused stays
    ∙ ap (λ (o : Option Refusal). if is_none o then record p { view = with_armed ticket to p.view } else p) why in
    tied C H p after (event.Post 0 ticket to) (reply.Refused NoHart) answer is (steps-to p after p _ _ same-port (post-steps C H p is ticket to))
    (same ∙ ap call_told refused)

pub serve_due : (p after : PortState) (from : ℕ) (r : Result Request Refusal) (answer : Reply) → (are_pair p.setup p.hart from ≡ false → r ≡ Err NoHart) → OnErr r (after ≡ p)
    → answer ≡ service_told r → IsDueAtPort (call.Serve from) p answer after
serve_due p after from r answer refuses stays same C H is =
    let refused : r ≡ Err NoHart = refuses (own-pair C H p is from) in
    tied C H p after (event.Take 0 from) (reply.Refused NoHart) answer is
    (steps-to p after p _ _ (subst (λ (x : Result Request Refusal). OnErr x (after ≡ p)) refused stays) (serve-steps C H p is from))
    (same ∙ ap service_told refused)

collect-told : (hart o : Bool) (c : Collected) (r : Result Collected Refusal) → hart ≡ true → (o ≡ false → r ≡ Err NotOpen) → (o ≡ true → r ≡ Ok c)
    → progress_told r ≡ heard (first_of (when (not hart) NoHart ∷ when (not o) NotOpen ∷ []) (progress_reply c))
collect-told hart true c r there none some = rw (there, some refl) (heard-progress (Ok c))
collect-told hart false c r there none some = rw (there, none refl) refl

pub collect_due : (p after : PortState) (ticket : ℕ) (r : Result Collected Refusal) (answer : Reply) → (is_open p.tickets ticket ≡ false → (r ≡ Err NotOpen) × (after ≡ p))
    → (is_open p.tickets ticket ≡ true → r ≡ Ok (progress_at after.tickets ticket)) → (is_open p.tickets ticket ≡ true → IsCollected p ticket p.setup.harts after)
    → answer ≡ progress_told r → IsDueAtPort (call.Collect ticket) p answer after
collect_due p after ticket r answer closed opened looks same C H is =
    let stays : after ≡ p =
    by_test (λ _. after ≡ p) (is_open p.tickets ticket) (λ t. let l = looks t in l.is ∙ nothing-looked C H p is ticket l.words) (λ f. (closed f).1) in
    let here : p.tickets ≡ tickets_of C H 0 = is.stands.tickets 0 (omega (arith, is.one)) in (
      same ∙ collect-told (is_hart C 0) (is_open p.tickets ticket) (progress_at p.tickets ticket) r (lt-ltb 0 C.harts (omega (arith, is.one))) (λ f. (closed f).0)
          (λ t. opened t ∙ ap (λ (q : PortState). Ok (progress_at q.tickets ticket)) stays)
          ∙ ap (λ (t : TicketTable). heard (first_of (when (not (is_hart C 0)) NoHart ∷ when (not (is_open t ticket)) NotOpen ∷ []) (progress_reply (progress_at t ticket)))) here,
      subst (IsAlone C H) (sym stays) is,
    )

-- ---- edits

module _ (p after : PortState) (state : Shared ℕ View) (view : HasView p state) where
  pub map_due : (place : Place) (page : Span) (ppn : ℕ) (flags : PteFlags) (r : Result Mapped Refusal) (answer : Reply) → IsPage page
      → r ≡ map_answer p (wish.Map place page ppn flags) → after ≡ after_map p (wish.Map place page ppn flags)
      → answer ≡ map_told r → IsDueAtPort (call.Map place page ppn flags) p answer after
  map_due place page ppn flags r answer is-page is-r is-after same C H is =
      tied C H p after (event.Map 0 place page ppn flags) (map_told (map_answer p (wish.Map place page ppn flags))) answer is
      (steps-to p after (after_map p (wish.Map place page ppn flags)) _ _ is-after (map-steps C H p is state view place page ppn flags is-page))
      (same ∙ ap map_told is-r ∙ heard-map (map_answer p (wish.Map place page ppn flags)))

  pub unmap_due : (place : Place) (page : Span) (named : ℕ) (r : Result ℕ Refusal) (answer : Reply) → IsPage page
      → r ≡ edit_answer p (wish.Unmap place page) named → after ≡ after_edit p (wish.Unmap place page) named
      → answer ≡ opening_told r → IsDueAtPort (call.Unmap place page named) p answer after
  unmap_due place page named r answer is-page is-r is-after same C H is =
      tied C H p after (event.Unmap 0 place page named) (opening_told (edit_answer p (wish.Unmap place page) named)) answer is
      (steps-to p after (after_edit p (wish.Unmap place page) named) _ _ is-after (change-steps C H p is state view (wish.Unmap place page) named refl is-page))
      (same ∙ ap opening_told is-r ∙ heard-opening (edit_answer p (wish.Unmap place page) named))

  pub protect_due : (place : Place) (page : Span) (flags : PteFlags) (named : ℕ) (r : Result ℕ Refusal) (answer : Reply) → IsPage page
      → r ≡ edit_answer p (wish.Protect place page flags) named → after ≡ after_edit p (wish.Protect place page flags) named
      → answer ≡ opening_told r → IsDueAtPort (call.Protect place page flags named) p answer after
  protect_due place page flags named r answer is-page is-r is-after same C H is =
      tied C H p after (event.Protect 0 place page flags named) (opening_told (edit_answer p (wish.Protect place page flags) named)) answer is
      (steps-to p after (after_edit p (wish.Protect place page flags) named) _ _ is-after (change-steps C H p is state view (wish.Protect place page flags) named refl is-page))
      (same ∙ ap opening_told is-r ∙ heard-opening (edit_answer p (wish.Protect place page flags) named))

  -- ---- translations

  at-once-due : (va : ℕ) (access : Access) (ctx : Ctx) (r : Reply) (answer : Reply) (C : Setup) (H : History) (is : IsAlone C H p) → after ≡ p
      → r ≡ cond (is_canonical p.setup.layout.scheme va) (match_reply va access ctx (first_match p.tlb.entries (own_asid p) va)) (reply.Trap (page_trap access NotCanonical)) → is_more r ≡ false → answer ≡ heard r
      → (let last = loaded (level_count widest) C (turned C (event.Begin 0 va access ctx) H) in (answer ≡ heard last.reply) × IsAlone C last.history after)
  at-once-due va access ctx r answer C H is stays is-r stops same =
      let steps = steps-to p after p _ _ stays (at-once C H p is va access ctx r is-r stops) in
      let due-is : r ≡ due C H (event.Begin 0 va access ctx) = told-due C H p after (event.Begin 0 va access ctx) r is steps in
      let once = turned C (event.Begin 0 va access ctx) H in
      subst (λ (t : Turned). (answer ≡ heard t.reply) × IsAlone C t.history after) (sym (loaded-stops C (level_count widest) once (ap is_more (sym due-is) ∙ stops)))
      (tied C H p after (event.Begin 0 va access ctx) r answer is steps same)

  pub translate_due : (va : ℕ) (access : Access) (ctx : Ctx) (r : Result ℕ Trap) (answer : Reply)
      → ((¬ IsCanonical p.setup.layout.scheme va) → (r ≡ Err (page_trap access NotCanonical)) × (after ≡ p))
      → ((entry : Entry) → IsCanonical p.setup.layout.scheme va → first_match p.tlb.entries (own_asid p) va ≡ Some entry → (r ≡ answer_of entry va access ctx) × (after ≡ p))
      → (IsCanonical p.setup.layout.scheme va → first_match p.tlb.entries (own_asid p) va ≡ None → IsMissed p va access ctx r after)
      → answer ≡ translation_told r → IsDueAtPort (call.Translate va access ctx) p answer after
  translate_due va access ctx r answer wrong hit miss same C H is =
      by_test (λ _. (let last = loaded (level_count widest) C (turned C (event.Begin 0 va access ctx) H) in (answer ≡ heard last.reply) × IsAlone C last.history after)) (is_canonical p.setup.layout.scheme va)
      (λ test. matched test ((is_canonical-IsCanonical p.setup.layout.scheme va).0 test) (first_match p.tlb.entries (own_asid p) va) refl)
      (λ test.
      let w = wrong (λ canonical. false≢true (sym test ∙ (is_canonical-IsCanonical p.setup.layout.scheme va).1 canonical)) in
      at-once-due va access ctx (reply.Trap (page_trap access NotCanonical)) answer C H is w.1 (sym (ap (λ (v : Bool). cond v (match_reply va access ctx (first_match p.tlb.entries (own_asid p) va)) (reply.Trap (page_trap access NotCanonical))) test)) refl
      (same ∙ ap translation_told w.0))
    where
      matched : is_canonical p.setup.layout.scheme va ≡ true → IsCanonical p.setup.layout.scheme va → (o : Option Entry) → first_match p.tlb.entries (own_asid p) va ≡ o
          → (let last = loaded (level_count widest) C (turned C (event.Begin 0 va access ctx) H) in (answer ≡ heard last.reply) × IsAlone C last.history after)
      matched test canonical (Some entry) found =
          let h = hit entry canonical found in
          at-once-due va access ctx (access_reply (answer_of entry va access ctx)) answer C H is h.1
          (sym (ap (λ (v : Bool). cond v (match_reply va access ctx (first_match p.tlb.entries (own_asid p) va)) (reply.Trap (page_trap access NotCanonical))) test ∙ ap (match_reply va access ctx) found))
          (access-stops (answer_of entry va access ctx)) (same ∙ ap translation_told h.0 ∙ heard-access (answer_of entry va access ctx))
      matched test canonical None none =
          let done = walked-due C H p is state view va access ctx r after (miss canonical none) canonical test none in
          (same ∙ done.0, done.1)
