-- Runs, one answered event at a time, and what holds of a machine that stands at a history.
use Rattle.std.proofs.Common.{◌≡◌, ℕ, ◌+◌, ◌-◌, ◌<◌, ◌≤◌, List, [], ◌∷◌, ◌++◌, take, length, Option, None, Some, slice_get, refl, ap, sym, ◌∙◌, subst, arith}
use Rattle.std.proofs.Math.Seq.{take-length}
use Rattle.std.specs.Prelude.{slice_index, option_map, unwrap_or}
use Rattle.pte.specs.declared.scheme.Scheme.{Scheme}
use Rattle.pte.specs.Address.{top_level}
use Rattle.walk.specs.Leads.{Tables}
use Rattle.walk.specs.Pointers.{table_after}
use Rattle.walk.specs.Stage.{Stage}
use Rattle.walk.proofs.Downward.{leads_by_pointers}
use Rattle.spaces.specs.Layout.{root_ppn, spare_ppn}
use Rattle.std.proofs.lemmas.List.{drop_all, drop-append-le}
use Rattle.tlb.specs.declared.store.Entry.{Entry}
use Rattle.shoot.specs.Mailbox.{MailboxState, empty_mailbox}
use Rattle.shoot.specs.Request.{Request}
use Rattle.history.specs.Setup.{Setup}
use Rattle.history.specs.declared.event.Event.{Event}
use Rattle.history.specs.declared.reply.Reply.{Reply}
use Rattle.history.specs.Turns.{History}
use Rattle.history.specs.Mailboxes.{accepted, taken}
use Rattle.history.specs.Occurrences.{NoneAfterClose}
use Rattle.history.specs.Runs.{with_turn, due_replies}
use Rattle.history.specs.Due.{due}
use Rattle.history.specs.Completion.{ClearOnceDone}
use Rattle.history.specs.Staleness.{Clear, Coherent, HoldsUsedAsids}
use Rattle.history.specs.Spaces.{Live, status_of, holder_of}
use Rattle.history.specs.Tables.{words_of}
use Rattle.std.proofs.Math.Path.{fun_ext}
use Rattle.history.specs.Harts.{Walking, entries_of, space_of, walk_of}
use Rattle.history.proofs.Mailboxes as mailboxes
use Rattle.laws.proofs.Asids.{holds_used, live_hart}
use Rattle.laws.proofs.Clearing.{clear}
use Rattle.laws.proofs.Cohering.{coherent}
use Rattle.laws.proofs.Completed.{done_clear}
use Rattle.laws.proofs.MapsKept.{stays_mapped, stays_unmapped, user_plain, window_shared}
use Rattle.laws.proofs.Walkers.{walks_used}
use Rattle.stepcore.specs.State.{State, HartState, hart_at, idle_hart, mailbox_index, words_in}
use Rattle.stepcore.specs.Stands.{AreSameWalk, Stands}
use Rattle.stepcore.specs.Runs.{Promises, with_turns, appended, AreDue, waiting_in, entries_in}

-- no reply, no turn; and one answered event more
pub no_turns : (events : List Event) (H : History) → with_turns events [] H ≡ H
no_turns [] H = refl
no_turns (event ∷ events) H = refl

pub turns_more : (events : List Event) (replies : List Reply) (event : Event) (r : Reply) (H : History) → slice_get events (length replies) ≡ Some event
    → with_turns events (replies ++ r ∷ []) H ≡ with_turn event r (with_turns events replies H)
turns_more [] [] event r H e = absurd cc
turns_more [] (x ∷ replies) event r H e = absurd cc
turns_more (y ∷ events) [] event r H e = let same : y ≡ event = cc in no_turns events (with_turn y r H) ∙ ap (λ z. with_turn z r H) same
turns_more (y ∷ events) (x ∷ replies) event r H e = turns_more events replies event r (with_turn y x H) e

-- what was appended to a list
pub appended_none : {A : Type 0} (old : List A) → appended old old ≡ []
appended_none old = drop_all (length old) old (omega arith)

pub appended_is : {A : Type 0} (old new : List A) → appended old (old ++ new) ≡ new
appended_is [] new = refl
appended_is (x ∷ old) new = appended_is old new

pub appended_more : {A : Type 0} (old now : List A) (x : A) → length old ≤ length now → appended old (now ++ x ∷ []) ≡ appended old now ++ x ∷ []
appended_more old now x l = drop-append-le (length old) now (x ∷ []) l

-- a run that made a turn more, by what was appended to the replies
pub run_more : (events : List Event) (old now : List Reply) (event : Event) (r : Reply) (H : History) → length old ≤ length now
    → slice_get events (length (appended old now)) ≡ Some event
    → with_turns events (appended old (now ++ r ∷ [])) H ≡ with_turn event r (with_turns events (appended old now) H)
run_more events old now event r H l e =
    ap (λ (replies : List Reply). with_turns events replies H) (appended_more old now r l) ∙ turns_more events (appended old now) event r H e

-- as many replies are due as there are events
pub due_count : (C : Setup) (H : History) (events : List Event) → length (due_replies C H events) ≡ length events
due_count C H [] = refl
due_count C H (event ∷ events) = omega (arith, due_count C (with_turn event (due C H event) H) events)

-- no reply is due to no event; one more that is due; and all of them
pub due_more : (C : Setup) (H : History) (events : List Event) (replies : List Reply) (event : Event) (r : Reply)
    → slice_get events (length replies) ≡ Some event → r ≡ due C (with_turns events replies H) event
    → AreDue C H events replies → AreDue C H events (replies ++ r ∷ [])
due_more C H [] [] event r e d are = absurd cc
due_more C H [] (x ∷ replies) event r e d are = absurd cc
due_more C H (y ∷ events) [] event r e d are =
    let same : y ≡ event = cc (e) in
    ap (λ z. z ∷ []) (d ∙ ap (due C H) (sym same))
due_more C H (y ∷ events) (x ∷ replies) event r e d are =
    let here : x ≡ due C H y = cc (are) in
    let later : AreDue C (with_turn y x H) events replies =
    subst (λ z. AreDue C (with_turn y z H) events replies) (sym here) (cc (are)) in
    ap (λ (rs : List Reply). x ∷ rs) (due_more C (with_turn y x H) events replies event r e d later)
    ∙ ap (λ (z : Reply). x ∷ take (length (replies ++ r ∷ [])) (due_replies C (with_turn y z H) events)) here
    ∙ ap (λ (z : Reply). z ∷ take (length (replies ++ r ∷ [])) (due_replies C (with_turn y (due C H y) H) events)) here

pub all_due : (C : Setup) (H : History) (events : List Event) (replies : List Reply) → length replies ≡ length events
    → AreDue C H events replies → replies ≡ due_replies C H events
all_due C H events replies n are =
    are ∙ ap (λ k. take k (due_replies C H events)) (n ∙ sym (due_count C H events)) ∙ take-length (due_replies C H events)

-- the walk of a hart has come to the table that as many pointers lead to
walk_told : (scheme : Scheme) (words : Tables) (root : ℕ) (stage : Option Stage) (walk : Option Walking) (at : Stage) → AreSameWalk scheme words root stage walk → stage ≡ Some at
    → (w : Walking) × (walk ≡ Some w) × (table_after scheme words root w.va w.loads ≡ Some at.table)
walk_told scheme words root None walk at same is = absurd (cc (is))
walk_told scheme words root (Some stage) None at same is = absurd same
walk_told scheme words root (Some stage) (Some w) at same is =
    let leads = (leads_by_pointers scheme words root stage.va stage.level stage.table _).0 same.on.leads in
    let loads : top_level scheme - stage.level ≡ w.loads = omega (arith, same.level) in
    let table : stage.table ≡ at.table = cc (is) in
    (w, refl, ap (λ va. table_after scheme words root va w.loads) (sym same.va) ∙ ap (table_after scheme words root stage.va) (sym loads) ∙ leads.1 ∙ ap Some table)

-- what is read of an item, or of what stands for a missing one
pub read_or : {A B : Type 0} (read : A → B) (item : Option A) (other : A) → unwrap_or (option_map read item) (read other) ≡ read (unwrap_or item other)
read_or read None other = refl
read_or read (Some x) other = refl

module _ (C : Setup) (m : State) (H : History) (st : Stands C m H) where
  entries_are : (h : ℕ) → h < C.harts → entries_in m h ≡ entries_of C H h
  entries_are h l = read_or (λ (hart : HartState). hart.entries) (slice_get m.harts h) idle_hart ∙ (st.harts h l).entries

  -- each mailbox keeps its order: what was accepted is what was taken, followed by what waits in
  -- the machine
  mailbox_order : (s h : ℕ) → s < C.harts → h < C.harts → accepted C H s h ≡ taken H s h ++ waiting_in m s h
  mailbox_order s h ls lh =
      mailboxes.lawful_order C H st.lawful s h
      ∙ ap (λ (requests : List Request). taken H s h ++ requests)
      (sym (read_or (λ (mailbox : MailboxState). mailbox.waiting) (slice_get m.mailboxes (mailbox_index s h)) (empty_mailbox 0) ∙ ap (λ (mailbox : MailboxState). mailbox.waiting) (st.mailboxes s h ls lh)))

  none_after_close : (s h : ℕ) → NoneAfterClose H s h
  none_after_close s h = mailboxes.no_post_after_close C H s h st.lawful

  -- what the TLBs of the machine hold is clear and coherent
  entries_clear : (k h : ℕ) → h < C.harts → Clear C H (entries_in m h) k h
  entries_clear k h l =
      subst (λ (entries : List Entry). Clear C H entries k h) (sym (entries_are h l))
      (clear C st.within (stays_unmapped C st.within) (user_plain C st.within) H k h st.lawful st.pages)

  entries_done : (k h : ℕ) → h < C.harts → ClearOnceDone C H (entries_in m h) k h
  entries_done k h l =
      subst (λ (entries : List Entry). ClearOnceDone C H entries k h) (sym (entries_are h l))
      (done_clear C H k h st.lawful (clear C st.within (stays_unmapped C st.within) (user_plain C st.within) H k h st.lawful st.pages))

  words_are : words_in m ≡ words_of C H
  words_are = fun_ext (λ ppn. fun_ext (λ i. st.words ppn i))

  entries_coherent : (k h : ℕ) → h < C.harts → Coherent C H (words_in m) (entries_in m h) k h
  entries_coherent k h l =
      subst (λ (words : Tables). Coherent C H words (entries_in m h) k h) (sym words_are)
      (subst (λ (entries : List Entry). Coherent C H (words_of C H) entries k h) (sym (entries_are h l))
      (coherent C st.within (user_plain C st.within) (stays_mapped C st.within) (window_shared C st.within) H k h st.lawful st.pages))

  -- nor do they hold what is of an ASID that no space has; harts are in live spaces, and walks at
  -- frames in use
  used_asids : (h : ℕ) → h < C.harts → HoldsUsedAsids C H (entries_in m h)
  used_asids h l = subst (λ (entries : List Entry). HoldsUsedAsids C H entries) (sym (entries_are h l)) (holds_used C st.within H h st.lawful st.pages)

  live_spaces : (h : ℕ) → h < C.harts → status_of H (hart_at m h).space ≡ Live
  live_spaces h l = ap (status_of H) (st.harts h l).space ∙ live_hart C st.within H h st.lawful l

  used_frames : (h : ℕ) (walk : Stage) (hart n : ℕ) → h < C.harts → (hart_at m h).walk ≡ Some walk
      → n < slice_index C.layout.spares hart → holder_of H (spare_ppn C.layout hart + n) ≡ None → walk.table ≡ spare_ppn C.layout hart + n → ⊥
  used_frames h walk hart n l walks less unused at =
      let told = walk_told C.layout.scheme (words_of C H) (root_ppn C.layout (space_of H h)) (hart_at m h).walk (walk_of H h) walk (st.harts h l).walk walks in
      (walks_used C st.within H h st.lawful st.pages told.0 told.1).1 hart n (spare_ppn C.layout hart + n) less refl unused (told.2 ∙ ap Some at)

  pub promises : Promises C H m
  promises = record {
    mailboxes = mailbox_order;
    closed = none_after_close;
    clear = entries_clear;
    done = entries_done;
    coherent = entries_coherent;
    asids = used_asids;
    spaces = live_spaces;
    frames = used_frames;
  }
