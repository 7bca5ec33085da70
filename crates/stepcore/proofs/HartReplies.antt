-- What a machine that stands at a history answers to the events of its harts and tables is what is
-- due.
use Rattle.pte.specs.declared.scheme.Scheme.{Scheme}
use Rattle.std.proofs.Common.{◌≡◌, ℕ, ◌+◌, ◌<◌, Bool, true, false, cond, not, List, Option, Some, None, refl, ap, ◌∙◌}
use Rattle.std.specs.Prelude.{is_some, is_none, Result, Ok, Err}
use Rattle.std.proofs.Math.Path.{fun_ext}
use Rattle.pte.specs.Address.{Span, level_count, is_canonical}
use Rattle.pte.specs.declared.flags.PteFlags.{PteFlags}
use Rattle.pte.specs.declared.permission.Access.{Access}
use Rattle.pte.specs.declared.permission.Ctx.{Ctx}
use Rattle.walk.specs.declared.found_or_trap.Found.{Found}
use Rattle.walk.specs.declared.found_or_trap.Trap.{Trap as Fault}
use Rattle.walk.specs.declared.found_or_trap.Why.TheVariants.{NotCanonical}
use Rattle.walk.specs.Answer.{page_trap}
use Rattle.walk.specs.Leads.{Tables}
use Rattle.walk.specs.Loads.{answer_after}
use Rattle.walk.specs.Pointers.{goes_on}
use Rattle.walk.specs.Stage.{Stage, start_of}
use Rattle.walk.specs.Step.{ended}
use Rattle.walk.specs.declared.walking.Progress.TheVariants as progress
use Rattle.walk.proofs.Loads.{load_goes_on, load_ends}
use Rattle.spaces.specs.declared.places.Place.{Place}
use Rattle.spaces.specs.declared.wishes.Wish.{Wish}
use Rattle.spaces.specs.declared.wishes.Wish.TheVariants as wish
use Rattle.spaces.specs.Layout.{Layout, root_ppn}
use Rattle.tlb.specs.declared.store.Entry.{Entry}
use Rattle.tlb.specs.Entries.{first_match}
use Rattle.history.specs.Setup.{Setup}
use Rattle.history.specs.Spaces.{asid_of, status_of, is_retiring, holder_of}
use Rattle.history.specs.declared.event.Event.TheVariants.{Begin, Load, Map, Unmap, Protect, Switch, Fence, ServeFence, Ack}
use Rattle.history.specs.declared.refusal.Refusal.TheVariants.{Retiring, NotFenced, Walking as Walks, Serving as Serves, NotServing as NotServes}
use Rattle.history.specs.declared.reply.Reply.{Reply}
use Rattle.history.specs.declared.reply.Reply.TheVariants as reply
use Rattle.history.specs.Turns.{History}
use Rattle.history.specs.Mailboxes.{Sent}
use Rattle.history.specs.Service.{served, has_fenced}
use Rattle.history.specs.Tables.{words_of, edit_due}
use Rattle.history.specs.Harts.{Walking, walk_of, space_of, entries_of, outcome_of}
use Rattle.history.specs.Due.{match_reply, begin_reply, load_reply, end_reply, edit_at, edit_reply, map_reply, open_reply, due}
use Rattle.history.proofs.Passing.{refuse}
use Rattle.laws.proofs.Tools.{by_test}
use Rattle.stepcore.specs.State.{State, words_in, holders_in, hart_at, space_at}
use Rattle.stepcore.specs.Answers.{asid_of_hart, begin_answer, next_of, progress_answer, load_answer, edit_in, open_in, ack_answer, reply_to}
use Rattle.stepcore.specs.Stands.{IsStageOf, AreSameWalk, service_with, Stands}
use Rattle.stepcore.proofs.Tools.{walks_alike, serves_alike, hart_there, harts_there}
use Rattle.stepcore.proofs.SpaceReplies.{place_there, space_there, retiring_same}
use Rattle.laws.proofs.Causes.{space_there as spaces_there}
use Rattle.spaces.specs.Holders.{Holders}

-- whether a hart serves nothing
idles_alike : (fenced : Bool) (sent : Option Sent) → is_none (service_with fenced sent) ≡ is_none sent
idles_alike fenced None = refl
idles_alike fenced (Some sent) = refl

-- what a load makes of a walk that holds what the history says
pub record LoadMakes (scheme : Scheme) (words : Tables) (root : ℕ) (stage : Stage) (walk : Walking) : Type 0 where
  pub more : goes_on scheme words root walk.va walk.loads ≡ true → (next : Stage) × (next_of words stage ≡ progress.More next) × IsStageOf scheme words root next (record { va = walk.va; access = walk.access; ctx = walk.ctx; loads = walk.loads + 1 })
  pub ends : goes_on scheme words root walk.va walk.loads ≡ false → next_of words stage ≡ ended (answer_after (level_count scheme) words (start_of scheme root walk.va walk.access walk.ctx))

pub load_makes : (scheme : Scheme) (words : Tables) (root : ℕ) (stage : Stage) (walk : Walking) → IsStageOf scheme words root stage walk → LoadMakes scheme words root stage walk
load_makes scheme words root stage walk same = record {
  more = λ goes.
      let m = load_goes_on scheme words root walk.loads stage same.on same.level (ap (λ va. goes_on scheme words root va walk.loads) same.va ∙ goes) in (
        m.0,
        m.1,
        record {
          va = m.4.same_va ∙ same.va;
          access = m.4.same_access ∙ same.access;
          ctx = m.4.same_ctx ∙ same.ctx;
          level = m.3;
          on = m.2;
        },
      );
  ends = λ stops.
      load_ends scheme words root walk.loads stage same.on same.level (ap (λ va. goes_on scheme words root va walk.loads) same.va ∙ stops)
      ∙ ap (λ va. ended (answer_after (level_count scheme) words (start_of scheme root va stage.access stage.ctx))) same.va
      ∙ ap (λ access. ended (answer_after (level_count scheme) words (start_of scheme root walk.va access stage.ctx))) same.access
      ∙ ap (λ ctx. ended (answer_after (level_count scheme) words (start_of scheme root walk.va walk.access ctx))) same.ctx;
}

ended_answer : (outcome : Result Found Fault) → progress_answer (ended outcome) ≡ end_reply outcome
ended_answer (Ok found) = refl
ended_answer (Err trap) = refl

load_same : (C : Setup) (H : History) (hart : ℕ) (stage : Option Stage) (walk : Option Walking) → AreSameWalk C.layout.scheme (words_of C H) (root_ppn C.layout (space_of H hart)) stage walk
    → load_answer (words_of C H) stage ≡ load_reply C H hart walk
load_same C H hart None None same = refl
load_same C H hart None (Some walk) same = absurd same
load_same C H hart (Some stage) None same = absurd same
load_same C H hart (Some stage) (Some walk) same =
    let makes = load_makes C.layout.scheme (words_of C H) (root_ppn C.layout (space_of H hart)) stage walk same in
    by_test (λ v. progress_answer (next_of (words_of C H) stage) ≡ cond v reply.More (end_reply (outcome_of C H (space_of H hart) walk))) (goes_on C.layout.scheme (words_of C H) (root_ppn C.layout (space_of H hart)) walk.va walk.loads)
    (λ goes. ap progress_answer (makes.more goes).1)
    (λ stops. ap progress_answer (makes.ends stops) ∙ ended_answer (outcome_of C H (space_of H hart) walk))

-- Begin and Ack over plain values
begin_form : (scheme scheme' : Scheme) (w w' s s' : Bool) (a a' : ℕ) (es es' : List Entry) (va : ℕ) (access : Access) (ctx : Ctx) → scheme ≡ scheme' → w ≡ w' → s ≡ s' → a ≡ a' → es ≡ es'
    → refuse w Walks (refuse s Serves (cond (is_canonical scheme va) (match_reply va access ctx (first_match es a va)) (reply.Trap (page_trap access NotCanonical))))
    ≡ refuse w' Walks (refuse s' Serves (cond (is_canonical scheme' va) (match_reply va access ctx (first_match es' a' va)) (reply.Trap (page_trap access NotCanonical))))
begin_form scheme scheme' w w' s s' a a' es es' va access ctx c e f g h = rw (c, e, f, g, h) refl

ack_form : (fenced : Bool) (sent : Option Sent) → ack_answer (service_with fenced sent) ≡ refuse (is_none sent) NotServes (refuse (not fenced) NotFenced reply.Ok)
ack_form fenced None = refl
ack_form fenced (Some sent) = refl

module _ (C : Setup) (m : State) (H : History) (st : Stands C m H) where
  -- the words, the layout and the ASID of a hart
  pub words_same : words_in m ≡ words_of C H
  words_same = fun_ext (λ ppn. fun_ext (λ i. st.words ppn i))

  pub holders_same : holders_in m ≡ holder_of H
  holders_same = fun_ext (λ ppn. st.holders ppn)

  pub layout_same : m.memory.layout ≡ C.layout
  layout_same = ap (λ (D : Setup). D.layout) st.setup

  pub asid_same : (hart : ℕ) → hart < C.harts → asid_of_hart m (hart_at m hart) ≡ asid_of C H (space_of H hart)
  asid_same hart below =
      ap (λ (space : ℕ). (space_at m space).asid) (st.harts hart below).space ∙ (st.spaces (space_of H hart) (spaces_there C H hart st.within.asids st.lawful)).asid

  pub serving_some : (hart : ℕ) → hart < C.harts → is_some (hart_at m hart).serving ≡ is_some (served C H hart)
  serving_some hart below = ap is_some (st.harts hart below).serving ∙ serves_alike (has_fenced H hart) (served C H hart)

  pub serving_none : (hart : ℕ) → hart < C.harts → is_none (hart_at m hart).serving ≡ is_none (served C H hart)
  serving_none hart below = ap is_none (st.harts hart below).serving ∙ idles_alike (has_fenced H hart) (served C H hart)

  pub walking_some : (hart : ℕ) → hart < C.harts → is_some (hart_at m hart).walk ≡ is_some (walk_of H hart)
  walking_some hart below = walks_alike C.layout.scheme _ _ (hart_at m hart).walk (walk_of H hart) (st.harts hart below).walk

  begin_at : (hart va : ℕ) (access : Access) (ctx : Ctx) → hart < C.harts → begin_answer m (hart_at m hart) va access ctx
      ≡ refuse (is_some (walk_of H hart)) Walks (refuse (is_some (served C H hart)) Serves (begin_reply C H hart va access ctx))
  begin_at hart va access ctx below =
      begin_form m.memory.layout.scheme C.layout.scheme (is_some (hart_at m hart).walk) (is_some (walk_of H hart)) (is_some (hart_at m hart).serving) (is_some (served C H hart))
      (asid_of_hart m (hart_at m hart)) (asid_of C H (space_of H hart)) (hart_at m hart).entries (entries_of C H hart) va access ctx
      (ap (λ (l : Layout). l.scheme) layout_same) (walking_some hart below) (serving_some hart below) (asid_same hart below) (st.harts hart below).entries

  -- the events of harts
  pub begin_due : (hart va : ℕ) (access : Access) (ctx : Ctx) → reply_to m (Begin hart va access ctx) ≡ due C H (Begin hart va access ctx)
  begin_due hart va access ctx = hart_there C m hart _ _ st.setup (begin_at hart va access ctx)

  pub load_due : (hart : ℕ) → reply_to m (Load hart) ≡ due C H (Load hart)
  load_due hart =
      hart_there C m hart _ _ st.setup
      (λ below. ap (λ (words : Tables). load_answer words (hart_at m hart).walk) words_same ∙ load_same C H hart (hart_at m hart).walk (walk_of H hart) (st.harts hart below).walk)

  pub switch_due : (hart space : ℕ) → reply_to m (Switch hart space) ≡ due C H (Switch hart space)
  switch_due hart space =
      hart_there C m hart _ _ st.setup
      (λ below. space_there C m H st space _ _ (λ there. ap (λ v. refuse v Retiring (refuse (is_some (hart_at m hart).walk) Walks reply.Ok)) (retiring_same C m H st space there)
      ∙ ap (λ (walks : Bool). refuse (is_retiring (status_of H space)) Retiring (refuse walks Walks reply.Ok)) (walking_some hart below)))

  pub fence_due : (hart : ℕ) (rs1 rs2 : Option ℕ) → reply_to m (Fence hart rs1 rs2) ≡ due C H (Fence hart rs1 rs2)
  fence_due hart rs1 rs2 = hart_there C m hart _ _ st.setup (λ below. ap (λ (walks : Bool). refuse walks Walks reply.Ok) (walking_some hart below))

  pub serve_fence_due : (hart : ℕ) → reply_to m (ServeFence hart) ≡ due C H (ServeFence hart)
  serve_fence_due hart =
      hart_there C m hart _ _ st.setup
      (λ below. ap (λ (walks : Bool). refuse walks Walks (refuse (is_none (hart_at m hart).serving) NotServes reply.Ok)) (walking_some hart below)
      ∙ ap (λ (idles : Bool). refuse (is_some (walk_of H hart)) Walks (refuse idles NotServes reply.Ok)) (serving_none hart below))

  pub ack_due : (hart : ℕ) → reply_to m (Ack hart) ≡ due C H (Ack hart)
  ack_due hart =
      hart_there C m hart _ _ st.setup (λ below. ap ack_answer (st.harts hart below).serving ∙ ack_form (has_fenced H hart) (served C H hart))

  -- the events that edit tables
  pub edit_same : (hart : ℕ) (w : Wish) → edit_in m hart w ≡ edit_at C H hart w
  edit_same hart w =
      ap (λ (D : Setup). edit_due D (words_in m) (holders_in m) hart w) st.setup
      ∙ ap (λ (words : Tables). edit_due C words (holders_in m) hart w) words_same
      ∙ ap (λ (holders : Holders). edit_due C (words_of C H) holders hart w) holders_same

  pub map_due : (hart : ℕ) (place : Place) (page : Span) (ppn : ℕ) (flags : PteFlags) → reply_to m (Map hart place page ppn flags) ≡ due C H (Map hart place page ppn flags)
  map_due hart place page ppn flags =
      hart_there C m hart _ _ st.setup (λ below. place_there C m H st place _ _ (ap map_reply (edit_same hart (wish.Map place page ppn flags))))

  -- with a ticket, what opening it is answered
  pub unmap_due : (hart : ℕ) (place : Place) (page : Span) (named : ℕ) → (hart < C.harts → open_in m hart named ≡ open_reply H hart named)
      → reply_to m (Unmap hart place page named) ≡ due C H (Unmap hart place page named)
  unmap_due hart place page named opens =
      harts_there C m hart named _ _ st.setup (λ below. place_there C m H st place _ _
      (ap (λ answer. edit_reply answer (open_in m hart named)) (edit_same hart (wish.Unmap place page))
      ∙ ap (λ (opening : Reply). edit_reply (edit_at C H hart (wish.Unmap place page)) opening) (opens below)))

  pub protect_due : (hart : ℕ) (place : Place) (page : Span) (flags : PteFlags) (named : ℕ) → (hart < C.harts → open_in m hart named ≡ open_reply H hart named)
      → reply_to m (Protect hart place page flags named) ≡ due C H (Protect hart place page flags named)
  protect_due hart place page flags named opens =
      harts_there C m hart named _ _ st.setup (λ below. place_there C m H st place _ _
      (ap (λ answer. edit_reply answer (open_in m hart named)) (edit_same hart (wish.Protect place page flags))
      ∙ ap (λ (opening : Reply). edit_reply (edit_at C H hart (wish.Protect place page flags)) opening) (opens below)))
