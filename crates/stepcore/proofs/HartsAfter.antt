-- The harts that an event leaves are those of the history.
use Rattle.pte.specs.declared.scheme.Scheme.{Scheme}
use Rattle.std.proofs.Common.{arith, ◌≡◌, ℕ, zero, suc, ◌+◌, ◌<◌, Bool, true, false, cond, ◌&&◌, List, [], ◌∷◌, length, drop, map, Option, Some, None, slice_get, refl, ap, sym, ◌∙◌, subst, eqb}
use Rattle.std.specs.Prelude.{unwrap_or, is_none, Result, Ok, Err}
use Rattle.std.proofs.lemmas.Bool.{and_parts, eqb-true, eq-eqb, false≢true}
use Rattle.pte.specs.declared.address.What.{What}
use Rattle.pte.specs.declared.permission.Access.{Access}
use Rattle.pte.specs.declared.permission.Ctx.{Ctx}
use Rattle.walk.specs.declared.found_or_trap.Found.{Found}
use Rattle.walk.specs.declared.found_or_trap.Trap.{Trap as Fault}
use Rattle.walk.specs.declared.walking.Progress.{Progress}
use Rattle.walk.specs.Leads.{Tables}
use Rattle.walk.specs.Pointers.{goes_on}
use Rattle.walk.specs.Stage.{Stage, start_of}
use Rattle.walk.specs.Step.{ended}
use Rattle.walk.proofs.Ending.{on_path-start}
use Rattle.spaces.specs.Layout.{Layout, root_ppn}
use Rattle.tlb.specs.declared.store.Entry.{Entry}
use Rattle.tlb.specs.Entries.{filled}
use Rattle.tlb.specs.Answer.{entry_of}
use Rattle.tlb.specs.Fence.{fenced}
use Rattle.tlb.specs.Service.{after_service as with_service}
use Rattle.shoot.specs.Request.{Request}
use Rattle.shoot.specs.Tickets.{TicketTable}
use Rattle.history.specs.Setup.{Setup}
use Rattle.history.specs.Spaces.{asid_of}
use Rattle.history.specs.declared.event.Event.{Event}
use Rattle.history.specs.declared.event.Event.TheVariants.{Begin, Load, Switch, Fence, Take, ServeFence, Ack, AckSelf, Reclaim}
use Rattle.history.specs.declared.refusal.Refusal.TheVariants.{NoHart, NoSpace, Retiring as Retires, NotServing as NotServes, Walking as Walks, Serving as Serves}
use Rattle.history.specs.declared.reply.Reply.{Reply}
use Rattle.history.specs.declared.reply.Reply.TheVariants as reply
use Rattle.history.specs.Turns.{History, is_ok, is_more, is_filled, is_taken, is_progress}
use Rattle.history.specs.Orders.{open_order, what_of}
use Rattle.history.specs.Mailboxes.{Sent, posts, taken}
use Rattle.history.specs.Service.{served, has_fenced, what_served}
use Rattle.history.specs.Tables.{words_of}
use Rattle.history.specs.Harts.{Walking, begun, loaded, with_found, with_fill, outcome_of, space_of, walk_of, entries_of}
use Rattle.history.specs.Due.{due, load_reply, end_reply, next_reply}
use Rattle.history.specs.Runs.{with_turn}
use Rattle.history.proofs.Walks.{canonical_walk}
use Rattle.laws.specs.Posts.{IsAcceptedPost}
use Rattle.laws.proofs.Accepted.{passed, ok_accepted, taken_accepted, is_accepted as accepts, take_found}
use Rattle.laws.proofs.Posts.{posts_known}
use Rattle.laws.proofs.Tools.{by_test, none_since, All-slice_get}
use Rattle.stepcore.specs.declared.serving.Serving.{Serving as Service}
use Rattle.stepcore.specs.State.{State, HartState, words_in, hart_at, tickets_at, idle_hart}
use Rattle.stepcore.specs.Answers.{asid_of_hart, next_of}
use Rattle.stepcore.specs.Changes.{what_in, with_progress, with_load, with_taken, with_served, is_accepted, put_hart, harts_after}
use Rattle.stepcore.specs.Stands.{AreSameWalk, service_with, service_of, HartStands, Stands}
use Rattle.stepcore.proofs.Placed.{hart_placed}
use Rattle.stepcore.proofs.TicketsHeld.{what_told}
use Rattle.stepcore.proofs.HartReplies.{load_makes, words_same, layout_same, asid_same}
use Rattle.stepcore.proofs.PointersKept.{same_walk_kept, pointers_kept}
use Rattle.stepcore.proofs.ReclaimKept.{walk_kept}

-- a hart by the parts that a history leaves of it
record HartIs (words : Tables) (layout : Layout) (space : ℕ) (walk : Option Walking) (serving : Option Service) (entries : List Entry) (hart : HartState) : Type 0 where
  space_is : hart.space ≡ space
  walk_is : AreSameWalk layout.scheme words (root_ppn layout space) hart.walk walk
  serving_is : hart.serving ≡ serving
  scheme_is : hart.scheme ≡ layout.scheme
  entries_are : hart.entries ≡ entries

stands_of : (C : Setup) (H : History) (h : ℕ) (hart : HartState) → HartIs (words_of C H) C.layout (space_of H h) (walk_of H h) (service_of C H h) (entries_of C H h) hart → HartStands C H h hart
stands_of C H h hart parts = record { space = parts.space_is; walk = parts.walk_is; serving = parts.serving_is; scheme = parts.scheme_is; entries = parts.entries_are }

-- a Begin changes the walk only if it answers More, and a Load only if it is accepted
begun_is : (r : Reply) (va : ℕ) (access : Access) (ctx : Ctx) (test : Bool) (old : Option Walking)
    → cond test (begun r va access ctx old) old ≡ cond (is_more r && test) (Some (record { va = va; access = access; ctx = ctx; loads = 0 })) old
begun_is reply.More va access ctx test old = refl
begun_is _ va access ctx true old = refl
begun_is _ va access ctx false old = refl

loaded_is : (r : Reply) (test : Bool) (old : Option Walking) → cond test (loaded r old) old ≡ cond (is_accepted r && test) (loaded r old) old
loaded_is (reply.Refused refusal) true old = refl
loaded_is (reply.Refused refusal) false old = refl
loaded_is _ test old = refl

filled_is : (r : Reply) (test : Bool) (new old : List Entry) → cond (is_filled r && test) new old ≡ cond (is_accepted r && test) (cond (is_filled r) new old) old
filled_is (reply.Filled pa) test new old = refl
filled_is _ true new old = refl
filled_is _ false new old = refl

accepted_is : (r : Reply) → is_accepted r ≡ true → accepts r ≡ true
accepted_is (reply.Refused refusal) e = e
accepted_is _ e = refl

-- a walk that is not there is in no tables
no_walk : (scheme : Scheme) (old new : Tables) (root other : ℕ) (stage : Option Stage) (walk : Option Walking) → walk ≡ None → AreSameWalk scheme old root stage walk → AreSameWalk scheme new other stage walk
no_walk scheme old new root other None None e same = tt
no_walk scheme old new root other (Some stage) None e same = absurd same
no_walk scheme old new root other stage (Some walk) e same = absurd cc

-- a load of a hart
load_ended : (words : Tables) (layout : Layout) (space asid : ℕ) (walk : Walking) (serving : Option Service) (entries : List Entry) (hart : HartState) (outcome : Result Found Fault)
    → hart.space ≡ space → hart.serving ≡ serving → hart.scheme ≡ layout.scheme → hart.entries ≡ entries
    → HartIs words layout space (loaded (end_reply outcome) (Some walk)) serving (cond (is_filled (end_reply outcome)) (with_found asid outcome entries) entries) (with_progress asid (ended outcome) hart)
load_ended words layout space asid walk serving entries hart (Ok found) s v c e = record { space_is = s; walk_is = tt; serving_is = v; scheme_is = c; entries_are = ap (λ (es : List Entry). filled es (entry_of asid found)) e }
load_ended words layout space asid walk serving entries hart (Err trap) s v c e = record { space_is = s; walk_is = tt; serving_is = v; scheme_is = c; entries_are = e }

load_left : (C : Setup) (H : History) (h : ℕ) (r : Reply) (stage : Option Stage) (walk : Option Walking) (serving : Option Service) (entries : List Entry) (hart : HartState)
    → AreSameWalk C.layout.scheme (words_of C H) (root_ppn C.layout (space_of H h)) stage walk → hart.space ≡ space_of H h → hart.serving ≡ serving → hart.scheme ≡ C.layout.scheme → hart.entries ≡ entries
    → load_reply C H h walk ≡ r → is_accepted r ≡ true
    → HartIs (words_of C H) C.layout (space_of H h) (loaded r walk) serving (cond (is_filled r) (with_fill C H (space_of H h) walk entries) entries) (with_load (words_of C H) (asid_of C H (space_of H h)) stage hart)
load_left C H h r None None serving entries hart same s v c e d a = absurd (false≢true (ap is_accepted d ∙ a))
load_left C H h r None (Some walk) serving entries hart same s v c e d a = absurd same
load_left C H h r (Some stage) None serving entries hart same s v c e d a = absurd same
load_left C H h r (Some stage) (Some walk) serving entries hart same s v c e d a =
    let words = words_of C H in
    let space = space_of H h in
    let outcome = outcome_of C H space walk in
    let asid = asid_of C H space in
    let makes = load_makes C.layout.scheme words (root_ppn C.layout space) stage walk same in
    subst (λ (x : Reply). HartIs words C.layout space (loaded x (Some walk)) serving (cond (is_filled x) (with_found asid outcome entries) entries) (with_progress asid (next_of words stage) hart)) d
    (by_test
    (λ t. HartIs words C.layout space (loaded (cond t reply.More (end_reply outcome)) (Some walk)) serving (cond (is_filled (cond t reply.More (end_reply outcome))) (with_found asid outcome entries) entries)
    (with_progress asid (next_of words stage) hart))
    (goes_on C.layout.scheme words (root_ppn C.layout space) walk.va walk.loads)
    (λ goes.
    let made = makes.more goes in
    subst (λ (p : Progress). HartIs words C.layout space (Some (record { va = walk.va; access = walk.access; ctx = walk.ctx; loads = walk.loads + 1 })) serving entries (with_progress asid p hart)) (sym made.1)
    (record { space_is = s; walk_is = made.2; serving_is = v; scheme_is = c; entries_are = e }))
    (λ stops.
    subst (λ (p : Progress). HartIs words C.layout space (loaded (end_reply outcome) (Some walk)) serving (cond (is_filled (end_reply outcome)) (with_found asid outcome entries) entries) (with_progress asid p hart))
    (sym (makes.ends stops)) (load_ended words C.layout space asid walk serving entries hart outcome s v c e)))

-- a hart that fences for what it serves
fence_left : (words : Tables) (layout : Layout) (space : ℕ) (walk : Option Walking) (has : Bool) (sent : Option Sent) (entries : List Entry) (hart : HartState)
    → is_none sent ≡ false → HartIs words layout space walk (service_with has sent) entries hart
    → HartIs words layout space walk (service_with true sent) (with_service entries (what_served sent)) (with_served hart.serving hart)
fence_left words layout space walk has None entries hart some parts = absurd cc
fence_left words layout space walk has (Some sent) entries hart some parts =
    subst (λ (o : Option Service). HartIs words layout space walk (service_with true (Some sent)) (with_service entries sent.request.what) (with_served o hart)) (sym parts.serving_is)
    (record { space_is = parts.space_is; walk_is = parts.walk_is; serving_is = refl; scheme_is = parts.scheme_is; entries_are = ap (λ (es : List Entry). with_service es sent.request.what) parts.entries_are })

-- the request that a Take takes is that of the first post that waits
first_post : (xs : List Sent) (n : ℕ) (first : Request) (rest : List Request) → drop n (map (λ (x : Sent). x.request) xs) ≡ first ∷ rest → (x : Sent) × (slice_get xs n ≡ Some x) × (x.request ≡ first)
first_post [] zero first rest e = absurd cc
first_post [] (suc n) first rest e = absurd cc
first_post (x ∷ xs) zero first rest e = (x, refl, cc)
first_post (x ∷ xs) (suc n) first rest e = first_post xs n first rest e

module _ (C : Setup) (m : State) (H : History) (st : Stands C m H) where
  -- before the event
  parts : (h : ℕ) → h < C.harts → HartIs (words_of C H) C.layout (space_of H h) (walk_of H h) (service_of C H h) (entries_of C H h) (hart_at m h)
  parts h below = let hart = st.harts h below in record { space_is = hart.space; walk_is = hart.walk; serving_is = hart.serving; scheme_is = hart.scheme; entries_are = hart.entries }

  -- an event that puts one hart, where it is accepted
  placed : (P : Bool → HartState → Type 0) (hart h : ℕ) (test : Bool) (new : ℕ → HartState) → h < C.harts → (test ≡ true → hart ≡ h → P true (new h)) → P false (hart_at m h)
      → P (test && eqb hart h) (unwrap_or (slice_get (put_hart m hart test (new hart)) h) idle_hart)
  placed P hart h test new below here old =
      let count : length m.harts ≡ C.harts = ap (λ (D : Setup). D.harts) st.setup in
      subst (P (test && eqb hart h)) (sym (hart_placed m hart h test (new hart) (subst (λ n. h < n) (sym count) below)))
      (by_test (λ v. P v (cond v (new hart) (hart_at m h))) (test && eqb hart h)
      (λ z. let both = and_parts test (eqb hart h) z in
      let same : hart ≡ h = eqb-true hart h both.1 in
      subst (λ x. P true (new x)) (sym same) (here both.0 same))
      (λ _. old))

  switch_after : (hart space : ℕ) (r : Reply) → r ≡ due C H (Switch hart space) → (h : ℕ) → h < C.harts
      → HartStands C (with_turn (Switch hart space) r H) h (unwrap_or (slice_get (harts_after m (Switch hart space) r) h) idle_hart)
  switch_after hart space r d h below =
      let old = parts h below in
      stands_of C (with_turn (Switch hart space) r H) h _
      (placed (λ v x. HartIs (words_of C H) C.layout (cond v space (space_of H h)) (walk_of H h) (service_of C H h) (entries_of C H h) x) hart h (is_ok r)
      (λ x. record (hart_at m x) { space = space }) below
      (λ ok same. let a = ok_accepted r ok in
      let p = passed _ NoHart _ r (sym d) a in
      let q = passed _ NoSpace _ r p.1 a in
      let v = passed _ Retires _ r q.1 a in
      let w = none_since (walk_of H hart) (passed _ Walks _ r v.1 a).0 in
      record { space_is = refl; walk_is = no_walk C.layout.scheme _ _ _ _ (hart_at m h).walk (walk_of H h) (subst (λ x. walk_of H x ≡ None) same w) old.walk_is; serving_is = old.serving_is; scheme_is = old.scheme_is; entries_are = old.entries_are })
      old)

  fence_after : (hart : ℕ) (rs1 rs2 : Option ℕ) (r : Reply) (h : ℕ) → h < C.harts
      → HartStands C (with_turn (Fence hart rs1 rs2) r H) h (unwrap_or (slice_get (harts_after m (Fence hart rs1 rs2) r) h) idle_hart)
  fence_after hart rs1 rs2 r h below =
      let old = parts h below in
      stands_of C (with_turn (Fence hart rs1 rs2) r H) h _
      (placed (λ v x. HartIs (words_of C H) C.layout (space_of H h) (walk_of H h) (service_of C H h) (cond v (fenced C.layout.scheme (entries_of C H h) rs1 rs2) (entries_of C H h)) x) hart h (is_ok r)
      (λ x. record (hart_at m x) { entries = fenced (hart_at m x).scheme (hart_at m x).entries rs1 rs2 }) below
      (λ ok same. record {
        space_is = old.space_is;
        walk_is = old.walk_is;
        serving_is = old.serving_is;
        scheme_is = old.scheme_is;
        entries_are = ap (λ (scheme : Scheme). fenced scheme (hart_at m h).entries rs1 rs2) old.scheme_is ∙ ap (λ (es : List Entry). fenced C.layout.scheme es rs1 rs2) old.entries_are;
      })
      old)

  ack_after : (hart : ℕ) (r : Reply) (h : ℕ) → h < C.harts → HartStands C (with_turn (Ack hart) r H) h (unwrap_or (slice_get (harts_after m (Ack hart) r) h) idle_hart)
  ack_after hart r h below =
      let old = parts h below in
      stands_of C (with_turn (Ack hart) r H) h _
      (placed (λ v x. HartIs (words_of C H) C.layout (space_of H h) (walk_of H h) (service_with (has_fenced H h) (cond v None (served C H h))) (entries_of C H h) x) hart h (is_ok r)
      (λ x. record (hart_at m x) { serving = None }) below
      (λ ok same. record { space_is = old.space_is; walk_is = old.walk_is; serving_is = refl; scheme_is = old.scheme_is; entries_are = old.entries_are })
      old)

  serve_fence_after : (hart : ℕ) (r : Reply) → r ≡ due C H (ServeFence hart) → (h : ℕ) → h < C.harts
      → HartStands C (with_turn (ServeFence hart) r H) h (unwrap_or (slice_get (harts_after m (ServeFence hart) r) h) idle_hart)
  serve_fence_after hart r d h below =
      let old = parts h below in
      stands_of C (with_turn (ServeFence hart) r H) h _
      (placed (λ v x. HartIs (words_of C H) C.layout (space_of H h) (walk_of H h) (service_with (cond v true (has_fenced H h)) (served C H h))
      (cond v (with_service (entries_of C H h) (what_served (served C H h))) (entries_of C H h)) x) hart h (is_ok r)
      (λ x. with_served (hart_at m x).serving (hart_at m x)) below
      (λ ok same. let a = ok_accepted r ok in
      let p = passed _ NoHart _ r (sym d) a in
      let w = passed _ Walks _ r p.1 a in
      let some = (passed (is_none (served C H hart)) NotServes _ r w.1 a).0 in
      fence_left (words_of C H) C.layout (space_of H h) (walk_of H h) (has_fenced H h) (served C H h) (entries_of C H h) (hart_at m h) (subst (λ x. is_none (served C H x) ≡ false) same some) old)
      old)

  begin_after : (hart va : ℕ) (access : Access) (ctx : Ctx) (r : Reply) → r ≡ due C H (Begin hart va access ctx) → (h : ℕ) → h < C.harts
      → HartStands C (with_turn (Begin hart va access ctx) r H) h (unwrap_or (slice_get (harts_after m (Begin hart va access ctx) r) h) idle_hart)
  begin_after hart va access ctx r d h below =
      let old = parts h below in
      let now = with_turn (Begin hart va access ctx) r H in
      let begins : Walking = record { va = va; access = access; ctx = ctx; loads = 0 } in
      let is = begun_is r va access ctx (eqb hart h) (walk_of H h) in
      stands_of C now h _
      (subst (λ (w : Option Walking). HartIs (words_of C H) C.layout (space_of H h) w (service_of C H h) (entries_of C H h) (unwrap_or (slice_get (harts_after m (Begin hart va access ctx) r) h) idle_hart)) (sym is)
      (placed (λ v x. HartIs (words_of C H) C.layout (space_of H h) (cond v (Some begins) (walk_of H h)) (service_of C H h) (entries_of C H h) x) hart h (is_more r)
      (λ x. record (hart_at m x) { walk = Some (start_of m.memory.layout.scheme (root_ppn m.memory.layout (hart_at m x).space) va access ctx) }) below
      (λ more same. let start : start_of m.memory.layout.scheme (root_ppn m.memory.layout (hart_at m h).space) va access ctx ≡ start_of C.layout.scheme (root_ppn C.layout (space_of H h)) va access ctx =
      ap (λ (l : Layout). start_of l.scheme (root_ppn l (hart_at m h).space) va access ctx) (layout_same C m H st) ∙ ap (λ (s : ℕ). start_of C.layout.scheme (root_ppn C.layout s) va access ctx) old.space_is in
      let both : (is_more r && eqb hart h) ≡ true = rw (more, eq-eqb hart h same) refl in
      let canonical = canonical_walk C now h (st.lawful, d) begins (is ∙ ap (λ v. cond v (Some begins) (walk_of H h)) both) in
      record {
        space_is = old.space_is;
        walk_is = subst (λ (stage : Stage). AreSameWalk C.layout.scheme (words_of C H) (root_ppn C.layout (space_of H h)) (Some stage) (Some begins)) (sym start)
            (record { va = refl; access = refl; ctx = refl; level = omega arith; on = on_path-start C.layout.scheme (words_of C H) (root_ppn C.layout (space_of H h)) va access ctx canonical });
        serving_is = old.serving_is;
        scheme_is = old.scheme_is;
        entries_are = old.entries_are;
      })
      old))

  load_after : (hart : ℕ) (r : Reply) → r ≡ due C H (Load hart) → (h : ℕ) → h < C.harts
      → HartStands C (with_turn (Load hart) r H) h (unwrap_or (slice_get (harts_after m (Load hart) r) h) idle_hart)
  load_after hart r d h below =
      let old = parts h below in
      let fills = with_fill C H (space_of H h) (walk_of H h) (entries_of C H h) in
      let after = unwrap_or (slice_get (harts_after m (Load hart) r) h) idle_hart in
      stands_of C (with_turn (Load hart) r H) h after
      (subst (λ (w : Option Walking). HartIs (words_of C H) C.layout (space_of H h) w (service_of C H h) (cond (is_filled r && eqb hart h) fills (entries_of C H h)) after) (sym (loaded_is r (eqb hart h) (walk_of H h)))
      (subst (λ (es : List Entry). HartIs (words_of C H) C.layout (space_of H h) (cond (is_accepted r && eqb hart h) (loaded r (walk_of H h)) (walk_of H h)) (service_of C H h) es after)
      (sym (filled_is r (eqb hart h) fills (entries_of C H h)))
      (placed (λ v x. HartIs (words_of C H) C.layout (space_of H h) (cond v (loaded r (walk_of H h)) (walk_of H h)) (service_of C H h)
      (cond v (cond (is_filled r) fills (entries_of C H h)) (entries_of C H h)) x) hart h (is_accepted r)
      (λ x. with_load (words_in m) (asid_of_hart m (hart_at m x)) (hart_at m x).walk (hart_at m x)) below
      (λ a same. let p = (passed _ NoHart _ r (sym d) (accepted_is r a)).1 in
      let made : load_reply C H h (walk_of H h) ≡ r = subst (λ x. load_reply C H x (walk_of H x) ≡ r) same p in
      subst (λ (asid : ℕ). HartIs (words_of C H) C.layout (space_of H h) (loaded r (walk_of H h)) (service_of C H h) (cond (is_filled r) fills (entries_of C H h)) (with_load (words_in m) asid (hart_at m h).walk (hart_at m h)))
      (sym (asid_same C m H st h below))
      (subst (λ (words : Tables). HartIs (words_of C H) C.layout (space_of H h) (loaded r (walk_of H h)) (service_of C H h) (cond (is_filled r) fills (entries_of C H h))
      (with_load words (asid_of C H (space_of H h)) (hart_at m h).walk (hart_at m h)))
      (sym (words_same C m H st))
      (load_left C H h r (hart_at m h).walk (walk_of H h) (service_of C H h) (entries_of C H h) (hart_at m h) old.walk_is old.space_is old.serving_is old.scheme_is old.entries_are made a)))
      old)))

  take_after : (hart from : ℕ) (r : Reply) → r ≡ due C H (Take hart from) → (h : ℕ) → h < C.harts
      → HartStands C (with_turn (Take hart from) r H) h (unwrap_or (slice_get (harts_after m (Take hart from) r) h) idle_hart)
  take_after hart from r d h below =
      let old = parts h below in
      stands_of C (with_turn (Take hart from) r H) h _
      (placed (λ v x. HartIs (words_of C H) C.layout (space_of H h) (walk_of H h) (service_with (cond v false (has_fenced H h)) (cond v (slice_get (posts C H from hart) (length (taken H from hart))) (served C H h)))
      (entries_of C H h) x) hart h (is_taken r) (λ x. with_taken from r (hart_at m x)) below
      (λ takes same. let a = taken_accepted r takes in
      let found = take_found C H hart from r d takes in
      let p = passed _ NoHart _ r (sym d) a in
      let w = passed _ Walks _ r p.1 a in
      let v = passed _ Serves _ r w.1 a in
      let is : reply.Taken found.first ≡ r = ap next_reply (sym found.waits) ∙ v.1 in
      let post = first_post (posts C H from hart) (length (taken H from hart)) found.first found.rest found.waits in
      let known = All-slice_get (IsAcceptedPost C H from hart) (posts C H from hart) (length (taken H from hart)) post.0 (posts_known C H from hart st.lawful) post.1 in
      subst (λ (x : Reply). HartIs (words_of C H) C.layout (space_of H h) (walk_of H h) (service_with false (slice_get (posts C H from hart) (length (taken H from hart)))) (entries_of C H h) (with_taken from x (hart_at m h))) is
      (record {
        space_is = old.space_is;
        walk_is = old.walk_is;
        serving_is =
            ap (λ (request : Request). Some (record { from = from; request = request; fenced = false })) (sym post.2)
            ∙ ap (λ (s : ℕ). Some (record { from = s; request = post.0.request; fenced = false })) (sym known.sender)
            ∙ ap (service_with false) (sym post.1);
        scheme_is = old.scheme_is;
        entries_are = old.entries_are;
      }))
      old)

  -- what a ticket asks is what its open order asks
  pub what_same : (h t : ℕ) → h < C.harts → what_in (tickets_at m h) t ≡ what_of C H (open_order H h t)
  what_same h t below = ap (λ (tickets : TicketTable). what_in tickets t) (st.tickets h below) ∙ what_told C H h t st.lawful

  ack_self_after : (hart ticket : ℕ) (r : Reply) (h : ℕ) → h < C.harts
      → HartStands C (with_turn (AckSelf hart ticket) r H) h (unwrap_or (slice_get (harts_after m (AckSelf hart ticket) r) h) idle_hart)
  ack_self_after hart ticket r h below =
      let old = parts h below in
      stands_of C (with_turn (AckSelf hart ticket) r H) h _
      (placed (λ v x. HartIs (words_of C H) C.layout (space_of H h) (walk_of H h) (service_of C H h) (cond v (with_service (entries_of C H h) (what_of C H (open_order H hart ticket))) (entries_of C H h)) x)
      hart h (is_progress r) (λ x. record (hart_at m x) { entries = with_service (hart_at m x).entries (what_in (tickets_at m x) ticket) }) below
      (λ told same. let what : what_in (tickets_at m h) ticket ≡ what_of C H (open_order H hart ticket) =
      subst (λ x. what_in (tickets_at m h) ticket ≡ what_of C H (open_order H x ticket)) (sym same) (what_same h ticket below) in
      record {
        space_is = old.space_is;
        walk_is = old.walk_is;
        serving_is = old.serving_is;
        scheme_is = old.scheme_is;
        entries_are = ap (λ (es : List Entry). with_service es (what_in (tickets_at m h) ticket)) old.entries_are ∙ ap (λ (w : What). with_service (entries_of C H h) w) what;
      })
      old)

  -- after each event
  pub harts_stand : (event : Event) (r : Reply) → r ≡ due C H event → (h : ℕ) → h < C.harts → HartStands C (with_turn event r H) h (unwrap_or (slice_get (harts_after m event r) h) idle_hart)
  harts_stand (Begin hart va access ctx) r d h below = begin_after hart va access ctx r d h below
  harts_stand (Load hart) r d h below = load_after hart r d h below
  harts_stand (Switch hart space) r d h below = switch_after hart space r d h below
  harts_stand (Fence hart rs1 rs2) r d h below = fence_after hart rs1 rs2 r h below
  harts_stand (Take hart from) r d h below = take_after hart from r d h below
  harts_stand (ServeFence hart) r d h below = serve_fence_after hart r d h below
  harts_stand (Ack hart) r d h below = ack_after hart r h below
  harts_stand (AckSelf hart ticket) r d h below = ack_self_after hart ticket r h below
  harts_stand (Reclaim hart space) r d h below =
      let old = st.harts h below in
      record {
        space = old.space;
        walk = walk_kept C st.within H hart space r h (hart_at m h).walk (walk_of H h) st.lawful st.pages d below old.walk;
        serving = old.serving;
        scheme = old.scheme;
        entries = old.entries;
      }
  harts_stand event r d h below =
      let old = st.harts h below in
      record {
        space = old.space;
        walk = same_walk_kept C.layout.scheme (words_of C H) (words_of C (with_turn event r H)) (root_ppn C.layout (space_of H h)) (hart_at m h).walk (walk_of H h) (pointers_kept C st.within event r H refl st.lawful st.pages d) old.walk;
        serving = old.serving;
        scheme = old.scheme;
        entries = old.entries;
      }
