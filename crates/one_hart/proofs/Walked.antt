-- A translation by a port, as the access and the loads of the machine that it is like.
use Rattle.std.proofs.Common.{◌≡◌, ℕ, zero, suc, ◌+◌, ◌-◌, ◌<◌, ◌≤◌, cond, Bool, true, false, List, [], ◌∷◌, length, map, Option, Some, None, refl, ap, sym, subst, ◌∙◌, inl, inr, arith}
use Rattle.std.specs.Prelude.{Result, Ok, Err, slice_index, sum}
use Rattle.std.proofs.Math.Path.{fun_ext}
use mathlib.Core.Option.{some}
use lib.ListN.{get_elem?}
use Rattle.atomic_table.specs.Table.{State as Shared}
use Rattle.std.proofs.lemmas.Bool.{cases_lt}
use Rattle.std.proofs.lemmas.Bool.Decides.{nat_tests}
use Rattle.std.proofs.lemmas.List.{length-map}
use Rattle.std.proofs.lemmas.List.Elements.{All-replicate}
use Rattle.pte.specs.declared.scheme.Scheme.{Scheme}
use Rattle.pte.specs.declared.scheme.Scheme.TheVariants.{Sv39, Sv48}
use Rattle.pte.specs.declared.permission.Access.{Access}
use Rattle.pte.specs.declared.permission.Ctx.{Ctx}
use Rattle.pte.specs.Address.{IsCanonical, is_canonical, level_count, top_level, widest}
use Rattle.walk.specs.declared.found_or_trap.Found.{Found}
use Rattle.walk.specs.declared.found_or_trap.Trap.{Trap}
use Rattle.walk.specs.declared.found_or_trap.Why.TheVariants.{NotCanonical}
use Rattle.walk.specs.declared.walking.Progress.{Progress}
use Rattle.walk.specs.declared.walking.Progress.TheVariants as progress
use Rattle.walk.specs.Answer.{page_trap}
use Rattle.walk.specs.Leads.{Tables}
use Rattle.walk.specs.Loads.{GoesOn, answer_after, finish}
use Rattle.walk.specs.Stage.{OnPath, Stage, start_of}
use Rattle.walk.proofs.Ending.{goes-on, on_path-start}
use Rattle.walk.proofs.Unique.{outcome_computed}
use Rattle.spaces.specs.Held.{Held, IsLayout, memory_words}
use Rattle.spaces.specs.Layout.{Layout, frame_count, is_frame, layout_of}
use Rattle.spaces.specs.Tree.{IsAtHome, of_root, of_spare, of_window}
use Rattle.spaces.specs.declared.configuration.Config.{Config}
use Rattle.spaces.specs.declared.places.Place.{Place}
use Rattle.tlb.specs.Answer.{address_found}
use Rattle.tlb.specs.Entries.{first_match}
use Rattle.history.specs.Setup.{Setup, setup_of}
use Rattle.history.specs.Turns.{History, is_more, with_turn}
use Rattle.history.specs.Due.{due, match_reply}
use Rattle.history.specs.declared.event.Event.TheVariants as event
use Rattle.history.specs.declared.reply.Reply.{Reply}
use Rattle.history.specs.declared.reply.Reply.TheVariants as reply
use Rattle.laws.proofs.Tools.{by_test}
use Rattle.stepcore.specs.State.{State, HartState, IsMachine, hart_at, live_space, space_at}
use Rattle.stepcore.specs.declared.space_state.SpaceState.{SpaceState}
use Rattle.stepcore.specs.Answers.{asid_of_hart, next_of, progress_answer, reply_to}
use Rattle.stepcore.specs.Changes.{put_hart, with_progress}
use Rattle.stepcore.specs.Stands.{Stands}
use Rattle.stepcore.proofs.Standing.{answers_due, stands_after}
use Rattle.views.specs.declared.view.View.{View}
use Rattle.views.specs.Board.{Board}
use Rattle.views.specs.Rule.{Has, memory_of, tables_in}
use Rattle.views.specs.OnBoard.{HasReads}
use Rattle.views.specs.Walks.{Loads, first, further}
use Rattle.board.specs.Ports.{PortState}
use Rattle.board.specs.Promises.{HasView}
use Rattle.board.specs.Tables.{IsMissed, own_asid, own_root, tlb_filled}
use Rattle.one_hart.specs.Answering.{heard, translation_told}
use Rattle.one_hart.specs.Asked.{Turned, load_on, loaded, turned}
use Rattle.one_hart.specs.Alone.{IsAlone, machine_of}
use Rattle.one_hart.proofs.Steps.{Steps, is-machine, space-below, space-live, spaces-are}
use Rattle.one_hart.proofs.Edited.{layout-same, view-hart}

-- ---- with one hart each frame is at home on it, so its view has all shared table words

sum-one : (xs : List ℕ) → length xs ≡ 1 → sum xs ≡ slice_index xs 0
sum-one [] e = absurd (omega (arith, e))
sum-one (x ∷ []) e = omega arith
sum-one (x ∷ y ∷ xs) e = absurd (omega (arith, e))

frame-home : (l : Layout) → IsLayout l → length l.spares ≡ 1 → (f : ℕ) → l.base ≤ f → f < l.base + frame_count l → IsAtHome l 0 f
frame-home l fits one f from to =
    elim (cases_lt f (l.base + l.window)) [
      | inl less ↦ of_window (f - l.base) (omega (arith, from, less)) refl (omega (arith, from))
      | inr past ↦
          elim (cases_lt f (l.base + l.window + length l.homes)) [
            | inl less ↦
                let s = f - (l.base + l.window) in
                let has : s < length l.homes = omega (arith, past, less) in
                let home = fits.homes s 0 has in
                of_root s has (omega (arith, home, one)) (omega (arith, past))
            | inr past' ↦ of_spare (f - (l.base + l.window + length l.homes)) (omega (arith, past', to, sum-one l.spares one)) (omega (arith, past'))
          ]
    ]

module _ (c : Config) (s : Shared ℕ View) (board : Board c s) (i : ℕ) (v : View) (at : get_elem? s.views i ≡ some v) (own : v.hart ≡ 0) (one : length (layout_of c).spares ≡ 1) where
  fits : IsLayout (layout_of c)
  fits = (board.tables.each i v at).local.memory.layout

  outside : (f j : ℕ) → is_frame (layout_of c) f ≡ false → tables_in (layout_of c) s.words f j ≡ memory_words (memory_of (layout_of c) v) f j
  unfolding memory_words
  outside f j none = rw none refl

  pub tables-same : (f j : ℕ) → tables_in (layout_of c) s.words f j ≡ memory_words (memory_of (layout_of c) v) f j
  tables-same f j =
      by_test (λ _. tables_in (layout_of c) s.words f j ≡ memory_words (memory_of (layout_of c) v) f j) (is_frame (layout_of c) f)
      (λ there.
      let from : (layout_of c).base ≤ f = grind (arith, nat_tests) in
      let to : f < (layout_of c).base + frame_count (layout_of c) = grind (arith, nat_tests) in
      (board.tables.each i v at).own f j (subst (λ h. IsAtHome (layout_of c) h f) (sym own) (frame-home (layout_of c) fits one f from to)))
      (λ none. outside f j none)

-- ---- loads of a machine

loaded-more : (C : Setup) (n : ℕ) (G : History) → loaded (suc n) C (record { reply = reply.More; history = G }) ≡ loaded n C (turned C (event.Load 0) G)
unfolding loaded
loaded-more C n G = refl

pub loaded-stops : (C : Setup) (n : ℕ) (last : Turned) → is_more last.reply ≡ false → loaded n C last ≡ last
unfolding loaded
loaded-stops C zero last e = refl
loaded-stops C (suc n) last e = ap (λ (v : Bool). loaded n C (cond v (turned C (event.Load 0) last.history) last)) e ∙ loaded-stops C n last e

-- the first of the loads that are left, and none left
pub loaded-next : (C : Setup) (k n : ℕ) (last : Turned) → k ≡ suc n → loaded k C last ≡ loaded n C (load_on C last)
unfolding loaded
loaded-next C k n last is = ap (λ (m : ℕ). loaded m C last) is

pub loaded-none : (C : Setup) (k : ℕ) (last : Turned) → k ≡ 0 → loaded k C last ≡ last
unfolding loaded
loaded-none C k last is = ap (λ (m : ℕ). loaded m C last) is

abbrev walking : PortState → Stage → State
walking p stage = record {
  memory = memory_of p.setup.layout p.view;
  spaces = (machine_of p).spaces;
  harts = record { scheme = p.tlb.scheme; space = p.space; walk = Some stage; serving = None; entries = p.tlb.entries } ∷ [];
  tickets = (machine_of p).tickets;
  mailboxes = (machine_of p).mailboxes;
  capacity = p.setup.capacity;
}

-- the port once a walk ended so
abbrev ended-port : PortState → Result Found Trap → PortState
ended-port p found = record p { tlb = tlb_filled p.tlb (own_asid p) found }

module _ (C : Setup) (H : History) (p : PortState) (is : IsAlone C H p) where
  abbrev words : Tables
  words = memory_words (memory_of p.setup.layout p.view)

  walking-machine : (stage : Stage) → IsMachine (walking p stage)
  walking-machine stage = record {
    few = omega arith;
    tickets = refl;
    mailboxes = refl;
    homes = spaces-are C H p is;
    spaces = All-replicate (λ (hart : HartState). hart.space < length (map live_space p.setup.asids)) 1 _ (omega (arith, space-below C H p is, length-map p.setup.asids live_space));
  }

  asid-same : (space_at (machine_of p) p.space).asid ≡ own_asid p
  asid-same = ap (λ (x : SpaceState). x.asid) (space-live p.setup.asids p.space (space-below C H p is))

  -- one load
  pub record Loaded (stage : Stage) (made : Progress) (G : History) (new : State) : Type 0 where
    pub due-is : due C G (event.Load 0) ≡ progress_answer made
    pub stands : Stands C new (with_turn (event.Load 0) (progress_answer made) G)

  load-due : (stage : Stage) (G : History) → Stands C (walking p stage) G → due C G (event.Load 0) ≡ progress_answer (next_of words stage)
  load-due stage G stands = sym (answers_due C (walking p stage) G stands (walking-machine stage) (event.Load 0))

  goes-on-to : (stage next : Stage) (G : History) → Stands C (walking p stage) G → next_of words stage ≡ progress.More next → Loaded stage (progress.More next) G (walking p next)
  goes-on-to stage next G stands made = record {
    due-is = load-due stage G stands ∙ ap progress_answer made;
    stands = stands_after C (walking p stage) G stands (walking-machine stage) (event.Load 0) (Ok reply.More) (walking p next) (record {
      reply = ap progress_answer (sym made);
      follows = record {
        layout = refl;
        count = refl;
        spaces = λ s below. refl;
        words = λ f i. refl;
        holders = λ f. refl;
        harts = ap (λ (x : Progress). with_progress (asid_of_hart (walking p stage) (hart_at (walking p stage) 0)) x (hart_at (walking p stage) 0) ∷ []) (sym made);
        tickets = refl;
        mailboxes = refl;
        capacity = refl;
      };
      refused = λ e. absurd cc;
      page = tt;
    });
  }

  finds : (stage : Stage) (found : Found) (G : History) → Stands C (walking p stage) G → next_of words stage ≡ progress.Found found → Loaded stage (progress.Found found) G (machine_of (ended-port p (Ok found)))
  finds stage found G stands made = record {
    due-is = load-due stage G stands ∙ ap progress_answer made;
    stands = stands_after C (walking p stage) G stands (walking-machine stage) (event.Load 0) (Ok (reply.Filled found.pa)) (machine_of (ended-port p (Ok found))) (record {
      reply = ap progress_answer (sym made);
      follows = record {
        layout = refl;
        count = refl;
        spaces = λ s below. refl;
        words = λ f i. refl;
        holders = λ f. refl;
        harts =
            ap (λ (asid : ℕ). with_progress asid (progress.Found found) (hart_at (walking p stage) 0) ∷ []) (sym asid-same)
            ∙ ap (λ (x : Progress). with_progress (asid_of_hart (walking p stage) (hart_at (walking p stage) 0)) x (hart_at (walking p stage) 0) ∷ []) (sym made);
        tickets = refl;
        mailboxes = refl;
        capacity = refl;
      };
      refused = λ e. absurd cc;
      page = tt;
    });
  }

  traps : (stage : Stage) (trap : Trap) (G : History) → Stands C (walking p stage) G → next_of words stage ≡ progress.Trap trap → Loaded stage (progress.Trap trap) G (machine_of (ended-port p (Err trap)))
  traps stage trap G stands made = record {
    due-is = load-due stage G stands ∙ ap progress_answer made;
    stands = stands_after C (walking p stage) G stands (walking-machine stage) (event.Load 0) (Ok (reply.Trap trap)) (machine_of (ended-port p (Err trap))) (record {
      reply = ap progress_answer (sym made);
      follows = record {
        layout = refl;
        count = refl;
        spaces = λ s below. refl;
        words = λ f i. refl;
        holders = λ f. refl;
        harts = ap (λ (x : Progress). with_progress (asid_of_hart (walking p stage) (hart_at (walking p stage) 0)) x (hart_at (walking p stage) 0) ∷ []) (sym made);
        tickets = refl;
        mailboxes = refl;
        capacity = refl;
      };
      refused = λ e. absurd cc;
      page = tt;
    });
  }

  -- what the loads of a walk come to
  pub record Ends (answer : Result Found Trap) (last : Turned) : Type 0 where
    pub told : translation_told (address_found answer) ≡ heard last.reply
    pub stands : Stands C (machine_of (ended-port p answer)) last.history

  -- the turned load, where its reply is known
  turned-as : (G : History) (r : Reply) → due C G (event.Load 0) ≡ r → turned C (event.Load 0) G ≡ record { reply = r; history = with_turn (event.Load 0) r G }
  turned-as G r same = ap (λ (x : Reply). let t : Turned = record { reply = x; history = with_turn (event.Load 0) x G } in t) same

  ends-at : (n : ℕ) (G : History) (r : Reply) (answer : Result Found Trap) → due C G (event.Load 0) ≡ r → is_more r ≡ false → translation_told (address_found answer) ≡ heard r
      → Stands C (machine_of (ended-port p answer)) (with_turn (event.Load 0) r G) → Ends answer (loaded (suc n) C (record { reply = reply.More; history = G }))
  ends-at n G r answer same stops told stands =
      let last : Turned = record { reply = r; history = with_turn (event.Load 0) r G } in
      subst (Ends answer) (sym (loaded-more C n G ∙ ap (loaded n C) (turned-as G r same) ∙ loaded-stops C n last stops)) (record { told = told; stands = stands })

  -- one load of a walk, and then those that are left
  load-by : (root n : ℕ) (stage : Stage) (G : History) (made : Progress) → stage.level < suc n → Stands C (walking p stage) G
      → ((next : Stage) (K : History) → next.level < n → OnPath p.setup.layout.scheme words root next → Stands C (walking p next) K
      → Ends (answer_after n words next) (loaded n C (record { reply = reply.More; history = K })))
      → next_of words stage ≡ made → GoesOn p.setup.layout.scheme words root stage made
      → Ends (finish (answer_after n words) made) (loaded (suc n) C (record { reply = reply.More; history = G }))
  load-by root n stage G (progress.More next) less stands again made goes =
      let loaded-it = goes-on-to stage next G stands made in
      subst (Ends (answer_after n words next)) (sym (loaded-more C n G ∙ ap (loaded n C) (turned-as G reply.More loaded-it.due-is)))
      (again next (with_turn (event.Load 0) reply.More G) (omega (arith, goes.1, less)) goes.0 loaded-it.stands)
  load-by root n stage G (progress.Found found) less stands again made goes =
      let loaded-it = finds stage found G stands made in
      ends-at n G (reply.Filled found.pa) (Ok found) loaded-it.due-is refl refl loaded-it.stands
  load-by root n stage G (progress.Trap trap) less stands again made goes =
      let loaded-it = traps stage trap G stands made in
      ends-at n G (reply.Trap trap) (Err trap) loaded-it.due-is refl refl loaded-it.stands

  pub loads : (root n : ℕ) (stage : Stage) (G : History) → stage.level < n → OnPath p.setup.layout.scheme words root stage → Stands C (walking p stage) G
      → Ends (answer_after n words stage) (loaded n C (record { reply = reply.More; history = G }))
  loads root zero stage G less on stands = absurd (omega arith)
  loads root (suc n) stage G less on stands =
      load-by root n stage G (next_of words stage) less stands (λ next K below on' stands'. loads root n next K below on' stands') refl (goes-on p.setup.layout.scheme words root stage _ on refl)

  -- the words that the loads of a missed translation found stand in those words
  last-reads : (v w : View) (root : ℕ) → Loads v root w → HasReads w
  last-reads v w root (first stage word u is has) = has
  last-reads v w root (further u stage word x loads more is has) = has

  -- the access begins
  begin-told : (va : ℕ) (access : Access) (ctx : Ctx) → reply_to (machine_of p) (event.Begin 0 va access ctx)
      ≡ cond (is_canonical p.setup.layout.scheme va) (match_reply va access ctx (first_match p.tlb.entries (own_asid p) va)) (reply.Trap (page_trap access NotCanonical))
  begin-told va access ctx =
      ap (λ (asid : ℕ). cond (is_canonical p.setup.layout.scheme va) (match_reply va access ctx (first_match p.tlb.entries asid va)) (reply.Trap (page_trap access NotCanonical))) asid-same

  abbrev start : ℕ → Access → Ctx → Stage
  start va access ctx = start_of p.setup.layout.scheme (own_root p) va access ctx

  -- it is answered at once: nothing changes
  pub at-once : (va : ℕ) (access : Access) (ctx : Ctx) (r : Reply)
      → r ≡ cond (is_canonical p.setup.layout.scheme va) (match_reply va access ctx (first_match p.tlb.entries (own_asid p) va)) (reply.Trap (page_trap access NotCanonical)) → is_more r ≡ false
      → Steps p p (event.Begin 0 va access ctx) r
  at-once va access ctx r is-r stops = record {
    told = is-r ∙ sym (begin-told va access ctx);
    follows = record {
      layout = refl;
      count = refl;
      spaces = λ s below. refl;
      words = λ f i. refl;
      holders = λ f. refl;
      harts =
          sym (ap (λ (v : Bool). put_hart (machine_of p) 0 v (record { scheme = p.tlb.scheme; space = p.space; walk = Some (start va access ctx); serving = None; entries = p.tlb.entries })) stops);
      tickets = refl;
      mailboxes = refl;
      capacity = refl;
    };
    refused = λ e. refl;
    page = tt;
    setup_same = refl;
    hart_same = refl;
  }

  begun-told : (va : ℕ) (access : Access) (ctx : Ctx) → is_canonical p.setup.layout.scheme va ≡ true → first_match p.tlb.entries (own_asid p) va ≡ None
      → reply_to (machine_of p) (event.Begin 0 va access ctx) ≡ reply.More
  begun-told va access ctx canonical none =
      begin-told va access ctx
      ∙ ap (λ (v : Bool). cond v (match_reply va access ctx (first_match p.tlb.entries (own_asid p) va)) (reply.Trap (page_trap access NotCanonical))) canonical
      ∙ ap (match_reply va access ctx) none

  begun-stands : (va : ℕ) (access : Access) (ctx : Ctx) → reply_to (machine_of p) (event.Begin 0 va access ctx) ≡ reply.More
      → Stands C (walking p (start va access ctx)) (with_turn (event.Begin 0 va access ctx) reply.More H)
  begun-stands va access ctx told =
      stands_after C (machine_of p) H is.stands (is-machine C H p is) (event.Begin 0 va access ctx) (Ok reply.More) (walking p (start va access ctx)) (record {
        reply = sym told;
        follows = record { layout = refl; count = refl; spaces = λ s below. refl; words = λ f i. refl; holders = λ f. refl; harts = refl; tickets = refl; mailboxes = refl; capacity = refl };
        refused = λ e. absurd cc;
        page = tt;
      })

  level-less : (scheme : Scheme) → top_level scheme < level_count widest
  level-less Sv39 = omega arith
  level-less Sv48 = omega arith

  module _ (state : Shared ℕ View) (view : HasView p state) (va : ℕ) (access : Access) (ctx : Ctx) (answer : Result ℕ Trap) (after : PortState) (missed : IsMissed p va access ctx answer after) where
    reads : HasReads after.view
    reads = last-reads p.view after.view (own_root p) missed.loads.own_loads

    one : length (layout_of after.view.config).spares ≡ 1
    one =
        reads.on.stands.tables.limits.spares ∙ ap (λ (c : Config). (setup_of c).harts) missed.loads.home.config
        ∙ (ap (λ (D : Setup). D.harts) view.config ∙ (ap (λ (D : Setup). D.harts) is.setup_is ∙ is.one))

    memory-same : (l : Layout) → l ≡ p.setup.layout → memory_of l after.view ≡ memory_of p.setup.layout p.view
    memory-same l same =
        ap (λ (k : Layout). memory_of k after.view) same
        ∙ (ap (λ (ws : List ℕ). let m : Held = record { layout = p.setup.layout; words = ws; holders = after.view.holders } in m) missed.loads.home.words
        ∙ ap (λ (hs : List (Option Place)). let m : Held = record { layout = p.setup.layout; words = p.view.words; holders = hs } in m) missed.loads.home.holders)

    found-in-words : Has words after.view.reads
    found-in-words =
        let layout : layout_of after.view.config ≡ p.setup.layout = ap layout_of missed.loads.home.config ∙ layout-same C H p is state view in
        let hart : after.view.hart ≡ 0 = missed.loads.home.hart ∙ view-hart C H p is state view in
        subst (λ (t : Tables). Has t after.view.reads)
        (fun_ext (λ f. fun_ext (λ j.
        tables-same after.view.config reads.on.state reads.on.stands after.view.hart after.view reads.on.at hart one f j
        ∙ ap (λ (m : Held). memory_words m f j) (memory-same (layout_of after.view.config) layout))))
        reads.has

    computed : IsCanonical p.setup.layout.scheme va → missed.found ≡ answer_after (level_count widest) words (start va access ctx)
    computed canonical =
        (outcome_computed p.setup.layout.scheme words (own_root p) (level_count widest) (start va access ctx) missed.found
        (on_path-start p.setup.layout.scheme words (own_root p) va access ctx canonical) (level-less p.setup.layout.scheme)).0
        (missed.loads.each_memory words found-in-words)

    walked-ends : IsCanonical p.setup.layout.scheme va → is_canonical p.setup.layout.scheme va ≡ true → first_match p.tlb.entries (own_asid p) va ≡ None
        → Ends missed.found (loaded (level_count widest) C (turned C (event.Begin 0 va access ctx) H))
    walked-ends canonical test none =
        let told = begun-told va access ctx test none in
        let due-is : due C H (event.Begin 0 va access ctx) ≡ reply.More = sym (answers_due C (machine_of p) H is.stands (is-machine C H p is) (event.Begin 0 va access ctx)) ∙ told in
        let G = with_turn (event.Begin 0 va access ctx) reply.More H in
        let begun : turned C (event.Begin 0 va access ctx) H ≡ record { reply = reply.More; history = G } =
        ap (λ (x : Reply). let t : Turned = record { reply = x; history = with_turn (event.Begin 0 va access ctx) x H } in t) due-is in
        subst (λ (t : Turned). Ends missed.found (loaded (level_count widest) C t)) (sym begun)
        (subst (λ (r : Result Found Trap). Ends r (loaded (level_count widest) C (record { reply = reply.More; history = G }))) (sym (computed canonical))
        (loads (own_root p) (level_count widest) (start va access ctx) G (level-less p.setup.layout.scheme)
        (on_path-start p.setup.layout.scheme words (own_root p) va access ctx canonical) (begun-stands va access ctx told)))

    machine-after : machine_of after ≡ machine_of (ended-port p missed.found)
    machine-after =
        ap machine_of missed.after_is
        ∙ ap (λ (m : Held). let s : State = record (machine_of (ended-port p missed.found)) { memory = m } in s) (memory-same p.setup.layout refl)

    pub walked-due : IsCanonical p.setup.layout.scheme va → is_canonical p.setup.layout.scheme va ≡ true → first_match p.tlb.entries (own_asid p) va ≡ None
        → (let last = loaded (level_count widest) C (turned C (event.Begin 0 va access ctx) H) in (translation_told answer ≡ heard last.reply) × IsAlone C last.history after)
    walked-due canonical test none =
        let last = loaded (level_count widest) C (turned C (event.Begin 0 va access ctx) H) in
        let ends = walked-ends canonical test none in (
          ap translation_told missed.answer_is ∙ ends.told,
          record {
            one = is.one;
            setup_is = ap (λ (q : PortState). q.setup) missed.after_is ∙ is.setup_is;
            hart_is = ap (λ (q : PortState). q.hart) missed.after_is ∙ is.hart_is;
            stands = subst (λ (m : State). Stands C m last.history) (sym machine-after) ends.stands;
          },
        )
