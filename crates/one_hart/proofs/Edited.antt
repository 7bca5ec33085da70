-- The calls of a port that edit tables, as events of the machine that it is like.
use Rattle.std.proofs.Common.{◌≡◌, ℕ, cond, Bool, true, false, not, [], ◌∷◌, length, Some, None, refl, ap, sym, subst, ◌∙◌, arith}
use Rattle.std.specs.Prelude.{Result, Ok, Err}
use Rattle.std.proofs.lemmas.Bool.{ltb-true}
use Rattle.atomic_table.specs.Table.{State as Shared}
use Rattle.pte.specs.Address.{IsPage, Span}
use Rattle.pte.specs.declared.address.What.TheVariants.{PageOf}
use Rattle.pte.specs.declared.entry.Kind.{Kind}
use Rattle.pte.specs.declared.entry.Kind.TheVariants as kinds
use Rattle.pte.specs.declared.flags.PteFlags.{PteFlags}
use Rattle.pte.specs.Entry.{kind_of}
use Rattle.spaces.specs.declared.faults.MapFault.{MapFault}
use Rattle.spaces.specs.declared.places.Place.{Place}
use Rattle.spaces.specs.declared.places.Place.TheVariants.{Space, Kernel}
use Rattle.spaces.specs.declared.wishes.Wish.{Wish}
use Rattle.spaces.specs.declared.wishes.Wish.TheVariants as wish
use Rattle.spaces.specs.Applied.{memory_after}
use Rattle.spaces.specs.Edits.{Store, edit_of, page_of, place_of}
use Rattle.spaces.specs.Held.{Held, IsDue, IsMemory, holders_of, memory_words, spare_of}
use Rattle.spaces.specs.Layout.{HasPlace, Layout, layout_of}
use Rattle.spaces.proofs.Applying.{holders-held, words-held}
use Rattle.shoot.specs.declared.tickets.TicketFault.{TicketFault}
use Rattle.shoot.specs.Tickets.{after_open, open_answer}
use Rattle.history.specs.Setup.{Setup}
use Rattle.history.specs.Spaces.{asid_in}
use Rattle.history.specs.Turns.{History}
use Rattle.history.specs.Due.{are_harts, edit_reply, first_of, map_reply, stored_reply, when}
use Rattle.history.specs.declared.event.Event.TheVariants as event
use Rattle.history.specs.declared.refusal.Refusal.{Refusal}
use Rattle.history.specs.declared.refusal.Refusal.TheVariants.{NoHart, NoSpace, Retiring}
use Rattle.history.specs.declared.reply.Reply.{Reply}
use Rattle.history.specs.declared.reply.Reply.TheVariants as reply
use Rattle.laws.specs.Kept.{HasPage}
use Rattle.stepcore.specs.State.{State}
use Rattle.stepcore.specs.declared.space_state.SpaceState.{SpaceState}
use Rattle.stepcore.specs.Answers.{asid_of_place, change_answer, edit_in, is_place, opening_answer, reply_to, retires}
use Rattle.stepcore.specs.Changes.{Follows, event_of, is_accepted, is_change}
use Rattle.stepcore.proofs.Edits.{IsStored, change_follows, map_follows}
use Rattle.views.specs.declared.view.View.{View}
use Rattle.views.specs.OrderTurns.{noted}
use Rattle.views.specs.Rule.{memory_of}
use Rattle.board.specs.Ports.{PortState}
use Rattle.board.specs.Promises.{HasView}
use Rattle.board.specs.Answers.{answer_or, refused_if, with_tickets}
use Rattle.board.specs.Tables.{after_edit, after_map, after_opened, after_store, due_store, edit_answer, has_place, map_answer, mapped_by, mapped_of, opened_if, page_request}
use Rattle.one_hart.specs.Answering.{map_told, opening_told}
use Rattle.one_hart.specs.Alone.{IsAlone, machine_of}
use Rattle.one_hart.proofs.Steps.{Steps, none-retires, space-is, space-live}
use Rattle.one_hart.proofs.Calls.{named-same, opened-told, three-tests}

-- ---- what is told of the tests of an edit

kind-told : (k : Kind) → map_told (Ok (mapped_by k)) ≡ stored_reply k
kind-told (kinds.Table ppn global) = refl
kind-told kinds.Invalid = refl
kind-told kinds.Reserved = refl
kind-told (kinds.Leaf ppn flags) = refl

accepted-kind : (k : Kind) → is_accepted (map_told (Ok (mapped_by k))) ≡ false → ⊥
accepted-kind (kinds.Table ppn global) e = absurd cc
accepted-kind kinds.Invalid e = absurd cc
accepted-kind kinds.Reserved e = absurd cc
accepted-kind (kinds.Leaf ppn flags) e = absurd cc

map-plain : (b : Bool) (r : Result Store MapFault)
    → map_told (answer_or (refused_if (not b) NoSpace None) (mapped_of r)) ≡ first_of (when (not b) NoSpace ∷ when false Retiring ∷ []) (map_reply r)
map-plain true (Ok store) = kind-told (kind_of store.word)
map-plain true (Err fault) = refl
map-plain false r = refl

map-told : (b there stays : Bool) (r due : Result Store MapFault) → there ≡ b → stays ≡ false → due ≡ r
    → map_told (answer_or (refused_if (not b) NoSpace None) (mapped_of r)) ≡ first_of (when (not there) NoSpace ∷ when stays Retiring ∷ []) (map_reply due)
map-told b there stays r due e f g =
    map-plain b r ∙ ap (λ (x : Bool). first_of (when (not x) NoSpace ∷ when false Retiring ∷ []) (map_reply r)) (sym e)
    ∙ ap (λ (x : Bool). first_of (when (not there) NoSpace ∷ when x Retiring ∷ []) (map_reply r)) (sym f)
    ∙ ap (λ (x : Result Store MapFault). first_of (when (not there) NoSpace ∷ when stays Retiring ∷ []) (map_reply x)) (sym g)

edit-plain : (a b : Bool) (r : Result Store MapFault) (o : Result ℕ TicketFault)
    → opening_told (answer_or (refused_if (not a) NoHart (refused_if (not b) NoSpace None)) (opened_if r o))
    ≡ first_of (when (not a) NoHart ∷ when (not b) NoSpace ∷ when false Retiring ∷ []) (edit_reply r (opening_answer o))
edit-plain true true (Ok store) o = opened-told o
edit-plain true true (Err fault) o = refl
edit-plain true false r o = refl
edit-plain false b r o = refl

edit-told : (a b named there stays : Bool) (r due : Result Store MapFault) (o : Result ℕ TicketFault) → named ≡ a → there ≡ b → stays ≡ false → due ≡ r
    → opening_told (answer_or (refused_if (not a) NoHart (refused_if (not b) NoSpace None)) (opened_if r o))
    ≡ first_of (when (not named) NoHart ∷ when (not there) NoSpace ∷ when stays Retiring ∷ []) (edit_reply due (opening_answer o))
edit-told a b named there stays r due o e f g h =
    edit-plain a b r o ∙ three-tests a b named there stays (edit_reply r (opening_answer o)) e f g
    ∙ ap (λ (x : Result Store MapFault). first_of (when (not named) NoHart ∷ when (not there) NoSpace ∷ when stays Retiring ∷ []) (edit_reply x (opening_answer o))) (sym h)

change-event : (m : State) (w : Wish) (named : ℕ) → is_change w ≡ true → change_answer m 0 w named ≡ reply_to m (event_of 0 w named)
change-event m (wish.Map place page ppn flags) named e = absurd cc
change-event m (wish.Unmap place page) named e = refl
change-event m (wish.Protect place page flags) named e = refl

change-page : (w : Wish) (named : ℕ) → is_change w ≡ true → IsPage (page_of w) → HasPage (event_of 0 w named)
change-page (wish.Map place page ppn flags) named e is = absurd cc
change-page (wish.Unmap place page) named e is = is
change-page (wish.Protect place page flags) named e is = is

change-stays : (m : State) (w : Wish) (named : ℕ) (why : Refusal) → is_change w ≡ true → Follows m (event_of 0 w named) (reply.Refused why) m
change-stays m (wish.Map place page ppn flags) named why e = absurd cc
change-stays m (wish.Unmap place page) named why e =
    record { layout = refl; count = refl; spaces = λ s below. refl; words = λ f i. refl; holders = λ f. refl; harts = refl; tickets = refl; mailboxes = refl; capacity = refl }
change-stays m (wish.Protect place page flags) named why e =
    record { layout = refl; count = refl; spaces = λ s below. refl; words = λ f i. refl; holders = λ f. refl; harts = refl; tickets = refl; mailboxes = refl; capacity = refl }

module _ (C : Setup) (H : History) (p : PortState) (is : IsAlone C H p) (state : Shared ℕ View) (view : HasView p state) where
  pub layout-same : layout_of p.view.config ≡ p.setup.layout
  layout-same = ap (λ (D : Setup). D.layout) view.config

  pub view-hart : p.view.hart ≡ 0
  view-hart = view.stands.tables.numbered p.hart p.view view.at ∙ is.hart_is

  memory-is : IsMemory (memory_of p.setup.layout p.view)
  memory-is = subst (λ (l : Layout). IsMemory (memory_of l p.view)) layout-same (view.stands.tables.each p.hart p.view view.at).local.memory

  edit-same : (w : Wish) → edit_in (machine_of p) 0 w ≡ due_store p w
  edit-same w =
      ap (λ (h : ℕ). edit_of p.setup.layout (memory_words (memory_of p.setup.layout p.view)) (spare_of (memory_of p.setup.layout p.view) h) h w) (sym view-hart)

  has-there : (place : Place) → has_place p.setup place ≡ true → HasPlace p.setup.layout place
  has-there (Space s) there =
      let below = ltb-true s (length p.setup.asids) there in
      let same : length p.setup.asids ≡ length p.setup.layout.homes = subst (λ (D : Setup). length D.asids ≡ length D.layout.homes) (sym is.setup_is) is.stands.within.homes in
      omega (arith, below, same)
  has-there Kernel there = tt

  place-same : (place : Place) → is_place (machine_of p) place ≡ has_place p.setup place
  place-same (Space s) = space-is p.setup.asids s
  place-same Kernel = refl

  place-stays : (place : Place) → retires (machine_of p) place ≡ false
  place-stays (Space s) = none-retires p.setup.asids s
  place-stays Kernel = refl

  stored-memory : (w : Wish) (ticket : ℕ) (store : Store) → memory_of p.setup.layout (noted p.view.config w ticket p.view store) ≡ memory_after (memory_of p.setup.layout p.view) store
  stored-memory w ticket store =
      ap (λ (l : Layout). let x : Held = record {
        layout = p.setup.layout;
        words = (memory_after (memory_of l p.view) store).words;
        holders = (memory_after (memory_of l p.view) store).holders;
      } in x) layout-same

  stored-is : (w : Wish) (ticket : ℕ) (store : Store) → has_place p.setup (place_of w) ≡ true → IsPage (page_of w) → edit_in (machine_of p) 0 w ≡ Ok store
      → IsStored (machine_of p) (memory_of p.setup.layout (noted p.view.config w ticket p.view store)) 0 w store
  stored-is w ticket store there page due =
      let is-due : IsDue (memory_of p.setup.layout p.view) store = record { hart = 0; wish = w; has = has-there (place_of w) there; is = due } in
      record {
        memory = memory-is;
        has = has-there (place_of w) there;
        page = page;
        is = due;
        layout = refl;
        words = λ f i. ap (λ (x : Held). memory_words x f i) (stored-memory w ticket store) ∙ words-held (memory_of p.setup.layout p.view) memory-is store is-due f i;
        holders = λ f. ap (λ (x : Held). holders_of x f) (stored-memory w ticket store) ∙ holders-held (memory_of p.setup.layout p.view) memory-is store is-due f;
      }

  -- Map
  map-by : (place : Place) (page : Span) (ppn : ℕ) (flags : PteFlags) (b : Bool) (r : Result Store MapFault) → has_place p.setup place ≡ b → IsPage page
      → edit_in (machine_of p) 0 (wish.Map place page ppn flags) ≡ r
      → map_told (answer_or (refused_if (not b) NoSpace None) (mapped_of r)) ≡ reply_to (machine_of p) (event.Map 0 place page ppn flags)
      → Steps p (cond b (after_store p (wish.Map place page ppn flags) 0 r) p) (event.Map 0 place page ppn flags) (map_told (answer_or (refused_if (not b) NoSpace None) (mapped_of r)))
  map-by place page ppn flags true (Ok store) there is-page due told = record {
    told = told;
    follows =
        subst (λ (r : Reply). Follows (machine_of p) (event.Map 0 place page ppn flags) r (machine_of (after_store p (wish.Map place page ppn flags) 0 (Ok store)))) (sym (kind-told (kind_of store.word)))
        (map_follows (machine_of p) (machine_of (after_store p (wish.Map place page ppn flags) 0 (Ok store))) 0 refl place page ppn flags store
        (stored-is (wish.Map place page ppn flags) 0 store there is-page due));
    refused = λ e. absurd (accepted-kind (kind_of store.word) e);
    page = is-page;
    setup_same = refl;
    hart_same = refl;
  }
  map-by place page ppn flags true (Err fault) there is-page due told = record {
    told = told;
    follows = record { layout = refl; count = refl; spaces = λ s below. refl; words = λ f i. refl; holders = λ f. refl; harts = refl; tickets = refl; mailboxes = refl; capacity = refl };
    refused = λ e. refl;
    page = is-page;
    setup_same = refl;
    hart_same = refl;
  }
  map-by place page ppn flags false r there is-page due told = record {
    told = told;
    follows = record { layout = refl; count = refl; spaces = λ s below. refl; words = λ f i. refl; holders = λ f. refl; harts = refl; tickets = refl; mailboxes = refl; capacity = refl };
    refused = λ e. refl;
    page = is-page;
    setup_same = refl;
    hart_same = refl;
  }

  pub map-steps : (place : Place) (page : Span) (ppn : ℕ) (flags : PteFlags) → IsPage page
      → Steps p (after_map p (wish.Map place page ppn flags)) (event.Map 0 place page ppn flags) (map_told (map_answer p (wish.Map place page ppn flags)))
  map-steps place page ppn flags is-page =
      map-by place page ppn flags (has_place p.setup place) (due_store p (wish.Map place page ppn flags)) refl is-page (edit-same (wish.Map place page ppn flags))
      (map-told (has_place p.setup place) (is_place (machine_of p) place) (retires (machine_of p) place) (due_store p (wish.Map place page ppn flags)) (edit_in (machine_of p) 0 (wish.Map place page ppn flags))
      (place-same place) (place-stays place) (edit-same (wish.Map place page ppn flags)))

  -- Unmap and Protect
  asid-same : (place : Place) → has_place p.setup place ≡ true → asid_in p.setup [] place ≡ asid_of_place (machine_of p) place
  asid-same (Space s) there = ap (λ (x : SpaceState). Some x.asid) (sym (space-live p.setup.asids s (ltb-true s (length p.setup.asids) there)))
  asid-same Kernel there = refl

  change-by : (w : Wish) (named : ℕ) (a b : Bool) (r : Result Store MapFault) (o : Result ℕ TicketFault) → is_change w ≡ true → has_place p.setup (place_of w) ≡ b → IsPage (page_of w)
      → edit_in (machine_of p) 0 w ≡ r → due_store p w ≡ r
      → (let answer = answer_or (refused_if (not a) NoHart (refused_if (not b) NoSpace None)) (opened_if r o) in
      opening_told answer ≡ reply_to (machine_of p) (event_of 0 w named) → Steps p (after_opened p w named answer) (event_of 0 w named) (opening_told answer))
  change-by w named true true (Ok store) (Ok ticket) changes there is-page due own told =
      let what = page_request p.setup w in
      let done = with_tickets (after_store p w ticket (Ok store)) (after_open p.tickets what named) in
      let same : after_opened p w named (Ok ticket) ≡ done = ap (λ (x : Result Store MapFault). with_tickets (after_store p w ticket x) (after_open p.tickets what named)) own in
      subst (λ (q : PortState). Steps p q (event_of 0 w named) (reply.Opened ticket)) (sym same)
      (record {
        told = told;
        follows =
            change_follows (machine_of p) (record (machine_of p) { tickets = after_open p.tickets what named ∷ [] }) (machine_of done) 0 named ticket what refl refl w store changes
            (ap (PageOf (page_of w)) (asid-same (place_of w) there)) (stored-is w ticket store there is-page due);
        refused = λ e. absurd cc;
        page = change-page w named changes is-page;
        setup_same = refl;
        hart_same = refl;
      })
  change-by w named true true (Ok store) (Err fault) changes there is-page due own told = record {
    told = told;
    follows = change-stays (machine_of p) w named _ changes;
    refused = λ e. refl;
    page = change-page w named changes is-page;
    setup_same = refl;
    hart_same = refl;
  }
  change-by w named true true (Err fault) o changes there is-page due own told = record {
    told = told;
    follows = change-stays (machine_of p) w named _ changes;
    refused = λ e. refl;
    page = change-page w named changes is-page;
    setup_same = refl;
    hart_same = refl;
  }
  change-by w named true false r o changes there is-page due own told = record {
    told = told;
    follows = change-stays (machine_of p) w named _ changes;
    refused = λ e. refl;
    page = change-page w named changes is-page;
    setup_same = refl;
    hart_same = refl;
  }
  change-by w named false b r o changes there is-page due own told = record {
    told = told;
    follows = change-stays (machine_of p) w named _ changes;
    refused = λ e. refl;
    page = change-page w named changes is-page;
    setup_same = refl;
    hart_same = refl;
  }

  pub change-steps : (w : Wish) (named : ℕ) → is_change w ≡ true → IsPage (page_of w) → Steps p (after_edit p w named) (event_of 0 w named) (opening_told (edit_answer p w named))
  change-steps w named changes is-page =
      change-by w named (are_harts p.setup named) (has_place p.setup (place_of w)) (due_store p w) (open_answer p.tickets named) changes refl is-page (edit-same w) refl
      (edit-told (are_harts p.setup named) (has_place p.setup (place_of w)) _ (is_place (machine_of p) (place_of w)) (retires (machine_of p) (place_of w)) (due_store p w) (edit_in (machine_of p) 0 w)
      (open_answer p.tickets named) (named-same C H p is named) (place-same (place_of w)) (place-stays (place_of w)) (edit-same w)
      ∙ change-event (machine_of p) w named changes)
