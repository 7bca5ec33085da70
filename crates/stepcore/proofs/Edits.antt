-- The store of an edit leaves the words and the used frames that its event asks for.
use Rattle.std.proofs.Common.{◌≡◌, ℕ, true, false, cond, Option, Some, None, length, Result, Ok, Err, refl, ap, sym, ◌∙◌}
use Rattle.std.specs.Prelude.{is_some, slice_set}
use Rattle.pte.specs.Address.{Span, IsPage}
use Rattle.pte.specs.declared.address.What.{What}
use Rattle.pte.specs.Entry.{kind_of}
use Rattle.pte.specs.declared.flags.PteFlags.{PteFlags}
use Rattle.spaces.specs.declared.places.Place.{Place}
use Rattle.spaces.specs.declared.wishes.Wish.{Wish}
use Rattle.spaces.specs.declared.wishes.Wish.TheVariants as wish
use Rattle.spaces.specs.Layout.{HasPlace}
use Rattle.spaces.specs.Held.{Held, IsMemory, memory_words, holders_of, spare_of}
use Rattle.spaces.specs.Edits.{Store, place_of, page_of}
use Rattle.spaces.specs.Accepted.{Accepted}
use Rattle.spaces.specs.Applied.{points_at, holders_after, words_after_store}
use Rattle.walk.specs.Leads.{Tables}
use Rattle.walk.specs.Pointers.{pointed}
use Rattle.walk.specs.Stores.{stored as stored_words}
use Rattle.spaces.proofs.EditLaws.{edit-accepted}
use Rattle.history.specs.declared.event.Event.TheVariants.{Map}
use Rattle.history.specs.declared.reply.Reply.{Reply}
use Rattle.history.specs.declared.refusal.Refusal.{Refusal}
use Rattle.history.specs.declared.reply.Reply.TheVariants as reply
use Rattle.history.specs.Turns.{is_table_at}
use Rattle.shoot.specs.Tickets.{after_open}
use Rattle.history.specs.Due.{stored_reply}
use Rattle.laws.proofs.StoredWords.{map_stored, unmap_stored, protect_stored}
use Rattle.laws.proofs.TreeKept.{stored-at, removed_unpointed, changed_unpointed}
use Rattle.stepcore.specs.State.{State, setup_in, space_at, tickets_at, words_in, holders_in}
use Rattle.stepcore.specs.Answers.{change_answer, edit_in, page_request}
use Rattle.stepcore.specs.Changes.{Answers, Follows, event_of, is_accepted, is_change, reply_of}

-- the memory after a store that is due
pub record IsStored (m : State) (now : Held) (hart : ℕ) (w : Wish) (store : Store) : Type 0 where
  pub memory : IsMemory m.memory
  pub has : HasPlace m.memory.layout (place_of w)
  pub page : IsPage (page_of w)
  pub is : edit_in m hart w ≡ Ok store
  pub layout : now.layout ≡ m.memory.layout
  pub words : (ppn i : ℕ) → memory_words now ppn i ≡ words_after_store (memory_words m.memory) store ppn i
  pub holders : (ppn : ℕ) → holders_of now ppn ≡ holders_after (holders_of m.memory) store.place store ppn

module _ (m : State) (now : Held) (hart : ℕ) where
  accepted : (w : Wish) (store : Store) → IsStored m now hart w store → Accepted m.memory.layout (memory_words m.memory) (spare_of m.memory hart) hart w store
  accepted w store is =
      edit-accepted m.memory.layout (memory_words m.memory) (holders_in m) hart w store
      (record { layout = is.memory.layout; tree = is.memory.tree; has = is.has; page = is.page; is = is.is })

  -- the words after it are those of its event
  words : (w : Wish) (store : Store) → IsStored m now hart w store → (new : Tables) → new ≡ stored_words (words_in m) store.ppn store.index store.word → (ppn i : ℕ) → memory_words now ppn i ≡ new ppn i
  words w store is new same ppn i = is.words ppn i ∙ ap (λ (x : Tables). x ppn i) (sym same)

-- a word that is no pointer leaves the holders
unpointed : (o : Option ℕ) → is_some o ≡ false → (ppn : ℕ) → points_at o ppn ≡ false
unpointed None e ppn = refl
unpointed (Some t) e ppn = absurd (cc (e))

module _ (m new : State) (hart : ℕ) (others : new ≡ record m { memory = new.memory }) where
  pub map_follows : (place : Place) (page : Span) (ppn : ℕ) (flags : PteFlags) (store : Store) → IsStored m new.memory hart (wish.Map place page ppn flags) store
      → Follows m (Map hart place page ppn flags) (stored_reply (kind_of store.word)) new
  map_follows place page ppn flags store is = record {
    layout = is.layout;
    count = ap (λ (s : State). length s.spaces) others;
    spaces = λ k below. ap (λ (s : State). space_at s k) others;
    words = λ p i. words m new.memory hart (wish.Map place page ppn flags) store is _
        (map_stored (setup_in m) (words_in m) (holders_in m) hart store place page ppn flags _ _ is.memory.layout is.is (accepted m new.memory hart (wish.Map place page ppn flags) store is).writes) p i;
    holders = λ p. is.holders p
        ∙ ap (λ v. cond v (Some store.place) (holders_in m p)) (sym (stored-at (kind_of store.word) p))
        ∙ ap (λ x. cond (is_table_at (stored_reply (kind_of store.word)) p) (Some x) (holders_in m p)) (accepted m new.memory hart (wish.Map place page ppn flags) store is).by;
    harts = ap (λ (s : State). s.harts) others;
    tickets = ap (λ (s : State). s.tickets) others;
    mailboxes = ap (λ (s : State). s.mailboxes) others;
    capacity = ap (λ (s : State). s.capacity) others;
  }

-- the store of a change is no pointer
no_pointer : (m : State) (now : Held) (hart : ℕ) (w : Wish) (store : Store) → is_change w ≡ true → IsStored m now hart w store
    → is_some (pointed (Some store.word)) ≡ false
no_pointer m now hart (wish.Map place page ppn flags) store e is = absurd (cc (e))
no_pointer m now hart (wish.Unmap place page) store e is = removed_unpointed _ _ _ _ place page (accepted m now hart (wish.Unmap place page) store is).writes
no_pointer m now hart (wish.Protect place page flags) store e is =
    changed_unpointed _ _ _ place page flags _ (accepted m now hart (wish.Protect place page flags) store is).writes

-- a ticket that is opened for the page of a wish, and the store
module _ (m mid new : State) (hart named t : ℕ) (what : What)
    (opens : mid ≡ record m { tickets = slice_set m.tickets hart (after_open (tickets_at m hart) what named) })
    (others : new ≡ record mid { memory = new.memory }) where
  tickets : (w : Wish) → what ≡ page_request m (place_of w) (page_of w)
      → new.tickets ≡ slice_set m.tickets hart (after_open (tickets_at m hart) (page_request m (place_of w) (page_of w)) named)
  tickets w asks =
      ap (λ (s : State). s.tickets) others
      ∙ (ap (λ (s : State). s.tickets) opens
      ∙ ap (λ (w : What). slice_set m.tickets hart (after_open (tickets_at m hart) w named)) asks)

  holders : (w : Wish) (store : Store) → is_change w ≡ true → IsStored m new.memory hart w store → (p : ℕ) → holders_in new p ≡ holders_in m p
  holders w store e is p = is.holders p ∙ ap (λ v. cond v (Some store.place) (holders_in m p)) (unpointed (pointed (Some store.word)) (no_pointer m new.memory hart w store e is) p)

  pub change_follows : (w : Wish) (store : Store) → is_change w ≡ true → what ≡ page_request m (place_of w) (page_of w) → IsStored m new.memory hart w store
      → Follows m (event_of hart w named) (reply.Opened t) new
  change_follows (wish.Map place page ppn flags) store e asks is = absurd (cc (e))
  change_follows (wish.Unmap place page) store e asks is = record {
    layout = is.layout;
    count = ap (λ (s : State). length s.spaces) others ∙ ap (λ (s : State). length s.spaces) opens;
    spaces = λ k below. ap (λ (s : State). space_at s k) others ∙ ap (λ (s : State). space_at s k) opens;
    words = λ p i. words m new.memory hart (wish.Unmap place page) store is _
        (unmap_stored (setup_in m) (words_in m) (holders_in m) hart store place page is.is) p i;
    holders = holders (wish.Unmap place page) store e is;
    harts = ap (λ (s : State). s.harts) others ∙ ap (λ (s : State). s.harts) opens;
    tickets = tickets (wish.Unmap place page) asks;
    mailboxes = ap (λ (s : State). s.mailboxes) others ∙ ap (λ (s : State). s.mailboxes) opens;
    capacity = ap (λ (s : State). s.capacity) others ∙ ap (λ (s : State). s.capacity) opens;
  }
  change_follows (wish.Protect place page flags) store e asks is = record {
    layout = is.layout;
    count = ap (λ (s : State). length s.spaces) others ∙ ap (λ (s : State). length s.spaces) opens;
    spaces = λ k below. ap (λ (s : State). space_at s k) others ∙ ap (λ (s : State). space_at s k) opens;
    words = λ p i. words m new.memory hart (wish.Protect place page flags) store is _
        (protect_stored (setup_in m) (words_in m) (holders_in m) hart store place page flags is.is) p i;
    holders = holders (wish.Protect place page flags) store e is;
    harts = ap (λ (s : State). s.harts) others ∙ ap (λ (s : State). s.harts) opens;
    tickets = tickets (wish.Protect place page flags) asks;
    mailboxes = ap (λ (s : State). s.mailboxes) others ∙ ap (λ (s : State). s.mailboxes) opens;
    capacity = ap (λ (s : State). s.capacity) others ∙ ap (λ (s : State). s.capacity) opens;
  }

-- a change answers its event
module _ (m new : State) (hart named : ℕ) where
  pub change_answers : (w : Wish) (result : Result Reply Refusal) → is_change w ≡ true → IsPage (page_of w) → reply_of result ≡ change_answer m hart w named
      → Follows m (event_of hart w named) (reply_of result) new → (is_accepted (reply_of result) ≡ false → new ≡ m) → Answers m (event_of hart w named) result new
  change_answers (wish.Map place page ppn flags) result e is told follows same = absurd (cc (e))
  change_answers (wish.Unmap place page) result e is told follows same = record { reply = told; follows = follows; refused = same; page = is }
  change_answers (wish.Protect place page flags) result e is told follows same = record { reply = told; follows = follows; refused = same; page = is }

-- and a refused one leaves the machine
pub change_refused : (m new : State) (hart named : ℕ) (w : Wish) (why : Refusal) → new ≡ m → is_change w ≡ true → IsPage (page_of w)
    → change_answer m hart w named ≡ reply.Refused why → Answers m (event_of hart w named) (Err why) new
change_refused m new hart named w why same e is told =
    rw same (change_answers m m hart named w (Err why) e is (sym told) (stays w e) (λ r. refl))
  where
    stays : (w : Wish) → is_change w ≡ true → Follows m (event_of hart w named) (reply.Refused why) m
    stays (wish.Map place page ppn flags) e = absurd (cc (e))
    stays (wish.Unmap place page) e = record {
      layout = refl;
      count = refl;
      spaces = λ s below. refl;
      words = λ p i. refl;
      holders = λ p. refl;
      harts = refl;
      tickets = refl;
      mailboxes = refl;
      capacity = refl;
    }
    stays (wish.Protect place page flags) e = record {
      layout = refl;
      count = refl;
      spaces = λ s below. refl;
      words = λ p i. refl;
      holders = λ p. refl;
      harts = refl;
      tickets = refl;
      mailboxes = refl;
      capacity = refl;
    }
