-- The reply that is due to an event is of the event's kind, so its result tells it.
use Rattle.std.proofs.Common.{◌≡◌, ◌∙◌, sym, ap, subst, refl, ℕ, ◌==◌, ◌&&◌, not, Bool, true, false, cond, List, [], ◌∷◌, length, Option, Some, None, Result, Ok, Err}
use Rattle.std.specs.Prelude.{is_none, is_some, nat_le}
use Rattle.std.proofs.lemmas.Bool.{true≢false}
use Rattle.pte.specs.declared.entry.Kind.{Kind}
use Rattle.pte.specs.declared.entry.Kind.TheVariants as kinds
use Rattle.pte.specs.Entry.{kind_of}
use Rattle.spaces.specs.declared.faults.MapFault.{MapFault}
use Rattle.spaces.specs.declared.places.Place.TheVariants as place
use Rattle.spaces.specs.declared.wishes.Wish.TheVariants as wish
use Rattle.spaces.specs.Edits.{Store}
use Rattle.spaces.specs.Layout.{home_of}
use Rattle.shoot.specs.HartSet.{byte_of, contains, harts_in, is_empty}
use Rattle.shoot.specs.Request.{Request}
use Rattle.shoot.specs.declared.TheConstants.{MAX_TICKETS}
use Rattle.history.specs.declared.event.Event.{Event}
use Rattle.history.specs.declared.event.Event.TheVariants.{Map, Unmap, Protect, Flush, Switch, Fence, Post, Take, ServeFence, Ack, AckSelf, Collect, Finish, Close, Retire, Reclaim, Create}
use Rattle.history.specs.declared.refusal.Refusal.{Refusal}
use Rattle.history.specs.declared.reply.Reply.{Reply}
use Rattle.history.specs.declared.reply.Reply.TheVariants as reply
use Rattle.history.specs.Acknowledgements.{is_posted, outstanding}
use Rattle.history.specs.Due.{are_harts, are_pair, due, edit_at, edit_reply, for_open, is_asid_of, is_done, is_in_use, is_number, is_place, is_scope, is_space, least_free, left_after, left_reply, map_reply as due_map, names, next_reply, open_reply, opened_reply, reclaim_reply, retires, scope_retires, stored_reply}
use Rattle.history.specs.Harts.{walk_of}
use Rattle.history.specs.Mailboxes.{is_closed, waiting}
use Rattle.history.specs.Orders.{open_order, order_at}
use Rattle.history.specs.Runs.{with_turn}
use Rattle.history.specs.Service.{has_fenced, served}
use Rattle.history.specs.Setup.{Setup, is_hart}
use Rattle.history.specs.Spaces.{Status, Live, Retires, Free, is_free, is_retiring, status_of}
use Rattle.history.specs.Turns.{History}
use Rattle.stepcore.specs.Changes.{Follows, is_accepted}
use Rattle.stepcore.specs.Runs.{Promises}
use Rattle.stepcore.specs.Stands.{Stands}
use Rattle.stepcore.specs.State.{State}
use Rattle.melissaledge.specs.Calls.{IsMade, Makes, call_reply, called_of, calls, collects, map_reply, mapped_of, maps, opened_of, opening_reply, opens, progress_of, progress_reply, taken_of, takes, taking_reply}

-- a result that tells its reply
pub record Told {X : Type 0} (of : Reply → Result X Refusal) (back : Result X Refusal → Reply) (r : Reply) : Type 0 where
  pub tells : back (of r) ≡ r

abbrev IsMap : Reply → Type 0
IsMap = Told mapped_of map_reply

abbrev IsOpening : Reply → Type 0
IsOpening = Told opened_of opening_reply

abbrev IsCall : Reply → Type 0
IsCall = Told called_of call_reply

abbrev IsTaking : Reply → Type 0
IsTaking = Told taken_of taking_reply

abbrev IsProgress : Reply → Type 0
IsProgress = Told progress_of progress_reply

-- what holds of each refusal, and of the answer past it
module _ (P : Reply → Type 0) (refuses : (r : Refusal) → P (reply.Refused r)) where
  unless : (b : Bool) (r : Refusal) {answer : Reply} → P answer → P (cond b (reply.Refused r) answer)
  unless true r p = refuses r
  unless false r p = p

  if_open : (order : Option ℕ) {answer : ℕ → Reply} → ((n : ℕ) → P (answer n)) → P (for_open order answer)
  if_open None p = refuses _
  if_open (Some n) p = p n

refused-map : (r : Refusal) → IsMap (reply.Refused r)
refused-map r = record { tells = refl }

refused-opening : (r : Refusal) → IsOpening (reply.Refused r)
refused-opening r = record { tells = refl }

refused-call : (r : Refusal) → IsCall (reply.Refused r)
refused-call r = record { tells = refl }

refused-taking : (r : Refusal) → IsTaking (reply.Refused r)
refused-taking r = record { tells = refl }

refused-progress : (r : Refusal) → IsProgress (reply.Refused r)
refused-progress r = record { tells = refl }

stored-map : (k : Kind) → IsMap (stored_reply k)
stored-map (kinds.Table ppn global) = record { tells = refl }
stored-map kinds.Invalid = record { tells = refl }
stored-map kinds.Reserved = record { tells = refl }
stored-map (kinds.Leaf ppn flags) = record { tells = refl }

edit-map : (store : Result Store MapFault) → IsMap (due_map store)
edit-map (Ok store) = stored-map (kind_of store.word)
edit-map (Err fault) = refused-map _

ticket-opening : (ticket : Option ℕ) → IsOpening (opened_reply ticket)
ticket-opening None = refused-opening _
ticket-opening (Some n) = record { tells = refl }

edit-opening : (store : Result Store MapFault) {opening : Reply} → IsOpening opening → IsOpening (edit_reply store opening)
edit-opening (Ok store) p = p
edit-opening (Err fault) p = refused-opening _

next-taking : (waiting : List Request) → IsTaking (next_reply waiting)
next-taking [] = refused-taking _
next-taking (request ∷ rest) = record { tells = refl }

by-empty : (b : Bool) (harts : ℕ) → IsProgress (cond b reply.Done (reply.Waiting harts))
by-empty true harts = record { tells = refl }
by-empty false harts = record { tells = refl }

left-progress : (left : List Bool) → IsProgress (left_reply left)
left-progress left = by-empty (is_empty left) (byte_of left)

ok-call : IsCall reply.Ok
ok-call = record { tells = refl }

module _ (setup : Setup) (history : History) where
  reclaim-call : (status : Status) → IsCall (reclaim_reply setup history status)
  reclaim-call Live = refused-call _
  reclaim-call (Retires order) = unless IsCall refused-call (not (is_done setup history order)) _ ok-call
  reclaim-call Free = refused-call _

  open-opening : (hart named : ℕ) → IsOpening (open_reply history hart named)
  open-opening hart named = unless IsOpening refused-opening (not (contains (harts_in named) hart)) _ (ticket-opening (least_free history hart MAX_TICKETS 0))

  pub due-map : (event : Event) → maps event ≡ true → IsMap (due setup history event)
  due-map (Map hart place page ppn flags) e =
      unless IsMap refused-map (not (is_hart setup hart)) _ (unless IsMap refused-map (not (is_place setup history place)) _ (unless IsMap refused-map (retires history place) _
      (edit-map (edit_at setup history hart (wish.Map place page ppn flags)))))
  due-map _ e = absurd (true≢false (sym e))

  pub due-opening : (event : Event) → opens event ≡ true → IsOpening (due setup history event)
  due-opening (Unmap hart place page named) e =
      unless IsOpening refused-opening (not (is_hart setup hart && are_harts setup named)) _ (unless IsOpening refused-opening (not (is_place setup history place)) _ (unless IsOpening refused-opening (retires history place) _
      (edit-opening (edit_at setup history hart (wish.Unmap place page)) (open-opening hart named))))
  due-opening (Protect hart place page flags named) e =
      unless IsOpening refused-opening (not (is_hart setup hart && are_harts setup named)) _ (unless IsOpening refused-opening (not (is_place setup history place)) _ (unless IsOpening refused-opening (retires history place) _
      (edit-opening (edit_at setup history hart (wish.Protect place page flags)) (open-opening hart named))))
  due-opening (Flush hart scope named) e =
      unless IsOpening refused-opening (not (is_hart setup hart && are_harts setup named)) _ (unless IsOpening refused-opening (not (is_scope setup history scope)) _ (unless IsOpening refused-opening (scope_retires history scope) _
      (open-opening hart named)))
  due-opening (Retire hart space) e =
      unless IsOpening refused-opening (not (is_hart setup hart)) _ (unless IsOpening refused-opening (not (is_space setup history space)) _ (unless IsOpening refused-opening (not (hart == home_of setup.layout (place.Space space))) _
      (unless IsOpening refused-opening (is_retiring (status_of history space)) _ (unless IsOpening refused-opening (is_in_use setup history space) _ (ticket-opening (least_free history hart MAX_TICKETS 0))))))
  due-opening _ e = absurd (true≢false (sym e))

  pub due-call : (event : Event) → calls event ≡ true → IsCall (due setup history event)
  due-call (Switch hart space) e =
      unless IsCall refused-call (not (is_hart setup hart)) _ (unless IsCall refused-call (not (is_space setup history space)) _ (unless IsCall refused-call (is_retiring (status_of history space)) _
      (unless IsCall refused-call (is_some (walk_of history hart)) _ ok-call)))
  due-call (Fence hart rs1 rs2) e = unless IsCall refused-call (not (is_hart setup hart)) _ (unless IsCall refused-call (is_some (walk_of history hart)) _ ok-call)
  due-call (Post hart ticket to) e =
      unless IsCall refused-call (not (are_pair setup hart to)) _ (if_open IsCall refused-call (open_order history hart ticket) (λ order.
      unless IsCall refused-call (not (names (order_at setup history order) to)) _ (unless IsCall refused-call (is_posted history order to) _ (unless IsCall refused-call (is_closed history hart to) _
      (unless IsCall refused-call (nat_le setup.capacity (outstanding setup history hart to)) _ ok-call)))))
  due-call (ServeFence hart) e =
      unless IsCall refused-call (not (is_hart setup hart)) _ (unless IsCall refused-call (is_some (walk_of history hart)) _ (unless IsCall refused-call (is_none (served setup history hart)) _ ok-call))
  due-call (Ack hart) e =
      unless IsCall refused-call (not (is_hart setup hart)) _ (unless IsCall refused-call (is_none (served setup history hart)) _ (unless IsCall refused-call (not (has_fenced history hart)) _ ok-call))
  due-call (Finish hart ticket) e =
      unless IsCall refused-call (not (is_hart setup hart)) _ (if_open IsCall refused-call (open_order history hart ticket) (λ order. unless IsCall refused-call (not (is_done setup history order)) _ ok-call))
  due-call (Close hart to) e = unless IsCall refused-call (not (are_pair setup hart to)) _ (unless IsCall refused-call (is_closed history hart to) _ ok-call)
  due-call (Reclaim hart space) e =
      unless IsCall refused-call (not (is_hart setup hart)) _ (unless IsCall refused-call (not (is_space setup history space)) _ (unless IsCall refused-call (not (hart == home_of setup.layout (place.Space space))) _
      (reclaim-call (status_of history space))))
  due-call (Create hart space asid) e =
      unless IsCall refused-call (not (is_hart setup hart)) _ (unless IsCall refused-call (not (is_number setup space)) _ (unless IsCall refused-call (not (hart == home_of setup.layout (place.Space space))) _
      (unless IsCall refused-call (not (is_free (status_of history space))) _ (unless IsCall refused-call (is_asid_of setup history asid (length setup.asids)) _ ok-call))))
  due-call _ e = absurd (true≢false (sym e))

  pub due-taking : (event : Event) → takes event ≡ true → IsTaking (due setup history event)
  due-taking (Take hart from) e =
      unless IsTaking refused-taking (not (are_pair setup hart from)) _ (unless IsTaking refused-taking (is_some (walk_of history hart)) _ (unless IsTaking refused-taking (is_some (served setup history hart)) _
      (next-taking (waiting setup history from hart))))
  due-taking _ e = absurd (true≢false (sym e))

  pub due-progress : (event : Event) → collects event ≡ true → IsProgress (due setup history event)
  due-progress (AckSelf hart ticket) e =
      unless IsProgress refused-progress (not (is_hart setup hart)) _ (if_open IsProgress refused-progress (open_order history hart ticket) (λ order.
      unless IsProgress refused-progress (is_some (walk_of history hart)) _ (left-progress (left_after setup history (AckSelf hart ticket) order))))
  due-progress (Collect hart ticket from) e =
      unless IsProgress refused-progress (not (are_pair setup hart from)) _ (if_open IsProgress refused-progress (open_order history hart ticket) (λ order.
      unless IsProgress refused-progress (not (names (order_at setup history order) from)) _ (left-progress (left_after setup history (Collect hart ticket from) order))))
  due-progress _ e = absurd (true≢false (sym e))

-- from the clauses of a step to those of a call
pub made : {X : Type 0} (of : Reply → Result X Refusal) (back : Result X Refusal → Reply) (old new : State) (event : Event) (r : Reply) (R : Result X Refusal)
    → R ≡ of r → ((setup : Setup) (history : History) → Told of back (due setup history event))
    → ((setup : Setup) (history : History) → Stands setup old history → Stands setup new (with_turn event r history)) → Follows old event r new
    → ((setup : Setup) (history : History) → Stands setup old history → r ≡ due setup history event) → (is_accepted r ≡ false → new ≡ old)
    → ((setup : Setup) (history : History) → Stands setup old history → Promises setup (with_turn event r history) new) → Makes old event (back R) new
made of back old new event r R is kind stands follows dues refused promises setup history at =
    let tells : back R ≡ r = ap back is ∙ subst (λ x. back (of x) ≡ x) (sym (dues setup history at)) (kind setup history).tells in
    subst (λ x. IsMade setup history old event x new) (sym tells) (record {
      due = dues setup history at;
      follows = follows;
      stands = stands setup history at;
      promises = promises setup history at;
      refused = refused;
    })
