-- How many ends a port has, and that a change of one end that stays the end which it is changes no
-- name.
use Rattle.spaces.proofs.Lists.{slice_get-set_same}
use Rattle.std.proofs.Common.{◌≡◌, ◌∙◌, sym, ap, refl, ℕ, zero, suc, List, [], ◌∷◌, length, map, ◌<◌, Option, slice_set, slice_index_or}
use Rattle.std.proofs.lemmas.List.{length-map}
use Rattle.std.proofs.Math.Seq.{map-set_same}
use Rattle.std.proofs.lemmas.Option.{slice_get-get_or}
use Rattle.std.proofs.lemmas.List.FromFn.{length-map-range_with_len}
use Rattle.std.specs.Option.{option_map}
use Rattle.history.specs.Setup.{Setup}
use Rattle.board.specs.Ends.{OutboxState, InboxState}
use Rattle.board.specs.Ports.{End, if_there, element, capacities, capacities_of, end_of_outbox, end_of_inbox}

module _ {X : Type 0} (name : X → End) where
  -- as many as there are harts
  ends_count : (setup : Setup) (hart : ℕ) (ends : List (Option X)) → capacities_of (map (option_map name) ends) ≡ capacities setup hart → length ends ≡ setup.harts
  ends_count setup hart ends same =
      sym (length-map (map (option_map name) ends) (option_map (λ e. e.capacity)) ∙ length-map ends (option_map name))
      ∙ (ap length same ∙ length-map-range_with_len _ 0 setup.harts)

  -- one end is replaced by itself at another time
  names_kept : (ends : List (Option X)) (number : ℕ) (end was : Option X) → option_map name end ≡ option_map name was → was ≡ slice_index_or ends number was
      → map (option_map name) (slice_set ends number end) ≡ map (option_map name) ends
  names_kept ends number end was same is = map-set_same (option_map name) ends number end was (same ∙ ap (option_map name) is)

pub outboxes_count : (setup : Setup) (hart : ℕ) (ends : List (Option OutboxState)) → capacities_of (map (option_map end_of_outbox) ends) ≡ capacities setup hart → length ends ≡ setup.harts
outboxes_count = ends_count end_of_outbox

pub inboxes_count : (setup : Setup) (hart : ℕ) (ends : List (Option InboxState)) → capacities_of (map (option_map end_of_inbox) ends) ≡ capacities setup hart → length ends ≡ setup.harts
inboxes_count = ends_count end_of_inbox

pub outboxes_kept : (ends : List (Option OutboxState)) (number : ℕ) (end was : Option OutboxState) → option_map end_of_outbox end ≡ option_map end_of_outbox was → was ≡ slice_index_or ends number was
    → map (option_map end_of_outbox) (slice_set ends number end) ≡ map (option_map end_of_outbox) ends
outboxes_kept = names_kept end_of_outbox

pub inboxes_kept : (ends : List (Option InboxState)) (number : ℕ) (end was : Option InboxState) → option_map end_of_inbox end ≡ option_map end_of_inbox was → was ≡ slice_index_or ends number was
    → map (option_map end_of_inbox) (slice_set ends number end) ≡ map (option_map end_of_inbox) ends
inboxes_kept = names_kept end_of_inbox

-- what stands where it was put
pub there_set : {X : Type 0} (row : List (Option X)) (number : ℕ) (x : Option X) → number < length row → element (slice_set row number x) number ≡ x
there_set row number x within = ap if_there (slice_get-set_same row number x within)

-- what was there is put back
pub put_back : {X : Type 0} (row : List (Option X)) (number : ℕ) → slice_set row number (element row number) ≡ row
put_back [] number = refl
put_back (x ∷ xs) zero = refl
put_back (x ∷ xs) (suc number) = ap (λ rest. x ∷ rest) (put_back xs number)

-- what stands at a number below the length
pub at_index : {X : Type 0} (row : List (Option X)) (number : ℕ) (x : Option X) → number < length row → x ≡ slice_index_or row number x → x ≡ element row number
at_index row number x within is = is ∙ sym (ap if_there (slice_get-get_or row number x within))
