-- The table words that a history leaves: each is what the last accepted edit stored there, or 0 if
-- its space was reclaimed since, else the opening's.
use Rattle.std.specs.Prelude.{ℕ, [], ◌∷◌, Option, Some, None, Result, if◌then◌else◌}
use Rattle.pte.specs.Address.{Span, vpn_of}
use Rattle.pte.specs.Entry.{leaf_word, ppn_of, table_word}
use Rattle.walk.specs.Leads.{Tables}
use Rattle.walk.specs.Stores.{stored}
use Rattle.history.specs.Setup.{Setup}
use Rattle.spaces.specs.declared.places.Place.{Place}
use Rattle.spaces.specs.declared.wishes.Wish.{Wish}
use Rattle.spaces.specs.declared.faults.MapFault.{MapFault}
use Rattle.spaces.specs.Opening.{opening}
use Rattle.spaces.specs.Edits.{Store, edit_of, is_kernel, path_of}
use Rattle.spaces.specs.Holders.{Holders, unused_spare, emptied}
use Rattle.history.specs.declared.event.Event.{Event}
use Rattle.history.specs.declared.event.Event.TheVariants.{Map, Unmap, Protect, Reclaim}
use Rattle.history.specs.declared.reply.Reply.{Reply}
use Rattle.history.specs.declared.reply.Reply.TheVariants as reply
use Rattle.history.specs.Turns.{History, is_ok}
use Rattle.history.specs.Spaces.{holder_of}

-- the store that is due for a wish of a hart, or why it is refused, by the words and by which spare
-- frames are in use
abbrev pub edit_due : Setup → Tables → Holders → ℕ → Wish → Result Store MapFault
edit_due setup words holders hart w =
    edit_of setup.layout words (unused_spare setup.layout holders hart) hart w

-- a word that is written where the path of a page of a place ends
pub record Written : Type 0 where
  pub place : Place
  pub page : Span
  pub word : ℕ

-- what an accepted edit writes: the leaf, or a pointer to the new table that the reply names; 0;
-- the leaf that was there with other flags
abbrev pub written : Setup → Event → Reply → Tables → Option Written
written setup (Map hart place page ppn flags) reply.Leaf words =
    Some (record { place = place; page = page; word = leaf_word ppn flags })
written setup (Map hart place page ppn flags) (reply.Table frame) words =
    Some (record { place = place; page = page; word = table_word frame (is_kernel place) })
written setup (Unmap hart place page named) (reply.Opened ticket) words =
    Some (record { place = place; page = page; word = 0 })
written setup (Protect hart place page flags named) (reply.Opened ticket) words =
    Some (record {
      place = place;
      page = page;
      word = leaf_word
          (ppn_of (path_of setup.layout words place page).entry) flags;
    })
written setup _ _ words = None

abbrev pub with_written : Setup → Tables → Option Written → Tables
with_written setup words None = words
with_written setup words (Some new) =
    stored words (path_of setup.layout words new.place new.page).table
    (vpn_of new.page.base (path_of setup.layout words new.place new.page).level) new.word

abbrev pub words_after : Setup → Event → Reply → Tables → Holders → Tables
words_after setup (Reclaim hart space) reply words holders =
    if is_ok reply then emptied setup.layout holders space words else words
words_after setup event reply words holders =
    with_written setup words (written setup event reply words)

abbrev pub words_of : Setup → History → Tables
words_of setup [] = opening setup.layout
words_of setup (turn ∷ history) =
    words_after setup turn.event turn.reply (words_of setup history) (holder_of history)
