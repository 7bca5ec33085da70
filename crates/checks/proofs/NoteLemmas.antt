-- The steps whose maps stop short are found one after the other, up to the last map, and each has a note.
use Rattle.std.proofs.Common.{◌≡◌, ℕ, ◌+◌, ◌-◌, ◌<◌, ◌≤◌, Bool, true, false, List, [], ◌∷◌, ◌++◌, Option, Some, None, ◌&&◌, ◌||◌, length, get_or, drop, take, map, refl, sym, ap, subst, ◌∙◌, append_assoc, append-nil, inl, inr, true≢false, arith}
use Rattle.std.specs.Prelude.{IsPermutation, not}
use Rattle.std.specs.List.{list_any}
use Rattle.std.proofs.lemmas.Bool.{cases_Bool}
use Rattle.std.proofs.lemmas.List.{drop_all, drop_more, length-append, map-append, take-append-drop, take_all, take_at, take_more}
use Rattle.std.proofs.lemmas.List.Folds.{list_any-append}
use Rattle.std.proofs.lemmas.List.Sorted.{IsPermutation-map, IsPermutation-refl}
use Rattle.pte.specs.Address.{Span}
use Rattle.spaces.specs.declared.places.Place.{Place}
use Rattle.history.specs.declared.event.Event.{Event}
use Rattle.history.specs.declared.reply.Reply.{Reply}
use Rattle.history.specs.Due.{due}
use Rattle.history.specs.Runs.{due_replies}
use Rattle.history.specs.Setup.{Setup}
use Rattle.history.specs.Turns.{History, with_turn}
use Rattle.checks.specs.Notes.{AreNotesOn, is_last_of, is_map, is_map_of, is_mapping_of, is_table, mapped_by, note_text, short_map, short_maps, stops_short, text_of_note}
use Rattle.checks.specs.Told.{is_there, most_told}
use Rattle.checks.specs.declared.printed.Told.{Told}

-- ---- one after the other

-- those of the first i steps, and these are the others
pub record ShortSoFar (events : List Event) (replies : List Reply) (i : ℕ) (steps : List Event) (short : List ℕ) : Type 0 where
  pub so_far : short ++ short_maps (i + 1) steps (drop i replies) ≡ short_maps 1 events replies
  pub few : length short ≤ most_told

one_at_most : (i : ℕ) (event : Event) (reply : Reply) (later : List Event) → length (short_map i event reply later) ≤ 1
one_at_most i event reply later = elim (cases_Bool (stops_short event reply later)) [ inl holds ↦ rw holds (omega arith) | inr fails ↦ rw fails (omega arith) ]

pub short_more : (events : List Event) (replies : List Reply) (i : ℕ) (event : Event) (later : List Event) (short new : List ℕ) (d : Reply) → i < length replies → length short < most_told
    → new ≡ short ++ short_map (i + 1) event (get_or replies i d) later → ShortSoFar events replies i (event ∷ later) short → ShortSoFar events replies (i + 1) later new
short_more events replies i event later short new d lt room is m =
    let one = short_map (i + 1) event (get_or replies i d) later in
    let many : length new ≡ length short + length one = rw is (length-append short one) in
    let next : short ++ (one ++ short_maps (i + 1 + 1) later (drop (i + 1) replies)) ≡ short_maps 1 events replies = rw (drop_more replies i d lt) at m.so_far in
    record {
      so_far = rw is (append_assoc short one (short_maps (i + 1 + 1) later (drop (i + 1) replies)) ∙ next);
      few = omega (arith, many, room, one_at_most (i + 1) event (get_or replies i d) later);
    }

nothing : (i : ℕ) (steps : List Event) → short_maps i steps [] ≡ []
nothing i [] = refl
nothing i (event ∷ steps) = refl

whole : (short all : List ℕ) → length short ≤ most_told → short ++ [] ≡ all → short ≡ take most_told all
whole short all few is = sym (take_all most_told short few) ∙ ap (take most_told) (sym (append-nil short) ∙ is)

-- no step is left
pub short_of_all : (events : List Event) (replies : List Reply) (i : ℕ) (steps : List Event) (short : List ℕ) → length steps < 1 → ShortSoFar events replies i steps short → short ≡ take most_told (short_maps 1 events replies)
short_of_all events replies i [] short none m = whole short (short_maps 1 events replies) m.few m.so_far
short_of_all events replies i (step ∷ steps) short none m = absurd (omega (arith, none))

-- no reply is left
pub short_at_end : (events : List Event) (replies : List Reply) (i : ℕ) (steps : List Event) (short : List ℕ) → length replies ≤ i → ShortSoFar events replies i steps short → short ≡ take most_told (short_maps 1 events replies)
short_at_end events replies i steps short end m =
    whole short (short_maps 1 events replies) m.few (rw (drop_all i replies end, nothing (i + 1) steps) at m.so_far)

-- no more are told
pub short_enough : (events : List Event) (replies : List Reply) (i : ℕ) (steps : List Event) (short : List ℕ) → most_told ≤ length short → ShortSoFar events replies i steps short → short ≡ take most_told (short_maps 1 events replies)
short_enough events replies i steps short full m =
    let many : length short ≡ most_told = omega (arith, full, m.few) in
    sym (take_at short (short_maps (i + 1) steps (drop i replies)) most_told many) ∙ ap (take most_told) m.so_far

-- ---- up to the last map

either_false : (a b : Bool) → (a || b) ≡ false → (a ≡ false) × (b ≡ false)
either_false true b is = absurd (true≢false is)
either_false false b is = (refl, is)

-- a step that is no map has no note
unmapped : (stored : Bool) (mapped : Option (Place × Span)) (later : List Event) → is_there mapped ≡ false → (stored && is_last_of mapped later) ≡ false
unmapped true None later is = refl
unmapped false None later is = refl
unmapped stored (Some mapped) later is = absurd (true≢false is)

no_note : (number : ℕ) (event : Event) (reply : Reply) (later : List Event) → is_map event ≡ false → short_map number event reply later ≡ []
no_note number event reply later is = rw (unmapped (is_table reply) (mapped_by event) later is) refl

no_map_no_note : (number : ℕ) (events : List Event) (replies : List Reply) → list_any is_map events ≡ false → short_maps number events replies ≡ []
no_map_no_note number [] replies none = refl
no_map_no_note number (event ∷ events) [] none = refl
no_map_no_note number (event ∷ events) (reply ∷ replies) none =
    let both = either_false (is_map event) (list_any is_map events) none in
    rw (no_note number event reply events both.0) (no_map_no_note (number + 1) events replies both.1)

-- nor is it a map of any page
no_mapping : (place : Place) (page : Span) (mapped : Option (Place × Span)) → is_there mapped ≡ false → is_mapping_of place page mapped ≡ false
no_mapping place page None is = refl
no_mapping place page (Some mapped) is = absurd (true≢false is)

not_named : (place : Place) (page : Span) (events : List Event) → list_any is_map events ≡ false → list_any (is_map_of place page) events ≡ false
not_named place page [] none = refl
not_named place page (event ∷ events) none =
    let both = either_false (is_map event) (list_any is_map events) none in
    rw (no_mapping place page (mapped_by event) both.0) (not_named place page events both.1)

or_none : (a b : Bool) → b ≡ false → (a || b) ≡ a
or_none true b is = refl
or_none false b is = is

same_named : (place : Place) (page : Span) (used rest : List Event) → list_any is_map rest ≡ false → list_any (is_map_of place page) (used ++ rest) ≡ list_any (is_map_of place page) used
same_named place page used rest none =
    list_any-append (is_map_of place page) used rest ∙ or_none (list_any (is_map_of place page) used) (list_any (is_map_of place page) rest) (not_named place page rest none)

same_last : (mapped : Option (Place × Span)) (used rest : List Event) → list_any is_map rest ≡ false → is_last_of mapped (used ++ rest) ≡ is_last_of mapped used
same_last None used rest none = refl
same_last (Some mapped) used rest none = ap not (same_named mapped.0 mapped.1 used rest none)

same_note : (number : ℕ) (event : Event) (reply : Reply) (used rest : List Event) → list_any is_map rest ≡ false → short_map number event reply (used ++ rest) ≡ short_map number event reply used
same_note number event reply used rest none = rw (same_last (mapped_by event) used rest none) refl

same_notes : (setup : Setup) (history : History) (number : ℕ) (used rest : List Event) → list_any is_map rest ≡ false
    → short_maps number used (due_replies setup history used) ≡ short_maps number (used ++ rest) (due_replies setup history (used ++ rest))
same_notes setup history number [] rest none = sym (no_map_no_note number rest (due_replies setup history rest) none)
same_notes setup history number (event ∷ used) rest none =
    let reply = due setup history event in
    rw (same_note number event reply used rest none) (ap (λ (l : List ℕ). short_map number event reply used ++ l) (same_notes setup (with_turn event reply history) (number + 1) used rest none))

-- the steps after the last map decide of no note
pub noted_up_to : (setup : Setup) (events : List Event) (count : ℕ) → list_any is_map (drop count events) ≡ false
    → short_maps 1 (take count events) (due_replies setup [] (take count events)) ≡ short_maps 1 events (due_replies setup [] events)
noted_up_to setup events count none =
    subst (λ (all : List Event). short_maps 1 (take count events) (due_replies setup [] (take count events)) ≡ short_maps 1 all (due_replies setup [] all))
    (take-append-drop count events) (same_notes setup [] 1 (take count events) (drop count events) none)

-- no step is a map
pub noted_none : (setup : Setup) (events : List Event) (count : ℕ) (none : List ℕ) → none ≡ [] → count ≡ 0 → list_any is_map (drop count events) ≡ false
    → none ≡ take most_told (short_maps 1 events (due_replies setup [] events))
noted_none setup events count none is at free =
    is ∙ ap (take most_told) (sym (no_map_no_note 1 events (due_replies setup [] events) (subst (λ (n : ℕ). list_any is_map (drop n events) ≡ false) at free)))

-- ---- a note on each

-- these are the notes on the first i of the steps
pub record NotedSoFar (numbers : List ℕ) (i : ℕ) (notes : List Told) : Type 0 where
  pub so_far : map text_of_note notes ≡ map note_text (take i numbers)

pub noted_more : (numbers : List ℕ) (i d : ℕ) (notes new : List Told) (note : Told) → i < length numbers → text_of_note note ≡ note_text (get_or numbers i d)
    → new ≡ notes ++ note ∷ [] → NotedSoFar numbers i notes → NotedSoFar numbers (i + 1) new
noted_more numbers i d notes new note lt text is m = record {
  so_far =
      ap (map text_of_note) is ∙ map-append text_of_note notes (note ∷ [])
      ∙ ap (λ (l : List (List ℕ)). l ++ text_of_note note ∷ []) m.so_far
      ∙ ap (λ (t : List ℕ). map note_text (take i numbers) ++ t ∷ []) text
      ∙ sym (ap (map note_text) (take_more numbers i d lt) ∙ map-append note_text (take i numbers) (get_or numbers i d ∷ []));
}

pub noted_all : (numbers : List ℕ) (i : ℕ) (notes : List Told) → length numbers ≤ i → NotedSoFar numbers i notes → map text_of_note notes ≡ map note_text numbers
noted_all numbers i notes end m = m.so_far ∙ ap (map note_text) (take_all i numbers end)

pub no_notes : (notes : List Told) → notes ≡ [] → AreNotesOn [] notes
no_notes notes is = subst (AreNotesOn []) (sym is) (IsPermutation-refl [])

pub notes_in_order : (numbers : List ℕ) (notes sorted : List Told) → map text_of_note notes ≡ map note_text numbers → IsPermutation notes sorted → AreNotesOn numbers sorted
notes_in_order numbers notes sorted are same = subst (λ (texts : List (List ℕ)). IsPermutation texts (map text_of_note sorted)) are (IsPermutation-map text_of_note notes sorted same)
