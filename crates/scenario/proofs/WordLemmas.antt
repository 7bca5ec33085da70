-- What clap takes of words, and what is read off them.
use Rattle.std.proofs.Common.{◌≡◌, ◌∙◌, ◌++◌, ℕ, Bool, true, false, List, [], ◌∷◌, Option, Some, None, refl, sym, ap, ap₂, true≢false, cond}
use Rattle.std.specs.Prelude.{codes, option_and_then, if◌then◌else◌}
use Rattle.std.specs.List.{list_all}
use Rattle.std.specs.Str.{is_utf8}
use Rattle.clap.specs.Words.{Row, Rule, Text, fault_of, first_value, matches_of, rows_of as rows_found}
use Rattle.clap.specs.declared.error.kind.ErrorKind.TheVariants as kinds
use Rattle.clap.specs.declared.parser.matches.Found.{Found}
use Rattle.clap.specs.Faults.{settle_fault, turn_fault, use_fault}
use Rattle.clap.specs.Kinds.{Kinds, or_else}
use Rattle.clap.specs.Walk.{Walk, arg_by_id, idle, option as awaiting, settled_rows, used, walked}
use Rattle.clap.proofs.WalkLemmas.{first_value-rows}
use Rattle.scenario.specs.CommandLine.{Asked, OptionName, Place, Read, asked, asked_after, asked_by, asked_in_words, asked_of, before_end, behind_end, behind_option, give, give_known, give_option, give_value, is_end, is_given, is_option, name_in, option_in, read_word, svsim, value_in, valued}
use Rattle.scenario.specs.Tasks.{no_options, with_line}
use Rattle.scenario.proofs.RowLemmas.{Given, command_rule, file_rule, line_rule, rows_of, rule_by, rule_is, top}
use Rattle.scenario.proofs.OptionLemmas.{IsRead, Pending, held_of, option_fault, option_read, plain_word}
use Rattle.scenario.proofs.StepLemmas.{command_next, file_next, line_next, none_next, at, at_end, at_last, command_goes, command_uses, doomed_at_last, doomed_ended, doomed_read, end_is, fails, file_goes, file_uses, first_use, flag_uses, from, from_start, goes_on, Holds, IsDoomed, IsValue, known_turn, known_walked, Left, line_goes, line_uses, option_fails, option_refused, pends, pends_again, position_at, text_goes, texts_after, fourth_fails, use_is, Uses, valued_uses, values_at, Waits, waits_doomed}

-- what clap found is what is asked for
pub asked_found : (f : Found) (words : List (List ℕ)) → fault_of svsim words ≡ [] → rows_found f ≡ matches_of svsim words
    → asked words ≡ asked_of (first_value f)
unfolding asked
asked_found f words none rows =
    let read = first_value-rows f in
    rw (none, ← rows, read (codes "COMMAND"), read (codes "FILE"), read (codes "all"), read (codes "quiet"), read (codes "json"), read (codes "svg"), read (codes "hart"), read (codes "page"), read (codes "kind"), read (codes "max"), read (codes "known"), read (codes "LINE")) refl

-- ---- what is read off the words

abbrev state : Given → Left → Place → Read
state given left place = record { given = given; values = values_at left; place = place }

-- what is asked for after a word
abbrev after : Option Read → List Text → Option Asked
after read words = option_and_then (λ next. asked_after next words) read

abbrev place_of : Bool → Place
place_of true = behind_end
place_of false = before_end

abbrev walk_at : Bool → Left → List Row → Pending → Walk
walk_at ended left rows pending = at (held_of rows pending) idle (position_at left) ended

-- clap and the reading agree on these words, whatever came before
abbrev AreFollowed : Bool → List Text → Type 0
AreFollowed ended words = (left : Left) (rows : List Row) (pending : Pending) (given : Given) → Holds rows pending given
    → from (walk_at ended left rows pending) words ≡ asked_after (state given left (place_of ended)) words

abbrev AreRefused : Bool → List Text → Type 0
AreRefused ended words = (left : Left) (rows : List Row) (pending : Pending) → IsDoomed rows pending → from (walk_at ended left rows pending) words ≡ None

-- and behind an option that takes a value
abbrev AreAwaited : List Text → Type 0
AreAwaited words = (name : Text) (left : Left) (rows : List Row) (pending : Pending) (given : Given) → Waits name rows pending given
    → from (at (held_of rows pending) (awaiting name) (position_at left) false) words ≡ asked_after (state given left (behind_option name)) words

module _ (ended : Bool) (words : List Text) (refused : AreRefused ended words) (followed : AreFollowed ended words) where
  -- a text that is pending
  given_read : (rule : Rule) (text : Text) → arg_by_id top.rules rule.id ≡ Some rule → Uses rule (text ∷ []) text
      → (left : Left) (rows : List Row) (given : Given) → rows ≡ rows_of given
      → from (walk_at ended left rows (Some (rule.id, text ∷ []))) words ≡ after (give rule.id text (state given left (place_of ended))) words
  given_read rule text by_id how left rows given is = go (is_given rule.id given) refl
    where
      go : (t : Bool) → is_given rule.id given ≡ t
          → from (walk_at ended left rows (Some (rule.id, text ∷ []))) words ≡ after (cond t None (Some (state (given ++ (rule.id, text) ∷ []) left (place_of ended)))) words
      go true e = refused left rows _ (pends_again rule text by_id how rows given is e)
      go false e = followed left rows _ _ (pends rule text by_id how rows given is e)

  value_read : (left : Left) (rows : List Row) (pending : Pending) (given : Given) (word : Text) → Holds rows pending given → IsValue ended word
      → from (walk_at ended left rows pending) (word ∷ words) ≡ after (give_value (values_at left) word (state given left (place_of ended))) words
  value_read command_next rows pending given word holds is =
      command_goes rows pending ended word words holds.settles is ∙ given_read command_rule word refl (command_uses word) file_next _ given holds.has
  value_read file_next rows pending given word holds is =
      file_goes rows pending ended word words holds.settles is ∙ given_read file_rule word refl (file_uses word) line_next _ given holds.has
  value_read line_next rows pending given word holds is =
      line_goes rows pending ended word words holds.settles is ∙ given_read line_rule word refl (line_uses word) none_next _ given holds.has
  value_read none_next rows pending given word holds is = fourth_fails rows pending ended word words is

ended_read : (words : List Text) → AreFollowed true words
ended_read [] left rows pending given holds = at_last rows pending given (position_at left) true holds
ended_read (word ∷ words) left rows pending given holds =
    value_read true words (λ l rs p doomed. doomed_ended l rs p doomed idle words) (ended_read words) left rows pending given word holds tt

module _ (words : List Text) (texts : list_all is_utf8 words ≡ true) (followed : AreFollowed false words) (awaited : AreAwaited words) where
  refused : AreRefused false words
  refused left rows pending doomed = doomed_read left rows pending doomed words texts

  module _ (left : Left) (rows : List Row) (pending : Pending) (given : Given) (word : Text) where
    abbrev here : Walk
    here = walk_at false left rows pending

    abbrev now_read : Read
    now_read = state given left before_end

    -- a use with its text
    use_read : (name : Text) (takes : Bool) (vs : List Text) (text : Text) → Holds rows pending given
        → Uses (rule_by (record { name = name; takes_value = takes })) vs text
        → turn_fault top [] here word ≡ or_else (or_else (settle_fault top.rules false here.held) (use_fault false (rule_by (record { name = name; takes_value = takes })) vs (settled_rows top.rules pending rows))) []
        → walked top.rules [] here word ≡ walk_at false left (used (rule_by (record { name = name; takes_value = takes })) vs (settled_rows top.rules pending rows)) None
        → from here (word ∷ words) ≡ after (give name text now_read) words
    use_read name takes vs text holds how turn walk = go (is_given name given) refl
      where
        go : (t : Bool) → is_given name given ≡ t
            → from here (word ∷ words) ≡ after (cond t None (Some (state (given ++ (name, text) ∷ []) left before_end))) words
        go true e =
            fails here word words kinds.ArgumentConflict (turn ∙ ap₂ (λ (s u : Kinds). or_else (or_else s u) []) holds.settles (use_is _ vs text how _ given holds.has true e))
        go false e =
            goes_on here _ word words (turn ∙ ap₂ (λ (s u : Kinds). or_else (or_else s u) []) holds.settles (use_is _ vs text how _ given holds.has false e)) walk
            ∙ followed left _ None _ (record { settles = refl; has = first_use _ vs text how _ given holds.has e })

    known_read : Holds rows pending given → is_end word ≡ false → IsRead word → (name : Text) (takes : Bool) (text : Option Text)
        → option_in word ≡ Some (record { name = name; takes_value = takes }) → value_in word ≡ text
        → from here (word ∷ words) ≡ after (give_option takes name text now_read) words
    known_read holds no_end read name false (Some text) is has =
        option_fails idle (position_at left) word words rows pending no_end read (kinds.TooManyValues, ap₂ (λ o v. option_fault o v (held_of rows pending)) is has)
    known_read holds no_end read name false None is has =
        use_read name false [] (codes "true") holds (flag_uses name)
        (known_turn (position_at left) word rows pending no_end read _ None is has) (known_walked (position_at left) word rows pending no_end read _ None is has)
    known_read holds no_end read name true (Some text) is has =
        use_read name true (text ∷ []) text holds (valued_uses name text)
        (known_turn (position_at left) word rows pending no_end read _ (Some text) is has) (known_walked (position_at left) word rows pending no_end read _ (Some text) is has)
    known_read holds no_end read name true None is has =
        goes_on here _ word words (known_turn (position_at left) word rows pending no_end read _ None is has ∙ ap (λ (k : Kinds). or_else k []) holds.settles)
        (known_walked (position_at left) word rows pending no_end read _ None is has)
        ∙ awaited name left _ _ given (record { pending_is = refl; has = holds.has; by_id = rule_is (name_in word) _ (read.is_long _ is).1 })

    option_is_read : Holds rows pending given → is_end word ≡ false → IsRead word → (o : Option OptionName) → option_in word ≡ o
        → from here (word ∷ words) ≡ after (give_known o (value_in word) now_read) words
    option_is_read holds no_end read None is =
        option_fails idle (position_at left) word words rows pending no_end read
        (kinds.UnknownArgument, ap (λ o. option_fault o (value_in word) (held_of rows pending)) is)
    option_is_read holds no_end read (Some o) is = known_read holds no_end read o.name o.takes_value (value_in word) is refl

    word_read : Holds rows pending given → is_utf8 word ≡ true → from here (word ∷ words) ≡ after (read_word before_end word now_read) words
    word_read holds text = go (is_end word) (is_option word) refl refl
      where
        go : (end looks : Bool) → is_end word ≡ end → is_option word ≡ looks
            → from here (word ∷ words)
            ≡ after (if end then Some (state given left behind_end) else if looks then give_known (option_in word) (value_in word) now_read else give_value (values_at left) word now_read) words
        go true looks e o = at_end here.held idle (position_at left) word words e ∙ ended_read words left rows pending given holds
        go false true e o = option_is_read holds e (option_read word e o text) (option_in word) refl
        go false false e o = value_read false words refused followed left rows pending given word holds (plain_word word e o)

    -- behind an option that takes a value
    awaited_read : (name : Text) → Waits name rows pending given → is_utf8 word ≡ true
        → from (at (held_of rows pending) (awaiting name) (position_at left) false) (word ∷ words)
        ≡ after (read_word (behind_option name) word (state given left (behind_option name))) words
    awaited_read name waits text = go (is_end word) (is_option word) refl refl
      where
        doomed : IsDoomed rows pending
        doomed = waits_doomed name rows pending given waits

        go : (end looks : Bool) → is_end word ≡ end → is_option word ≡ looks
            → from (at (held_of rows pending) (awaiting name) (position_at left) false) (word ∷ words)
            ≡ after (if looks then None else give name word now_read) words
        go true true e o = at_end (held_of rows pending) (awaiting name) (position_at left) word words e ∙ doomed_ended left rows pending doomed (awaiting name) words
        go true false e o = absurd (true≢false (sym (ap is_option (end_is word e)) ∙ o))
        go false true e o =
            option_fails (awaiting name) (position_at left) word words rows pending e (option_read word e o text)
            (option_refused (option_in word) (value_in word) rows pending doomed)
        go false false e o =
            ap (λ p. from (at (held_of rows p) (awaiting name) (position_at left) false) (word ∷ words)) waits.pending_is
            ∙ (text_goes name rows waits.by_id (position_at left) word words (plain_word word e o) ∙ given_read false words refused followed (rule_by (valued name)) word waits.by_id (valued_uses name word) left rows given waits.has)

-- ---- all words

record AreRead (words : List Text) : Type 0 where
  followed : AreFollowed false words
  awaited : AreAwaited words

all_read : (words : List Text) → list_all is_utf8 words ≡ true → AreRead words
all_read [] texts = record {
  followed = λ left rows pending given holds. at_last rows pending given (position_at left) false holds;
  awaited = λ name left rows pending given waits. doomed_at_last rows pending _ refl (waits_doomed name rows pending given waits);
}
all_read (word ∷ words) texts =
    let text = texts_after word words texts in
    let rest = all_read words text.1 in
    record {
      followed = λ left rows pending given holds. word_read words text.1 rest.followed rest.awaited left rows pending given word holds text.0;
      awaited = λ name left rows pending given waits. awaited_read words text.1 rest.followed rest.awaited left rows pending given word name waits text.0;
    }

nothing_yet : Holds [] None []
nothing_yet = record { settles = refl; has = refl }

pub words_read : (name : Text) (words : List Text) → list_all is_utf8 words ≡ true → asked (name ∷ words) ≡ asked_in_words words
words_read name words texts = from_start name words ∙ (all_read words texts).followed command_next [] None [] nothing_yet

not_end : (word : Text) → is_option word ≡ false → is_end word ≡ false
not_end word not_option = go (is_end word) refl
  where
    go : (t : Bool) → is_end word ≡ t → is_end word ≡ false
    go false e = e
    go true e = absurd (true≢false (sym (ap is_option (end_is word e)) ∙ not_option))

pub two_words : (name word file : Text) → is_option word ≡ false → is_option file ≡ false → asked (name ∷ word ∷ file ∷ []) ≡ asked_by word no_options file
two_words name word file first second =
    let one = pends command_rule word refl (command_uses word) [] [] refl refl in
    let two = pends file_rule file refl (file_uses file) _ ((codes "COMMAND", word) ∷ []) one.has refl in
    from_start name (word ∷ file ∷ []) ∙ (command_goes [] None false word (file ∷ []) refl (plain_word word (not_end word first) first)
    ∙ (file_goes _ _ false file [] one.settles (plain_word file (not_end file second) second)
    ∙ at_last _ _ _ 3 false two))

pub three_words : (name word file line : Text) → is_option word ≡ false → is_option file ≡ false → is_option line ≡ false
    → asked (name ∷ word ∷ file ∷ line ∷ []) ≡ asked_by word (with_line line) file
three_words name word file line first second third =
    let one = pends command_rule word refl (command_uses word) [] [] refl refl in
    let two = pends file_rule file refl (file_uses file) _ ((codes "COMMAND", word) ∷ []) one.has refl in
    let three = pends line_rule line refl (line_uses line) _ ((codes "COMMAND", word) ∷ (codes "FILE", file) ∷ []) two.has refl in
    from_start name (word ∷ file ∷ line ∷ []) ∙ (command_goes [] None false word (file ∷ line ∷ []) refl (plain_word word (not_end word first) first)
    ∙ (file_goes _ _ false file (line ∷ []) one.settles (plain_word file (not_end file second) second)
    ∙ (line_goes _ _ false line [] two.settles (plain_word line (not_end line third) third)
    ∙ at_last _ _ _ 4 false three)))
