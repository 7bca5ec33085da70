-- What clap makes of one word.
use Rattle.std.proofs.Common.{◌≡◌, ◌∙◌, ◌&&◌, ◌||◌, ◌++◌, ℕ, Bool, true, false, List, [], ◌∷◌, Option, Some, None, refl, sym, subst, ap, ap₂, cond, option_map}
use Rattle.std.specs.Prelude.{codes, fold, nat_lt, if◌then◌else◌, ⊤}
use Rattle.std.specs.List.{list_all}
use Rattle.std.specs.Option.{option_map_or}
use Rattle.std.specs.Str.{is_utf8}
use Rattle.std.proofs.lemmas.Slice.Eq.{bytes_eq-Decides}
use Rattle.clap.specs.Words.{Row, Rule, Text}
use Rattle.clap.specs.declared.builder.value_parser.Reading.TheVariants.{AsWritten}
use Rattle.clap.specs.declared.error.kind.ErrorKind.{ErrorKind}
use Rattle.clap.specs.declared.error.kind.ErrorKind.TheVariants as kinds
use Rattle.clap.specs.declared.parser.matches.ValueSource.TheVariants.{CommandLine}
use Rattle.clap.specs.Faults.{bundle_fault, check_fault, defaults_fault, entered_fault, flag_word_fault, other_fault, settle_fault, step_fault, turn_fault, use_fault, walk_fault, word_fault}
use Rattle.clap.specs.Kinds.{Kinds, or_else}
use Rattle.clap.specs.Lexer.{long_of}
use Rattle.clap.specs.Simple.{built, entered}
use Rattle.clap.specs.Walk.{Held, Step, Waiting, Walk, after_flag, after_step, arg_by_id, arg_by_index, arg_by_long, finished, has_row, idle, is_empty, is_pending, long_met, long_or_other, next, nothing_held, option as awaiting, option_word, pending_count, positional, pushed, settled, settled_rows, short_or_plain, to_positional, trailing, used, used_by_id, value, walked, with_default, with_values, without, word_met}
use Rattle.clap.proofs.WalkLemmas.{both}
use Rattle.scenario.specs.CommandLine.{Asked, OptionName, asked, asked_in_rows, asked_of, is_end, is_given, is_option, name_in, option_in, svsim, text_of, value_in, valued, values}
use Rattle.scenario.proofs.RowLemmas.{Given, asked_at_end, asked_if_right, command_rule, file_rule, line_rule, long_rule, no_default_fault, row_is_given, rows_of, rule_by, top, used_row}
use Rattle.scenario.proofs.OptionLemmas.{IsPlain, IsRead, Pending, held_of, option_fault, option_read, plain_word}

-- ---- the walk

-- the walk after the words so far: what is held, what waits for a value, where the next value goes,
-- and whether `--` was met
abbrev pub at : Held → Waiting → ℕ → Bool → Walk
at held waiting position ended = record { held = held; waiting = waiting; position = position; is_trailing = ended; stopped = None }

-- what is asked for by the words from a walk on
abbrev ends : Kinds → Held → Option Asked
ends faults held = if is_empty faults then asked_in_rows (finished top.rules held) else None

abbrev last_fault : Held → Kinds
last_fault held =
    or_else (settle_fault top.rules false held) (or_else (defaults_fault (settled top.rules held).rows top.rules) (check_fault top (finished top.rules held) false))

abbrev pub from : Walk → List Text → Option Asked
from w words =
    let held = (fold (walked top.rules []) w words).held in
    ends (or_else (walk_fault top [] w words) (last_fault held)) held

-- no subcommand is entered
nothing_entered : (stop : Option (Text × List Text)) → entered (built svsim) stop ≡ None
nothing_entered None = refl
nothing_entered (Some p) = refl

no_entered_fault : (stop : Option (Text × List Text)) → entered_fault (built svsim) stop ≡ []
no_entered_fault None = refl
no_entered_fault (Some p) = refl

pub from_start : (name : Text) (words : List Text) → asked (name ∷ words) ≡ from (at nothing_held idle 1 false) words
unfolding asked
from_start name words =
    let w = fold (walked top.rules []) (at nothing_held idle 1 false) words in
    rw (nothing_entered w.stopped, no_entered_fault w.stopped) refl

-- one word
pub goes_on : (w after : Walk) (word : Text) (words : List Text) → turn_fault top [] w word ≡ [] → walked top.rules [] w word ≡ after
    → from w (word ∷ words) ≡ from after words
unfolding walk_fault
goes_on w after word words none is =
    ap₂ (λ (faults : Kinds) (v : Walk).
    let held = (fold (walked top.rules []) v words).held in
    ends (or_else (or_else faults (walk_fault top [] v words)) (last_fault held)) held) none is

pub fails : (w : Walk) (word : Text) (words : List Text) (kind : ErrorKind) → turn_fault top [] w word ≡ kind ∷ [] → from w (word ∷ words) ≡ None
unfolding walk_fault
fails w word words kind one =
    ap (λ (faults : Kinds).
    let held = (fold (walked top.rules []) w (word ∷ words)).held in
    ends (or_else (or_else faults (walk_fault top [] (walked top.rules [] w word) words)) (last_fault held)) held) one

-- ---- one use of an argument

abbrev repeated : Bool → Kinds
repeated has = if has && true then kinds.ArgumentConflict ∷ [] else []

-- a use with these values gives this text, and only a second one is refused
pub record Uses (rule : Rule) (texts : List Text) (text : Text) : Type 0 where
  pub faults : (rows : List Row) → use_fault false rule texts rows ≡ or_else (repeated (has_row rule.id rows)) []
  pub uses : (rows : List Row) → used rule texts rows ≡ with_values rule.id AsWritten CommandLine (text ∷ []) (without rule.id rows)

pub flag_uses : (name : Text) → Uses (rule_by (record { name = name; takes_value = false })) [] (codes "true")
flag_uses name = record { faults = λ rows. refl; uses = λ rows. refl }

pub valued_uses : (name text : Text) → Uses (rule_by (valued name)) (text ∷ []) text
valued_uses name text = record { faults = λ rows. refl; uses = λ rows. refl }

pub command_uses : (text : Text) → Uses command_rule (text ∷ []) text
command_uses text = record { faults = λ rows. refl; uses = λ rows. refl }

pub file_uses : (text : Text) → Uses file_rule (text ∷ []) text
file_uses text = record { faults = λ rows. refl; uses = λ rows. refl }

pub line_uses : (text : Text) → Uses line_rule (text ∷ []) text
line_uses text = record { faults = λ rows. refl; uses = λ rows. refl }

module _ (rule : Rule) (texts : List Text) (text : Text) (how : Uses rule texts text) (rows : List Row) (given : Given) (is : rows ≡ rows_of given) where
  pub use_is : (again : Bool) → is_given rule.id given ≡ again → use_fault false rule texts rows ≡ or_else (repeated again) []
  use_is again e = how.faults rows ∙ ap (λ t. or_else (repeated t) []) (ap (has_row rule.id) is ∙ (row_is_given rule.id given ∙ e))

  pub first_use : is_given rule.id given ≡ false → used rule texts rows ≡ rows_of (given ++ (rule.id, text) ∷ [])
  first_use e = how.uses rows ∙ (ap (λ rs. with_values rule.id AsWritten CommandLine (text ∷ []) (without rule.id rs)) is ∙ used_row rule.id text given e)

-- this was given; what is pending goes in without a fault
pub record Holds (rows : List Row) (pending : Pending) (given : Given) : Type 0 where
  pub settles : settle_fault top.rules false (held_of rows pending) ≡ []
  pub has : settled_rows top.rules pending rows ≡ rows_of given

-- what is pending will be refused
abbrev pub IsDoomed : List Row → Pending → Type 0
IsDoomed rows pending = (kind : ErrorKind) × (settle_fault top.rules false (held_of rows pending) ≡ kind ∷ [])

-- a text that is pending
module _ (rule : Rule) (text : Text) (by_id : arg_by_id top.rules rule.id ≡ Some rule) (how : Uses rule (text ∷ []) text) (rows : List Row) (given : Given) (is : rows ≡ rows_of given) where
  pending_fault : settle_fault top.rules false (held_of rows (Some (rule.id, text ∷ []))) ≡ use_fault false rule (text ∷ []) rows
  pending_fault = ap (λ o. option_map_or (λ a. use_fault false a (text ∷ []) rows) o []) by_id

  pub pends : is_given rule.id given ≡ false → Holds rows (Some (rule.id, text ∷ [])) (given ++ (rule.id, text) ∷ [])
  pends e = record {
    settles = pending_fault ∙ use_is rule (text ∷ []) text how rows given is false e;
    has = ap (λ o. used_by_id o (text ∷ []) rows) by_id ∙ first_use rule (text ∷ []) text how rows given is e;
  }

  pub pends_again : is_given rule.id given ≡ true → IsDoomed rows (Some (rule.id, text ∷ []))
  pends_again e = (kinds.ArgumentConflict, pending_fault ∙ use_is rule (text ∷ []) text how rows given is true e)

-- ---- no words are left

pub at_last : (rows : List Row) (pending : Pending) (given : Given) (position : ℕ) (ended : Bool) → Holds rows pending given
    → from (at (held_of rows pending) idle position ended) [] ≡ asked_of (text_of given)
unfolding walk_fault
at_last rows pending given position ended holds =
    let held = held_of rows pending in
    let last = check_fault top (finished top.rules held) false in
    ap (λ (k : Kinds). ends (or_else k (or_else (defaults_fault (settled top.rules held).rows top.rules) last)) held) holds.settles
    ∙ (ap (λ (k : Kinds). ends (or_else k last) held) (no_default_fault top.rules (settled top.rules held).rows refl)
    ∙ (ap (λ rs. asked_if_right (fold with_default rs top.rules)) holds.has ∙ asked_at_end given))

pub doomed_at_last : (rows : List Row) (pending : Pending) (w : Walk) → w.held ≡ held_of rows pending → IsDoomed rows pending → from w [] ≡ None
unfolding walk_fault
doomed_at_last rows pending w is doomed =
    ap (λ held. ends (last_fault held) held) is
    ∙ ap (λ (k : Kinds).
    let held = held_of rows pending in
    ends (or_else k (or_else (defaults_fault (settled top.rules held).rows top.rules) (check_fault top (finished top.rules held) false))) held) doomed.1

-- ---- a word that is a value

plain_met : (word : Text) (position : ℕ) (held : Held) → IsPlain word → word_met top.rules [] false idle position word held ≡ (held, value)
plain_met word position held plain =
    ap (λ (t : Bool). if t then (held, trailing position) else long_or_other top.rules idle word (long_of word) held) plain.0
    ∙ (ap (λ (o : Option (Text × Option Text)). long_or_other top.rules idle word o held) plain.1
    ∙ ap (λ (o : Option Text). short_or_plain top.rules idle word o held) plain.2)

-- it has no fault of its own
plain_fault : (word : Text) (held : Held) → IsPlain word → other_fault top None word held ≡ []
plain_fault word held plain =
    ap (λ (t : Bool). if t then [] else flag_word_fault top.rules false (long_of word) word held) plain.0
    ∙ (ap (λ (o : Option (Text × Option Text)). flag_word_fault top.rules false o word held) plain.1
    ∙ ap (λ (o : Option Text). option_map_or (λ flags. bundle_fault top.rules false flags held) o []) plain.2)

-- behind `--` any word is a value
abbrev pub IsValue : Bool → Text → Type 0
IsValue true word = ⊤
IsValue false word = IsPlain word

value_turn : (ended : Bool) (word : Text) (position : ℕ) (held : Held) → IsValue ended word
    → turn_fault top [] (at held idle position ended) word ≡ step_fault top position held value
value_turn true word position held any = refl
value_turn false word position held plain =
    ap₂ (λ (own : Kinds) (met : Held × Step). or_else own (step_fault top position met.0 met.1)) (plain_fault word held plain) (plain_met word position held plain)

value_walked : (ended : Bool) (word : Text) (position : ℕ) (held : Held) → IsValue ended word
    → walked top.rules [] (at held idle position ended) word ≡ to_positional top.rules (arg_by_index top.rules position) word (at held idle position ended) held
unfolding walked
value_walked true word position held any = refl
value_walked false word position held plain =
    ap (λ (met : Held × Step). after_step top.rules word (at held idle position false) met.0 met.1) (plain_met word position held plain)

never : {X : Type 0} (t : Bool) (x y : X) → (if t && false then x else y) ≡ y
never true x y = refl
never false x y = refl

or_false : (t : Bool) → (t || false) ≡ t
or_false true = refl
or_false false = refl

-- the value that comes next
pub data Left : Type 0 where
  command_next : Left
  file_next : Left
  line_next : Left
  none_next : Left

abbrev pub position_at : Left → ℕ
position_at command_next = 1
position_at file_next = 2
position_at line_next = 3
position_at none_next = 4

abbrev pub values_at : Left → List Text
values_at command_next = values
values_at file_next = codes "FILE" ∷ codes "LINE" ∷ []
values_at line_next = codes "LINE" ∷ []
values_at none_next = []

module _ (rows : List Row) (pending : Pending) (ended : Bool) (word : Text) (words : List Text) where
  abbrev so_far : List Row
  so_far = settled_rows top.rules pending rows

  abbrev now : Held
  now = held_of rows pending

  pub command_goes : settle_fault top.rules false now ≡ [] → IsValue ended word
      → from (at now idle 1 ended) (word ∷ words) ≡ from (at (held_of so_far (Some (codes "COMMAND", word ∷ []))) idle 2 ended) words
  command_goes settles is =
      goes_on _ _ word words (value_turn ended word 1 now is ∙ (never (is_pending command_rule pending) [] (settle_fault top.rules false now) ∙ settles))
      (value_walked ended word 1 now is
      ∙ ap₂ (λ (h : Held) (t : Bool). at (pushed (codes "COMMAND") word h) idle 2 t) (never (is_pending command_rule pending) now (settled top.rules now)) (or_false ended))

  pub file_goes : settle_fault top.rules false now ≡ [] → IsValue ended word
      → from (at now idle 2 ended) (word ∷ words) ≡ from (at (held_of so_far (Some (codes "FILE", word ∷ []))) idle 3 ended) words
  file_goes settles is =
      goes_on _ _ word words (value_turn ended word 2 now is ∙ (never (is_pending file_rule pending) [] (settle_fault top.rules false now) ∙ settles))
      (value_walked ended word 2 now is
      ∙ ap₂ (λ (h : Held) (t : Bool). at (pushed (codes "FILE") word h) idle 3 t) (never (is_pending file_rule pending) now (settled top.rules now)) (or_false ended))

  pub line_goes : settle_fault top.rules false now ≡ [] → IsValue ended word
      → from (at now idle 3 ended) (word ∷ words) ≡ from (at (held_of so_far (Some (codes "LINE", word ∷ []))) idle 4 ended) words
  line_goes settles is =
      goes_on _ _ word words (value_turn ended word 3 now is ∙ (never (is_pending line_rule pending) [] (settle_fault top.rules false now) ∙ settles))
      (value_walked ended word 3 now is
      ∙ ap₂ (λ (h : Held) (t : Bool). at (pushed (codes "LINE") word h) idle 4 t) (never (is_pending line_rule pending) now (settled top.rules now)) (or_false ended))

  pub fourth_fails : IsValue ended word → from (at now idle 4 ended) (word ∷ words) ≡ None
  fourth_fails is = fails _ word words kinds.UnknownArgument (value_turn ended word 4 now is)

  -- a value settles what is pending
  value_refused : (left : Left) → IsDoomed rows pending → (kind : ErrorKind) × (step_fault top (position_at left) now value ≡ kind ∷ [])
  value_refused command_next doomed = (doomed.0, never (is_pending command_rule pending) [] (settle_fault top.rules false now) ∙ doomed.1)
  value_refused file_next doomed = (doomed.0, never (is_pending file_rule pending) [] (settle_fault top.rules false now) ∙ doomed.1)
  value_refused line_next doomed = (doomed.0, never (is_pending line_rule pending) [] (settle_fault top.rules false now) ∙ doomed.1)
  value_refused none_next doomed = (kinds.UnknownArgument, refl)

-- ---- `--`

pub end_is : (word : Text) → is_end word ≡ true → word ≡ 45 ∷ 45 ∷ []
end_is word is = (bytes_eq-Decides word (45 ∷ 45 ∷ [])).0 is

end_here : (held : Held) (waiting : Waiting) (position : ℕ) (words : List Text)
    → from (at held waiting position false) ((45 ∷ 45 ∷ []) ∷ words) ≡ from (at held waiting position true) words
unfolding walked
end_here held idle position words = goes_on _ _ _ words refl refl
end_here held (awaiting name) position words = goes_on _ _ _ words refl refl
end_here held positional position words = goes_on _ _ _ words refl refl

pub at_end : (held : Held) (waiting : Waiting) (position : ℕ) (word : Text) (words : List Text) → is_end word ≡ true
    → from (at held waiting position false) (word ∷ words) ≡ from (at held waiting position true) words
at_end held waiting position word words is =
    ap (λ (w : Text). from (at held waiting position false) (w ∷ words)) (end_is word is) ∙ end_here held waiting position words

-- ---- options

own_fault : (waiting : Waiting) (word : Text) (held : Held) → word_fault top [] false waiting word held ≡ other_fault top None word held
own_fault idle word held = refl
own_fault (awaiting name) word held = refl
own_fault positional word held = refl

-- an option settles what is pending, or is refused
pub option_refused : (option : Option OptionName) (text : Option Text) (rows : List Row) (pending : Pending) → IsDoomed rows pending
    → (kind : ErrorKind) × (option_fault option text (held_of rows pending) ≡ kind ∷ [])
option_refused None text rows pending doomed = (kinds.UnknownArgument, refl)
option_refused (Some option) text rows pending doomed = by option.name option.takes_value text
  where
    by : (name : Text) (takes : Bool) (text : Option Text)
        → (kind : ErrorKind) × (option_fault (Some (record { name = name; takes_value = takes })) text (held_of rows pending) ≡ kind ∷ [])
    by name true (Some text) = (doomed.0, ap (λ (k : Kinds). or_else k (use_fault false (rule_by (valued name)) (text ∷ []) (settled top.rules (held_of rows pending)).rows)) doomed.1)
    by name true None = doomed
    by name false (Some text) = (kinds.TooManyValues, refl)
    by name false None =
        let rule = rule_by (record { name = name; takes_value = false }) in
        (doomed.0, ap (λ (k : Kinds). or_else k (use_fault false rule [] (settled top.rules (held_of rows pending)).rows)) doomed.1)

module _ (waiting : Waiting) (position : ℕ) (word : Text) (words : List Text) (rows : List Row) (pending : Pending) (no_end : is_end word ≡ false) (read : IsRead word) where
  own_is : word_fault top [] false waiting word (held_of rows pending) ≡ option_fault (option_in word) (value_in word) (held_of rows pending)
  own_is =
      own_fault waiting word (held_of rows pending)
      ∙ (ap (λ (t : Bool). if t then [] else flag_word_fault top.rules false (long_of word) word (held_of rows pending)) no_end ∙ read.faults rows pending)

  pub option_fails : (kind : ErrorKind) × (option_fault (option_in word) (value_in word) (held_of rows pending) ≡ kind ∷ [])
      → from (at (held_of rows pending) waiting position false) (word ∷ words) ≡ None
  option_fails fault =
      let met = word_met top.rules [] false waiting position word (held_of rows pending) in
      fails _ word words fault.0 (ap (λ (own : Kinds). or_else own (step_fault top position met.0 met.1)) (own_is ∙ fault.1))

-- an option that is known, and may be used
module _ (position : ℕ) (word : Text) (rows : List Row) (pending : Pending) (no_end : is_end word ≡ false) (read : IsRead word)
    (known_one : OptionName) (text : Option Text) (is_known : option_in word ≡ Some known_one) (has_text : value_in word ≡ text) where
  abbrev held_now : Held
  held_now = held_of rows pending

  abbrev met_known : Held × Step
  met_known =
      let met = long_met top.rules (Some (rule_by known_one)) text held_now in
      after_flag top.rules idle word met.0 met.1

  known_met : word_met top.rules [] false idle position word held_now ≡ met_known
  known_met =
      let long = read.is_long known_one is_known in
      let rule : arg_by_long top.rules (name_in word) ≡ Some (rule_by known_one) = long_rule (name_in word) ∙ ap (option_map rule_by) long.1 in
      ap (λ (t : Bool). if t then (held_now, trailing position) else long_or_other top.rules idle word (long_of word) held_now) no_end
      ∙ (ap (λ (o : Option (Text × Option Text)). long_or_other top.rules idle word o held_now) long.0
      ∙ ap₂ (λ (r : Option Rule) (v : Option Text).
      let met = long_met top.rules r v held_now in
      after_flag top.rules idle word met.0 met.1) rule has_text)

  pub known_turn : turn_fault top [] (at held_now idle position false) word ≡ or_else (option_fault (Some known_one) text held_now) (step_fault top position met_known.0 met_known.1)
  known_turn =
      ap₂ (λ (own : Kinds) (met : Held × Step). or_else own (step_fault top position met.0 met.1))
      (own_is idle position word [] rows pending no_end read ∙ ap₂ (λ o v. option_fault o v held_now) is_known has_text) known_met

  pub known_walked : walked top.rules [] (at held_now idle position false) word ≡ after_step top.rules word (at held_now idle position false) met_known.0 met_known.1
  unfolding walked
  known_walked = ap (λ (met : Held × Step). after_step top.rules word (at held_now idle position false) met.0 met.1) known_met

-- ---- an option whose value is the next word

-- it was met, and this was given before it
pub record Waits (name : Text) (rows : List Row) (pending : Pending) (given : Given) : Type 0 where
  pub pending_is : pending ≡ Some (name, [])
  pub has : rows ≡ rows_of given
  pub by_id : arg_by_id top.rules name ≡ Some (rule_by (valued name))

no_text_fault : (name : Text) (rows : List Row) → arg_by_id top.rules name ≡ Some (rule_by (valued name)) → IsDoomed rows (Some (name, []))
no_text_fault name rows by_id = (kinds.InvalidValue, ap (λ o. option_map_or (λ a. use_fault false a [] rows) o []) by_id)

pub waits_doomed : (name : Text) (rows : List Row) (pending : Pending) (given : Given) → Waits name rows pending given → IsDoomed rows pending
waits_doomed name rows pending given waits = subst (IsDoomed rows) (sym waits.pending_is) (no_text_fault name rows waits.by_id)

module _ (name : Text) (rows : List Row) (by_id : arg_by_id top.rules name ≡ Some (rule_by (valued name))) (position : ℕ) (word : Text) where
  abbrev asking : Held
  asking = held_of rows (Some (name, []))

  abbrev answered : Held
  answered = held_of rows (Some (name, word ∷ []))

  one_text : nat_lt (pending_count (rule_by (valued name)) (Some (name, word ∷ []))) 1 ≡ false
  one_text = ap (λ t. nat_lt (cond t 1 0) 1) ((bytes_eq-Decides name name).1 refl)

  text_met : IsPlain word → word_met top.rules [] false (awaiting name) position word asking ≡ (answered, next idle)
  text_met plain =
      ap (λ (t : Bool). if t then (asking, trailing position) else long_or_other top.rules (awaiting name) word (long_of word) asking) plain.0
      ∙ (ap (λ (o : Option (Text × Option Text)). long_or_other top.rules (awaiting name) word o asking) plain.1
      ∙ (ap (λ (o : Option Text). short_or_plain top.rules (awaiting name) word o asking) plain.2
      ∙ (ap (λ (r : Option Rule). ((option_word r name word asking).0, next (option_word r name word asking).1)) by_id
      ∙ ap (λ (t : Bool). (answered, next (if t then awaiting name else idle))) one_text)))

  pub text_goes : (words : List Text) → IsPlain word → from (at asking (awaiting name) position false) (word ∷ words) ≡ from (at answered idle position false) words
  unfolding walked
  text_goes words plain =
      goes_on _ _ word words
      (ap₂ (λ (own : Kinds) (met : Held × Step). or_else own (step_fault top position met.0 met.1)) (plain_fault word asking plain) (text_met plain))
      (ap (λ (met : Held × Step). after_step top.rules word (at asking (awaiting name) position false) met.0 met.1) (text_met plain))

-- ---- what will be refused is refused

pub texts_after : (word : Text) (words : List Text) → list_all is_utf8 (word ∷ words) ≡ true → (is_utf8 word ≡ true) × (list_all is_utf8 words ≡ true)
texts_after word words texts = both (is_utf8 word) (list_all is_utf8 words) texts

module _ (left : Left) (rows : List Row) (pending : Pending) (doomed : IsDoomed rows pending) where
  pub doomed_ended : (waiting : Waiting) (words : List Text) → from (at (held_of rows pending) waiting (position_at left) true) words ≡ None
  doomed_ended waiting [] = doomed_at_last rows pending _ refl doomed
  doomed_ended waiting (word ∷ words) =
      let refused = value_refused rows pending true word words left doomed in
      fails _ word words refused.0 refused.1

  pub doomed_read : (words : List Text) → list_all is_utf8 words ≡ true → from (at (held_of rows pending) idle (position_at left) false) words ≡ None
  doomed_read [] texts = doomed_at_last rows pending _ refl doomed
  doomed_read (word ∷ words) texts = go (is_end word) (is_option word) refl refl
    where
      go : (end looks : Bool) → is_end word ≡ end → is_option word ≡ looks → from (at (held_of rows pending) idle (position_at left) false) (word ∷ words) ≡ None
      go true looks e o = at_end (held_of rows pending) idle (position_at left) word words e ∙ doomed_ended idle words
      go false true e o =
          option_fails idle (position_at left) word words rows pending e (option_read word e o (texts_after word words texts).0)
          (option_refused (option_in word) (value_in word) rows pending doomed)
      go false false e o =
          let refused = value_refused rows pending false word words left doomed in
          fails _ word words refused.0 (value_turn false word (position_at left) (held_of rows pending) (plain_word word e o) ∙ refused.1)
