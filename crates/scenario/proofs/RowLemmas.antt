-- The rows that clap finds, and what they ask for.
use Rattle.std.proofs.Common.{◌≡◌, ◌∙◌, ◌||◌, ◌++◌, Bool, true, false, not, List, [], ◌∷◌, map, Option, Some, None, refl, sym, ap, ap₂, true≢false, cond, option_map, unwrap_or, append-nil}
use Rattle.std.specs.Prelude.{codes, find, fold, option_and_then, slice_get, if◌then◌else◌, is_some}
use Rattle.std.specs.List.{list_all, list_any}
use Rattle.std.specs.Option.{option_map_or, option_or}
use Rattle.std.specs.Str.{bytes_eq}
use Rattle.std.proofs.lemmas.List.Folds.{find-append}
use Rattle.std.proofs.lemmas.Slice.Eq.{bytes_eq-Decides}
use Rattle.clap.proofs.WalkLemmas.{both}
use Rattle.clap.specs.Words.{Row, Rule, Text, new_rule}
use Rattle.clap.specs.declared.builder.value_parser.Reading.TheVariants.{AsWritten}
use Rattle.clap.specs.declared.parser.matches.ValueSource.TheVariants.{CommandLine, DefaultValue}
use Rattle.clap.specs.Facts.{explicit_source}
use Rattle.clap.specs.Faults.{check_fault, defaults_fault, given_default_fault}
use Rattle.clap.specs.Kinds.{Kinds, check_kinds, or_else}
use Rattle.clap.specs.Simple.{Shape, built, filled, with_index}
use Rattle.clap.specs.Walk.{arg_by_id, arg_by_long, at_row, default_rows, has_row, is_empty, more_values, reading_by, with_default, with_values, without}
use Rattle.scenario.specs.CommandLine.{Asked, OptionName, asked_in_rows, asked_of, asked_with, is_given, option_names, option_rule, svsim, text_of, value_rule}
use Rattle.scenario.specs.Tasks.{GivenOptions, is_set, options_given}

-- ---- lists

module _ {X Y : Type 0} (test : Y → Bool) (f : X → Y) where
  find_mapped : (xs : List X) → find test (map f xs) ≡ option_map f (find (λ x. test (f x)) xs)
  find_mapped [] = refl
  find_mapped (x ∷ xs) = go (test (f x)) (find_mapped xs)
    where
      go : (t : Bool) → find test (map f xs) ≡ option_map f (find (λ x. test (f x)) xs)
          → cond t (Some (f x)) (find test (map f xs)) ≡ option_map f (cond t (Some x) (find (λ x. test (f x)) xs))
      go true e = refl
      go false e = e

  any_mapped : (xs : List X) → list_any test (map f xs) ≡ list_any (λ x. test (f x)) xs
  any_mapped [] = refl
  any_mapped (x ∷ xs) = ap (λ t. test (f x) || t) (any_mapped xs)

  map_more : (xs : List X) (x : X) → map f (xs ++ x ∷ []) ≡ map f xs ++ f x ∷ []
  map_more [] x = refl
  map_more (y ∷ ys) x = ap (λ zs. f y ∷ zs) (map_more ys x)

some_same : {X : Type 0} (x y : X) → Some x ≡ Some y → x ≡ y
some_same x y e = ap (λ o. unwrap_or o x) e

-- what holds of each holds of the one that is found, and so does the test
module _ {X : Type 0} (test holds : X → Bool) where
  pub found_holds : (xs : List X) (x : X) → list_all holds xs ≡ true → find test xs ≡ Some x → (holds x ≡ true) × (test x ≡ true)
  found_holds [] x all found = absurd (true≢false (sym (ap is_some found)))
  found_holds (y ∷ ys) x all found = go (test y) refl found (found_holds ys x (both (holds y) (list_all holds ys) all).1)
    where
      here : (y ≡ x) → test y ≡ true → (holds x ≡ true) × (test x ≡ true)
      here same t = (sym (ap holds same) ∙ (both (holds y) (list_all holds ys) all).0, sym (ap test same) ∙ t)

      go : (t : Bool) → test y ≡ t → cond t (Some y) (find test ys) ≡ Some x → (find test ys ≡ Some x → (holds x ≡ true) × (test x ≡ true))
          → (holds x ≡ true) × (test x ≡ true)
      go true t found rest = here (some_same y x found) t
      go false t found rest = rest found

or_none : {X : Type 0} (o : Option X) → option_or o None ≡ o
or_none None = refl
or_none (Some x) = refl

or_any : {X : Type 0} (o other : Option X) → is_some o ≡ true → option_or o other ≡ o
or_any None other some = absurd (true≢false (sym some))
or_any (Some x) other some = refl

same_either : {X : Type 0} (t : Bool) (x : X) → cond t x x ≡ x
same_either true x = refl
same_either false x = refl

-- ---- the arguments as they are built

abbrev pub top : Shape
top = (built svsim).top

abbrev pub command_rule : Rule
command_rule = with_index 1 (filled (value_rule (codes "COMMAND")))

abbrev pub file_rule : Rule
file_rule = with_index 2 (filled (value_rule (codes "FILE")))

abbrev pub line_rule : Rule
line_rule = with_index 3 (filled (new_rule (codes "LINE")))

abbrev pub rule_by : OptionName → Rule
rule_by option = filled (option_rule option)

abbrev pub named : Text → OptionName → Bool
named name option = bytes_eq option.name name

-- the option of a long name
pub long_rule : (name : Text) → arg_by_long top.rules name ≡ option_map rule_by (find (named name) option_names)
long_rule name = go option_names
  where
    go : (options : List OptionName) → arg_by_long (map rule_by options) name ≡ option_map rule_by (find (named name) options)
    go [] = refl
    go (option ∷ rest) = by (named name option) (go rest)
      where
        by : (t : Bool) → arg_by_long (map rule_by rest) name ≡ option_map rule_by (find (named name) rest)
            → cond (t || false) (Some (rule_by option)) (arg_by_long (map rule_by rest) name) ≡ option_map rule_by (cond t (Some option) (find (named name) rest))
        by true e = refl
        by false e = e

-- no option has the name of a value
abbrev is_no_value : OptionName → Bool
is_no_value option =
    not (bytes_eq (codes "COMMAND") option.name || (bytes_eq (codes "FILE") option.name || bytes_eq (codes "LINE") option.name))

-- and each is found by its name
pub rule_is : (name : Text) (option : OptionName) → find (named name) option_names ≡ Some option → arg_by_id top.rules option.name ≡ Some (rule_by option)
rule_is name option found =
    let holds = found_holds (named name) is_no_value option_names option refl found in
    let same : option.name ≡ name = (bytes_eq-Decides option.name name).0 holds.1 in
    let itself : find (named option.name) option_names ≡ Some option = ap (λ n. find (named n) option_names) same ∙ found in
    go (bytes_eq (codes "COMMAND") option.name) (bytes_eq (codes "FILE") option.name) (bytes_eq (codes "LINE") option.name) holds.0
    ∙ (find_mapped (λ rule. bytes_eq rule.id option.name) rule_by option_names ∙ ap (option_map rule_by) itself)
  where
    go : (c f l : Bool) → not (c || (f || l)) ≡ true
        → cond c (Some command_rule) (cond f (Some file_rule) (cond l (Some line_rule) (arg_by_id (map rule_by option_names) option.name)))
        ≡ arg_by_id (map rule_by option_names) option.name
    go false false false e = refl
    go true f l e = absurd (true≢false (sym e))
    go false true l e = absurd (true≢false (sym e))
    go false false true e = absurd (true≢false (sym e))

-- ---- the rows of what was given

abbrev pub Given : Type 0
Given = List (Text × Text)

abbrev pub row_of : Text × Text → Row
row_of g = record { id = g.0; values = g.1 ∷ []; count = None; source = Some CommandLine; reading = AsWritten }

abbrev pub rows_of : Given → List Row
rows_of = map row_of

abbrev by : Text → Row → Bool
by id r = bytes_eq r.id id

abbrev given_by : Text → Text × Text → Bool
given_by id g = bytes_eq g.0 id

module _ (id : Text) where
  pub row_is_given : (given : Given) → has_row id (rows_of given) ≡ is_given id given
  row_is_given given = any_mapped (by id) row_of given

  row_given : (given : Given) → find (by id) (rows_of given) ≡ option_map row_of (find (given_by id) given)
  row_given given = find_mapped (by id) row_of given

  has_found : (rows : List Row) → has_row id rows ≡ is_some (find (by id) rows)
  has_found [] = refl
  has_found (r ∷ rs) = go (by id r) (has_found rs)
    where
      go : (t : Bool) → has_row id rs ≡ is_some (find (by id) rs) → (t || has_row id rs) ≡ is_some (cond t (Some r) (find (by id) rs))
      go true e = refl
      go false e = e

  at_new : (change : Row → List Row) (missing : List Row) (rows : List Row) → has_row id rows ≡ false → at_row id change missing rows ≡ rows ++ missing
  at_new change missing [] none = refl
  at_new change missing (r ∷ rs) none = go (by id r) none (λ e. ap (λ xs. r ∷ xs) (at_new change missing rs e))
    where
      go : (t : Bool) → (t || has_row id rs) ≡ false → (has_row id rs ≡ false → r ∷ at_row id change missing rs ≡ r ∷ (rs ++ missing))
          → cond t (change r ++ rs) (r ∷ at_row id change missing rs) ≡ r ∷ (rs ++ missing)
      go true e rest = absurd (true≢false e)
      go false e rest = rest e

  -- a name that was not given gets its text
  pub used_row : (text : Text) (given : Given) → is_given id given ≡ false
      → with_values id AsWritten CommandLine (text ∷ []) (without id (rows_of given)) ≡ rows_of (given ++ (id, text) ∷ [])
  used_row text given none =
      let no_row = row_is_given given ∙ none in
      ap (with_values id AsWritten CommandLine (text ∷ [])) (at_new (λ r. []) [] (rows_of given) no_row ∙ append-nil (rows_of given))
      ∙ (at_new (more_values CommandLine (text ∷ [])) (row_of (id, text) ∷ []) (rows_of given) no_row ∙ sym (map_more (λ r. true) row_of given (id, text)))

-- ---- defaults

abbrev default_row : Rule → List Text → Option Row
default_row rule [] = None
default_row rule (v ∷ vs) = Some (record { id = rule.id; values = v ∷ vs; count = None; source = Some DefaultValue; reading = reading_by rule })

module _ (id : Text) where
  abbrev default_for : Rule → Option Row
  default_for rule = cond (bytes_eq rule.id id) (default_row rule rule.defaults) None

  one_default : (rule : Rule) (rows : List Row) → find (by id) (with_default rows rule) ≡ option_or (find (by id) rows) (default_for rule)
  one_default rule rows = go (has_row rule.id rows) refl
    where
      kept : (t : Bool) → bytes_eq rule.id id ≡ t → has_row rule.id rows ≡ true → find (by id) rows ≡ option_or (find (by id) rows) (cond t (default_row rule rule.defaults) None)
      kept false e has = sym (or_none (find (by id) rows))
      kept true e has =
          let same : rule.id ≡ id = (bytes_eq-Decides rule.id id).0 e in
          sym (or_any (find (by id) rows) _ (sym (has_found id rows) ∙ (sym (ap (λ i. has_row i rows) same) ∙ has)))

      added : (defaults : List Text) → has_row rule.id rows ≡ false
          → find (by id) (default_rows rule.id (reading_by rule) defaults rows) ≡ option_or (find (by id) rows) (cond (bytes_eq rule.id id) (default_row rule defaults) None)
      added [] none = sym (ap (option_or (find (by id) rows)) (same_either (bytes_eq rule.id id) None) ∙ or_none (find (by id) rows))
      added (v ∷ vs) none =
          let new : List Row = record { id = rule.id; values = v ∷ vs; count = None; source = Some DefaultValue; reading = reading_by rule } ∷ [] in
          ap (find (by id)) (at_new rule.id (more_values DefaultValue (v ∷ vs)) new rows none) ∙ find-append (by id) rows new

      go : (t : Bool) → has_row rule.id rows ≡ t
          → find (by id) (cond t rows (default_rows rule.id (reading_by rule) rule.defaults rows)) ≡ option_or (find (by id) rows) (default_for rule)
      go true has = kept (bytes_eq rule.id id) refl has
      go false none = added rule.defaults none

  abbrev defaulted : List Rule → Option Row → Option Row
  defaulted [] o = o
  defaulted (rule ∷ rules) o = defaulted rules (option_or o (default_for rule))

  all_defaults : (rules : List Rule) (rows : List Row) → find (by id) (fold with_default rows rules) ≡ defaulted rules (find (by id) rows)
  all_defaults [] rows = refl
  all_defaults (rule ∷ rules) rows = all_defaults rules (with_default rows rule) ∙ ap (defaulted rules) (one_default rule rows)

  -- the row of a name at the end
  row_at_end : (given : Given) → find (by id) (fold with_default (rows_of given) top.rules) ≡ defaulted top.rules (option_map row_of (find (given_by id) given))
  row_at_end given = all_defaults top.rules (rows_of given) ∙ ap (defaulted top.rules) (row_given id given)

-- no default is refused
abbrev no_kinds : Kinds → Bool
no_kinds [] = true
no_kinds (k ∷ ks) = false

abbrev has_right_defaults : Rule → Bool
has_right_defaults rule = no_kinds (given_default_fault rule rule.defaults)

nothing_in : (kinds : Kinds) → no_kinds kinds ≡ true → kinds ≡ []
nothing_in [] e = refl
nothing_in (k ∷ ks) e = absurd (true≢false (sym e))

pub no_default_fault : (rules : List Rule) (rows : List Row) → list_all has_right_defaults rules ≡ true → defaults_fault rows rules ≡ []
unfolding defaults_fault
no_default_fault [] rows right = refl
no_default_fault (rule ∷ rules) rows right =
    let rest = both (has_right_defaults rule) (list_all has_right_defaults rules) right in
    ap₂ or_else (ap (cond (has_row rule.id rows || is_empty rule.defaults) []) (nothing_in _ rest.0) ∙ same_either (has_row rule.id rows || is_empty rule.defaults) [])
    (no_default_fault rules (with_default rows rule) rest.1)

-- ---- what the rows ask for

abbrev is_explicit : Option Row → Bool
is_explicit o = option_map_or (λ r. explicit_source r.source) o false

abbrev text_in : Option Row → Option Text
text_in o = option_and_then (λ r. slice_get r.values 0) o

abbrev pub asked_if_right : List Row → Option Asked
asked_if_right rows = if is_empty (check_fault top rows false) then asked_in_rows rows else None

abbrev with_required : Bool → Bool → Option Text → GivenOptions → Option Text → Option Asked
with_required has_command has_file c options f =
    if is_empty (check_kinds false false (not has_command || (not has_file || false))) then asked_with c options f else None

required_are_there : (c f : Option Text) (options : GivenOptions) → with_required (is_some c) (is_some f) c options f ≡ asked_with c options f
required_are_there None f options = refl
required_are_there (Some c) None options = refl
required_are_there (Some c) (Some f) options = refl

abbrev options_by : Bool → Bool → Bool → Bool → Option Text → Option Text → Option Text → Option Text → Option Text → Option Text → GivenOptions
options_by all quiet json svg hart page kind max known line =
    record { all = all; quiet = quiet; json = json; svg = svg; hart = hart; page = page; kind = kind; max = max; known = known; line = line }

-- by the row of each name
module _ (at : Text → Option Row) (text : Text → Option Text) where
  abbrev read : Text → Option Text
  read name = text_in (at name)

  abbrev outcome : Option Asked
  outcome = with_required (is_explicit (at (codes "COMMAND"))) (is_explicit (at (codes "FILE"))) (read (codes "COMMAND")) (options_given read) (read (codes "FILE"))

  abbrev Reads : Text → Type 0
  Reads name = read name ≡ text name

  abbrev ReadsFlag : Text → Type 0
  ReadsFlag name = is_set (read name) ≡ is_set (text name)

  abbrev Needs : Text → Type 0
  Needs name = is_explicit (at name) ≡ is_some (text name)

  options_are : ReadsFlag (codes "all") → ReadsFlag (codes "quiet") → ReadsFlag (codes "json") → ReadsFlag (codes "svg") → Reads (codes "hart") → Reads (codes "page") → Reads (codes "kind")
      → Reads (codes "max") → Reads (codes "known") → Reads (codes "LINE") → options_given read ≡ options_given text
  options_are all quiet json svg hart page kind max known line = rw (all, quiet, json, svg, hart, page, kind, max, known, line) refl

  outcome_is : Needs (codes "COMMAND") → Needs (codes "FILE") → Reads (codes "COMMAND") → Reads (codes "FILE") → options_given read ≡ options_given text → outcome ≡ asked_of text
  outcome_is has_command has_file command file options =
      let c = text (codes "COMMAND") in
      let f = text (codes "FILE") in
      ap₂ (λ a b. with_required a b (read (codes "COMMAND")) (options_given read) (read (codes "FILE"))) has_command has_file
      ∙ (ap₂ (λ x y. with_required (is_some c) (is_some f) x (options_given read) y) command file
      ∙ (ap (λ o. with_required (is_some c) (is_some f) c o f) options ∙ required_are_there c f (options_given text)))

abbrev second : Option (Text × Text) → Option Text
second o = option_map (λ g. g.1) o

-- the row of a name at the end, by what the name was given and by its default
abbrev row_by : Text → Option (Text × Text) → Option Row
row_by id o = defaulted id top.rules (option_map row_of o)

module _ (id : Text) where
  valued_by : text_in (row_by id None) ≡ None → (o : Option (Text × Text)) → text_in (row_by id o) ≡ second o
  valued_by none None = none
  valued_by none (Some g) = refl

  flag_by : is_set (text_in (row_by id None)) ≡ false → (o : Option (Text × Text)) → is_set (text_in (row_by id o)) ≡ is_set (second o)
  flag_by none None = none
  flag_by none (Some g) = refl

  needed_by : is_explicit (row_by id None) ≡ false → (o : Option (Text × Text)) → is_explicit (row_by id o) ≡ is_some (second o)
  needed_by none None = none
  needed_by none (Some g) = refl

pub asked_at_end : (given : Given) → asked_if_right (fold with_default (rows_of given) top.rules) ≡ asked_of (text_of given)
asked_at_end given =
    let rows = fold with_default (rows_of given) top.rules in
    let value = λ (id : Text) (none : text_in (row_by id None) ≡ None). ap text_in (row_at_end id given) ∙ valued_by id none (find (given_by id) given) in
    let flag = λ (id : Text) (none : is_set (text_in (row_by id None)) ≡ false). ap (λ o. is_set (text_in o)) (row_at_end id given) ∙ flag_by id none (find (given_by id) given) in
    let needed = λ (id : Text) (none : is_explicit (row_by id None) ≡ false). ap is_explicit (row_at_end id given) ∙ needed_by id none (find (given_by id) given) in
    let options = options_are (λ id. find (by id) rows) (text_of given) (flag (codes "all") refl) (flag (codes "quiet") refl) (flag (codes "json") refl) (flag (codes "svg") refl)
    (value (codes "hart") refl) (value (codes "page") refl) (value (codes "kind") refl) (value (codes "max") refl) (value (codes "known") refl) (value (codes "LINE") refl) in
    outcome_is (λ id. find (by id) rows) (text_of given) (needed (codes "COMMAND") refl) (needed (codes "FILE") refl)
    (value (codes "COMMAND") refl) (value (codes "FILE") refl) options
