-- What a command does with a file, by the other words that it is given.
use Rattle.std.specs.Prelude.{ℕ, Bool, ◌&&◌, ◌==◌, ◌^◌, nat_lt, not, false, List, length, codes, Option, Some, None, option_and_then, option_map, if◌then◌else◌}
use Rattle.std.specs.Char.{is_ascii_digit}
use Rattle.std.specs.List.{list_all}
use Rattle.std.specs.Option.{is_none, option_map_or}
use Rattle.std.specs.Str.{bytes_eq}
use Rattle.std.specs.Str.Parse.{digits_value}
use Rattle.scenario.specs.declared.commands.Command.{Command}
use Rattle.scenario.specs.declared.commands.Command.TheVariants as command
use Rattle.scenario.specs.declared.task.Given.{Given}
use Rattle.scenario.specs.declared.task.Task.{Task}
use Rattle.scenario.specs.declared.task.Task.TheVariants.{Plain, Live, Watch, Explain, Picture}
use Rattle.watch_report.specs.declared.detail.Detail.{Detail}
use Rattle.watch_report.specs.declared.detail.Detail.TheVariants.{Causes, Counts, Verdicts}
use Rattle.watch_report.specs.declared.filter.Filter.{Filter}
use Rattle.watch_report.specs.declared.options.Form.{Form}
use Rattle.watch_report.specs.declared.options.Form.TheVariants.{Json, Text}
use Rattle.watch_report.specs.Filters.{filter_in}

-- which flags were given, and the values of LINE and of the other options
pub record GivenOptions : Type 0 where
  pub all : Bool
  pub quiet : Bool
  pub json : Bool
  pub svg : Bool
  pub hart : Option (List ℕ)
  pub page : Option (List ℕ)
  pub kind : Option (List ℕ)
  pub max : Option (List ℕ)
  pub known : Option (List ℕ)
  pub line : Option (List ℕ)

abbrev pub options_view : Given → GivenOptions
options_view given = record {
  all = given.all;
  quiet = given.quiet;
  json = given.json;
  svg = given.svg;
  hart = option_map (λ text. text.now) given.hart;
  page = option_map (λ text. text.now) given.page;
  kind = option_map (λ text. text.now) given.kind;
  max = option_map (λ text. text.now) given.max;
  known = option_map (λ text. text.now) given.known;
  line = option_map (λ text. text.now) given.line;
}

abbrev pub no_options : GivenOptions
no_options = record {
  all = false;
  quiet = false;
  json = false;
  svg = false;
  hart = None;
  page = None;
  kind = None;
  max = None;
  known = None;
  line = None;
}

-- LINE alone
abbrev pub with_line : List ℕ → GivenOptions
with_line text = record no_options { line = Some text }

-- none of those that `watch` alone takes
abbrev pub has_none_of_watch : GivenOptions → Bool
has_none_of_watch options = not options.all && (not options.quiet && (not options.json
    && (is_none options.max && is_none options.known)))

-- none of what `explain` alone takes
abbrev pub has_none_of_explain : GivenOptions → Bool
has_none_of_explain options = not options.svg && is_none options.line

abbrev pub has_none : GivenOptions → Bool
has_none options = has_none_of_watch options && (is_none options.hart && (is_none options.page
    && (is_none options.kind && has_none_of_explain options)))

-- the flag with this value was given
abbrev pub is_set : Option (List ℕ) → Bool
is_set value = option_map_or (λ text. bytes_eq text (codes "true")) value false

-- by the value of each name
abbrev pub options_given : (List ℕ → Option (List ℕ)) → GivenOptions
options_given named = record {
  all = is_set (named (codes "all"));
  quiet = is_set (named (codes "quiet"));
  json = is_set (named (codes "json"));
  svg = is_set (named (codes "svg"));
  hart = named (codes "hart");
  page = named (codes "page");
  kind = named (codes "kind");
  max = named (codes "max");
  known = named (codes "known");
  line = named (codes "LINE");
}

-- ---- what they say

-- `--all` and `--quiet` don't go together
abbrev pub detail_of : GivenOptions → Option Detail
detail_of options =
    if options.all && options.quiet then None
    else if options.all then Some Verdicts
    else if options.quiet then Some Counts
    else Some Causes

abbrev pub filter_of : GivenOptions → Option Filter
filter_of options = filter_in options.hart options.page options.kind

abbrev pub form_of : GivenOptions → Form
form_of options = if options.json then Json else Text

-- one digit or more, and nothing else
abbrev pub is_decimal : List ℕ → Bool
is_decimal text = nat_lt 0 (length text) && list_all is_ascii_digit text

-- it has room in 64 bits
abbrev pub with_room : ℕ → Option ℕ
with_room n = if nat_lt n (2 ^ 64) then Some n else None

abbrev pub number_in : List ℕ → Option ℕ
number_in text = if is_decimal text then with_room (digits_value 10 text) else None

-- the number of a line is 1 or more
abbrev pub line_number : ℕ → Option ℕ
line_number n = if n == 0 then None else Some n

abbrev pub line_in : List ℕ → Option ℕ
line_in text = option_and_then line_number (number_in text)

abbrev pub line_of : GivenOptions → Option ℕ
line_of options = option_and_then line_in options.line

-- ---- what is done

abbrev pub watch_of : Option Detail → Option Filter → Form → Option ℕ → Option Task
watch_of (Some detail) (Some filter) form most =
    Some (Watch (record { detail = detail; filter = filter; form = form; most = most }))
watch_of _ _ form most = None

-- this many are told at most
abbrev pub watch_at_most : GivenOptions → Option ℕ → Option Task
watch_at_most options most =
    watch_of (detail_of options) (filter_of options) (form_of options) most

-- by the value of `--max`, if it was given
abbrev pub watch_by_max : GivenOptions → Option (List ℕ) → Option Task
watch_by_max options None = watch_at_most options None
watch_by_max options (Some text) =
    option_and_then (λ most. watch_at_most options (Some most)) (number_in text)

-- `watch` takes all options but `--svg`, and no LINE
abbrev pub watch_in : GivenOptions → Option Task
watch_in options =
    if has_none_of_explain options then watch_by_max options options.max else None

-- in text, or as a picture
abbrev pub story_task : Bool → Filter → ℕ → Task
story_task svg filter line = if svg then Picture filter line else Explain filter line

abbrev pub explain_of : Bool → Option Filter → Option ℕ → Option Task
explain_of svg (Some filter) (Some line) = Some (story_task svg filter line)
explain_of svg _ _ = None

-- `explain` wants a LINE, and takes `--svg` and the options of the filter
abbrev pub explain_in : GivenOptions → Option Task
explain_in options =
    if has_none_of_watch options then explain_of options.svg (filter_of options) (line_of options)
    else None

-- the others take a file alone
abbrev pub task_of : GivenOptions → Command → Option Task
task_of options (command.Plain which) = if has_none options then Some (Plain which) else None
task_of options command.Live = if has_none options then Some Live else None
task_of options command.Watch = watch_in options
task_of options command.Explain = explain_in options
