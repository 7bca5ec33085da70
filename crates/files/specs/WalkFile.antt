-- The scenario that a text for `walk` is, or its first fault.
use Rattle.std.specs.Prelude.{ℕ, ◌^◌, ◌&&◌, Bool, nat_lt, nat_le, List, [], ◌∷◌, length, Option, Some, None, option_and_then, option_map, Result, Ok, Err, if◌then◌else◌}
use Rattle.std.specs.Option.{ok_or}
use Rattle.std.specs.Str.{is_utf8}
use Rattle.toml.specs.Data.{Data, as_str, Members}
use Rattle.toml.specs.Parse.{parse_document}
use Rattle.pte.specs.declared.address.TheConstants.{TABLE_LENGTH}
use Rattle.pte.specs.declared.scheme.Scheme.{Scheme}
use Rattle.pte.specs.declared.entry.TheConstants.{PPN_BITS}
use Rattle.spaces.specs.Defaults.{default_config}
use Rattle.walk.specs.Leads.{Tables}
use Rattle.files.specs.declared.frames.TableWord.{TableWord}
use Rattle.files.specs.declared.plan.WalkScenario.{WalkScenario}
use Rattle.steps.specs.declared.step.WalkStep.{WalkStep}
use Rattle.steps.specs.Num.{num_of}
use Rattle.steps.specs.Words.{words_of}
use Rattle.files.specs.Faults.{Failure, not_toml, ◌>>=◌}
use Rattle.files.specs.KeyTable.{names_of}
use Rattle.files.specs.declared.key_table.Command.TheVariants.{Walk}
use Rattle.files.specs.declared.key_table.Key.TheVariants as keys
use Rattle.files.specs.Keys.{below, each, known_only, one_number, texts_at, value_at, wrong_value}
use Rattle.files.specs.declared.limits.TheConstants.{MOST_FRAMES}
use Rattle.files.specs.Memory.{is_listed, word_at, word_in}
use Rattle.files.specs.Settings.{mode_at}
use Rattle.files.specs.StepTexts.{few, walk_steps_in}

-- a scheme, a root, the words of the table frames, and the accesses that are made from the root
pub record WalkPlan : Type 0 where
  pub scheme : Scheme
  pub root : ℕ
  pub tables : Tables
  pub steps : List WalkStep

abbrev pub plan_view : WalkScenario → WalkPlan
plan_view s =
    record { scheme = s.scheme; root = s.root; tables = word_at s.tables; steps = s.steps.items }

-- ---- the root and the frames

-- a text of one PPN
abbrev pub ppn_of : List ℕ → Option ℕ
ppn_of text = option_and_then (below (2 ^ PPN_BITS)) (one_number text)

abbrev pub root_of : Data → Option ℕ
root_of d = option_and_then ppn_of (as_str d)

abbrev pub root_at : Members → Result ℕ Failure
root_at ms = value_at keys.Root default_config.base root_of ms

abbrev pub ppns_of : List (List ℕ) → Option (List ℕ)
ppns_of texts = if nat_le (length texts) MOST_FRAMES then each ppn_of texts else None

-- the set of the frames
abbrev pub frames_at : Members → Result (ℕ → Bool) Failure
frames_at ms =
    texts_at keys.Frames ms >>= λ texts. ok_or (option_map is_listed (ppns_of texts))
    (wrong_value keys.Frames)

-- ---- table words

abbrev pub word_in_table : (ℕ → Bool) → ℕ → ℕ → ℕ → Option TableWord
word_in_table is_frame ppn index word =
    if is_frame ppn && nat_lt index TABLE_LENGTH
    then Some (record { ppn = ppn; index = index; word = word }) else None

abbrev pub word_of_words : (ℕ → Bool) → List (List ℕ) → Option TableWord
word_of_words is_frame (ppn ∷ index ∷ word ∷ []) =
    option_and_then
    (λ p. option_and_then
    (λ i. option_and_then (λ w. word_in_table is_frame p i w) (num_of word)) (num_of index))
    (num_of ppn)
word_of_words is_frame _ = None

-- the table word that a text `PPN INDEX WORD` writes
abbrev pub word_of : (ℕ → Bool) → List ℕ → Option TableWord
word_of is_frame text = word_of_words is_frame (words_of text)

abbrev pub words_at : (ℕ → Bool) → Members → Result (List TableWord) Failure
words_at is_frame ms =
    texts_at keys.Words ms >>= λ texts. ok_or (each (word_of is_frame) texts)
    (wrong_value keys.Words)

abbrev pub tables_at : (ℕ → Bool) → Members → Result Tables Failure
tables_at is_frame ms = words_at is_frame ms >>= λ words. Ok (word_in is_frame words)

-- ---- the whole, in the order of checking

unfoldable pub walk_plan_of : Members → Result WalkPlan Failure
walk_plan_of ms = do
  _ ← known_only (names_of Walk) ms
  root ← root_at ms
  is_frame ← frames_at ms
  tables ← tables_at is_frame ms
  texts ← texts_at keys.Steps ms
  scheme ← mode_at ms
  _ ← few texts
  steps ← walk_steps_in texts
  Ok (record { scheme = scheme; root = root; tables = tables; steps = steps })

unfoldable pub walk_scenario_of : List ℕ → Result WalkPlan Failure
walk_scenario_of text = ok_or (parse_document text) not_toml >>= walk_plan_of

-- what the bytes of a file are: UTF-8 whose text is a scenario, or the first fault
abbrev pub walk_file : List ℕ → Result WalkPlan Failure
walk_file bytes = if is_utf8 bytes then walk_scenario_of bytes else Err not_toml
