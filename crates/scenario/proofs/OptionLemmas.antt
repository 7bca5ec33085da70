-- What clap makes of a word that looks like an option.
use Rattle.std.proofs.Common.{◌≡◌, ◌∙◌, ◌&&◌, ◌==◌, ℕ, Bool, true, false, List, [], ◌∷◌, length, Option, Some, None, refl, sym, subst, ap, true≢false, cond, eqb-true, option_map}
use Rattle.std.specs.Prelude.{find, is_some, option_and_then, slice_get}
use Rattle.std.specs.Option.{option_map_or}
use lib.Utf8.{scalars}
use Rattle.std.specs.Char.{encode_utf8}
use Rattle.std.specs.Str.{bytes_eq, chars, encode_utf8_all, is_utf8}
use Rattle.clap.specs.Words.{Row, Text}
use Rattle.clap.specs.Faults.{bundle_fault, bundle_step_fault, flag_word_fault, flags_fault, long_fault}
use Rattle.clap.specs.Kinds.{Kinds}
use Rattle.clap.specs.Lexer.{long_of, long_of_rest, short_of, short_of_rest, strip_byte}
use Rattle.clap.specs.Walk.{Held}
use Rattle.scenario.specs.CommandLine.{OptionName, is_end, is_option, option_names, name_in, option_in, value_in}
use Rattle.scenario.proofs.RowLemmas.{long_rule, named, rule_by, top}

abbrev pub Pending : Type 0
Pending = Option (Text × List Text)

abbrev pub held_of : List Row → Pending → Held
held_of rows pending = record { rows = rows; pending = pending; skip = 0 }

-- ---- words that are no options

-- clap sees no option in the word
abbrev pub IsPlain : Text → Type 0
IsPlain word = (is_end word ≡ false) × (long_of word ≡ None) × (short_of word ≡ None)

pub plain_word : (word : Text) → is_end word ≡ false → is_option word ≡ false → IsPlain word
plain_word [] no_end no_option = (no_end, refl, refl)
plain_word (x ∷ []) no_end no_option = (no_end, one_long (x == 45), one_short (x == 45))
  where
    one_long : (t : Bool) → option_and_then long_of_rest (option_and_then (strip_byte 45) (cond t (Some []) None)) ≡ None
    one_long true = refl
    one_long false = refl

    one_short : (t : Bool) → option_and_then short_of_rest (cond t (Some []) None) ≡ None
    one_short true = refl
    one_short false = refl
plain_word (x ∷ y ∷ rest) no_end no_option = (no_end, rw no_option refl, rw no_option refl)

-- ---- options

-- a text of more than one byte has a second character, if its first is one byte
second_char : (y : ℕ) (rest : Text) → is_utf8 (45 ∷ y ∷ rest) ≡ true → (c : ℕ) × (cs : List ℕ) × (chars (y ∷ rest) ≡ c ∷ cs)
unfolding is_utf8 chars encode_utf8
second_char y rest text = go (chars (y ∷ rest)) refl
  where
    go : (cs : List ℕ) → chars (y ∷ rest) ≡ cs → (c : ℕ) × (cs : List ℕ) × (chars (y ∷ rest) ≡ c ∷ cs)
    go (c ∷ cs) is = (c, cs, is)
    go [] is = absurd (true≢false (sym text ∙ ap (λ (cs : List ℕ). scalars (45 ∷ cs) && bytes_eq (encode_utf8_all (45 ∷ cs)) (45 ∷ y ∷ rest)) is))

-- the faults of an option
abbrev pub option_fault : Option OptionName → Option Text → Held → Kinds
option_fault option value held = long_fault top.rules false (option_map rule_by option) value held

-- clap reads the name of an option, and its value, as `option_in` and `value_in` do
pub record IsRead (word : Text) : Type 0 where
  pub faults : (rows : List Row) (pending : Pending) → flag_word_fault top.rules false (long_of word) word (held_of rows pending) ≡ option_fault (option_in word) (value_in word) (held_of rows pending)
  pub is_long : (option : OptionName) → option_in word ≡ Some option
      → (long_of word ≡ Some (name_in word, value_in word)) × (find (named (name_in word)) option_names ≡ Some option)

-- `-x..`
short_read : (y : ℕ) (rest : Text) → (y == 45) ≡ false → is_utf8 (45 ∷ y ∷ rest) ≡ true → IsRead (45 ∷ y ∷ rest)
unfolding flags_fault
short_read y rest no_dash text =
    let word = 45 ∷ y ∷ rest in
    let no_long : long_of word ≡ None = rw no_dash refl in
    let short : short_of word ≡ Some (y ∷ rest) = rw no_dash refl in
    let unknown : option_in word ≡ None = rw no_dash refl in
    record {
      faults = λ rows pending.
          let held = held_of rows pending in
          ap (λ (o : Option (Text × Option Text)). flag_word_fault top.rules false o word held) no_long
          ∙ (ap (λ (o : Option Text). option_map_or (λ flags. bundle_fault top.rules false flags held) o []) short
          ∙ (ap (λ (cs : List ℕ). bundle_step_fault top.rules false (slice_get cs 0) (y ∷ rest) 0 held (flags_fault top.rules false (length rest))) (second_char y rest text).2
          ∙ sym (ap (λ option. option_fault option (value_in word) held) unknown)));
      is_long = λ option is. absurd (true≢false (sym (ap is_some (sym unknown ∙ is))));
    }

-- `--x..`
long_read : (rest : Text) → is_end (45 ∷ 45 ∷ rest) ≡ false → IsRead (45 ∷ 45 ∷ rest)
long_read [] no_end = absurd (true≢false no_end)
long_read (z ∷ rest) no_end =
    let word = 45 ∷ 45 ∷ z ∷ rest in
    record {
      faults = λ rows pending. ap (λ rule. long_fault top.rules false rule (value_in word) (held_of rows pending)) (long_rule (name_in word));
      is_long = λ option is. (refl, is);
    }

abbrev Meets : Text → Type 0
Meets word = is_end word ≡ false → is_utf8 word ≡ true → IsRead word

pub option_read : (word : Text) → is_end word ≡ false → is_option word ≡ true → is_utf8 word ≡ true → IsRead word
option_read [] no_end option text = absurd (true≢false (sym option))
option_read (x ∷ []) no_end option text = absurd (true≢false (sym option))
option_read (x ∷ y ∷ rest) no_end option text = dashed (sym (eqb-true x 45 option)) no_end text
  where
    dashes : (t : Bool) → (y == 45) ≡ t → Meets (45 ∷ y ∷ rest)
    dashes true e = subst (λ z. Meets (45 ∷ z ∷ rest)) (sym (eqb-true y 45 e)) (λ no_end text. long_read rest no_end)
    dashes false e = λ no_end text. short_read y rest e text

    dashed : 45 ≡ x → Meets (x ∷ y ∷ rest)
    dashed same = subst (λ z. Meets (z ∷ y ∷ rest)) same (dashes (y == 45) refl)
