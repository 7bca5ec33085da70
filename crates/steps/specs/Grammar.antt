-- How numbers and steps are written, as relations between a text and what it stands for.
use Rattle.std.specs.Prelude.{◌≡◌, ◌⊎◌, ℕ, ◌^◌, ◌<◌, ◌≤◌, true, false, codes, List, [], ◌∷◌, ◌++◌, length}
use Rattle.std.specs.List.{AllByRecursion}
use Rattle.std.specs.Str.Parse.{IsNumeral, digits_value}
use Rattle.steps.specs.declared.step.WalkStep.{WalkStep}
use Rattle.steps.specs.Accesses.{access_text, ctx_text}
use Rattle.steps.specs.Words.{is_blank}

-- `0x` and 1 to 16 hexadecimal digits
pub record WritesHex (text : List ℕ) (n : ℕ) : Type 0 where
  pub digits : List ℕ
  pub text_is : text ≡ codes "0x" ++ digits
  pub numeral : IsNumeral 16 digits
  pub short : length digits ≤ 16
  pub value : n ≡ digits_value 16 digits

-- 1 to 20 decimal digits of a value below 2^64
pub record WritesDecimal (text : List ℕ) (n : ℕ) : Type 0 where
  pub numeral : IsNumeral 10 text
  pub short : length text ≤ 20
  pub small : digits_value 10 text < 2 ^ 64
  pub value : n ≡ digits_value 10 text

abbrev pub WritesNumber : List ℕ → ℕ → Type 0
WritesNumber text n = WritesHex text n ⊎ WritesDecimal text n

-- ---- the words of a text

abbrev pub IsBlanks : List ℕ → Type 0
IsBlanks bs = AllByRecursion (λ b. is_blank b ≡ true) bs

abbrev pub IsWord : List ℕ → Type 0
IsWord bs = (0 < length bs) × AllByRecursion (λ b. is_blank b ≡ false) bs

-- the text is over, or goes on with a blank
abbrev pub Breaks : List ℕ → Type 0
Breaks [] = Unit {0}
Breaks (b ∷ bs) = is_blank b ≡ true

-- blanks, and then a word, until blanks alone are left
abbrev pub HasWords : List ℕ → List (List ℕ) → Type 0
HasWords text [] = IsBlanks text
HasWords text (word ∷ words) =
    (lead : List ℕ) × (rest : List ℕ) × (text ≡ lead ++ (word ++ rest)) × IsBlanks lead
    × IsWord word × Breaks rest × HasWords rest words

-- ---- steps

-- the mode, the access and a number
pub record WritesStep (text : List ℕ) (step : WalkStep) : Type 0 where
  pub address : List ℕ
  pub words : HasWords text (ctx_text step.ctx ∷ access_text step.access ∷ address ∷ [])
  pub number : WritesNumber address step.va
