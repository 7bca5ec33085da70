-- How the steps of `run` and of `live` are written, as relations between a text and what it stands
-- for.
use Rattle.std.specs.Prelude.{ℕ, ◌≡◌, ◌⊎◌, ◌<◌, ◌^◌, ◌==◌, false, bit_and, bit_or, codes, List, [], ◌∷◌, ◌++◌, length, Option, Some, None}
use Rattle.std.specs.List.{AllByRecursion}
use Rattle.pte.specs.Address.{IsPageOf, Span}
use Rattle.pte.specs.declared.TheConstants.{ASID_BITS}
use Rattle.pte.specs.declared.address.PageSize.{PageSize}
use Rattle.pte.specs.declared.address.PageSize.TheVariants.{Kib4, Mib2, Gib1, Gib512}
use Rattle.pte.specs.declared.scheme.Scheme.{Scheme}
use Rattle.pte.specs.declared.flags.PteFlags.{PteFlags}
use Rattle.spaces.specs.declared.places.Place.{Place}
use Rattle.spaces.specs.declared.places.Place.TheVariants as places
use Rattle.shoot.specs.HartSet.{byte_of, no_harts}
use Rattle.history.specs.declared.event.Event.{Event}
use Rattle.history.specs.declared.live_step.LiveStep.{LiveStep}
use Rattle.history.specs.declared.event.Scope.{Scope}
use Rattle.history.specs.declared.event.Scope.TheVariants as scopes
use Rattle.steps.specs.declared.parts.Parts.{Parts}
use Rattle.steps.specs.declared.table.Field.{Field}
use Rattle.steps.specs.declared.table.Field.TheVariants as fields
use Rattle.steps.specs.declared.table.StepName.{StepName}
use Rattle.steps.specs.Fields.{flag_of, with_harts}
use Rattle.steps.specs.Grammar.{HasWords, WritesNumber}
use Rattle.steps.specs.Accesses.{access_text, ctx_text}
use Rattle.steps.specs.Table.{event_of, live_fields, live_of, nothing, run_fields, word_of}

-- ---- numbers below a limit

abbrev pub WritesBelow : ℕ → List ℕ → ℕ → Type 0
WritesBelow limit word n = WritesNumber word n × (n < limit)

abbrev pub WritesTicket : List ℕ → ℕ → Type 0
WritesTicket word ticket = WritesBelow (2 ^ 32) word ticket

abbrev pub WritesSpace : List ℕ → ℕ → Type 0
WritesSpace word space = WritesBelow (2 ^ 8) word space

abbrev pub WritesAsid : List ℕ → ℕ → Type 0
WritesAsid word asid = WritesBelow (2 ^ ASID_BITS) word asid

-- ---- a number, or a name in its place

abbrev pub WritesPlace : List ℕ → Place → Type 0
WritesPlace word places.Kernel = word ≡ codes "k"
WritesPlace word (places.Space space) = WritesSpace word space

abbrev pub WritesScope : List ℕ → Scope → Type 0
WritesScope word scopes.All = word ≡ codes "all"
WritesScope word (scopes.Space space) = WritesSpace word space

abbrev pub WritesRegister : List ℕ → Option ℕ → Type 0
WritesRegister word None = word ≡ codes "x0"
WritesRegister word (Some n) = WritesNumber word n

-- ---- pages and flags

abbrev pub size_text : PageSize → List ℕ
size_text Kib4 = codes "4K:"
size_text Mib2 = codes "2M:"
size_text Gib1 = codes "1G:"
size_text Gib512 = codes "512G:"

-- the size, and the address of its first byte: a page of the scheme
abbrev pub WritesPage : Scheme → List ℕ → Span → Type 0
WritesPage scheme word page =
    (digits : List ℕ) × (word ≡ size_text page.size ++ digits) × WritesNumber digits page.base
    × IsPageOf scheme page

-- each letter adds its bit, which is not set yet
abbrev pub AddLetters : ℕ → List ℕ → ℕ → Type 0
AddLetters bits [] all = bits ≡ all
AddLetters bits (letter ∷ letters) all =
    (bit : ℕ) × (flag_of letter ≡ Some bit) × (bit_and bits bit ≡ 0)
    × AddLetters (bit_or bits bit) letters all

abbrev pub WritesFlags : List ℕ → PteFlags → Type 0
WritesFlags word flags =
    ((word ≡ codes "-") × (flags.0 ≡ 0)) ⊎ ((0 < length word) × AddLetters 0 word flags.0)

-- ---- harts

-- without a comma
abbrev pub IsPart : List ℕ → Type 0
IsPart word = AllByRecursion (λ byte. (byte == 44) ≡ false) word

-- the numbers of harts, at least one, with commas between them
abbrev pub WritesHarts : ℕ → List ℕ → List ℕ → Type 0
WritesHarts harts word [] = ⊥
WritesHarts harts word (hart ∷ []) = WritesBelow harts word hart × IsPart word
WritesHarts harts word (hart ∷ next ∷ more) =
    (part : List ℕ) × (rest : List ℕ) × (word ≡ part ++ 44 ∷ rest) × WritesBelow harts part hart
    × IsPart part × WritesHarts harts rest (next ∷ more)

-- a set of harts, bit h for hart h, which may be named more than once and in any order
abbrev pub WritesNamed : ℕ → List ℕ → ℕ → Type 0
WritesNamed harts word set =
    ((word ≡ codes "-") × (set ≡ 0))
    ⊎ ((named : List ℕ) × WritesHarts harts word named
    × (set ≡ byte_of (with_harts no_harts named)))

-- ---- the words of a step

-- a word writes something, and that is put into the parts
abbrev pub Puts : {X : Type 0} → (X → Type 0) → (X → Parts) → Parts → Type 0
Puts {X} Writes put q = (x : X) × Writes x × (q ≡ put x)

-- a word of this kind makes of the parts before it those after it
abbrev pub WritesField : Scheme → ℕ → Field → List ℕ → Parts → Parts → Type 0
WritesField scheme harts fields.Hart word p q =
    Puts (WritesBelow harts word) (λ x. record p { hart = x }) q
WritesField scheme harts fields.Mode word p q =
    Puts (λ x. word ≡ ctx_text x) (λ x. record p { ctx = x }) q
WritesField scheme harts fields.Access word p q =
    Puts (λ x. word ≡ access_text x) (λ x. record p { access = x }) q
WritesField scheme harts fields.Va word p q =
    Puts (WritesNumber word) (λ x. record p { va = x }) q
WritesField scheme harts fields.Address word p q =
    Puts (WritesNumber word) (λ x. record p { va = x }) q
WritesField scheme harts fields.Place word p q =
    Puts (WritesPlace word) (λ x. record p { place = x }) q
WritesField scheme harts fields.Page word p q =
    Puts (WritesPage scheme word) (λ x. record p { page = x }) q
WritesField scheme harts fields.Ppn word p q =
    Puts (WritesNumber word) (λ x. record p { ppn = x }) q
WritesField scheme harts fields.Flags word p q =
    Puts (WritesFlags word) (λ x. record p { flags = x }) q
WritesField scheme harts fields.Named word p q =
    Puts (WritesNamed harts word) (λ x. record p { named = x }) q
WritesField scheme harts fields.Scope word p q =
    Puts (WritesScope word) (λ x. record p { scope = x }) q
WritesField scheme harts fields.Rs1 word p q =
    Puts (WritesRegister word) (λ x. record p { rs1 = x }) q
WritesField scheme harts fields.Rs2 word p q =
    Puts (WritesRegister word) (λ x. record p { rs2 = x }) q
WritesField scheme harts fields.Space word p q =
    Puts (WritesSpace word) (λ x. record p { space = x }) q
WritesField scheme harts fields.Asid word p q =
    Puts (WritesAsid word) (λ x. record p { asid = x }) q
WritesField scheme harts fields.Ticket word p q =
    Puts (WritesTicket word) (λ x. record p { ticket = x }) q
WritesField scheme harts fields.From word p q =
    Puts (WritesBelow harts word) (λ x. record p { other = x }) q
WritesField scheme harts fields.To word p q =
    Puts (WritesBelow harts word) (λ x. record p { other = x }) q

-- a word for each field, and no more
abbrev pub WritesEach : Scheme → ℕ → List Field → List (List ℕ) → Parts → Parts → Type 0
WritesEach scheme harts [] [] p q = q ≡ p
WritesEach scheme harts [] (word ∷ words) p q = ⊥
WritesEach scheme harts (field ∷ fields) [] p q = ⊥
WritesEach scheme harts (field ∷ fields) (word ∷ words) p q =
    (r : Parts) × WritesField scheme harts field word p r × WritesEach scheme harts fields words r q

-- ---- steps

-- the name of a row of the table, a word for each field of the row, and the step that they make
pub record Tells {X : Type 0} (fields_of : StepName → Option (List Field))
    (makes : StepName → Parts → Option X) (scheme : Scheme) (harts : ℕ) (words : List (List ℕ))
    (before : Parts) (step : X) : Type 0 where
  pub name : StepName
  pub row : List Field
  pub rest : List (List ℕ)
  pub parts : Parts
  pub words_are : words ≡ word_of name ∷ rest
  pub row_is : fields_of name ≡ Some row
  pub each : WritesEach scheme harts row rest before parts
  pub makes_step : makes name parts ≡ Some step

-- a step of `run`: the number of a hart that exists, and then such words
pub record WritesRunStep (scheme : Scheme) (harts : ℕ) (text : List ℕ) (event : Event) : Type 0
  where
    pub hart : List ℕ
    pub words : List (List ℕ)
    pub own : Parts
    pub text_has : HasWords text (hart ∷ words)
    pub number : WritesField scheme harts fields.Hart hart nothing own
    pub tells : Tells run_fields event_of scheme harts words own event

-- a line of the setup of `live`, with its hart
pub record WritesSetupStep (scheme : Scheme) (harts : ℕ) (text : List ℕ) (hart : ℕ)
    (step : LiveStep) : Type 0 where
  pub word : List ℕ
  pub words : List (List ℕ)
  pub own : Parts
  pub text_has : HasWords text (word ∷ words)
  pub number : WritesField scheme harts fields.Hart word nothing own
  pub hart_is : own.hart ≡ hart
  pub tells : Tells live_fields live_of scheme harts words own step

-- a line of a script, which names no hart before the step
pub record WritesLiveStep (scheme : Scheme) (harts : ℕ) (text : List ℕ) (step : LiveStep) : Type 0
  where
    pub words : List (List ℕ)
    pub text_has : HasWords text words
    pub tells : Tells live_fields live_of scheme harts words nothing step
