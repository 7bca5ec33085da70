-- How the words of a step are read: each by itself, as what its place in the table asks for. Of
-- several words that are wrong the gravest fault is told.
use Rattle.std.specs.Prelude.{ℕ, ◌≡◌, List, [], ◌∷◌, Option, Result, Ok, Err}
use Rattle.std.specs.Result.{result_err}
use Rattle.pte.specs.declared.scheme.Scheme.{Scheme}
use Rattle.steps.specs.declared.fault.StepFault.{StepFault}
use Rattle.steps.specs.declared.fault.StepFault.TheVariants.{NotStep}
use Rattle.steps.specs.declared.parts.Parts.{Parts}
use Rattle.steps.specs.declared.table.Field.{Field}
use Rattle.steps.specs.declared.table.Field.TheVariants as fields
use Rattle.steps.specs.declared.table.StepName.{StepName}
use Rattle.steps.specs.Fields.{asid_of, flags_of, hart_in, named_in, page_in, place_of, register_of, scope_of, space_of, ticket_of}
use Rattle.steps.specs.Num.{num_of}
use Rattle.steps.specs.Accesses.{access_of, ctx_of}
use Rattle.steps.specs.StepFaults.{asked, graver, ◌>>=◌}
use Rattle.steps.specs.Table.{name_of, nothing}

-- the parts with what a word says, in a scheme and for a number of harts
abbrev pub read : Scheme → ℕ → Field → List ℕ → Parts → Result Parts StepFault
read scheme harts fields.Hart word p = hart_in harts word >>= λ x. Ok (record p { hart = x })
read scheme harts fields.Mode word p = asked (ctx_of word) >>= λ x. Ok (record p { ctx = x })
read scheme harts fields.Access word p =
    asked (access_of word) >>= λ x. Ok (record p { access = x })
read scheme harts fields.Va word p = asked (num_of word) >>= λ x. Ok (record p { va = x })
read scheme harts fields.Address word p = asked (num_of word) >>= λ x. Ok (record p { va = x })
read scheme harts fields.Place word p = asked (place_of word) >>= λ x. Ok (record p { place = x })
read scheme harts fields.Page word p =
    page_in scheme word >>= λ x. Ok (record p { page = x })
read scheme harts fields.Ppn word p = asked (num_of word) >>= λ x. Ok (record p { ppn = x })
read scheme harts fields.Flags word p = asked (flags_of word) >>= λ x. Ok (record p { flags = x })
read scheme harts fields.Named word p = named_in harts word >>= λ x. Ok (record p { named = x })
read scheme harts fields.Scope word p = asked (scope_of word) >>= λ x. Ok (record p { scope = x })
read scheme harts fields.Rs1 word p = asked (register_of word) >>= λ x. Ok (record p { rs1 = x })
read scheme harts fields.Rs2 word p = asked (register_of word) >>= λ x. Ok (record p { rs2 = x })
read scheme harts fields.Space word p = asked (space_of word) >>= λ x. Ok (record p { space = x })
read scheme harts fields.Asid word p = asked (asid_of word) >>= λ x. Ok (record p { asid = x })
read scheme harts fields.Ticket word p =
    asked (ticket_of word) >>= λ x. Ok (record p { ticket = x })
read scheme harts fields.From word p = hart_in harts word >>= λ x. Ok (record p { other = x })
read scheme harts fields.To word p = hart_in harts word >>= λ x. Ok (record p { other = x })

-- what is wrong with a word that stands for a field
abbrev pub word_fault : Scheme → ℕ → Field → List ℕ → Option StepFault
word_fault scheme harts field word = result_err (read scheme harts field word nothing)

-- a fault, or a graver one of what follows
abbrev pub at_least : {X : Type 0} → StepFault → Result X StepFault → Result X StepFault
at_least fault (Ok x) = Err fault
at_least fault (Err other) = Err (graver fault other)

-- what follows a word is read even if the word is wrong
abbrev pub followed : {X : Type 0} → Result Parts StepFault → Parts → (Parts → Result X StepFault)
    → Result X StepFault
followed (Ok read) parts rest = rest read
followed (Err fault) parts rest = at_least fault (rest parts)

-- a word for each field, and no more
abbrev pub read_each : Scheme → ℕ → List Field → List (List ℕ) → Parts → Result Parts StepFault
read_each scheme harts [] [] p = Ok p
read_each scheme harts [] (word ∷ words) p = Err NotStep
read_each scheme harts (field ∷ fields) [] p = Err NotStep
read_each scheme harts (field ∷ fields) (word ∷ words) p =
    followed (read scheme harts field word p) p (λ q. read_each scheme harts fields words q)

-- a name that has such fields, a word for each of them, and what that makes
abbrev pub read_step : {X : Type 0} → (StepName → Option (List Field))
    → (StepName → Parts → Option X) → Scheme → ℕ → List (List ℕ) → Parts → Result X StepFault
read_step fields_of makes scheme harts [] p = Err NotStep
read_step fields_of makes scheme harts (word ∷ words) p = do
  name ← asked (name_of word)
  fields ← asked (fields_of name)
  q ← read_each scheme harts fields words p
  asked (makes name q)

-- the number of the hart, and then what follows it
abbrev pub read_hart : {X : Type 0} → Scheme → ℕ → (List (List ℕ) → Parts → Result X StepFault)
    → List (List ℕ) → Result X StepFault
read_hart scheme harts rest [] = Err NotStep
read_hart scheme harts rest (word ∷ words) =
    followed (read scheme harts fields.Hart word nothing) nothing (rest words)

-- what is read into parts: what it makes of them, or its fault
abbrev pub ReadsInto : Result (Unit {0}) StepFault → Result Parts StepFault → Parts → Type 0
ReadsInto (Ok done) read new = read ≡ Ok new
ReadsInto (Err fault) read new = read ≡ Err fault
