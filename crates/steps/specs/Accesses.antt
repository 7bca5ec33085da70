-- How the mode and the access of a step are written.
use Rattle.std.specs.Prelude.{ℕ, true, false, codes, List, [], ◌∷◌, ◌++◌, find, Option, if◌then◌else◌}
use Rattle.std.specs.Str.{bytes_eq}
use Rattle.pte.specs.declared.permission.Access.{Access}
use Rattle.pte.specs.declared.permission.Access.TheVariants.{Fetch, Load, Store}
use Rattle.pte.specs.declared.permission.Mode.{Mode}
use Rattle.pte.specs.declared.permission.Mode.TheVariants.{User, Super}
use Rattle.pte.specs.declared.permission.Ctx.{Ctx}

-- the value of which this is the text
abbrev pub named : {X : Type 0} → (X → List ℕ) → List X → List ℕ → Option X
named text xs word = find (λ x. bytes_eq word (text x)) xs

abbrev pub access_text : Access → List ℕ
access_text Fetch = codes "fetch"
access_text Load = codes "load"
access_text Store = codes "store"

abbrev pub access_of : List ℕ → Option Access
access_of = named access_text (Fetch ∷ Load ∷ Store ∷ [])

abbrev pub mode_text : Mode → List ℕ
mode_text User = codes "u"
mode_text Super = codes "s"

-- the mode, and what it has of SUM and MXR
abbrev pub ctx_text : Ctx → List ℕ
ctx_text ctx =
    mode_text ctx.mode ++ (if ctx.sum then codes "+sum" else [])
    ++ (if ctx.mxr then codes "+mxr" else [])

abbrev pub ctxs_of : Mode → List Ctx
ctxs_of mode =
    record { mode = mode; sum = false; mxr = false }
    ∷ record { mode = mode; sum = true; mxr = false }
    ∷ record { mode = mode; sum = false; mxr = true }
    ∷ record { mode = mode; sum = true; mxr = true } ∷ []

abbrev pub ctx_of : List ℕ → Option Ctx
ctx_of = named ctx_text (ctxs_of User ++ ctxs_of Super)
