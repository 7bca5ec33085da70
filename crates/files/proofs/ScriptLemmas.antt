-- The scripts of a file for `live`: their texts, their number of steps, and the loop that reads
-- them.
use Rattle.pte.specs.declared.scheme.Scheme.{Scheme}
use Rattle.std.proofs.Common.{◌≡◌, ℕ, ◌+◌, ◌-◌, ◌<◌, ◌≤◌, true, false, List, [], ◌∷◌, ◌++◌, length, get_or, drop, map, Some, refl, sym, ap, ◌∙◌, append_assoc, append-nil, Bor, Vec, Global, Result, Ok, Err, string_bytes, arith, le-leb}
use Rattle.std.specs.Prelude.{All, nat_le}
use Rattle.std.specs.List.{sum_by}
use Rattle.std.proofs.lemmas.Bool.{lt-leb}
use Rattle.std.proofs.lemmas.List.{drop_more, length-map}
use Rattle.std.proofs.lemmas.List.Elements.{All-cons, All-nil}
use Rattle.std.proofs.lemmas.List.Sums.{sum_by-cons, sum_by-drop_more}
use Rattle.std.proofs.Math.Seq.{drop-length}
use Rattle.toml.specs.Data.{Data, as_array}
use Rattle.toml.specs.View.{array_view, view}
use Rattle.toml.specs.declared.value.Value.{Value}
use Rattle.history.specs.declared.live_step.LiveStep.{LiveStep}
use Rattle.files.specs.declared.fault.Fault.{Fault}
use Rattle.files.specs.declared.fault.Fault.TheVariants as faults
use Rattle.files.specs.Faults.{bad_layout, Failure, Fails, not_toml, too_many, wrong_key, wrong_script, wrong_step, ◌>>=◌}
use Rattle.files.specs.Keys.{each, text_views, texts_of}
use Rattle.files.proofs.EachLemmas.{each-map, listed-items}
use Rattle.files.specs.LiveFile.{few_scripts, scripts_of, step_count}
use Rattle.files.specs.StepTexts.{script_in, scripts_in}

-- ---- the texts at the key

pub scripts_fit : (harts : ℕ) (values : List Value) → length values ≤ harts → few_scripts harts (map view values) ≡ each (λ value. texts_of (view value)) values
scripts_fit harts values fits = rw (length-map values view, le-leb (length values) harts fits) (each-map texts_of view values)

pub scripts_of_array : (harts : ℕ) (values : Vec Value Global) (d : Data) → Some (array_view values) ≡ as_array d → few_scripts harts (map view values.items) ≡ scripts_of harts d
scripts_of_array harts values d is = rw (sym is, listed-items (map view values.items)) refl

-- ---- the number of steps

abbrev pub len_of : Vec (Bor (List ℕ)) Global → ℕ
len_of texts = length texts.items

views_sum : (scripts : List (Vec (Bor (List ℕ)) Global)) → sum_by length (map text_views scripts) ≡ sum_by len_of scripts
views_sum [] = refl
views_sum (texts ∷ scripts) =
    sum_by-cons length (text_views texts) (map text_views scripts)
    ∙ rw (length-map texts.items (λ text. text.now), views_sum scripts) (sym (sum_by-cons len_of texts scripts))

pub steps_counted : (setup : List (Bor (List ℕ))) (scripts : List (Vec (Bor (List ℕ)) Global)) → step_count (map (λ text. text.now) setup) (map text_views scripts) ≡ length setup + sum_by len_of scripts
steps_counted setup scripts = rw (length-map setup (λ text. text.now), views_sum scripts)

-- the room that is left, where the scripts from i on are not counted yet
abbrev pub RoomLeft : List (Bor (List ℕ)) → List (Vec (Bor (List ℕ)) Global) → ℕ → ℕ → Type 0
RoomLeft setup scripts i room = length setup + sum_by len_of scripts + room ≡ 65536 + sum_by len_of (drop i scripts)

each_within : (n : ℕ) (scripts : List (Vec (Bor (List ℕ)) Global)) → sum_by len_of scripts ≤ n → All (λ texts. len_of texts ≤ n) scripts
each_within n [] h = All-nil (λ texts. len_of texts ≤ n)
each_within n (texts ∷ scripts) h =
    let is = sum_by-cons len_of texts scripts in
    All-cons (λ texts. len_of texts ≤ n) texts scripts (omega (arith, h, is)) (each_within n scripts (omega (arith, h, is)))

pub too_many_before : (setup : List (Bor (List ℕ))) (scripts : List (Vec (Bor (List ℕ)) Global)) → 65536 < length setup
    → false ≡ nat_le (step_count (map (λ text. text.now) setup) (map text_views scripts)) 65536
too_many_before setup scripts h =
    rw (steps_counted setup scripts) (sym (lt-leb (length setup + sum_by len_of scripts) 65536 (omega (arith, h))))

pub too_many_in : (setup : List (Bor (List ℕ))) (scripts : List (Vec (Bor (List ℕ)) Global)) (i room : ℕ) (d : Vec (Bor (List ℕ)) Global) → i < length scripts → room < len_of (get_or scripts i d)
    → RoomLeft setup scripts i room → false ≡ nat_le (step_count (map (λ text. text.now) setup) (map text_views scripts)) 65536
too_many_in setup scripts i room d lt h left =
    rw (steps_counted setup scripts) (sym (lt-leb (length setup + sum_by len_of scripts) 65536 (omega (arith, h, left, sum_by-drop_more len_of scripts i d lt))))

pub room_after : (setup : List (Bor (List ℕ))) (scripts : List (Vec (Bor (List ℕ)) Global)) (i room : ℕ) (d : Vec (Bor (List ℕ)) Global) → i < length scripts → len_of (get_or scripts i d) ≤ room
    → RoomLeft setup scripts i room → RoomLeft setup scripts (i + 1) (room - len_of (get_or scripts i d))
room_after setup scripts i room d lt h left = omega (arith, h, left, sum_by-drop_more len_of scripts i d lt)

all_within : (setup : List (Bor (List ℕ))) (scripts : List (Vec (Bor (List ℕ)) Global)) (room : ℕ) → RoomLeft setup scripts (length scripts) room → length setup + sum_by len_of scripts ≤ 65536
all_within setup scripts room left = let is = rw (drop-length scripts) at left in omega (arith, is)

pub few_in_all : (setup : List (Bor (List ℕ))) (scripts : List (Vec (Bor (List ℕ)) Global)) (room : ℕ) → RoomLeft setup scripts (length scripts) room
    → (true ≡ nat_le (step_count (map (λ text. text.now) setup) (map text_views scripts)) 65536) × (length setup ≤ 65536) × All (λ texts. len_of texts ≤ 65536) scripts
few_in_all setup scripts room left =
    let all = all_within setup scripts room left in (
      rw (steps_counted setup scripts) (sym (le-leb (length setup + sum_by len_of scripts) 65536 all)),
      omega (arith, all),
      each_within 65536 scripts (omega (arith, all)),
    )

-- ---- the scripts of the harts

-- what is read so far, and then the scripts of the rest, is what is read of all
abbrev pub ScriptsSoFar : Scheme → ℕ → List (Vec (Bor (List ℕ)) Global) → ℕ → List (List LiveStep) → Type 0
ScriptsSoFar scheme harts scripts i front =
    scripts_in scheme harts 0 (map text_views scripts) ≡ (scripts_in scheme harts i (map text_views (drop i scripts)) >>= λ rest. Ok (front ++ rest))

bind-nil : {X : Type 0} (r : Result (List X) Failure) → r ≡ (r >>= λ rest. Ok ([] ++ rest))
bind-nil (Ok steps) = refl
bind-nil (Err e) = refl

one_more : {X : Type 0} (front : List X) (step : X) (r : Result (List X) Failure)
    → ((r >>= λ steps. Ok (step ∷ steps)) >>= λ rest. Ok (front ++ rest)) ≡ (r >>= λ rest. Ok ((front ++ step ∷ []) ++ rest))
one_more front step (Ok steps) = ap Ok (sym (append_assoc front (step ∷ []) steps))
one_more front step (Err e) = refl

pub scripts_start : (scheme : Scheme) (harts : ℕ) (scripts : List (Vec (Bor (List ℕ)) Global)) → ScriptsSoFar scheme harts scripts 0 []
scripts_start scheme harts scripts = bind-nil (scripts_in scheme harts 0 (map text_views scripts))

pub scripts_more : (scheme : Scheme) (harts : ℕ) (scripts : List (Vec (Bor (List ℕ)) Global)) (i : ℕ) (front : List (List LiveStep)) (d : Vec (Bor (List ℕ)) Global) (steps : List LiveStep)
    → i < length scripts → script_in scheme harts i (text_views (get_or scripts i d)) ≡ Ok steps
    → ScriptsSoFar scheme harts scripts i front → ScriptsSoFar scheme harts scripts (i + 1) (front ++ steps ∷ [])
scripts_more scheme harts scripts i front d steps lt is so_far =
    so_far ∙ rw (drop_more scripts i d lt, is) (one_more front steps (scripts_in scheme harts (i + 1) (map text_views (drop (i + 1) scripts))))

pub scripts_refused : (scheme : Scheme) (harts : ℕ) (scripts : List (Vec (Bor (List ℕ)) Global)) (i : ℕ) (front : List (List LiveStep)) (d : Vec (Bor (List ℕ)) Global) (failure : Failure)
    → i < length scripts → script_in scheme harts i (text_views (get_or scripts i d)) ≡ Err failure
    → ScriptsSoFar scheme harts scripts i front → scripts_in scheme harts 0 (map text_views scripts) ≡ Err failure
scripts_refused scheme harts scripts i front d failure lt is so_far = so_far ∙ rw (drop_more scripts i d lt, is) refl

pub scripts_end : (scheme : Scheme) (harts : ℕ) (scripts : List (Vec (Bor (List ℕ)) Global)) (front : List (List LiveStep)) → ScriptsSoFar scheme harts scripts (length scripts) front
    → scripts_in scheme harts 0 (map text_views scripts) ≡ Ok front
scripts_end scheme harts scripts front so_far = so_far ∙ rw (drop-length scripts) (ap Ok (append-nil front))

pub scripts_fail : (scheme : Scheme) (harts : ℕ) (scripts : List (Vec (Bor (List ℕ)) Global)) (i : ℕ) (front : List (List LiveStep)) (d : Vec (Bor (List ℕ)) Global) (fault : Fault)
    → i < length scripts → Fails fault (script_in scheme harts i (text_views (get_or scripts i d)))
    → ScriptsSoFar scheme harts scripts i front → Fails fault (scripts_in scheme harts 0 (map text_views scripts))
scripts_fail scheme harts scripts i front d faults.NotToml lt h so_far = scripts_refused scheme harts scripts i front d not_toml lt h so_far
scripts_fail scheme harts scripts i front d (faults.Key name) lt h so_far = scripts_refused scheme harts scripts i front d (wrong_key (string_bytes name)) lt h so_far
scripts_fail scheme harts scripts i front d faults.Layout lt h so_far = scripts_refused scheme harts scripts i front d bad_layout lt h so_far
scripts_fail scheme harts scripts i front d faults.TooMany lt h so_far = scripts_refused scheme harts scripts i front d too_many lt h so_far
scripts_fail scheme harts scripts i front d (faults.Step n fault) lt h so_far = scripts_refused scheme harts scripts i front d (wrong_step n fault) lt h so_far
scripts_fail scheme harts scripts i front d (faults.Script hart n fault) lt h so_far = scripts_refused scheme harts scripts i front d (wrong_script hart n fault) lt h so_far
scripts_fail scheme harts scripts i front d faults.Output lt h so_far = absurd h
scripts_fail scheme harts scripts i front d faults.NoMemory lt h so_far = tt
