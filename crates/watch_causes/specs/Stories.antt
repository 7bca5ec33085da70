-- The story of a verdict: some of the records of a trace, which alone give the same verdict.
use Rattle.std.specs.Prelude.{ℕ, Bool, true, false, IsTrue, ◌≡◌, ◌==◌, ◌+◌, ◌&&◌, ◌||◌, nat_lt, if◌then◌else◌}
use Rattle.std.specs.Prelude.{List, [], ◌∷◌, get_or, length, map}
use Rattle.std.specs.List.{list_any}
use Rattle.pte.specs.declared.scheme.Scheme.{Scheme}
use Rattle.watch.specs.declared.trace.Record.{Record}
use Rattle.watch.specs.Trace.{Trace}
use Rattle.watch.specs.WorkedTraces.{trace_of}
use Rattle.watch_engine.specs.declared.warning.Warning.{Warning}
use Rattle.watch_engine.specs.Warnings.{AreWarnings, IsDue, IsStaleFrom, has_same_rights, shown_of}
use Rattle.watch_causes.specs.declared.role.Role.TheVariants.{Other}
use Rattle.watch_causes.specs.declared.stories.Part.{Part}
use Rattle.watch_causes.specs.Findings.{finding_of, is_same_finding, is_same_verdict}
use Rattle.watch_causes.specs.Reasons.{is_for}
use Rattle.watch_causes.specs.Roles.{role_of}

-- ---- the warnings at the newest record

abbrev pub AreLast : Scheme → Trace → List Warning → Type 0
AreLast scheme [] warnings = warnings ≡ []
AreLast scheme (newest ∷ trace) warnings = AreWarnings scheme newest trace warnings

-- the verdict is due there, and its translation has been stale since the moment that the warning has
abbrev pub IsDueAt : Scheme → Trace → Warning → Type 0
IsDueAt scheme [] w = ⊥
IsDueAt scheme (newest ∷ trace) w =
    IsDue scheme w.verdict newest trace w.hart (shown_of w)
    × IsStaleFrom scheme w.stale_since trace w.hart (shown_of w)

-- ---- the records that are told

-- a fence for the hart since the translation was stale
abbrev pub is_fence_since : Warning → ℕ → Record → Bool
is_fence_since w number made = nat_lt w.stale_since number && is_for w.hart made

-- a record with its role, or with none where it is not named
abbrev pub part_of : Scheme → Warning → Bool → ℕ → Record → Part
part_of scheme w named number made =
    record { number = number; made = made; role = if named then role_of scheme w number made else Other }

-- with a record if it is chosen, or if it is such a fence, which is named
abbrev pub with_part : Scheme → Warning → Bool → Bool → ℕ → Record → List Part → List Part
with_part scheme w chosen named number made parts =
    if is_fence_since w number made then part_of scheme w true number made ∷ parts
    else if chosen then part_of scheme w named number made ∷ parts else parts

-- by marks at the numbers of records; the last of them is named without one
abbrev pub is_named : List Record → List Bool → ℕ → Bool
is_named records marks number = get_or marks number false || (number == length records)

-- of these records, of which the first has the number, those that are chosen, and such fences
abbrev pub parts_from : Scheme → Warning → (ℕ → Bool) → (ℕ → Bool) → ℕ → List Record → List Part
parts_from scheme w chosen named number [] = []
parts_from scheme w chosen named number (made ∷ records) =
    with_part scheme w (chosen number) (named number) number made
    (parts_from scheme w chosen named (number + 1) records)

-- ---- the verdict on them alone

-- they are a trace
abbrev pub told : List Part → Trace
told parts = trace_of (map (λ p. p.made) parts)

-- the number in the whole trace of the record that has the place, from 1 on, among the parts
abbrev pub number_at : List Part → ℕ → ℕ
number_at parts place = get_or (0 ∷ map (λ p. p.number) parts) place 0

-- a warning on them alone, by the numbers of the whole trace
abbrev pub in_story : List Part → Warning → Warning
in_story parts alone = record alone { stale_since = number_at parts alone.stale_since }

-- a warning on them alone is of the same verdict and finding, and shows the same
-- frames and rights
abbrev pub is_same : List Part → Warning → Warning → Bool
is_same parts alone w =
    is_same_verdict alone.verdict w.verdict
    && ((alone.entry.ppn == w.entry.ppn)
    && (has_same_rights alone.entry.flags w.entry.flags
    && is_same_finding (finding_of (in_story parts alone)) (finding_of w)))

-- whether one of those at the last of them is
pub record IsJudged (scheme : Scheme) (parts : List Part) (w : Warning) (gives : Bool) : Type 0 where
  pub alone : List Warning
  pub last : AreLast scheme (told parts) alone
  pub is : gives ≡ list_any (λ v. is_same parts v w) alone

-- they alone give it
pub record Gives (scheme : Scheme) (parts : List Part) (w : Warning) : Type 0 where
  pub alone : Warning
  pub due : IsDueAt scheme (told parts) alone
  pub verdict : alone.verdict ≡ w.verdict
  pub frames : alone.entry.ppn ≡ w.entry.ppn
  pub rights : IsTrue (has_same_rights alone.entry.flags w.entry.flags)
  pub finding : finding_of (in_story parts alone) ≡ finding_of w

-- the parts are records of the trace in their order up to the last, those that are named with their
-- roles, among them each fence for the hart since the translation was stale; and they alone give the
-- verdict
pub record IsStory (scheme : Scheme) (records : List Record) (w : Warning)
    (parts : List Part) : Type 0 where
  pub chosen : ℕ → Bool
  pub named : ℕ → Bool
  pub told : parts ≡ parts_from scheme w chosen named 1 records
  pub last : IsTrue (chosen (length records)) × IsTrue (named (length records))
  pub gives : Gives scheme parts w
