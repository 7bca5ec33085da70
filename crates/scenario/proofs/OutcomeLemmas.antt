-- How a command ends, by what it made of a text.
use Rattle.std.proofs.Common.{◌≡◌, ◌∙◌, ℕ, ◌≤◌, Bool, true, false, List, [], ◌∷◌, length, map, Option, Some, None, Result, Ok, Err, IfOk, IfErr, inl, inr, sym, ap, subst, refl, true≢false, arith}
use Rattle.std.specs.Prelude.{◌↔◌, option_map, string_bytes}
use Rattle.std.proofs.lemmas.Option.{same_Some}
use Rattle.toml.specs.Parse.{parse_document}
use Rattle.checks.specs.Lines.{IsInOrder, told_line}
use Rattle.checks.specs.Notes.{AreNotesOn, noted_in}
use Rattle.checks.specs.Shown.{shown_name}
use Rattle.checks.specs.Told.{fault_of, name_by, whole_text}
use Rattle.checks.specs.declared.printed.Told.{Told}
use Rattle.std.specs.Io.KnownBytes.{Appends, Keeps}
use Rattle.std.proofs.KnownBytes.{Appends-nil, Keeps-refl}
use Rattle.std.specs.Str.{IsUtf8, is_utf8}
use Rattle.std.proofs.lemmas.Bool.{cases_Bool}
use Rattle.std.proofs.lemmas.Str.{IsUtf8-from_is_utf8, is_utf8-from_IsUtf8}
use Rattle.files.specs.declared.fault.Fault.{Fault}
use Rattle.files.specs.declared.fault.Fault.TheVariants as faults
use Rattle.files.specs.Faults.{Failure, failure_of, not_toml}
use Rattle.scenario.specs.declared.finding.Finding.{Finding}
use Rattle.scenario.specs.declared.finding.Finding.TheVariants.{Nothing, StaleUsed, Faulty}
use Rattle.scenario.specs.declared.trouble.Trouble.{Trouble}
use Rattle.scenario.specs.declared.trouble.Trouble.TheVariants as troubles
use Rattle.scenario.specs.Command.{Ending, Ends, EndsAs, ending_of_fault, explained, file_fault, IsPrinted, no_memory, refused, Reports, stale_used}
use Rattle.scenario.specs.Commands.{Meaning, check, printing}
use Rattle.scenario.specs.Outcomes.{ending_of_finding, EndsAnswered, explained_in, finding_of, IsAnswered, IsFound, IsUnanswered, IsUntold, LeavesOf}
use Rattle.scenario.specs.declared.outcome.Outcome.{Outcome}
use Rattle.scenario.specs.Input.{AreLeft}
use Rattle.scenario.specs.Limits.{most_bytes}
use Rattle.scenario.specs.Output.{AppendsFront, EndsBy}
use Rattle.scenario.specs.Prints.{TellsFaults}

-- ---- a text that is read as a plan, of which something is printed
pub plan_found : {P : Type 0} (read : List ℕ → Result P Failure) (prints : P → List ℕ → Type 0) (text : List ℕ) (plan : P) (lines : List ℕ) → read text ≡ Ok plan → prints plan lines
    → IsFound (printing read prints) text lines Nothing
plan_found read prints text plan lines is p = rw is (refl, p, λ uses. uses)

-- ---- bytes that are no text
pub no_text_ends : (meaning : Meaning) (bytes : List ℕ) (old new : Option (List ℕ)) → ¬ IsUtf8 bytes → length bytes ≤ most_bytes → Keeps old new
    → EndsAs meaning bytes (refused not_toml) old new
no_text_ends meaning bytes old new other short kept = record { suits = (λ e. other e.1, short, is); leaves = kept } where
  is : file_fault meaning bytes ≡ Some not_toml
  is = elim (cases_Bool (is_utf8 bytes)) [ inl holds ↦ absurd (other (IsUtf8-from_is_utf8 bytes holds)) | inr fails ↦ rw fails refl ]

-- ---- bytes of a text
abbrev is_memory : Fault → Bool
is_memory faults.NoMemory = true
is_memory _ = false

another : (fault : Fault) → is_memory fault ≡ false → fault ≡ faults.NoMemory → ⊥
another fault off is = true≢false (sym (ap is_memory is) ∙ off)

module _ (meaning : Meaning) (bytes : List ℕ) (utf8 : IsUtf8 bytes) (short : length bytes ≤ most_bytes) where
  its_text : file_fault meaning bytes ≡ meaning.fault bytes
  its_text = rw (is_utf8-from_IsUtf8 bytes utf8) refl

  pub found_ends : (lines : List ℕ) (finding : Finding) (old new : Option (List ℕ)) → IsFound meaning bytes lines finding → Appends old new lines
      → EndsAs meaning bytes (ending_of_finding finding) old new
  found_ends lines Nothing old new found written = record { suits = (short, its_text ∙ found.0, found.2); leaves = (lines, found.1, written) }
  found_ends lines StaleUsed old new found written = record { suits = (short, its_text ∙ found.0, found.2); leaves = (lines, found.1, written) }
  found_ends lines (Faulty fault) old new (explains, tells, failure, is, first) written =
      subst (λ o. EndsAs meaning bytes (explained_in o (ending_of_fault fault)) old new) (sym is)
      (record { suits = ((explains, utf8), short, its_text ∙ first); leaves = (lines, tells, written) })

  -- the output failed
  printed : (lines : List ℕ) (finding : Finding) → IsFound meaning bytes lines finding → meaning.Lines bytes lines × IsPrinted meaning bytes
  printed lines Nothing found = (found.1, inl (its_text ∙ found.0))
  printed lines StaleUsed found = (found.1, inl (its_text ∙ found.0))
  printed lines (Faulty fault) found = (found.1, inr (found.0, utf8))

  pub unwritten_ends : (lines : List ℕ) (finding : Finding) (fault : Fault) (old new : Option (List ℕ)) → IsFound meaning bytes lines finding
      → fault ≡ faults.Output → AppendsFront old new lines → EndsAs meaning bytes (ending_of_fault fault) old new
  unwritten_ends lines finding fault old new found is written =
      let p = printed lines finding found in
      subst (λ f. EndsAs meaning bytes (ending_of_fault f) old new) (sym is) (record { suits = (short, p.1); leaves = (lines, p.0, written) })

  -- there is nothing to print
  refused_ends : (failure : Failure) (old new : Option (List ℕ)) → ¬ meaning.Explains → meaning.fault bytes ≡ Some failure → Keeps old new → EndsAs meaning bytes (refused failure) old new
  refused_ends failure old new quiet first kept = record { suits = (λ e. quiet e.0, short, its_text ∙ first); leaves = kept }

  pub unanswered_ends : (trouble : Trouble) → IsUnanswered meaning bytes trouble → IsAnswered meaning bytes (Err trouble)
  unanswered_ends troubles.Usage h old new kept = absurd h
  unanswered_ends troubles.Unreadable h old new kept = absurd h
  unanswered_ends troubles.TooLarge h old new kept = absurd h
  unanswered_ends troubles.NoThread h old new kept = record { suits = (h.0, short, its_text ∙ h.1); leaves = kept }
  unanswered_ends (troubles.Line number fault some) h old new kept = absurd h
  unanswered_ends (troubles.NoVerdict line) h old new kept = absurd h
  unanswered_ends (troubles.KnownLine fault) h old new kept = absurd h
  unanswered_ends (troubles.Refused faults.NotToml) h old new kept = refused_ends _ old new (λ e. another faults.NotToml refl (h.1 e)) h.0 kept
  unanswered_ends (troubles.Refused (faults.Key name)) h old new kept = refused_ends _ old new (λ e. another (faults.Key name) refl (h.1 e)) h.0 kept
  unanswered_ends (troubles.Refused faults.Layout) h old new kept = refused_ends _ old new (λ e. another faults.Layout refl (h.1 e)) h.0 kept
  unanswered_ends (troubles.Refused faults.TooMany) h old new kept = refused_ends _ old new (λ e. another faults.TooMany refl (h.1 e)) h.0 kept
  unanswered_ends (troubles.Refused (faults.Step n fault)) h old new kept = refused_ends _ old new (λ e. another (faults.Step n fault) refl (h.1 e)) h.0 kept
  unanswered_ends (troubles.Refused (faults.Script hart n fault)) h old new kept = refused_ends _ old new (λ e. another (faults.Script hart n fault) refl (h.1 e)) h.0 kept
  unanswered_ends (troubles.Refused faults.Output) h old new kept = absurd h.0
  unanswered_ends (troubles.Refused faults.NoMemory) h old new kept = record { suits = tt; leaves = kept }

  pub answered_by : (answered : Result Outcome Trouble) → IfOk answered (λ outcome. IsFound meaning bytes (string_bytes outcome.lines) outcome.finding)
      → IfErr answered (IsUnanswered meaning bytes) → IsAnswered meaning bytes answered
  answered_by (Ok outcome) ok err = (short, utf8, ok)
  answered_by (Err trouble) ok err = unanswered_ends trouble err

-- a file ends by what was answered of it
pub ends_as : (meaning : Meaning) (bytes : List ℕ) (answered : Result Outcome Trouble) (ending : Ending) (old new : Option (List ℕ)) → IsAnswered meaning bytes answered
    → LeavesOf answered ending old new → EndsAs meaning bytes ending old new
ends_as meaning bytes (Ok outcome) ending old new (short, utf8, found) (inl (is, written)) =
    subst (λ e. EndsAs meaning bytes e old new) (sym is) (found_ends meaning bytes utf8 short (string_bytes outcome.lines) outcome.finding old new found written)
ends_as meaning bytes (Ok outcome) ending old new (short, utf8, found) (inr (is, written)) =
    subst (λ e. EndsAs meaning bytes e old new) (sym is) (unwritten_ends meaning bytes utf8 short (string_bytes outcome.lines) outcome.finding faults.Output old new found refl written)
ends_as meaning bytes (Err trouble) ending old new answered (is, kept) = subst (λ e. EndsAs meaning bytes e old new) (sym is) (answered old new kept)

pub ends_answered : (meaning : Meaning) (file : List ℕ) (left : Option (List ℕ)) (answered : Result Outcome Trouble) (status : ℕ) (out_old out_new err_old err_new : Option (List ℕ))
    → (bytes : List ℕ) × AreLeft left bytes × IsAnswered meaning bytes answered → EndsAnswered answered file status out_old out_new err_old err_new
    → (bytes : List ℕ) × AreLeft left bytes × Ends meaning file bytes status out_old out_new err_old err_new
ends_answered meaning file left answered status out_old out_new err_old err_new (bytes, has, is) e =
    (bytes, has, record { ending = e.ending; ends_as = ends_as meaning bytes answered e.ending out_old out_new is e.leaves; reports = e.reports })

-- all that was answered was written
pub ended : (answered : Result Outcome Trouble) (outcome : Outcome) (file : List ℕ) (status : ℕ) (out_old out_new err_old err_new : Option (List ℕ)) → answered ≡ Ok outcome
    → Appends out_old out_new (string_bytes outcome.lines) → Reports file (ending_of_finding outcome.finding) status err_old err_new
    → EndsAnswered answered file status out_old out_new err_old err_new
ended answered outcome file status out_old out_new err_old err_new is written r =
    rw is (record { ending = ending_of_finding outcome.finding; leaves = inl (refl, written); reports = r })

-- what a call leaves that writes nothing, for want of what it writes
pub untold_leaves : (fault : Fault) (first : Option Failure) (Lines : List ℕ → Type 0) (out : Option (List ℕ)) → IsUntold fault first → EndsBy fault first Lines out out
untold_leaves faults.NotToml first Lines out h = (h, Keeps-refl out)
untold_leaves (faults.Key name) first Lines out h = (h, Keeps-refl out)
untold_leaves faults.Layout first Lines out h = (h, Keeps-refl out)
untold_leaves faults.TooMany first Lines out h = (h, Keeps-refl out)
untold_leaves (faults.Step n fault) first Lines out h = (h, Keeps-refl out)
untold_leaves (faults.Script hart n fault) first Lines out h = (h, Keeps-refl out)
untold_leaves faults.Output first Lines out h = absurd h
untold_leaves faults.NoMemory first Lines out h = Keeps-refl out

-- ---- lines of faults that were explained
explained_failure : (file : List ℕ) (failure : Failure) (status : ℕ) (old new : Option (List ℕ)) → Reports file (refused failure) status old new → Reports file (explained failure) status old new
explained_failure file failure status old new r = elim r.is_told [
  | inl is ↦ record {
    told = explained failure;
    is_told = inl refl;
    status_is = rw is at r.status_is;
    tells = rw is at r.tells;
  }
  | inr is ↦ record { told = no_memory; is_told = inr refl; status_is = rw is at r.status_is; tells = rw is at r.tells }
]

-- a fault that was explained is reported by the same line, at the same status
pub explained_report : (file : List ℕ) (fault : Fault) (status : ℕ) (old new : Option (List ℕ)) → Reports file (ending_of_fault fault) status old new → Reports file (ending_of_finding (Faulty fault)) status old new
explained_report file faults.NotToml status old new r = explained_failure file _ status old new r
explained_report file (faults.Key name) status old new r = explained_failure file _ status old new r
explained_report file faults.Layout status old new r = explained_failure file _ status old new r
explained_report file faults.TooMany status old new r = explained_failure file _ status old new r
explained_report file (faults.Step n fault) status old new r = explained_failure file _ status old new r
explained_report file (faults.Script hart n fault) status old new r = explained_failure file _ status old new r
explained_report file faults.Output status old new r = r
explained_report file faults.NoMemory status old new r = r

pub used_reported : (file : List ℕ) (err : Option (List ℕ)) → Reports file stale_used 1 err err
used_reported file err = record { told = stale_used; is_told = refl; status_is = refl; tells = (0, Appends-nil err) }

-- ---- what a check reports
told_none : (first : Option Failure) (fault : Option Fault) → option_map failure_of fault ≡ option_map Some first → (first ≡ None) ↔ (fault ≡ None)
told_none None None is = (λ h. refl, λ h. refl)
told_none None (Some fault) is = (λ h. cc, λ h. cc)
told_none (Some failure) None is = (λ h. cc, λ h. cc)
told_none (Some failure) (Some fault) is = (λ h. cc, λ h. cc)

no_told : (told : List Told) → (length told ≡ 0) ↔ (told ≡ [])
no_told [] = (λ h. refl, λ h. refl)
no_told (first ∷ told) = (λ h. absurd (omega (arith, h)), λ h. cc)

pub told_of : (file text : List ℕ) (first : Option Failure) (fault : Option Fault) (printed : List ℕ) (told notes : List Told) (n : ℕ) → n ≡ length told → option_map failure_of fault ≡ option_map Some first
    → (fault ≡ None) ↔ (n ≡ 0) → IsInOrder told → AreNotesOn (noted_in text) notes → IsInOrder notes
    → printed ≡ whole_text (name_by (parse_document text)) (map (told_line (shown_name file)) told) (map (told_line (shown_name file)) notes) → TellsFaults file text first printed
told_of file text first fault printed told notes n many is none order noted notes_order whole =
    let a = told_none first fault is in
    let b = no_told told in
    (told, notes, whole, order, (λ h. b.0 (sym many ∙ none.0 (a.0 h)), λ h. a.1 (none.1 (many ∙ b.1 h))), notes_order, noted)

pub checked_so : (file text : List ℕ) (fault : Option Fault) (printed : List ℕ) → option_map failure_of fault ≡ option_map Some (fault_of text) → TellsFaults file text (fault_of text) printed
    → IsFound (check file) text printed (finding_of fault)
checked_so file text fault printed is tells = go (fault_of text) fault refl is where
  go : (first : Option Failure) (fault : Option Fault) → fault_of text ≡ first → option_map failure_of fault ≡ option_map Some first → IsFound (check file) text printed (finding_of fault)
  go None None none is = (none, tells, λ uses. uses)
  go None (Some fault) none is = cc
  go (Some failure) None some is = cc
  go (Some failure) (Some fault) some is = (tt, tells, failure, same_Some _ _ is, some)
