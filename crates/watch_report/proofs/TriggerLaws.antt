-- Each warning has its line.
use Rattle.std.proofs.Common.{◌≡◌, ℕ, Bool, true, false, List, [], ◌∷◌, Option, Some, None, option_map, refl, sym, ap, ◌∙◌, arith}
use Rattle.std.specs.List.{Contains}
use Rattle.std.proofs.lemmas.Bool.{true≢false}
use Rattle.pte.specs.declared.scheme.Scheme.{Scheme}
use Rattle.watch.specs.declared.trace.Claim.{Claim}
use Rattle.watch.specs.declared.trace.Record.{Record}
use Rattle.watch.specs.declared.trace.Record.TheVariants.{GiveOut, GiveBack, ClaimEnd, Use}
use Rattle.watch.specs.declared.trace.Verdict.{Verdict}
use Rattle.watch.specs.declared.trace.Verdict.TheVariants.{Free, Reuse, Claimed, Used}
use Rattle.watch.specs.Holding.{Translation}
use Rattle.watch.specs.Verdicts.{IsGiven}
use Rattle.watch_engine.specs.declared.warning.Warning.{Warning}
use Rattle.watch_engine.specs.Open.{claim_begun}
use Rattle.watch_engine.specs.Warnings.{AreWarnings, shown_of}
use Rattle.watch_report.specs.declared.warning.Trigger.{Trigger}
use Rattle.watch_report.specs.declared.warning.Trigger.TheVariants.{ClaimedSince}
use Rattle.watch_report.specs.TraceText.{Noted, line_at, trace_of}
use Rattle.watch_report.specs.Warnings.{verdict_of}
use Rattle.watch_report.specs.VerdictLines.{trigger_of}

-- the verdict that is printed, if one is
abbrev printed_verdict : Verdict → Option Trigger → Verdict
printed_verdict other None = other
printed_verdict other (Some trigger) = verdict_of trigger

-- it is the one that is given, whatever other one there is
free_printed : (scheme : Scheme) (newest : Record) (records : List Noted) (hart : ℕ) (x : Translation) (other : Verdict) → IsGiven scheme Free newest (trace_of records) hart x → printed_verdict other (trigger_of records newest) ≡ Free
free_printed scheme (GiveBack of frames) records hart x other given = refl
free_printed scheme _ records hart x other given = absurd given

reuse_printed : (scheme : Scheme) (newest : Record) (records : List Noted) (hart : ℕ) (x : Translation) (other : Verdict) → IsGiven scheme Reuse newest (trace_of records) hart x → printed_verdict other (trigger_of records newest) ≡ Reuse
reuse_printed scheme (GiveOut of frames) records hart x other given = refl
reuse_printed scheme _ records hart x other given = absurd given

claim_printed : (scheme : Scheme) (newest : Record) (records : List Noted) (hart : ℕ) (x : Translation) (other : Verdict) → IsGiven scheme Claimed newest (trace_of records) hart x → printed_verdict other (trigger_of records newest) ≡ Claimed
claim_printed scheme (ClaimEnd of token) records hart x other given =
    ap (λ (o : Option Claim). printed_verdict other (option_map (λ _. ClaimedSince (line_at records (claim_begun token (trace_of records)))) o)) given.begun
claim_printed scheme _ records hart x other given = absurd given

use_printed : (scheme : Scheme) (newest : Record) (records : List Noted) (hart : ℕ) (x : Translation) (other : Verdict) → IsGiven scheme Used newest (trace_of records) hart x → printed_verdict other (trigger_of records newest) ≡ Used
use_printed scheme (Use of address) records hart x other given = refl
use_printed scheme _ records hart x other given = absurd given

given_printed : (scheme : Scheme) (verdict : Verdict) (newest : Record) (records : List Noted) (hart : ℕ) (x : Translation) (other : Verdict) → IsGiven scheme verdict newest (trace_of records) hart x
    → printed_verdict other (trigger_of records newest) ≡ verdict
given_printed scheme Free newest records hart x other given = free_printed scheme newest records hart x other given
given_printed scheme Reuse newest records hart x other given = reuse_printed scheme newest records hart x other given
given_printed scheme Claimed newest records hart x other given = claim_printed scheme newest records hart x other given
given_printed scheme Used newest records hart x other given = use_printed scheme newest records hart x other given

abbrev is_free : Verdict → Bool
is_free Free = true
is_free _ = false

-- at a record of which nothing is printed none is given: it would be any verdict
pub none_given : (scheme : Scheme) (verdict : Verdict) (newest : Record) (records : List Noted) (hart : ℕ) (x : Translation) → trigger_of records newest ≡ None → IsGiven scheme verdict newest (trace_of records) hart x → ⊥
none_given scheme verdict newest records hart x none given =
    let by : (other : Verdict) → other ≡ verdict =
    λ other. ap (printed_verdict other) (sym none) ∙ given_printed scheme verdict newest records hart x other given in
    true≢false (ap is_free (by Free ∙ sym (by Used)))

pub no_warning : (scheme : Scheme) (newest : Record) (records : List Noted) (warnings : List Warning) → AreWarnings scheme newest (trace_of records) warnings → trigger_of records newest ≡ None → warnings ≡ []
no_warning scheme newest records [] are none = refl
no_warning scheme newest records (w ∷ warnings) are none =
    absurd (none_given scheme w.verdict newest records w.hart (shown_of w) none (are.each w (0, omega arith, refl)).0.given)

pub same_verdict : (scheme : Scheme) (newest : Record) (records : List Noted) (warnings : List Warning) (trigger : Trigger) (w : Warning) → AreWarnings scheme newest (trace_of records) warnings → trigger_of records newest ≡ Some trigger
    → Contains warnings w → w.verdict ≡ verdict_of trigger
same_verdict scheme newest records warnings trigger w are is among =
    sym (given_printed scheme w.verdict newest records w.hart (shown_of w) Free (are.each w among).0.given) ∙ ap (printed_verdict Free) is
