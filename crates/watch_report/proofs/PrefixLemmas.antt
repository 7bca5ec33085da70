-- The records that were read for a story.
use Rattle.std.proofs.Common.{◌≡◌, ◌==◌, ℕ, ◌+◌, ◌<◌, Bool, true, false, List, [], ◌∷◌, ◌++◌, get_or, length, reverse, Option, Some, None, cond, option_map, refl, sym, ap, subst, ◌∙◌, arith}
use Rattle.std.specs.List.{filter as kept_by}
use Rattle.std.specs.List.Sorted.{IsPermutation}
use Rattle.std.proofs.lemmas.Grind.{reverse_onto}
use Rattle.pte.specs.declared.scheme.Scheme.{Scheme}
use Rattle.watch.specs.declared.trace.Claim.{Claim}
use Rattle.watch.specs.declared.trace.Record.{Record}
use Rattle.watch.specs.declared.trace.Record.TheVariants.{ClaimBegin, ClaimEnd}
use Rattle.watch.specs.Trace.{Trace, claim_of}
use Rattle.watch.specs.WorkedTraces.{recorded, trace_of as made_from}
use Rattle.watch_causes.specs.declared.stories.Part.{Part}
use Rattle.watch_causes.specs.Stories.{IsDueAt, IsStory}
use Rattle.watch_engine.specs.declared.warning.Warning.{Warning}
use Rattle.watch_engine.specs.Open.{claim_begun}
use Rattle.watch_engine.specs.Warnings.{AreWarnings}
use Rattle.watch_report.specs.declared.filter.Filter.{Filter}
use Rattle.watch_report.specs.declared.header.Header.{Header}
use Rattle.watch_report.specs.declared.warning.Trigger.{Trigger}
use Rattle.watch_report.specs.declared.warning.Trigger.TheVariants.{ClaimedSince}
use Rattle.watch_report.specs.Explaining.{Asked, IsTold, made_in}
use Rattle.watch_report.specs.Filters.{AreTakenAt, takes}
use Rattle.watch_report.specs.Orders.{IsInOrder}
use Rattle.watch_report.specs.Prefix.{IsFirst, begun_after, first_of, open_claim}
use Rattle.watch_report.specs.StoryTexts.{story_text}
use Rattle.watch_report.specs.TraceText.{Noted, line_at, trace_of}
use Rattle.watch_report.specs.VerdictLines.{GivesAt, claim_trigger, trigger_of}
use Rattle.watch_report.proofs.FilterLaws.{taken_at}
use Rattle.watch_report.proofs.OrderLemmas.{kept_in_order, warnings_in_order}
use Rattle.watch_report.proofs.TriggerLaws.{none_given}
use Rattle.watch_report.proofs.VerdictLemmas.{given_is_some}

-- ---- records in their order, and the trace that they are

recorded-append : (before : Trace) (xs ys : List Record) → recorded before (xs ++ ys) ≡ recorded (recorded before xs) ys
recorded-append before [] ys = refl
recorded-append before (x ∷ xs) ys = recorded-append (x ∷ before) xs ys

pub recorded-more : (xs : List Record) (newest : Record) → made_from (xs ++ newest ∷ []) ≡ newest ∷ made_from xs
recorded-more xs newest = recorded-append [] xs (newest ∷ [])

length-recorded : (before : Trace) (xs : List Record) → length (recorded before xs) ≡ length xs + length before
length-recorded before [] = omega arith
length-recorded before (x ∷ xs) = omega (arith, length-recorded (x ∷ before) xs)

pub length-made : (xs : List Record) → length (made_from xs) ≡ length xs
length-made xs = omega (arith, length-recorded [] xs)

recorded-reverse : (trace : Trace) → made_from (reverse trace) ≡ trace
recorded-reverse [] = refl
recorded-reverse (newest ∷ trace) =
    ap made_from (reverse_onto trace newest []) ∙ recorded-more (reverse trace) newest ∙ ap (λ (t : Trace). newest ∷ t) (recorded-reverse trace)

pub trace_made : (records : List Noted) → made_from (made_in records) ≡ trace_of records
trace_made records = recorded-reverse (trace_of records)

pub made_more : (records : List Noted) (newest : Noted) → made_in records ++ newest.made ∷ [] ≡ made_in (newest ∷ records)
made_more records newest = sym (reverse_onto (trace_of records) newest.made [])

-- ---- claims

begun_by : (b : Bool) (claim : Claim) (old : Option Claim) (n k : ℕ) → cond b (Some n) (option_map (λ _. k) old) ≡ option_map (λ _. cond b n k) (cond b (Some claim) old)
begun_by true claim old n k = refl
begun_by false claim old n k = refl

ended_by : (b : Bool) (old : Option Claim) (k : ℕ) → cond b None (option_map (λ _. k) old) ≡ option_map (λ _. k) (cond b None old)
ended_by true old k = refl
ended_by false old k = refl

open_next : (token : ℕ) (newest : Record) (trace : Trace) → begun_after token newest (length (newest ∷ trace)) (open_claim token trace) ≡ open_claim token (newest ∷ trace)
open_next token (ClaimBegin hart of claim) trace =
    begun_by (of == token) claim (claim_of trace token) (length (ClaimBegin hart of claim ∷ trace)) (claim_begun token trace)
open_next token (ClaimEnd hart of) trace = ended_by (of == token) (claim_of trace token) (claim_begun token trace)
open_next token _ trace = refl

pub open_more : (token : ℕ) (xs : List Record) (newest : Record) (number : ℕ) (begun new : Option ℕ) → number ≡ length xs + 1 → begun ≡ open_claim token (made_from xs) → new ≡ begun_after token newest number begun
    → new ≡ open_claim token (made_from (xs ++ newest ∷ []))
open_more token xs newest number begun new e is after =
    let long : number ≡ length (newest ∷ made_from xs) = omega (arith, e, length-made xs) in
    after ∙ (λ j. begun_after token newest (long j) (is j)) ∙ open_next token newest (made_from xs) ∙ ap (open_claim token) (sym (recorded-more xs newest))

trigger_by : (records : List Noted) (o : Option Claim) (k : ℕ) → option_map (λ n. ClaimedSince (line_at records n)) (option_map (λ _. k) o) ≡ option_map (λ _. ClaimedSince (line_at records k)) o
trigger_by records None k = refl
trigger_by records (Some claim) k = refl

-- the trigger of a claim that ends, by what is open of the records
pub claim_is : (records : List Noted) (token : ℕ) (made : List Record) (begun : Option ℕ) → made_from made ≡ trace_of records → begun ≡ open_claim token (made_from made)
    → option_map (λ n. ClaimedSince (line_at records n)) begun ≡ claim_trigger records token
claim_is records token made begun same is =
    ap (option_map (λ n. ClaimedSince (line_at records n))) (is ∙ ap (open_claim token) same) ∙ trigger_by records (claim_of (trace_of records) token) (claim_begun token (trace_of records))

pub trace_more : (records : List Noted) (newest : Noted) (made : List Record) → made ≡ made_in records ++ newest.made ∷ [] → made_from made ≡ trace_of (newest ∷ records)
trace_more records newest made e = ap made_from (e ∙ made_more records newest) ∙ trace_made (newest ∷ records)

-- ---- the verdict that is told

pub none_at : (filter : Filter) (scheme : Scheme) (newest : Record) (records : List Noted) → trigger_of records newest ≡ None → ¬ GivesAt filter scheme newest (trace_of records)
none_at filter scheme newest records none gives = none_given scheme gives.0 newest records gives.1 gives.2 none gives.3.given

pub none_first : (warnings : List Warning) → length warnings ≡ 0 → None ≡ first_of warnings
none_first [] e = refl
none_first (w ∷ warnings) e = absurd (omega (arith, e))

pub some_first : (warnings : List Warning) (d : Warning) → 0 < length warnings → Some (get_or warnings 0 d) ≡ first_of warnings
some_first [] d some = absurd (omega (arith, some))
some_first (w ∷ warnings) d some = refl

by_kept : (filter : Filter) (scheme : Scheme) (newest : Record) (trace : Trace) (ordered kept : List Warning) → AreWarnings scheme newest trace ordered → IsInOrder ordered → kept ≡ kept_by (takes filter) ordered
    → IsFirst filter scheme newest trace (first_of kept)
by_kept filter scheme newest trace ordered [] are order is =
    λ gives. omega (arith, ap length is, given_is_some filter scheme newest trace ordered are gives)
by_kept filter scheme newest trace ordered (w ∷ others) are order is =
    (others, subst (AreTakenAt filter scheme newest trace) (sym is) (taken_at filter scheme newest trace ordered are), subst IsInOrder (sym is) (kept_in_order (takes filter) ordered order))

pub first_is : (filter : Filter) (scheme : Scheme) (newest : Record) (trace : Trace) (given ordered kept : List Warning) (first : Option Warning) → AreWarnings scheme newest trace given → IsPermutation given ordered
    → IsInOrder ordered → kept ≡ kept_by (takes filter) ordered → first ≡ first_of kept → IsFirst filter scheme newest trace first
first_is filter scheme newest trace given ordered kept first are shuffled order is e =
    subst (IsFirst filter scheme newest trace) (sym e) (by_kept filter scheme newest trace ordered kept (warnings_in_order scheme newest trace given ordered shuffled are) order is)

pub due_first : (filter : Filter) (scheme : Scheme) (newest : Noted) (records : List Noted) (first : Warning) → IsFirst filter scheme newest.made (trace_of records) (Some first) → IsDueAt scheme (trace_of (newest ∷ records)) first
due_first filter scheme newest records first is =
    let each = is.1.each first (0, omega arith, refl) in
    (each.0, each.1)

pub story_is_told : (asked : Asked) (header : Header) (newest : Noted) (records : List Noted) (trigger : Trigger) (first : Warning) (parts : List Part) (text : List ℕ) → trigger_of records newest.made ≡ Some trigger
    → IsFirst asked.filter header.scheme newest.made (trace_of records) (Some first) → IsStory header.scheme (made_in (newest ∷ records)) first parts → text ≡ story_text asked.file header trigger newest records first parts
    → IsTold asked header newest records text
story_is_told asked header newest records trigger first parts text acts is story e =
    record {
      trigger = trigger;
      acts = acts;
      first = first;
      others = is.0;
      taken = is.1;
      order = is.2;
      due = due_first asked.filter header.scheme newest records first is;
      parts = parts;
      story = story;
      is = e;
    }
