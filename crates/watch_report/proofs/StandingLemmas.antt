-- Each record stands on its line.
use Rattle.std.proofs.Common.{◌≡◌, ℕ, ◌+◌, ◌-◌, ◌≤◌, zero, suc, List, [], ◌∷◌, ◌++◌, length, get_or, take, drop, Option, Some, None, refl, sym, ap, subst, ◌∙◌, arith, append_assoc, length-append}
use Rattle.std.specs.List.{Contains, position_or_len}
use Rattle.std.proofs.lemmas.List.{get_or_at, take-append-drop}
use Rattle.watch_report.specs.declared.header.Header.{Header}
use Rattle.watch_report.specs.TraceLines.{LineText, comment, empty, line_in, mark_of, record_of}
use Rattle.watch_report.specs.TraceText.{Noted, StandsOnLine, has_no_form, records_after, records_of, with_record}

abbrev AllStand : Header → List (List ℕ) → List Noted → Type 0
AllStand header all [] = Unit {0}
AllStand header all (r ∷ records) = StandsOnLine header all r × AllStand header all records

one_stands : (header : Header) (all : List (List ℕ)) (records : List Noted) → AllStand header all records → (r : Noted) → Contains records r → StandsOnLine header all r
one_stands header all [] stand r (k, less, is) = absurd (omega (arith, less))
one_stands header all (newest ∷ records) stand r (zero, less, is) = subst (StandsOnLine header all) is stand.0
one_stands header all (newest ∷ records) stand r (suc k, less, is) = one_stands header all records stand.1 r (k, omega (arith, less), is)

more_stand : (header : Header) (all : List (List ℕ)) (line : List ℕ) (number : ℕ) (records : List Noted) (said : Option LineText) → line_in header line ≡ said → 2 ≤ number → get_or all (number - 2) [] ≡ line
    → AllStand header all records → AllStand header all (with_record said number records)
more_stand header all line number records (Some (record_of made by)) is least at stand = ((least, ap (line_in header) at ∙ is), stand)
more_stand header all line number records (Some (mark_of text)) is least at stand = stand
more_stand header all line number records (Some comment) is least at stand = stand
more_stand header all line number records (Some empty) is least at stand = stand
more_stand header all line number records None is least at stand = stand

all_stand : (header : Header) (all front lines back : List (List ℕ)) (number : ℕ) (records : List Noted) → all ≡ front ++ (lines ++ back) → number ≡ length front + 2 → AllStand header all records
    → AllStand header all (records_after header number records lines)
all_stand header all front [] back number records e n stand = stand
all_stand header all front (line ∷ lines) back number records e n stand =
    let at : get_or all (number - 2) [] ≡ line =
    ap (λ (l : List (List ℕ)). get_or l (number - 2) []) e ∙ get_or_at front line (lines ++ back) [] (number - 2) (omega (arith, n)) in
    all_stand header all (front ++ line ∷ []) lines back (number + 1) (with_record (line_in header line) number records) (e ∙ sym (append_assoc front (line ∷ []) (lines ++ back)))
    (omega (arith, n, length-append front (line ∷ []))) (more_stand header all line number records (line_in header line) refl (omega (arith, n)) at stand)

pub each_stands : (header : Header) (lines : List (List ℕ)) (r : Noted) → Contains (records_of header lines) r → StandsOnLine header lines r
each_stands header lines =
    let n : ℕ = position_or_len (has_no_form header) lines in
    one_stands header lines (records_of header lines) (all_stand header lines [] (take n lines) (drop n lines) 2 [] (sym (take-append-drop n lines)) refl tt)
