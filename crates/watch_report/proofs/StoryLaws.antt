-- The text of a story reads as a trace of its records.
use Rattle.std.proofs.Common.{◌≡◌, ℕ, ◌+◌, ◌≤◌, Bool, true, false, ◌&&◌, ◌||◌, nat_le, nat_lt, List, [], ◌∷◌, ◌++◌, codes, drop, get_or, length, map, Option, Some, is_none, Ok, refl, sym, ap, subst, ◌∙◌, arith, append_assoc}
use Rattle.std.specs.Fmt.{decimal}
use Rattle.std.specs.List.{AllByRecursion, before_first, join_with_byte, list_any, position_or_len}
use Rattle.std.proofs.lemmas.Bool.{true≢false}
use Rattle.std.proofs.lemmas.Bool.Decides.{nat_tests}
use Rattle.std.proofs.lemmas.Fmt.{decimal_is_IsNumeral, length-decimal-le}
use Rattle.std.proofs.lemmas.List.{take_all}
use Rattle.std.proofs.lemmas.List.Elements.{All-from_recursion}
use Rattle.std.proofs.lemmas.List.Splits.{slice_split_at}
use Rattle.pte.specs.declared.scheme.Scheme.{Scheme}
use Rattle.pte.specs.declared.scheme.Scheme.TheVariants.{Sv39, Sv48}
use Rattle.watch.specs.Trace.{Trace}
use Rattle.watch.specs.WorkedTraces.{recorded}
use Rattle.watch_causes.specs.declared.stories.Part.{Part}
use Rattle.watch_causes.specs.Findings.{finding_of}
use Rattle.watch_causes.specs.Stories.{IsDueAt, IsStory, in_story, told}
use Rattle.watch_engine.specs.declared.warning.Warning.{Warning}
use Rattle.watch_report.specs.declared.header.Header.{Header}
use Rattle.watch_report.specs.declared.warning.Trigger.{Trigger}
use Rattle.watch_report.specs.Explaining.{made_in}
use Rattle.watch_report.specs.Fields.{fields_of, number_field}
use Rattle.watch_report.specs.ReadStories.{HasNoFeed, HaveLines, HaveNoFeed, IsPrintable}
use Rattle.watch_report.specs.RecordLines.{note_text, record_text}
use Rattle.watch_report.specs.StoryTexts.{header_text, parts_text, role_text, scheme_text, story_text}
use Rattle.watch_report.specs.TraceLines.{LineText, comment, hart_count_field, header_in, line_in}
use Rattle.watch_report.specs.TraceText.{Noted, body_of, has_no_form, header_of, is_feed, line_at, lines_of, note_at, or_line, records_after, records_of, said_first, trace_of, with_record}
use Rattle.watch_report.specs.VerdictLines.{printed_of}
use Rattle.watch_report.specs.Warnings.{place_text, trigger_text, by_text, verdict_part, holder_part, since_part}
use Rattle.watch_report.proofs.NoFeeds.{Quiet, ◌⊕◌, body_quiet, body_text, header_quiet, note_quiet, noted_by, place_quiet, record_quiet, role_quiet, word}
use Rattle.watch_report.proofs.Numerals.{number_field-numeral}
use Rattle.watch_report.proofs.PrintedLines.{ArePlain, fields_of-joined, some_bytes}
use Rattle.watch_report.proofs.PrintedNumbers.{IsPlain, plain_digits}
use Rattle.watch_report.proofs.PrintedRecords.{printed_is_read}
use Rattle.watch_report.proofs.ReadLemmas.{passes}

-- ---- its lines

no_feeds : (text : List ℕ) → HasNoFeed text → AllByRecursion (λ byte. is_feed byte ≡ false) text
no_feeds [] none = tt
no_feeds (byte ∷ text) none =
    let parts = neither (is_feed byte) (list_any is_feed text) none in
    (parts.0, no_feeds text parts.1)
  where
    neither : (a b : Bool) → (a || b) ≡ false → (a ≡ false) × (b ≡ false)
    neither false b e = (refl, e)
    neither true b e = absurd (true≢false e)

line_first : (line rest : List ℕ) → Quiet line → lines_of (line ++ 10 ∷ rest) ≡ line ∷ lines_of rest
line_first line rest q = slice_split_at is_feed line 10 rest (All-from_recursion (λ byte. is_feed byte ≡ false) line (no_feeds line q.none)) refl

abbrev part_comment : List ℕ → List Noted → Warning → Part → List ℕ
part_comment file records w part = codes "# " ++ place_text file (line_at records part.number) ++ role_text w part.made part.role

abbrev part_line : Scheme → List Noted → Part → List ℕ
part_line scheme records part = record_text scheme part.made ++ note_text (note_at records part.number)

abbrev lines_told : List ℕ → Scheme → List Noted → Warning → List Part → List (List ℕ)
lines_told file scheme records w [] = [] ∷ []
lines_told file scheme records w (part ∷ parts) =
    part_comment file records w part ∷ part_line scheme records part ∷ lines_told file scheme records w parts

two_lines : (h p r t n rest : List ℕ) → (h ++ p ++ r ++ codes "\n" ++ t ++ n ++ codes "\n") ++ rest ≡ (h ++ p ++ r) ++ 10 ∷ ((t ++ n) ++ 10 ∷ rest)
two_lines h p r t n rest = simp append_assoc

part_lines : (file : List ℕ) (scheme : Scheme) (records : List Noted) (w : Warning) (parts : List Part) → HasNoFeed file → HaveNoFeed records → lines_of (parts_text file scheme records w parts) ≡ lines_told file scheme records w parts
part_lines file scheme records w [] f notes = refl
part_lines file scheme records w (part ∷ parts) f notes =
    let one : Quiet (part_comment file records w part) = word (codes "# ") refl ⊕ place_quiet file (line_at records part.number) (word file f) ⊕ role_quiet w part.made part.role in
    let two : Quiet (part_line scheme records part) = record_quiet scheme part.made ⊕ note_quiet (note_at records part.number) (noted_by records part.number notes) in
    let rest = parts_text file scheme records w parts in
    ap lines_of (two_lines (codes "# ") (place_text file (line_at records part.number)) (role_text w part.made part.role) (record_text scheme part.made) (note_text (note_at records part.number)) rest)
    ∙ line_first (part_comment file records w part) (part_line scheme records part ++ 10 ∷ rest) one
    ∙ ap (λ (l : List (List ℕ)). part_comment file records w part ∷ l) (line_first (part_line scheme records part) rest two)
    ∙ ap (λ (l : List (List ℕ)). part_comment file records w part ∷ part_line scheme records part ∷ l) (part_lines file scheme records w parts f notes)

head_lines : (h m a b c t y rest : List ℕ) → (h ++ (10 ∷ m) ++ (a ++ b ++ c ++ (t ++ y ++ codes "\n"))) ++ rest ≡ h ++ 10 ∷ ((m ++ (a ++ b ++ c ++ (t ++ y))) ++ 10 ∷ rest)
head_lines h m a b c t y rest = simp append_assoc

plain_scheme : (scheme : Scheme) → IsPlain (scheme_text scheme)
plain_scheme Sv39 = ((refl, refl), ((refl, refl), ((refl, refl), ((refl, refl), tt))))
plain_scheme Sv48 = ((refl, refl), ((refl, refl), ((refl, refl), ((refl, refl), tt))))

joins : (n s : List ℕ) → codes "watch 1 " ++ n ++ codes " " ++ s ≡ join_with_byte 32 (codes "watch" ∷ codes "1" ∷ n ∷ s ∷ [])
joins n s = simp append_assoc

module _ (file : List ℕ) (header : Header) (trigger : Trigger) (newest : Noted) (records : List Noted) (w : Warning) (parts : List Part) (is : IsPrintable file header newest records parts) where
  abbrev all : List Noted
  all = newest ∷ records

  abbrev stale_by : List ℕ
  stale_by = note_at records w.stale_since

  abbrev first_comment : List ℕ
  first_comment = codes "# " ++ body_text file (printed_of trigger newest records w) stale_by newest.by

  story_lines : lines_of (story_text file header trigger newest records w parts) ≡ header_text header ∷ first_comment ∷ lines_told file header.scheme all w parts
  story_lines =
      let p = printed_of trigger newest records w in
      let rest = parts_text file header.scheme all w parts in
      let one : Quiet first_comment = word (codes "# ") refl ⊕ body_quiet file p stale_by newest.by (word file is.name) (noted_by records w.stale_since is.notes.1) (word newest.by is.notes.0) in
      ap lines_of (head_lines (header_text header) (codes "# ") (verdict_part file p) (holder_part p) (since_part p stale_by) (trigger_text p.hart p.trigger) (by_text newest.by) rest)
      ∙ line_first (header_text header) (first_comment ++ 10 ∷ rest) (header_quiet header)
      ∙ ap (λ (l : List (List ℕ)). header_text header ∷ l) (line_first first_comment rest one)
      ∙ ap (λ (l : List (List ℕ)). header_text header ∷ first_comment ∷ l) (part_lines file header.scheme all w parts is.name is.notes)

  -- ---- the first line

  abbrev header_fields : List (List ℕ)
  header_fields = codes "watch" ∷ codes "1" ∷ decimal header.harts ∷ scheme_text header.scheme ∷ []

  fields_there : fields_of (header_text header) ≡ header_fields
  fields_there =
      let numeral = decimal_is_IsNumeral header.harts (omega (arith, is.most)) in
      let plain : ArePlain header_fields = (
        ((refl, refl), ((refl, refl), ((refl, refl), ((refl, refl), ((refl, refl), tt))))),
        (((refl, refl), tt), (plain_digits 10 (decimal header.harts) (omega arith) numeral.0.1, (plain_scheme header.scheme, tt))),
      ) in
      ap fields_of (joins (decimal header.harts) (scheme_text header.scheme)) ∙ fields_of-joined (codes "watch") (codes "1" ∷ decimal header.harts ∷ scheme_text header.scheme ∷ []) plain

  harts_are_read : hart_count_field (decimal header.harts) ≡ Some header.harts
  harts_are_read =
      let n : ℕ = header.harts in
      let is_numeral = decimal_is_IsNumeral n (omega (arith, is.most)) in
      let short : length (decimal n) ≤ 16 = length-decimal-le 16 n (omega arith) (omega arith) (omega (arith, is.most)) in
      let number : number_field 10 (decimal n) ≡ Some n = number_field-numeral 10 (decimal n) is_numeral.0.0 short is_numeral.0.1 ∙ ap Some is_numeral.1 in
      let within : (nat_lt 0 n && nat_le n 64) ≡ true = (let some = is.some in let most = is.most in grind (arith, nat_tests)) in
      rw (number, within) refl

  header_by : (scheme : Scheme) (harts : ℕ) (count : List ℕ) → hart_count_field count ≡ Some harts → header_in (codes "watch" ∷ codes "1" ∷ count ∷ scheme_text scheme ∷ []) ≡ Some (record { harts = harts; scheme = scheme })
  header_by Sv39 harts count e = rw e refl
  header_by Sv48 harts count e = rw e refl

  pub header_is_read : header_of (story_text file header trigger newest records w parts) ≡ Ok header
  header_is_read =
      ap (λ (lines : List (List ℕ)). said_first (get_or lines 0 [])) story_lines
      ∙ ap (or_line (header_text header)) (ap header_in fields_there ∙ header_by header.scheme header.harts (decimal header.harts) harts_are_read)

  -- ---- the records

  comment_said : (text : List ℕ) → line_in header (35 ∷ text) ≡ Some comment
  comment_said text = rw (some_bytes 35 text) refl

  abbrev Formed : List (List ℕ) → Type 0
  Formed lines = AllByRecursion (λ line. has_no_form header line ≡ false) lines

  all_formed : (some : List Part) → HaveLines header some → Formed (lines_told file header.scheme all w some)
  all_formed [] lines = (refl, tt)
  all_formed (part ∷ some) lines = (
    ap is_none (comment_said (32 ∷ [] ++ place_text file (line_at all part.number) ++ role_text w part.made part.role)),
    (ap is_none (printed_is_read header part.made (note_at all part.number) is.most lines.0 lines.1), all_formed some lines.2),
  )

  place_behind : (lines : List (List ℕ)) → Formed lines → position_or_len (has_no_form header) lines ≡ length lines
  place_behind [] formed = refl
  place_behind (line ∷ lines) formed = passes (has_no_form header) line lines formed.0 ∙ omega (arith, place_behind lines formed.1)

  all_before : (lines : List (List ℕ)) → Formed lines → before_first (has_no_form header) lines ≡ lines
  all_before lines formed = take_all (position_or_len (has_no_form header) lines) lines (omega (arith, place_behind lines formed))

  made_there : (some : List Part) (number : ℕ) (before : List Noted) → HaveLines header some → trace_of (records_after header number before (lines_told file header.scheme all w some)) ≡ recorded (trace_of before) (map (λ (p : Part). p.made) some)
  made_there [] number before lines = refl
  made_there (part ∷ some) number before lines =
      let by : List ℕ = note_at all part.number in
      let one = comment_said (32 ∷ [] ++ place_text file (line_at all part.number) ++ role_text w part.made part.role) in
      let two = printed_is_read header part.made by is.most lines.0 lines.1 in
      let rest = lines_told file header.scheme all w some in
      (λ j. trace_of (records_after header (number + 1 + 1) (with_record (two j) (number + 1) (with_record (one j) number before)) rest))
      ∙ made_there some (number + 1 + 1) (record { made = part.made; by = by; line = number + 1 } ∷ before) lines.2

  pub records_are_read : trace_of (records_of header (body_of (story_text file header trigger newest records w parts))) ≡ told parts
  records_are_read =
      let rest = lines_told file header.scheme all w parts in
      let formed : Formed (first_comment ∷ rest) = (ap is_none (comment_said (drop 1 first_comment)), all_formed parts is.lines) in
      ap (λ (lines : List (List ℕ)). trace_of (records_of header (drop 1 lines))) story_lines
      ∙ ap (λ (lines : List (List ℕ)). trace_of (records_after header 2 [] lines)) (all_before (first_comment ∷ rest) formed)
      ∙ ap (λ (said : Option LineText). trace_of (records_after header 3 (with_record said 2 []) rest)) (comment_said (drop 1 first_comment))
      ∙ made_there parts 3 [] is.lines

  pub verdict_is_given : IsStory header.scheme (made_in all) w parts
      → (alone : Warning) × (alone.verdict ≡ w.verdict) × (alone.entry.ppn ≡ w.entry.ppn) × (finding_of (in_story parts alone) ≡ finding_of w) × IsDueAt header.scheme (trace_of (records_of header (body_of (story_text file header trigger newest records w parts)))) alone
  verdict_is_given story =
      let alone : Warning = story.gives.alone in
      (alone, story.gives.verdict, story.gives.frames, story.gives.finding, subst (λ (t : Trace). IsDueAt header.scheme t alone) (sym records_are_read) story.gives.due)

pub ruleset story_laws = (header_is_read, records_are_read, verdict_is_given)
