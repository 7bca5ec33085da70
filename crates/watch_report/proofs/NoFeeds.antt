-- What is printed of a story has no line feed but at the ends of its lines.
use Rattle.std.proofs.Common.{◌≡◌, ℕ, zero, suc, ◌+◌, ◌/◌, ◌%◌, ◌==◌, ◌||◌, Bool, true, false, nat_lt, cond, List, [], ◌∷◌, ◌++◌, codes, length, Option, Some, None, refl, ◌∙◌, arith, ne_eqb, ap, sym, true≢false}
use Rattle.std.specs.Fmt.{decimal, digit_glyph, digits, digits_onto}
use Rattle.std.specs.List.{AllByRecursion, join_with_byte, list_any}
use Rattle.std.proofs.lemmas.List.Folds.{list_any-append}
use Rattle.pte.specs.Address.{bytes_of}
use Rattle.pte.specs.Entry.{is_user, may_execute, may_read, may_write}
use Rattle.pte.specs.declared.scheme.Scheme.{Scheme}
use Rattle.pte.specs.declared.scheme.Scheme.TheVariants.{Sv39, Sv48}
use Rattle.tlb.specs.declared.store.Entry.{Entry}
use Rattle.watch.specs.declared.trace.Frames.{Frames}
use Rattle.watch.specs.declared.trace.Record.{Record}
use Rattle.watch.specs.declared.trace.Record.TheVariants.{Store, Satp, Fence, RemoteBegin, RemoteEnd, GiveOut, GiveBack, ClaimBegin, ClaimEnd, Use}
use Rattle.watch.specs.declared.trace.Verdict.{Verdict}
use Rattle.watch.specs.declared.trace.Verdict.TheVariants.{Free, Reuse, Claimed, Used}
use Rattle.watch_causes.specs.declared.reason.Reason.{Reason}
use Rattle.watch_causes.specs.declared.reason.Reason.TheVariants.{OtherHarts, OtherSpaces, OtherPages}
use Rattle.watch_causes.specs.declared.role.Role.{Role}
use Rattle.watch_causes.specs.declared.role.Role.TheVariants.{Maps, Enters, Leaves, Drops, AsksEarly, MakesStale, Misses, BeginsFlush, EndsFlush, GivesBack, GivesOut, Uses, Other}
use Rattle.watch_engine.specs.declared.warning.Warning.{Warning as WarningOf}
use Rattle.watch_report.specs.declared.header.Header.{Header}
use Rattle.watch_report.specs.declared.warning.Trigger.{Trigger}
use Rattle.watch_report.specs.declared.warning.Trigger.TheVariants.{GivenBack, GivenOut, ClaimedSince, UsedAt}
use Rattle.watch_report.specs.declared.warning.Warning.{Warning}
use Rattle.watch_report.specs.ReadStories.{HasNoFeed, HaveNoFeed}
use Rattle.watch_report.specs.ShownNotes.{escaped, is_plain, shown_note}
use Rattle.watch_report.specs.RecordLines.{note_text, optional_text, record_fields, record_text, satp_word, range_size, range_start}
use Rattle.watch_report.specs.StoryTexts.{entered_text, fence_text, hart_text, header_text, miss_text, missed_space, role_text, scheme_text, use_text}
use Rattle.watch_report.specs.TraceText.{Noted, is_feed, note_at}
use Rattle.watch_report.specs.Warnings.{by_text, entry_text, frames_text, hexadecimal, holder_part, letter_or_dash, letters_text, owner_prefix, place_text, scoped_text, since_part, trigger_text, verdict_part, verdict_of, verdict_text}

pub record Quiet (text : List ℕ) : Type 0 where
  pub none : HasNoFeed text

pub word : (text : List ℕ) → HasNoFeed text → Quiet text
word text none = record { none = none }

pub either : (a b : Bool) → a ≡ false → b ≡ false → (a || b) ≡ false
either a b e f = rw (e, f) refl

infixl 5 ◌⊕◌
pub ◌⊕◌ : {a b : List ℕ} → Quiet a → Quiet b → Quiet (a ++ b)
◌⊕◌ {a} {b} p q = record { none = list_any-append is_feed a b ∙ either (list_any is_feed a) (list_any is_feed b) p.none q.none }

-- ---- numbers

pub no_glyph : (b : Bool) (d : ℕ) → cond b (48 + d) (87 + d) ≡ 10 → ⊥
no_glyph true d e = omega (arith, e)
no_glyph false d e = omega (arith, e)

one_more : (d : ℕ) (written : List ℕ) → HasNoFeed written → HasNoFeed (digit_glyph false d ∷ written)
one_more d written none = either (is_feed (digit_glyph false d)) (list_any is_feed written) (ne_eqb (digit_glyph false d) 10 (no_glyph (nat_lt d 10) d)) none

pub of_two : (b : Bool) (one two : List ℕ) → HasNoFeed one → HasNoFeed two → HasNoFeed (cond b one two)
of_two true one two p q = p
of_two false one two p q = q

onto : (k base n : ℕ) (written : List ℕ) → HasNoFeed written → HasNoFeed (digits_onto k base false n written)
onto zero base n written none = none
onto (suc k) base n written none =
    let more = one_more (n % base) written none in
    of_two (n / base == 0) (digit_glyph false (n % base) ∷ written) (digits_onto k base false (n / base) (digit_glyph false (n % base) ∷ written)) more (onto k base (n / base) (digit_glyph false (n % base) ∷ written) more)

number : (base n : ℕ) → Quiet (digits base false n)
unfolding digits
number base n = record { none = onto 64 base n [] refl }

pub dec : (n : ℕ) → Quiet (decimal n)
dec n = number 10 n

pub hex : (n : ℕ) → Quiet (hexadecimal n)
hex n = number 16 n

-- ---- notes

note_none : (records : List Noted) (n : ℕ) → HaveNoFeed records → HasNoFeed (note_at records n)
note_none [] n notes = refl
note_none (r ∷ records) n notes = of_two (n == length (r ∷ records)) r.by (note_at records n) notes.0 (note_none records n notes.1)

pub noted_by : (records : List Noted) (n : ℕ) → HaveNoFeed records → Quiet (note_at records n)
noted_by records n notes = word (note_at records n) (note_none records n notes)

-- a note is shown without one
shown_quiet : (note : List ℕ) → Quiet (shown_note note)
shown_quiet [] = word [] refl
shown_quiet (byte ∷ note) = byte_quiet (is_plain byte) refl ⊕ shown_quiet note
  where
    byte_quiet : (b : Bool) → is_plain byte ≡ b → Quiet (cond b (byte ∷ []) (escaped byte))
    byte_quiet true e = word (byte ∷ []) (either (is_feed byte) false (ne_eqb byte 10 (λ (is : byte ≡ 10). true≢false (sym e ∙ ap is_plain is))) refl)
    byte_quiet false e = word (escaped byte) (one_more (byte / 16) (digit_glyph false (byte % 16) ∷ []) (one_more (byte % 16) [] refl))

pub by_quiet : (by : List ℕ) → Quiet by → Quiet (by_text by)
by_quiet by q = cases (length by == 0)
  where
    cases : (b : Bool) → Quiet (cond b [] (codes " by " ++ shown_note by))
    cases true = word [] refl
    cases false = word (codes " by ") refl ⊕ shown_quiet by

pub note_quiet : (by : List ℕ) → Quiet by → Quiet (note_text by)
note_quiet by q = cases (length by == 0)
  where
    cases : (b : Bool) → Quiet (cond b [] (codes " @" ++ by))
    cases true = word [] refl
    cases false = word (codes " @") refl ⊕ q

-- ---- the verdict's line

pub place_quiet : (file : List ℕ) (line : ℕ) → Quiet file → Quiet (place_text file line)
place_quiet file line q = q ⊕ word (codes ":") refl ⊕ dec line ⊕ word (codes ": ") refl

letter : (b : Bool) (text : List ℕ) → Quiet text → Quiet (letter_or_dash b text)
letter true text q = q
letter false text q = word (codes "-") refl

pub letters : (global : Bool) (bits : ℕ) → Quiet (letters_text global bits)
letters global bits =
    letter (may_read bits) (codes "r") (word (codes "r") refl) ⊕ letter (may_write bits) (codes "w") (word (codes "w") refl)
    ⊕ letter (may_execute bits) (codes "x") (word (codes "x") refl) ⊕ letter (is_user bits) (codes "u") (word (codes "u") refl)
    ⊕ letter global (codes "g") (word (codes "g") refl)

scoped : (global : Bool) (n : ℕ) → Quiet (scoped_text global n)
scoped true n = word (codes "any") refl
scoped false n = hex n

entry : (e : Entry) → Quiet (entry_text e)
entry e =
    hex e.page.base ⊕ word (codes "+") refl ⊕ hex (bytes_of e.page.size) ⊕ word (codes " -> ") refl ⊕ hex e.ppn ⊕ word (codes " ") refl
    ⊕ letters e.global e.flags.0 ⊕ word (codes " asid ") refl ⊕ scoped e.global e.asid

owner : (global : Bool) → Quiet (owner_prefix global)
owner true = word (codes "kernel-") refl
owner false = word [] refl

pub verdict : (v : Verdict) → Quiet (verdict_text v)
verdict Free = word (codes "free") refl
verdict Reuse = word (codes "reuse") refl
verdict Claimed = word (codes "claim") refl
verdict Used = word (codes "use") refl

frames_quiet : (frames : Frames) → Quiet (frames_text frames)
frames_quiet frames = word (codes "frames ") refl ⊕ hex frames.first ⊕ word (codes "+") refl ⊕ hex frames.count

trigger_quiet : (hart : ℕ) (trigger : Trigger) → Quiet (trigger_text hart trigger)
trigger_quiet hart (GivenBack frames) = frames_quiet frames ⊕ word (codes " given back") refl
trigger_quiet hart (GivenOut frames) = frames_quiet frames ⊕ word (codes " given out") refl
trigger_quiet hart (ClaimedSince line) = word (codes "claimed clean since line ") refl ⊕ dec line
trigger_quiet hart (UsedAt address) = word (codes "hart ") refl ⊕ dec hart ⊕ word (codes " uses ") refl ⊕ hex address

-- without its end
abbrev pub body_text : List ℕ → Warning → List ℕ → List ℕ → List ℕ
body_text file w stale_by by =
    verdict_part file w ++ holder_part w ++ since_part w stale_by ++ (trigger_text w.hart w.trigger ++ by_text by)

pub body_quiet : (file : List ℕ) (w : Warning) (stale_by by : List ℕ) → Quiet file → Quiet stale_by → Quiet by → Quiet (body_text file w stale_by by)
body_quiet file w stale_by by f s b =
    let first : Quiet (verdict_part file w) = place_quiet file w.line f ⊕ owner w.entry.global ⊕ verdict (verdict_of w.trigger) ⊕ word (codes " hart ") refl in
    let second : Quiet (holder_part w) = dec w.hart ⊕ word (codes " may hold page ") refl ⊕ entry w.entry ⊕ word (codes " root ") refl in
    let third : Quiet (since_part w stale_by) = scoped w.entry.global w.root ⊕ word (codes ", stale since line ") refl ⊕ dec w.since ⊕ by_quiet stale_by s ⊕ word (codes "; ") refl in
    first ⊕ second ⊕ third ⊕ (trigger_quiet w.hart w.trigger ⊕ by_quiet by b)

-- ---- roles

hart_quiet : (hart : ℕ) → Quiet (hart_text hart)
hart_quiet hart = word (codes "hart ") refl ⊕ dec hart

fence_quiet : (made : Record) → Quiet (fence_text made)
fence_quiet (RemoteBegin hart token fence) = word (codes "a remote fence") refl
fence_quiet _ = word (codes "a fence") refl

space_quiet : (global : Bool) (asid : ℕ) → Quiet (missed_space global asid)
space_quiet true asid = word (codes " by ASID, and the page is global") refl
space_quiet false asid = word (codes ", not for asid ") refl ⊕ hex asid

miss_quiet : (w : WarningOf) (reason : Reason) → Quiet (miss_text w reason)
miss_quiet w OtherHarts = word (codes ", not for ") refl ⊕ hart_quiet w.hart
miss_quiet w OtherSpaces = space_quiet w.entry.global w.entry.asid
miss_quiet w OtherPages = word (codes ", not for page ") refl ⊕ hex w.entry.page.base
miss_quiet w _ = word (codes " for the page, not known to be done") refl

use_quiet : (made : Record) → Quiet (use_text made)
use_quiet (Use hart address) = hart_quiet hart ⊕ word (codes " uses ") refl ⊕ hex address
use_quiet _ = word (codes "another record") refl

entered_quiet : (global : Bool) → Quiet (entered_text global)
entered_quiet true = word (codes " enters an address space") refl
entered_quiet false = word (codes " enters the address space") refl

pub role_quiet : (w : WarningOf) (made : Record) (role : Role) → Quiet (role_text w made role)
role_quiet w made Maps = word (codes "a word on the way to the page") refl
role_quiet w made Enters = hart_quiet w.hart ⊕ entered_quiet w.entry.global
role_quiet w made Leaves = hart_quiet w.hart ⊕ word (codes " leaves the address space, and may keep the page") refl
role_quiet w made Drops = hart_quiet w.hart ⊕ word (codes " fences the page") refl
role_quiet w made AsksEarly = hart_quiet w.hart ⊕ word (codes " is asked to fence the page, before it is stale") refl
role_quiet w made MakesStale = word (codes "stale from here on") refl
role_quiet w made (Misses reason) = fence_quiet made ⊕ miss_quiet w reason
role_quiet w made BeginsFlush = word (codes "a flush begins") refl
role_quiet w made EndsFlush = word (codes "the flush returns") refl
role_quiet w made GivesBack = word (codes "frames are given back") refl
role_quiet w made GivesOut = word (codes "frames are given out") refl
role_quiet w made Uses = use_quiet made
role_quiet w made Other = word (codes "another record") refl

-- ---- records

optional : (o : Option ℕ) → Quiet (optional_text o)
optional None = word (codes "-") refl
optional (Some n) = hex n

joined : (fields : List (List ℕ)) → AllByRecursion Quiet fields → Quiet (join_with_byte 32 fields)
joined [] q = word [] refl
joined (field ∷ []) q = q.0
joined (field ∷ next ∷ fields) q = q.0 ⊕ (word (32 ∷ []) refl ⊕ joined (next ∷ fields) q.1)

fields_quiet : (scheme : Scheme) (made : Record) → AllByRecursion Quiet (record_fields scheme made)
fields_quiet scheme (Store hart address stored) = (word (codes "w") refl, (dec hart, (hex address, (hex stored, tt))))
fields_quiet scheme (Satp hart space) = (word (codes "s") refl, (dec hart, (hex (satp_word scheme space), tt)))
fields_quiet scheme (Fence hart rs1 rs2) = (word (codes "f") refl, (dec hart, (optional rs1, (optional rs2, tt))))
fields_quiet scheme (RemoteBegin hart token fence) =
    (word (codes "r") refl, (dec hart, (hex token, (hex fence.harts, (hex (range_start fence.range), (hex (range_size fence.range), (optional fence.asid, tt)))))))
fields_quiet scheme (RemoteEnd hart token) = (word (codes "e") refl, (dec hart, (hex token, tt)))
fields_quiet scheme (GiveOut hart frames) = (word (codes "a") refl, (dec hart, (hex frames.first, (hex frames.count, tt))))
fields_quiet scheme (GiveBack hart frames) = (word (codes "z") refl, (dec hart, (hex frames.first, (hex frames.count, tt))))
fields_quiet scheme (ClaimBegin hart token claim) =
    (word (codes "c") refl, (dec hart, (hex token, (optional claim.root, (hex (range_start claim.range), (hex (range_size claim.range), tt))))))
fields_quiet scheme (ClaimEnd hart token) = (word (codes "d") refl, (dec hart, (hex token, tt)))
fields_quiet scheme (Use hart address) = (word (codes "u") refl, (dec hart, (hex address, tt)))

pub record_quiet : (scheme : Scheme) (made : Record) → Quiet (record_text scheme made)
record_quiet scheme made = joined (record_fields scheme made) (fields_quiet scheme made)

-- ---- the header

scheme_quiet : (scheme : Scheme) → Quiet (scheme_text scheme)
scheme_quiet Sv39 = word (codes "sv39") refl
scheme_quiet Sv48 = word (codes "sv48") refl

pub header_quiet : (header : Header) → Quiet (header_text header)
header_quiet header = word (codes "watch 1 ") refl ⊕ dec header.harts ⊕ word (codes " ") refl ⊕ scheme_quiet header.scheme
