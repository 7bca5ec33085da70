-- Each object of JSON stands on a line of its own.
use Rattle.std.proofs.Common.{◌≡◌, ℕ, ◌/◌, ◌%◌, ◌==◌, ◌&&◌, Bool, true, false, nat_lt, cond, List, [], ◌∷◌, ◌++◌, codes, length, map, Option, Some, None, eqb-true, refl, sym, subst, ne_eqb}
use Rattle.std.specs.Char.{digit_char}
use Rattle.std.specs.Str.Lossy.{utf8_lossy}
use Rattle.json.specs.Token.{Token, end_array, end_object, key, string, boolean, null}
use Rattle.json.specs.Print.{begins, ends, escape, escape_byte, escape_letter, print, print_from, token_text}
use Rattle.pte.specs.Address.{bytes_of}
use Rattle.tlb.specs.declared.store.Entry.{Entry}
use Rattle.watch.specs.declared.trace.Frames.{Frames}
use Rattle.watch_causes.specs.declared.finding.Cause.{Cause}
use Rattle.watch_report.specs.declared.counts.VerdictCounts.{VerdictCounts}
use Rattle.watch_report.specs.declared.found.Found.{Found}
use Rattle.watch_report.specs.declared.note_group.NoteGroup.{NoteGroup}
use Rattle.watch_report.specs.declared.warning.Trigger.{Trigger}
use Rattle.watch_report.specs.declared.warning.Trigger.TheVariants.{GivenBack, GivenOut, ClaimedSince, UsedAt}
use Rattle.watch_report.specs.declared.warning.Warning.{Warning}
use Rattle.watch_report.specs.JsonLaws as laws
use Rattle.watch_report.specs.JsonLaws.{IsOnALine}
use Rattle.watch_report.specs.JsonObjects.{cause_fields, counts_field, counts_fields, counts_of_cause, entry_fields, field, file_fields, frames_fields, hexadecimal_value, note_value, number_value, object_of, place_fields, scoped_value, since_fields, text_value, trigger_fields, verdict_fields, optional_value}
use Rattle.watch_report.specs.NoteObjects.{found_fields, group_fields, note_fields, numbers_field, reach_fields, spaces_value, stale_fields}
use Rattle.watch_report.specs.ReadStories.{HasNoFeed}
use Rattle.watch_report.specs.TraceText.{is_feed}
use Rattle.watch_report.proofs.NoFeeds.{Quiet, dec, either, no_glyph, of_two, word, ◌⊕◌}

-- ---- strings

digit : (d : ℕ) → is_feed (digit_char d) ≡ false
digit d = ne_eqb (digit_char d) 10 (no_glyph (nat_lt d 10) d)

one_of : (b : Bool) (x y : ℕ) → is_feed x ≡ false → is_feed y ≡ false → is_feed (cond b x y) ≡ false
one_of true x y p q = p
one_of false x y p q = q

letter : (x : ℕ) → is_feed x ≡ false → is_feed (escape_letter x) ≡ false
letter x other =
    one_of _ _ _ other (one_of (x == 8) _ _ refl (one_of (x == 12) _ _ refl (one_of (x == 10) _ _ refl (one_of (x == 13) _ _ refl (one_of (x == 9) _ _ refl refl)))))

escaped_by : (x : ℕ) (b : Bool) → is_feed x ≡ b → HasNoFeed (escape_byte x)
unfolding escape_byte
escaped_by x true is = subst (λ (n : ℕ). HasNoFeed (escape_byte n)) (sym (eqb-true x 10 is)) refl
escaped_by x false other =
    of_two (nat_lt 0 (escape_letter x)) _ _ (either (is_feed (escape_letter x)) false (letter x other) refl)
    (of_two (nat_lt x 32) _ _ (either (is_feed (digit_char (x / 16))) _ (digit (x / 16)) (either (is_feed (digit_char (x % 16))) false (digit (x % 16)) refl)) (either (is_feed x) false other refl))

escaped : (bytes : List ℕ) → Quiet (escape bytes)
escaped [] = word [] refl
escaped (x ∷ bytes) = word (escape_byte x) (escaped_by x (is_feed x) refl) ⊕ escaped bytes

text_quiet : (bytes : List ℕ) → Quiet (token_text (string bytes))
text_quiet bytes = word (34 ∷ []) refl ⊕ (escaped bytes ⊕ word (34 ∷ []) refl)

key_quiet : (name : List ℕ) → Quiet (token_text (key name))
key_quiet name = text_quiet name ⊕ word (58 ∷ []) refl

-- ---- tokens

abbrev AreQuiet : List Token → Type 0
AreQuiet [] = Unit {0}
AreQuiet (t ∷ tokens) = Quiet (token_text t) × AreQuiet tokens

record Calm (tokens : List Token) : Type 0 where
  each : AreQuiet tokens

both : (a b : List Token) → AreQuiet a → AreQuiet b → AreQuiet (a ++ b)
both [] b p q = q
both (t ∷ a) b p q = (p.0, both a b p.1 q)

infixl 5 ◌⊗◌
◌⊗◌ : {a b : List Token} → Calm a → Calm b → Calm (a ++ b)
◌⊗◌ {a} {b} p q = record { each = both a b p.each q.each }

separated : (b : Bool) → Quiet (cond b (44 ∷ []) [])
separated true = word (44 ∷ []) refl
separated false = word [] refl

printed : (after : Bool) (tokens : List Token) → AreQuiet tokens → Quiet (print_from after tokens)
unfolding print_from
printed after [] each = word [] refl
printed after (t ∷ tokens) each = separated (after && begins t) ⊕ (each.0 ⊕ printed (ends t) tokens each.1)

on_a_line : (object : List Token) → Calm object → IsOnALine object
on_a_line object calm = (print object, (printed false object calm.each).none, refl)

one : (name : List ℕ) (value : Token) → Quiet (token_text value) → Calm (field name value)
unfolding field
one name value q = record { each = (key_quiet name, (q, tt)) }

object : (fields : List Token) → Calm fields → Calm (object_of fields)
object fields calm =
    record { each = (word (123 ∷ []) refl, both fields (end_object ∷ []) calm.each (word (125 ∷ []) refl, tt)) }

-- ---- fields

text : (name bytes : List ℕ) → Calm (field name (text_value bytes))
text name bytes = one name (text_value bytes) (text_quiet (utf8_lossy bytes))

number : (name : List ℕ) (n : ℕ) → Calm (field name (number_value n))
number name n = one name (number_value n) (dec n)

hexadecimal : (name : List ℕ) (n : ℕ) → Calm (field name (hexadecimal_value n))
hexadecimal name n = text name _

truth : (b : Bool) → Quiet (token_text (boolean b))
truth true = word (codes "true") refl
truth false = word (codes "false") refl

is_so : (name : List ℕ) (b : Bool) → Calm (field name (boolean b))
is_so name b = one name (boolean b) (truth b)

null_or : (b : Bool) (bytes : List ℕ) → Quiet (token_text (cond b null (text_value bytes)))
null_or true bytes = word (codes "null") refl
null_or false bytes = text_quiet (utf8_lossy bytes)

note : (name by : List ℕ) → Calm (field name (note_value by))
note name by = one name (note_value by) (null_or (length by == 0) by)

scoped : (name : List ℕ) (global : Bool) (n : ℕ) → Calm (field name (scoped_value global n))
scoped name global n = one name (scoped_value global n) (null_or global _)

optional : (name : List ℕ) (n : Option ℕ) → Calm (field name (optional_value n))
optional name n = one name (optional_value n) (quiet n)
  where
    quiet : (n : Option ℕ) → Quiet (token_text (optional_value n))
    quiet None = word (codes "null") refl
    quiet (Some n) = dec n

file_calm : (type file : List ℕ) → Calm (file_fields type file)
file_calm type file = text (codes "type") type ⊗ text (codes "file") file

place : (type file : List ℕ) (line : ℕ) → Calm (place_fields type file line)
place type file line = file_calm type file ⊗ number (codes "line") line

-- ---- a verdict

verdict : (file : List ℕ) (w : Warning) → Calm (verdict_fields file w)
unfolding verdict_fields
verdict file w =
    place (codes "verdict") file w.line ⊗ text (codes "verdict") _ ⊗ is_so (codes "kernel") w.entry.global
    ⊗ number (codes "hart") w.hart

entry : (e : Entry) → Calm (entry_fields e)
unfolding entry_fields
entry e =
    hexadecimal (codes "page") e.page.base ⊗ hexadecimal (codes "size") (bytes_of e.page.size) ⊗ hexadecimal (codes "frame") e.ppn
    ⊗ text (codes "flags") _ ⊗ scoped (codes "asid") e.global e.asid

since : (w : Warning) (stale_by : List ℕ) → Calm (since_fields w stale_by)
unfolding since_fields
since w stale_by =
    scoped (codes "root") w.entry.global w.root ⊗ number (codes "stale_since") w.since ⊗ note (codes "stale_by") stale_by

frames_calm : (frames : Frames) → Calm (frames_fields frames)
frames_calm frames = hexadecimal (codes "frames") frames.first ⊗ hexadecimal (codes "count") frames.count

trigger : (t : Trigger) → Calm (trigger_fields t)
trigger (GivenBack frames) = frames_calm frames
trigger (GivenOut frames) = frames_calm frames
trigger (ClaimedSince line) = number (codes "claimed_since") line
trigger (UsedAt address) = hexadecimal (codes "address") address

pub each_verdict : laws.each_verdict
each_verdict file w stale_by by =
    on_a_line _ (object _ (verdict file w ⊗ entry w.entry ⊗ since w stale_by ⊗ trigger w.trigger ⊗ note (codes "by") by))

-- ---- causes, and the end

cause : (type file : List ℕ) (line n : ℕ) (c : Cause) → Calm (cause_fields type file line n c)
unfolding cause_fields
cause type file line n c =
    place type file line ⊗ number (codes "cause") n ⊗ is_so (codes "kernel") c.global ⊗ text (codes "first") _
    ⊗ text (codes "reason") _

pub each_cause : laws.each_cause
each_cause file line n c = on_a_line _ (object _ (cause (codes "cause") file line n c))

counts : (n : VerdictCounts) → Calm (counts_fields n)
unfolding counts_fields
counts n =
    number (codes "free") n.free ⊗ number (codes "reuse") n.reuse ⊗ number (codes "claim") n.claimed
    ⊗ number (codes "use") n.used

pub each_total : laws.each_total
each_total file line t =
    on_a_line _
    (object _ (cause (codes "total") file line t.number t.tally.cause ⊗ number (codes "findings") t.tally.findings
    ⊗ counts (counts_of_cause t.tally.verdicts)))

pub each_known : laws.each_known
each_known file line findings =
    on_a_line _ (object _ (place (codes "known") file line ⊗ number (codes "findings") findings))

counted : (name : List ℕ) (n : VerdictCounts) → Calm (counts_field name n)
counted name n = record { each = (key_quiet name, (object (counts_fields n) (counts n)).each) }

pub each_summary : laws.each_summary
each_summary file records wrong user kernel design =
    on_a_line _
    (object _ (file_calm (codes "summary") file ⊗ number (codes "records") records ⊗ optional (codes "before_line") wrong
    ⊗ counted (codes "user") user ⊗ counted (codes "kernel") kernel ⊗ optional (codes "by_design") design))

-- ---- findings and notes

items : (numbers : List ℕ) → AreQuiet (map number_value numbers ++ end_array ∷ [])
items [] = (word (93 ∷ []) refl, tt)
items (n ∷ numbers) = (dec n, items numbers)

array : (name : List ℕ) (numbers : List ℕ) → Calm (numbers_field name numbers)
unfolding numbers_field
array name numbers = record { each = (key_quiet name, (word (91 ∷ []) refl, items numbers)) }

spaces_quiet : (global : Bool) (n : ℕ) → Quiet (token_text (spaces_value global n))
spaces_quiet true n = word (codes "null") refl
spaces_quiet false n = dec n

found : (file : List ℕ) (line : ℕ) (f : Found) → Calm (found_fields file line f)
unfolding found_fields
found file line f =
    place (codes "finding") file line ⊗ number (codes "cause") f.number ⊗ is_so (codes "kernel") f.begun.warning.entry.global
    ⊗ number (codes "hart") f.begun.warning.hart

stale : (f : Found) (since : ℕ) (stale_by : List ℕ) → Calm (stale_fields f since stale_by)
unfolding stale_fields
stale f since stale_by =
    scoped (codes "root") f.begun.warning.entry.global f.begun.warning.root ⊗ number (codes "stale_since") since
    ⊗ note (codes "stale_by") stale_by

pub each_finding : laws.each_finding
each_finding file line since stale_by f =
    on_a_line _ (object _ (found file line f ⊗ entry f.begun.warning.entry ⊗ stale f since stale_by ⊗ text (codes "reach") _))

noted : (file : List ℕ) (n : ℕ) (by : List ℕ) → Calm (note_fields file n by)
unfolding note_fields
noted file n by = file_calm (codes "note") file ⊗ number (codes "cause") n ⊗ note (codes "note") by

group : (global : Bool) (g : NoteGroup) → Calm (group_fields global g)
unfolding group_fields
group global g =
    number (codes "findings") g.findings ⊗ number (codes "pages") g.pages
    ⊗ one (codes "spaces") (spaces_value global g.spaces) (spaces_quiet global g.spaces)
    ⊗ array (codes "harts") _ ⊗ array (codes "asked") _

reach : (g : NoteGroup) → Calm (reach_fields g)
unfolding reach_fields
reach g = number (codes "used") g.used ⊗ number (codes "reachable") g.reachable ⊗ number (codes "not_reached") g.not_reached

pub each_note : laws.each_note
each_note file n by global g = on_a_line _ (object _ (noted file n by ⊗ group global g ⊗ reach g))

pub ruleset lines = (each_verdict, each_cause, each_total, each_known, each_summary, each_finding, each_note)
