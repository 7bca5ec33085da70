-- Which verdicts a report tells of.
use Rattle.std.specs.Prelude.{ℕ, Bool, true, false, ◌≡◌, ◌==◌, ◌&&◌, List, [], ◌∷◌, ◌++◌, map, Option, Some, None, option_map}
use Rattle.std.specs.List.{AllPairs, Contains, filter as kept_by, find}
use Rattle.std.specs.Option.{is_none, option_or}
use Rattle.std.specs.Str.{bytes_eq}
use Rattle.pte.specs.Address.{holds}
use Rattle.pte.specs.declared.scheme.Scheme.{Scheme}
use Rattle.tlb.specs.declared.store.Entry.{Entry}
use Rattle.watch.specs.declared.trace.Record.{Record}
use Rattle.watch.specs.declared.trace.Verdict.{Verdict}
use Rattle.watch.specs.declared.trace.Verdict.TheVariants.{Free, Reuse, Claimed, Used}
use Rattle.watch.specs.Computed.{is_same}
use Rattle.watch.specs.Holding.{Translation}
use Rattle.watch.specs.Trace.{Trace}
use Rattle.watch_causes.specs.Findings.{is_same_verdict}
use Rattle.watch_engine.specs.declared.warning.Warning.{Warning}
use Rattle.watch_engine.specs.Warnings.{AreApart, IsDue, IsStaleFrom, Shows, shown_of}
use Rattle.watch_report.specs.declared.filter.Filter.{Filter}
use Rattle.watch_report.specs.declared.filter.Kind.{Kind}
use Rattle.watch_report.specs.Fields.{◌>>=◌, hart_field, hexadecimal_field}
use Rattle.watch_report.specs.Warnings.{owner_prefix, verdict_text}

-- a test that is not there passes all
abbrev pub passes : {A : Type 0} → (A → Bool) → Option A → Bool
passes test None = true
passes test (Some asked) = test asked

abbrev pub has_kind : Verdict → Bool → Kind → Bool
has_kind verdict global kind = is_same_verdict kind.verdict verdict && is_same kind.global global

-- a verdict on a translation of a hart passes each test that is there
abbrev pub takes_of : Filter → Verdict → ℕ → Entry → Bool
takes_of filter verdict hart e =
    passes (λ h. hart == h) filter.hart
    && (passes (holds e.page) filter.address && passes (has_kind verdict e.global) filter.kind)

abbrev pub takes : Filter → Warning → Bool
takes filter w = takes_of filter w.verdict w.hart w.entry

-- the warnings that it takes, at each record
abbrev pub taken : Filter → List (List Warning) → List (List Warning)
taken filter given = map (kept_by (takes filter)) given

-- the warnings at a record that it takes: each is of a verdict that is due, and that it takes; each
-- verdict that is due, and that it takes, is shown by one; and none is shown twice
pub record AreTakenAt (filter : Filter) (scheme : Scheme) (newest : Record) (trace : Trace)
    (warnings : List Warning) : Type 0 where
  pub each :
      (w : Warning) → Contains warnings w
      → IsDue scheme w.verdict newest trace w.hart (shown_of w)
      × IsStaleFrom scheme w.stale_since trace w.hart (shown_of w) × (takes filter w ≡ true)
  pub all :
      (verdict : Verdict) (hart : ℕ) (x : Translation) → IsDue scheme verdict newest trace hart x
      → takes_of filter verdict hart x.entry ≡ true
      → (w : Warning) × Contains warnings w × (w.verdict ≡ verdict) × (w.hart ≡ hart)
      × Shows (shown_of w) x
  pub once : AllPairs AreApart warnings

-- ---- no test

abbrev pub no_filter : Filter
no_filter = record { hart = None; address = None; kind = None }

abbrev pub is_open : Filter → Bool
is_open filter = is_none filter.hart && (is_none filter.address && is_none filter.kind)

-- ---- by words

-- the word that the line of a verdict has
abbrev pub kind_text : Kind → List ℕ
kind_text kind = owner_prefix kind.global ++ verdict_text kind.verdict

abbrev pub kind_of : Bool → Verdict → Kind
kind_of global verdict = record { global = global; verdict = verdict }

abbrev pub verdict_in : Bool → List ℕ → Option Verdict
verdict_in global word =
    find (λ verdict. bytes_eq word (kind_text (kind_of global verdict)))
    (Free ∷ Reuse ∷ Claimed ∷ Used ∷ [])

-- the kind that has the word
abbrev pub kind_in : List ℕ → Option Kind
kind_in word =
    option_or (option_map (kind_of false) (verdict_in false word))
    (option_map (kind_of true) (verdict_in true word))

-- the test that a word asks for, or no test where there is no word; there is none where it is wrong
abbrev pub asked : {A : Type 0} → (List ℕ → Option A) → Option (List ℕ) → Option (Option A)
asked read None = Some None
asked read (Some word) = option_map Some (read word)

-- a hart, the address of a page, and a kind
abbrev pub filter_in : Option (List ℕ) → Option (List ℕ) → Option (List ℕ) → Option Filter
filter_in hart page kind = do
  one ← asked (hart_field 64) hart
  address ← asked hexadecimal_field page
  word ← asked kind_in kind
  Some (record { hart = one; address = address; kind = word })
