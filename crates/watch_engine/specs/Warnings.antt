-- Warnings: what one shows, and which are given.
use Rattle.std.specs.Prelude.{ℕ, Bool, false, not, ◌≡◌, ◌==◌, ◌&&◌, ◌||◌, if◌then◌else◌}
use Rattle.std.specs.Prelude.{◌≤◌, List, [], ◌∷◌, ◌++◌, length}
use Rattle.std.specs.List.{AllPairs, Contains, list_any}
use Rattle.std.specs.Option.{unwrap_or}
use Rattle.pte.specs.Address.{level_of}
use Rattle.pte.specs.Entry.{is_user, may_execute, may_read, may_write}
use Rattle.pte.specs.declared.flags.PteFlags.{PteFlags}
use Rattle.tlb.specs.declared.store.Entry.{Entry}
use Rattle.watch.specs.declared.trace.Verdict.{Verdict}
use Rattle.watch.specs.declared.trace.Record.{Record}
use Rattle.watch.specs.Trace.{Trace}
use Rattle.watch.specs.Holding.{Translation}
use Rattle.watch.specs.Verdicts.{IsGiven, IsNew, StaleSince}
use Rattle.pte.specs.declared.scheme.Scheme.{Scheme}
use Rattle.watch_engine.specs.declared.cause.Cause.{Cause}
use Rattle.watch_engine.specs.declared.held.Held.{Held}
use Rattle.watch_engine.specs.declared.warning.Warning.{Warning}
use Rattle.watch.specs.Computed.{is_same}
use Rattle.watch_engine.specs.Held.{stale_since, translation_of}
use Rattle.watch_engine.specs.Causes.{is_given_by, verdict_of}

-- the translation that a warning has
abbrev pub shown_of : Warning → Translation
shown_of w = record { root = w.root; entry = w.entry }

-- a warning that has the first translation shows the second: they agree in page, PPN, rights and
-- global, and, if they are not global, in root and ASID
pub record Shows (a b : Translation) : Type 0 where
  pub page : a.entry.page ≡ b.entry.page
  pub ppn : a.entry.ppn ≡ b.entry.ppn
  pub user : is_user a.entry.flags.0 ≡ is_user b.entry.flags.0
  pub read : may_read a.entry.flags.0 ≡ may_read b.entry.flags.0
  pub write : may_write a.entry.flags.0 ≡ may_write b.entry.flags.0
  pub execute : may_execute a.entry.flags.0 ≡ may_execute b.entry.flags.0
  pub global : a.entry.global ≡ b.entry.global
  pub root : a.entry.global ≡ false → a.root ≡ b.root
  pub asid : a.entry.global ≡ false → a.entry.asid ≡ b.entry.asid

-- the same as tests
abbrev pub is_same_page : Entry → Entry → Bool
is_same_page a b =
    (a.page.base == b.page.base)
    && ((level_of a.page.size == level_of b.page.size) && (a.ppn == b.ppn))

abbrev pub has_same_rights : PteFlags → PteFlags → Bool
has_same_rights a b =
    is_same (is_user a.0) (is_user b.0)
    && (is_same (may_read a.0) (may_read b.0)
    && (is_same (may_write a.0) (may_write b.0) && is_same (may_execute a.0) (may_execute b.0)))

abbrev pub is_same_scope : Translation → Translation → Bool
is_same_scope a b =
    is_same a.entry.global b.entry.global
    && (a.entry.global || ((a.root == b.root) && (a.entry.asid == b.entry.asid)))

abbrev pub is_line : Translation → Translation → Bool
is_line a b =
    is_same_page a.entry b.entry
    && (has_same_rights a.entry.flags b.entry.flags && is_same_scope a b)

abbrev pub is_shown : Held → Warning → Bool
is_shown i w = (w.hart == i.hart) && is_line (shown_of w) (translation_of i)

abbrev pub warning_of : Verdict → Held → Warning
warning_of verdict i =
    record {
      verdict = verdict;
      hart = i.hart;
      root = i.root;
      entry = i.entry;
      stale_since = unwrap_or (stale_since i) 0;
    }

abbrev pub with_warning : Cause → Held → List Warning → List Warning
with_warning cause i warnings =
    if is_given_by cause i && not (list_any (is_shown i) warnings)
    then warnings ++ warning_of (verdict_of cause) i ∷ []
    else warnings

-- the warnings for a cause
abbrev pub joined : Cause → List Held → List Warning → List Warning
joined cause [] warnings = warnings
joined cause (i ∷ held) warnings = joined cause held (with_warning cause i warnings)

-- the verdict is given of the translation at the record, and is new
pub record IsDue (scheme : Scheme) (verdict : Verdict) (newest : Record) (trace : Trace)
    (hart : ℕ) (x : Translation) : Type 0 where
  pub given : IsGiven scheme verdict newest trace hart x
  pub fresh : IsNew scheme verdict trace hart x

-- it was stale after this many records, and ever since
abbrev pub StaleFrom : Scheme → ℕ → Trace → ℕ → Translation → Type 0
StaleFrom scheme moment trace hart x =
    StaleSince scheme (λ newest before. length (newest ∷ before) ≡ moment) trace hart x

-- and not after fewer
pub record IsStaleFrom (scheme : Scheme) (moment : ℕ) (trace : Trace) (hart : ℕ)
    (x : Translation) : Type 0 where
  pub since : StaleFrom scheme moment trace hart x
  pub first : (earlier : ℕ) → StaleFrom scheme earlier trace hart x → moment ≤ earlier

-- no translation is shown by both, unless their verdicts or harts differ
abbrev pub AreApart : Warning → Warning → Type 0
AreApart v w =
    v.verdict ≡ w.verdict → v.hart ≡ w.hart
    → (x : Translation) → Shows (shown_of v) x → Shows (shown_of w) x → ⊥

-- the warnings at a record: each is of a verdict that is due of the translation that it has, each
-- verdict that is due is shown by one, and none is shown twice
pub record AreWarnings (scheme : Scheme) (newest : Record) (trace : Trace)
    (warnings : List Warning) : Type 0 where
  pub each :
      (w : Warning) → Contains warnings w
      → IsDue scheme w.verdict newest trace w.hart (shown_of w)
      × IsStaleFrom scheme w.stale_since trace w.hart (shown_of w)
  pub all :
      (verdict : Verdict) (hart : ℕ) (x : Translation) → IsDue scheme verdict newest trace hart x
      → (w : Warning) × Contains warnings w × (w.verdict ≡ verdict) × (w.hart ≡ hart)
      × Shows (shown_of w) x
  pub once : AllPairs AreApart warnings
