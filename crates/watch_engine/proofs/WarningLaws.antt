-- What one warning shows, the moment from which a translation is stale, and lists of warnings.
use Rattle.std.proofs.Common.{◌≡◌, ℕ, ◌+◌, ◌<◌, ◌≤◌, zero, suc, List, [], ◌∷◌, ◌++◌, length, get_or, ap, sym, ◌∙◌, subst, refl, inl, inr, arith}
use Rattle.std.specs.Prelude.{◌⊎◌, ◌↔◌, Contains}
use Rattle.std.specs.List.{AllPairs}
use Rattle.std.proofs.lemmas.Bool.{cases_lt}
use Rattle.pte.specs.declared.flags.PteFlags.{PteFlags}
use Rattle.pte.specs.declared.scheme.Scheme.{Scheme}
use Rattle.pte.specs.Entry.{is_user, may_execute, may_read, may_write}
use Rattle.walk.specs.Leads.{Tables}
use Rattle.tlb.specs.declared.store.Entry.{Entry}
use Rattle.watch.specs.declared.trace.Record.{Record}
use Rattle.watch.specs.declared.trace.Verdict.{Verdict}
use Rattle.watch.specs.Trace.{Trace, words_of}
use Rattle.watch.specs.Holding.{HasLeaf, Translation}
use Rattle.watch.specs.Staleness.{IsCurrent, IsRootFor, Stale}
use Rattle.watch.specs.Verdicts.{StaleSince}
use Rattle.watch.proofs.ComputedTraces.{stale_known}
use Rattle.watch.proofs.Gone.{nothing_held, stale-held}
use Rattle.watch_engine.specs.declared.warning.Warning.{Warning}
use Rattle.watch_engine.specs.Warnings.{AreApart, AreWarnings, IsDue, IsStaleFrom, Shows, StaleFrom, shown_of}

-- what one warning shows
pub itself : (a : Translation) → Shows a a
itself a = record { page = refl; ppn = refl; user = refl; read = refl; write = refl; execute = refl; global = refl; root = λ e. refl; asid = λ e. refl }

pub back : (a b : Translation) → Shows a b → Shows b a
back a b s = record {
  page = sym s.page;
  ppn = sym s.ppn;
  user = sym s.user;
  read = sym s.read;
  write = sym s.write;
  execute = sym s.execute;
  global = sym s.global;
  root = λ e. sym (s.root (s.global ∙ e));
  asid = λ e. sym (s.asid (s.global ∙ e));
}

pub through : (a b c : Translation) → Shows a b → Shows b c → Shows a c
through a b c s t = record {
  page = s.page ∙ t.page;
  ppn = s.ppn ∙ t.ppn;
  user = s.user ∙ t.user;
  read = s.read ∙ t.read;
  write = s.write ∙ t.write;
  execute = s.execute ∙ t.execute;
  global = s.global ∙ t.global;
  root = λ e. s.root e ∙ t.root (sym s.global ∙ e);
  asid = λ e. s.asid e ∙ t.asid (sym s.global ∙ e);
}

pub agree : (a b c : Translation) → Shows a b → Shows a c → Shows b c
agree a b c s t = through b a c (back a b s) t

pub with_rights : (a : Translation) (flags : PteFlags) → is_user a.entry.flags.0 ≡ is_user flags.0 → may_read a.entry.flags.0 ≡ may_read flags.0 → may_write a.entry.flags.0 ≡ may_write flags.0 → may_execute a.entry.flags.0 ≡ may_execute flags.0
    → Shows a (record a { entry = record a.entry { flags = flags } })
with_rights a flags u r w x = record { page = refl; ppn = refl; user = u; read = r; write = w; execute = x; global = refl; root = λ e. refl; asid = λ e. refl }

-- since when a translation is stale
pub since_stale : (scheme : Scheme) (Happens : Record → Trace → Type 0) (trace : Trace) (hart : ℕ) (x : Translation) → StaleSince scheme Happens trace hart x → Stale scheme trace hart x
since_stale scheme Happens [] hart x s = absurd s
since_stale scheme Happens (newest ∷ trace) hart x s = s.0

module _ (scheme : Scheme) (hart : ℕ) (x : Translation) where
  from_range : (m : ℕ) (trace : Trace) → StaleFrom scheme m trace hart x → (0 < m) × (m ≤ length trace)
  from_range m [] s = absurd s
  from_range m (newest ∷ trace) (stale, inl is) = (omega (arith, is), omega (arith, is))
  from_range m (newest ∷ trace) (stale, inr before) = let r = from_range m trace before in (r.0, omega (arith, r.1))

  pub moment_range : (m : ℕ) (trace : Trace) → IsStaleFrom scheme m trace hart x → (0 < m) × (m ≤ length trace)
  moment_range m trace is = from_range m trace is.since

  pub one_moment : (m n : ℕ) (trace : Trace) → IsStaleFrom scheme m trace hart x → IsStaleFrom scheme n trace hart x → m ≡ n
  one_moment m n trace p q = let a : m ≤ n = p.first n q.since in let b : n ≤ m = q.first m p.since in omega arith

  -- it is the same after one more record that leaves the translation stale, and the number of records where it was not
  pub moment_kept : (m : ℕ) (newest : Record) (trace : Trace) → IsStaleFrom scheme m trace hart x → Stale scheme (newest ∷ trace) hart x → IsStaleFrom scheme m (newest ∷ trace) hart x
  moment_kept m newest trace is stale =
      let range = moment_range m trace is in
      let first : (e : ℕ) → StaleFrom scheme e (newest ∷ trace) hart x → m ≤ e =
      λ e s. elim s.1 [
        | inl now ↦ omega (arith, now, range.1)
        | inr before ↦ is.first e before
      ] in
      record { since = (stale, inr is.since); first = first }

  pub moment_begun : (newest : Record) (trace : Trace) → ¬ Stale scheme trace hart x → Stale scheme (newest ∷ trace) hart x → IsStaleFrom scheme (length (newest ∷ trace)) (newest ∷ trace) hart x
  moment_begun newest trace not_before stale =
      let first : (e : ℕ) → StaleFrom scheme e (newest ∷ trace) hart x → length (newest ∷ trace) ≤ e =
      λ e s. elim s.1 [
        | inl now ↦ omega (arith, now)
        | inr before ↦ absurd (not_before (since_stale scheme _ trace hart x before))
      ] in
      record { since = (stale, inl refl); first = first }

  pub some_moment : (trace : Trace) → Stale scheme trace hart x → (m : ℕ) × IsStaleFrom scheme m trace hart x
  some_moment [] stale = absurd (nothing_held scheme [] hart x refl stale.held)
  some_moment (newest ∷ trace) stale =
      elim (stale_known scheme trace hart x) [
        | inl was ↦ let before = some_moment trace was in (before.0, moment_kept before.0 newest trace before.1 stale)
        | inr not_before ↦ (length (newest ∷ trace), moment_begun newest trace not_before stale)
      ]

  longer : (later earlier : Trace) → length earlier ≤ length (later ++ earlier)
  longer [] earlier = omega arith
  longer (newest ∷ later) earlier = let rest = longer later earlier in omega arith

  from_part : (m : ℕ) (later earlier : Trace) → StaleFrom scheme m (later ++ earlier) hart x → m ≤ length earlier → StaleFrom scheme m earlier hart x
  from_part m [] earlier s within = s
  from_part m (newest ∷ later) earlier (stale, inl is) within = let rest = longer later earlier in absurd (omega (arith, is))
  from_part m (newest ∷ later) earlier (stale, inr before) within = from_part m later earlier before within

  pub moment_stale : (m : ℕ) (later earlier : Trace) → IsStaleFrom scheme m (later ++ earlier) hart x → m ≤ length earlier → Stale scheme earlier hart x
  moment_stale m later earlier is within = since_stale scheme _ earlier hart x (from_part m later earlier is.since within)

  from_earlier : (m k : ℕ) (later earlier : Trace) → StaleFrom scheme m (later ++ earlier) hart x → length earlier + 1 ≡ m → StaleFrom scheme k earlier hart x → StaleFrom scheme k (later ++ earlier) hart x
  from_earlier m k [] earlier s one_more t = t
  from_earlier m k (newest ∷ []) earlier s one_more t = (s.0, inr t)
  from_earlier m k (newest ∷ next ∷ later) earlier (stale, inl is) one_more t = let rest = longer later earlier in absurd (omega (arith, is))
  from_earlier m k (newest ∷ next ∷ later) earlier (stale, inr before) one_more t = (stale, inr (from_earlier m k (next ∷ later) earlier before one_more t))

  pub moment_fresh : (m : ℕ) (later earlier : Trace) → IsStaleFrom scheme m (later ++ earlier) hart x → length earlier + 1 ≡ m → ¬ Stale scheme earlier hart x
  moment_fresh m later earlier is one_more stale =
      let before = some_moment earlier stale in
      let range = moment_range before.0 earlier before.1 in
      let less : m ≤ before.0 = is.first before.0 (from_earlier m before.0 later earlier is.since one_more before.1.since) in
      omega (arith, range.1)

  pub moment_is : (newest : Record) (later earlier : Trace) → ((after between : Trace) → later ≡ after ++ between → Stale scheme (between ++ newest ∷ earlier) hart x) → ¬ Stale scheme earlier hart x
      → IsStaleFrom scheme (length (newest ∷ earlier)) (later ++ newest ∷ earlier) hart x
  moment_is newest [] earlier each not_before = moment_begun newest earlier not_before (each [] [] refl)
  moment_is newest (next ∷ later) earlier each not_before =
      moment_kept (length (newest ∷ earlier)) next (later ++ newest ∷ earlier)
      (moment_is newest later earlier (λ after between split. each (next ∷ after) between (ap (λ l. next ∷ l) split)) not_before)
      (each [] (next ∷ later) refl)

-- what one warning shows
with_asid : (scheme : Scheme) (words : Tables) (root asid : ℕ) (e : Entry) → HasLeaf scheme words root e → HasLeaf scheme words root (record e { asid = asid })
with_asid scheme words root asid e l = record { table = l.table; word = l.word; page = l.page; leads = l.leads; kind = l.kind; aligned = l.aligned; global = l.global }

current_shown : (scheme : Scheme) (trace : Trace) (a b : Translation) → Shows a b → IsCurrent scheme trace a → IsCurrent scheme trace b
current_shown scheme trace a b s c =
    let m = c.mapped in
    let p = m.permit in
    let counts : IsRootFor trace b c.root = elim c.counts [
      | inl own ↦ inl (sym s.global ∙ own.0, own.1 ∙ s.root own.0)
      | inr shared ↦ inr (sym s.global ∙ shared.0, shared.1)
    ] in
    let leaf = with_asid scheme (words_of trace) c.root b.entry.asid (record a.entry { flags = m.flags }) m.leaf in
    record {
      root = c.root;
      counts = counts;
      mapped = record {
        flags = m.flags;
        permit = record { user = p.user ∙ s.user; read = λ h. p.read (s.read ∙ h); write = λ h. p.write (s.write ∙ h); execute = λ h. p.execute (s.execute ∙ h) };
        leaf = subst (HasLeaf scheme (words_of trace) c.root) (λ j. record { asid = b.entry.asid; global = s.global j; page = s.page j; ppn = s.ppn j; flags = m.flags }) leaf;
      };
    }

from_shown : (scheme : Scheme) (m : ℕ) (trace : Trace) (hart other : ℕ) (a b : Translation) → Shows a b → StaleFrom scheme m trace hart a → Stale scheme trace other b → StaleFrom scheme m trace other b
from_shown scheme m [] hart other a b s from stale = absurd from
from_shown scheme m (newest ∷ trace) hart other a b s (was, inl is) stale = (stale, inl is)
from_shown scheme m (newest ∷ trace) hart other a b s (was, inr before) stale =
    let gone : ¬ IsCurrent scheme trace b = λ c. (since_stale scheme _ trace hart a before).gone (current_shown scheme trace b a (back a b s) c) in
    (stale, inr (from_shown scheme m trace hart other a b s before (record { held = stale-held scheme newest trace other b stale; gone = gone })))

pub moment_shown : (scheme : Scheme) (trace : Trace) (m hart other : ℕ) (a b : Translation) → Shows a b → IsStaleFrom scheme m trace hart a → Stale scheme trace other b → IsStaleFrom scheme m trace other b
moment_shown scheme trace m hart other a b s is stale = record {
  since = from_shown scheme m trace hart other a b s is.since stale;
  first = λ e from. is.first e (from_shown scheme e trace other hart b a (back a b s) from (since_stale scheme _ trace hart a is.since));
}

-- lists
abbrev without : ℕ → List Warning → List Warning
without k [] = []
without zero (w ∷ warnings) = warnings
without (suc k) (w ∷ warnings) = w ∷ without k warnings

one_less : (warnings : List Warning) (k : ℕ) → k < length warnings → length warnings ≡ suc (length (without k warnings))
one_less [] k within = absurd (omega arith)
one_less (w ∷ warnings) zero within = refl
one_less (w ∷ warnings) (suc k) within = ap suc (one_less warnings k (omega arith))

still_there : (warnings : List Warning) (n k : ℕ) (w : Warning) → (k ≡ n → ⊥) → k < length warnings → get_or warnings k w ≡ w → Contains (without n warnings) w
still_there [] n k w apart within at = absurd (omega arith)
still_there (v ∷ warnings) zero zero w apart within at = absurd (apart refl)
still_there (v ∷ warnings) zero (suc k) w apart within at = (k, omega arith, at)
still_there (v ∷ warnings) (suc n) zero w apart within at = (0, omega arith, at)
still_there (v ∷ warnings) (suc n) (suc k) w apart within at =
    let rest = still_there warnings n k w (λ e. apart (ap suc e)) (omega arith) at in (suc rest.0, omega (arith, rest.1), rest.2)

same_default : (xs : List Warning) (k : ℕ) (d e : Warning) → k < length xs → get_or xs k d ≡ get_or xs k e
same_default [] k d e within = absurd (omega arith)
same_default (x ∷ xs) zero d e within = refl
same_default (x ∷ xs) (suc k) d e within = same_default xs k d e (omega arith)

apart_at : (warnings : List Warning) (v w : Warning) (a : Contains warnings v) (b : Contains warnings w) → AllPairs AreApart warnings → a.0 < b.0 → AreApart v w
apart_at warnings v w a b once less =
    subst (λ (u : Warning). AreApart u w) a.2
    (subst (λ (u : Warning). AreApart (get_or warnings a.0 v) u) (same_default warnings b.0 v w b.1 ∙ b.2) (once a.0 b.0 v less b.1))

-- of the same verdict and hart, and it shows the same
record SaysTheSame (w v : Warning) : Type 0 where
  verdict : w.verdict ≡ v.verdict
  hart : w.hart ≡ v.hart
  shows : Shows (shown_of w) (shown_of v)

abbrev EachHas : List Warning → List Warning → Type 0
EachHas first second = (k : ℕ) (d : Warning) → k < length first → (w : Warning) × Contains second w × SaysTheSame w (get_or first k d)

-- without the first of the one list and what says the same in the other
rest_has : (v : Warning) (first second : List Warning) → AllPairs AreApart (v ∷ first) → EachHas (v ∷ first) second → (mine : Warning) (at : Contains second mine) → SaysTheSame mine v → EachHas first (without at.0 second)
rest_has v first second once has mine at same k d within =
    let other = has (suc k) d (omega arith) in
    let apart : other.1.0 ≡ at.0 → ⊥ =
    λ e.
    let is : mine ≡ other.0 = sym at.2 ∙ (λ j. get_or second (sym e j) mine) ∙ same_default second other.1.0 mine other.0 other.1.1 ∙ other.1.2 in
    let says : SaysTheSame mine (get_or first k d) = subst (λ (w : Warning). SaysTheSame w (get_or first k d)) (sym is) other.2 in
    once 0 (suc k) d (omega arith) (omega arith) (sym same.verdict ∙ says.verdict) (sym same.hart ∙ says.hart) (shown_of mine)
    (back (shown_of mine) (shown_of v) same.shows) (back (shown_of mine) (shown_of (get_or first k d)) says.shows) in
    (other.0, still_there second at.0 other.1.0 other.0 apart other.1.1 other.1.2, other.2)

at_most : (first second : List Warning) → AllPairs AreApart first → EachHas first second → length first ≤ length second
at_most [] second once has = omega arith
at_most (v ∷ first) second once has =
    let mine = has 0 v (omega arith) in
    let shorter = at_most first (without mine.1.0 second) (λ i j d less within. once (suc i) (suc j) d (omega arith) (omega arith)) (rest_has v first second once has mine.0 mine.1 mine.2) in
    let size = one_less second mine.1.0 mine.1.1 in
    omega (arith, shorter, size)

is_place : (k n : ℕ) → (k ≡ n) ⊎ (k ≡ n → ⊥)
is_place zero zero = inl refl
is_place zero (suc n) = inr (λ e. omega (arith, e))
is_place (suc k) zero = inr (λ e. omega (arith, e))
is_place (suc k) (suc n) =
    elim (is_place k n) [
      | inl same ↦ inl (ap suc same)
      | inr differ ↦ inr (λ e. differ (omega (arith, e)))
    ]

-- if the one list is as long as the other, it has each of the other
has_back : (first second : List Warning) → AllPairs AreApart first → EachHas first second → length second ≤ length first → (u : Warning) → Contains second u → (w : Warning) × Contains first w × SaysTheSame u w
has_back [] second once has long u at = let within = at.1 in absurd (omega arith)
has_back (v ∷ first) second once has long u at =
    let mine = has 0 v (omega arith) in
    elim (is_place at.0 mine.1.0) [
      | inl same ↦
          let is : mine.0 ≡ u = sym mine.1.2 ∙ same_default second mine.1.0 mine.0 u mine.1.1 ∙ (λ j. get_or second (sym same j) u) ∙ at.2 in
          (v, (0, omega arith, refl), subst (λ (w : Warning). SaysTheSame w v) is mine.2)
      | inr differ ↦
          let size = one_less second mine.1.0 mine.1.1 in
          let rest =
          has_back first (without mine.1.0 second) (λ i j d less within. once (suc i) (suc j) d (omega arith) (omega arith)) (rest_has v first second once has mine.0 mine.1 mine.2) (omega (arith, size, long)) u
          (still_there second mine.1.0 at.0 u differ at.1 at.2) in
          (rest.0, (suc rest.1.0, omega (arith, rest.1.1), rest.1.2), rest.2)
    ]

module _ (scheme : Scheme) (newest : Record) (trace : Trace) where
  pub says_the_same : (first second : List Warning) → AreWarnings scheme newest trace first → AreWarnings scheme newest trace second → (v : Warning) → Contains first v
      → (w : Warning) × Contains second w × (w.verdict ≡ v.verdict) × (w.hart ≡ v.hart) × Shows (shown_of w) (shown_of v) × (w.stale_since ≡ v.stale_since)
  says_the_same first second p q v at =
      let mine = p.each v at in
      let other = q.all v.verdict v.hart (shown_of v) mine.0 in
      let w : Warning = other.0 in
      let shows : Shows (shown_of w) (shown_of v) = other.4 in
      let from = (q.each w other.1).1 in
      let moment : w.stale_since ≡ v.stale_since =
      one_moment scheme w.hart (shown_of w) w.stale_since v.stale_since trace from
      (moment_shown scheme trace v.stale_since v.hart w.hart (shown_of v) (shown_of w) (back (shown_of w) (shown_of v) shows) mine.1 (since_stale scheme _ trace w.hart (shown_of w) from.since)) in
      (w, other.1, other.2, other.3, shows, moment)

  each_has : (first second : List Warning) → AreWarnings scheme newest trace first → AreWarnings scheme newest trace second → EachHas first second
  each_has first second p q k d within =
      let same = says_the_same first second p q (get_or first k d) (k, within, same_default first k (get_or first k d) d within) in
      (same.0, same.1, record { verdict = same.2; hart = same.3; shows = same.4 })

  pub as_long : (first second : List Warning) → AreWarnings scheme newest trace first → AreWarnings scheme newest trace second → length first ≡ length second
  as_long first second p q =
      let a = at_most first second p.once (each_has first second p q) in
      let b = at_most second first q.once (each_has second first q p) in
      omega (arith, a, b)

  pub as_many : (first second : List Warning) → AreWarnings scheme newest trace first
      → ((w : Warning) → Contains second w → IsDue scheme w.verdict newest trace w.hart (shown_of w) × IsStaleFrom scheme w.stale_since trace w.hart (shown_of w)) → AllPairs AreApart second → length first ≡ length second
      → AreWarnings scheme newest trace second
  as_many first second p right once size =
      let has : EachHas second first =
      λ k d within.
      let w : Warning = get_or second k d in
      let at = p.all w.verdict w.hart (shown_of w) (right w (k, within, same_default second k w d within)).0 in
      (at.0, at.1, record { verdict = at.2; hart = at.3; shows = at.4 }) in
      record {
        each = right;
        all = λ verdict hart x due.
            let u = p.all verdict hart x due in
            let w = has_back second first once has (omega (arith, size)) u.0 u.1 in
            (w.0, w.1, sym w.2.verdict ∙ u.2, sym w.2.hart ∙ u.3, through (shown_of w.0) (shown_of u.0) x (back (shown_of u.0) (shown_of w.0) w.2.shows) u.4);
        once = once;
      }

  pub only_one : (warnings : List Warning) (v w : Warning) (x : Translation) → AreWarnings scheme newest trace warnings → Contains warnings v → Contains warnings w → v.verdict ≡ w.verdict → v.hart ≡ w.hart → Shows (shown_of v) x → Shows (shown_of w) x → v ≡ w
  only_one warnings v w x p a b verdict hart s t =
      elim (cases_lt a.0 b.0) [
        | inl before ↦ absurd (apart_at warnings v w a b p.once before verdict hart x s t)
        | inr more ↦
            elim (cases_lt b.0 a.0) [
              | inl behind ↦ absurd (apart_at warnings w v b a p.once behind (sym verdict) (sym hart) x t s)
              | inr less ↦ let same : a.0 ≡ b.0 = omega arith in sym a.2 ∙ (λ j. get_or warnings (same j) v) ∙ same_default warnings b.0 v w b.1 ∙ b.2
            ]
      ]

  pub none_due : AreWarnings scheme newest trace [] ↔ ((verdict : Verdict) (hart : ℕ) (x : Translation) → ¬ IsDue scheme verdict newest trace hart x)
  none_due = (
    (λ p verdict hart x due. let w = p.all verdict hart x due in let within = w.1.1 in omega arith),
    (λ none. record {
      each = λ w c. let within = c.1 in absurd (omega arith);
      all = λ verdict hart x due. absurd (none verdict hart x due);
      once = λ i j d less within. absurd (omega arith);
    }),
  )

  empty : (warnings : List Warning) → 0 ≡ length warnings → warnings ≡ []
  empty [] e = refl
  empty (w ∷ warnings) e = absurd (omega (arith, e))

  pub only_empty : (warnings : List Warning) → AreWarnings scheme newest trace [] → AreWarnings scheme newest trace warnings → warnings ≡ []
  only_empty warnings p q = empty warnings (as_long [] warnings p q)
