-- The reason of a verdict, from the log.
use Rattle.std.proofs.Common.{◌≡◌, ◌∙◌, ℕ, Bool, true, false, List, Option, Some, None, ap, sym, refl, inl, inr, reverse, filter}
use Rattle.std.specs.Prelude.{◌&&◌, find, not, take_while}
use Rattle.std.specs.List.{before_first, list_any}
use Rattle.std.proofs.lemmas.Bool.{and_parts, or_cases, true≢false}
use Rattle.std.proofs.lemmas.List.{reverse-reverse}
use Rattle.pte.specs.declared.scheme.Scheme.{Scheme}
use Rattle.tlb.specs.declared.store.Entry.{Entry}
use Rattle.watch.specs.declared.trace.Record.{Record}
use Rattle.watch.specs.declared.trace.Record.TheVariants.{Fence, RemoteBegin, ClaimBegin, ClaimEnd}
use Rattle.watch.specs.Trace.{Trace, begins_claim, hart_of}
use Rattle.watch.specs.Holding.{Translation}
use Rattle.watch_causes.specs.declared.log.Log.{Log}
use Rattle.watch_causes.specs.declared.log.Numbered.{Numbered}
use Rattle.watch_engine.specs.declared.warning.Warning.{Warning}
use Rattle.watch_causes.specs.Logs.{Follows, asks_for_fence, begins_flush, by_tests, flush_in, is_after, last_after, newest_in, numbered, reason_from, reason_in, records, some_asked}
use Rattle.watch_causes.specs.Reasons.{asked_by, asks_others, begins_flush_of, covers, fences_itself, is_asked, is_for, is_of_space, made_after, reason_among, reason_by, reason_of, reason_since}
use Rattle.watch_engine.specs.Warnings.{shown_of}
use Rattle.watch_causes.proofs.Lists.{any-alike, any-filter, any-filtered, any-map, any-reverse, last-reverse}
use Rattle.watch_causes.proofs.Numbering.{Finds, after-none, all-after, finds-after, records-after}

-- ---- tests that only fences pass

itself-asks : (hart : ℕ) (r : Record) → fences_itself hart r ≡ true → asks_for_fence r ≡ true
itself-asks hart (Fence of rs1 rs2) is = refl
itself-asks hart _ is = absurd (true≢false (sym is))

pub others-asks : (hart : ℕ) (r : Record) → asks_others hart r ≡ true → asks_for_fence r ≡ true
others-asks hart (RemoteBegin of token fence) is = refl
others-asks hart _ is = absurd (true≢false (sym is))

pub asked-asks : (others : Bool) (flusher hart : ℕ) (r : Record) → is_asked others flusher hart r ≡ true → asks_for_fence r ≡ true
asked-asks others flusher hart r is =
    elim (or_cases (fences_itself flusher r) _ is) [
      | inl own ↦ itself-asks flusher r own
      | inr more ↦
          elim (or_cases (asks_others flusher r) _ more) [
            | inl asks ↦ others-asks flusher r asks
            | inr by ↦ itself-asks hart r (and_parts (not others) (fences_itself hart r) by).1
          ]
    ]

-- ---- lists on which such tests agree

abbrev Agree : List Record → List Record → Type 0
Agree made other = (test : Record → Bool) → ((r : Record) → test r ≡ true → asks_for_fence r ≡ true) → list_any test made ≡ list_any test other

module _ (made other : List Record) (agree : Agree made other) (flusher hart : ℕ) where
  abbrev asked : Bool → Record → Bool
  asked others = is_asked others flusher hart

  some-asked : (test : Record → Bool) → list_any test (asked_by flusher hart made) ≡ list_any test (asked_by flusher hart other)
  some-asked test =
      let others : list_any (asks_others flusher) made ≡ list_any (asks_others flusher) other = agree (asks_others flusher) (others-asks flusher) in
      let o : Bool = list_any (asks_others flusher) other in
      ap (λ b. list_any test (filter (asked b) made)) others
      ∙ (any-filter test (asked o) made
      ∙ (agree (λ r. asked o r && test r) (λ r is. asked-asks o flusher hart r (and_parts (asked o r) (test r) is).0)
      ∙ sym (any-filter test (asked o) other)))

  pub same-reason : (scheme : Scheme) (e : Entry) → reason_among scheme hart e (asked_by flusher hart made) ≡ reason_among scheme hart e (asked_by flusher hart other)
  same-reason scheme e =
      let a : List Record = asked_by flusher hart made in
      let b : List Record = asked_by flusher hart other in
      let space : Record → Bool = λ f. is_for hart f && is_of_space scheme e f in
      let page : Record → Bool = λ f. is_for hart f && covers scheme e f in
      ap (λ t. by_tests t (list_any (is_for hart) a) (list_any space a) (list_any page a)) (some-asked (λ f. true))
      ∙ (ap (λ t. by_tests (list_any (λ f. true) b) t (list_any space a) (list_any page a)) (some-asked (is_for hart))
      ∙ (ap (λ t. by_tests (list_any (λ f. true) b) (list_any (is_for hart) b) t (list_any page a)) (some-asked space)
      ∙ ap (λ t. by_tests (list_any (λ f. true) b) (list_any (is_for hart) b) (list_any space b) t) (some-asked page)))

-- ---- the tests of the log

and-true : (b : Bool) → (b && true) ≡ b
and-true b = elim b as (λ v. (v && true) ≡ v) [ true ↦ refl | false ↦ refl ]

module _ (flusher hart : ℕ) (fences : List Numbered) where
  abbrev others_in : Bool
  others_in = list_any (λ (f : Numbered). asks_others flusher f.made) fences

  same-others : list_any (asks_others flusher) (records fences) ≡ others_in
  same-others = any-map (asks_others flusher) (λ (f : Numbered). f.made) fences

  some-in : (test : Record → Bool) → list_any test (asked_by flusher hart (records fences)) ≡ list_any (λ (f : Numbered). is_asked others_in flusher hart f.made && test f.made) fences
  some-in test =
      ap (λ b. list_any test (filter (is_asked b flusher hart) (records fences))) same-others
      ∙ (any-filter test (is_asked others_in flusher hart) (records fences)
      ∙ any-map (λ r. is_asked others_in flusher hart r && test r) (λ (f : Numbered). f.made) fences)

  pub reason-in : (scheme : Scheme) (e : Entry) → reason_in scheme flusher hart e fences ≡ reason_among scheme hart e (asked_by flusher hart (records fences))
  unfolding reason_in some_asked
  reason-in scheme e =
      let b : List Record = asked_by flusher hart (records fences) in
      let space : Record → Bool = λ f. is_for hart f && is_of_space scheme e f in
      let page : Record → Bool = λ f. is_for hart f && covers scheme e f in
      let tests : (Record → Bool) → Bool = λ test. list_any (λ (f : Numbered). is_asked others_in flusher hart f.made && test f.made) fences in
      let any : list_any (λ (f : Numbered). is_asked others_in flusher hart f.made) fences ≡ list_any (λ f. true) b =
      sym (some-in (λ f. true) ∙ any-alike (λ (f : Numbered). is_asked others_in flusher hart f.made && true) (λ f. is_asked others_in flusher hart f.made) (λ f. and-true (is_asked others_in flusher hart f.made)) fences) in
      ap (λ t. by_tests t (tests (is_for hart)) (tests space) (tests page)) any
      ∙ (ap (λ t. by_tests (list_any (λ f. true) b) t (tests space) (tests page)) (sym (some-in (is_for hart)))
      ∙ (ap (λ t. by_tests (list_any (λ f. true) b) (list_any (is_for hart) b) t (tests page)) (sym (some-in space))
      ∙ ap (λ t. by_tests (list_any (λ f. true) b) (list_any (is_for hart) b) (list_any space b) t) (sym (some-in page))))

-- ---- what a log that follows a trace has of it

module _ (trace : Trace) (fences : List Numbered) (follow : fences ≡ reverse (numbered asks_for_fence trace)) where
  pub log-agrees : (count : ℕ) → Agree (records (last_after count fences)) (made_after count trace)
  log-agrees count test narrow =
      let last : List Numbered = take_while (is_after count) (numbered asks_for_fence trace) in
      let e : last_after count fences ≡ reverse last = ap (last_after count) follow ∙ last-reverse (is_after count) (numbered asks_for_fence trace) in
      ap (λ ns. list_any test (records ns)) e
      ∙ (any-map test (λ (n : Numbered). n.made) (reverse last)
      ∙ (any-reverse (λ (n : Numbered). test n.made) last
      ∙ (sym (any-map test (λ (n : Numbered). n.made) last)
      ∙ (ap (list_any test) (records-after asks_for_fence count trace)
      ∙ any-filtered test asks_for_fence narrow (made_after count trace)))))

  module _ (found : Record → Bool) (narrow : (r : Record) → found r ≡ true → begins_flush r ≡ true) (scheme : Scheme) (w : Warning) where
    pub reason-found : (count : ℕ) (o : Option Numbered) → Finds begins_flush found narrow count trace o
        → reason_from scheme w fences o ≡ reason_by scheme w.hart w.entry found (made_after count trace)
    reason-found count None none = sym (ap (λ o. reason_since scheme w.hart w.entry o (before_first found (made_after count trace))) none)
    reason-found count (Some flush) some =
        reason-in (hart_of flush.made) w.hart (last_after flush.number fences) scheme w.entry
        ∙ (same-reason (records (last_after flush.number fences)) (made_after flush.number trace) (log-agrees flush.number) (hart_of flush.made) w.hart scheme w.entry
        ∙ sym (ap (λ o. reason_since scheme w.hart w.entry o (before_first found (made_after count trace))) some.1
        ∙ ap (reason_since scheme w.hart w.entry (Some flush.made)) some.2))

    pub reason-after : (count : ℕ) (flushes : List Numbered) → flushes ≡ reverse (numbered begins_flush trace)
        → reason_from scheme w fences (newest_in found (last_after count flushes)) ≡ reason_by scheme w.hart w.entry found (made_after count trace)
    reason-after count flushes begins =
        let last : List Numbered = take_while (is_after count) (numbered begins_flush trace) in
        let e : reverse (last_after count flushes) ≡ last =
        ap (λ ns. reverse (last_after count ns)) begins ∙ (ap reverse (last-reverse (is_after count) (numbered begins_flush trace)) ∙ reverse-reverse last) in
        ap (λ ns. reason_from scheme w fences (find (λ n. found n.made) ns)) e
        ∙ reason-found count (find (λ n. found n.made) last) (finds-after begins_flush found narrow count trace)

    pub reason-whole : (flushes : List Numbered) → flushes ≡ reverse (numbered begins_flush trace)
        → reason_from scheme w fences (newest_in found flushes) ≡ reason_by scheme w.hart w.entry found trace
    reason-whole flushes begins =
        let all : List Numbered = numbered begins_flush trace in
        let e : reverse flushes ≡ take_while (is_after 0) all = ap reverse begins ∙ (reverse-reverse all ∙ sym (all-after begins_flush trace)) in
        ap (λ ns. reason_from scheme w fences (find (λ n. found n.made) ns)) e
        ∙ (reason-found 0 (find (λ n. found n.made) (take_while (is_after 0) all)) (finds-after begins_flush found narrow 0 trace)
        ∙ ap (reason_by scheme w.hart w.entry found) (after-none trace))

pub claim-begins : (token : ℕ) (r : Record) → begins_claim token r ≡ true → begins_flush r ≡ true
claim-begins token (ClaimBegin of at claim) is = refl
claim-begins token _ is = absurd (true≢false (sym is))

pub flush-begins : (x : Translation) (r : Record) → begins_flush_of x r ≡ true → begins_flush r ≡ true
flush-begins x (ClaimBegin of at claim) is = refl
flush-begins x _ is = absurd (true≢false (sym is))

pub reason_followed : (scheme : Scheme) (newest : Record) (trace : Trace) (log : Log) (w : Warning) → Follows trace log
    → reason_from scheme w log.fences.items (flush_in newest w log.flushes.items) ≡ reason_of scheme newest trace w
reason_followed scheme (ClaimEnd of token) trace log w follows =
    reason-whole trace log.fences.items follows.fences (begins_claim token) (claim-begins token) scheme w log.flushes.items follows.flushes
reason_followed scheme _ trace log w follows =
    reason-after trace log.fences.items follows.fences (begins_flush_of (shown_of w)) (flush-begins (shown_of w)) scheme w w.stale_since log.flushes.items follows.flushes
