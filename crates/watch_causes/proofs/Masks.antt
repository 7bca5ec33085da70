-- The harts that a flush asked for a fence, from the log.
use Rattle.std.proofs.Common.{◌≡◌, ◌∙◌, ℕ, Bool, true, false, List, [], ◌∷◌, ◌++◌, Option, Some, None, ap, sym, refl, inl, inr, reverse, filter}
use Rattle.std.specs.Prelude.{bit_or, cond, find, take_while}
use Rattle.std.specs.List.{before_first, list_any}
use Rattle.std.proofs.lemmas.Bool.{cases_Bool, true≢false}
use Rattle.std.proofs.lemmas.List.{reverse-append, reverse-reverse}
use Rattle.watch.specs.declared.trace.Record.{Record}
use Rattle.watch.specs.declared.trace.Record.TheVariants.{ClaimEnd}
use Rattle.watch.specs.Trace.{Trace, begins_claim, hart_of}
use Rattle.watch_engine.specs.declared.warning.Warning.{Warning}
use Rattle.watch_engine.specs.Warnings.{shown_of}
use Rattle.watch_causes.specs.declared.log.Log.{Log}
use Rattle.watch_causes.specs.declared.log.Numbered.{Numbered}
use Rattle.watch_causes.specs.Fenced.{fenced_by, fenced_of, fenced_since, harts_among, harts_of}
use Rattle.watch_causes.specs.Logs.{Follows, asks_for_fence, begins_flush, flush_in, is_after, last_after, newest_in, numbered, records}
use Rattle.watch_causes.specs.Masks.{asked_from, fenced_from, mask_in}
use Rattle.watch_causes.specs.Reasons.{asked_by, asks_others, begins_flush_of, is_asked, made_after}
use Rattle.watch_causes.proofs.Lists.{any-map, last-reverse}
use Rattle.watch_causes.proofs.Numbering.{Finds, after-none, all-after, finds-after, records-after}
use Rattle.watch_causes.proofs.Reasoning.{asked-asks, claim-begins, flush-begins, log-agrees, others-asks}

-- a filter after one that passes more
filter-filter : {A : Type 0} (test only : A → Bool) → ((x : A) → test x ≡ true → only x ≡ true) → (xs : List A) → filter test (filter only xs) ≡ filter test xs
filter-filter test only narrow [] = refl
filter-filter test only narrow (x ∷ xs) =
    elim (cases_Bool (only x)) [
      | inl passes ↦
          ap (λ b. filter test (cond b (x ∷ filter only xs) (filter only xs))) passes
          ∙ ap (λ ys. cond (test x) (x ∷ ys) ys) (filter-filter test only narrow xs)
      | inr fails ↦
          ap (λ b. filter test (cond b (x ∷ filter only xs) (filter only xs))) fails
          ∙ (filter-filter test only narrow xs
          ∙ elim (cases_Bool (test x)) [
            | inl is ↦ absurd (true≢false (sym (narrow x is) ∙ fails))
            | inr is ↦ sym (ap (λ b. cond b (x ∷ filter test xs) (filter test xs)) is)
          ])
    ]

module _ (others : Bool) (flusher hart : ℕ) where
  abbrev asked : Record → Bool
  asked = is_asked others flusher hart

  abbrev step : Numbered → ℕ → ℕ
  step n harts = cond (asked n.made) (bit_or (harts_of n.made) harts) harts

  from-append : (harts : ℕ) (xs : List Numbered) (n : Numbered) → asked_from others flusher hart harts (xs ++ n ∷ []) ≡ step n (asked_from others flusher hart harts xs)
  from-append harts [] n = refl
  from-append harts (x ∷ xs) n = from-append (step x harts) xs n

  -- from the oldest on, the same as from the newest on
  from-oldest : (ns : List Numbered) → asked_from others flusher hart 0 (reverse ns) ≡ harts_among (filter asked (records ns))
  from-oldest [] = refl
  from-oldest (n ∷ ns) =
      ap (asked_from others flusher hart 0) (reverse-append (n ∷ []) ns)
      ∙ (from-append 0 (reverse ns) n
      ∙ (ap (step n) (from-oldest ns)
      ∙ elim (asked n.made) as (λ b. cond b (bit_or (harts_of n.made) (harts_among (filter asked (records ns)))) (harts_among (filter asked (records ns))) ≡ harts_among (cond b (n.made ∷ filter asked (records ns)) (filter asked (records ns)))) [
        | true ↦ refl
        | false ↦ refl
      ]))

module _ (trace : Trace) (fences : List Numbered) (follow : fences ≡ reverse (numbered asks_for_fence trace)) where
  mask-after : (count flusher hart : ℕ) → mask_in flusher hart (last_after count fences) ≡ harts_among (asked_by flusher hart (made_after count trace))
  mask-after count flusher hart =
      let made : List Record = made_after count trace in
      let last : List Numbered = take_while (is_after count) (numbered asks_for_fence trace) in
      let e : last_after count fences ≡ reverse last = ap (last_after count) follow ∙ last-reverse (is_after count) (numbered asks_for_fence trace) in
      let others : list_any (λ (n : Numbered). asks_others flusher n.made) (last_after count fences) ≡ list_any (asks_others flusher) made =
      sym (any-map (asks_others flusher) (λ (n : Numbered). n.made) (last_after count fences)) ∙ log-agrees trace fences follow count (asks_others flusher) (others-asks flusher) in
      let o : Bool = list_any (asks_others flusher) made in
      ap (λ b. asked_from b flusher hart 0 (last_after count fences)) others
      ∙ (ap (asked_from o flusher hart 0) e
      ∙ (from-oldest o flusher hart last
      ∙ ap harts_among
      (ap (filter (is_asked o flusher hart)) (records-after asks_for_fence count trace)
      ∙ filter-filter (is_asked o flusher hart) asks_for_fence (asked-asks o flusher hart) made)))

  module _ (found : Record → Bool) (narrow : (r : Record) → found r ≡ true → begins_flush r ≡ true) (w : Warning) where
    fenced-found : (count : ℕ) (o : Option Numbered) → Finds begins_flush found narrow count trace o
        → fenced_from w fences o ≡ fenced_by w.hart found (made_after count trace)
    fenced-found count None none = sym (ap (λ o. fenced_since w.hart o (before_first found (made_after count trace))) none)
    fenced-found count (Some flush) some =
        mask-after flush.number (hart_of flush.made) w.hart
        ∙ sym (ap (λ o. fenced_since w.hart o (before_first found (made_after count trace))) some.1
        ∙ ap (fenced_since w.hart (Some flush.made)) some.2)

    fenced-after : (count : ℕ) (flushes : List Numbered) → flushes ≡ reverse (numbered begins_flush trace)
        → fenced_from w fences (newest_in found (last_after count flushes)) ≡ fenced_by w.hart found (made_after count trace)
    fenced-after count flushes begins =
        let last : List Numbered = take_while (is_after count) (numbered begins_flush trace) in
        let e : reverse (last_after count flushes) ≡ last =
        ap (λ ns. reverse (last_after count ns)) begins ∙ (ap reverse (last-reverse (is_after count) (numbered begins_flush trace)) ∙ reverse-reverse last) in
        ap (λ ns. fenced_from w fences (find (λ n. found n.made) ns)) e
        ∙ fenced-found count (find (λ n. found n.made) last) (finds-after begins_flush found narrow count trace)

    fenced-whole : (flushes : List Numbered) → flushes ≡ reverse (numbered begins_flush trace)
        → fenced_from w fences (newest_in found flushes) ≡ fenced_by w.hart found trace
    fenced-whole flushes begins =
        let all : List Numbered = numbered begins_flush trace in
        let e : reverse flushes ≡ take_while (is_after 0) all = ap reverse begins ∙ (reverse-reverse all ∙ sym (all-after begins_flush trace)) in
        ap (λ ns. fenced_from w fences (find (λ n. found n.made) ns)) e
        ∙ (fenced-found 0 (find (λ n. found n.made) (take_while (is_after 0) all)) (finds-after begins_flush found narrow 0 trace)
        ∙ ap (fenced_by w.hart found) (after-none trace))

pub fenced_followed : (newest : Record) (trace : Trace) (log : Log) (w : Warning) → Follows trace log
    → fenced_from w log.fences.items (flush_in newest w log.flushes.items) ≡ fenced_of newest trace w
fenced_followed (ClaimEnd of token) trace log w follows =
    fenced-whole trace log.fences.items follows.fences (begins_claim token) (claim-begins token) w log.flushes.items follows.flushes
fenced_followed _ trace log w follows =
    fenced-after trace log.fences.items follows.fences (begins_flush_of (shown_of w)) (flush-begins (shown_of w)) w w.stale_since log.flushes.items follows.flushes
