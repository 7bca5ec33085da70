-- The warnings are those that are due.
use Rattle.std.proofs.Common.{◌≡◌, ℕ, Bool, true, false, ◌<◌, ◌≤◌, zero, suc, Option, Some, None, List, [], ◌∷◌, ◌++◌, length, get_or, ap, sym, ◌∙◌, subst, refl, inl, inr, arith}
use Rattle.std.specs.Prelude.{◌⊎◌, ◌↔◌, ◌==◌, ◌&&◌, ◌||◌, cond, not, is_some, nat_le, Contains}
use Rattle.std.specs.List.{list_any}
use Rattle.std.specs.Option.{unwrap_or}
use Rattle.std.proofs.lemmas.Bool.{and_parts, and_from, eq-eqb, eqb-true, or_cases, or_left, or_right, or_parts, not-true, not_from_false, true≢false, false_from_ne_true, cases_Bool}
use Rattle.pte.specs.declared.scheme.Scheme.{Scheme}
use Rattle.pte.specs.Entry.{is_user, may_execute, may_read, may_write}
use Rattle.pte.specs.Address.{level_of}
use Rattle.watch.specs.declared.trace.Frames.{Frames}
use Rattle.watch.specs.declared.trace.Space.{Space}
use Rattle.watch.specs.declared.trace.Verdict.{Verdict}
use Rattle.watch.specs.declared.trace.Record.{Record}
use Rattle.watch.specs.declared.trace.Record.TheVariants.{GiveBack, GiveOut, ClaimEnd, Use}
use Rattle.watch.specs.declared.trace.Verdict.TheVariants.{Free, Reuse, Claimed, Used}
use Rattle.watch.specs.Trace.{Trace, satp_of}
use Rattle.watch.specs.Holding.{Translation}
use Rattle.watch.specs.Staleness.{Stale}
use Rattle.watch.specs.Verdicts.{IsGiven, Serves, StaleSince, TakenForGone}
use Rattle.watch.specs.ComputedTraces.{has_verdict, is_held, is_live, is_new, is_stale}
use Rattle.watch.proofs.ComputedTraces.{has_held_iff, new_iff, stale_iff, verdict_iff}
use Rattle.watch.proofs.Global.{given_placed, new_placed}
use Rattle.watch.proofs.GlobalTests.{live-not_stale}
use Rattle.watch.proofs.Judged.{taken_had, verdict-stale}
use Rattle.watch_engine.specs.declared.cause.Cause.{Cause}
use Rattle.watch_engine.specs.declared.cause.Cause.TheVariants.{Back, Out, Claim, Access}
use Rattle.watch_engine.specs.declared.held.Held.{Held}
use Rattle.watch_engine.specs.declared.open.OpenClaim.{OpenClaim}
use Rattle.watch_engine.specs.declared.warning.Warning.{Warning}
use Rattle.watch.specs.Computed.{is_same}
use Rattle.watch_engine.specs.Held.{Each, IsNormalized, is_given, is_of, is_served_in, knows, normalized, own, since_after, stale_since, translation_of}
use Rattle.watch_engine.specs.Causes.{is_given_by, verdict_of}
use Rattle.watch_engine.specs.Open.{IsOpenClaim}
use Rattle.watch_engine.specs.Follows.{AreHeld, IsKnown, last_live_of, stale_since_of}
use Rattle.watch_engine.specs.Warnings.{AreApart, AreWarnings, IsDue, IsStaleFrom, Shows, StaleFrom, has_same_rights, is_line, is_same_page, is_same_scope, is_shown, joined, shown_of, warning_of, with_warning}
use Rattle.watch_engine.proofs.Lists.{bool_same, of_same, same_bool, same_size}
use Rattle.watch_engine.proofs.Moments.{since_range, stale_some}
use Rattle.watch_engine.proofs.Rechecks.{never_used}
use Rattle.watch_engine.proofs.Records.{claimed_by, freed_by, reused_by}
use Rattle.watch_engine.proofs.Steps.{known_some}
use Rattle.watch_engine.proofs.Remembering.{fine_of}

-- what one warning shows
pub line_shows : (a b : Translation) → is_line a b ≡ true → Shows a b
line_shows a b h =
    let p = and_parts (is_same_page a.entry b.entry) _ h in
    let q = and_parts (has_same_rights a.entry.flags b.entry.flags) (is_same_scope a b) p.1 in
    let page = and_parts (a.entry.page.base == b.entry.page.base) _ p.0 in
    let size = and_parts (level_of a.entry.page.size == level_of b.entry.page.size) (a.entry.ppn == b.entry.ppn) page.1 in
    let user = and_parts (is_same (is_user a.entry.flags.0) (is_user b.entry.flags.0)) _ q.0 in
    let read = and_parts (is_same (may_read a.entry.flags.0) (may_read b.entry.flags.0)) _ user.1 in
    let write = and_parts (is_same (may_write a.entry.flags.0) (may_write b.entry.flags.0)) (is_same (may_execute a.entry.flags.0) (may_execute b.entry.flags.0)) read.1 in
    let scope = and_parts (is_same a.entry.global b.entry.global) _ q.1 in
    let base : a.entry.page.base ≡ b.entry.page.base = eqb-true _ _ page.0 in
    let sizes : a.entry.page.size ≡ b.entry.page.size = same_size _ _ (eqb-true _ _ size.0) in
    let space : a.entry.global ≡ false → ((a.root == b.root) ≡ true) × ((a.entry.asid == b.entry.asid) ≡ true) =
    λ e. and_parts (a.root == b.root) (a.entry.asid == b.entry.asid) (sym (ap (λ g. g || ((a.root == b.root) && (a.entry.asid == b.entry.asid))) e) ∙ scope.1) in
    record {
      page = λ j. record { base = base j; size = sizes j };
      ppn = eqb-true _ _ size.1;
      user = same_bool _ _ user.0;
      read = same_bool _ _ read.0;
      write = same_bool _ _ write.0;
      execute = same_bool _ _ write.1;
      global = same_bool _ _ scope.0;
      root = λ e. eqb-true _ _ (space e).0;
      asid = λ e. eqb-true _ _ (space e).1;
    }

same-is : (a b : Bool) → a ≡ b → is_same a b ≡ true
same-is a b e = ap (is_same a) (sym e) ∙ bool_same a

pub shows_line : (a b : Translation) → Shows a b → is_line a b ≡ true
shows_line a b s =
    let scope : (a.entry.global || ((a.root == b.root) && (a.entry.asid == b.entry.asid))) ≡ true =
    elim (cases_Bool a.entry.global) [
      | inl all ↦ or_left _ _ all
      | inr one ↦ or_right a.entry.global _ (and_from _ _ (eq-eqb _ _ (s.root one)) (eq-eqb _ _ (s.asid one)))
    ] in
    and_from _ _ (and_from _ _ (eq-eqb _ _ (λ j. (s.page j).base)) (and_from _ _ (eq-eqb _ _ (λ j. level_of (s.page j).size)) (eq-eqb _ _ s.ppn)))
    (and_from _ _ (and_from _ _ (same-is _ _ s.user) (and_from _ _ (same-is _ _ s.read) (and_from _ _ (same-is _ _ s.write) (same-is _ _ s.execute))))
    (and_from _ _ (same-is _ _ s.global) scope))

pub shows_itself : (a : Translation) → Shows a a
shows_itself a = record { page = refl; ppn = refl; user = refl; read = refl; write = refl; execute = refl; global = refl; root = λ e. refl; asid = λ e. refl }

-- of two that show a third, one shows the other
pub shows_both : (a b x : Translation) → Shows a x → Shows b x → Shows a b
shows_both a b x s t =
    let other : a.entry.global ≡ false → b.entry.global ≡ false = λ e. t.global ∙ (sym s.global ∙ e) in
    record {
      page = s.page ∙ sym t.page;
      ppn = s.ppn ∙ sym t.ppn;
      user = s.user ∙ sym t.user;
      read = s.read ∙ sym t.read;
      write = s.write ∙ sym t.write;
      execute = s.execute ∙ sym t.execute;
      global = s.global ∙ sym t.global;
      root = λ e. s.root e ∙ sym (t.root (other e));
      asid = λ e. s.asid e ∙ sym (t.asid (other e));
    }

-- since when it is stale
stale-from : (scheme : Scheme) (trace : Trace) (hart : ℕ) (x : Translation) (n : ℕ) → stale_since_of scheme trace hart x ≡ Some n → StaleFrom scheme n trace hart x
stale-from scheme [] hart x n e = cc
stale-from scheme (newest ∷ trace) hart x n e =
    let rest = stale-from scheme trace hart x n in
    let len : ℕ = length (newest ∷ trace) in
    let Goal : Type 0 = Stale scheme (newest ∷ trace) hart x × ((length (newest ∷ trace) ≡ n) ⊎ StaleFrom scheme n trace hart x) in
    let go : (b : Bool) (o : Option ℕ) → is_stale scheme (newest ∷ trace) hart x ≡ b → stale_since_of scheme trace hart x ≡ o → since_after b len o ≡ Some n → Goal =
    λ b o. elim b as (λ b. is_stale scheme (newest ∷ trace) hart x ≡ b → stale_since_of scheme trace hart x ≡ o → since_after b len o ≡ Some n → Goal) [
      | true ↦ elim o as (λ o. is_stale scheme (newest ∷ trace) hart x ≡ true → stale_since_of scheme trace hart x ≡ o → since_after true len o ≡ Some n → Goal) [
        | None ↦ λ s i e. ((stale_iff scheme (newest ∷ trace) hart x).0 s, inl (cc))
        | Some m ↦ λ s i e. ((stale_iff scheme (newest ∷ trace) hart x).0 s, inr (rest (i ∙ e)))
      ]
      | false ↦ λ s i e. cc
    ] in
    go (is_stale scheme (newest ∷ trace) hart x) (stale_since_of scheme trace hart x) refl refl e

since-stale : (scheme : Scheme) (Happens : Record → Trace → Type 0) (trace : Trace) (hart : ℕ) (x : Translation) → StaleSince scheme Happens trace hart x → Stale scheme trace hart x
since-stale scheme Happens [] hart x s = absurd s
since-stale scheme Happens (newest ∷ trace) hart x s = s.0

some-of : (o : Option ℕ) → is_some o ≡ true → (n : ℕ) × (o ≡ Some n)
some-of None e = cc
some-of (Some n) e = (n, refl)

stale-first : (scheme : Scheme) (trace : Trace) (hart : ℕ) (x : Translation) (n m : ℕ) → stale_since_of scheme trace hart x ≡ Some n → StaleFrom scheme m trace hart x → n ≤ m
stale-first scheme [] hart x n m e s = absurd s
stale-first scheme (newest ∷ trace) hart x n m e (stale, inl now) =
    let r = since_range scheme (newest ∷ trace) hart x n e in omega (arith, now, r.1)
stale-first scheme (newest ∷ trace) hart x n m e (stale, inr before) =
    let was = since-stale scheme _ trace hart x before in
    let some = some-of (stale_since_of scheme trace hart x) (stale_some scheme trace hart x ∙ (stale_iff scheme trace hart x).1 was) in
    let now : stale_since_of scheme (newest ∷ trace) hart x ≡ Some some.0 =
    (λ j. since_after ((stale_iff scheme (newest ∷ trace) hart x).1 stale j) (length (newest ∷ trace)) (some.1 j)) in
    let same : Some n ≡ Some some.0 = sym e ∙ now in
    let is : n ≡ some.0 = cc in
    stale-first scheme trace hart x n m (some.1 ∙ ap Some (sym is)) before

pub known_since : (scheme : Scheme) (trace : Trace) (i : Held) → IsKnown scheme trace i → is_stale scheme trace i.hart (translation_of i) ≡ true → IsStaleFrom scheme (unwrap_or (stale_since i) 0) trace i.hart (translation_of i)
known_since scheme trace i known stale =
    let some = some-of (stale_since i) (known_some scheme trace i known ∙ stale) in
    let is : stale_since_of scheme trace i.hart (translation_of i) ≡ Some some.0 = sym known.since ∙ some.1 in
    subst (λ (o : Option ℕ). IsStaleFrom scheme (unwrap_or o 0) trace i.hart (translation_of i)) (sym some.1)
    (record { since = stale-from scheme trace i.hart (translation_of i) some.0 is; first = λ m s. stale-first scheme trace i.hart (translation_of i) some.0 m is s })

-- lists of warnings
abbrev pub EachWarning : (Warning → Type 0) → List Warning → Type 0
EachWarning P [] = Unit {0}
EachWarning P (w ∷ warnings) = P w × EachWarning P warnings

each_pushed : (P : Warning → Type 0) (warnings : List Warning) (w : Warning) → EachWarning P warnings → P w → EachWarning P (warnings ++ w ∷ [])
each_pushed P [] w e p = (p, tt)
each_pushed P (v ∷ warnings) w e p = (e.0, each_pushed P warnings w e.1 p)

abbrev pub PairsApart : List Warning → Type 0
PairsApart [] = Unit {0}
PairsApart (w ∷ warnings) = EachWarning (AreApart w) warnings × PairsApart warnings

apart_pushed : (warnings : List Warning) (w : Warning) → PairsApart warnings → EachWarning (λ v. AreApart v w) warnings → PairsApart (warnings ++ w ∷ [])
apart_pushed [] w p e = (tt, tt)
apart_pushed (v ∷ warnings) w p e = (each_pushed (AreApart v) warnings w p.0 e.0, apart_pushed warnings w p.1 e.1)

each_contained : (P : Warning → Type 0) (warnings : List Warning) (k : ℕ) (d : Warning) → EachWarning P warnings → k < length warnings → P (get_or warnings k d)
each_contained P [] k d e within = absurd (omega arith)
each_contained P (w ∷ warnings) zero d e within = e.0
each_contained P (w ∷ warnings) (suc k) d e within = each_contained P warnings k d e.1 (omega arith)

pub pairs_all : (warnings : List Warning) → PairsApart warnings → (i j : ℕ) (d : Warning) → i < j → j < length warnings → AreApart (get_or warnings i d) (get_or warnings j d)
pairs_all [] p i j d less within = absurd (omega arith)
pairs_all (w ∷ warnings) p i zero d less within = absurd (omega arith)
pairs_all (w ∷ warnings) p zero (suc j) d less within = each_contained (AreApart w) warnings j d p.0 (omega arith)
pairs_all (w ∷ warnings) p (suc i) (suc j) d less within = pairs_all warnings p.1 i j d (omega arith) (omega arith)

any_at : (p : Warning → Bool) (warnings : List Warning) → list_any p warnings ≡ true → (w : Warning) × Contains warnings w × (p w ≡ true)
any_at p [] h = cc
any_at p (v ∷ warnings) h =
    elim (or_cases (p v) (list_any p warnings) h) [
      | inl here ↦ (v, (0, omega arith, refl), here)
      | inr there ↦ let at = any_at p warnings there in (at.0, (suc at.1.0, omega (arith, at.1.1), at.1.2), at.2)
    ]

any_pushed : (p : Warning → Bool) (warnings : List Warning) (w : Warning) → list_any p warnings ≡ true → list_any p (warnings ++ w ∷ []) ≡ true
any_pushed p [] w h = cc
any_pushed p (v ∷ warnings) w h =
    elim (or_cases (p v) (list_any p warnings) h) [
      | inl here ↦ or_left _ _ here
      | inr there ↦ or_right (p v) _ (any_pushed p warnings w there)
    ]

any_last : (p : Warning → Bool) (warnings : List Warning) (w : Warning) → p w ≡ true → list_any p (warnings ++ w ∷ []) ≡ true
any_last p [] w h = or_left _ _ h
any_last p (v ∷ warnings) w h = or_right (p v) _ (any_last p warnings w h)

none_each : (p : Warning → Bool) (P : Warning → Type 0) (f : (v : Warning) → p v ≡ false → P v) (warnings : List Warning) → list_any p warnings ≡ false → EachWarning P warnings
none_each p P f [] h = tt
none_each p P f (v ∷ warnings) h = let parts = or_parts (p v) (list_any p warnings) h in (f v parts.0, none_each p P f warnings parts.1)

shows-own : (i : Held) (v : Verdict) → is_shown i (warning_of v i) ≡ true
shows-own i v = and_from _ _ (eq-eqb i.hart i.hart refl) (shows_line (translation_of i) (translation_of i) (shows_itself (translation_of i)))

module _ (cause : Cause) where
  add-each : (P : Warning → Type 0) (i : Held) (warnings : List Warning) → (is_given_by cause i ≡ true → P (warning_of (verdict_of cause) i)) → EachWarning P warnings → EachWarning P (with_warning cause i warnings)
  add-each P i warnings f e =
      let go : (b : Bool) → (is_given_by cause i && not (list_any (is_shown i) warnings)) ≡ b → EachWarning P (cond b (warnings ++ warning_of (verdict_of cause) i ∷ []) warnings) =
      λ b. elim b as (λ b. (is_given_by cause i && not (list_any (is_shown i) warnings)) ≡ b → EachWarning P (cond b (warnings ++ warning_of (verdict_of cause) i ∷ []) warnings)) [
        | true ↦ λ t. each_pushed P warnings (warning_of (verdict_of cause) i) e (f (and_parts (is_given_by cause i) _ t).0)
        | false ↦ λ t. e
      ] in
      go (is_given_by cause i && not (list_any (is_shown i) warnings)) refl

  pub joined_each : (K : Held → Type 0) (P : Warning → Type 0) → ((i : Held) → K i → is_given_by cause i ≡ true → P (warning_of (verdict_of cause) i)) → (held : List Held) (warnings : List Warning) → Each K held → EachWarning P warnings
      → EachWarning P (joined cause held warnings)
  joined_each K P f [] warnings k e = e
  joined_each K P f (i ∷ held) warnings k e = joined_each K P f held (with_warning cause i warnings) k.1 (add-each P i warnings (f i k.0) e)

  add-any : (p : Warning → Bool) (i : Held) (warnings : List Warning) → list_any p warnings ≡ true → list_any p (with_warning cause i warnings) ≡ true
  add-any p i warnings h =
      elim (is_given_by cause i && not (list_any (is_shown i) warnings)) as (λ b. list_any p (cond b (warnings ++ warning_of (verdict_of cause) i ∷ []) warnings) ≡ true) [
        | true ↦ any_pushed p warnings (warning_of (verdict_of cause) i) h
        | false ↦ h
      ]

  joined-any : (p : Warning → Bool) (held : List Held) (warnings : List Warning) → list_any p warnings ≡ true → list_any p (joined cause held warnings) ≡ true
  joined-any p [] warnings h = h
  joined-any p (i ∷ held) warnings h = joined-any p held (with_warning cause i warnings) (add-any p i warnings h)

  add-own : (i : Held) (warnings : List Warning) → is_given_by cause i ≡ true → list_any (is_shown i) (with_warning cause i warnings) ≡ true
  add-own i warnings given =
      elim (cases_Bool (list_any (is_shown i) warnings)) [
        | inl shown ↦ add-any (is_shown i) i warnings shown
        | inr not_shown ↦
            (λ j. list_any (is_shown i) (cond (and_from _ _ given (not_from_false _ not_shown) j) (warnings ++ warning_of (verdict_of cause) i ∷ []) warnings))
            ∙ any_last (is_shown i) warnings (warning_of (verdict_of cause) i) (shows-own i (verdict_of cause))
      ]

  pub joined_all : (K : Held → Type 0) (hart : ℕ) (x : Translation) (n : ℕ) → ((i : Held) → K i → is_of hart x i ≡ true → is_given_by cause i ≡ true) → (held : List Held) (warnings : List Warning) → Each K held → knows hart x n held ≡ true
      → list_any (λ w. (w.hart == hart) && is_line (shown_of w) x) (joined cause held warnings) ≡ true
  joined_all K hart x n f [] warnings k h = cc
  joined_all K hart x n f (i ∷ held) warnings k h =
      elim (or_cases (is_of hart x i && nat_le n i.last_live) (knows hart x n held) h) [
        | inl here ↦
            let of = (and_parts (is_of hart x i) (nat_le n i.last_live) here).0 in
            let same = of_same hart x i of in
            let own_line = add-own i warnings (f i k.0 of) in
            joined-any _ held (with_warning cause i warnings)
            ((λ j. list_any (λ w. (w.hart == sym same.hart j) && is_line (shown_of w) (sym same.translation j)) (with_warning cause i warnings)) ∙ own_line)
        | inr there ↦ joined_all K hart x n f held (with_warning cause i warnings) k.1 there
      ]

  add-apart : (i : Held) (warnings : List Warning) → PairsApart warnings → PairsApart (with_warning cause i warnings)
  add-apart i warnings p =
      let go : (b : Bool) → (is_given_by cause i && not (list_any (is_shown i) warnings)) ≡ b → PairsApart (cond b (warnings ++ warning_of (verdict_of cause) i ∷ []) warnings) =
      λ b. elim b as (λ b. (is_given_by cause i && not (list_any (is_shown i) warnings)) ≡ b → PairsApart (cond b (warnings ++ warning_of (verdict_of cause) i ∷ []) warnings)) [
        | true ↦ λ t.
            let none = not-true _ (and_parts (is_given_by cause i) (not (list_any (is_shown i) warnings)) t).1 in
            apart_pushed warnings (warning_of (verdict_of cause) i) p
            (none_each (is_shown i) (λ v. AreApart v (warning_of (verdict_of cause) i))
            (λ v not_shown same hart x a b. true≢false (sym (and_from _ _ (eq-eqb v.hart i.hart hart) (shows_line (shown_of v) (translation_of i) (shows_both (shown_of v) (translation_of i) x a b))) ∙ not_shown)) warnings none)
        | false ↦ λ t. p
      ] in
      go (is_given_by cause i && not (list_any (is_shown i) warnings)) refl

  pub joined_apart : (held : List Held) (warnings : List Warning) → PairsApart warnings → PairsApart (joined cause held warnings)
  joined_apart [] warnings p = p
  joined_apart (i ∷ held) warnings p = joined_apart held (with_warning cause i warnings) (add-apart i warnings p)

-- what is global is due whatever its root and its ASID
own-twice : (b : Bool) (n : ℕ) → own b (own b n) ≡ own b n
own-twice true n = refl
own-twice false n = refl

normalized_twice : (x : Translation) → IsNormalized (normalized x)
normalized_twice x = λ j. record { root = own-twice x.entry.global x.root j; entry = record x.entry { asid = own-twice x.entry.global x.entry.asid j } }

due-at : (scheme : Scheme) (v : Verdict) (newest : Record) (trace : Trace) (hart : ℕ) (x : Translation) (b : Bool) → x.entry.global ≡ b → IsDue scheme v newest trace hart x → IsDue scheme v newest trace hart (record { root = own b x.root; entry = record x.entry { asid = own b x.entry.asid } })
due-at scheme v newest trace hart x true is due = record { given = (given_placed scheme trace hart x 0 0 is v newest).1 due.given; fresh = (new_placed scheme trace hart x 0 0 is v).1 due.fresh }
due-at scheme v newest trace hart x false is due = due

due_normalized : (scheme : Scheme) (v : Verdict) (newest : Record) (trace : Trace) (hart : ℕ) (x : Translation) → IsDue scheme v newest trace hart x → IsDue scheme v newest trace hart (normalized x)
due_normalized scheme v newest trace hart x due = due-at scheme v newest trace hart x x.entry.global refl due

shows_normalized : (a x : Translation) → Shows a (normalized x) → Shows a x
shows_normalized a x s =
    let local : a.entry.global ≡ false → x.entry.global ≡ false = λ e. sym s.global ∙ e in
    record {
      page = s.page;
      ppn = s.ppn;
      user = s.user;
      read = s.read;
      write = s.write;
      execute = s.execute;
      global = s.global;
      root = λ e. s.root e ∙ ap (λ b. own b x.root) (local e);
      asid = λ e. s.asid e ∙ ap (λ b. own b x.entry.asid) (local e);
    }

-- where the cause is of what is due, the warnings are
module _ (scheme : Scheme) (newest : Record) (trace : Trace) (cause : Cause) where
  pub record Causes : Type 0 where
    pub due : (i : Held) → IsKnown scheme trace i → IsDue scheme (verdict_of cause) newest trace i.hart (translation_of i) ↔ (is_given_by cause i ≡ true)
    pub only : (v : Verdict) (hart : ℕ) (x : Translation) → IsGiven scheme v newest trace hart x → v ≡ verdict_of cause

  module _ (IsLeft : ℕ → Translation → ℕ → Type 0) (causes : Causes) (held : List Held) (are : AreHeld scheme trace IsLeft held) where
    abbrev Right : Warning → Type 0
    Right w = (w.verdict ≡ verdict_of cause) × (IsDue scheme w.verdict newest trace w.hart (shown_of w) × IsStaleFrom scheme w.stale_since trace w.hart (shown_of w))

    all_right : EachWarning Right (joined cause held [])
    all_right =
        joined_each cause (IsKnown scheme trace) Right
        (λ i known given.
        let due = (causes.due i known).1 given in
        let stale = (stale_iff scheme trace i.hart (translation_of i)).1 (verdict-stale scheme (verdict_of cause) newest trace i.hart (translation_of i) due.given) in
        (refl, (due, known_since scheme trace i known stale))) held [] are.each tt

    -- what is due of a translation has its warning
    has_warning : (hart : ℕ) (x : Translation) → IsNormalized x → IsDue scheme (verdict_of cause) newest trace hart x
        → (w : Warning) × Contains (joined cause held []) w × (w.verdict ≡ verdict_of cause) × (w.hart ≡ hart) × Shows (shown_of w) x
    has_warning hart x norm due =
        let v : Verdict = verdict_of cause in
        let stale : is_stale scheme trace hart x ≡ true = (stale_iff scheme trace hart x).1 (verdict-stale scheme v newest trace hart x due.given) in
        let held_now : is_held scheme trace hart x ≡ true = (and_parts (is_held scheme trace hart x) _ stale).0 in
        let dead : is_live scheme trace hart x ≡ false = false_from_ne_true _ (λ live. true≢false (sym stale ∙ live-not_stale scheme trace hart x live)) in
        let n : ℕ = last_live_of scheme trace hart x in
        let known : knows hart x n held ≡ true = elim (are.all hart x norm held_now dead) [
          | inl known ↦ known
          | inr left ↦ absurd (true≢false (sym stale ∙ fine_of scheme trace hart x n (are.left hart x n left)))
        ] in
        let any = joined_all cause (IsKnown scheme trace) hart x n
        (λ i known of.
        let same = of_same hart x i of in
        (causes.due i known).0 (subst (λ h. IsDue scheme v newest trace h (translation_of i)) (sym same.hart) (subst (λ (y : Translation). IsDue scheme v newest trace hart y) (sym same.translation) due)))
        held [] are.each known in
        let at = any_at (λ w. (w.hart == hart) && is_line (shown_of w) x) (joined cause held []) any in
        let parts = and_parts (at.0.hart == hart) (is_line (shown_of at.0) x) at.2 in
        let verdict : at.0.verdict ≡ v = subst (λ (w : Warning). w.verdict ≡ v) at.1.2 (each_contained Right (joined cause held []) at.1.0 at.0 all_right at.1.1).0 in
        (at.0, at.1, verdict, eqb-true _ _ parts.0, line_shows (shown_of at.0) x parts.1)

    pub are_warnings : AreWarnings scheme newest trace (joined cause held [])
    are_warnings = record {
      each = λ w c. subst (λ (u : Warning). IsDue scheme u.verdict newest trace u.hart (shown_of u) × IsStaleFrom scheme u.stale_since trace u.hart (shown_of u)) c.2 (each_contained Right (joined cause held []) c.0 w all_right c.1).1;
      all = λ u hart x due.
          let is : u ≡ verdict_of cause = causes.only u hart x due.given in
          let mine : IsDue scheme (verdict_of cause) newest trace hart x = subst (λ u. IsDue scheme u newest trace hart x) is due in
          let w = has_warning hart (normalized x) (normalized_twice x) (due_normalized scheme (verdict_of cause) newest trace hart x mine) in
          (w.0, w.1, w.2 ∙ sym is, w.3, shows_normalized (shown_of w.0) x w.4);
      once = pairs_all (joined cause held []) (joined_apart cause held [] tt);
    }

-- the causes
and_due : (scheme : Scheme) (v : Verdict) (newest : Record) (trace : Trace) (hart : ℕ) (x : Translation) → IsDue scheme v newest trace hart x ↔ ((has_verdict scheme v newest trace hart x && is_new scheme v trace hart x) ≡ true)
and_due scheme v newest trace hart x = (
  (λ d. and_from _ _ ((verdict_iff scheme v newest trace hart x).1 d.given) ((new_iff scheme v trace hart x).1 d.fresh)),
  (λ h. let p = and_parts (has_verdict scheme v newest trace hart x) _ h in record { given = (verdict_iff scheme v newest trace hart x).0 p.0; fresh = (new_iff scheme v trace hart x).0 p.1 }),
)

by_test : (A : Type 0) (a b : Bool) → (A ↔ (a ≡ true)) → b ≡ a → A ↔ (b ≡ true)
by_test A a b p e = ((λ x. e ∙ p.0 x), (λ h. p.1 (sym e ∙ h)))

only-free : (scheme : Scheme) (by : ℕ) (frames : Frames) (trace : Trace) (v : Verdict) (hart : ℕ) (x : Translation) → IsGiven scheme v (GiveBack by frames) trace hart x → v ≡ Free
only-free scheme by frames trace Free hart x g = refl
only-free scheme by frames trace Reuse hart x g = absurd g
only-free scheme by frames trace Claimed hart x g = absurd g
only-free scheme by frames trace Used hart x g = absurd g

only-reuse : (scheme : Scheme) (by : ℕ) (frames : Frames) (trace : Trace) (v : Verdict) (hart : ℕ) (x : Translation) → IsGiven scheme v (GiveOut by frames) trace hart x → v ≡ Reuse
only-reuse scheme by frames trace Free hart x g = absurd g
only-reuse scheme by frames trace Reuse hart x g = refl
only-reuse scheme by frames trace Claimed hart x g = absurd g
only-reuse scheme by frames trace Used hart x g = absurd g

only-claimed : (scheme : Scheme) (by token : ℕ) (trace : Trace) (v : Verdict) (hart : ℕ) (x : Translation) → IsGiven scheme v (ClaimEnd by token) trace hart x → v ≡ Claimed
only-claimed scheme by token trace Free hart x g = absurd g
only-claimed scheme by token trace Reuse hart x g = absurd g
only-claimed scheme by token trace Claimed hart x g = refl
only-claimed scheme by token trace Used hart x g = absurd g

only-used : (scheme : Scheme) (by address : ℕ) (trace : Trace) (v : Verdict) (hart : ℕ) (x : Translation) → IsGiven scheme v (Use by address) trace hart x → v ≡ Used
only-used scheme by address trace Free hart x g = absurd g
only-used scheme by address trace Reuse hart x g = absurd g
only-used scheme by address trace Claimed hart x g = absurd g
only-used scheme by address trace Used hart x g = refl

pub back_causes : (scheme : Scheme) (by : ℕ) (frames : Frames) (trace : Trace) → Causes scheme (GiveBack by frames) trace (Back frames)
back_causes scheme by frames trace = record {
  due = λ i known. by_test _ _ _ (and_due scheme Free (GiveBack by frames) trace i.hart (translation_of i)) (λ j. freed_by scheme trace by frames i known j && not (known.given Free refl j));
  only = only-free scheme by frames trace;
}

pub out_causes : (scheme : Scheme) (by : ℕ) (frames : Frames) (trace : Trace) → Causes scheme (GiveOut by frames) trace (Out frames)
out_causes scheme by frames trace = record {
  due = λ i known. by_test _ _ _ (and_due scheme Reuse (GiveOut by frames) trace i.hart (translation_of i)) (λ j. reused_by scheme trace by frames i known j && not (known.given Reuse refl j));
  only = only-reuse scheme by frames trace;
}

pub claim_causes : (scheme : Scheme) (by token : ℕ) (trace : Trace) (found : Option OpenClaim) → IsOpenClaim trace token found → Causes scheme (ClaimEnd by token) trace (Claim found)
claim_causes scheme by token trace found begun = record {
  due = λ i known. by_test _ _ _ (and_due scheme Claimed (ClaimEnd by token) trace i.hart (translation_of i)) (λ j. claimed_by scheme trace by token found i begun known j && not (known.given Claimed refl j));
  only = only-claimed scheme by token trace;
}

serves-in : (trace : Trace) (hart address : ℕ) (i : Held) (o : Option Space) → satp_of trace hart ≡ o → Serves trace hart address (translation_of i) → is_served_in o address i ≡ true
serves-in trace hart address i o is s = ap (λ o. is_served_in o address i) (sym is ∙ s.satp) ∙ s.«match»

in-serves : (trace : Trace) (hart address : ℕ) (i : Held) (o : Option Space) → satp_of trace hart ≡ o → is_served_in o address i ≡ true → Serves trace hart address (translation_of i)
in-serves trace hart address i None is h = cc
in-serves trace hart address i (Some space) is h = record { space = space; satp = is; «match» = h }

pub use_causes : (scheme : Scheme) (by address : ℕ) (trace : Trace) (space : Option Space) → satp_of trace by ≡ space → Causes scheme (Use by address) trace (Access by space address)
use_causes scheme by address trace space satp = record {
  due = λ i known.
      let x : Translation = translation_of i in
      let had = taken_had scheme trace i.hart x in (
        (λ d.
            let g = d.given in
            let here : satp_of trace i.hart ≡ space = subst (λ h. satp_of trace h ≡ space) g.0 satp in
            let marks : (is_given Free i || is_given Claimed i) ≡ true = elim (had.0 g.1) [
              | inl f ↦ or_left _ _ (known.given Free refl ∙ (has_held_iff scheme Free trace i.hart x).1 f)
              | inr c ↦ or_right (is_given Free i) _ (known.given Claimed refl ∙ (has_held_iff scheme Claimed trace i.hart x).1 c)
            ] in
            and_from _ _ (and_from _ _ (eq-eqb by i.hart g.0) (and_from _ _ marks (serves-in trace i.hart address i space here g.2))) (ap not (never_used i.state))),
        (λ h.
            let p = and_parts ((by == i.hart) && ((is_given Free i || is_given Claimed i) && is_served_in space address i)) _ h in
            let q = and_parts (by == i.hart) _ p.0 in
            let r = and_parts (is_given Free i || is_given Claimed i) (is_served_in space address i) q.1 in
            let same : by ≡ i.hart = eqb-true _ _ q.0 in
            let here : satp_of trace i.hart ≡ space = subst (λ h. satp_of trace h ≡ space) same satp in
            let taken : TakenForGone scheme trace i.hart x = had.1 (elim (or_cases (is_given Free i) (is_given Claimed i) r.0) [
              | inl f ↦ inl ((has_held_iff scheme Free trace i.hart x).0 (sym (known.given Free refl) ∙ f))
              | inr c ↦ inr ((has_held_iff scheme Claimed trace i.hart x).0 (sym (known.given Claimed refl) ∙ c))
            ]) in
            record { given = (same, taken, in-serves trace i.hart address i space here r.1); fresh = tt }),
      );
  only = only-used scheme by address trace;
}

-- records at which no verdict is given
abbrev pub is_quiet : Record → Bool
is_quiet (GiveOut hart frames) = false
is_quiet (GiveBack hart frames) = false
is_quiet (ClaimEnd hart token) = false
is_quiet (Use hart address) = false
is_quiet _ = true

quiet-free : (scheme : Scheme) (newest : Record) (trace : Trace) (hart : ℕ) (x : Translation) → is_quiet newest ≡ true → IsGiven scheme Free newest trace hart x → ⊥
quiet-free scheme (GiveBack by frames) trace hart x q g = cc
quiet-free scheme _ trace hart x q g = g

quiet-reuse : (scheme : Scheme) (newest : Record) (trace : Trace) (hart : ℕ) (x : Translation) → is_quiet newest ≡ true → IsGiven scheme Reuse newest trace hart x → ⊥
quiet-reuse scheme (GiveOut by frames) trace hart x q g = cc
quiet-reuse scheme _ trace hart x q g = g

quiet-claimed : (scheme : Scheme) (newest : Record) (trace : Trace) (hart : ℕ) (x : Translation) → is_quiet newest ≡ true → IsGiven scheme Claimed newest trace hart x → ⊥
quiet-claimed scheme (ClaimEnd by token) trace hart x q g = cc
quiet-claimed scheme _ trace hart x q g = g

quiet-used : (scheme : Scheme) (newest : Record) (trace : Trace) (hart : ℕ) (x : Translation) → is_quiet newest ≡ true → IsGiven scheme Used newest trace hart x → ⊥
quiet-used scheme (Use by address) trace hart x q g = cc
quiet-used scheme _ trace hart x q g = g

quiet-none : (scheme : Scheme) (v : Verdict) (newest : Record) (trace : Trace) (hart : ℕ) (x : Translation) → is_quiet newest ≡ true → IsGiven scheme v newest trace hart x → ⊥
quiet-none scheme Free newest trace hart x q g = quiet-free scheme newest trace hart x q g
quiet-none scheme Reuse newest trace hart x q g = quiet-reuse scheme newest trace hart x q g
quiet-none scheme Claimed newest trace hart x q g = quiet-claimed scheme newest trace hart x q g
quiet-none scheme Used newest trace hart x q g = quiet-used scheme newest trace hart x q g

pub no_warnings : (scheme : Scheme) (newest : Record) (trace : Trace) (warnings : List Warning) → is_quiet newest ≡ true → warnings ≡ [] → AreWarnings scheme newest trace warnings
no_warnings scheme newest trace warnings q none =
    subst (AreWarnings scheme newest trace) (sym none) (record {
      each = λ w c. let within = c.1 in absurd (omega arith);
      all = λ v hart x due. absurd (quiet-none scheme v newest trace hart x q due.given);
      once = λ i j d less within. absurd (omega arith);
    })
