-- What the worked traces of warnings give, computed record by record.
use Rattle.std.proofs.Common.{◌≡◌, ℕ, true, false, List, [], ◌∷◌, ◌++◌, length, sym, refl, arith, ◌∙◌}
use Rattle.std.specs.List.{AllPairs}
use Rattle.std.proofs.lemmas.Bool.{true≢false}
use Rattle.pte.specs.declared.scheme.Scheme.TheVariants.{Sv39}
use Rattle.pte.specs.Address.{level_of}
use Rattle.pte.specs.declared.address.PageSize.TheVariants.{Kib4}
use Rattle.pte.specs.Entry.{kind_of}
use Rattle.watch.specs.declared.trace.Record.{Record}
use Rattle.watch.specs.declared.trace.Record.TheVariants.{Use}
use Rattle.watch.specs.declared.trace.Verdict.{Verdict}
use Rattle.watch.specs.declared.trace.Verdict.TheVariants.{Claimed, Free, Reuse, Used}
use Rattle.watch.specs.Trace.{Trace}
use Rattle.watch.specs.Holding.{MayHold, Translation}
use Rattle.watch.specs.Verdicts.{IsGiven}
use Rattle.watch.specs.WorkedTraces.{first_space, flags, full_fence, given_back, given_out, page, page_fence, read_only, returns_from_flush, flushes, trace_of, writable, leaf_cleared}
use Rattle.watch.specs.WorkedTraces as records
use Rattle.watch.specs.ComputedTraces.{is_stale}
use Rattle.watch_engine.specs.declared.warning.Warning.{Warning}
use Rattle.watch_engine.specs.Warnings.{AreApart, IsDue, IsStaleFrom, shown_of}
use Rattle.watch_engine.specs.WorkedWarnings.{AreGiven, AreNotGiven, AreShownApart, AreShownByOne, BeganAt, DidNotBeginAt, free_warning, without_a_and_d, warning, with_asid, with_ppn}
use Rattle.watch_engine.specs.WorkedWarnings as worked
use Rattle.watch_engine.proofs.WarningLaws.{itself, with_rights}
use Rattle.watch_engine.proofs.OnePage.{Among, Candidate}
use Rattle.watch_engine.proofs.WarnedPages.{one_page, two_pages, two_asids, of_not_fenced, of_unmapped, of_given_back, of_used, of_flushed, of_fenced, of_touched, of_moved, of_protected, of_two_asids}
use Rattle.watch_engine.proofs.WarningTests.{AllRight, AllShown, IsShown, apart_by_hart, are_warnings, began, began_otherwise, begun, due_by, first_not_due, first_not_from, is_due, never_began, no_pairs, not_due, one_alone, only_claimed, only_free, only_reuse, only_used, other_length, two_apart}

pub other_base : worked.other_base
unfolding AreShownApart
other_base s = let e : 0x1000 ≡ 0x2000 = λ j. (s.page j).base in omega (arith, e)

pub other_size : worked.other_size
unfolding AreShownApart
other_size s = let e : 1 ≡ 0 = λ j. level_of (s.page j).size in omega (arith, e)

pub other_ppn : worked.other_ppn
unfolding AreShownApart
other_ppn s = let e : 0x100 ≡ 0x101 = s.ppn in omega (arith, e)

pub other_user : worked.other_user
unfolding AreShownApart
other_user s = true≢false s.user

pub other_write : worked.other_write
unfolding AreShownApart
other_write s = true≢false s.write

pub other_execute : worked.other_execute
unfolding AreShownApart
other_execute s = true≢false (sym s.execute)

pub other_read : worked.other_read
unfolding AreShownApart
other_read s = true≢false s.read

pub other_global : worked.other_global
unfolding AreShownApart
other_global s = true≢false (sym s.global)

pub other_root : worked.other_root
unfolding AreShownApart
other_root s = let e : 0x80000 ≡ 0x80010 = s.root refl in omega (arith, e)

pub other_asid : worked.other_asid
unfolding AreShownApart
other_asid s = let e : 1 ≡ 2 = s.asid refl in omega (arith, e)

pub not_accessed : worked.not_accessed
unfolding AreShownByOne
not_accessed = with_rights (page writable) (flags 0x96) refl refl refl refl

pub not_dirty : worked.not_dirty
unfolding AreShownByOne
not_dirty = with_rights (page writable) (flags 0x56) refl refl refl refl

pub neither_accessed_nor_dirty : worked.neither_accessed_nor_dirty
unfolding AreShownByOne
neither_accessed_nor_dirty = with_rights (page writable) (flags 0x16) refl refl refl refl

pub global_elsewhere : worked.global_elsewhere
unfolding AreShownByOne
global_elsewhere = record { page = refl; ppn = refl; user = refl; read = refl; write = refl; execute = refl; global = refl; root = λ e. absurd (true≢false e); asid = λ e. absurd (true≢false e) }

pub global_by_pointer : worked.global_by_pointer
unfolding AreShownByOne
global_by_pointer = with_rights records.global_page (flags 0xC6) refl refl refl refl

-- the moments
at : (taken : List Record) (hart : ℕ) (x : Translation) (moment : ℕ) → is_stale Sv39 (trace_of taken) hart x ≡ true → begun (trace_of taken) hart x ≡ moment → BeganAt taken hart x moment
unfolding BeganAt
at taken hart x moment stale is = began (trace_of taken) hart x moment stale is

not_at : (taken : List Record) (hart : ℕ) (x : Translation) (moment other : ℕ) → BeganAt taken hart x moment → (moment ≡ other → ⊥) → DidNotBeginAt taken hart x other
unfolding BeganAt DidNotBeginAt
not_at taken hart x moment other is differs = began_otherwise (trace_of taken) hart x moment other is differs

never : (taken : List Record) (hart : ℕ) (x : Translation) (moment : ℕ) → is_stale Sv39 (trace_of taken) hart x ≡ false → DidNotBeginAt taken hart x moment
unfolding DidNotBeginAt
never taken hart x moment none = never_began (trace_of taken) hart x moment none

pub stale_since_unmapped : worked.stale_since_unmapped
unfolding kind_of
stale_since_unmapped = at worked.page_unmapped 1 (page writable) 6 refl refl

pub not_since_before : worked.not_since_before
not_since_before = not_at worked.page_unmapped 1 (page writable) 6 5 stale_since_unmapped (λ e. omega (arith, e))

pub not_since_after : worked.not_since_after
not_since_after = not_at worked.page_unmapped 1 (page writable) 6 7 stale_since_unmapped (λ e. omega (arith, e))

pub never_after_fence : worked.never_after_fence
unfolding kind_of
never_after_fence = never worked.page_unmapped 0 (page writable) 6 refl

pub stale_since_second : worked.stale_since_second
unfolding kind_of
stale_since_second = at worked.page_unmapped_twice 1 (page writable) 8 refl refl

pub not_since_first : worked.not_since_first
not_since_first = not_at worked.page_unmapped_twice 1 (page writable) 8 6 stale_since_second (λ e. omega (arith, e))

pub stale_since_moved : worked.stale_since_moved
unfolding kind_of
stale_since_moved = at worked.page_moved 1 (page writable) 6 refl refl

pub stale_since_moved_and_unmapped : worked.stale_since_moved_and_unmapped
unfolding kind_of
stale_since_moved_and_unmapped = at worked.page_moved 1 (with_ppn 0x101 (page writable)) 7 refl refl

pub stale_since_protected : worked.stale_since_protected
unfolding kind_of
stale_since_protected = at worked.page_protected 1 (page writable) 6 refl refl

pub stale_since_protected_and_unmapped : worked.stale_since_protected_and_unmapped
unfolding kind_of
stale_since_protected_and_unmapped = at worked.page_protected 1 (page read_only) 7 refl refl

-- a fence gives no verdict
no_verdict : (by : ℕ) (trace : Trace) (v : Verdict) (hart : ℕ) (x : Translation) → IsGiven Sv39 v (page_fence by) trace hart x → ⊥
no_verdict by trace Free hart x g = g
no_verdict by trace Reuse hart x g = g
no_verdict by trace Claimed hart x g = g
no_verdict by trace Used hart x g = g

-- the warnings
abbrev Only : List Candidate → List Record → Type 0
Only candidates taken = (hart : ℕ) (x : Translation) → MayHold Sv39 (trace_of taken) hart x → Among candidates hart x

given : (candidates : List Candidate) (verdict : Verdict) (newest : Record) (taken : List Record) (warnings : List Warning) → ((v : Verdict) (hart : ℕ) (x : Translation) → IsGiven Sv39 v newest (trace_of taken) hart x → v ≡ verdict)
    → Only candidates taken → AllRight newest (trace_of taken) warnings → AllShown verdict newest (trace_of taken) warnings candidates → AllPairs AreApart warnings → AreGiven taken newest warnings
unfolding AreGiven
given candidates verdict newest taken warnings gives only right shown apart = are_warnings candidates verdict newest (trace_of taken) warnings gives only right shown apart

-- a warning is right
right : (newest : Record) (taken : List Record) (w : Warning) → is_due w.verdict newest (trace_of taken) w.hart (shown_of w) ≡ true → is_stale Sv39 (trace_of taken) w.hart (shown_of w) ≡ true → begun (trace_of taken) w.hart (shown_of w) ≡ w.stale_since
    → IsDue Sv39 w.verdict newest (trace_of taken) w.hart (shown_of w) × IsStaleFrom Sv39 w.stale_since (trace_of taken) w.hart (shown_of w)
right newest taken w due stale moment = (due_by w.verdict newest (trace_of taken) w.hart (shown_of w) due, began (trace_of taken) w.hart (shown_of w) w.stale_since stale moment)

-- a candidate needs no warning, or the first or second is its
none_of : (verdict : Verdict) (newest : Record) (taken : List Record) (warnings : List Warning) (hart : ℕ) (x : Translation) → is_due verdict newest (trace_of taken) hart x ≡ false → IsDue Sv39 verdict newest (trace_of taken) hart x → IsShown verdict warnings hart x
none_of verdict newest taken warnings hart x none due = absurd (not_due verdict newest (trace_of taken) hart x none due)

shown_first : (w : Warning) (warnings : List Warning) → IsShown w.verdict (w ∷ warnings) w.hart (shown_of w)
shown_first w warnings = (w, (0, omega arith, refl), refl, refl, itself (shown_of w))

shown_second : (v w : Warning) (warnings : List Warning) → IsShown w.verdict (v ∷ w ∷ warnings) w.hart (shown_of w)
shown_second v w warnings = (w, (1, omega arith, refl), refl, refl, itself (shown_of w))

pub one_free : worked.one_free
unfolding kind_of
one_free =
    given one_page Free (given_back 0x100) worked.page_unmapped (free_warning ∷ []) (only_free 0 _ _)
    of_unmapped.only
    (right (given_back 0x100) worked.page_unmapped free_warning refl refl refl, tt) (
      none_of Free (given_back 0x100) worked.page_unmapped (free_warning ∷ []) 0 (page writable) refl,
      ((λ due. shown_first free_warning []), tt),
    )
    (one_alone free_warning)

-- what is not the warnings
by_length : (taken : List Record) (newest : Record) (warnings others : List Warning) → AreGiven taken newest warnings → (length warnings ≡ length others → ⊥) → AreNotGiven taken newest others
unfolding AreGiven AreNotGiven
by_length taken newest warnings others p differs = other_length newest (trace_of taken) warnings others p differs

by_verdict : (taken : List Record) (newest : Record) (w : Warning) (warnings : List Warning) → is_due w.verdict newest (trace_of taken) w.hart (shown_of w) ≡ false → AreNotGiven taken newest (w ∷ warnings)
unfolding AreNotGiven
by_verdict taken newest w warnings none = first_not_due newest (trace_of taken) w warnings none

by_moment : (taken : List Record) (newest : Record) (w : Warning) (warnings : List Warning) → DidNotBeginAt taken w.hart (shown_of w) w.stale_since → AreNotGiven taken newest (w ∷ warnings)
unfolding AreNotGiven DidNotBeginAt
by_moment taken newest w warnings otherwise = first_not_from newest (trace_of taken) w warnings otherwise

pub free_left_out : worked.free_left_out
free_left_out = by_length worked.page_unmapped (given_back 0x100) (free_warning ∷ []) [] one_free (λ e. omega (arith, e))

pub free_given_twice : worked.free_given_twice
free_given_twice = by_length worked.page_unmapped (given_back 0x100) (free_warning ∷ []) (free_warning ∷ free_warning ∷ []) one_free (λ e. omega (arith, e))

pub free_of_other_ppn : worked.free_of_other_ppn
unfolding kind_of
free_of_other_ppn = by_verdict worked.page_unmapped (given_back 0x100) (warning Free 1 (with_ppn 0x101 (page writable)) 6) [] refl

pub free_of_other_page : worked.free_of_other_page
unfolding kind_of
free_of_other_page = by_verdict worked.page_unmapped (given_back 0x100) (warning Free 1 (worked.with_page (record { base = 0x2000; size = Kib4 }) (page writable)) 6) [] refl

pub free_of_other_rights : worked.free_of_other_rights
unfolding kind_of
free_of_other_rights = by_verdict worked.page_unmapped (given_back 0x100) (warning Free 1 (page read_only) 6) [] refl

pub free_of_other_root : worked.free_of_other_root
unfolding kind_of
free_of_other_root = by_verdict worked.page_unmapped (given_back 0x100) (warning Free 1 (worked.under_root 0x80010 (page writable)) 6) [] refl

pub free_of_other_asid : worked.free_of_other_asid
unfolding kind_of
free_of_other_asid = by_verdict worked.page_unmapped (given_back 0x100) (warning Free 1 (with_asid 2 (page writable)) 6) [] refl

pub free_as_global : worked.free_as_global
unfolding kind_of
free_as_global = by_verdict worked.page_unmapped (given_back 0x100) (warning Free 1 (worked.with_global true (page writable)) 6) [] refl

pub free_as_reuse : worked.free_as_reuse
unfolding kind_of
free_as_reuse = by_verdict worked.page_unmapped (given_back 0x100) (warning Reuse 1 (page writable) 6) [] refl

pub free_of_hart_that_fenced : worked.free_of_hart_that_fenced
unfolding kind_of
free_of_hart_that_fenced = by_verdict worked.page_unmapped (given_back 0x100) (warning Free 0 (page writable) 6) [] refl

pub free_from_before : worked.free_from_before
free_from_before = by_moment worked.page_unmapped (given_back 0x100) (warning Free 1 (page writable) 5) [] not_since_before

pub free_from_after : worked.free_from_after
free_from_after = by_moment worked.page_unmapped (given_back 0x100) (warning Free 1 (page writable) 7) [] not_since_after

pub free_of_both_harts : worked.free_of_both_harts
free_of_both_harts = by_length worked.page_unmapped (given_back 0x100) (free_warning ∷ []) (free_warning ∷ warning Free 0 (page writable) 6 ∷ []) one_free (λ e. omega (arith, e))

pub set_shows_clear : worked.set_shows_clear
unfolding kind_of
set_shows_clear =
    given (two_pages 0x100 without_a_and_d 0x100 writable) Free (given_back 0x100) worked.page_accessed ((warning Free 1 (page writable) 7) ∷ []) (only_free 0 _ _)
    of_touched.only
    (right (given_back 0x100) worked.page_accessed (warning Free 1 (page writable) 7) refl refl refl, tt) (
      none_of Free (given_back 0x100) worked.page_accessed ((warning Free 1 (page writable) 7) ∷ []) 0 (page without_a_and_d) refl,
      (
        (λ due. ((warning Free 1 (page writable) 7), (0, omega arith, refl), refl, refl, with_rights (page writable) without_a_and_d refl refl refl refl)),
        (
          none_of Free (given_back 0x100) worked.page_accessed ((warning Free 1 (page writable) 7) ∷ []) 0 (page writable) refl,
          ((λ due. shown_first (warning Free 1 (page writable) 7) []), tt),
        ),
      ),
    )
    (one_alone (warning Free 1 (page writable) 7))

pub clear_shows_set : worked.clear_shows_set
unfolding kind_of
clear_shows_set =
    given (two_pages 0x100 without_a_and_d 0x100 writable) Free (given_back 0x100) worked.page_accessed ((warning Free 1 (page without_a_and_d) 7) ∷ []) (only_free 0 _ _)
    of_touched.only
    (right (given_back 0x100) worked.page_accessed (warning Free 1 (page without_a_and_d) 7) refl refl refl, tt) (
      none_of Free (given_back 0x100) worked.page_accessed ((warning Free 1 (page without_a_and_d) 7) ∷ []) 0 (page without_a_and_d) refl,
      (
        (λ due. shown_first (warning Free 1 (page without_a_and_d) 7) []),
        (
          none_of Free (given_back 0x100) worked.page_accessed ((warning Free 1 (page without_a_and_d) 7) ∷ []) 0 (page writable) refl,
          ((λ due. ((warning Free 1 (page without_a_and_d) 7), (0, omega arith, refl), refl, refl, with_rights (page without_a_and_d) writable refl refl refl refl)), tt),
        ),
      ),
    )
    (one_alone (warning Free 1 (page without_a_and_d) 7))

pub not_both_clear_and_set : worked.not_both_clear_and_set
not_both_clear_and_set = by_length worked.page_accessed (given_back 0x100) ((warning Free 1 (page writable) 7) ∷ []) ((warning Free 1 (page writable) 7) ∷ (warning Free 1 (page without_a_and_d) 7) ∷ []) set_shows_clear (λ e. omega (arith, e))

pub one_reuse : worked.one_reuse
unfolding kind_of
one_reuse =
    given one_page Reuse (given_out 0x100) (worked.page_unmapped ++ given_back 0x100 ∷ []) ((warning Reuse 1 (page writable) 6) ∷ []) (only_reuse 0 _ _)
    of_given_back.only
    (right (given_out 0x100) (worked.page_unmapped ++ given_back 0x100 ∷ []) (warning Reuse 1 (page writable) 6) refl refl refl, tt) (
      none_of Reuse (given_out 0x100) (worked.page_unmapped ++ given_back 0x100 ∷ []) ((warning Reuse 1 (page writable) 6) ∷ []) 0 (page writable) refl,
      ((λ due. shown_first (warning Reuse 1 (page writable) 6) []), tt),
    )
    (one_alone (warning Reuse 1 (page writable) 6))

pub one_use : worked.one_use
unfolding kind_of
one_use =
    given one_page Used (Use 1 0x1ABC) (worked.page_unmapped ++ given_back 0x100 ∷ []) ((warning Used 1 (page writable) 6) ∷ []) (only_used 1 0x1ABC _)
    of_given_back.only
    (right (Use 1 0x1ABC) (worked.page_unmapped ++ given_back 0x100 ∷ []) (warning Used 1 (page writable) 6) refl refl refl, tt) (
      none_of Used (Use 1 0x1ABC) (worked.page_unmapped ++ given_back 0x100 ∷ []) ((warning Used 1 (page writable) 6) ∷ []) 0 (page writable) refl,
      ((λ due. shown_first (warning Used 1 (page writable) 6) []), tt),
    )
    (one_alone (warning Used 1 (page writable) 6))

pub one_more_use : worked.one_more_use
unfolding kind_of
one_more_use =
    given one_page Used (Use 1 0x1ABC) (worked.page_unmapped ++ given_back 0x100 ∷ Use 1 0x1ABC ∷ []) ((warning Used 1 (page writable) 6) ∷ []) (only_used 1 0x1ABC _)
    of_used.only
    (right (Use 1 0x1ABC) (worked.page_unmapped ++ given_back 0x100 ∷ Use 1 0x1ABC ∷ []) (warning Used 1 (page writable) 6) refl refl refl, tt) (
      none_of Used (Use 1 0x1ABC) (worked.page_unmapped ++ given_back 0x100 ∷ Use 1 0x1ABC ∷ []) ((warning Used 1 (page writable) 6) ∷ []) 0 (page writable) refl,
      ((λ due. shown_first (warning Used 1 (page writable) 6) []), tt),
    )
    (one_alone (warning Used 1 (page writable) 6))

pub two_harts : worked.two_harts
unfolding kind_of
two_harts =
    given one_page Free (given_back 0x100) worked.not_fenced ((warning Free 0 (page writable) 6) ∷ free_warning ∷ []) (only_free 0 _ _)
    of_not_fenced.only
    (right (given_back 0x100) worked.not_fenced (warning Free 0 (page writable) 6) refl refl refl, (right (given_back 0x100) worked.not_fenced free_warning refl refl refl, tt)) (
      (λ due. shown_first (warning Free 0 (page writable) 6) (free_warning ∷ [])),
      ((λ due. shown_second (warning Free 0 (page writable) 6) free_warning []), tt),
    )
    (two_apart (warning Free 0 (page writable) 6) free_warning (apart_by_hart (warning Free 0 (page writable) 6) free_warning (λ e. omega (arith, e))))

pub two_harts_in_other_order : worked.two_harts_in_other_order
unfolding kind_of
two_harts_in_other_order =
    given one_page Free (given_back 0x100) worked.not_fenced (free_warning ∷ (warning Free 0 (page writable) 6) ∷ []) (only_free 0 _ _)
    of_not_fenced.only
    (right (given_back 0x100) worked.not_fenced free_warning refl refl refl, (right (given_back 0x100) worked.not_fenced (warning Free 0 (page writable) 6) refl refl refl, tt)) (
      (λ due. shown_second free_warning (warning Free 0 (page writable) 6) []),
      ((λ due. shown_first free_warning ((warning Free 0 (page writable) 6) ∷ [])), tt),
    )
    (two_apart free_warning (warning Free 0 (page writable) 6) (apart_by_hart free_warning (warning Free 0 (page writable) 6) (λ e. omega (arith, e))))

pub one_of_two_harts : worked.one_of_two_harts
one_of_two_harts = by_length worked.not_fenced (given_back 0x100) ((warning Free 0 (page writable) 6) ∷ free_warning ∷ []) (free_warning ∷ []) two_harts (λ e. omega (arith, e))

pub two_frames : worked.two_frames
unfolding kind_of
two_frames =
    given (two_pages 0x100 writable 0x101 writable) Free worked.both_frames worked.page_moved (free_warning ∷ (warning Free 1 (with_ppn 0x101 (page writable)) 7) ∷ []) (only_free 0 _ _)
    of_moved.only
    (right worked.both_frames worked.page_moved free_warning refl refl refl, (right worked.both_frames worked.page_moved (warning Free 1 (with_ppn 0x101 (page writable)) 7) refl refl refl, tt)) (
      none_of Free worked.both_frames worked.page_moved (free_warning ∷ (warning Free 1 (with_ppn 0x101 (page writable)) 7) ∷ []) 0 (page writable) refl,
      (
        (λ due. shown_first free_warning ((warning Free 1 (with_ppn 0x101 (page writable)) 7) ∷ [])),
        (
          none_of Free worked.both_frames worked.page_moved (free_warning ∷ (warning Free 1 (with_ppn 0x101 (page writable)) 7) ∷ []) 0 (with_ppn 0x101 (page writable)) refl,
          ((λ due. shown_second free_warning (warning Free 1 (with_ppn 0x101 (page writable)) 7) []), tt),
        ),
      ),
    )
    (two_apart free_warning (warning Free 1 (with_ppn 0x101 (page writable)) 7) (λ verdict hart x s t. let e : 0x100 ≡ 0x101 = s.ppn ∙ sym t.ppn in omega (arith, e)))

pub one_of_two_frames : worked.one_of_two_frames
one_of_two_frames = by_length worked.page_moved worked.both_frames (free_warning ∷ (warning Free 1 (with_ppn 0x101 (page writable)) 7) ∷ []) (free_warning ∷ []) two_frames (λ e. omega (arith, e))

pub two_rights : worked.two_rights
unfolding kind_of
two_rights =
    given (two_pages 0x100 writable 0x100 read_only) Free (given_back 0x100) worked.page_protected (free_warning ∷ (warning Free 1 (page read_only) 7) ∷ []) (only_free 0 _ _)
    of_protected.only
    (right (given_back 0x100) worked.page_protected free_warning refl refl refl, (right (given_back 0x100) worked.page_protected (warning Free 1 (page read_only) 7) refl refl refl, tt)) (
      none_of Free (given_back 0x100) worked.page_protected (free_warning ∷ (warning Free 1 (page read_only) 7) ∷ []) 0 (page writable) refl,
      (
        (λ due. shown_first free_warning ((warning Free 1 (page read_only) 7) ∷ [])),
        (
          none_of Free (given_back 0x100) worked.page_protected (free_warning ∷ (warning Free 1 (page read_only) 7) ∷ []) 0 (page read_only) refl,
          ((λ due. shown_second free_warning (warning Free 1 (page read_only) 7) []), tt),
        ),
      ),
    )
    (two_apart free_warning (warning Free 1 (page read_only) 7) (λ verdict hart x s t. true≢false (s.write ∙ sym t.write)))

pub one_of_two_rights : worked.one_of_two_rights
one_of_two_rights = by_length worked.page_protected (given_back 0x100) (free_warning ∷ (warning Free 1 (page read_only) 7) ∷ []) (free_warning ∷ []) two_rights (λ e. omega (arith, e))

pub two_spaces : worked.two_spaces
unfolding kind_of
two_spaces =
    given two_asids Free (given_back 0x100) worked.of_two_spaces ((warning Free 1 (page writable) 7) ∷ (warning Free 1 (with_asid 2 (page writable)) 7) ∷ []) (only_free 0 _ _)
    of_two_asids.only
    (right (given_back 0x100) worked.of_two_spaces (warning Free 1 (page writable) 7) refl refl refl, (right (given_back 0x100) worked.of_two_spaces (warning Free 1 (with_asid 2 (page writable)) 7) refl refl refl, tt)) (
      none_of Free (given_back 0x100) worked.of_two_spaces ((warning Free 1 (page writable) 7) ∷ (warning Free 1 (with_asid 2 (page writable)) 7) ∷ []) 0 (page writable) refl,
      (
        (λ due. shown_first (warning Free 1 (page writable) 7) ((warning Free 1 (with_asid 2 (page writable)) 7) ∷ [])),
        ((λ due. shown_second (warning Free 1 (page writable) 7) (warning Free 1 (with_asid 2 (page writable)) 7) []), tt),
      ),
    )
    (two_apart (warning Free 1 (page writable) 7) (warning Free 1 (with_asid 2 (page writable)) 7) (λ verdict hart x s t. let e : 1 ≡ 2 = s.asid refl ∙ sym (t.asid refl) in omega (arith, e)))

pub one_of_two_spaces : worked.one_of_two_spaces
one_of_two_spaces = by_length worked.of_two_spaces (given_back 0x100) ((warning Free 1 (page writable) 7) ∷ (warning Free 1 (with_asid 2 (page writable)) 7) ∷ []) ((warning Free 1 (page writable) 7) ∷ []) two_spaces (λ e. omega (arith, e))

pub two_claims : worked.two_claims
unfolding kind_of
two_claims =
    given one_page Claimed returns_from_flush (records.mapped ++ leaf_cleared ∷ flushes ∷ []) ((warning Claimed 0 (page writable) 6) ∷ (warning Claimed 1 (page writable) 6) ∷ []) (only_claimed 0 9 _)
    of_flushed.only
    (right returns_from_flush (records.mapped ++ leaf_cleared ∷ flushes ∷ []) (warning Claimed 0 (page writable) 6) refl refl refl, (right returns_from_flush (records.mapped ++ leaf_cleared ∷ flushes ∷ []) (warning Claimed 1 (page writable) 6) refl refl refl, tt)) (
      (λ due. shown_first (warning Claimed 0 (page writable) 6) ((warning Claimed 1 (page writable) 6) ∷ [])),
      ((λ due. shown_second (warning Claimed 0 (page writable) 6) (warning Claimed 1 (page writable) 6) []), tt),
    )
    (two_apart (warning Claimed 0 (page writable) 6) (warning Claimed 1 (page writable) 6) (apart_by_hart (warning Claimed 0 (page writable) 6) (warning Claimed 1 (page writable) 6) (λ e. omega (arith, e))))

pub both_fenced : worked.both_fenced
unfolding kind_of
both_fenced =
    given one_page Free (given_back 0x100) (records.mapped ++ leaf_cleared ∷ full_fence 0 ∷ full_fence 1 ∷ []) [] (only_free 0 _ _)
    of_fenced.only
    tt (
      none_of Free (given_back 0x100) (records.mapped ++ leaf_cleared ∷ full_fence 0 ∷ full_fence 1 ∷ []) [] 0 (page writable) refl,
      (none_of Free (given_back 0x100) (records.mapped ++ leaf_cleared ∷ full_fence 0 ∷ full_fence 1 ∷ []) [] 1 (page writable) refl, tt),
    )
    no_pairs

pub freed_again : worked.freed_again
unfolding kind_of
freed_again =
    given one_page Free (given_back 0x100) (worked.page_unmapped ++ given_back 0x100 ∷ []) [] (only_free 0 _ _)
    of_given_back.only
    tt (
      none_of Free (given_back 0x100) (worked.page_unmapped ++ given_back 0x100 ∷ []) [] 0 (page writable) refl,
      (none_of Free (given_back 0x100) (worked.page_unmapped ++ given_back 0x100 ∷ []) [] 1 (page writable) refl, tt),
    )
    no_pairs

pub other_frame : worked.other_frame
unfolding kind_of
other_frame =
    given one_page Free (given_back 0x101) worked.page_unmapped [] (only_free 0 _ _)
    of_unmapped.only
    tt (
      none_of Free (given_back 0x101) worked.page_unmapped [] 0 (page writable) refl,
      (none_of Free (given_back 0x101) worked.page_unmapped [] 1 (page writable) refl, tt),
    )
    no_pairs

pub fence_alone : worked.fence_alone
unfolding kind_of
fence_alone =
    given one_page Free (page_fence 1) worked.page_unmapped [] (λ v hart x g. absurd (no_verdict 1 _ v hart x g))
    of_unmapped.only
    tt (
      none_of Free (page_fence 1) worked.page_unmapped [] 0 (page writable) refl,
      (none_of Free (page_fence 1) worked.page_unmapped [] 1 (page writable) refl, tt),
    )
    no_pairs

pub ruleset shown_rows = (other_base, other_size, other_ppn, other_user, other_write, other_execute, other_read, other_global, other_root, other_asid, not_accessed, not_dirty, neither_accessed_nor_dirty, global_elsewhere, global_by_pointer)

pub ruleset moment_rows = (stale_since_unmapped, not_since_before, not_since_after, never_after_fence, stale_since_second, not_since_first, stale_since_moved, stale_since_moved_and_unmapped, stale_since_protected, stale_since_protected_and_unmapped)

pub ruleset one_warning_rows = (one_free, free_left_out, free_given_twice, free_of_other_ppn, free_of_other_page, free_of_other_rights, free_of_other_root, free_of_other_asid, free_as_global, free_as_reuse, free_of_hart_that_fenced, free_from_before, free_from_after, free_of_both_harts, set_shows_clear, clear_shows_set, not_both_clear_and_set, one_reuse, one_use, one_more_use)

pub ruleset two_warnings_rows = (two_harts, two_harts_in_other_order, one_of_two_harts, two_frames, one_of_two_frames, two_rights, one_of_two_rights, two_spaces, one_of_two_spaces, two_claims)

pub ruleset no_warnings_rows = (both_fenced, freed_again, other_frame, fence_alone)
