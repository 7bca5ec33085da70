-- The worked filters, computed.
use Rattle.std.proofs.Common.{◌≡◌, ℕ, zero, suc, true, false, [], ◌∷◌, Option, inl, inr, refl, sym, ap, ◌∙◌, arith}
use Rattle.std.specs.Fmt.{digits}
use Rattle.std.specs.List.{Contains}
use Rattle.std.proofs.lemmas.Bool.{true≢false}
use Rattle.pte.specs.declared.scheme.Scheme.TheVariants.{Sv39}
use Rattle.watch.specs.declared.trace.Record.TheVariants.{Satp, Store}
use Rattle.watch.specs.declared.trace.Space.{Space}
use Rattle.watch.specs.declared.trace.Verdict.{Verdict}
use Rattle.watch.specs.declared.trace.Verdict.TheVariants.{Free, Reuse, Claimed, Used}
use Rattle.watch.specs.Holding.{Translation}
use Rattle.watch.specs.Trace.{Trace}
use Rattle.watch.specs.Verdicts.{IsGiven}
use Rattle.watch.specs.WorkedTraces.{given_back, page, trace_of, writable}
use Rattle.watch_engine.specs.declared.warning.Warning.{Warning}
use Rattle.watch_engine.specs.Warnings.{AreWarnings}
use Rattle.watch_engine.specs.WorkedWarnings.{AreGiven, free_warning, not_fenced, two_harts, warning}
use Rattle.watch_report.specs.declared.filter.Filter.{Filter}
use Rattle.watch_report.specs.Filters.{takes, takes_of}
use Rattle.watch_report.specs.VerdictLines.{GivesVerdict}
use Rattle.watch_report.specs.NoteLines.{most_harts}
use Rattle.watch_report.specs.WorkedFilters as rows
use Rattle.watch_report.proofs.FilterLemmas.{same_taken}

-- ---- what is told

pub without_a_filter : rows.without_a_filter
unfolding digits
without_a_filter = (refl, refl)

pub one_hart : rows.one_hart
unfolding digits
one_hart = (refl, refl)

pub first_address : rows.first_address
unfolding digits
first_address = (refl, refl)

pub last_address : rows.last_address
unfolding digits
last_address = (refl, refl)

pub address_within : rows.address_within
unfolding digits
address_within = (refl, refl)

pub address_behind : rows.address_behind
unfolding digits
address_behind = (refl, refl)

pub users_kind : rows.users_kind
unfolding digits
users_kind = (refl, refl)

pub kernels_kind : rows.kernels_kind
unfolding digits
kernels_kind = (refl, refl)

pub other_kind : rows.other_kind
unfolding digits
other_kind = (refl, refl)

pub two_tests : rows.two_tests
unfolding digits
two_tests = (refl, refl)

pub three_tests : rows.three_tests
unfolding digits
three_tests = (refl, refl)

pub none_passes : rows.none_passes
unfolding digits
none_passes = (refl, refl)

pub counted_alone : rows.counted_alone
unfolding digits
counted_alone = (refl, refl)

pub ruleset told = (without_a_filter, one_hart, first_address, last_address, address_within, address_behind, users_kind, kernels_kind, other_kind, two_tests, three_tests, none_passes, counted_alone)

pub cause_of_use : rows.cause_of_use
unfolding digits most_harts
cause_of_use = (refl, refl)

pub causes_of_hart : rows.causes_of_hart
unfolding digits most_harts
causes_of_hart = (refl, refl)

pub no_cause : rows.no_cause
unfolding digits
no_cause = (refl, refl)

pub ruleset causes = (cause_of_use, causes_of_hart, no_cause)

-- ---- whether there is a verdict

abbrev pub Both : Type 0
Both = AreWarnings Sv39 (given_back 0x100) (trace_of not_fenced) (warning Free 0 (page writable) 6 ∷ free_warning ∷ [])

pub of_rows : two_harts → Both
unfolding AreGiven
of_rows both = both

pub warns : (filter : Filter) → Both → takes_of filter Free 0 (page writable).entry ≡ true → rows.Warns filter
warns filter both passes =
    let due = both.each (warning Free 0 (page writable) 6) (0, omega arith, refl) in
    inl (Free, 0, page writable, due.0, passes)

none_at_store : (verdict : Verdict) (of address word : ℕ) (trace : Trace) (hart : ℕ) (x : Translation) → IsGiven Sv39 verdict (Store of address word) trace hart x → ⊥
none_at_store Free of address word trace hart x given = given
none_at_store Reuse of address word trace hart x given = given
none_at_store Claimed of address word trace hart x given = given
none_at_store Used of address word trace hart x given = given

none_at_satp : (verdict : Verdict) (of : ℕ) (space : Option Space) (trace : Trace) (hart : ℕ) (x : Translation) → IsGiven Sv39 verdict (Satp of space) trace hart x → ⊥
none_at_satp Free of space trace hart x given = given
none_at_satp Reuse of space trace hart x given = given
none_at_satp Claimed of space trace hart x given = given
none_at_satp Used of space trace hart x given = given

none_before : (filter : Filter) → GivesVerdict filter Sv39 (trace_of not_fenced) → ⊥
none_before filter (inl (verdict, hart, x, due, passes)) = none_at_store verdict _ _ _ _ hart x due.given
none_before filter (inr (inl (verdict, hart, x, due, passes))) = none_at_satp verdict _ _ _ hart x due.given
none_before filter (inr (inr (inl (verdict, hart, x, due, passes)))) = none_at_satp verdict _ _ _ hart x due.given
none_before filter (inr (inr (inr (inl (verdict, hart, x, due, passes))))) = none_at_store verdict _ _ _ _ hart x due.given
none_before filter (inr (inr (inr (inr (inl (verdict, hart, x, due, passes)))))) = none_at_store verdict _ _ _ _ hart x due.given
none_before filter (inr (inr (inr (inr (inr (inl (verdict, hart, x, due, passes))))))) = none_at_store verdict _ _ _ _ hart x due.given
none_before filter (inr (inr (inr (inr (inr (inr nothing)))))) = nothing

neither : (filter : Filter) (w : Warning) → takes_of filter Free 0 (page writable).entry ≡ false → takes_of filter Free 1 (page writable).entry ≡ false
    → Contains (warning Free 0 (page writable) 6 ∷ free_warning ∷ []) w → takes filter w ≡ true → ⊥
neither filter w a b (zero, less, is) t = true≢false (sym t ∙ ap (takes filter) (sym is) ∙ a)
neither filter w a b (suc zero, less, is) t = true≢false (sym t ∙ ap (takes filter) (sym is) ∙ b)
neither filter w a b (suc (suc k), less, is) t = omega (arith, less)

pub silent : (filter : Filter) → Both → takes_of filter Free 0 (page writable).entry ≡ false → takes_of filter Free 1 (page writable).entry ≡ false → rows.Warns filter → ⊥
silent filter both a b (inl (verdict, hart, x, due, passes)) =
    let w = both.all verdict hart x due in
    neither filter w.0 a b w.1 (same_taken filter w.0 verdict hart x w.2 w.3 w.4 ∙ passes)
silent filter both a b (inr before) = none_before filter before

-- ---- by words

pub no_word : rows.no_word
no_word = refl

pub three_words : rows.three_words
three_words = refl

pub hart_word : rows.hart_word
hart_word = refl

pub page_word : rows.page_word
page_word = refl

pub kind_word : rows.kind_word
kind_word = refl

pub ruleset words = (no_word, three_words, hart_word, page_word, kind_word)

pub no_such_hart : rows.no_such_hart
no_such_hart = refl

pub hart_in_letters : rows.hart_in_letters
hart_in_letters = refl

pub empty_hart : rows.empty_hart
empty_hart = refl

pub page_with_prefix : rows.page_with_prefix
page_with_prefix = refl

pub long_page : rows.long_page
long_page = refl

pub large_letters : rows.large_letters
large_letters = refl

pub owner_alone : rows.owner_alone
owner_alone = refl

pub word_of_users : rows.word_of_users
word_of_users = refl

pub end_of_a_word : rows.end_of_a_word
end_of_a_word = refl

pub ruleset refused = (no_such_hart, hart_in_letters, empty_hart, page_with_prefix, long_page, large_letters, owner_alone, word_of_users, end_of_a_word)
