-- What harts may hold at the end of the worked traces of warnings.
use Rattle.std.proofs.Common.{◌≡◌, ℕ, false, List, [], ◌∷◌, ◌++◌, Option, Some, None, refl, inl, inr}
use Rattle.pte.specs.declared.flags.PteFlags.{PteFlags}
use Rattle.pte.specs.declared.entry.Kind.{Kind}
use Rattle.pte.specs.declared.entry.Kind.TheVariants as kinds
use Rattle.pte.specs.Entry.{is_global, kind_of, leaf_word}
use Rattle.watch.specs.declared.trace.Record.{Record}
use Rattle.watch.specs.declared.trace.Record.TheVariants.{Store, Use}
use Rattle.watch.specs.declared.trace.Space.{Space}
use Rattle.watch.specs.Trace.{Trace, satp_of, words_of}
use Rattle.watch.specs.WorkedTraces.{first_space, flags, full_fence, given_back, given_out, page, page_fence, read_only, returns_from_flush, flushes, trace_of, writable, leaf_cleared}
use Rattle.watch.specs.WorkedTraces as records
use Rattle.watch_engine.specs.WorkedWarnings.{AreGiven, AreNotGiven, AreShownApart, AreShownByOne, BeganAt, DidNotBeginAt, free_warning, without_a_and_d, warning, with_asid, with_ppn}
use Rattle.watch_engine.specs.WorkedWarnings as worked
use Rattle.watch_engine.proofs.OnePage.{Candidate, Filled, Leaves, candidate, first_enters, leaf_stored, of_pointers, second_enters, small, unmapped_still}

abbrev pub one_page : List Candidate
one_page = candidate 0 (page writable) ∷ candidate 1 (page writable) ∷ []

abbrev pub two_pages : ℕ → PteFlags → ℕ → PteFlags → List Candidate
two_pages ppn given other_ppn other_given = candidate 0 (small 1 ppn given) ∷ candidate 1 (small 1 ppn given) ∷ candidate 0 (small 1 other_ppn other_given) ∷ candidate 1 (small 1 other_ppn other_given) ∷ []

abbrev pub two_asids : List Candidate
two_asids = candidate 0 (page writable) ∷ candidate 1 (page writable) ∷ candidate 1 (with_asid 2 (page writable)) ∷ []

abbrev word : ℕ → PteFlags → ℕ
word ppn given = leaf_word ppn given

-- both harts enter the first space once the leaf is stored
entered : (candidates : List Candidate) (new : ℕ) → is_global new ≡ false → Filled candidates (kind_of new) first_space None → Filled candidates (kind_of new) first_space first_space
    → Leaves candidates (trace_of (records.pointers ++ Store 0 0x80002008 new ∷ records.both_enter)) new first_space first_space
unfolding kind_of
entered candidates new none first both =
    second_enters candidates _ new 1 first_space None none both
    (first_enters candidates _ new 1 None None none first (leaf_stored candidates _ 0 new None None none (before (kind_of new)) (of_pointers candidates)))
  where
    before : (kind : Kind) → Filled candidates kind None None
    before kinds.Invalid = tt
    before kinds.Reserved = tt
    before (kinds.Table ppn global) = tt
    before (kinds.Leaf ppn flags) = (tt, tt)

cleared : (candidates : List Candidate) (trace : Trace) (leaf : ℕ) (second : Option Space) → Leaves candidates trace leaf first_space second → Leaves candidates (leaf_cleared ∷ trace) 0 first_space second
unfolding kind_of
cleared candidates trace leaf second l = leaf_stored candidates trace leaf 0 first_space second refl tt l

pub of_mapped : Leaves one_page (trace_of records.mapped) (word 0x100 writable) first_space first_space
unfolding kind_of
of_mapped = entered one_page (word 0x100 writable) refl (inl (refl, refl), tt) (inl (refl, refl), inr (inl (refl, refl)))

pub of_not_fenced : Leaves one_page (trace_of worked.not_fenced) 0 first_space first_space
of_not_fenced = cleared one_page (trace_of records.mapped) (word 0x100 writable) first_space of_mapped

still : (candidates : List Candidate) (newest : Record) (trace : Trace) (second : Option Space) → words_of (newest ∷ trace) ≡ words_of trace → satp_of (newest ∷ trace) ≡ satp_of trace → Leaves candidates trace 0 first_space second → Leaves candidates (newest ∷ trace) 0 first_space second
still candidates newest trace second words satps l = unmapped_still candidates newest trace first_space second words satps l

pub of_unmapped : Leaves one_page (trace_of worked.page_unmapped) 0 first_space first_space
of_unmapped = still one_page (page_fence 0) (trace_of worked.not_fenced) first_space refl refl of_not_fenced

pub of_given_back : Leaves one_page (trace_of (worked.page_unmapped ++ given_back 0x100 ∷ [])) 0 first_space first_space
of_given_back = still one_page (given_back 0x100) (trace_of worked.page_unmapped) first_space refl refl of_unmapped

pub of_used : Leaves one_page (trace_of (worked.page_unmapped ++ given_back 0x100 ∷ Use 1 0x1ABC ∷ [])) 0 first_space first_space
of_used = still one_page (Use 1 0x1ABC) (trace_of (worked.page_unmapped ++ given_back 0x100 ∷ [])) first_space refl refl of_given_back

pub of_flushed : Leaves one_page (trace_of (records.mapped ++ leaf_cleared ∷ flushes ∷ [])) 0 first_space first_space
of_flushed = still one_page flushes (trace_of worked.not_fenced) first_space refl refl of_not_fenced

pub of_fenced : Leaves one_page (trace_of (records.mapped ++ leaf_cleared ∷ full_fence 0 ∷ full_fence 1 ∷ [])) 0 first_space first_space
of_fenced = still one_page (full_fence 1) (full_fence 0 ∷ trace_of worked.not_fenced) first_space refl refl (still one_page (full_fence 0) (trace_of worked.not_fenced) first_space refl refl of_not_fenced)

-- a leaf, then another in its place, then none, and a fence
replaced : (candidates : List Candidate) (old new : ℕ) → is_global old ≡ false → is_global new ≡ false → Filled candidates (kind_of old) first_space None → Filled candidates (kind_of old) first_space first_space → Filled candidates (kind_of new) first_space first_space
    → Leaves candidates (trace_of (records.pointers ++ Store 0 0x80002008 old ∷ records.both_enter ++ Store 0 0x80002008 new ∷ leaf_cleared ∷ page_fence 0 ∷ [])) 0 first_space first_space
replaced candidates old new none no_more first both again =
    still candidates (page_fence 0) _ first_space refl refl
    (cleared candidates _ new first_space (leaf_stored candidates _ old new first_space first_space no_more again (entered candidates old none first both)))

pub of_touched : Leaves (two_pages 0x100 without_a_and_d 0x100 writable) (trace_of worked.page_accessed) 0 first_space first_space
unfolding kind_of
of_touched = replaced (two_pages 0x100 without_a_and_d 0x100 writable) (word 0x100 without_a_and_d) (word 0x100 writable) refl refl (inl (refl, refl), tt) (inl (refl, refl), inr (inl (refl, refl))) (inr (inr (inl (refl, refl))), inr (inr (inr (inl (refl, refl)))))

pub of_moved : Leaves (two_pages 0x100 writable 0x101 writable) (trace_of worked.page_moved) 0 first_space first_space
unfolding kind_of
of_moved = replaced (two_pages 0x100 writable 0x101 writable) (word 0x100 writable) (word 0x101 writable) refl refl (inl (refl, refl), tt) (inl (refl, refl), inr (inl (refl, refl))) (inr (inr (inl (refl, refl))), inr (inr (inr (inl (refl, refl)))))

pub of_protected : Leaves (two_pages 0x100 writable 0x100 read_only) (trace_of worked.page_protected) 0 first_space first_space
unfolding kind_of
of_protected = replaced (two_pages 0x100 writable 0x100 read_only) (word 0x100 writable) (word 0x100 read_only) refl refl (inl (refl, refl), tt) (inl (refl, refl), inr (inl (refl, refl))) (inr (inr (inl (refl, refl))), inr (inr (inr (inl (refl, refl)))))

pub of_two_asids : Leaves two_asids (trace_of worked.of_two_spaces) 0 first_space (Some (record { root = 0x80000; asid = 2 }))
unfolding kind_of
of_two_asids =
    still two_asids (page_fence 0) _ (Some (record { root = 0x80000; asid = 2 })) refl refl
    (cleared two_asids _ (word 0x100 writable) (Some (record { root = 0x80000; asid = 2 }))
    (second_enters two_asids _ (word 0x100 writable) 2 first_space first_space refl (inl (refl, refl), inr (inr (inl (refl, refl))))
    (entered two_asids (word 0x100 writable) refl (inl (refl, refl), tt) (inl (refl, refl), inr (inl (refl, refl))))))
