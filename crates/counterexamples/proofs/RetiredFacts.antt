-- What the promises forbid a TLB to hold once a space was given back, and where they say nothing.
use Rattle.pte.specs.declared.scheme.Scheme.TheVariants.{Sv39}
use Rattle.std.proofs.Common.{◌≡◌, ℕ, zero, suc, ◌+◌, ◌||◌, ◌==◌, false, [], ◌∷◌, Some, refl, ap, subst, ◌∙◌, arith, inl, inr}
use Rattle.std.proofs.lemmas.Bool.{and_parts, eqb-true, true≢false}
use Rattle.std.proofs.lemmas.List.Elements.{All-nil, All-cons}
use Rattle.pte.specs.Entry.{kind_of}
use Rattle.pte.specs.declared.permission.Access.TheVariants as access
use Rattle.spaces.specs.Edits.{wish_fault, path_end, edit_of}
use Rattle.tlb.specs.declared.store.Entry.{Entry}
use Rattle.tlb.specs.Entries.{holds}
use Rattle.tlb.specs.Mappings.{Mapping, IsMappedBy, Translates}
use Rattle.history.specs.Turns.{History}
use Rattle.history.specs.Spaces.{Live, Retires, Free}
use Rattle.history.specs.Orders.{Unmapped}
use Rattle.history.specs.Tables.{words_of}
use Rattle.history.specs.Harts.{entries_of}
use Rattle.history.specs.Staleness.{HasAsid, IsMapped, IsOfUsedAsid, HoldsUsedAsids, WalksUsedFrames, Clear}
use Rattle.counterexamples.specs.WorkedRuns.{history_of, small_page, flags, R, U, A, D, user}
use Rattle.counterexamples.specs.ShootdownRuns.{spaces_of_one_home}
use Rattle.counterexamples.specs.RetireRuns as run
use Rattle.counterexamples.specs.UnlawfulRuns as unlawful
use Rattle.counterexamples.specs.WorkedEntries.{entry, read_only_entry, global_entry}
use Rattle.counterexamples.specs.Counterexamples.{ClearForbids, ClearAllowsAll, CoherentForbids, CoherentAllowsAll, UsedAsidsForbid}
use Rattle.counterexamples.proofs.Promises.{clear_forbids, clear_allows, anew_clear, not_mapped, coherent_forbids, coherent_forbids_unreached, superseded_coherent, one_match, one_translates}

-- ASID 2 is that of no space once space 1 has ASID 7, or is free
abbrev Reached : History → Type 0
Reached H = (s : ℕ) → ¬ HasAsid spaces_of_one_home H s 2

abbrev created : History
created = history_of run.orders_keep_their_asid

of_no_space : Reached created
of_no_space zero has = let bad : 1 ≡ 2 = has.same in cc (bad)
of_no_space (suc zero) has = let bad : 7 ≡ 2 = has.same in cc (bad)
of_no_space (suc (suc s)) has = (let there = has.there in omega arith)

changed_since : Reached (history_of run.orders_of_the_new_asid)
changed_since zero has = let bad : 1 ≡ 2 = has.same in cc (bad)
changed_since (suc zero) has = let bad : 7 ≡ 2 = has.same in cc (bad)
changed_since (suc (suc s)) has = (let there = has.there in omega arith)

of_a_free_space : Reached (history_of run.retired_and_given_back)
of_a_free_space zero has = let bad : 1 ≡ 2 = has.same in cc (bad)
of_a_free_space (suc zero) has = true≢false has.kept
of_a_free_space (suc (suc s)) has = (let there = has.there in omega arith)

-- Clear: a page that is mapped for ASID 7 in the same space is not mapped anew
pub other_asid_mapped : ClearForbids spaces_of_one_home (history_of run.orders_keep_their_asid) 11 1 (entry 2 (small_page 0x1000) 0x100)
other_asid_mapped =
    clear_forbids spaces_of_one_home created 11 1 (Some 2) (small_page 0x1000) (record { order = _; is = refl; same_cause = refl; named = refl; acked = refl }) refl 2 0x1000 refl
    (record { from = omega arith; below = omega arith }) (entry 2 (small_page 0x1000) 0x100) (record { canonical = inl (omega arith); aligned = refl }) refl

-- one that is mapped for ASID 2 in another space is
pub same_asid_mapped : ClearAllowsAll spaces_of_one_home (history_of run.asid_used_again) 3 0
same_asid_mapped = anew_clear spaces_of_one_home (history_of run.asid_used_again) 3 0 refl

-- what hart 1 holds is of ASID 7, and may be held
abbrev of_asid_7 : Entry
of_asid_7 = read_only_entry 7 (small_page 0x1000) 0x101

asid_7_held : entries_of spaces_of_one_home (history_of run.orders_keep_their_asid) 1 ≡ of_asid_7 ∷ []
unfolding kind_of wish_fault path_end edit_of
asid_7_held = refl

pub asid_7_translates : Translates (IsMappedBy (entries_of spaces_of_one_home (history_of run.orders_keep_their_asid) 1)) 7 0x1004
asid_7_translates =
    one_translates (entries_of spaces_of_one_home (history_of run.orders_keep_their_asid) 1) of_asid_7 7 0x1004 asid_7_held (record { canonical = inl (omega arith); aligned = refl }) refl

pub asid_7_clear : Clear spaces_of_one_home (history_of run.orders_keep_their_asid) (entries_of spaces_of_one_home (history_of run.orders_keep_their_asid) 1) 11 1
asid_7_clear =
    clear_allows spaces_of_one_home (history_of run.orders_keep_their_asid) 11 1 _ (Some 2) (small_page 0x1000) refl refl
    (entries_of spaces_of_one_home (history_of run.orders_keep_their_asid) 1)
    (λ asid va for held t.
    let one = subst (λ es. Translates (IsMappedBy es) asid va) asid_7_held t in
    let on = and_parts (holds (small_page 0x1000) va) (false || (7 == asid)) (one_match of_asid_7 asid va one) in
    let same : 7 ≡ asid = eqb-true 7 asid on.1 in
    omega (arith, same, for))

-- Coherent: no page of an ASID that no live or retiring space has, though the same space maps the
-- page
abbrev mapping : ℕ → Mapping
mapping ppn = record { asid = Some 2; page = 1; ppn = ppn; flags = flags (R + U + A + D) }

pub asid_of_no_space : CoherentForbids spaces_of_one_home (history_of run.orders_keep_their_asid) 11 1 (read_only_entry 2 (small_page 0x1000) 0x101)
asid_of_no_space =
    coherent_forbids_unreached spaces_of_one_home created 11 1 (Unmapped (Some 2) (small_page 0x1000)) (Some 2) (small_page 0x1000) (inl refl)
    (record { order = _; is = refl; same_cause = refl; named = refl; acked = refl }) refl (read_only_entry 2 (small_page 0x1000) 0x101) (mapping 0x101)
    (record { asid = refl; page = record { from = omega arith; to = omega arith }; ppn = refl; flags = refl })
    (inr (2, refl, refl)) (record { from = omega arith; to = omega arith }) of_no_space

-- a change of the page of ASID 7 is none of that of ASID 2
pub other_asid_changed : CoherentForbids spaces_of_one_home (history_of run.orders_of_the_new_asid) 11 1 (read_only_entry 2 (small_page 0x1000) 0x101)
other_asid_changed =
    coherent_forbids_unreached spaces_of_one_home (history_of run.orders_of_the_new_asid) 11 1 (Unmapped (Some 2) (small_page 0x1000)) (Some 2) (small_page 0x1000) (inl refl)
    (record { order = _; is = refl; same_cause = refl; named = refl; acked = refl }) refl (read_only_entry 2 (small_page 0x1000) 0x101) (mapping 0x101)
    (record { asid = refl; page = record { from = omega arith; to = omega arith }; ppn = refl; flags = refl })
    (inr (2, refl, refl)) (record { from = omega arith; to = omega arith }) changed_since

-- the space that has ASID 2 now maps the page to another PPN
old_frame_gone : ¬ IsMapped spaces_of_one_home (words_of spaces_of_one_home (history_of run.asid_used_again)) 0 (mapping 0x100)
unfolding kind_of wish_fault path_end edit_of
old_frame_gone m =
    not_mapped Sv39 (words_of spaces_of_one_home (history_of run.asid_used_again)) 0x80001 0x1000 0x100 access.Load user (flags (R + U + A + D)) _ (inl (omega arith)) refl refl m

pub old_ppn_of_the_asid : CoherentForbids spaces_of_one_home (history_of run.asid_used_again) 3 0 (read_only_entry 2 (small_page 0x1000) 0x100)
old_ppn_of_the_asid =
    coherent_forbids spaces_of_one_home (history_of run.asid_used_again) 3 0 (Unmapped (Some 2) (small_page 0x1000)) (Some 2) (small_page 0x1000) (inl refl)
    (record { order = _; is = refl; same_cause = refl; named = refl; acked = refl }) refl (read_only_entry 2 (small_page 0x1000) 0x100) (mapping 0x100)
    (record { asid = refl; page = record { from = omega arith; to = omega arith }; ppn = refl; flags = refl })
    (inr (2, refl, refl)) (record { from = omega arith; to = omega arith }) 0 (record { there = omega arith; kept = refl; same = refl }) old_frame_gone

-- a change of the page in the space that has ASID 2 now is one
pub same_asid_changed : CoherentAllowsAll spaces_of_one_home (history_of run.unmapped_by_the_new_asid) 3 0
same_asid_changed = superseded_coherent spaces_of_one_home (history_of run.unmapped_by_the_new_asid) 3 0 refl

-- what is held of a space that retires is of a used ASID, and is held until the request is served
abbrev of_asid_2 : Entry
of_asid_2 = read_only_entry 2 (small_page 0x1000) 0x100

retiring_held : entries_of spaces_of_one_home (history_of run.retired_until_service) 1 ≡ of_asid_2 ∷ []
unfolding kind_of wish_fault path_end edit_of
retiring_held = refl

pub retiring_translates : Translates (IsMappedBy (entries_of spaces_of_one_home (history_of run.retired_until_service) 1)) 2 0x1004
retiring_translates =
    one_translates (entries_of spaces_of_one_home (history_of run.retired_until_service) 1) of_asid_2 2 0x1004 retiring_held (record { canonical = inl (omega arith); aligned = refl }) refl

pub nothing_held : entries_of spaces_of_one_home (history_of run.retired_until_acknowledged) 1 ≡ []
unfolding kind_of wish_fault path_end edit_of
nothing_held = refl

one_used : (H : History) (e : Entry) → IsOfUsedAsid spaces_of_one_home H e → HoldsUsedAsids spaces_of_one_home H (e ∷ [])
one_used H e used = All-cons (IsOfUsedAsid spaces_of_one_home H) e [] used (All-nil (IsOfUsedAsid spaces_of_one_home H))

pub retiring_is_used : HoldsUsedAsids spaces_of_one_home (history_of run.retired_until_service) (read_only_entry 2 (small_page 0x1000) 0x100 ∷ [])
retiring_is_used = one_used (history_of run.retired_until_service) of_asid_2 (λ _. (1, record { there = omega arith; kept = refl; same = refl }))

pub global_is_used : HoldsUsedAsids spaces_of_one_home (history_of run.retired_and_given_back) (global_entry (small_page 0xffffffffc0000000) 0x300 ∷ [])
global_is_used = one_used (history_of run.retired_and_given_back) (global_entry (small_page 0xffffffffc0000000) 0x300) (λ e. absurd (true≢false e))

-- none of a space that is free, nor of an ASID that its space no longer has
unused : (H : History) (e : Entry) → e.global ≡ false → ((s : ℕ) → ¬ HasAsid spaces_of_one_home H s e.asid) → UsedAsidsForbid spaces_of_one_home H e
unused H e local none entries at used =
    let has = used at.0 e at.1 (ap (λ (x : Entry). x.global) at.2 ∙ local) in
    none has.0 (subst (HasAsid spaces_of_one_home H has.0) (ap (λ (x : Entry). x.asid) at.2) has.1)

pub free_is_unused : UsedAsidsForbid spaces_of_one_home (history_of run.retired_and_given_back) (read_only_entry 2 (small_page 0x1000) 0x100)
free_is_unused = unused (history_of run.retired_and_given_back) of_asid_2 refl of_a_free_space

pub old_asid_is_unused : UsedAsidsForbid spaces_of_one_home (history_of run.orders_keep_their_asid) (read_only_entry 2 (small_page 0x1000) 0x100)
old_asid_is_unused = unused (history_of run.orders_keep_their_asid) of_asid_2 refl of_no_space

-- walks
pub walk_of_a_retiring_space : ¬ WalksUsedFrames spaces_of_one_home (history_of unlawful.retired_in_mid_walk) 1
walk_of_a_retiring_space walks = let bad : Retires 2 ≡ Live = (walks _ refl).0 in cc (bad)

pub walk_of_a_free_space : ¬ WalksUsedFrames spaces_of_one_home (history_of unlawful.given_back_in_mid_walk) 1
walk_of_a_free_space walks = let bad : Free ≡ Live = (walks _ refl).0 in cc (bad)

pub walk_to_an_unused_frame : ¬ WalksUsedFrames spaces_of_one_home (history_of unlawful.one_frame_for_two_spaces) 1
unfolding kind_of wish_fault path_end edit_of
walk_to_an_unused_frame walks = (walks _ refl).1 0 0 0x80003 (omega arith) refl refl refl
