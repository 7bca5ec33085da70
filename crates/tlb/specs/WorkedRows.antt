-- Worked rows: what was worked out by hand from the rules of fences, matches and services; in the
-- first part whatever the entries' PPNs and flags are.
use Rattle.std.specs.Prelude.{◌≡◌, ℕ, zero, suc, ◌+◌, ◌*◌, Bool, true, false, Some, None, Ok, Err}
use Rattle.std.specs.Prelude.{List, [], ◌∷◌, map}
use Rattle.pte.specs.declared.scheme.Scheme.TheVariants.{Sv39, Sv48}
use Rattle.pte.specs.declared.flags.PteFlags.{PteFlags}
use Rattle.pte.specs.declared.address.PageSize.{PageSize}
use Rattle.pte.specs.declared.address.PageSize.TheVariants.{Kib4, Mib2, Gib1, Gib512}
use Rattle.pte.specs.declared.address.What.TheVariants.{PageOf, SpaceOf, All}
use Rattle.pte.specs.Address.{Span}
use Rattle.pte.specs.declared.permission.Access.TheVariants.{Fetch, Load, Store}
use Rattle.pte.specs.declared.permission.Mode.TheVariants.{User}
use Rattle.pte.specs.declared.permission.Ctx.{Ctx}
use Rattle.walk.specs.declared.found_or_trap.Found.{Found}
use Rattle.walk.specs.declared.found_or_trap.Why.TheVariants.{Denied, NotDirty}
use Rattle.tlb.specs.declared.store.Entry.{Entry}
use Rattle.tlb.specs.Answer.{answer_of, entry_of}
use Rattle.tlb.specs.Banks.{by_age, tag_of}
use Rattle.tlb.specs.Entries.{filled, first_match}
use Rattle.tlb.specs.Fence.{fenced}
use Rattle.tlb.specs.Service.{after_service}
use Rattle.tlb.specs.Slots.{closed_up}

module _ (ppn : ℕ) (flags : PteFlags) where
  abbrev pub page : PageSize → ℕ → Span
  page size base = record { base = base; size = size }

  abbrev pub entry : ℕ → Bool → Span → Entry
  entry asid global p = record { asid = asid; global = global; page = p; ppn = ppn; flags = flags }

  -- fences
  abbrev pub a : Entry
  a = entry 0 false (page Kib4 0)

  abbrev pub b : Entry
  b = entry 0 false (page Kib4 0x1000)

  abbrev pub c : Entry
  c = entry 1 false (page Kib4 0)

  abbrev pub d : Entry
  d = entry 0 true (page Kib4 0)

  abbrev pub four : List Entry
  four = a ∷ b ∷ c ∷ d ∷ []

  abbrev pub form_3 : Type 0
  form_3 = fenced Sv39 four (Some 0) None ≡ b ∷ []

  abbrev pub form_2 : Type 0
  form_2 = fenced Sv39 four None (Some 0) ≡ c ∷ d ∷ []

  abbrev pub form_2_high_bits : Type 0
  form_2_high_bits = fenced Sv39 four None (Some 0x10000) ≡ c ∷ d ∷ []

  abbrev pub form_4 : Type 0
  form_4 = fenced Sv39 four (Some 0) (Some 0) ≡ b ∷ c ∷ d ∷ []

  abbrev pub form_4_inside_the_page : Type 0
  form_4_inside_the_page = fenced Sv39 four (Some 0xFFF) (Some 1) ≡ a ∷ b ∷ d ∷ []

  abbrev pub not_canonical : Type 0
  not_canonical = fenced Sv39 four (Some 0x4000000000) None ≡ four

  abbrev pub form_1 : Type 0
  form_1 = fenced Sv39 four None None ≡ []

  -- the first address behind a page is none of it
  abbrev pub form_3_behind_the_page : Type 0
  form_3_behind_the_page = fenced Sv39 four (Some 0x1000) None ≡ a ∷ c ∷ d ∷ []

  -- a kernel page, by its last address; what is not canonical lies between the last address below
  -- and the first above
  abbrev pub k : Entry
  k = entry 1 true (page Kib4 0xFFFFFFFFC0000000)

  abbrev pub below : Entry
  below = entry 1 false (page Gib1 0x3FC0000000)

  abbrev pub above : Entry
  above = entry 1 false (page Gib1 0xFFFFFFC000000000)

  abbrev pub form_3_kernel_page : Type 0
  form_3_kernel_page = fenced Sv39 (k ∷ a ∷ []) (Some 0xFFFFFFFFC0000FFF) None ≡ a ∷ []

  abbrev pub last_canonical_below : Type 0
  last_canonical_below = fenced Sv39 (below ∷ above ∷ []) (Some 0x3FFFFFFFFF) None ≡ above ∷ []

  abbrev pub first_canonical_above : Type 0
  first_canonical_above =
      fenced Sv39 (below ∷ above ∷ []) (Some 0xFFFFFFC000000000) None ≡ below ∷ []

  abbrev pub not_canonical_above : Type 0
  not_canonical_above =
      fenced Sv39 (below ∷ above ∷ []) (Some 0xFFFFFFBFFFFFFFFF) None ≡ below ∷ above ∷ []

  -- a fence of Sv48 counts addresses that Sv39 does not have
  abbrev pub beyond : Entry
  beyond = entry 1 false (page Kib4 0x4000000000)

  abbrev pub sv48_takes_it_out : Type 0
  sv48_takes_it_out = fenced Sv48 (beyond ∷ a ∷ []) (Some 0x4000000000) None ≡ a ∷ []

  abbrev pub sv39_leaves_it : Type 0
  sv39_leaves_it = fenced Sv39 (beyond ∷ a ∷ []) (Some 0x4000000000) None ≡ beyond ∷ a ∷ []

  abbrev pub sv48_takes_it_out_of_its_space : Type 0
  sv48_takes_it_out_of_its_space =
      fenced Sv48 (beyond ∷ a ∷ []) (Some 0x4000000FFF) (Some 1) ≡ a ∷ []

  abbrev pub sv48_leaves_it_of_another_space : Type 0
  sv48_leaves_it_of_another_space =
      fenced Sv48 (beyond ∷ a ∷ []) (Some 0x4000000000) (Some 2) ≡ beyond ∷ a ∷ []

  -- the ends of the two halves of Sv48
  abbrev pub last_low : Entry
  last_low = entry 1 false (page Gib512 0x7F8000000000)

  abbrev pub first_high : Entry
  first_high = entry 1 false (page Gib512 0xFFFF800000000000)

  abbrev pub last_canonical_of_sv48 : Type 0
  last_canonical_of_sv48 =
      fenced Sv48 (last_low ∷ first_high ∷ []) (Some 0x7FFFFFFFFFFF) None ≡ first_high ∷ []

  abbrev pub first_canonical_above_of_sv48 : Type 0
  first_canonical_above_of_sv48 =
      fenced Sv48 (last_low ∷ first_high ∷ []) (Some 0xFFFF800000000000) None ≡ last_low ∷ []

  abbrev pub not_canonical_of_sv48 : Type 0
  not_canonical_of_sv48 =
      fenced Sv48 (last_low ∷ first_high ∷ []) (Some 0x800000000000) None
      ≡ last_low ∷ first_high ∷ []

  abbrev pub not_canonical_above_of_sv48 : Type 0
  not_canonical_above_of_sv48 =
      fenced Sv48 (last_low ∷ first_high ∷ []) (Some 0xFFFF7FFFFFFFFFFF) None
      ≡ last_low ∷ first_high ∷ []

  -- 512 GiB at 0x8000000000
  abbrev pub widest : Entry
  widest = entry 1 false (page Gib512 0x8000000000)

  abbrev pub widest_matches_its_first : Type 0
  widest_matches_its_first = first_match (a ∷ widest ∷ []) 1 0x8000000000 ≡ Some widest

  abbrev pub widest_matches_its_last : Type 0
  widest_matches_its_last = first_match (a ∷ widest ∷ []) 1 0xFFFFFFFFFF ≡ Some widest

  abbrev pub widest_ends : Type 0
  widest_ends = first_match (a ∷ widest ∷ []) 1 0x10000000000 ≡ None

  abbrev pub widest_begins : Type 0
  widest_begins = first_match (a ∷ widest ∷ []) 1 0x7FFFFFFFFF ≡ None

  abbrev pub widest_is_fenced_by_any_address : Type 0
  widest_is_fenced_by_any_address = fenced Sv48 (a ∷ widest ∷ []) (Some 0x8080403ABC) None ≡ a ∷ []

  abbrev pub widest_goes_by_a_part : Type 0
  widest_goes_by_a_part =
      after_service (a ∷ widest ∷ beyond ∷ []) (PageOf (page Kib4 0xFFFFFFF000) (Some 1))
      ≡ a ∷ beyond ∷ []

  abbrev pub parts_go_by_the_widest : Type 0
  parts_go_by_the_widest =
      after_service (entry 1 false (page Kib4 0xFFFFFFF000) ∷ beyond ∷ widest ∷ [])
      (PageOf (page Gib512 0x8000000000) (Some 1)) ≡ beyond ∷ []

  abbrev pub parts_of_all_spaces_go : Type 0
  parts_of_all_spaces_go =
      after_service (entry 2 true (page Gib1 0x8040000000) ∷ beyond ∷ [])
      (PageOf (page Gib512 0x8000000000) None) ≡ beyond ∷ []

  -- all 16 bits of an ASID count
  abbrev pub last_asid : Entry
  last_asid = entry 0xFFFF false (page Kib4 0)

  abbrev pub form_2_all_bits : Type 0
  form_2_all_bits =
      fenced Sv39 (last_asid ∷ entry 0x7FFF false (page Kib4 0) ∷ []) None (Some 0xFFFF)
      ≡ entry 0x7FFF false (page Kib4 0) ∷ []

  -- ASID 0 is an address space as any other
  abbrev pub asid_0_matches_its_own : Type 0
  asid_0_matches_its_own = first_match (a ∷ []) 1 0 ≡ None

  -- look-ups and services
  abbrev pub A : Entry
  A = entry 1 false (page Mib2 0x400000)

  abbrev pub B : Entry
  B = entry 1 false (page Kib4 0x5FF000)

  abbrev pub C : Entry
  C = entry 1 true (page Kib4 0x401000)

  abbrev pub D : Entry
  D = entry 2 false (page Mib2 0x400000)

  abbrev pub E : Entry
  E = entry 1 false (page Gib1 0)

  abbrev pub F : Entry
  F = entry 1 false (page Kib4 0x600000)

  abbrev pub six : List Entry
  six = A ∷ B ∷ C ∷ D ∷ E ∷ F ∷ []

  abbrev pub oldest : Type 0
  oldest = first_match six 1 0x401000 ≡ Some A

  abbrev pub global_matches : Type 0
  global_matches = first_match six 2 0x401000 ≡ Some C

  abbrev pub superpage_matches : Type 0
  superpage_matches = first_match six 2 0x5FF000 ≡ Some D

  abbrev pub none_matches : Type 0
  none_matches = first_match six 3 0x600000 ≡ None

  abbrev pub form_3_superpages : Type 0
  form_3_superpages = fenced Sv39 six (Some 0x5FFFFF) None ≡ C ∷ F ∷ []

  abbrev pub form_4_superpages : Type 0
  form_4_superpages = fenced Sv39 six (Some 0x401FFF) (Some 1) ≡ B ∷ C ∷ D ∷ F ∷ []

  abbrev pub superpage_of_space : Type 0
  superpage_of_space = after_service six (PageOf (page Mib2 0x400000) (Some 1)) ≡ C ∷ D ∷ F ∷ []

  abbrev pub page_of_space : Type 0
  page_of_space = after_service six (PageOf (page Kib4 0x401000) (Some 1)) ≡ B ∷ C ∷ D ∷ F ∷ []

  abbrev pub global_page : Type 0
  global_page = after_service six (PageOf (page Kib4 0x401000) None) ≡ B ∷ F ∷ []

  -- A and B end where F begins
  abbrev pub page_behind_others : Type 0
  page_behind_others = after_service six (PageOf (page Kib4 0x600000) (Some 1)) ≡ A ∷ B ∷ C ∷ D ∷ []

  abbrev pub whole_space : Type 0
  whole_space = after_service six (SpaceOf 1) ≡ C ∷ D ∷ []

  abbrev pub everything : Type 0
  everything = after_service six All ≡ []

  -- the TLB after n fills, of the pages of 4 KiB 1 to n
  abbrev pub pages : ℕ → List Entry
  pages zero = []
  pages (suc n) = filled (pages n) (entry 1 false (page Kib4 ((n + 1) * 0x1000)))

  abbrev pub seventeenth_drops_first : Type 0
  seventeenth_drops_first = first_match (pages 17) 1 0x1000 ≡ None

  abbrev pub seventeenth_keeps_second : Type 0
  seventeenth_keeps_second =
      first_match (pages 17) 1 0x2000 ≡ Some (entry 1 false (page Kib4 0x2000))

  -- a page that is filled twice, with another PPN, has two entries, and the older one answers
  abbrev pub moved : Entry
  moved = record { asid = 0; global = false; page = page Kib4 0; ppn = ppn + 1; flags = flags }

  abbrev pub twice_filled : Type 0
  twice_filled = filled (filled [] a) moved ≡ a ∷ moved ∷ []

  abbrev pub older_answers : Type 0
  older_answers = first_match (filled (filled [] a) moved) 0 0 ≡ Some a

  -- three entries hold an address, each of another size, filled in this order: the oldest answers.
  -- A service drops the larger two, and the third is then the oldest of all: it is held after 15
  -- fills of other pages and gone after one more
  abbrev pub first_of_three : Entry
  first_of_three = entry 1 false (page Gib1 0)

  abbrev pub second_of_three : Entry
  second_of_three = entry 1 false (page Kib4 0x1000)

  abbrev pub third_of_three : Entry
  third_of_three = entry 1 false (page Mib2 0)

  abbrev pub three_sizes : List Entry
  three_sizes = filled (filled (filled [] first_of_three) second_of_three) third_of_three

  abbrev pub oldest_of_three_sizes : Type 0
  oldest_of_three_sizes = first_match three_sizes 1 0x1000 ≡ Some first_of_three

  abbrev pub one_of_three_stays : Type 0
  one_of_three_stays =
      after_service three_sizes (PageOf (page Kib4 0x40000) (Some 1)) ≡ second_of_three ∷ []

  -- the TLB of the entry alone after n fills more, of the pages of 4 KiB 2 to n + 1
  abbrev pub fills_later : ℕ → List Entry
  fills_later zero = second_of_three ∷ []
  fills_later (suc n) = filled (fills_later n) (entry 1 false (page Kib4 ((n + 2) * 0x1000)))

  abbrev pub there_after_fifteen : Type 0
  there_after_fifteen = first_match (fills_later 15) 1 0x1000 ≡ Some second_of_three

  abbrev pub gone_after_sixteen : Type 0
  gone_after_sixteen = first_match (fills_later 16) 1 0x1000 ≡ None

  -- three slots with the ages 2, 0 and 1, and a fourth that is not in use
  abbrev pub ages : List ℕ
  ages = 2 ∷ 0 ∷ 1 ∷ 3 ∷ []

  abbrev pub order_by_age : Type 0
  order_by_age = by_age (a ∷ b ∷ c ∷ d ∷ []) ages 3 ≡ b ∷ c ∷ a ∷ []

  -- a drop of the age 1 lowers the ages above it
  abbrev pub ages_close_up : Type 0
  ages_close_up = map (closed_up 1) ages ≡ 1 ∷ 0 ∷ 15 ∷ 2 ∷ []

  abbrev pub order_after_a_drop : Type 0
  order_after_a_drop = by_age (a ∷ b ∷ c ∷ d ∷ []) (map (closed_up 1) ages) 2 ≡ b ∷ a ∷ []

  -- the tag of an address is the number of its page there, of which 32 bits count
  abbrev pub tags : Type 0
  tags =
      (tag_of 0x8080403FFF Kib4 ≡ 0x8080403) × (tag_of 0x8080403FFF Gib512 ≡ 1)
      × (tag_of 0xFFFFFFFFFFFFFFFF Kib4 ≡ 0xFFFFFFFF)

  -- what a walk found on a leaf of 2 MiB, and under a global mapping or not
  abbrev pub found : Bool → Found
  found global =
      record { pa = 0; page = page Mib2 0x400000; ppn = ppn; flags = flags; global = global }

  abbrev pub found_is_of_the_space : Type 0
  found_is_of_the_space = first_match (entry_of 1 (found false) ∷ []) 2 0x5FFFFF ≡ None

  abbrev pub found_global_is_of_every_space : Type 0
  found_global_is_of_every_space =
      first_match (entry_of 1 (found true) ∷ []) 2 0x5FFFFF
      ≡ Some (entry 1 true (page Mib2 0x400000))

-- what a leaf of U-mode with A and no D answers: of its PPN 44 bits count, and the place is that in
-- its own page
abbrev pub clean : PageSize → ℕ → Entry
clean size ppn =
    record {
      asid = 1;
      global = false;
      page = record { base = 0x40000000; size = size };
      ppn = ppn;
      flags = record { 0 = 0x56 };
    }

abbrev pub user : Ctx
user = record { mode = User; sum = false; mxr = false }

abbrev pub small_page_answers : Type 0
small_page_answers = answer_of (clean Kib4 0x12345) 0x40000ABC Load user ≡ Ok 0x12345ABC

abbrev pub superpage_answers : Type 0
superpage_answers = answer_of (clean Mib2 0x200) 0x401FFFFF Load user ≡ Ok 0x3FFFFF

abbrev pub huge_page_answers : Type 0
huge_page_answers = answer_of (clean Gib1 0x40000) 0x7FFFFFFF Load user ≡ Ok 0x7FFFFFFF

abbrev pub widest_page_answers : Type 0
widest_page_answers =
    answer_of
    (record {
      asid = 1;
      global = false;
      page = record { base = 0x8000000000; size = Gib512 };
      ppn = 0x10000000;
      flags = record { 0 = 0x56 };
    })
    0x8080403ABC Load user
    ≡ Ok 0x10080403ABC

abbrev pub bits_of_the_ppn : Type 0
bits_of_the_ppn = answer_of (clean Kib4 0x180000012345) 0x40000ABC Load user ≡ Ok 0x80000012345ABC

abbrev pub clean_page_is_not_stored_to : Type 0
clean_page_is_not_stored_to =
    answer_of (clean Kib4 0x12345) 0x40000ABC Store user
    ≡ Err (record { cause = 15; why = NotDirty })

abbrev pub clean_page_is_not_executed : Type 0
clean_page_is_not_executed =
    answer_of (clean Kib4 0x12345) 0x40000ABC Fetch user ≡ Err (record { cause = 12; why = Denied })
