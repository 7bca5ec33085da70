-- The worked rows of Sv48 are what a walk computes within four loads.
use Rattle.std.proofs.Common.{◌≡◌, ℕ, Result, refl, inl, inr, arith, ◌∙◌}
use Rattle.pte.specs.declared.permission.Access.{Access}
use Rattle.pte.specs.declared.permission.Access.TheVariants.{Fetch, Load, Store}
use Rattle.pte.specs.declared.scheme.Scheme.{Scheme}
use Rattle.pte.specs.declared.scheme.Scheme.TheVariants.{Sv39, Sv48}
use Rattle.pte.specs.Address.{IsCanonical, level_count}
use Rattle.pte.specs.Entry.{kind_of}
use Rattle.walk.specs.declared.found_or_trap.Found.{Found}
use Rattle.walk.specs.declared.found_or_trap.Trap.{Trap}
use Rattle.walk.specs.declared.found_or_trap.Why.TheVariants.{NotCanonical}
use Rattle.walk.specs.Stage.{start_of}
use Rattle.walk.specs.Loads.{answer_after}
use Rattle.walk.specs.Frames.{four_frames}
use Rattle.walk.specs.Leads.{Tables}
use Rattle.walk.specs.WorkedRows.{user, trap}
use Rattle.walk.specs.WorkedRowsSv48.{Gives, words}
use Rattle.walk.specs.WorkedRowsSv48 as rows
use Rattle.walk.proofs.Unique.{level_count_loads}

-- of Sv48 by four loads
computed : (tables : Tables) (va : ℕ) (access : Access) (answer : Result Found Trap) → IsCanonical Sv48 va
    → answer_after (level_count Sv48) tables (start_of Sv48 0x80000 va access user) ≡ answer → Gives Sv48 tables va access answer
unfolding Gives
computed tables va access answer canonical is given outcome = (level_count_loads Sv48 tables 0x80000 va access user given canonical).0 outcome ∙ is

-- and by none where the address is not canonical
refused : (scheme : Scheme) (tables : Tables) (va : ℕ) → (¬ IsCanonical scheme va) → Gives scheme tables va Load (trap 13 NotCanonical)
unfolding Gives
refused scheme tables va outside given (inl out) = out.1
refused scheme tables va outside given (inr went) = absurd (outside went.0)

pub four_loads : rows.four_loads
unfolding kind_of
four_loads = computed words 0x8080403ABC Load _ (inl (omega arith)) refl

pub widest_page : rows.widest_page
unfolding kind_of
widest_page = computed (four_frames 0x40000000D7 0x20000801 0x20000C01 0x48D14D7) 0x8080403ABC Load _ (inl (omega arith)) refl

pub misaligned_widest_page : rows.misaligned_widest_page
unfolding kind_of
misaligned_widest_page = computed (four_frames 0x40000004D7 0x20000801 0x20000C01 0x48D14D7) 0x8080403ABC Load _ (inl (omega arith)) refl

pub widest_page_misaligned_by_half : rows.widest_page_misaligned_by_half
unfolding kind_of
widest_page_misaligned_by_half = computed (four_frames 0x50000000D7 0x20000801 0x20000C01 0x48D14D7) 0x8080403ABC Load _ (inl (omega arith)) refl

pub large_page : rows.large_page
unfolding kind_of
large_page = computed (four_frames 0x20000401 0x100000D7 0x20000C01 0x48D14D7) 0x8080403ABC Load _ (inl (omega arith)) refl

pub middle_page : rows.middle_page
unfolding kind_of
middle_page = computed (four_frames 0x20000401 0x20000801 0x48800D7 0x48D14D7) 0x8080403ABC Load _ (inl (omega arith)) refl

pub denied_before_misaligned : rows.denied_before_misaligned
unfolding kind_of
denied_before_misaligned = computed (four_frames 0x40000004C7 0x20000801 0x20000C01 0x48D14D7) 0x8080403ABC Load _ (inl (omega arith)) refl

pub widest_page_not_dirty : rows.widest_page_not_dirty
unfolding kind_of
widest_page_not_dirty = computed (four_frames 0x4000000057 0x20000801 0x20000C01 0x48D14D7) 0x8080403ABC Store _ (inl (omega arith)) refl

pub global_root_pointer : rows.global_root_pointer
unfolding kind_of
global_root_pointer = computed (four_frames 0x20000421 0x20000801 0x20000C01 0x48D14D7) 0x8080403ABC Load _ (inl (omega arith)) refl

pub outside_at_level_2 : rows.outside_at_level_2
unfolding kind_of
outside_at_level_2 = computed (four_frames 0x20001001 0x20000801 0x20000C01 0x48D14D7) 0x8080403ABC Fetch _ (inl (omega arith)) refl

pub too_deep : rows.too_deep
unfolding kind_of
too_deep = computed (four_frames 0x20000401 0x20000801 0x20000C01 0x20000401) 0x8080403ABC Load _ (inl (omega arith)) refl

pub reserved_at_level_2 : rows.reserved_at_level_2
unfolding kind_of
reserved_at_level_2 = computed (four_frames 0x20000401 0x20000811 0x20000C01 0x48D14D7) 0x8080403ABC Load _ (inl (omega arith)) refl

pub last_of_the_low_half : rows.last_of_the_low_half
unfolding kind_of
last_of_the_low_half = computed words 0x7FFFFFFFFFFF Load _ (inl (omega arith)) refl

pub first_of_the_high_half : rows.first_of_the_high_half
unfolding kind_of
first_of_the_high_half = computed words 0xFFFF800000000000 Load _ (inr (omega arith, omega arith)) refl

pub not_of_sv39 : rows.not_of_sv39
not_of_sv39 = refused Sv39 words 0x8080403ABC (λ is. elim is [ inl low ↦ omega arith | inr high ↦ let from = high.0 in omega arith ])

pub behind_the_low_half : rows.behind_the_low_half
behind_the_low_half = refused Sv48 words 0x800000000000 (λ is. elim is [ inl low ↦ omega arith | inr high ↦ let from = high.0 in omega arith ])

pub before_the_high_half : rows.before_the_high_half
before_the_high_half = refused Sv48 words 0xFFFF7FFFFFFFFFFF (λ is. elim is [ inl low ↦ omega arith | inr high ↦ let from = high.0 in omega arith ])

-- the rows of each table
pub ruleset pages_of_sv48 = (four_loads, widest_page, large_page, middle_page, global_root_pointer)

pub ruleset faults_of_sv48 = (
  misaligned_widest_page,
  widest_page_misaligned_by_half,
  denied_before_misaligned,
  widest_page_not_dirty,
  outside_at_level_2,
  too_deep,
  reserved_at_level_2,
)

pub ruleset halves_of_sv48 = (
  last_of_the_low_half,
  first_of_the_high_half,
  not_of_sv39,
  behind_the_low_half,
  before_the_high_half,
)
