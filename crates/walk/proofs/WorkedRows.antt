-- The worked rows are what a walk computes within three loads.
use Rattle.std.proofs.Common.{◌≡◌, ℕ, Result, refl, inl, arith, ◌∙◌}
use Rattle.pte.specs.declared.permission.Access.{Access}
use Rattle.pte.specs.declared.permission.Access.TheVariants.{Fetch, Load, Store}
use Rattle.pte.specs.declared.permission.Ctx.{Ctx}
use Rattle.pte.specs.declared.scheme.Scheme.TheVariants.{Sv39}
use Rattle.pte.specs.Address.{level_count}
use Rattle.pte.specs.Entry.{kind_of}
use Rattle.walk.specs.declared.found_or_trap.Found.{Found}
use Rattle.walk.specs.declared.found_or_trap.Trap.{Trap}
use Rattle.walk.specs.Stage.{start_of}
use Rattle.walk.specs.Loads.{answer_after}
use Rattle.walk.specs.Frames.{three_frames}
use Rattle.walk.specs.WorkedRows.{Gives, user, with_mxr, supervisor, with_sum}
use Rattle.walk.specs.WorkedRows as rows
use Rattle.walk.proofs.Unique.{level_count_loads}

computed : (root middle low : ℕ) (access : Access) (ctx : Ctx) (answer : Result Found Trap)
    → answer_after (level_count Sv39) (three_frames root middle low) (start_of Sv39 0x80000 0x80403ABC access ctx) ≡ answer → Gives root middle low access ctx answer
unfolding Gives
computed root middle low access ctx answer is given outcome =
    (level_count_loads Sv39 (three_frames root middle low) 0x80000 0x80403ABC access ctx given (inl (omega arith))).0 outcome ∙ is

pub small_page : rows.small_page
unfolding kind_of
small_page = computed 0x20000401 0x20000801 0x48D14D7 Load user _ refl

pub middle_page : rows.middle_page
unfolding kind_of
middle_page = computed 0x20000401 0x48800D7 0x48D14D7 Load user _ refl

pub large_page : rows.large_page
unfolding kind_of
large_page = computed 0x100000D7 0x20000801 0x48D14D7 Load user _ refl

pub misaligned : rows.misaligned
unfolding kind_of
misaligned = computed 0x20000401 0x48804D7 0x48D14D7 Load user _ refl

pub sum_lets_no_fetch : rows.sum_lets_no_fetch
unfolding kind_of
sum_lets_no_fetch = computed 0x20000401 0x20000801 0x48D145B Fetch with_sum _ refl

pub sum_lets_load : rows.sum_lets_load
unfolding kind_of
sum_lets_load = computed 0x20000401 0x20000801 0x48D145B Load with_sum _ refl

pub no_sum : rows.no_sum
unfolding kind_of
no_sum = computed 0x20000401 0x20000801 0x48D145B Load supervisor _ refl

pub user_fetches : rows.user_fetches
unfolding kind_of
user_fetches = computed 0x20000401 0x20000801 0x48D145B Fetch user _ refl

pub no_mxr : rows.no_mxr
unfolding kind_of
no_mxr = computed 0x20000401 0x20000801 0x48D1459 Load user _ refl

pub mxr_lets_load : rows.mxr_lets_load
unfolding kind_of
mxr_lets_load = computed 0x20000401 0x20000801 0x48D1459 Load with_mxr _ refl

pub no_store : rows.no_store
unfolding kind_of
no_store = computed 0x20000401 0x20000801 0x48D1459 Store user _ refl

pub not_accessed : rows.not_accessed
unfolding kind_of
not_accessed = computed 0x20000401 0x20000801 0x48D1417 Load user _ refl

pub denied_first : rows.denied_first
unfolding kind_of
denied_first = computed 0x20000401 0x20000801 0x48D1417 Fetch user _ refl

pub clean_page_loads : rows.clean_page_loads
unfolding kind_of
clean_page_loads = computed 0x20000401 0x20000801 0x48D1457 Load user _ refl

pub not_dirty : rows.not_dirty
unfolding kind_of
not_dirty = computed 0x20000401 0x20000801 0x48D1457 Store user _ refl

pub user_pointer : rows.user_pointer
unfolding kind_of
user_pointer = computed 0x20000411 0x20000801 0x48D14D7 Load user _ refl

pub too_deep : rows.too_deep
unfolding kind_of
too_deep = computed 0x20000401 0x20000801 0x20000401 Load user _ refl

pub outside_load : rows.outside_load
unfolding kind_of
outside_load = computed 0x20000C01 0x20000801 0x48D14D7 Load user _ refl

pub outside_store : rows.outside_store
unfolding kind_of
outside_store = computed 0x20000C01 0x20000801 0x48D14D7 Store user _ refl

pub outside_fetch : rows.outside_fetch
unfolding kind_of
outside_fetch = computed 0x20000C01 0x20000801 0x48D14D7 Fetch user _ refl

pub high_bit : rows.high_bit
unfolding kind_of
high_bit = computed 0x20000401 0x20000801 0x80000000048D14D7 Load user _ refl

pub write_only : rows.write_only
unfolding kind_of
write_only = computed 0x20000401 0x20000801 0x48D14D5 Load user _ refl

pub software_bits : rows.software_bits
unfolding kind_of
software_bits = computed 0x20000401 0x20000801 0x48D17D7 Load user _ refl

pub global_pointer : rows.global_pointer
unfolding kind_of
global_pointer = computed 0x20000421 0x20000801 0x48D14D7 Load user _ refl

pub root_to_itself : rows.root_to_itself
unfolding kind_of
root_to_itself = computed 0x20000001 0x20000801 0x48D14D7 Load user _ refl

pub all_ones : rows.all_ones
unfolding kind_of
all_ones = computed 0xFFFFFFFFFFFFFFFF 0x20000801 0x48D14D7 Load user _ refl

pub all_ones_but_v : rows.all_ones_but_v
unfolding kind_of
all_ones_but_v = computed 0xFFFFFFFFFFFFFFFE 0x20000801 0x48D14D7 Load user _ refl

pub highest_table : rows.highest_table
unfolding kind_of
highest_table = computed 0x3FFFFFFFFFFC01 0x20000801 0x48D14D7 Load user _ refl

pub accessed_pointer : rows.accessed_pointer
unfolding kind_of
accessed_pointer = computed 0x20000441 0x20000801 0x48D14D7 Load user _ refl

pub dirty_pointer : rows.dirty_pointer
unfolding kind_of
dirty_pointer = computed 0x20000481 0x20000801 0x48D14D7 Load user _ refl

pub write_and_execute : rows.write_and_execute
unfolding kind_of
write_and_execute = computed 0x20000401 0x20000801 0x48D14DD Fetch user _ refl

pub lowest_high_bit : rows.lowest_high_bit
unfolding kind_of
lowest_high_bit = computed 0x20000401 0x20000801 0x400000048D14D7 Load user _ refl

pub software_bits_of_pointer : rows.software_bits_of_pointer
unfolding kind_of
software_bits_of_pointer = computed 0x20000701 0x20000801 0x48D14D7 Load user _ refl

pub global_middle_pointer : rows.global_middle_pointer
unfolding kind_of
global_middle_pointer = computed 0x20000401 0x20000821 0x48D14D7 Load user _ refl

pub global_leaf : rows.global_leaf
unfolding kind_of
global_leaf = computed 0x20000401 0x20000801 0x48D14F7 Load user _ refl

pub supervisor_page : rows.supervisor_page
unfolding kind_of
supervisor_page = computed 0x20000401 0x20000801 0x48D14CF Load user _ refl

pub supervisor_fetches : rows.supervisor_fetches
unfolding kind_of
supervisor_fetches = computed 0x20000401 0x20000801 0x48D14CF Fetch supervisor _ refl

pub sum_lets_store : rows.sum_lets_store
unfolding kind_of
sum_lets_store = computed 0x20000401 0x20000801 0x48D14D7 Store with_sum _ refl

pub denied_before_misaligned : rows.denied_before_misaligned
unfolding kind_of
denied_before_misaligned = computed 0x20000401 0x48804C7 0x48D14D7 Load user _ refl

pub misaligned_before_accessed : rows.misaligned_before_accessed
unfolding kind_of
misaligned_before_accessed = computed 0x20000401 0x4880417 0x48D14D7 Load user _ refl

pub misaligned_before_dirty : rows.misaligned_before_dirty
unfolding kind_of
misaligned_before_dirty = computed 0x20000401 0x4880457 0x48D14D7 Store user _ refl

pub misaligned_by_half : rows.misaligned_by_half
unfolding kind_of
misaligned_by_half = computed 0x20000401 0x48C00D7 0x48D14D7 Load user _ refl

pub misaligned_large_page : rows.misaligned_large_page
unfolding kind_of
misaligned_large_page = computed 0x180000D7 0x20000801 0x48D14D7 Load user _ refl

pub accessed_before_dirty : rows.accessed_before_dirty
unfolding kind_of
accessed_before_dirty = computed 0x20000401 0x20000801 0x48D1417 Store user _ refl

pub dirty_alone : rows.dirty_alone
unfolding kind_of
dirty_alone = computed 0x20000401 0x20000801 0x48D1497 Load user _ refl

pub fetch_not_accessed : rows.fetch_not_accessed
unfolding kind_of
fetch_not_accessed = computed 0x20000401 0x20000801 0x48D141B Fetch user _ refl

-- the rows of each table
pub ruleset pages = (
  small_page,
  middle_page,
  large_page,
  misaligned,
  misaligned_by_half,
  misaligned_large_page,
)

pub ruleset permissions = (
  sum_lets_no_fetch,
  sum_lets_load,
  sum_lets_store,
  no_sum,
  user_fetches,
  no_mxr,
  mxr_lets_load,
  no_store,
  supervisor_page,
  supervisor_fetches,
)

pub ruleset accessed_and_dirty = (
  not_accessed,
  clean_page_loads,
  not_dirty,
  accessed_before_dirty,
  dirty_alone,
  fetch_not_accessed,
)

pub ruleset orders_of_faults = (
  denied_first,
  denied_before_misaligned,
  misaligned_before_accessed,
  misaligned_before_dirty,
)

pub ruleset words = (
  user_pointer,
  accessed_pointer,
  dirty_pointer,
  high_bit,
  lowest_high_bit,
  write_only,
  write_and_execute,
  software_bits,
  software_bits_of_pointer,
  root_to_itself,
  all_ones,
  all_ones_but_v,
)

pub ruleset global_bits = (global_pointer, global_middle_pointer, global_leaf)

pub ruleset ends_of_paths = (too_deep, outside_load, outside_store, outside_fetch, highest_table)
