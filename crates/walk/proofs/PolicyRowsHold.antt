-- Each worked row of the policies computes.
use Rattle.std.proofs.Common.{refl}
use Rattle.pte.specs.Entry.{kind_of}
use Rattle.walk.specs.PolicyRows as rows

pub load_sets_accessed : rows.load_sets_accessed
unfolding kind_of
load_sets_accessed = refl

pub store_sets_both : rows.store_sets_both
unfolding kind_of
store_sets_both = refl

pub load_leaves_dirty_clear : rows.load_leaves_dirty_clear
unfolding kind_of
load_leaves_dirty_clear = refl

pub store_sets_dirty : rows.store_sets_dirty
unfolding kind_of
store_sets_dirty = refl

pub store_sets_accessed : rows.store_sets_accessed
unfolding kind_of
store_sets_accessed = refl

pub store_finds_both : rows.store_finds_both
unfolding kind_of
store_finds_both = refl

pub fetch_sets_accessed : rows.fetch_sets_accessed
unfolding kind_of
fetch_sets_accessed = refl

pub denied_sets_nothing : rows.denied_sets_nothing
unfolding kind_of
denied_sets_nothing = refl

pub misaligned_sets_nothing : rows.misaligned_sets_nothing
unfolding kind_of
misaligned_sets_nothing = refl

pub too_deep : rows.too_deep
unfolding kind_of
too_deep = refl

pub accessed_traps : rows.accessed_traps
unfolding kind_of
accessed_traps = refl

pub dirty_traps : rows.dirty_traps
unfolding kind_of
dirty_traps = refl

pub pointer_goes_on : rows.pointer_goes_on
unfolding kind_of
pointer_goes_on = refl

pub outside : rows.outside
unfolding kind_of
outside = refl

pub ruleset rows_hold = (load_sets_accessed, store_sets_both, load_leaves_dirty_clear, store_sets_dirty, store_sets_accessed, store_finds_both, fetch_sets_accessed, denied_sets_nothing, misaligned_sets_nothing, too_deep, accessed_traps, dirty_traps, pointer_goes_on, outside)
