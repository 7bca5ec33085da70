-- The worked lines of causes, computed.
use Rattle.std.proofs.Common.{◌≡◌, ℕ, List, [], ◌∷◌, ap, refl, arith}
use Rattle.std.specs.Fmt.{digits}
use Rattle.watch_report.specs.declared.cause_line.NumberedTally.{NumberedTally}
use Rattle.watch_report.specs.WorkedCauseLines as lines

pub no_flush : lines.no_flush
no_flush = refl

pub no_fence : lines.no_fence
no_fence = refl

pub other_harts : lines.other_harts
other_harts = refl

pub other_spaces : lines.other_spaces
other_spaces = refl

pub spaces_of_kernel : lines.spaces_of_kernel
spaces_of_kernel = refl

pub other_pages : lines.other_pages
other_pages = refl

pub not_done : lines.not_done
not_done = refl

pub claim_begins : lines.claim_begins
unfolding digits
claim_begins = refl

pub free_begins : lines.free_begins
unfolding digits
free_begins = refl

pub one_finding : lines.one_finding
unfolding digits
one_finding = refl

pub one_kind : lines.one_kind
unfolding digits
one_kind = refl

pub each_kind : lines.each_kind
unfolding digits
each_kind = refl

pub one_of_each : lines.one_of_each
one_of_each = refl

pub of_kernel_alone : lines.of_kernel_alone
of_kernel_alone = refl

pub alike : lines.alike
alike = refl

pub by_reach : lines.by_reach
by_reach = refl

pub reuse_before_reach : lines.reuse_before_reach
reuse_before_reach = refl

pub users_before_reach : lines.users_before_reach
users_before_reach = refl

pub none : lines.none
none = refl

number_of_first : List NumberedTally → ℕ
number_of_first [] = 0
number_of_first (one ∷ ones) = one.number

pub kernels_first : lines.kernels_first
unfolding number_of_first
kernels_first is = let other : 4 ≡ 2 = ap number_of_first is in omega (arith, other)

pub fewer_first : lines.fewer_first
unfolding number_of_first
fewer_first is = let other : 2 ≡ 1 = ap number_of_first is in omega (arith, other)

pub last_first : lines.last_first
unfolding number_of_first
last_first is = let other : 1 ≡ 2 = ap number_of_first is in omega (arith, other)

pub more_before_used : lines.more_before_used
unfolding number_of_first
more_before_used is = let other : 1 ≡ 2 = ap number_of_first is in omega (arith, other)

pub not_reached_before_reachable : lines.not_reached_before_reachable
unfolding number_of_first
not_reached_before_reachable is = let other : 1 ≡ 2 = ap number_of_first is in omega (arith, other)

pub ruleset cause_texts = (no_flush, no_fence, other_harts, other_spaces, spaces_of_kernel, other_pages, not_done)

pub ruleset cause_lines = (claim_begins, free_begins, one_finding, one_kind, each_kind)

pub ruleset orders = (one_of_each, of_kernel_alone, alike, none, kernels_first, fewer_first, last_first, by_reach, reuse_before_reach, users_before_reach, more_before_used, not_reached_before_reachable)
