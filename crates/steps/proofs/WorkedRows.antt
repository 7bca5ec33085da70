-- The worked rows, computed.
use Rattle.std.proofs.Common.{refl}
use Rattle.shoot.specs.HartSet.{byte_of}
use Rattle.steps.specs.WorkedRows as rows

pub letter_r : rows.letter_r
letter_r = refl

pub letter_w : rows.letter_w
letter_w = refl

pub letter_x : rows.letter_x
letter_x = refl

pub letter_u : rows.letter_u
letter_u = refl

pub letter_g : rows.letter_g
letter_g = refl

pub letter_a : rows.letter_a
letter_a = refl

pub letter_d : rows.letter_d
letter_d = refl

pub three_letters : rows.three_letters
three_letters = refl

pub no_letters : rows.no_letters
no_letters = refl

pub letter_twice : rows.letter_twice
letter_twice = refl

pub letter_v : rows.letter_v
letter_v = refl

pub blanks_between_words : rows.blanks_between_words
blanks_between_words = refl

pub store_of_walk : rows.store_of_walk
store_of_walk = refl

pub begin_with_mxr : rows.begin_with_mxr
begin_with_mxr = refl

pub begin_with_a_store : rows.begin_with_a_store
begin_with_a_store = refl

pub fence_of_a_page : rows.fence_of_a_page
fence_of_a_page = refl

pub fence_of_a_space : rows.fence_of_a_space
fence_of_a_space = refl

pub unmap_of_the_kernel : rows.unmap_of_the_kernel
unfolding byte_of
unmap_of_the_kernel = refl

pub flush_of_all : rows.flush_of_all
unfolding byte_of
flush_of_all = refl

pub take_from_hart_0 : rows.take_from_hart_0
take_from_hart_0 = refl

pub retire_of_a_space : rows.retire_of_a_space
retire_of_a_space = refl

pub reclaim_of_a_space : rows.reclaim_of_a_space
reclaim_of_a_space = refl

pub create_of_a_space : rows.create_of_a_space
create_of_a_space = refl

pub wide_asid : rows.wide_asid
wide_asid = refl

pub load_of_hart_2 : rows.load_of_hart_2
load_of_hart_2 = refl

pub map_of_a_space : rows.map_of_a_space
map_of_a_space = refl

pub protect_of_the_kernel : rows.protect_of_the_kernel
unfolding byte_of
protect_of_the_kernel = refl

pub switch_of_hart_1 : rows.switch_of_hart_1
switch_of_hart_1 = refl

pub post_to_hart_3 : rows.post_to_hart_3
post_to_hart_3 = refl

pub servefence_of_hart_3 : rows.servefence_of_hart_3
servefence_of_hart_3 = refl

pub ack_of_hart_3 : rows.ack_of_hart_3
ack_of_hart_3 = refl

pub ackself_of_hart_2 : rows.ackself_of_hart_2
ackself_of_hart_2 = refl

pub collect_from_hart_3 : rows.collect_from_hart_3
collect_from_hart_3 = refl

pub finish_of_hart_2 : rows.finish_of_hart_2
finish_of_hart_2 = refl

pub close_to_hart_3 : rows.close_to_hart_3
close_to_hart_3 = refl

pub protect_of_a_space : rows.protect_of_a_space
unfolding byte_of
protect_of_a_space = refl

pub unmap_of_a_space : rows.unmap_of_a_space
unfolding byte_of
unmap_of_a_space = refl

pub flush_of_a_space : rows.flush_of_a_space
unfolding byte_of
flush_of_a_space = refl

pub take_from_hart_6 : rows.take_from_hart_6
take_from_hart_6 = refl

pub no_step : rows.no_step
no_step = refl

pub no_hart : rows.no_hart
no_hart = refl

pub no_step_after_no_page : rows.no_step_after_no_page
no_step_after_no_page = refl

pub no_page : rows.no_page
no_page = refl

pub terapage : rows.terapage
unfolding byte_of
terapage = refl

pub no_terapage : rows.no_terapage
no_terapage = refl

pub unaligned_terapage : rows.unaligned_terapage
unaligned_terapage = refl

pub far_page : rows.far_page
far_page = refl

pub farther_page : rows.farther_page
farther_page = refl

pub ruleset letter_rows = (letter_r, letter_w, letter_x, letter_u, letter_g, letter_a, letter_d, three_letters, no_letters, letter_twice, letter_v)

pub ruleset step_rows = (blanks_between_words, store_of_walk, begin_with_mxr, begin_with_a_store, fence_of_a_page, fence_of_a_space, unmap_of_the_kernel, flush_of_all, take_from_hart_0, retire_of_a_space, reclaim_of_a_space, create_of_a_space, wide_asid)

pub ruleset fault_rows = (no_step, no_hart, no_step_after_no_page, no_page)

pub ruleset page_rows = (terapage, no_terapage, unaligned_terapage, far_page, farther_page)

pub ruleset line_rows = (load_of_hart_2, map_of_a_space, protect_of_the_kernel, protect_of_a_space, unmap_of_a_space, flush_of_a_space, take_from_hart_6, switch_of_hart_1, post_to_hart_3, servefence_of_hart_3, ack_of_hart_3, ackself_of_hart_2, collect_from_hart_3, finish_of_hart_2, close_to_hart_3)
