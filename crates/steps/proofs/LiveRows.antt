-- The worked rows of `live`, computed.
use Rattle.std.proofs.Common.{refl}
use Rattle.shoot.specs.HartSet.{byte_of}
use Rattle.steps.specs.LiveRows as rows

pub translate_to_store : rows.translate_to_store
translate_to_store = refl

pub map_of_the_kernel : rows.map_of_the_kernel
map_of_the_kernel = refl

pub unmap_of_a_space : rows.unmap_of_a_space
unfolding byte_of
unmap_of_a_space = refl

pub protect_of_a_space : rows.protect_of_a_space
unfolding byte_of
protect_of_a_space = refl

pub flush_of_a_space : rows.flush_of_a_space
unfolding byte_of
flush_of_a_space = refl

pub switch_to_a_space : rows.switch_to_a_space
switch_to_a_space = refl

pub fence_of_an_address : rows.fence_of_an_address
fence_of_an_address = refl

pub fence_of_both : rows.fence_of_both
fence_of_both = refl

pub post_to_hart_2 : rows.post_to_hart_2
post_to_hart_2 = refl

pub serve_of_hart_0 : rows.serve_of_hart_0
serve_of_hart_0 = refl

pub serve_of_hart_5 : rows.serve_of_hart_5
serve_of_hart_5 = refl

pub ackself_of_the_last : rows.ackself_of_the_last
ackself_of_the_last = refl

pub collect_of_a_ticket : rows.collect_of_a_ticket
collect_of_a_ticket = refl

pub finish_of_a_ticket : rows.finish_of_a_ticket
finish_of_a_ticket = refl

pub close_to_hart_7 : rows.close_to_hart_7
close_to_hart_7 = refl

pub wait_for_a_ticket : rows.wait_for_a_ticket
wait_for_a_ticket = refl

pub setup_of_hart_3 : rows.setup_of_hart_3
setup_of_hart_3 = refl

pub hart_before_a_line : rows.hart_before_a_line
hart_before_a_line = refl

pub no_hart_before_setup : rows.no_hart_before_setup
no_hart_before_setup = refl

pub collect_with_a_hart : rows.collect_with_a_hart
collect_with_a_hart = refl

pub take_in_a_script : rows.take_in_a_script
take_in_a_script = refl

pub take_in_the_setup : rows.take_in_the_setup
take_in_the_setup = refl

pub retire_in_a_script : rows.retire_in_a_script
retire_in_a_script = refl

pub run_alone_in_a_script : rows.run_alone_in_a_script
run_alone_in_a_script = refl

pub live_alone_in_a_run : rows.live_alone_in_a_run
live_alone_in_a_run = refl

pub wait_in_a_run : rows.wait_in_a_run
wait_in_a_run = refl

pub collect_without_a_hart : rows.collect_without_a_hart
collect_without_a_hart = refl

pub unread_before_absent : rows.unread_before_absent
unread_before_absent = refl

pub absent_before_no_page : rows.absent_before_no_page
absent_before_no_page = refl

pub absent_of_the_setup : rows.absent_of_the_setup
absent_of_the_setup = refl

pub no_page_of_live : rows.no_page_of_live
no_page_of_live = refl

pub no_page_of_the_setup : rows.no_page_of_the_setup
no_page_of_the_setup = refl

pub terapage_of_live : rows.terapage_of_live
terapage_of_live = refl

pub no_terapage_of_live : rows.no_terapage_of_live
no_terapage_of_live = refl

pub ruleset live_step_rows = (translate_to_store, map_of_the_kernel, unmap_of_a_space, protect_of_a_space, flush_of_a_space, switch_to_a_space, fence_of_an_address, fence_of_both, post_to_hart_2, serve_of_hart_0, serve_of_hart_5, ackself_of_the_last, collect_of_a_ticket, finish_of_a_ticket, close_to_hart_7, wait_for_a_ticket, setup_of_hart_3)

pub ruleset live_fault_rows = (hart_before_a_line, no_hart_before_setup, collect_with_a_hart, take_in_a_script, take_in_the_setup, retire_in_a_script, run_alone_in_a_script, live_alone_in_a_run, wait_in_a_run, collect_without_a_hart, unread_before_absent, absent_before_no_page, absent_of_the_setup, no_page_of_live, no_page_of_the_setup)

pub ruleset live_page_rows = (terapage_of_live, no_terapage_of_live)
