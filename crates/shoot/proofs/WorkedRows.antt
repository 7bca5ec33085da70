-- The worked rows, computed.
use Rattle.std.proofs.Common.{refl}
use Rattle.shoot.specs.HartSet.{byte_of, difference}
use Rattle.shoot.specs.Request.{Request}
use Rattle.shoot.specs.WorkedRows.{own_acked, one_collected, first_opened, posted_to_7, acked_by_2, acked_by_7, two_open, marks, alone, ticket_0_used_again, opened}
use Rattle.shoot.specs.WorkedRows as rows

pub mailbox_row : (a b c d : Request) → rows.mailbox_row a b c d
mailbox_row a b c d = ((((((((((((tt, refl), refl), refl), refl), refl), refl), refl), tt), refl), refl), refl), refl)

pub ticket_row : rows.ticket_row
unfolding own_acked one_collected byte_of difference
ticket_row = (refl, refl, refl, refl, refl, refl, refl)

pub own_row : rows.own_row
unfolding own_acked byte_of difference
own_row = (refl, refl, refl)

pub nothing_to_collect : (a b : Request) → rows.nothing_to_collect a b
nothing_to_collect a b = refl

pub one_to_collect : (a b : Request) → rows.one_to_collect a b
one_to_collect a b = refl

pub collected_once : (a b : Request) → rows.collected_once a b
collected_once a b = refl

pub one_left_to_collect : (a b : Request) → rows.one_left_to_collect a b
one_left_to_collect a b = refl

pub two_tickets_row : rows.two_tickets_row
unfolding first_opened posted_to_7 acked_by_2 acked_by_7 byte_of difference
two_tickets_row = (refl, refl, refl, refl, refl, refl, refl, refl, refl)

pub open_numbers : rows.open_numbers
unfolding first_opened two_open
open_numbers = refl

pub who_is_named : rows.who_is_named
unfolding first_opened two_open marks
who_is_named = refl

pub who_was_posted_to : rows.who_was_posted_to
unfolding first_opened two_open marks
who_was_posted_to = refl

pub who_acknowledged : rows.who_acknowledged
unfolding first_opened two_open marks
who_acknowledged = refl

pub who_is_collected : rows.who_is_collected
unfolding first_opened two_open marks
who_is_collected = refl

pub one_is_done : rows.one_is_done
unfolding first_opened two_open difference
one_is_done = refl

pub what_is_asked : rows.what_is_asked
unfolding alone
what_is_asked = refl

pub not_acked_again : rows.not_acked_again
unfolding alone ticket_0_used_again byte_of difference
not_acked_again = refl

pub not_collected_again : rows.not_collected_again
unfolding alone ticket_0_used_again byte_of difference
not_collected_again = refl

pub only_who_was_posted_to : rows.only_who_was_posted_to
only_who_was_posted_to = refl

pub last_ticket : rows.last_ticket
unfolding opened
last_ticket = refl

pub no_ticket : rows.no_ticket
unfolding opened
no_ticket = refl

pub home_before_number : rows.home_before_number
unfolding opened
home_before_number = refl

pub lowest_is_opened : rows.lowest_is_opened
unfolding opened difference
lowest_is_opened = refl

pub harts_of_a_byte : rows.harts_of_a_byte
harts_of_a_byte = refl

pub byte_of_harts : rows.byte_of_harts
unfolding byte_of
byte_of_harts = refl

pub large_page_of_asid_1 : rows.large_page_of_asid_1
large_page_of_asid_1 = refl

pub global_page_in_the_high_half : rows.global_page_in_the_high_half
global_page_in_the_high_half = refl

pub all : rows.all
all = refl

pub page_of_512_gib : rows.page_of_512_gib
page_of_512_gib = refl
