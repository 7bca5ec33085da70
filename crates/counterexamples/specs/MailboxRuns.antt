-- Worked runs of mailboxes: the bound and the order of a mailbox, and its close.
use Rattle.std.specs.Prelude.{◌+◌, List, [], ◌∷◌, ◌++◌}
use Rattle.pte.specs.declared.address.What.TheVariants.{All}
use Rattle.history.specs.declared.event.Event.TheVariants.{Flush, Post, Take, ServeFence, Ack, AckSelf, Collect, Finish, Close}
use Rattle.history.specs.declared.event.Scope.TheVariants as scope
use Rattle.history.specs.declared.refusal.Refusal.TheVariants.{Closed, Full, Empty, Serving, NotFenced, NotDone}
use Rattle.history.specs.declared.reply.Reply.TheVariants.{Opened, Ok, Done, Waiting}
use Rattle.history.specs.Setup.{Setup}
use Rattle.counterexamples.specs.WorkedRuns.{Step, one_space, hart_0, hart_1, refused, taken}

-- two harts whose mailboxes hold 2 requests
abbrev pub mailboxes_of_two : Setup
mailboxes_of_two =
    record { harts = 2; capacity = 2; asids = 1 ∷ []; layout = one_space (8 ∷ 8 ∷ []) }

-- a full mailbox takes no more when a request is taken out or acknowledged, only when the
-- acknowledgement is collected; a closed one takes no more at all, and what waits is taken in order
abbrev pub two_requests_wait : List Step
two_requests_wait =
    (Flush 0 scope.All (hart_0 + hart_1), Opened 0)
    ∷ (Flush 0 scope.All (hart_0 + hart_1), Opened 1)
    ∷ (Flush 0 scope.All (hart_0 + hart_1), Opened 2)
    ∷ (Flush 0 scope.All (hart_0 + hart_1), Opened 3)
    ∷ (Post 0 0 1, Ok)
    ∷ (Post 0 1 1, Ok)
    ∷ (Post 0 2 1, refused Full)
    ∷ (Take 1 0, taken 0 All)
    ∷ (ServeFence 1, Ok)
    ∷ (Ack 1, Ok)
    ∷ (Post 0 2 1, refused Full)
    ∷ (Collect 0 0 1, Waiting hart_0)
    ∷ (Post 0 2 1, Ok)
    ∷ []

abbrev pub bound_order_and_close : List Step
bound_order_and_close =
    two_requests_wait
    ++ (Close 0 1, Ok)
    ∷ (Post 0 3 1, refused Closed)
    ∷ (Take 1 0, taken 1 All)
    ∷ (Take 1 0, refused Serving)
    ∷ (ServeFence 1, Ok)
    ∷ (Ack 1, Ok)
    ∷ (Take 1 0, taken 2 All)
    ∷ (Ack 1, refused NotFenced)
    ∷ (ServeFence 1, Ok)
    ∷ (Ack 1, Ok)
    ∷ (Take 1 0, refused Empty)
    ∷ []

-- a mailbox is closed in the middle of a shootdown: the posted order is finished, the other stays
-- open for good
abbrev pub close_in_mid_shootdown : List Step
close_in_mid_shootdown =
    (Flush 0 scope.All (hart_0 + hart_1), Opened 0)
    ∷ (Flush 0 scope.All (hart_0 + hart_1), Opened 1)
    ∷ (Post 0 0 1, Ok)
    ∷ (Take 1 0, taken 0 All)
    ∷ (Close 0 1, Ok)
    ∷ (Close 0 1, refused Closed)
    ∷ (Post 0 1 1, refused Closed)
    ∷ (Ack 1, refused NotFenced)
    ∷ (ServeFence 1, Ok)
    ∷ (Ack 1, Ok)
    ∷ (Collect 0 0 1, Waiting hart_0)
    ∷ (AckSelf 0 0, Done)
    ∷ (Finish 0 0, Ok)
    ∷ (AckSelf 0 1, Waiting hart_1)
    ∷ (Finish 0 1, refused NotDone)
    ∷ (Take 1 0, refused Empty)
    ∷ []
