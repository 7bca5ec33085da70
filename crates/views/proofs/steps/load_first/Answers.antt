use Rattle.views.proofs.Pairs.{begins}
use Rattle.views.proofs.OwnLoads.{records, wanted}
use Rattle.std.proofs.Common.{[], Some, inl, refl}
use Rattle.spaces.specs.Layout.{layout_of}
use Rattle.walk.specs.Step.{load_of}
use Rattle.views.specs.Turns.{asid_at}
use Rattle.views.proofs.Within.{within_loaded}
use Rattle.views.proofs.steps.load_first.Goals as goal

pub load-requires-clause-steps : goal.load-requires-clause-steps
load-requires-clause-steps c =
    rw (c.requires.fit.key_is, c.word_index-at.ensures.value, c.wants-table.ensures.table, c.wants-table.ensures.index)
    (begins c.args.config.now c.args.seat.now.id c.args.seat.now.view c.args.root c.args.walk c.requires.frame c.requires.root c.requires.start)

pub load-requires-clause-within : goal.load-requires-clause-within
load-requires-clause-within c n was =
    within_loaded c.args.seat.now.tlb.entries c.args.seat.now.view.entries (asid_at c.args.seat.now.view.config c.args.root) (load_of c.args.walk (Some n)) was

pub load-requires-clause-read : goal.load-requires-clause-read
load-requires-clause-read c n =
    rw (c.requires.fit.key_is, c.word_index-at.ensures.value, c.wants-table.ensures.table, c.wants-table.ensures.index)
    (records (layout_of c.args.config.now) c.args.seat.now.view c.args.root c.args.walk [] n (wanted (layout_of c.args.config.now) c.args.walk c.requires.frame) (inl refl))
