use Rattle.std.proofs.Common.{[], sym, subst}
use Rattle.history.specs.Setup.{setup_of}
use Rattle.one_hart.specs.Alone.{IsAlone}
use Rattle.one_hart.proofs.Opened.{first_alone}
use Rattle.one_hart.proofs.both.board_answers.Goals as goal

pub returns-clause-due : goal.returns-clause-due
returns-clause-due c =
    let setup = setup_of c.args.config.now in
    let opened = c.in_ok-_board.ensures in
    let alone = first_alone setup c.in_ok-_board.ports.items c.index_mut.result.now c.requires.setup c.requires.one opened.ports opened.new in
    (c.in_ok-answers.ensures setup [] (subst (IsAlone setup []) (sym c.index_mut.ensures.value) alone)).0
