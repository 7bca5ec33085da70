use Rattle.std.proofs.Common.{◌≡◌, ◌∙◌, sym, ap, ℕ, ◌≤◌, length, subst}
use Rattle.std.specs.Prelude.{vec_capacity}
use Rattle.std.specs.Arc.{arc_value}
use Rattle.spaces.specs.declared.configuration.Config.{Config}
use Rattle.board.specs.Reports.{pairs_of}
use Rattle.board.specs.Rows.{AreEnds}
use Rattle.board.proofs.Returns.{all_ports, ends_back, reported}
use Rattle.board.proofs.Together.{of_ports}
use Rattle.board.proofs.board.Board.close.Goals as goal

pub gather-outboxes-requires-clause-room : goal.gather-outboxes-requires-clause-room
gather-outboxes-requires-clause-room c =
    let config = c.self.inside.config in
    let all : length c.args.ports.items ≡ (arc_value config).harts = all_ports c.args.self c.args.ports.items c.requires.ports ∙ ap (λ s. s.harts) (sym c.self.view_is) in (
      subst (λ n. n ≤ vec_capacity c.self.inside.outboxes) (sym all) c.self.invariant.1.1,
      subst (λ n. n ≤ vec_capacity c.self.inside.inboxes) (sym all) c.self.invariant.2.1,
    )

pub gather-outboxes-requires-clause-one_table : goal.gather-outboxes-requires-clause-one_table
gather-outboxes-requires-clause-one_table c = let are = c.requires.ports in (are.table, of_ports (λ n. n.table ≡ are.table) c.args.ports.items are.of_table)

pub pair_reports-pairs-requires-clause-ends : goal.pair_reports-pairs-requires-clause-ends
pair_reports-pairs-requires-clause-ends c =
    let gathered = c.gather-outboxes in
    let same : c.args.self.harts ≡ c.deref.result.now.harts = ap (λ s. s.harts) (sym c.self.view_is) ∙ ap (λ (v : Config). v.harts) (sym c.deref.ensures) in
    subst (λ (n : ℕ). AreEnds n gathered.result.0.items gathered.result.1.items) same (
    ends_back c.args.self c.args.ports.items c.requires.ports gathered.result.0.items gathered.result.1.items gathered.ensures.outboxes gathered.ensures.inboxes)

pub returns : goal.returns
returns c =
    let gathered = c.gather-outboxes in
    let made = c.pair_reports-pairs in
    let same : c.deref.result.now.harts ≡ c.args.self.harts = ap (λ (v : Config). v.harts) c.deref.ensures ∙ ap (λ s. s.harts) c.self.view_is in
    record {
      together = gathered.ensures.together;
      report = reported c.args.self c.args.ports.items c.requires.ports gathered.result.0.items gathered.result.1.items gathered.ensures.outboxes gathered.ensures.inboxes made.result.items
          (made.ensures.pairs ∙ ap (λ n. pairs_of n n) same) made.ensures.each;
    }
