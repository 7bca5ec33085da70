use Rattle.std.proofs.Common.{◌≡◌, false, sym, subst, arith}
use Rattle.pte.specs.Address.{top_level}
use Rattle.watch_tables.specs.Words.{words}
use Rattle.watch_tables.specs.Paths.{IsReached}
use Rattle.watch_tables.proofs.Paths.{none-next, reached-next, reached-start}
use Rattle.watch_tables.proofs.tables.PageTables.table_at.Goals as goal

pub loop-here-init : goal.loop-here-init
loop-here-init c =
    let a = c.args in
    let top : c.top_level-here.result ≡ top_level a.scheme = c.top_level-here.ensures in
    record {
      from = omega arith;
      to = omega arith;
      reached = subst (λ k. IsReached a.scheme (words a.self.now) a.root a.va k (record { table = a.root; global = false })) (sym top) (reached-start a.scheme (words a.self.now) a.root a.va);
    }

pub returns-in_default-clause-none : goal.returns-in_default-clause-none
returns-in_default-clause-none c = λ none table word.
    none-next c.args.scheme (words c.args.self.now) c.args.root c.args.va c.loop-here.here c.vpn.result c.args.level table word c.loop-here.at c.kind.result c.below.result c.loop-here-test.true c.loop-here.invariant.reached c.below.ensures c.kind.ensures c.vpn.ensures c.in_default.is

pub loop-here-preserved : goal.loop-here-preserved
loop-here-preserved c = record {
  from = omega arith;
  to = omega arith;
  reached = reached-next c.args.scheme (words c.args.self.now) c.args.root c.args.va c.loop-here.here c.vpn.result c.loop-here.at c.in-Some.next c.kind.result c.below.result (omega arith) c.loop-here.invariant.reached c.below.ensures c.kind.ensures c.vpn.ensures c.in-Some.is;
}
