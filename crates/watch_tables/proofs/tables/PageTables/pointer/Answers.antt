use Rattle.std.proofs.Common.{◌≡◌, None, Some, sym, ◌∙◌, ap}
use Rattle.watch_tables.specs.FrameTables.{in_frames}
use Rattle.watch_tables.specs.Stored.{table_of_kind}
use Rattle.watch_tables.proofs.Memory.{kind-of-table, table-at}
use Rattle.watch_tables.proofs.tables.PageTables.pointer.Goals as goal

pub returns-in_default-clause-none : goal.returns-in_default-clause-none
returns-in_default-clause-none c = λ none t i number point.
    let never : None ≡ Some c.args.table = table-at (in_frames c.args.self.now.frames) t i c.args.table c.args.number None (sym c.find.ensures ∙ c.in_default.is) number point in
    cc

pub returns-in_default-kind : goal.returns-in_default-kind
returns-in_default-kind c = record {
  some = tt;
  number = tt;
  none = λ none t i number point.
      let at = table-at (in_frames c.args.self.now.frames) t i c.args.table c.args.number (Some c.in-Some.stored) (sym c.find.ensures ∙ c.in-Some.is) number point in
      let kind = kind-of-table c.kind.result c.args.table (ap table_of_kind c.kind.ensures.kind ∙ at) in
      c.in_default-kind.not-Table c.args.table kind.0 kind.1;
}

pub returns-then-ppn-table-clause-none : goal.returns-then-ppn-table-clause-none
returns-then-ppn-table-clause-none c = λ none t i number point.
    let at = table-at (in_frames c.args.self.now.frames) t i c.args.table c.args.number (Some c.in-Some.stored) (sym c.find.ensures ∙ c.in-Some.is) number point in
    let same : Some c.in-Table.ppn ≡ Some c.args.table = ap table_of_kind (sym c.in-Table.is ∙ c.kind.ensures.kind) ∙ at in
    c.if-ppn-table.true (let ppn : c.in-Table.ppn ≡ c.args.table = cc in ppn)
