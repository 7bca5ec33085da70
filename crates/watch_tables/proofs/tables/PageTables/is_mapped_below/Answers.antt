use Rattle.std.proofs.Common.{◌∙◌, ap, sym, Some}
use Rattle.walk.proofs.Unique.{same_bool}
use Rattle.watch.proofs.Computed.{mapped_iff}
use Rattle.watch_tables.proofs.RootWords.{unmapped-zero}
use Rattle.watch_tables.specs.Words.{words}
use Rattle.watch_tables.proofs.tables.PageTables.is_mapped_below.Goals as goal

pub returns-then-word-walked : goal.returns-then-word-walked
returns-then-word-walked c =
    let test = mapped_iff c.args.scheme (words c.args.self.now) (record { root = c.args.root; entry = c.args.entry.now }) in
    same_bool _ _ ((λ yes. test.1 (c.is_mapped.ensures.0 yes)), (λ yes. c.is_mapped.ensures.1 (test.0 yes)))

pub returns-then-word-eq0 : goal.returns-then-word-eq0
returns-then-word-eq0 c = sym (unmapped-zero c.args.scheme (words c.args.self.now) c.args.root c.args.entry.now (c.requires.word ∙ ap Some c.if-word-eq0.true))
