use Rattle.std.proofs.Common.{◌≡◌, subst, sym, ◌∙◌, refl, arith}
use Rattle.walk.specs.Stage.{Stage, start_of, OnPath, IsFor}
use Rattle.walk.proofs.Ending.{goes-load, goes-further, goes-over, on_path-start, outcome-same}
use Rattle.walk.proofs.Ending.{same-access}
use Rattle.walk.proofs.translation.translate_in.Goals as goal

pub loop-next-init : goal.loop-next-init
loop-next-init g c =
    let words = g.W.Words.words c.args.words.now in
    let a = c.args in
    let is : c.in_ok-walk.walk ≡ start_of a.scheme a.root a.va a.access a.ctx = c.in_ok-walk.ensures.ok.1 in
    record {
      on = subst (OnPath a.scheme words a.root) (sym is) (on_path-start a.scheme words a.root a.va a.access a.ctx c.in_ok-walk.ensures.ok.0);
      same = subst (λ (s : Stage). IsFor s a.va a.access a.ctx) (sym is) (record { same_va = refl; same_access = refl; same_ctx = refl });
    }

pub loop-next-smaller : goal.loop-next-smaller
loop-next-smaller g c =
    let words = g.W.Words.words c.args.words.now in
    let goes = goes-load c.args.scheme words c.args.root c.loop-next.walk c.word.result c.wants-ppn.result.0 c.wants-ppn.result.1 c.load.result
    c.loop-next.invariant.on c.word.ensures c.wants-ppn.ensures.table c.wants-ppn.ensures.index c.load.ensures in
    let more = goes-further c.args.scheme words c.args.root c.loop-next.walk c.load.result c.in-Continue.next goes (sym c.flow.ensures ∙ c.in-Continue.is) in
    omega (arith, more.1)

pub loop-next-preserved : goal.loop-next-preserved
loop-next-preserved g c =
    let words = g.W.Words.words c.args.words.now in
    let goes = goes-load c.args.scheme words c.args.root c.loop-next.walk c.word.result c.wants-ppn.result.0 c.wants-ppn.result.1 c.load.result
    c.loop-next.invariant.on c.word.ensures c.wants-ppn.ensures.table c.wants-ppn.ensures.index c.load.ensures in
    let more = goes-further c.args.scheme words c.args.root c.loop-next.walk c.load.result c.in-Continue.next goes (sym c.flow.ensures ∙ c.in-Continue.is) in
    record { on = more.0; same = same-access c.in-Continue.next c.loop-next.walk c.args.va c.args.access c.args.ctx more.2 c.loop-next.invariant.same }

pub returns-in-Break : goal.returns-in-Break
returns-in-Break g c =
    let words = g.W.Words.words c.args.words.now in
    let goes = goes-load c.args.scheme words c.args.root c.loop-next.walk c.word.result c.wants-ppn.result.0 c.wants-ppn.result.1 c.load.result
    c.loop-next.invariant.on c.word.ensures c.wants-ppn.ensures.table c.wants-ppn.ensures.index c.load.ensures in
    outcome-same c.args.scheme words c.args.root c.loop-next.walk c.args.va c.args.access c.args.ctx c.in-Break.answer c.loop-next.invariant.same
    (goes-over c.args.scheme words c.args.root c.loop-next.walk c.load.result c.in-Break.answer goes (sym c.flow.ensures ∙ c.in-Break.is))
