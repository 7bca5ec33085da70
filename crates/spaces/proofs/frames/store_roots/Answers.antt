use Rattle.std.proofs.Common.{ℕ, arith}
use Rattle.std.proofs.lemmas.List.{length-map}
use Rattle.spaces.specs.Layout.{layout_of}
use Rattle.spaces.specs.declared.configuration.Space.{Space}
use Rattle.spaces.proofs.Opened.{first_words-is}
use Rattle.spaces.proofs.frames.store_roots.Goals as goal

pub returns : goal.returns
returns c =
    let i = c.loop-root.invariant in
    first_words-is (layout_of c.args.config.now) c.loop-root.words c.from-window.result c.loop-root.root c.from-window.ensures
    (omega (arith, length-map {A = Space} {B = ℕ}, c.loop-root-test.false, c.loop-root.auto.root-end, c.from-window.ensures, c.len.ensures.value)) i.length i.words
