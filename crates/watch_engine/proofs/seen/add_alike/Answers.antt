use Rattle.std.proofs.Common.{◌≡◌, ◌∙◌, true, refl, subst, sym, ap, List, ℕ, ◌∷◌, ◌+◌, ◌<◌, drop, get_or, length, arith}
use Rattle.std.proofs.lemmas.List.{drop_more}
use Rattle.tlb.specs.declared.store.Entry.{Entry}
use Rattle.watch_tables.specs.declared.leaf.RootLeaf.{RootLeaf}
use Rattle.watch_engine.specs.declared.held.LastLive.{LastLive}
use Rattle.watch_engine.specs.Filling.{AreAnswers}
use Rattle.watch_engine.specs.Seen.{with_leaves}
use Rattle.watch_engine.proofs.Filling.{alike_entry, none_asked, same_default}
use Rattle.watch_engine.specs.View.{view_of}
use Rattle.watch_engine.proofs.seen.add_alike.Goals as goal

pub loop-place-init : goal.loop-place-init
loop-place-init g c =
    let first : RootLeaf = c.index-leaves-start.result in
    let is : (d : RootLeaf) → get_or c.args.leaves.now c.args.start d ≡ first =
    λ d. same_default c.args.leaves.now c.args.start d first c.requires.start ∙ sym c.index-leaves-start.is in
    let global : first.entry.global ≡ true = ap (λ (l : RootLeaf). l.entry.global) (sym (is first)) ∙ c.requires.global first in (
      omega arith,
      c.requires.start,
      λ d. ap (λ (l : RootLeaf). l.entry) (is d),
      none_asked (view_of c.args.view.now) 256 first.entry global,
      refl,
    )

pub loop-place-preserved : goal.loop-place-preserved
loop-place-preserved g c =
    let leaves : List RootLeaf = c.args.leaves.now in
    let at : ℕ = c.loop-place.at in
    let first : RootLeaf = c.index-leaves-start.result in
    let leaf : RootLeaf = c.index-leaves-at.result in
    let next : RootLeaf = c.index-leaves-at-else-at-leaves.result in
    let within : at + 1 < length leaves = omega arith in
    let same : leaf.entry ≡ first.entry = ap (λ (l : RootLeaf). l.entry) c.index-leaves-at.is ∙ c.loop-place.invariant.2 leaf in
    let alike : first.entry ≡ next.entry = alike_entry first next (sym c.are_alike.ensures ∙ c.if-not-are_alike.false) in
    let with : List RootLeaf → List LastLive → List LastLive =
    with_leaves (view_of c.args.view.now) in
    let rest : drop at leaves ≡ leaf ∷ drop (at + 1) leaves =
    drop_more leaves at leaf (omega arith) ∙ ap (λ (l : RootLeaf). l ∷ drop (at + 1) leaves) (sym c.index-leaves-at.is) in (
      omega arith,
      within,
      λ d. ap (λ (l : RootLeaf). l.entry) (same_default leaves (at + 1) d next within ∙ sym c.index-leaves-at-else-at-leaves.is) ∙ sym alike,
      subst (λ (e : Entry). AreAnswers (view_of c.args.view.now) e c.add_one.new.answers) same c.in_ok-place.ensures.answers,
      ap (with (drop (at + 1) leaves)) c.in_ok-place.ensures.seen
          ∙ (ap (λ (ls : List RootLeaf). with ls c.loop-place.seen.items) (sym rest) ∙ c.loop-place.invariant.4),
    )
