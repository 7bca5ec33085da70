use Rattle.std.proofs.Common.{rules, ℕ, ◌≡◌, Some, false, get_or, refl, sym, ap, subst, ◌∙◌}
use Rattle.std.specs.Prelude.{◌==◌}
use Rattle.pte.specs.Address.{top_level, vpn_of}
use Rattle.watch.specs.Computed.{is_mapped}
use Rattle.watch_tables.specs.Words.{words}
use Rattle.watch_tables.proofs.RootWords.{any_past, chosen, unmapped-like, unmapped-zero}
use Rattle.watch_tables.proofs.tables.PageTables.is_mapped_in_any.Goals as goal

pub loop-root-init : goal.loop-root-init
loop-root-init c = (
  refl,
  search rules,
  λ other is. unmapped-zero c.args.scheme (words c.args.self.now) other c.args.entry.now is,
)

pub loop-root-preserved : goal.loop-root-preserved
loop-root-preserved c =
    let root : ℕ = get_or c.args.roots.now c.loop-root.root-index 0 in
    let Unmapped : ℕ → Type 0 =
    λ word. (other : ℕ) → words c.args.self.now other (vpn_of c.args.entry.now.page.base (top_level c.args.scheme)) ≡ Some word → is_mapped c.args.scheme (words c.args.self.now) (record { root = other; entry = c.args.entry.now }) ≡ false in
    let none : is_mapped c.args.scheme (words c.args.self.now) (record { root = root; entry = c.args.entry.now }) ≡ false = sym c.is_mapped_below.ensures ∙ c.if-is_mapped_below.false in (
      sym (any_past _ c.args.roots.now c.loop-root.root-index 0 c.loop-root-test.true none) ∙ c.loop-root.invariant.0,
      c.loop-root.invariant.1,
      subst Unmapped (sym c.last_filled-walked.ensures) (chosen (c.word-word.result == 0) c.loop-root.walked c.word-word.result Unmapped c.loop-root.invariant.2 (λ other is. unmapped-like c.args.scheme (words c.args.self.now) root other c.args.entry.now
          (ap (words c.args.self.now root) (sym c.loop-root.invariant.1) ∙ c.word-word.ensures ∙ sym is) none)),
    )
