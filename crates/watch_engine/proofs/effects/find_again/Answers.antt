use Rattle.std.proofs.Common.{◌∙◌, ℕ, Bool, List, Option, Some, None, ap, sym}
use Rattle.std.specs.Prelude.{◌&&◌, cond}
use Rattle.watch.specs.Computed.{is_mapped}
use Rattle.watch.specs.Holding.{Translation}
use Rattle.watch_engine.specs.declared.held.Held.{Held}
use Rattle.watch_engine.specs.Held.{all_found_again, found_again, is_found}
use Rattle.watch_engine.specs.declared.state.State.TheVariants.{Current}
use Rattle.watch_engine.proofs.Changing.{each_changed}
use Rattle.watch_engine.proofs.Effected.{found_state, found_stays}
use Rattle.watch_engine.proofs.effects.find_again.Goals as goal

pub returns-in-Some : goal.returns-in-Some
returns-in-Some g c =
    let test : Translation → Bool = is_mapped c.args.scheme (g.T.Tables.words c.args.tables.now) in
    let root : ℕ = c.in-Some.root in
    let has : Held → Bool = λ i. i.entry.global && test (record { root = root; entry = i.entry }) in
    let held : List Held = c.args.held.now in
    c.apply.ensures.left
    ∙ (each_changed (λ i. cond (is_found test root i) (Some Current) None) (λ i. (found_again test root i).state) (λ i. found_state (has i) i.state) (λ i. found_stays (has i) i.state) held c.apply.ensures.there
    ∙ ap (λ (o : Option ℕ). all_found_again test o held) (sym c.in-Some.is))
