use Rattle.std.proofs.Common.{◌≡◌, ℕ, Ok, sym, ◌∙◌, subst}
use Rattle.pte.specs.declared.flags.PteFlags.{PteFlags}
use Rattle.spaces.specs.Held.{Held, memory_words, spare_of}
use Rattle.spaces.specs.Edits.{edit_of}
use Rattle.stale.specs.Leaves.{wish_with, IsLeafUnder}
use Rattle.stale.proofs.Changed.{no_leaf}
use Rattle.stale.proofs.changes.change_in.Goals as goal

pub returns-in_err-ppn-clause-none : goal.returns-in_err-ppn-clause-none
returns-in_err-ppn-clause-none c =
    rw c.from_residual-in_err-ppn.ensures
    (λ change is. no_leaf c.args.machine.now c.args.hart c.args.place c.args.page c.args.flags c.in-Ok.edit change
    (subst (λ (h : Held). edit_of h.layout (memory_words h) (spare_of h c.args.hart) c.args.hart (wish_with c.args.place c.args.page c.args.flags) ≡ Ok c.in-Ok.edit) c.memory-memory.ensures
    (sym c.edit_due.ensures ∙ c.in-Ok.is))
    (subst (λ (h : Held). (ppn : ℕ) (f : PteFlags) → IsLeafUnder (memory_words h) c.in-Ok.edit c.args.page ppn f → ⊥) c.memory-memory.ensures c.in_err-ppn.ensures.none) is)
