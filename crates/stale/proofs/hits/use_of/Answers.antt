use Rattle.std.proofs.Common.{◌≡◌, true, false, ap, sym, ◌∙◌, subst}
use Rattle.std.specs.Prelude.{is_some}
use Rattle.std.proofs.lemmas.Bool.{false≢true}
use Rattle.pte.specs.Address.{IsCanonical}
use Rattle.pte.specs.declared.scheme.Scheme.{Scheme}
use Rattle.spaces.specs.Held.{Held}
use Rattle.stale.proofs.Hitting.{hit_canonical, hit_passes, no_match, use_told, use_untold}
use Rattle.stale.proofs.hits.use_of.Goals as goal

pub returns-in_default : goal.returns-in_default
returns-in_default c = λ C H r h p stands hit.
    let canonical = hit_canonical C c.args.machine.now H c.args.hart c.args.va c.args.access c.args.ctx r stands hit in
    let same : c.scheme.result ≡ c.args.machine.now.memory.layout.scheme = c.scheme.ensures ∙ ap (λ (h : Held). h.layout.scheme) c.memory.ensures in
    absurd (c.in_default.ensures (subst (λ (s : Scheme). IsCanonical s c.args.va) (sym same) canonical))

pub returns-in_default-lookup : goal.returns-in_default-lookup
returns-in_default-lookup c = λ C H r h p stands hit.
    let oldest = rw (c.hart.ensures, c.asid.ensures, c.in-Some.ensures.1) at c.lookup.ensures.oldest in
    absurd (no_match C c.args.machine.now H c.args.hart c.args.va c.args.access c.args.ctx r stands hit c.lookup.result oldest c.in_default-lookup.is)

pub returns-then-is_some : goal.returns-then-is_some
returns-then-is_some c = λ C H r h p stands hit.
    let oldest = rw (c.hart.ensures, c.asid.ensures, c.in-Some.ensures.1) at c.in-Some-lookup.ensures.oldest in
    let passes = hit_passes C c.args.machine.now H c.args.hart c.args.va c.args.access c.args.ctx r stands hit c.in-Some-lookup.entry oldest in
    let bad : true ≡ false = sym c.if-is_some.true ∙ c.is_some.ensures ∙ ap is_some (c.flags_fault.ensures ∙ passes) in
    absurd (false≢true (sym bad))

pub returns-then-is_mapped_now : goal.returns-then-is_mapped_now
returns-then-is_mapped_now c = λ C H r h p stands hit.
    let oldest = rw (c.hart.ensures, c.asid.ensures, c.in-Some.ensures.1) at c.in-Some-lookup.ensures.oldest in
    let now = rw c.in-Some.ensures.1 at ((c.is_mapped_now.ensures C _ stands).0 c.if-is_mapped_now.true) in
    ((λ u. use_untold C c.args.machine.now H c.args.hart c.args.va c.args.access c.args.ctx r stands hit c.in-Some-lookup.entry oldest c.recall.ensures now h p u), (λ t. absurd t))

pub returns : goal.returns
returns c = λ C H r h p stands hit.
    let oldest = rw (c.hart.ensures, c.asid.ensures, c.in-Some.ensures.1) at c.in-Some-lookup.ensures.oldest in
    rw c.in-Some.ensures.1
    (use_told C c.args.machine.now H c.args.hart c.args.va c.args.access c.args.ctx r stands hit c.in-Some-lookup.entry oldest c.recall.ensures
    (λ now. false≢true (sym c.if-is_mapped_now.false ∙ (c.is_mapped_now.ensures C _ stands).1 (rw c.in-Some.ensures.1 now))) h p)
