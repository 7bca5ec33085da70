use Rattle.std.proofs.Common.{◌+◌, ◌≤◌, Bool, length, sym, ◌∙◌, subst, arith}
use Rattle.std.specs.Prelude.{nat_lt}
use Rattle.std.proofs.lemmas.Bool.{and_parts, ltb-true}
use Rattle.walk.specs.Maps.{page_number}
use Rattle.spaces.specs.Held.{Held}
use Rattle.stale.specs.Mapped.{has_asid, IsMappedFrom, mapping_of}
use Rattle.stale.proofs.Seen.{Seen, seen_mapped, seen_past, seen_all}
use Rattle.stale.proofs.mapped.is_mapped.Goals.{then-is_reached+else-not-is_mapped_from, else-is_reached}
use Rattle.stale.proofs.mapped.is_mapped.Goals as goal

pub loop-space-preserved : goal.loop-space-preserved
loop-space-preserved c =
    let m = c.args.machine.now in
    let p = mapping_of c.args.entry.now (page_number c.args.va) in
    let n = c.loop-space.space in
    elim c.if-is_reached.branch [
      | then-is_reached+else-not-is_mapped_from w ↦
          subst (λ (b : Bool). Seen m p (n + 1) b) (sym w.is_some-is)
          (seen_mapped m p n c.loop-space.is_some c.loop-space.invariant (sym c.is_reached.ensures.value ∙ w.if-is_reached.true)
          (subst (λ (h : Held). IsMappedFrom h n p) c.memory-memory.ensures (w.is_mapped_from.ensures.0 w.if-not-is_mapped_from.false)))
      | else-is_reached w ↦
          subst (λ (b : Bool). Seen m p (n + 1) b) (sym w.is_some-is)
          (seen_past m p n c.loop-space.is_some c.loop-space.invariant (sym c.is_reached.ensures.value ∙ w.if-is_reached.false))
    ]

pub returns : goal.returns
returns c =
    let m = c.args.machine.now in
    let p = mapping_of c.args.entry.now (page_number c.args.va) in
    let limits : length m.memory.layout.homes ≤ 32 = subst (λ (h : Held). length h.layout.homes ≤ 32) c.memory-memory.ensures c.has-kernel.ensures.memory.layout.spaces in
    seen_all m p c.loop-space.space c.loop-space.is_some c.loop-space.invariant
    (λ s reached. let below = ltb-true s (length m.memory.layout.homes) (and_parts (nat_lt s (length m.memory.layout.homes)) (has_asid m p.asid s) reached).0 in
    let past = c.loop-space-test.false in omega (arith, limits, below, past))
