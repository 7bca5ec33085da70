use Rattle.std.proofs.Common.{◌+◌, ◌≤◌, Bool, true, length, refl, sym, ◌∙◌, subst, arith}
use Rattle.std.specs.Prelude.{nat_lt}
use Rattle.std.proofs.lemmas.Bool.{and_parts, ltb-true}
use Rattle.spaces.specs.Held.{Held}
use Rattle.stale.specs.Mapped.{has_asid, IsMappedFrom, mapping_of}
use Rattle.stale.proofs.Options.{none_there, weaker_some}
use Rattle.stale.proofs.Seen.{Seen, seen_mapped, seen_past, seen_all}
use Rattle.stale.proofs.lasting.unmapped.Goals.{then-is_reached+else-is_some, else-is_reached}
use Rattle.stale.proofs.lasting.unmapped.Goals as goal

pub loop-space-preserved : goal.loop-space-preserved
loop-space-preserved c = λ n from below.
    let m = c.args.machine.now in
    let p = mapping_of c.args.entry.now n in
    let space = c.loop-space.space in
    let seen = c.loop-space.invariant n from below in
    elim c.if-is_reached.branch [
      | then-is_reached+else-is_some w ↦
          subst (λ (b : Bool). Seen m p (space + 1) b) (sym w.is_some-is)
          (seen_mapped m p space c.loop-space.is_some seen (sym c.is_reached.ensures.value ∙ w.if-is_reached.true)
          (subst (λ (h : Held). IsMappedFrom h space p) c.memory-memory.ensures (none_there w.unmapped_from-unmapped.result (sym w.is_some.ensures ∙ w.if-is_some.false) w.unmapped_from-unmapped.ensures.none n from below)))
      | else-is_reached w ↦
          subst (λ (b : Bool). Seen m p (space + 1) b) (sym w.is_some-is)
          (seen_past m p space c.loop-space.is_some seen (sym c.is_reached.ensures.value ∙ w.if-is_reached.false))
    ]

pub returns-then-is_some-2-clause-none : goal.returns-then-is_some-2-clause-none
returns-then-is_some-2-clause-none c = λ n from below.
    let m = c.args.machine.now in
    let p = mapping_of c.args.entry.now n in
    let limits : length m.memory.layout.homes ≤ 32 = subst (λ (h : Held). length h.layout.homes ≤ 32) c.memory-memory.ensures c.has-kernel.ensures.memory.layout.spaces in
    let seen : Seen m p c.loop-space.space true = subst (λ (b : Bool). Seen m p c.loop-space.space b) c.if-is_some-2.true (c.loop-space.invariant n from below) in
    (seen_all m p c.loop-space.space true seen
    (λ s reached. let below = ltb-true s (length m.memory.layout.homes) (and_parts (nat_lt s (length m.memory.layout.homes)) (has_asid m p.asid s) reached).0 in
    let past = c.loop-space-test.false in omega (arith, limits, below, past))).0 refl

pub returns-then-is_some-clause-before : goal.returns-then-is_some-clause-before
returns-then-is_some-clause-before c =
    weaker_some c.unmapped_from-unmapped.result
    (λ number all n from before. record {
      space = c.loop-space.space;
      reached = sym c.is_reached.ensures.value ∙ c.if-is_reached.true;
      maps = subst (λ (h : Held). IsMappedFrom h c.loop-space.space (mapping_of c.args.entry.now n)) c.memory-memory.ensures (all n from before);
    })
    c.unmapped_from-unmapped.ensures.before
