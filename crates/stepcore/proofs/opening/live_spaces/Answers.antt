use Rattle.std.proofs.Common.{rules, ◌∙◌, ◌<◌, ◌^◌}
use Rattle.std.proofs.lemmas.List.Elements.{All-more}
use Rattle.std.proofs.lemmas.List.{map_more}
use Rattle.spaces.specs.declared.configuration.Space.{Space}
use Rattle.pte.specs.declared.TheConstants.{ASID_BITS}
use Rattle.stepcore.specs.State.{live_space}
use Rattle.stepcore.proofs.opening.live_spaces.Goals as goal

pub loop-space-preserved : goal.loop-space-preserved
loop-space-preserved c = record {
  spaces = c.push.ensures.items ∙ rw (map_more (λ (s : Space). live_space s.asid) c.args.spaces.now c.loop-space.space-index (record { home = 0; asid = 0 }) c.loop-space-test.true) (search rules);
  bits = All-more (λ (s : Space). s.asid < 2 ^ ASID_BITS) c.args.spaces.now c.loop-space.space-index (record { home = 0; asid = 0 }) c.loop-space-test.true c.loop-space.invariant.bits c.asid_of.ensures.bits;
}
