use Rattle.std.proofs.Common.{rules, ◌≡◌, ◌&&◌, ◌<◌, false, refl, ap, sym, ◌∙◌, None, subst, slice_set, length, length-set}
use Rattle.stepcore.specs.declared.space_state.Phase.TheVariants as phase
use Rattle.stepcore.specs.State.{State, space_at}
use Rattle.stepcore.specs.Changes.{is_retirement, is_under}
use Rattle.stepcore.proofs.Retiring.{test_same, keeps_done, more_done}
use Rattle.stepcore.proofs.machine.Machine.end_retirement.Goals as goal
use Rattle.stepcore.proofs.machine.Machine.end_retirement.Goals.{then-is_home+then-is_under, else-is_home, else-is_home-via-then-is_home+else-is_under, else-is_home-via-else-is_home}

pub loop-space-preserved : goal.loop-space-preserved
loop-space-preserved c =
    let m = c.args.self.now in
    let now = c.loop-space.self in
    let at = c.loop-space.space in
    let i = c.loop-space.invariant in
    let inside : at < length m.spaces = search rules in
    let state = c.space-state.result in
    elim c.if-is_home.branch [
      | then-is_home+then-is_under w ↦
          let new = w.self-is ∙ w.put_space.ensures in
          let told = test_same m now c.args.hart c.args.ticket at i.others i.count inside i.spaces state _ _ c.space-state.ensures c.is_home.ensures w.is_under.ensures in
          record {
            others =
                subst (λ (x : State). x ≡ record m { spaces = x.spaces }) (sym new)
                (ap (λ (x : State). record x { spaces = slice_set now.spaces at (record { asid = state.asid; phase = phase.Retiring None }) }) i.others);
            count = ap (λ (x : State). length x.spaces) new ∙ length-set now.spaces at _ ∙ i.count;
            spaces = more_done m now c.args.hart c.args.ticket at i.others i.count inside i.spaces c.if-is_home.self state c.space-state.ensures new (told ∙ (ap (λ b. b && w.is_under.result) w.if-is_home.true ∙ w.if-is_under.true));
          }
      | else-is_home w ↦
          let told : is_retirement m c.args.hart c.args.ticket at (space_at m at) ≡ false = elim w.else-is_home.branch [
            | else-is_home-via-then-is_home+else-is_under x ↦ test_same m now c.args.hart c.args.ticket at i.others i.count inside i.spaces state _ _ c.space-state.ensures c.is_home.ensures x.is_under.ensures ∙ (ap (λ b. b && x.is_under.result) x.if-is_home.true ∙ x.if-is_under.false)
            | else-is_home-via-else-is_home x ↦ test_same m now c.args.hart c.args.ticket at i.others i.count inside i.spaces state _ (is_under state.phase c.args.ticket) c.space-state.ensures c.is_home.ensures refl ∙ ap (λ b. b && is_under state.phase c.args.ticket) x.if-is_home.false
          ] in
          record {
            others = w.self-is ∙ i.others ∙ ap (λ (x : State). record m { spaces = x.spaces }) (sym w.self-is);
            count = ap (λ (x : State). length x.spaces) w.self-is ∙ i.count;
            spaces = λ s below. ap (λ (x : State). space_at x s) w.self-is ∙ keeps_done m now c.args.hart c.args.ticket at i.others i.count inside i.spaces told s below;
          }
    ]
