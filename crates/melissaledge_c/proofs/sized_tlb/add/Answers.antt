use Rattle.std.proofs.Common.{rules, ◌≡◌, ◌∙◌, ap, sym, refl, ◌++◌, ◌∷◌, [], ◌+◌, ◌-◌, ◌<◌, length, arith, drop}
use Rattle.std.specs.List.{slice_range}
use Rattle.melissaledge_c.specs.SizedTlbs.{filled_to, places}
use Rattle.melissaledge_c.proofs.Places.{filled_when_full, filled_with_room, is_positive, length_of_places, numbers_of, without_oldest}
use Rattle.melissaledge_c.proofs.sized_tlb.add.Goals.{then-head, else-head, then-head-slots, else-head-slots}
use Rattle.melissaledge_c.proofs.sized_tlb.add.Goals as goal

pub returns-clause-places : goal.returns-clause-places
returns-clause-places c =
    let head = c.args.head.now in let slots = c.args.slots.now in let new = c.args.given in
    let is = numbers_of head (length slots) c.requires in
    let long : length (places head slots) ≡ head.count = length_of_places slots head.first head.count is.within in
    let some : 0 < head.capacity = is_positive head.capacity is.capacity in
    let moved : places c.if-head-slots.head c.if-head-slots.slots ≡ places c.if-head.head slots =
    elim c.if-head-slots.branch [
      | then-head-slots w ↦ rw (w.head-is, w.slots-is) w.move_down.ensures.places
      | else-head-slots w ↦ rw (w.head-is, w.slots-is) refl
    ] in
    let trimmed : places c.if-head.head slots ++ new ∷ [] ≡ filled_to head.capacity (places head slots) new =
    elim c.if-head.branch [
      | then-head w ↦
          let full : head.count ≡ head.capacity = search rules in
          let back : head.count - 1 + 1 ≡ head.count = omega (arith, full, some) in
          rw w.head-is (ap (λ xs. xs ++ new ∷ []) (without_oldest slots head.first (head.count - 1) ∙ ap (λ n. drop 1 (slice_range slots head.first (head.first + n))) back) ∙ sym (filled_when_full head.capacity (places head slots) new some (long ∙ full)))
      | else-head w ↦
          let room : length (places head slots) < head.capacity = search rules in
          rw w.head-is (sym (filled_with_room head.capacity (places head slots) new room))
    ] in
    c.push.ensures.places ∙ ap (λ xs. xs ++ new ∷ []) moved ∙ trimmed
