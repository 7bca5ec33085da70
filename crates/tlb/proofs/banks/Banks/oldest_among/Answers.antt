use Rattle.std.proofs.Common.{◌≡◌, ◌∙◌, ap, sym, subst, refl, Some, true, arith}
use Rattle.std.specs.Prelude.{slice_get, slice_index}
use Rattle.std.proofs.lemmas.Bool.{true≢false}
use Rattle.std.proofs.lemmas.Option.{slice_get_read, slice_get_within}
use Rattle.tlb.specs.declared.store.Entry.{Entry}
use Rattle.tlb.specs.Entries.{is_match}
use Rattle.tlb.specs.Slots.{IsIn}
use Rattle.tlb.proofs.Lanes.{none_in_empty}
use Rattle.tlb.proofs.Oldest.{match_near, none_is, oldest_is}
use Rattle.tlb.proofs.banks.Banks.oldest_among.Goals.{else-self-slot-via-then-self-slot+else-is_match, else-self-slot-via-else-self-slot}
use Rattle.tlb.proofs.banks.Banks.oldest_among.Goals as goal

pub loop-left-init : goal.loop-left-init
loop-left-init c = record {
  least = omega arith;
  within = omega arith;
  found = λ less. absurd (omega arith);
  left = λ k e at used on. match_near c.args.self.now c.requires.kept c.args.asid c.args.va c.args.near c.requires.near k e at used on;
}

pub loop-left-smaller-then-is_match : goal.loop-left-smaller-then-is_match
loop-left-smaller-then-is_match c = c.without_slot-left.ensures.less c.lowest_slot-slot.ensures.there

pub loop-left-smaller : goal.loop-left-smaller
loop-left-smaller c = c.without_slot-left.ensures.less c.lowest_slot-slot.ensures.there

pub loop-left-preserved-then-is_match : goal.loop-left-preserved-then-is_match
loop-left-preserved-then-is_match c =
    let slot = c.lowest_slot-slot.result in
    let x : Entry = c.index-self-slot.result in
    let here : slice_get c.args.self.now.held slot ≡ Some x = slice_get_read c.args.self.now.held 16 slot x (sym c.requires.kept.held) c.lowest_slot-slot.ensures.within c.index-self-slot.is in
    let on : is_match c.args.asid c.args.va x ≡ true = ap (is_match c.args.asid c.args.va) c.index-self-slot.is ∙ sym c.is_match.ensures ∙ c.if-is_match.true in
    record {
      least = omega (arith, c.if-self-slot.true, c.loop-left.invariant.least);
      within = c.lowest_slot-slot.ensures.within;
      found = λ less. (refl, λ e at. let both : Some x ≡ Some e = sym here ∙ at in let one : x ≡ e = cc in subst (λ (y : Entry). is_match c.args.asid c.args.va y ≡ true) one on);
      left = λ k e at less match.
          let apart : k ≡ slot → ⊥ = λ same. let age : slice_index c.args.self.now.ages k ≡ slice_index c.args.self.now.ages slot = ap (slice_index c.args.self.now.ages) same in omega (arith, less) in
          c.without_slot-left.ensures.others k (omega (arith, slice_get_within c.args.self.now.held k e at, c.requires.kept.held)) apart ∙ c.loop-left.invariant.left k e at (omega (arith, less, c.if-self-slot.true)) match;
    }

pub loop-left-preserved : goal.loop-left-preserved
loop-left-preserved c =
    let slot = c.lowest_slot-slot.result in
    record {
      least = c.loop-left.invariant.least;
      within = c.loop-left.invariant.within;
      found = c.loop-left.invariant.found;
      left = λ k e at less match.
          let apart : k ≡ slot → ⊥ =
          λ same.
          let here : slice_get c.args.self.now.held slot ≡ Some e = ap (slice_get c.args.self.now.held) (sym same) ∙ at in
          elim c.else-self-slot.branch [
            | else-self-slot-via-then-self-slot+else-is_match w ↦
                let there : slice_get c.args.self.now.held slot ≡ Some w.index-self-slot.result = slice_get_read c.args.self.now.held 16 slot w.index-self-slot.result (sym c.requires.kept.held) c.lowest_slot-slot.ensures.within w.index-self-slot.is in
                let both : Some w.index-self-slot.result ≡ Some e = sym there ∙ here in
                let one : w.index-self-slot.result ≡ e = cc in
                true≢false (sym match ∙ ap (is_match c.args.asid c.args.va) (sym one ∙ w.index-self-slot.is) ∙ sym w.is_match.ensures ∙ w.if-is_match.false)
            | else-self-slot-via-else-self-slot w ↦
                let age : slice_index c.args.self.now.ages k ≡ slice_index c.args.self.now.ages slot = ap (slice_index c.args.self.now.ages) same in
                omega (arith, less, age, w.if-self-slot.false)
          ] in
          c.without_slot-left.ensures.others k (omega (arith, slice_get_within c.args.self.now.held k e at, c.requires.kept.held)) apart ∙ c.loop-left.invariant.left k e at less match;
    }

pub returns-then-least-self : goal.returns-then-least-self
returns-then-least-self c =
    let at = slice_get_read c.args.self.now.held 16 c.loop-left.oldest c.index-self-oldest.result (sym c.requires.kept.held) c.loop-left.invariant.within c.index-self-oldest.is in
    let found = c.loop-left.invariant.found c.if-least-self.true in
    ap Some (sym c.index-self-oldest.is)
    ∙ sym (oldest_is c.args.self.now c.requires.kept c.args.asid c.args.va c.loop-left.least c.loop-left.invariant.least
    (λ k e there less on. none_in_empty k (subst (λ n. IsIn n k) c.loop-left-test.false (c.loop-left.invariant.left k e there less on)))
    c.loop-left.oldest c.index-self-oldest.result c.loop-left.invariant.within found.0 c.if-least-self.true at (found.1 c.index-self-oldest.result at))

pub returns-else-least-self : goal.returns-else-least-self
returns-else-least-self c =
    sym (none_is c.args.self.now c.requires.kept c.args.asid c.args.va c.loop-left.least c.loop-left.invariant.least
    (λ k e there less on. none_in_empty k (subst (λ n. IsIn n k) c.loop-left-test.false (c.loop-left.invariant.left k e there less on)))
    (omega (arith, c.loop-left.invariant.least, c.if-least-self.false)))
