use Rattle.std.proofs.Common.{◌≡◌, ◌∙◌, ap, sym, subst, refl, ℕ, ◌+◌, ◌<◌, Some, Bool, false, not, filter, arith}
use Rattle.std.proofs.lemmas.Fn.{says_at}
use Rattle.std.specs.Prelude.{slice_get, slice_index}
use Rattle.std.specs.Fn.{FnReturnsAt}
use Rattle.std.proofs.lemmas.Bool.{false_from_ne_true, true≢false}
use Rattle.std.proofs.lemmas.Option.{slice_get_read, slice_get_within}
use Rattle.tlb.specs.declared.store.Entry.{Entry}
use Rattle.tlb.specs.declared.banks.Banks.{Banks}
use Rattle.tlb.specs.Banks.{by_age}
use Rattle.tlb.specs.Slots.{IsIn}
use Rattle.tlb.proofs.Dropping.{drop_filtered, entries_after_drop, none_dropped}
use Rattle.tlb.proofs.Kept.{used_before_drop}
use Rattle.tlb.proofs.Lanes.{none_in_empty}
use Rattle.tlb.proofs.banks.Banks.drop_among.Goals.{else-self-slot-via-then-self-slot+else-goes, else-self-slot-via-else-self-slot}
use Rattle.tlb.proofs.banks.Banks.drop_among.Goals as goal

pub loop-left-preserved-then-goes : goal.loop-left-preserved-then-goes
loop-left-preserved-then-goes g c =
    let b : Banks = c.loop-left.self in
    let now : Banks = c.drop_slot.new.self in
    let slot : ℕ = c.lowest_slot-slot.result in
    let is = c.loop-left.invariant.kept in
    let there : slot < 16 = c.lowest_slot-slot.ensures.within in
    let e : Entry = c.index-self-slot.result in
    let at : slice_get b.held slot ≡ Some e = slice_get_read b.held 16 slot e (sym is.held) there c.index-self-slot.is in
    let told : FnReturnsAt g.F.Fn c.args.goes e c.goes.result = subst (λ (x : Entry). FnReturnsAt g.F.Fn c.args.goes x c.goes.result) (sym c.index-self-slot.is) (says_at g.F.Fn c.goes.ensures refl) in
    let count : now.count + 1 ≡ b.count = c.drop_slot.ensures.count in
    record {
      kept = c.drop_slot.ensures.kept;
      left = λ test agree.
          let p : Entry → Bool = λ x. not (test x) in
          let fails : p e ≡ false = ap not (sym (agree e c.goes.result told) ∙ c.if-goes.true) in
          ap (filter p) (entries_after_drop b now (slice_index b.ages slot) now.count c.drop_slot.ensures.held c.drop_slot.ensures.ages refl)
          ∙ drop_filtered b.held b.ages is.ages p slot now.count e there (omega (arith, c.if-self-slot.true, count)) (omega (arith, count, is.count)) at fails
          ∙ ap (λ n. filter p (by_age b.held b.ages n)) count
          ∙ c.loop-left.invariant.left test agree;
      seen = λ test agree all k x here used on.
          let before : slice_get b.held k ≡ Some x = ap (λ xs. slice_get xs k) (sym c.drop_slot.ensures.held) ∙ here in
          let within : k < 16 = omega (arith, slice_get_within b.held k x before, is.held) in
          let was = used_before_drop b now slot k is there c.if-self-slot.true c.drop_slot.ensures.ages count within used in
          c.without_slot-left.ensures.others k within was.1 ∙ c.loop-left.invariant.seen test agree all k x before was.0 on;
    }

pub loop-left-preserved : goal.loop-left-preserved
loop-left-preserved g c =
    let b : Banks = c.loop-left.self in
    let slot : ℕ = c.lowest_slot-slot.result in
    let is = c.loop-left.invariant.kept in
    record {
      kept = is;
      left = c.loop-left.invariant.left;
      seen = λ test agree all k x at used on.
          let within : k < 16 = omega (arith, slice_get_within b.held k x at, is.held) in
          let apart : k ≡ slot → ⊥ =
          λ same. elim c.else-self-slot.branch [
            | else-self-slot-via-then-self-slot+else-goes w ↦
                let e : Entry = w.index-self-slot.result in
                let here : slice_get b.held slot ≡ Some e = slice_get_read b.held 16 slot e (sym is.held) c.lowest_slot-slot.ensures.within w.index-self-slot.is in
                let told : FnReturnsAt g.F.Fn c.args.goes e w.goes.result = subst (λ (y : Entry). FnReturnsAt g.F.Fn c.args.goes y w.goes.result) (sym w.index-self-slot.is) (says_at g.F.Fn w.goes.ensures refl) in
                let both : Some e ≡ Some x = sym here ∙ ap (slice_get b.held) (sym same) ∙ at in
                let one : e ≡ x = cc in
                true≢false (sym on ∙ ap test (sym one) ∙ sym (agree e w.goes.result told) ∙ w.if-goes.false)
            | else-self-slot-via-else-self-slot w ↦
                let age : slice_index b.ages k ≡ slice_index b.ages slot = ap (slice_index b.ages) same in
                omega (arith, used, age, w.if-self-slot.false)
          ] in
          c.without_slot-left.ensures.others k within apart ∙ c.loop-left.invariant.seen test agree all k x at used on;
    }

pub returns-clause-entries : goal.returns-clause-entries
returns-clause-entries g c =
    λ test agree all.
    sym (none_dropped (λ e. not (test e)) c.loop-left.self c.loop-left.invariant.kept
    (λ k e within used at. ap not (false_from_ne_true (test e) (λ on. none_in_empty k (subst (λ n. IsIn n k) c.loop-left-test.false (c.loop-left.invariant.seen test agree all k e at used on))))))
    ∙ c.loop-left.invariant.left test agree
