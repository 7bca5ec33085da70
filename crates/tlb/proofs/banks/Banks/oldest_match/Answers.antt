use Rattle.std.proofs.Common.{◌≡◌, ◌∙◌, ap, sym, subst, refl, ℕ, Some, true, arith}
use Rattle.std.specs.Prelude.{slice_get}
use Rattle.std.proofs.lemmas.Bool.{true≢false}
use Rattle.std.proofs.lemmas.Option.{slice_get_read, slice_get_within}
use Rattle.tlb.specs.declared.store.Entry.{Entry}
use Rattle.tlb.specs.Banks.{InUse}
use Rattle.tlb.specs.Entries.{is_match}
use Rattle.tlb.specs.Slots.{IsIn}
use Rattle.tlb.proofs.Lanes.{alone_in, none_in_empty}
use Rattle.tlb.proofs.Oldest.{alone_fails, alone_is, match_near, none_is}
use Rattle.tlb.proofs.banks.Banks.oldest_match.Goals.{else-self-slot-via-then-self-slot+else-is_match, else-self-slot-via-else-self-slot}
use Rattle.tlb.proofs.banks.Banks.oldest_match.Goals as goal

pub returns-then-near-eq0 : goal.returns-then-near-eq0
returns-then-near-eq0 c =
    let b = c.args.self.now in
    sym (none_is b c.requires c.args.asid c.args.va b.count (omega arith)
    (λ k e at used on. none_in_empty k (subst (λ n. IsIn n k) c.if-near-eq0.true (match_near b c.requires c.args.asid c.args.va _ c.near_address-near.ensures k e at used on)))
    refl)

pub returns-then-is_match : goal.returns-then-is_match
returns-then-is_match c =
    let b = c.args.self.now in
    let slot = c.lowest_slot-slot.result in
    let within = c.lowest_slot-slot.ensures.within in
    let alone : (k : ℕ) (e : Entry) → slice_get b.held k ≡ Some e → InUse b k → is_match c.args.asid c.args.va e ≡ true → k ≡ slot =
    λ k e at used on. alone_in _ _ slot k c.if-without_slot-ne0.false c.without_slot.ensures.others (omega (arith, slice_get_within b.held k e at, c.requires.held)) (match_near b c.requires c.args.asid c.args.va _ c.near_address-near.ensures k e at used on) in
    let x : Entry = c.index-self-slot.result in
    let y : Entry = c.index-self-slot-then-is_match.result in
    let first : slice_get b.held slot ≡ Some x = slice_get_read b.held 16 slot x (sym c.requires.held) within c.index-self-slot.is in
    let second : slice_get b.held slot ≡ Some y = slice_get_read b.held 16 slot y (sym c.requires.held) within c.index-self-slot-then-is_match.is in
    let on : is_match c.args.asid c.args.va x ≡ true = ap (is_match c.args.asid c.args.va) c.index-self-slot.is ∙ sym c.is_match.ensures ∙ c.if-is_match.true in
    let both : Some x ≡ Some y = sym first ∙ second in
    let one : x ≡ y = cc in
    ap Some (sym c.index-self-slot-then-is_match.is)
    ∙ sym (alone_is b c.requires c.args.asid c.args.va slot within alone y c.if-self-slot.true second (subst (λ (e : Entry). is_match c.args.asid c.args.va e ≡ true) one on))

pub returns-else-self-slot : goal.returns-else-self-slot
returns-else-self-slot c =
    let b = c.args.self.now in
    let slot = c.lowest_slot-slot.result in
    let within = c.lowest_slot-slot.ensures.within in
    let alone : (k : ℕ) (e : Entry) → slice_get b.held k ≡ Some e → InUse b k → is_match c.args.asid c.args.va e ≡ true → k ≡ slot =
    λ k e at used on. alone_in _ _ slot k c.if-without_slot-ne0.false c.without_slot.ensures.others (omega (arith, slice_get_within b.held k e at, c.requires.held)) (match_near b c.requires c.args.asid c.args.va _ c.near_address-near.ensures k e at used on) in
    sym (alone_fails b c.requires c.args.asid c.args.va slot within alone
    (λ e used at on. elim c.else-self-slot.branch [
      | else-self-slot-via-then-self-slot+else-is_match w ↦
          let x : Entry = w.index-self-slot.result in
          let both : Some x ≡ Some e = sym (slice_get_read b.held 16 slot x (sym c.requires.held) within w.index-self-slot.is) ∙ at in
          let one : x ≡ e = cc in
          true≢false (sym on ∙ ap (is_match c.args.asid c.args.va) (sym one ∙ w.index-self-slot.is) ∙ sym w.is_match.ensures ∙ w.if-is_match.false)
      | else-self-slot-via-else-self-slot w ↦ omega (arith, used, w.if-self-slot.false)
    ]))
