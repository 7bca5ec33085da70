use Rattle.std.proofs.Common.{◌≡◌, ◌∙◌, ap, sym, ◌<◌, rules, Some, arith}
use Rattle.std.specs.Prelude.{slice_get}
use Rattle.std.proofs.lemmas.Option.{slice_get_read}
use Rattle.tlb.specs.declared.store.Entry.{Entry}
use Rattle.tlb.specs.Slots.{slot_of}
use Rattle.tlb.proofs.Dropping.{entry_of_age, no_entry_of_age}
use Rattle.tlb.proofs.banks.Banks.entry.Goals as goal

pub returns-then-age-from : goal.returns-then-age-from
returns-then-age-from c =
    let b = c.args.self.now in
    let counted : c.from.result ≡ b.count = search rules in
    let x : Entry = c.index-self-slot_of.result in
    let slot = c.slot_of.result in
    let is : slot ≡ slot_of b.ages c.args.age = search rules in
    let within : slot < 16 = omega (arith, is, c.requires.ages.each c.args.age (omega (arith, counted, c.if-age-from.true, c.requires.count))) in
    let at : slice_get b.held slot ≡ Some x = slice_get_read b.held 16 slot x (sym c.requires.held) within c.index-self-slot_of.is in
    ap Some (sym c.index-self-slot_of.is) ∙ sym (entry_of_age b c.requires c.args.age (omega (arith, counted, c.if-age-from.true)) ∙ ap (slice_get b.held) (sym is) ∙ at)

pub returns-else-age-from : goal.returns-else-age-from
returns-else-age-from c =
    let b = c.args.self.now in
    let counted : c.from.result ≡ b.count = search rules in
    sym (no_entry_of_age b c.requires c.args.age (omega (arith, counted, c.if-age-from.false)))
