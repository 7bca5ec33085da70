use Rattle.std.proofs.Common.{◌≡◌, ℕ, ◌∙◌, subst, sym, length, w16, Fits, rules}
use Rattle.tlb.specs.Slots.{IsIn}
use Rattle.tlb.proofs.Lanes.{column_at, column_long, compared, compared_fits, is_in_compared}
use Rattle.tlb.proofs.slots.slots_with_tag.Goals as goal

pub overflow_cast-result : goal.overflow_cast-result
overflow_cast-result c =
    let long : length c.args.tags.now ≡ 16 = search rules in
    let other : length c.args.masks.now ≡ 16 = search rules in
    let here = column_long c.args.tags.now c.args.mask long in
    let there = column_long c.args.masks.now c.args.tag other in
    subst (Fits w16) (sym (compared _ _ here there)) (record { fits = compared_fits _ _ here there })

pub returns : goal.returns
returns c =
    λ slot within same.
    let long : length c.args.tags.now ≡ 16 = search rules in
    let other : length c.args.masks.now ≡ 16 = search rules in
    let here = column_long c.args.tags.now c.args.mask long in
    let there = column_long c.args.masks.now c.args.tag other in
    let P : ℕ → Type 0 = λ n. IsIn n slot in
    subst P (sym (compared _ _ here there))
    (is_in_compared _ _ here there slot within (column_at c.args.tags.now c.args.mask long slot within ∙ same ∙ sym (column_at c.args.masks.now c.args.tag other slot within)))
