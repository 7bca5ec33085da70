use Rattle.std.proofs.Common.{◌≡◌, ◌∙◌, ℕ, ap, inl, inr, sym, None}
use Rattle.std.proofs.lemmas.Bool.{cases_Bool}
use Rattle.watch_engine.specs.PastFences.{address_key, is_taken_by}
use Rattle.watch_engine.proofs.ByKey.{by_four_keys, third}
use Rattle.watch_engine.proofs.past_fences.FenceKeys.is_taken_since.Goals as goal

pub returns : goal.returns
returns c =
    let key : c.address_key-page.result ≡ address_key c.args.entry.now.page.size c.args.entry.now.page.base None =
    c.address_key-page.ensures ∙ (λ i. address_key (c.size.ensures i) ((c.get.ensures.value ∙ c.base.ensures.value) i) None) in
    let first =
    ap (λ (k : ℕ). is_taken_by k c.args.scheme c.args.fences.now c.args.left.now c.args.entry.now) (sym key)
    ∙ c.is_taken_by.ensures.none c.if-is_taken_by.false in
    elim (cases_Bool c.is_taken_by-2.result) [
      | inl is ↦ is ∙ sym (c.is_taken_by-2.ensures.taken is)
      | inr is ↦
          is
          ∙ sym (by_four_keys c.args.scheme c.args.left.now c.args.entry.now c.args.fences.now c.base.ensures.page.aligned
          ∙ third _ _ _ first (c.is_taken_by_asid.ensures.none c.if-is_taken_by_asid.false)
          ∙ ap (λ (k : ℕ). is_taken_by k c.args.scheme c.args.fences.now c.args.left.now c.args.entry.now) (sym c.wide_key.ensures)
          ∙ c.is_taken_by-2.ensures.none is)
    ]
