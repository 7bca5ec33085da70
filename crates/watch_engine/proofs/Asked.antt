-- A page that does not ask for the word at an index lies below no such word.
use Rattle.std.proofs.Common.{◌≡◌, ℕ, true, false, zero, suc, ◌+◌, ◌*◌, ◌<◌, ◌≤◌, List, [], ◌∷◌, ap, sym, ◌∙◌, refl, arith}
use Rattle.std.specs.Prelude.{◌==◌, ◌||◌, nat_le}
use Rattle.std.proofs.lemmas.Bool.{and_parts, eq-eqb, eqb-true, false_from_ne_true, or_left, or_right, true≢false}
use Rattle.pte.specs.declared.scheme.Scheme.{Scheme}
use Rattle.pte.specs.declared.scheme.Scheme.TheVariants.{Sv39, Sv48}
use Rattle.pte.specs.Address.{Span, level_of, top_level, vpn_of}
use Rattle.watch.specs.Holding.{Translation}
use Rattle.watch_tables.specs.declared.way.Way.{Way}
use Rattle.watch_tables.specs.Ways.{vpn_from}
use Rattle.watch_tables.proofs.Numbers.{vpn-split}
use Rattle.watch_engine.specs.Touched.{asks, is_below, is_touched, is_touched_on}
use Rattle.watch_engine.proofs.Lists.{at_most}

levels-low : (scheme : Scheme) → top_level scheme ≤ 3
levels-low scheme = elim scheme as (λ s. top_level s ≤ 3) [ Sv39 ↦ omega arith | Sv48 ↦ omega arith ]

asks-at : (page : Span) (index level : ℕ) → level ≤ 3 → vpn_of page.base level ≡ index → asks page index ≡ true
asks-at page index zero low e = or_left _ _ (eq-eqb _ _ e)
asks-at page index (suc zero) low e = or_right (vpn_of page.base 0 == index) _ (or_left _ _ (eq-eqb _ _ e))
asks-at page index (suc (suc zero)) low e = or_right (vpn_of page.base 0 == index) _ (or_right (vpn_of page.base 1 == index) _ (or_left _ _ (eq-eqb _ _ e)))
asks-at page index (suc (suc (suc zero))) low e = or_right (vpn_of page.base 0 == index) _ (or_right (vpn_of page.base 1 == index) _ (or_right (vpn_of page.base 2 == index) _ (eq-eqb _ _ e)))
asks-at page index (suc (suc (suc (suc n)))) low e = absurd (omega arith)

below-asks : (scheme : Scheme) (index : ℕ) → index < 512 → (page : Span) (way : Way) → is_below scheme index page way ≡ true → asks page index ≡ true
below-asks scheme index small page way h =
    let p = and_parts (nat_le way.level (top_level scheme)) _ h in
    let q = and_parts (nat_le (level_of page.size) way.level) (vpn_from scheme way.level page.base == way.vpn * 512 + index) p.1 in
    let level : way.level ≤ top_level scheme = at_most _ _ p.0 in
    let same : vpn_from scheme way.level page.base ≡ way.vpn * 512 + index = eqb-true _ _ q.1 in
    let split = vpn-split scheme way.level page.base level in
    let low = levels-low scheme in
    let asked : vpn_of page.base way.level ≡ index = omega arith in
    asks-at page index way.level (omega arith) asked

pub untouched : (scheme : Scheme) (roots : List ℕ) (index : ℕ) → index < 512 → (ways : List Way) (x : Translation) → asks x.entry.page index ≡ false → is_touched scheme roots index ways x ≡ false
untouched scheme roots index small [] x h = refl
untouched scheme roots index small (way ∷ ways) x h =
    let here : is_touched_on scheme roots index x way ≡ false =
    false_from_ne_true _ (λ t. true≢false (sym (below-asks scheme index small x.entry.page way (and_parts (is_below scheme index x.entry.page way) _ t).0) ∙ h)) in
    ap (λ b. b || is_touched scheme roots index ways x) here ∙ untouched scheme roots index small ways x h
