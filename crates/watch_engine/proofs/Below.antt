-- The test of a page that lies below a word.
use Rattle.std.proofs.Common.{ℕ, ◌+◌, ◌*◌, IsTrue}
use Rattle.std.specs.Prelude.{◌↔◌, ◌==◌, nat_le}
use Rattle.std.proofs.lemmas.Bool.{and_parts, and_from, eq-eqb, eqb-true}
use Rattle.pte.specs.declared.scheme.Scheme.{Scheme}
use Rattle.pte.specs.Address.{Span, level_of, top_level}
use Rattle.watch_tables.specs.declared.way.Way.{Way}
use Rattle.watch_tables.specs.Ways.{IsBelow, vpn_from}
use Rattle.watch_engine.specs.Touched.{is_below}
use Rattle.watch_engine.proofs.Lists.{at_most, from_at_most}

pub below_iff : (scheme : Scheme) (index : ℕ) (page : Span) (way : Way) → IsTrue (is_below scheme index page way) ↔ IsBelow scheme way index page
below_iff scheme index page way = (
  (λ h.
      let p = and_parts (nat_le way.level (top_level scheme)) _ h in
      let q = and_parts (nat_le (level_of page.size) way.level) (vpn_from scheme way.level page.base == way.vpn * 512 + index) p.1 in
      record { of_scheme = at_most _ _ p.0; level = at_most _ _ q.0; vpn = eqb-true _ _ q.1 }),
  (λ b. and_from _ _ (from_at_most _ _ b.of_scheme) (and_from _ _ (from_at_most _ _ b.level) (eq-eqb _ _ b.vpn))),
)
