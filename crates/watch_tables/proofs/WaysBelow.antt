-- A path through a word, and the ways to its table.
use Rattle.std.proofs.Common.{◌≡◌, ℕ, ◌+◌, ◌*◌, ◌<◌, List, ap, sym, ◌∙◌, subst, arith}
use Rattle.std.specs.List.{Contains}
use Rattle.pte.specs.declared.scheme.Scheme.{Scheme}
use Rattle.pte.specs.Address.{Span, vpn_of}
use Rattle.walk.specs.Leads.{Tables, Leads, word_at}
use Rattle.watch_tables.specs.declared.way.Way.{Way}
use Rattle.watch_tables.specs.Ways.{AreWays, IsBelow, vpn_from}
use Rattle.watch_tables.specs.Through.{Passes}
use Rattle.watch_tables.proofs.Numbers.{vpn-split}

module _ (scheme : Scheme) (words : Tables) (since : ℕ → ℕ → ℕ) (table index : ℕ) (ways : List Way) (page : Span) (are : AreWays scheme words since table ways) where
  pub way-of : (root : ℕ) → Passes scheme words root table index page → (way : Way) × Contains ways way × (way.root ≡ root) × IsBelow scheme way index page
  way-of root p =
      let path : Leads scheme words root page.base p.at table (word_at words page.base p.at table) = subst (λ n. Leads scheme words root page.base p.at table (words table n)) (sym p.asked) p.leads in
      let has = are.each root page.base p.at path in
      let top = path.level in
      let level = has.level_is in
      let from = p.from in
      let split = vpn-split scheme p.at page.base top in (
        has.way,
        has.among,
        has.root_is,
        record {
          of_scheme = omega arith;
          level = omega arith;
          vpn = ap (λ k. vpn_from scheme k page.base) level ∙ split ∙ ap (λ v. v * 512 + vpn_of page.base p.at) (sym has.vpn_is) ∙ ap (λ n. has.way.vpn * 512 + n) p.asked;
        },
      )

  pub passes-by : (way : Way) → Contains ways way → index < 512 → IsBelow scheme way index page → Passes scheme words way.root table index page
  passes-by way among small below =
      let is = are.sound way among in
      let split = vpn-split scheme way.level page.base below.of_scheme in
      let vpn = below.vpn in
      let above : vpn_from scheme (way.level + 1) page.base ≡ way.vpn = omega arith in
      let asked : vpn_of page.base way.level ≡ index = omega arith in
      let path = ((is.0).reached page.base above).leads in
      record {
        at = way.level;
        from = below.level;
        asked = asked;
        leads = subst (λ n. Leads scheme words way.root page.base way.level table (words table n)) asked
            (subst (λ t. Leads scheme words way.root page.base way.level t (word_at words page.base way.level t)) is.1 path);
      }
