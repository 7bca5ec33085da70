-- The leaves through a word, by the ways to its table.
use Rattle.std.proofs.Common.{◌≡◌, ℕ, ◌+◌, ◌<◌, ◌≤◌, ◌⊎◌, false, List, [], length, get_or, Some, ap, sym, ◌∙◌, subst, refl, inl, inr, arith}
use Rattle.std.specs.Prelude.{◌↔◌}
use Rattle.std.specs.List.{Contains}
use Rattle.std.proofs.lemmas.Bool.{cases_lt}
use Rattle.std.proofs.lemmas.List.{get_or_default}
use Rattle.std.proofs.lemmas.List.Elements.{Contains-get_or}
use Rattle.pte.specs.declared.scheme.Scheme.{Scheme}
use Rattle.pte.specs.Address.{level_of, vpn_of}
use Rattle.walk.specs.Leads.{Tables, Leads, word_at}
use Rattle.tlb.specs.declared.store.Entry.{Entry}
use Rattle.watch_tables.specs.declared.leaf.RootLeaf.{RootLeaf}
use Rattle.watch_tables.specs.declared.way.Way.{Way}
use Rattle.watch_tables.specs.Leaves.{IsLeafAt}
use Rattle.watch_tables.specs.Paths.{IsUnchangedSince, is_leading, kind_in}
use Rattle.watch_tables.specs.Ways.{AreWays, IsWay, vpn_from}
use Rattle.watch_tables.specs.Through.{HasRootLeaf, IsLeafThrough, Passes}
use Rattle.watch_tables.proofs.PathSince.{since-known}
use Rattle.watch_tables.proofs.LeavesBelow.{nothing-at}
use Rattle.watch.specs.Trace.{index_of}
use Rattle.std.proofs.lemmas.Grind.{common_steps}

pub index-small : (address : ℕ) → index_of address < 512
index-small address = omega arith

Contains-none : (x : RootLeaf) → Contains [] x → ⊥
Contains-none x has = grind (arith, common_steps)

module _ (scheme : Scheme) (words : Tables) (since : ℕ → ℕ → ℕ) (table index : ℕ) (ways : List Way) (are : AreWays scheme words since table ways) where
  pub way-at : (k : ℕ) (d : Way) → k < length ways → IsWay scheme words since (get_or ways k d)
  way-at k d less = (are.sound (get_or ways k d) (Contains-get_or ways k d less)).0

  -- the leaves by the ways before one
  abbrev pub Sound : List RootLeaf → Type 0
  Sound leaves = (x : RootLeaf) → Contains leaves x → (way : Way) × Contains ways way × IsLeafAt scheme words since way index x

  abbrev pub Each : List RootLeaf → ℕ → Type 0
  Each leaves from = (k : ℕ) (other : Way) (x : RootLeaf) → k < from → IsLeafAt scheme words since (get_or ways k other) index x → Contains leaves x

  module _ (from : ℕ) (d : Way) (less : from < length ways) (old new : List RootLeaf) (added : (x : RootLeaf) → Contains new x ↔ (Contains old x ⊎ IsLeafAt scheme words since (get_or ways from d) index x)) where
    pub sound-next : Sound old → Sound new
    sound-next sound x has =
        elim ((added x).0 has) [
          | inl before ↦ sound x before
          | inr at ↦ (get_or ways from d, Contains-get_or ways from d less, at)
        ]

    pub each-next : Each old from → Each new (from + 1)
    each-next each k other x below at =
        elim (cases_lt k from) [
          | inl earlier ↦ (added x).1 (inl (each k other x earlier at))
          | inr here ↦
              let same : k ≡ from = omega arith in
              let there : IsLeafAt scheme words since (get_or ways from other) index x = subst (λ j. IsLeafAt scheme words since (get_or ways j other) index x) same at in
              (added x).1 (inr (subst (λ (w : Way). IsLeafAt scheme words since w index x) (get_or_default ways from other d less) there))
        ]

  pub table-at : (k : ℕ) (d : Way) → k < length ways → (get_or ways k d).at.table ≡ table
  table-at k d less = (are.sound (get_or ways k d) (Contains-get_or ways k d less)).1

  -- a leaf by a way passes through the word
  passes-at : (way : Way) → Contains ways way → (x : RootLeaf) → IsLeafAt scheme words since way index x → Passes scheme words x.root table index x.entry.page
  passes-at way among x at =
      let is = are.sound way among in
      let path = ((is.0).reached x.entry.page.base at.below.vpn).leads in
      let there : Leads scheme words way.root x.entry.page.base way.level table (words table index) =
      subst (λ n. Leads scheme words way.root x.entry.page.base way.level table (words table n)) at.index_is
      (subst (λ t. Leads scheme words way.root x.entry.page.base way.level t (word_at words x.entry.page.base way.level t)) is.1 path)
      in
      record {
        at = way.level;
        from = at.below.level;
        asked = at.index_is;
        leads = subst (λ r. Leads scheme words r x.entry.page.base way.level table (words table index)) (sym at.below.root_is) there;
      }

  module _ (leaves : List RootLeaf) (sound : Sound leaves) where
    pub since-all : (x : RootLeaf) → Contains leaves x → (n : ℕ) → (x.since ≤ n) ↔ IsUnchangedSince scheme words since x.root x.entry n
    since-all x has n =
        let found = sound x has in
        found.2.below.leaf.since_is n

    through-found : (root : ℕ) (e : Entry) → HasRootLeaf leaves root e → IsLeafThrough scheme words root table index e
    through-found root e has =
        let x : RootLeaf = record { root = root; entry = e; since = has.since } in
        let found = sound x has.among in
        let leaf = found.2.below.leaf in
        record { asid = leaf.asid; leaf = leaf.leaf; passes = passes-at found.0 found.1 x found.2 }

    -- each leaf through the word stands at a way
    found-through : (each : Each leaves (length ways)) → (root : ℕ) (e : Entry) → IsLeafThrough scheme words root table index e → HasRootLeaf leaves root e
    found-through each root e through =
        let p = through.passes in
        let path : Leads scheme words root e.page.base p.at table (word_at words e.page.base p.at table) = subst (λ n. Leads scheme words root e.page.base p.at table (words table n)) (sym p.asked) p.leads in
        let has = are.each root e.page.base p.at path in
        let age = since-known scheme words since root e.page.base (level_of e.page.size) through.leaf.table (Some through.leaf.word) through.leaf.leads in
        let x : RootLeaf = record { root = root; entry = e; since = age.0 } in
        let level = has.level_is in
        let from = p.from in
        let at : IsLeafAt scheme words since has.way index x = record {
          below = record {
            root_is = sym has.root_is;
            leaf = record { asid = through.asid; leaf = through.leaf; since_is = age.1 };
            level = omega arith;
            vpn = ap (λ k. vpn_from scheme (k + 1) e.page.base) level ∙ sym has.vpn_is;
          };
          index_is = ap (vpn_of e.page.base) level ∙ p.asked;
        } in
        let among = has.among in
        record { since = age.0; among = each among.0 has.way x among.1 (subst (λ (w : Way). IsLeafAt scheme words since w index x) (sym among.2) at) }

    pub exact-all : (each : Each leaves (length ways)) → (root : ℕ) (e : Entry) → HasRootLeaf leaves root e ↔ IsLeafThrough scheme words root table index e
    exact-all each root e = (through-found root e, found-through each root e)

  -- no leaf passes through a word that is neither a leaf nor a pointer
  pub none-through : index < 512 → is_leading (kind_in (words table index)) ≡ false → (leaves : List RootLeaf) → leaves ≡ [] → (root : ℕ) (e : Entry) → HasRootLeaf leaves root e ↔ IsLeafThrough scheme words root table index e
  none-through small out leaves empty = subst (λ (l : List RootLeaf). (root : ℕ) (e : Entry) → HasRootLeaf l root e ↔ IsLeafThrough scheme words root table index e) (sym empty) (
      exact-all [] (λ x has. absurd (Contains-none x has)) (λ k other x below at.
      let here : is_leading (kind_in (words (get_or ways k other).at.table index)) ≡ false = ap (λ t. is_leading (kind_in (words t index))) (table-at k other below) ∙ out in
      absurd (nothing-at scheme words since (get_or ways k other) index (kind_in (words (get_or ways k other).at.table index)) (since (get_or ways k other).at.table index) (way-at k other below) small refl refl here x at)))
