-- Whether the leaves at an index of the table of a way, and below it, are global.
use Rattle.std.proofs.Common.{◌≡◌, ℕ, zero, suc, ◌+◌, ◌-◌, ◌*◌, ◌/◌, ◌%◌, ◌^◌, ◌<◌, ◌≤◌, Bool, true, false, Some, None, IsTrue, ap, sym, ◌∙◌, subst, refl, inl, inr, arith}
use Rattle.std.specs.Prelude.{◌↔◌, not}
use Rattle.std.proofs.lemmas.Nat.{mul-add-lt, pow-add}
use Rattle.std.proofs.lemmas.Bool.{and_cases, cases_lt, cond-true, not-false}
use Rattle.pte.specs.declared.scheme.Scheme.{Scheme}
use Rattle.pte.specs.declared.scheme.Scheme.TheVariants.{Sv39, Sv48}
use Rattle.pte.specs.declared.address.PageSize.{PageSize}
use Rattle.pte.specs.declared.address.PageSize.TheVariants.{Kib4, Mib2, Gib1, Gib512}
use Rattle.pte.specs.declared.entry.Kind.{Kind}
use Rattle.pte.specs.declared.entry.Kind.TheVariants as kinds
use Rattle.pte.specs.Address.{IsCanonical, IsPageOf, Span, address_bits, level_bytes, level_of, level_pages, top_level, vpn_of}
use Rattle.pte.specs.Entry.{is_global, is_valid, kind_of}
use Rattle.walk.specs.Leads.{Tables, Leads}
use Rattle.tlb.specs.declared.store.Entry.{Entry}
use Rattle.watch.specs.Holding.{HasLeaf}
use Rattle.watch_tables.specs.declared.leaf.Leaf.{Leaf}
use Rattle.watch_tables.specs.declared.leaf.RootLeaf.{RootLeaf}
use Rattle.watch_tables.specs.declared.way.Way.{Way}
use Rattle.watch_tables.specs.Leaves.{AreGlobalAt, AreGlobalBelow, IsLeafBelow}
use Rattle.watch_tables.specs.Paths.{kind_in, lacks_g, leaf_from, leaf_of}
use Rattle.watch_tables.specs.Ways.{IsWay, vpn_from, way_from, way_to}
use Rattle.watch_tables.proofs.Climbing.{starts, way-from-root}
use Rattle.watch_tables.proofs.LeavesBelow.{at-below, below-at, leaf-or-pointer, next-is, no-leaf-some, none-pointed, not-both, nothing-at, word-leaf-at}
use Rattle.watch_tables.proofs.PathSince.{since-known}

-- a canonical address has any bits that an address may have
canonical-of : (scheme : Scheme) (bits : ℕ) → bits < 2 ^ address_bits scheme → (va : ℕ) × IsCanonical scheme va × (va % 2 ^ address_bits scheme ≡ bits)
canonical-of Sv39 bits small =
    elim (cases_lt bits (2 ^ 38)) [
      | inl low ↦ (bits, inl low, omega arith)
      | inr high ↦ (bits + (2 ^ 64 - 2 ^ 39), inr (omega arith, omega arith), omega arith)
    ]
canonical-of Sv48 bits small =
    elim (cases_lt bits (2 ^ 47)) [
      | inl low ↦ (bits, inl low, omega arith)
      | inr high ↦ (bits + (2 ^ 64 - 2 ^ 48), inr (omega arith, omega arith), omega arith)
    ]

-- where the bits are VPNs from a level up, the address is aligned and has these
vpns-by-bits : (scheme : Scheme) (i vpn va : ℕ) → i ≤ top_level scheme → vpn < 2 ^ (9 * (top_level scheme + 1 - i)) → va % 2 ^ address_bits scheme ≡ vpn * level_bytes i
    → (va % level_bytes i ≡ 0) × (vpn_from scheme i va ≡ vpn)
vpns-by-bits Sv39 zero vpn va le small bits = (omega arith, omega arith)
vpns-by-bits Sv39 (suc zero) vpn va le small bits = (omega arith, omega arith)
vpns-by-bits Sv39 (suc (suc zero)) vpn va le small bits = (omega arith, omega arith)
vpns-by-bits Sv39 (suc (suc (suc i))) vpn va le small bits = absurd (omega arith)
vpns-by-bits Sv48 zero vpn va le small bits = (omega arith, omega arith)
vpns-by-bits Sv48 (suc zero) vpn va le small bits = (omega arith, omega arith)
vpns-by-bits Sv48 (suc (suc zero)) vpn va le small bits = (omega arith, omega arith)
vpns-by-bits Sv48 (suc (suc (suc zero))) vpn va le small bits = (omega arith, omega arith)
vpns-by-bits Sv48 (suc (suc (suc (suc i)))) vpn va le small bits = absurd (omega arith)

bits-by-vpns : (scheme : Scheme) (i vpn : ℕ) → i ≤ top_level scheme → vpn < 2 ^ (9 * (top_level scheme + 1 - i)) → vpn * level_bytes i < 2 ^ address_bits scheme
bits-by-vpns Sv39 zero vpn le small = omega arith
bits-by-vpns Sv39 (suc zero) vpn le small = omega arith
bits-by-vpns Sv39 (suc (suc zero)) vpn le small = omega arith
bits-by-vpns Sv39 (suc (suc (suc i))) vpn le small = absurd (omega arith)
bits-by-vpns Sv48 zero vpn le small = omega arith
bits-by-vpns Sv48 (suc zero) vpn le small = omega arith
bits-by-vpns Sv48 (suc (suc zero)) vpn le small = omega arith
bits-by-vpns Sv48 (suc (suc (suc zero))) vpn le small = omega arith
bits-by-vpns Sv48 (suc (suc (suc (suc i)))) vpn le small = absurd (omega arith)

-- a level has a size
size-at : (level : ℕ) → level ≤ 3 → (size : PageSize) × (level_of size ≡ level)
size-at zero le = (Kib4, refl)
size-at (suc zero) le = (Mib2, refl)
size-at (suc (suc zero)) le = (Gib1, refl)
size-at (suc (suc (suc zero))) le = (Gib512, refl)
size-at (suc (suc (suc (suc level)))) le = absurd (omega arith)

top-in-three : (scheme : Scheme) → top_level scheme ≤ 3
top-in-three Sv39 = omega arith
top-in-three Sv48 = omega arith

-- so there is a page with the VPNs of an index of a table
page-at : (scheme : Scheme) (level vpn : ℕ) → level ≤ top_level scheme → vpn < 2 ^ (9 * (top_level scheme + 1 - level)) → (page : Span) × IsPageOf scheme page × (level_of page.size ≡ level) × (vpn_from scheme level page.base ≡ vpn)
page-at scheme level vpn le small =
    let three = top-in-three scheme in
    let sized = size-at level (omega arith) in
    let va = canonical-of scheme (vpn * level_bytes level) (bits-by-vpns scheme level vpn le small) in
    let known = vpns-by-bits scheme level vpn va.0 le small va.2 in (
      record { base = va.0; size = sized.0 },
      record {
        level = let same = sized.1 in omega arith;
        canonical = va.1;
        aligned = ap (λ k. va.0 % level_bytes k) (sized.1) ∙ known.0;
      },
      sized.1,
      known.1,
    )

-- one VPN more
vpn-more : (top level vpn index : ℕ) → level ≤ top → vpn < 2 ^ (9 * (top - level)) → index < 512 → vpn * 512 + index < 2 ^ (9 * (top + 1 - level))
vpn-more top level vpn index le small at =
    let less = mul-add-lt vpn 512 index (2 ^ (9 * (top - level))) small at in
    let exponent : 9 * (top + 1 - level) ≡ 9 + 9 * (top - level) = omega arith in
    let whole : 2 ^ (9 * (top + 1 - level)) ≡ 512 * 2 ^ (9 * (top - level)) = ap (λ k. 2 ^ k) exponent ∙ pow-add 2 9 (9 * (top - level)) in
    omega arith

-- a word without V is nothing
invalid-kind : (word : ℕ) → is_valid word ≡ false → kind_of word ≡ kinds.Invalid
unfolding kind_of
invalid-kind word is = cond-true (not (is_valid word)) _ _ (ap not is)

module _ (scheme : Scheme) (words : Tables) (since : ℕ → ℕ → ℕ) (way : Way) (is_way : IsWay scheme words since way) where
  -- below a word with G each leaf is global
  below-g : (index word : ℕ) → words way.at.table index ≡ Some word → is_global word ≡ true → AreGlobalAt scheme words since way index
  below-g index word is g x leaf =
      let e : Entry = x.entry in
      let path = (is_way.reached e.page.base leaf.below.vpn).leads in
      let has = subst (λ r. HasLeaf scheme words r e) leaf.below.root_is leaf.below.leaf.leaf in
      has.global.1 (record {
        level = way.level;
        table = way.at.table;
        entry = word;
        from = leaf.below.level;
        leads = subst (Leads scheme words way.root e.page.base way.level way.at.table) (ap (words way.at.table) leaf.index_is ∙ is) path;
        global = g;
      })

  pub global-unless : (index word : ℕ) → index < 512 → words way.at.table index ≡ Some word → lacks_g word ≡ false → AreGlobalAt scheme words since way index
  global-unless index word small is has x leaf =
      elim (and_cases (is_valid word) (not (is_global word)) has) [
        | inl invalid ↦
            absurd (nothing-at scheme words since way index kinds.Invalid (since way.at.table index) is_way small (sym (ap kind_in is ∙ invalid-kind word invalid)) refl refl x leaf)
        | inr global ↦ below-g index word is (not-false (is_global word) global) x leaf
      ]

  -- each word of the table is in memory
  abbrev pub AreWords : Type 0
  AreWords = (n : ℕ) → (word : ℕ) × (words way.at.table n ≡ Some word)

  -- the words of a table, one after the other: the leaves at those before this one are global
  abbrev pub AreGlobalBefore : ℕ → Type 0
  AreGlobalBefore from = (x : RootLeaf) → IsLeafBelow scheme words since way x → vpn_of x.entry.page.base way.level < from → IsTrue x.entry.global

  pub global-step : (from index : ℕ) → from ≤ index → index < 512 → ((n word : ℕ) → from ≤ n → n < index → words way.at.table n ≡ Some word → lacks_g word ≡ false)
      → AreWords → AreGlobalBefore from → AreGlobalAt scheme words since way index → AreGlobalBefore (index + 1)
  global-step from index le small skipped filled before here x leaf less =
      let n : ℕ = vpn_of x.entry.page.base way.level in
      elim (cases_lt n from) [
        | inl earlier ↦ before x leaf earlier
        | inr later_one ↦
            elim (cases_lt n index) [
              | inl passed ↦
                  let word = filled n in
                  global-unless n word.0 (omega arith) word.1 (skipped n word.0 later_one passed word.1) x (record { below = leaf; index_is = refl })
              | inr at ↦ here x (record { below = leaf; index_is = omega arith })
            ]
      ]

  pub global-end : (from : ℕ) → ((n word : ℕ) → from ≤ n → n < 512 → words way.at.table n ≡ Some word → lacks_g word ≡ false)
      → AreWords → AreGlobalBefore from → AreGlobalBelow scheme words since way
  global-end from skipped filled before x leaf =
      let n : ℕ = vpn_of x.entry.page.base way.level in
      elim (cases_lt n from) [
        | inl earlier ↦ before x leaf earlier
        | inr later_one ↦
            let word = filled n in
            global-unless n word.0 (omega arith) word.1 (skipped n word.0 later_one (omega arith) word.1) x (record { below = leaf; index_is = refl })
      ]

module _ (scheme : Scheme) (words : Tables) (since : ℕ → ℕ → ℕ) (way : Way) (index : ℕ) (kind : Kind) (age : ℕ) (is_way : IsWay scheme words since way) (at_index : index < 512) (is : kind ≡ kind_in (words way.at.table index)) (aged : age ≡ since way.at.table index) where
  -- at a leaf
  pub global-leaf : (leaf : Leaf) (g : Bool) → leaf_from way.at.global (level_pages way.level) kind ≡ Some leaf → g ≡ leaf.global → IsTrue g ↔ AreGlobalAt scheme words since way index
  global-leaf leaf g made same = (
    (λ on x at.
        elim (leaf-or-pointer scheme words since way index kind age is_way at_index is aged x at) [
          | inl here ↦ let leaves : leaf ≡ leaf_of x.entry = let found = here.1 in cc in ap (λ (l : Leaf). l.global) (sym leaves) ∙ sym same ∙ on
          | inr there ↦ absurd (not-both way.at.global way.at.global (level_pages way.level) kind there.1 leaf there.2 made)
        ]),
    (λ all.
        let page = page-at scheme way.level (way.vpn * 512 + index) is_way.levels.level (vpn-more (top_level scheme) way.level way.vpn index is_way.levels.level is_way.levels.vpn at_index) in
        same ∙ all _ (word-leaf-at scheme words since way index kind age is_way at_index is aged page.0 leaf page.1 page.2 page.3 made)),
  )

  -- at a pointer
  pub global-below : (next : Way) (g : Bool) → way_from way index kind age ≡ Some next → (IsTrue g ↔ AreGlobalBelow scheme words since next) → IsTrue g ↔ AreGlobalAt scheme words since way index
  global-below next g made below =
      let is_next = next-is way next index kind age made in (
        (λ on x at. below.0 on x (at-below scheme words since way index kind age is_way at_index is aged next is_next x at)),
        (λ all. below.1 (λ x leaf. all x (below-at scheme words since way index kind age is_way at_index is aged next is_next x leaf))),
      )

  -- at what is neither
  pub global-nothing : leaf_from way.at.global (level_pages way.level) kind ≡ None → way_from way index kind age ≡ None → AreGlobalAt scheme words since way index
  global-nothing no_leaf no_pointer x at =
      elim (leaf-or-pointer scheme words since way index kind age is_way at_index is aged x at) [
        | inl here ↦ absurd (no-leaf-some (leaf_of x.entry) (sym no_leaf ∙ here.1))
        | inr there ↦ let lower = there.0 in absurd (none-pointed way index kind age there.1 no_pointer (omega arith) there.2)
      ]

-- from a root
module _ (scheme : Scheme) (words : Tables) (since : ℕ → ℕ → ℕ) (root index : ℕ) where
  pub root-is-way : IsWay scheme words since (way_to root (top_level scheme))
  root-is-way = way-from-root scheme words since (top_level scheme) (way_to root (top_level scheme)) (starts scheme words since root (top_level scheme) (omega arith)) refl

  abbrev pub AreRootGlobal : Type 0
  AreRootGlobal = (e : Entry) → HasLeaf scheme words root e → vpn_of e.page.base (top_level scheme) ≡ index → e.global ≡ true

  -- there are no VPNs above the root's
  none-above : (va : ℕ) → vpn_from scheme (top_level scheme + 1) va ≡ 0
  none-above va =
      let none : 9 * (top_level scheme + 1 - (top_level scheme + 1)) ≡ 0 = omega arith in
      let one : (n : ℕ) → n % 2 ^ 0 ≡ 0 = λ n. omega arith in
      ap (λ k. va / level_bytes (top_level scheme + 1) % 2 ^ k) none ∙ one (va / level_bytes (top_level scheme + 1))

  pub root-leaves : AreGlobalAt scheme words since (way_to root (top_level scheme)) index → AreRootGlobal
  root-leaves all e has asked =
      let age = since-known scheme words since root e.page.base (level_of e.page.size) has.table (Some has.word) has.leads in
      let plain : Entry = record { asid = 0; global = e.global; page = e.page; ppn = e.ppn; flags = e.flags } in
      all (record { root = root; entry = plain; since = age.0 }) (record {
        below = record {
          root_is = refl;
          leaf = record {
            asid = refl;
            leaf = record { table = has.table; word = has.word; page = has.page; leads = has.leads; kind = has.kind; aligned = has.aligned; global = has.global };
            since_is = age.1;
          };
          level = has.page.level;
          vpn = none-above e.page.base;
        };
        index_is = asked;
      })

  pub root-iff : (way : Way) (g : Bool) → way ≡ way_to root (top_level scheme) → (IsTrue g ↔ AreGlobalAt scheme words since way index) → IsTrue g ↔ AreRootGlobal
  root-iff way g is known =
      let at = subst (λ (w : Way). IsTrue g ↔ AreGlobalAt scheme words since w index) is known in (
        (λ on. root-leaves (at.0 on)),
        (λ all. at.1 (λ x leaf. all x.entry (subst (λ r. HasLeaf scheme words r x.entry) leaf.below.root_is leaf.below.leaf.leaf) leaf.index_is)),
      )

  pub root-unless : (word : ℕ) → index < 512 → words root index ≡ Some word → lacks_g word ≡ false → AreRootGlobal
  root-unless word small is has = root-leaves (global-unless scheme words since (way_to root (top_level scheme)) root-is-way index word small is has)
