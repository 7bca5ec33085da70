-- Where the only way to a table is that from itself, no hart has it as a root, and who left it can fill
-- what is below its word, nothing is added.
use Rattle.std.proofs.Common.{◌≡◌, ℕ, true, false, Option, None, List, [], ◌∷◌, filter, length, get_or, ap, sym, ◌∙◌, subst, refl, arith}
use Rattle.std.specs.Prelude.{◌==◌, Contains}
use Rattle.std.proofs.lemmas.Bool.{eq-eqb, true≢false}
use Rattle.pte.specs.Address.{top_level, vpn_of}
use Rattle.walk.specs.Leads.{Leads}
use Rattle.walk.specs.Maps.{page_number}
use Rattle.walk.proofs.Paths.{leads-start}
use Rattle.tlb.specs.declared.store.Entry.{Entry}
use Rattle.watch.specs.declared.trace.Space.{Space}
use Rattle.watch.specs.Trace.{has_root, index_of}
use Rattle.watch.specs.ComputedTraces.{is_live_in}
use Rattle.watch.specs.Holding.{HasLeaf}
use Rattle.watch_tables.specs.declared.way.Way.{Way}
use Rattle.watch_engine.specs.declared.held.LastLive.{LastLive}
use Rattle.watch_engine.specs.declared.left.Left.{Left}
use Rattle.watch_engine.specs.Held.{is_listed, translation_in}
use Rattle.watch_engine.specs.Left.{EachLeft}
use Rattle.watch_engine.specs.Shared.{HasWordOf}
use Rattle.watch_engine.specs.Unseen.{FillsBelow}
use Rattle.watch_engine.proofs.Gathering.{AddedBy, translation_is, with_asid}
use Rattle.watch_engine.proofs.Leaving.{any_out, any_weaker, any_with, each_weaker, filter_in}
use Rattle.watch_engine.proofs.Sharing.{live-below}
use Rattle.watch_engine.specs.View.{AreWaysTo, PassesAt, View, is_live_for}
use Rattle.watch_engine.specs.Seen.{GoesLeft}

-- who has the word in the root of its space can fill what is below it, if that is global
pub fill_below : (v : View) (root index : ℕ)
    → ((e : Entry) → HasLeaf v.scheme v.words root e → vpn_of e.page.base (top_level v.scheme) ≡ index → e.global ≡ true)
    → (left : List Left) → EachLeft (λ l. HasWordOf v root index (get_or v.satps l.hart None)) left → EachLeft (FillsBelow v root index) left
fill_below v root index global left has =
    each_weaker (λ l. HasWordOf v root index (get_or v.satps l.hart None)) (FillsBelow v root index)
    (λ l there e s leaf at.
    ap (λ (o : Option Space). is_live_in v.scheme v.words o (translation_in s e)) there.is
    ∙ live-below v.scheme v.words (record { root = root; entry = e; since = 0 }) there.of
    (ap (v.words root) at ∙ there.same ∙ ap (v.words there.of.root) (sym at)) e s
    (record { global = global e leaf at; index = refl }) leaf)
    left has

-- the first of a list of one is each that it has
first-is : (ways : List Way) (way : Way) → length ways ≡ 1 → Contains ways way → (d : Way) → get_or ways 0 d ≡ way
first-is [] way one among d = absurd (omega arith)
first-is (w ∷ ways) way one among d =
    let first : among.0 ≡ 0 = let within = among.1 in omega arith in
    ap (λ k. get_or (w ∷ ways) k way) (sym first) ∙ among.2

module _ (v : View) (address : ℕ) (ways : List Way)
    (are : AreWaysTo v address ways) (one : length ways ≡ 1) (d : Way) where
  abbrev way : Way
  way = get_or ways 0 d

  abbrev Goes : ℕ → Entry → Type 0
  Goes = PassesAt v address

  -- a path through the word begins there
  begins : (root : ℕ) (e : Entry) → Goes root e → (root ≡ way.root) × (vpn_of e.page.base (top_level v.scheme) ≡ index_of address)
  begins root e goes =
      let table : ℕ = page_number address in
      let here = are.each root e.page.base goes.at (subst (λ i. Leads v.scheme v.words root e.page.base goes.at table (v.words table i)) (sym goes.asked) goes.leads) in
      let itself = are.each table 0 (top_level v.scheme) (leads-start v.scheme v.words table 0) in
      let by : here.way ≡ way = sym (first-is ways here.way one here.among d) in
      let same : itself.way ≡ way = sym (first-is ways itself.way one itself.among d) in
      let level : goes.at ≡ top_level v.scheme = sym here.level_is ∙ (ap (λ (w : Way). w.level) (by ∙ sym same) ∙ itself.level_is) in
      (sym here.root_is ∙ ap (λ (w : Way). w.root) by, ap (vpn_of e.page.base) (sym level) ∙ goes.asked)

  added-none : ((hart : ℕ) → has_root (get_or v.satps hart None) way.root ≡ false)
      → EachLeft (FillsBelow v way.root (index_of address)) (filter (λ l. l.space.root == way.root) v.left)
      → (seen : List LastLive) → AddedBy v address seen seen
  added-none none fill seen = record {
    each = λ e. e;
    still = λ hart x n h. h;
    live = λ hart x norm l goes.
        let root = begins l.of.root x.entry goes in
        absurd (true≢false (sym (ap (λ (o : Option Space). has_root o way.root) l.satp ∙ eq-eqb l.of.root way.root root.0) ∙ none hart));
    kept = λ hart x n norm dead a.
        let Was : Left → Type 0 = GoesLeft v Goes hart x n in
        let Fills : Left → Type 0 = FillsBelow v way.root (index_of address) in
        let of_root = filter_in Was (λ l. l.space.root == way.root) v.left
        (any_weaker Was (λ l. Was l × ((l.space.root == way.root) ≡ true)) (λ l was. (was, eq-eqb _ _ (begins l.space.root x.entry was.2).0)) v.left a) in
        any_out (λ l. Was l × Fills l) (is_listed hart x n seen ≡ true)
        (λ l both.
        let held = both.0.1 in
        let at = begins l.space.root x.entry both.0.2 in
        let e : Entry = record x.entry { asid = 0 } in
        let leaf : HasLeaf v.scheme v.words way.root e = subst (λ r. HasLeaf v.scheme v.words r e) at.0 (with_asid v.scheme v.words l.space.root 0 x.entry held.leaf) in
        let live : is_live_for v l.hart (translation_in l.space e) ≡ true = both.1 e l.space leaf at.1 in
        let not_live : is_live_for v l.hart (translation_in l.space e) ≡ false =
        (λ j. is_live_for v (held.by j) (translation_is l.space x held.belongs norm j)) ∙ dead in
        absurd (true≢false (sym live ∙ not_live)))
        (filter (λ l. l.space.root == way.root) v.left)
        (any_with Was Fills (filter (λ l. l.space.root == way.root) v.left) fill of_root);
  }

  pub nothing_added : ((hart : ℕ) → has_root (get_or v.satps hart None) way.root ≡ false)
      → (index : ℕ) → index ≡ index_of address → (spaces : List Left) → spaces ≡ filter (λ l. l.space.root == way.root) v.left → EachLeft (FillsBelow v way.root index) spaces
      → (seen : List LastLive) → AddedBy v address seen seen
  nothing_added none index here spaces are_of fill seen =
      added-none none (subst (EachLeft (FillsBelow v way.root (index_of address))) are_of (subst (λ i. EachLeft (FillsBelow v way.root i) spaces) here fill)) seen
