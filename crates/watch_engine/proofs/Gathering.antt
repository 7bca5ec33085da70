-- What is remembered of leaves is gathered hart by hart and space by space.
use Rattle.std.proofs.Common.{◌≡◌, ℕ, Bool, true, false, ◌+◌, ◌<◌, ◌≤◌, ◌⊎◌, zero, suc, Option, Some, None, List, [], ◌∷◌, ◌++◌, length, get_or, ap, sym, ◌∙◌, subst, refl, inl, inr, arith}
use Rattle.std.specs.Prelude.{◌↔◌, ◌==◌, ◌&&◌, nat_le, cond, not, Contains}
use Rattle.std.proofs.lemmas.Bool.{and_parts, and_from, eq-eqb, eqb-true, or_cases, or_left, or_right, true≢false, not-true, not_from_false}
use Rattle.pte.specs.declared.scheme.Scheme.{Scheme}
use Rattle.walk.specs.Leads.{Leads, Tables, word_at}
use Rattle.tlb.specs.declared.store.Entry.{Entry}
use Rattle.watch.specs.declared.trace.Space.{Space}
use Rattle.watch.specs.Holding.{BelongsTo, HasLeaf, Translation}
use Rattle.watch_engine.specs.declared.held.LastLive.{LastLive}
use Rattle.watch_engine.specs.declared.left.Left.{Left}
use Rattle.watch_tables.specs.declared.leaf.RootLeaf.{RootLeaf}
use Rattle.watch_engine.specs.Held.{IsNormalized, held_from, is_listed, is_of, last_live_in, last_translation, normalized, own, translation_in}
use Rattle.watch_engine.specs.Left.{AnyLeft, IsLeftHeld, is_taken_since}
use Rattle.watch_engine.specs.Seen.{AreAdded, AreSeen, EachSeen, GoesLeft, IsSeen, PassesAny, is_kept, kept_for, last_of, live_for, with_kept, with_leaf, with_leaves, with_live}
use Rattle.watch_tables.specs.Paths.{IsUnchangedSince}
use Rattle.watch_tables.specs.Through.{HasRootLeaf, IsLeafThrough, Passes}
use Rattle.watch_engine.proofs.Filling.{same_default}
use Rattle.watch_engine.proofs.Leaving.{any_member}
use Rattle.watch_engine.proofs.Lists.{at_most, from_at_most, is_itself}
use Rattle.watch_engine.specs.View.{PassesAt, View, is_live_for}

-- lists
pub each_append : (P : LastLive → Type 0) (xs ys : List LastLive) → EachSeen P xs → EachSeen P ys → EachSeen P (xs ++ ys)
each_append P [] ys e f = f
each_append P (x ∷ xs) ys e f = (e.0, each_append P xs ys e.1 f)

pub each_seen : (P Q : LastLive → Type 0) → ((s : LastLive) → P s → Q s) → (seen : List LastLive) → EachSeen P seen → EachSeen Q seen
each_seen P Q f [] e = tt
each_seen P Q f (s ∷ seen) e = (f s e.0, each_seen P Q f seen e.1)

listed-left : (hart : ℕ) (x : Translation) (n : ℕ) (ls ms : List LastLive) → is_listed hart x n ls ≡ true → is_listed hart x n (ls ++ ms) ≡ true
listed-left hart x n [] ms h = cc
listed-left hart x n (l ∷ ls) ms h =
    elim (or_cases (is_of hart x (held_from l) && nat_le n l.last_live) (is_listed hart x n ls) h) [
      | inl here ↦ or_left _ _ here
      | inr there ↦ or_right (is_of hart x (held_from l) && nat_le n l.last_live) _ (listed-left hart x n ls ms there)
    ]

listed-right : (hart : ℕ) (x : Translation) (n : ℕ) (ls ms : List LastLive) → is_listed hart x n ms ≡ true → is_listed hart x n (ls ++ ms) ≡ true
listed-right hart x n [] ms h = h
listed-right hart x n (l ∷ ls) ms h = or_right (is_of hart x (held_from l) && nat_le n l.last_live) _ (listed-right hart x n ls ms h)

-- translations of a space
belongs-at : (space : Space) (e : Entry) (b : Bool) → e.global ≡ b → BelongsTo space (translation_in space e)
belongs-at space e true is = inl is
belongs-at space e false is = inr (λ j. record { root = own (sym is j) space.root; asid = own (sym is j) space.asid })

pub belongs_in : (space : Space) (e : Entry) → BelongsTo space (translation_in space e)
belongs_in space e = belongs-at space e e.global refl

is-at : (of : Space) (x : Translation) (b : Bool) → x.entry.global ≡ b → BelongsTo of x → IsNormalized x → translation_in of (record x.entry { asid = 0 }) ≡ x
is-at of x true is belongs norm =
    let a : translation_in of (record x.entry { asid = 0 }) ≡ record { root = 0; entry = record x.entry { asid = 0 } } =
    (λ j. record { root = own (is j) of.root; entry = record x.entry { asid = own (is j) of.asid } }) in
    let b : normalized x ≡ record { root = 0; entry = record x.entry { asid = 0 } } =
    (λ j. record { root = own (is j) x.root; entry = record x.entry { asid = own (is j) x.entry.asid } }) in
    a ∙ (sym b ∙ norm)
is-at of x false is (inl global) norm = absurd (true≢false (sym global ∙ is))
is-at of x false is (inr same) norm =
    λ j. record { root = own (is j) (same j).root; entry = record x.entry { asid = own (is j) (same j).asid } }

pub translation_is : (of : Space) (x : Translation) → BelongsTo of x → IsNormalized x → translation_in of (record x.entry { asid = 0 }) ≡ x
translation_is of x belongs norm = is-at of x x.entry.global refl belongs norm

pub with_asid : (scheme : Scheme) (words : Tables) (root asid : ℕ) (e : Entry) → HasLeaf scheme words root e → HasLeaf scheme words root (record e { asid = asid })
with_asid scheme words root asid e leaf = record { table = leaf.table; word = leaf.word; page = leaf.page; leads = leaf.leads; kind = leaf.kind; aligned = leaf.aligned; global = leaf.global }

module _ (v : View) where
  abbrev Seen : LastLive → Type 0
  Seen = IsSeen v

  -- what is known of a leaf
  pub record IsLeafSeen (leaf : RootLeaf) : Type 0 where
    pub leaf_is : HasLeaf v.scheme v.words leaf.root leaf.entry
    pub age : (n : ℕ) → (leaf.since ≤ n) ↔ IsUnchangedSince v.scheme v.words v.since leaf.root leaf.entry n

  module _ (leaf : RootLeaf) (is : IsLeafSeen leaf) where
    live-seen : (hart : ℕ) (space : Space) → get_or v.satps hart None ≡ Some space → space.root ≡ leaf.root → Seen (last_live_in hart space leaf.entry v.count)
    live-seen hart space satp root =
        inl (
          record {
            of = space;
            satp = satp;
            belongs = belongs_in space leaf.entry;
            leaf = with_asid v.scheme v.words space.root (own leaf.entry.global space.asid) leaf.entry (subst (λ r. HasLeaf v.scheme v.words r leaf.entry) (sym root) is.leaf_is);
          },
          refl,
        )

    each-live_for : (hart : ℕ) (s : Option Space) → get_or v.satps hart None ≡ s → EachSeen Seen (live_for v.count leaf hart s)
    each-live_for hart None satp = tt
    each-live_for hart (Some space) satp =
        let go : (b : Bool) → (space.root == leaf.root) ≡ b → EachSeen Seen (cond b (last_live_in hart space leaf.entry v.count ∷ []) []) =
        λ b. elim b as (λ b. (space.root == leaf.root) ≡ b → EachSeen Seen (cond b (last_live_in hart space leaf.entry v.count ∷ []) [])) [
          | true ↦ λ t. (live-seen hart space satp (eqb-true _ _ t), tt)
          | false ↦ λ t. tt
        ] in
        go (space.root == leaf.root) refl

    each-with_live : (n : ℕ) (rest : List (Option Space)) (seen : List LastLive) → ((k : ℕ) → get_or rest k None ≡ get_or v.satps (k + n) None) → EachSeen Seen seen → EachSeen Seen (with_live v.count leaf n rest seen)
    each-with_live n [] seen at e = e
    each-with_live n (s ∷ rest) seen at e =
        each-with_live (n + 1) rest (seen ++ live_for v.count leaf n s)
        (λ k. at (suc k) ∙ (let same : suc k + n ≡ k + (n + 1) = omega arith in ap (λ m. get_or v.satps m None) same))
        (each_append Seen seen (live_for v.count leaf n s) e (each-live_for n s (let same : 0 + n ≡ n = omega arith in ap (λ m. get_or v.satps m None) (sym same) ∙ sym (at 0))))

    kept-seen : (l : Left) → ((Q : Left → Type 0) → Q l → AnyLeft Q v.left) → is_kept v leaf l ≡ true → Seen (last_live_in l.hart l.space leaf.entry l.left)
    kept-seen l among h =
        let p = and_parts (l.space.root == leaf.root) _ h in
        let q = and_parts (nat_le leaf.since l.left) _ p.1 in
        let root : l.space.root ≡ leaf.root = eqb-true _ _ p.0 in
        let old = (is.age l.left).0 (at_most leaf.since l.left q.0) in
        let x : Translation = last_translation (last_live_in l.hart l.space leaf.entry l.left) in
        inr (among (λ m. (m.left ≡ l.left) × IsLeftHeld v.scheme v.words v.since v.drops m l.hart x) (
          refl,
          record {
            by = refl;
            belongs = belongs_in l.space leaf.entry;
            leaf = with_asid v.scheme v.words l.space.root (own leaf.entry.global l.space.asid) leaf.entry (subst (λ r. HasLeaf v.scheme v.words r leaf.entry) (sym root) is.leaf_is);
            unchanged = record { unchanged = λ at table from leads. old.unchanged at table from (subst (λ r. Leads v.scheme v.words r leaf.entry.page.base at table (word_at v.words leaf.entry.page.base at table)) root leads) };
            kept = not-true _ (and_parts (not (is_live_for v l.hart (last_translation (last_of leaf l)))) _ q.1).1;
          },
        ))

    each-with_kept : (rest : List Left) (seen : List LastLive) → ((Q : Left → Type 0) → AnyLeft Q rest → AnyLeft Q v.left) → EachSeen Seen seen → EachSeen Seen (with_kept v leaf rest seen)
    each-with_kept [] seen among e = e
    each-with_kept (l ∷ rest) seen among e =
        let go : (b : Bool) → is_kept v leaf l ≡ b → EachSeen Seen (cond b (last_live_in l.hart l.space leaf.entry l.left ∷ []) []) =
        λ b. elim b as (λ b. is_kept v leaf l ≡ b → EachSeen Seen (cond b (last_live_in l.hart l.space leaf.entry l.left ∷ []) [])) [
          | true ↦ λ t. (kept-seen l (λ Q q. among Q (inl q)) t, tt)
          | false ↦ λ t. tt
        ] in
        each-with_kept rest (seen ++ kept_for v leaf l) (λ Q a. among Q (inr a))
        (each_append Seen seen (kept_for v leaf l) e (go (is_kept v leaf l) refl))

    each-leaf : (seen : List LastLive) → EachSeen Seen seen → EachSeen Seen (with_leaf v leaf v.left seen)
    each-leaf seen e =
        each-with_kept v.left (with_live v.count leaf 0 v.satps seen) (λ Q a. a)
        (each-with_live 0 v.satps seen (λ k. let same : k ≡ k + 0 = omega arith in ap (λ m. get_or v.satps m None) same) e)

  -- what is listed stays so
  still-live : (leaf : RootLeaf) (hart : ℕ) (x : Translation) (m n : ℕ) (rest : List (Option Space)) (seen : List LastLive) → is_listed hart x m seen ≡ true → is_listed hart x m (with_live v.count leaf n rest seen) ≡ true
  still-live leaf hart x m n [] seen h = h
  still-live leaf hart x m n (s ∷ rest) seen h = still-live leaf hart x m (n + 1) rest (seen ++ live_for v.count leaf n s) (listed-left hart x m seen (live_for v.count leaf n s) h)

  still-kept : (leaf : RootLeaf) (hart : ℕ) (x : Translation) (m : ℕ) (rest : List Left) (seen : List LastLive) → is_listed hart x m seen ≡ true → is_listed hart x m (with_kept v leaf rest seen) ≡ true
  still-kept leaf hart x m [] seen h = h
  still-kept leaf hart x m (l ∷ rest) seen h = still-kept leaf hart x m rest (seen ++ kept_for v leaf l) (listed-left hart x m seen (kept_for v leaf l) h)

  still-leaves : (hart : ℕ) (x : Translation) (m : ℕ) (leaves : List RootLeaf) (seen : List LastLive) → is_listed hart x m seen ≡ true → is_listed hart x m (with_leaves v leaves seen) ≡ true
  still-leaves hart x m [] seen h = h
  still-leaves hart x m (leaf ∷ leaves) seen h =
      still-leaves hart x m leaves (with_leaf v leaf v.left seen)
      (still-kept leaf hart x m v.left (with_live v.count leaf 0 v.satps seen) (still-live leaf hart x m 0 v.satps seen h))

  -- the leaf of a translation
  abbrev pub IsOf : RootLeaf → ℕ → Translation → Type 0
  IsOf leaf root x = (root ≡ leaf.root) × (record x.entry { asid = 0 } ≡ leaf.entry)

  listed-one : (hart : ℕ) (x : Translation) (of : Space) (leaf : RootLeaf) (n : ℕ) → BelongsTo of x → IsNormalized x → record x.entry { asid = 0 } ≡ leaf.entry → is_listed hart x n (last_live_in hart of leaf.entry n ∷ []) ≡ true
  listed-one hart x of leaf n belongs norm same =
      let s : LastLive = last_live_in hart of leaf.entry n in
      let is : last_translation s ≡ x = sym (ap (translation_in of) same) ∙ translation_is of x belongs norm in
      or_left _ _ (and_from _ _ (subst (λ (y : Translation). is_of hart y (held_from s) ≡ true) is (is_itself (held_from s))) (from_at_most n n (omega arith)))

  live-listed : (leaf : RootLeaf) (hart : ℕ) (x : Translation) (of : Space) → BelongsTo of x → IsNormalized x → IsOf leaf of.root x → (k n : ℕ) (rest : List (Option Space)) (seen : List LastLive) → k + n ≡ hart → get_or rest k None ≡ Some of
      → is_listed hart x v.count (with_live v.count leaf n rest seen) ≡ true
  live-listed leaf hart x of belongs norm is k n [] seen at satp = cc
  live-listed leaf hart x of belongs norm is zero n (s ∷ rest) seen at satp =
      still-live leaf hart x v.count (n + 1) rest (seen ++ live_for v.count leaf n s)
      (listed-right hart x v.count seen (live_for v.count leaf n s)
      (let one : live_for v.count leaf n s ≡ last_live_in hart of leaf.entry v.count ∷ [] =
      ap (live_for v.count leaf n) satp ∙ (ap (λ b. cond b (last_live_in n of leaf.entry v.count ∷ []) []) (eq-eqb of.root leaf.root is.0) ∙ (let same : n ≡ hart = omega arith in ap (λ h. last_live_in h of leaf.entry v.count ∷ []) same)) in
      ap (is_listed hart x v.count) one ∙ listed-one hart x of leaf v.count belongs norm is.1))
  live-listed leaf hart x of belongs norm is (suc k) n (s ∷ rest) seen at satp =
      live-listed leaf hart x of belongs norm is k (n + 1) rest (seen ++ live_for v.count leaf n s) (omega arith) satp

  kept-listed : (leaf : RootLeaf) (hart : ℕ) (x : Translation) (n : ℕ) → IsLeafSeen leaf → IsNormalized x → is_live_for v hart x ≡ false → (rest : List Left) (seen : List LastLive)
      → AnyLeft (λ l. (l.left ≡ n) × IsLeftHeld v.scheme v.words v.since v.drops l hart x × IsOf leaf l.space.root x) rest → is_listed hart x n (with_kept v leaf rest seen) ≡ true
  kept-listed leaf hart x n seen_leaf norm dead [] seen a = absurd a
  kept-listed leaf hart x n seen_leaf norm dead (l ∷ rest) seen (inr a) = kept-listed leaf hart x n seen_leaf norm dead rest (seen ++ kept_for v leaf l) a
  kept-listed leaf hart x n seen_leaf norm dead (l ∷ rest) seen (inl (at, held, of)) =
      let s : LastLive = last_live_in l.hart l.space leaf.entry l.left in
      let is : last_translation s ≡ x = sym (ap (translation_in l.space) of.1) ∙ translation_is l.space x held.belongs norm in
      let entry : s.entry ≡ x.entry = ap (λ (y : Translation). y.entry) is in
      let page : leaf.entry.page ≡ x.entry.page = ap (λ (e : Entry). e.page) (sym of.1) in
      let old : IsUnchangedSince v.scheme v.words v.since leaf.root leaf.entry l.left =
      subst (λ r. IsUnchangedSince v.scheme v.words v.since r leaf.entry l.left) of.0
      (subst (λ (e : Entry). IsUnchangedSince v.scheme v.words v.since l.space.root e l.left) of.1
      (record { unchanged = λ at table from leads. held.unchanged.unchanged at table from leads })) in
      let kept : is_kept v leaf l ≡ true =
      and_from _ _ (eq-eqb l.space.root leaf.root of.0)
      (and_from _ _ (from_at_most leaf.since l.left ((seen_leaf.age l.left).1 old)) (and_from _ _
      (not_from_false _ ((λ j. is_live_for v (held.by j) (is j)) ∙ dead))
      (not_from_false _ (ap (is_taken_since v.scheme v.drops l) entry ∙ held.kept)))) in
      let one : kept_for v leaf l ≡ last_live_in hart l.space leaf.entry n ∷ [] =
      ap (λ b. cond b (s ∷ []) []) kept ∙ (λ j. last_live_in (held.by j) l.space leaf.entry (at j) ∷ []) in
      still-kept leaf hart x n rest (seen ++ kept_for v leaf l)
      (listed-right hart x n seen (kept_for v leaf l)
      (ap (is_listed hart x n) one ∙ listed-one hart x l.space leaf n held.belongs norm of.1))

  -- all leaves
  abbrev EachLeaf : (RootLeaf → Type 0) → List RootLeaf → Type 0
  EachLeaf P [] = Unit {0}
  EachLeaf P (leaf ∷ leaves) = P leaf × EachLeaf P leaves

  each_of : (P : RootLeaf → Type 0) (leaves : List RootLeaf) → ((k : ℕ) (d : RootLeaf) → k < length leaves → P (get_or leaves k d)) → EachLeaf P leaves
  each_of P [] f = tt
  each_of P (leaf ∷ leaves) f = (f 0 leaf (omega arith), each_of P leaves (λ k d within. f (suc k) d (omega arith)))

  each-leaves : (leaves : List RootLeaf) (seen : List LastLive) → EachLeaf IsLeafSeen leaves → EachSeen Seen seen → EachSeen Seen (with_leaves v leaves seen)
  each-leaves [] seen f e = e
  each-leaves (leaf ∷ leaves) seen f e = each-leaves leaves (with_leaf v leaf v.left seen) f.1 (each-leaf leaf f.0 seen e)

  -- what one leaf has listed
  leaf-listed : (hart : ℕ) (x : Translation) (n : ℕ) (leaf : RootLeaf) → ((seen : List LastLive) → is_listed hart x n (with_leaf v leaf v.left seen) ≡ true)
      → (leaves : List RootLeaf) (k : ℕ) (seen : List LastLive) → k < length leaves → get_or leaves k leaf ≡ leaf → is_listed hart x n (with_leaves v leaves seen) ≡ true
  leaf-listed hart x n leaf lists [] k seen within at = absurd (omega arith)
  leaf-listed hart x n leaf lists (f ∷ leaves) zero seen within at =
      still-leaves hart x n leaves (with_leaf v f v.left seen)
      (subst (λ (g : RootLeaf). is_listed hart x n (with_leaf v g v.left seen) ≡ true) (sym at) (lists seen))
  leaf-listed hart x n leaf lists (f ∷ leaves) (suc k) seen within at =
      leaf-listed hart x n leaf lists leaves k (with_leaf v f v.left seen) (omega arith) at

  module _ (table index : ℕ) (leaves : List RootLeaf) (exact : (root : ℕ) (e : Entry) → HasRootLeaf leaves root e ↔ IsLeafThrough v.scheme v.words root table index e)
      (age : (leaf : RootLeaf) → Contains leaves leaf → (n : ℕ) → (leaf.since ≤ n) ↔ IsUnchangedSince v.scheme v.words v.since leaf.root leaf.entry n) where
    abbrev Goes : ℕ → Entry → Type 0
    Goes root e = Passes v.scheme v.words root table index e.page

    contained : (leaf : RootLeaf) → Contains leaves leaf → IsLeafSeen leaf
    contained leaf among = record {
      leaf_is = ((exact leaf.root leaf.entry).0 (record { since = leaf.since; among = among })).leaf;
      age = age leaf among;
    }

    listed-by : (hart : ℕ) (x : Translation) (n root : ℕ) → HasLeaf v.scheme v.words root x.entry → Goes root x.entry
        → ((leaf : RootLeaf) → IsLeafSeen leaf → IsOf leaf root x → (seen : List LastLive) → is_listed hart x n (with_leaf v leaf v.left seen) ≡ true)
        → (seen : List LastLive) → is_listed hart x n (with_leaves v leaves seen) ≡ true
    listed-by hart x n root has goes lists seen =
        let e : Entry = record x.entry { asid = 0 } in
        let there = (exact root e).1 (record { asid = refl; leaf = with_asid v.scheme v.words root 0 x.entry has; passes = goes }) in
        let leaf : RootLeaf = record { root = root; entry = e; since = there.since } in
        leaf-listed hart x n leaf (lists leaf (contained leaf there.among) (refl, refl)) leaves there.among.0 seen there.among.1 there.among.2

    pub leaves_added : (old : List LastLive) → AreAdded v Goes old (with_leaves v leaves old)
    leaves_added old = record {
      each = λ e. each-leaves leaves old (each_of IsLeafSeen leaves (λ k d within. contained (get_or leaves k d) (k, within, same_default leaves k (get_or leaves k d) d within))) e;
      still = λ hart x n h. still-leaves hart x n leaves old h;
      live = λ hart x norm l goes.
          listed-by hart x v.count l.of.root l.leaf goes
          (λ leaf is of seen. still-kept leaf hart x v.count v.left (with_live v.count leaf 0 v.satps seen)
          (live-listed leaf hart x l.of l.belongs norm of hart 0 v.satps seen (omega arith) l.satp)) old;
      kept = λ hart x n norm dead a.
          let m = any_member (GoesLeft v Goes hart x n) v.left a in
          listed-by hart x n m.one.space.root m.has.1.leaf m.has.2
          (λ leaf is of seen. kept-listed leaf hart x n is norm dead v.left (with_live v.count leaf 0 v.satps seen)
          (m.among (λ l. (l.left ≡ n) × IsLeftHeld v.scheme v.words v.since v.drops l hart x × IsOf leaf l.space.root x) (m.has.0, m.has.1, of))) old;
    }

-- word by word
abbrev pub AddedBy : View → ℕ → List LastLive → List LastLive → Type 0
AddedBy v address old new = AreAdded v (PassesAt v address) old new

abbrev pub SeenIn : View → List ℕ → List LastLive → Type 0
SeenIn v addresses seen = AreSeen v (PassesAny v addresses) seen

any-more : (v : View) (addresses : List ℕ) (address root : ℕ) (e : Entry) → PassesAny v (addresses ++ address ∷ []) root e → PassesAny v addresses root e ⊎ PassesAt v address root e
any-more v [] address root e (inl p) = inr p
any-more v [] address root e (inr a) = absurd a
any-more v (b ∷ addresses) address root e (inl p) = inl (inl p)
any-more v (b ∷ addresses) address root e (inr a) =
    elim (any-more v addresses address root e a) [
      | inl q ↦ inl (inr q)
      | inr p ↦ inr p
    ]

module _ (v : View) where
  pub none_seen : SeenIn v [] []
  none_seen = record {
    each = tt;
    live = λ hart x norm l goes. absurd goes;
    kept = λ hart x n norm dead a. let m = any_member _ v.left a in absurd m.has.2;
  }

  pub one_more : (addresses : List ℕ) (address : ℕ) (old new : List LastLive) → SeenIn v addresses old → AddedBy v address old new
      → SeenIn v (addresses ++ address ∷ []) new
  one_more addresses address old new seen added = record {
    each = added.each seen.each;
    live = λ hart x norm l goes. elim (any-more v addresses address l.of.root x.entry goes) [
      | inl before ↦ added.still hart x v.count (seen.live hart x norm l before)
      | inr this ↦ added.live hart x norm l this
    ];
    kept = λ hart x n norm dead a.
        let m = any_member (GoesLeft v (PassesAny v (addresses ++ address ∷ [])) hart x n) v.left a in
        elim (any-more v addresses address m.one.space.root x.entry m.has.2) [
          | inl before ↦ added.still hart x n (seen.kept hart x n norm dead
              (m.among (GoesLeft v (PassesAny v addresses) hart x n) (m.has.0, m.has.1, before)))
          | inr this ↦ added.kept hart x n norm dead
              (m.among (GoesLeft v (PassesAt v address) hart x n) (m.has.0, m.has.1, this))
        ];
  }

  pub seen_of : (address : ℕ) (old new : List LastLive) → old ≡ [] → AddedBy v address old new
      → AreSeen v (PassesAt v address) new
  seen_of address old new none added = record {
    each = added.each (subst (EachSeen (IsSeen v)) (sym none) tt);
    live = added.live;
    kept = added.kept;
  }
