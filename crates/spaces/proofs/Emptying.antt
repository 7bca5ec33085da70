-- Giving back the frames of a space keeps the tree, and takes away what the space's user half maps.
use Rattle.std.proofs.Common.{◌≡◌, ℕ, zero, suc, ◌+◌, ◌-◌, ◌*◌, ◌/◌, ◌<◌, ◌≤◌, ◌⊎◌, Bool, true, false, cond, Option, Some, None, length, ap, sym, ◌∙◌, subst, refl, inl, inr, arith, IsSome, eqb, ltb}
use Rattle.std.specs.Prelude.{slice_index, ◌&&◌, ◌||◌}
use Rattle.std.proofs.lemmas.Bool.{cases_Bool, cases_eq, cases_lt, or_cases, and_parts, eqb-true, eq-eqb, ltb-true, lt-ltb, false≢true, true≢false}
use Rattle.pte.specs.declared.flags.PteFlags.{PteFlags}
use Rattle.pte.specs.declared.entry.Kind.TheVariants as kinds
use Rattle.pte.specs.Address.{level_bytes, top_level, vpn_of}
use Rattle.pte.specs.Entry.{kind_of, is_global}
use Rattle.walk.specs.Leads.{Tables, word_at}
use Rattle.walk.specs.Maps.{Maps}
use Rattle.walk.specs.Pointers.{pointed, table_below}
use Rattle.walk.proofs.Pages.{same_vpn}
use Rattle.spaces.specs.declared.places.Place.{Place}
use Rattle.spaces.specs.declared.places.Place.TheVariants.{Space, Kernel}
use Rattle.spaces.specs.Layout.{Layout, HasPlace, home_of, is_root, root_ppn, spare_ppn, user_slots, first_window_slot}
use Rattle.spaces.specs.Held.{IsLayout}
use Rattle.spaces.specs.Holders.{Holders, is_held_for, is_word_of, zero_word, emptied, given_back}
use Rattle.spaces.specs.Tree.{start_level, start_table, IsIn, table_on, IsAtHome, of_root, of_spare, IsSpareFor, IsTableOf, IsOwn, IsStep, IsEntryOf, IsHome, IsTree}
use Rattle.spaces.specs.Effects.{EmptiesSpace, IsOfUser, HangsBelow}
use Rattle.spaces.proofs.Homes.{home-unique, place-unique}
use Rattle.spaces.proofs.Paths.{above, below, on, On, of-place, some-same}
use Rattle.spaces.proofs.Trees.{home-same, kind-zero, pointed-zero, is_global-zero, root-is, zero-leaf}
use Rattle.spaces.proofs.Accepting.{home-there, window-points}
use Rattle.spaces.proofs.EndPaths.{table_below-front}
use Rattle.spaces.proofs.Leaves.{leaf-carried, member-of, maps-of, moved, path-none, root-home}
use Rattle.spaces.proofs.Numbers.{number-part}

-- a word that was emptied
pub zero-none : (o : Option ℕ) → pointed (zero_word o) ≡ None
zero-none None = refl
zero-none (Some w) = pointed-zero

zero-is : (o : Option ℕ) (word : ℕ) → zero_word o ≡ Some word → word ≡ 0
zero-is None word e = absurd (let bad : None ≡ Some word = e in cc)
zero-is (Some w) word e = sym (some-same 0 word e)

pub zero-some : (o : Option ℕ) → IsSome o → zero_word o ≡ Some 0
zero-some (Some w) e = refl
zero-some None e = absurd (let bad : false ≡ true = e in cc)

-- holders once a space was given back
pub held-is : (o : Option Place) (s : ℕ) → is_held_for o (Space s) ≡ true → o ≡ Some (Space s)
held-is None s e = absurd (false≢true e)
held-is (Some (Space t)) s e = ap (λ x. Some (Space x)) (eqb-true t s e)
held-is (Some Kernel) s e = absurd (false≢true e)

pub given-fewer : (o : Option Place) (s : ℕ) (place : Place) → given_back o s ≡ Some place → o ≡ Some place
given-fewer o s place e = by_held (is_held_for o (Space s)) e
  where
    by_held : (t : Bool) → cond t None o ≡ Some place → o ≡ Some place
    by_held true e = absurd (let bad : None ≡ Some place = e in cc)
    by_held false e = e

given-none : (o : Option Place) (s : ℕ) → given_back o s ≡ None → (o ≡ None) ⊎ (o ≡ Some (Space s))
given-none o s e = by_held (is_held_for o (Space s)) refl e
  where
    by_held : (t : Bool) → is_held_for o (Space s) ≡ t → cond t None o ≡ None → (o ≡ None) ⊎ (o ≡ Some (Space s))
    by_held true t e = inr (held-is o s t)
    by_held false t e = inl e

pub given-same : (o : Option Place) (s : ℕ) → (o ≡ Some (Space s) → ⊥) → given_back o s ≡ o
given-same o s apart = elim (cases_Bool (is_held_for o (Space s))) [
  | inl t ↦ absurd (apart (held-is o s t))
  | inr f ↦ ap (λ t. cond t None o) f
]

module _ (l : Layout) (fits : IsLayout l) (words : Tables) (holders : Holders) (tree : IsTree l words holders) (s : ℕ) (has-s : s < length l.homes) where
  abbrev own : ℕ → ℕ → Bool
  own f i = is_word_of l holders s f i

  abbrev new : Tables
  new = emptied l holders s words

  abbrev left : Holders
  left f = given_back (holders f) s

  abbrev h : ℕ
  h = slice_index l.homes s

  at-home : IsHome l words h holders
  at-home = tree h (fits.homes s 0 has-s)

  new-own : (f i : ℕ) → own f i ≡ true → new f i ≡ zero_word (words f i)
  new-own f i t = ap (λ b. cond b (zero_word (words f i)) (words f i)) t

  new-other : (f i : ℕ) → own f i ≡ false → new f i ≡ words f i
  new-other f i t = ap (λ b. cond b (zero_word (words f i)) (words f i)) t

  own-is : (f i : ℕ) → own f i ≡ true → ((f ≡ root_ppn l s) × (i < user_slots)) ⊎ (holders f ≡ Some (Space s))
  own-is f i t = elim (or_cases (eqb f (root_ppn l s) && ltb i user_slots) (is_held_for (holders f) (Space s)) t) [
    | inl root ↦ let p = and_parts (eqb f (root_ppn l s)) (ltb i user_slots) root in inl (eqb-true f (root_ppn l s) p.0, ltb-true i user_slots p.1)
    | inr held ↦ inr (held-is (holders f) s held)
  ]

  by-root : (f i : ℕ) → f ≡ root_ppn l s → i < user_slots → own f i ≡ true
  by-root f i is low = rw (is, eq-eqb (root_ppn l s) (root_ppn l s) refl, lt-ltb i user_slots low) refl

  or-true : (a b : Bool) → b ≡ true → (a || b) ≡ true
  or-true true b e = refl
  or-true false b e = e

  by-holder : (f i : ℕ) → holders f ≡ Some (Space s) → own f i ≡ true
  by-holder f i e = or-true (eqb f (root_ppn l s) && ltb i user_slots) _ (ap (λ o. is_held_for o (Space s)) e ∙ eq-eqb s s refl)

  points-old : (f i g : ℕ) → pointed (new f i) ≡ Some g → (pointed (words f i) ≡ Some g) × (own f i ≡ false)
  points-old f i g e = elim (cases_Bool (own f i)) [
    | inl t ↦ absurd (let bad : None ≡ Some g = sym (zero-none (words f i)) ∙ ap pointed (sym (new-own f i t)) ∙ e in cc)
    | inr t ↦ (ap pointed (sym (new-other f i t)) ∙ e, t)
  ]

  back : (place : Place) (va n t : ℕ) → table_on l new place va n ≡ Some t → table_on l words place va n ≡ Some t
  back place va zero t e = e
  back place va (suc n) t e =
      let up = above new va (start_level l place) (start_table l place va) n t e in
      below words va (start_level l place) (start_table l place va) n up.table_above (back place va n up.table_above up.on) ∙ (points-old _ _ t up.points).0

  -- a held frame is a spare frame of the home
  held-spare : (f : ℕ) → holders f ≡ Some (Space s) → (n : ℕ) × (n < slice_index l.spares h) × (f ≡ spare_ppn l h + n)
  held-spare f e = at-home.held f (Space s) e refl

  own-home : (f i : ℕ) → own f i ≡ true → IsAtHome l h f
  own-home f i t = elim (own-is f i t) [
    | inl root ↦ of_root s has-s refl root.0
    | inr held ↦ let u = held-spare f held in of_spare u.0 u.1 u.2
  ]

  upper-other : (t j : ℕ) → t < length l.homes → user_slots ≤ j → own (root_ppn l t) j ≡ false
  upper-other t j has high = elim (cases_Bool (own (root_ppn l t) j)) [
    | inr f ↦ f
    | inl y ↦ absurd (elim (own-is (root_ppn l t) j y) [
      | inl root ↦ omega (arith, root.1)
      | inr held ↦ let u = held-spare (root_ppn l t) held in omega (arith, u.2)
    ])
  ]

  -- a step of another place stays
  other-place : (f i : ℕ) (place : Place) → IsOwn l f i → own f i ≡ false → IsTableOf l h holders place f → place ≡ Space s → ⊥
  other-place f i place slot none of is = elim (subst (λ p. IsTableOf l h holders p f) is of) [
    | inl top ↦ true≢false (sym (by-root f i top (slot (ap (is_root l) top ∙ root-is l s has-s))) ∙ none)
    | inr u ↦ true≢false (sym (by-holder f i u.held) ∙ none)
  ]

  left-for : (place : Place) (f : ℕ) → (place ≡ Space s → ⊥) → IsSpareFor l h holders place f → IsSpareFor l h left place f
  left-for place f apart u = record {
    number = u.number;
    below = u.below;
    is = u.is;
    held = given-same (holders f) s (λ e. apart (let both : Some place ≡ Some (Space s) = sym u.held ∙ e in cc)) ∙ u.held;
  }

  closed-emptied : (f i g : ℕ) → IsAtHome l h f → IsOwn l f i → pointed (new f i) ≡ Some g → IsStep l h left f g
  closed-emptied f i g home slot e =
      let old = points-old f i g e in
      let step = at-home.closed f i g home slot old.0 in
      let apart = other-place f i step.place slot old.1 step.from in
      record {
        place = step.place;
        has = step.has;
        home = step.home;
        from = elim step.from [ inl top ↦ inl top | inr u ↦ inr (left-for step.place f apart u) ];
        to = left-for step.place g apart step.to;
      }

  unused-emptied : (n i : ℕ) → left (spare_ppn l h + n) ≡ None → n < slice_index l.spares h → i < 512 → new (spare_ppn l h + n) i ≡ Some 0
  unused-emptied n i none to less =
      let there = at-home.present (spare_ppn l h + n) i (of_spare n to refl) less in
      elim (cases_Bool (own (spare_ppn l h + n) i)) [
        | inl t ↦ new-own _ i t ∙ zero-some _ there
        | inr f ↦ elim (given-none (holders (spare_ppn l h + n)) s none) [
          | inl free ↦ new-other _ i f ∙ at-home.unused n i free to less
          | inr held ↦ absurd (true≢false (sym (by-holder _ i held) ∙ f))
        ]
      ]

  home-emptied : IsHome l new h left
  home-emptied = record {
    held = λ f place e home. at-home.held f place (given-fewer (holders f) s place e) home;
    present = λ f i home less. elim (cases_Bool (own f i)) [
      | inl t ↦ subst IsSome (sym (new-own f i t ∙ zero-some (words f i) (at-home.present f i home less))) refl
      | inr t ↦ subst IsSome (sym (new-other f i t)) (at-home.present f i home less)
    ];
    entries = λ f i word home e. elim (cases_Bool (own f i)) [
      | inl t ↦ subst (λ w. IsEntryOf w (kind_of w)) (sym (zero-is (words f i) word (sym (new-own f i t) ∙ e))) (subst (IsEntryOf 0) (sym kind-zero) refl)
      | inr t ↦ at-home.entries f i word home (sym (new-other f i t) ∙ e)
    ];
    window = λ t k has home less. new-other _ _ (upper-other t _ has (omega (arith, fits.window))) ∙ at-home.window t k has home less;
    upper = λ t i has home from to. new-other _ _ (upper-other t i has from) ∙ at-home.upper t i has home from to;
    closed = closed-emptied;
    once = λ f i f' i' g home home' slot slot' e e'. at-home.once f i f' i' g home home' slot slot' (points-old f i g e).0 (points-old f' i' g e').0;
    unused = λ n i none to less. unused-emptied n i none to less;
    bottom = λ place va t has home within e. elim (cases_Bool (own t (vpn_of va 0))) [
      | inl y ↦ ap pointed (new-own t _ y) ∙ zero-none (words t (vpn_of va 0))
      | inr f ↦ ap pointed (new-other t _ f) ∙ at-home.bottom place va t has home within (back place va (start_level l place) t e)
    ];
    plain = λ t va n f word has home within deep e w. elim (cases_Bool (own f (vpn_of va ((top_level l.scheme) - n)))) [
      | inl y ↦ ap is_global (zero-is (words f (vpn_of va ((top_level l.scheme) - n))) word (sym (new-own f _ y) ∙ w)) ∙ is_global-zero
      | inr z ↦ at-home.plain t va n f word has home within deep (back (Space t) va n f e) (sym (new-other f _ z) ∙ w)
    ];
    aligned = λ place va n f word ppn flags has home within deep e w kind. elim (cases_Bool (own f (vpn_of va (start_level l place - n)))) [
      | inl y ↦ absurd (zero-leaf word ppn flags (zero-is (words f (vpn_of va (start_level l place - n))) word (sym (new-own f _ y) ∙ w)) kind)
      | inr z ↦ at-home.aligned place va n f word ppn flags has home within deep (back place va n f e) (sym (new-other f _ z) ∙ w) kind
    ];
  }

  elsewhere : (k f i : ℕ) → (k ≡ h → ⊥) → IsAtHome l k f → own f i ≡ false
  elsewhere k f i apart home = elim (cases_Bool (own f i)) [
    | inl t ↦ absurd (apart (home-unique l k h f home (own-home f i t)))
    | inr t ↦ t
  ]

  pub tree-emptied : IsTree l (emptied l holders s words) (λ f. given_back (holders f) s)
  tree-emptied k less = elim (cases_eq k h) [
    | inl same ↦ subst (λ x. IsHome l new x left) (sym same) home-emptied
    | inr apart ↦
        home-same l fits words new k holders left (tree k less) (λ f i home. new-other f i (elsewhere k f i apart home))
        (λ n below. given-same (holders (spare_ppn l k + n)) s (λ e. apart (home-unique l k h _ (of_spare n below refl) (own-home _ 0 (by-holder _ 0 e)))))
        (λ f place home e. given-fewer (holders f) s place e)
  ]

  -- a table of another place keeps its words
  table-other : (k t i : ℕ) (place : Place) → HasPlace l place → IsTableOf l k holders place t → (place ≡ Space s → ⊥) → own t i ≡ false
  table-other k t i place has of apart = elim (cases_Bool (own t i)) [
    | inr f ↦ f
    | inl y ↦ absurd (elim (own-is t i y) [
      | inl root ↦ apart (place-unique l k holders place (Space s) t of (inl root.0) has has-s)
      | inr held ↦ by-of place has of apart held
    ])
  ]
    where
      by-of : (p : Place) → HasPlace l p → IsTableOf l k holders p t → (p ≡ Space s → ⊥) → holders t ≡ Some (Space s) → ⊥
      by-of (Space u) has (inl top) apart held = let spare = held-spare t held in omega (arith, top, spare.2)
      by-of Kernel has (inl top) apart held = let spare = held-spare t held in omega (arith, top.1, top.2, spare.2)
      by-of p has (inr u) apart held = apart (let both : Some p ≡ Some (Space s) = sym u.held ∙ held in cc)

  module _ (place : Place) (va : ℕ) (has : HasPlace l place) (within : IsIn l place va) where
    stands : (n t : ℕ) → table_on l words place va n ≡ Some t → On l (home_of l place) holders place va n t
    stands n t e = on l fits words (home_of l place) holders (tree _ (home-there l fits words holders tree place has)) place va n t has refl within e

    table : (n t : ℕ) → table_on l words place va n ≡ Some t → IsTableOf l (home_of l place) holders place t
    table n t e = of-place l fits words (home_of l place) holders (tree _ (home-there l fits words holders tree place has)) place va n t has within (stands n t e)

    kept-word : (n t i : ℕ) → (place ≡ Space s → ⊥) → table_on l words place va n ≡ Some t → new t i ≡ words t i
    kept-word n t i apart e = new-other t i (table-other (home_of l place) t i place has (table n t e) apart)

    kept-path : (n t : ℕ) → (place ≡ Space s → ⊥) → table_on l words place va n ≡ Some t → table_on l new place va n ≡ Some t
    kept-path zero t apart e = e
    kept-path (suc n) t apart e =
        let up = above words va (start_level l place) (start_table l place va) n t e in
        below new va (start_level l place) (start_table l place va) n up.table_above (kept-path n up.table_above apart up.on)
        ∙ ap pointed (kept-word n up.table_above _ apart up.on) ∙ up.points

    -- a leaf is on no path of the space
    no-leaf : (level t entry leaf : ℕ) (flags : PteFlags) → level ≤ start_level l place → table_on l new place va (start_level l place - level) ≡ Some t
        → word_at new va level t ≡ Some entry → kind_of entry ≡ kinds.Leaf leaf flags → place ≡ Space s → ⊥
    no-leaf level t entry leaf flags low path word kind is =
        let old = back place va (start_level l place - level) t path in
        let at = stands (start_level l place - level) t old in
        let same : start_level l place - (start_level l place - level) ≡ level = omega arith in
        let slot : IsOwn l t (vpn_of va level) = subst (λ k. IsOwn l t (vpn_of va k)) same at.own in
        let mine : own t (vpn_of va level) ≡ true = elim (subst (λ p. IsTableOf l (home_of l place) holders p t) is (table (start_level l place - level) t old)) [
          | inl top ↦ by-root t _ top (slot (ap (is_root l) top ∙ root-is l s has-s))
          | inr u ↦ by-holder t _ u.held
        ] in
        let nothing : entry ≡ 0 = zero-is (words t (vpn_of va level)) entry (sym (new-own t _ mine) ∙ word) in
        zero-leaf entry leaf flags nothing kind

  -- each table on a path from the root of another space keeps its words
  upper-kept : (t va n f : ℕ) → t < length l.homes → user_slots ≤ vpn_of va (top_level l.scheme) → table_below words va (top_level l.scheme) (root_ppn l t) n ≡ Some f
      → word_at new va (top_level l.scheme - n) f ≡ word_at words va (top_level l.scheme - n) f
  upper-kept t va zero f has upper e =
      let level : top_level l.scheme ≡ top_level l.scheme - 0 = omega arith in
      let high : user_slots ≤ vpn_of va (top_level l.scheme - 0) = subst (λ k. user_slots ≤ vpn_of va k) level upper in
      subst (λ g. word_at new va (top_level l.scheme - 0) g ≡ word_at words va (top_level l.scheme - 0) g) (some-same (root_ppn l t) f e)
      (new-other (root_ppn l t) _ (upper-other t (vpn_of va (top_level l.scheme - 0)) has high))
  upper-kept t va (suc n) f has upper e = elim (cases_lt (vpn_of va (top_level l.scheme)) (first_window_slot l)) [
    | inl outside ↦
        let zero-word : word_at words va (top_level l.scheme) (root_ppn l t) ≡ Some 0 = (root-home l fits words holders tree t has).upper t (vpn_of va (top_level l.scheme)) has refl upper outside in
        let depth = path-none l.scheme words (root_ppn l t) va (suc n) f (ap pointed zero-word ∙ pointed-zero) e in
        absurd (omega (arith, depth))
    | inr inside ↦
        let on-kernel : table_on l words Kernel va n ≡ Some f =
        sym (table_below-front words va (top_level l.scheme) (root_ppn l t) (start_table l Kernel va) n (window-points l fits words holders tree t va has inside)) ∙ e
        in
        kept-word Kernel va tt inside n f (vpn_of va (top_level l.scheme - suc n)) (λ is. let bad : Kernel ≡ Space s = is in cc) on-kernel
  ]

  pub kept-below : (t va n f : ℕ) → t < length l.homes → (t ≡ s → ⊥) → table_below words va (top_level l.scheme) (root_ppn l t) n ≡ Some f
      → word_at (emptied l holders s words) va (top_level l.scheme - n) f ≡ word_at words va (top_level l.scheme - n) f
  kept-below t va n f has apart e = elim (cases_lt (vpn_of va (top_level l.scheme)) user_slots) [
    | inl user ↦ kept-word (Space t) va has user n f (vpn_of va (top_level l.scheme - n)) (λ is. apart (let same : t ≡ s = cc in same)) e
    | inr upper ↦ upper-kept t va n f has upper e
  ]

  -- the slot of a number is that of its addresses
  slot-of : (va number : ℕ) → va / level_bytes 0 ≡ number → vpn_of va (top_level l.scheme) ≡ vpn_of (number * 4096) (top_level l.scheme)
  slot-of va number of = same_vpn va (number * 4096) 0 (top_level l.scheme) (omega arith) (of ∙ sym (number-part number))

  in-user : (place : Place) (va t number : ℕ) → IsIn l place va → HangsBelow place t → vpn_of va (top_level l.scheme) ≡ vpn_of (number * 4096) (top_level l.scheme) → IsOfUser l.scheme s t number → place ≡ Space s
  in-user (Space u) va t number within hangs slot user = ap Space (hangs ∙ user.0)
  in-user Kernel va t number within hangs slot user = absurd (omega (arith, slot, within, user.1, fits.window))

  user-in : (place : Place) (va t number : ℕ) → IsIn l place va → HangsBelow place t → vpn_of va (top_level l.scheme) ≡ vpn_of (number * 4096) (top_level l.scheme) → place ≡ Space s → IsOfUser l.scheme s t number
  user-in (Space u) va t number within hangs slot is = (sym hangs ∙ (let e : u ≡ s = cc in e), omega (arith, slot, within))
  user-in Kernel va t number within hangs slot is = absurd (let bad : Kernel ≡ Space s = is in cc)

  pub empties-space : EmptiesSpace l s words (emptied l holders s words)
  empties-space t number ppn f global root = (forward, backward)
    where
      forward : Maps l.scheme (emptied l holders s words) (root_ppn l t) number ppn f global → Maps l.scheme words (root_ppn l t) number ppn f global × (IsOfUser l.scheme s t number → ⊥)
      forward mapped =
          let m = member-of l fits (emptied l holders s words) (λ f. given_back (holders f) s) tree-emptied t number ppn f global root mapped in
          let apart = no-leaf m.on.place m.va m.on.has m.on.within m.level m.table m.entry m.leaf f m.on.low m.on.on m.on.word m.on.kind in
          let old = back m.on.place m.va (start_level l m.on.place - m.level) m.table m.on.on in
          let slot = slot-of m.va number m.of_page in
          let here = leaf-carried l (emptied l holders s words) words t m.va m.level m.table m.entry m.leaf f m.on (old ∙ sym m.on.on)
          (sym (kept-word m.on.place m.va m.on.has m.on.within (start_level l m.on.place - m.level) m.table (vpn_of m.va m.level) apart old)) in (
            maps-of l fits words holders tree t number ppn f global root (moved l (emptied l holders s words) words t number ppn f global m here refl),
            λ user. apart (in-user m.on.place m.va t number m.on.within m.on.hangs slot user),
          )

      backward : Maps l.scheme words (root_ppn l t) number ppn f global × (IsOfUser l.scheme s t number → ⊥) → Maps l.scheme (emptied l holders s words) (root_ppn l t) number ppn f global
      backward p =
          let m = member-of l fits words holders tree t number ppn f global root p.0 in
          let slot = slot-of m.va number m.of_page in
          let apart : m.on.place ≡ Space s → ⊥ = λ is. p.1 (user-in m.on.place m.va t number m.on.within m.on.hangs slot is) in
          let here = leaf-carried l words (emptied l holders s words) t m.va m.level m.table m.entry m.leaf f m.on
          (kept-path m.on.place m.va m.on.has m.on.within (start_level l m.on.place - m.level) m.table apart m.on.on ∙ sym m.on.on)
          (kept-word m.on.place m.va m.on.has m.on.within (start_level l m.on.place - m.level) m.table (vpn_of m.va m.level) apart m.on.on) in
          maps-of l fits (emptied l holders s words) (λ f. given_back (holders f) s) tree-emptied t number ppn f global root
          (moved l words (emptied l holders s words) t number ppn f global m here refl)
