-- The store of an edit keeps what the board says of orders: it adds an order, marks others anew, or
-- maps nothing.
use Rattle.std.proofs.Common.{◌≡◌, ℕ, zero, suc, ◌+◌, ◌<◌, ◌≤◌, ◌||◌, ◌&&◌, Bool, true, false, cond, eqb, List, [], ◌∷◌, length, map, is_some, Some, Ok, sym, refl, ap, ◌∙◌, subst, inl, inr, arith, get_or-set_other}
use Rattle.std.specs.Prelude.{slice_index, slice_set}
use Rattle.std.proofs.lemmas.Bool.{and_from, eq-eqb, or_parts, false≢true}
use mathlib.Core.Option.{some, some-injective, some-ne-none}
use lib.ListN.{get_elem?}
use Rattle.atomic_table.specs.Table.{State}
use Rattle.pte.specs.declared.flags.PteFlags.{PteFlags}
use Rattle.pte.specs.Address.{Span, IsPage}
use Rattle.walk.specs.Maps.{Maps, LiesIn}
use Rattle.walk.specs.Pointers.{pointed}
use Rattle.spaces.specs.declared.configuration.Config.{Config}
use Rattle.spaces.specs.declared.places.Place.{Place}
use Rattle.spaces.specs.declared.places.Place.TheVariants.{Space, Kernel}
use Rattle.spaces.specs.declared.wishes.Wish.{Wish}
use Rattle.spaces.specs.declared.wishes.Wish.TheVariants.{Map, Unmap, Protect}
use Rattle.spaces.specs.Layout.{Layout, HasPlace, home_of, layout_of, root_ppn}
use Rattle.spaces.specs.Held.{Held, IsLayout, holders_of, word_index, memory_words}
use Rattle.spaces.specs.Holders.{is_same_place, unused_spare}
use Rattle.spaces.specs.Edits.{Store, edit_of, is_wrong_half, page_of, place_of, store_due, wish_end, wish_fault}
use Rattle.spaces.specs.Opening.{is_word}
use Rattle.spaces.specs.Effects.{HangsBelow, HasEffect, IsAbout, IsEdit}
use Rattle.spaces.specs.Applied.{memory_after}
use Rattle.spaces.proofs.Accepting.{unfaulted, unless-ok}
use Rattle.spaces.proofs.EditLaws.{effect-in}
use Rattle.spaces.proofs.Halves.{apart, common_part}
use Rattle.spaces.proofs.WordLists.{in-memory}
use Rattle.tlb.specs.Service.{overlaps}
use Rattle.tlb.proofs.Overlapping.{overlaps-Overlap}
use Rattle.views.specs.declared.view.Cause.{Cause}
use Rattle.views.specs.declared.view.Cause.TheVariants.{Unmapped, Other}
use Rattle.views.specs.declared.view.Order.{Order}
use Rattle.views.specs.declared.view.View.{View}
use Rattle.views.specs.Edits.{edit_over}
use Rattle.views.specs.Rule.{cell, memory_of, tables_in, Tabled}
use Rattle.shoot.specs.declared.TheConstants.{MAX_TICKETS}
use Rattle.views.specs.Orders.{Answered, dropping, lies_over, IsLive, IsUnmapped, Kept, Ordered}
use Rattle.views.specs.OrderTurns.{IsAsked, fresh, marked, noted, orders_after}
use Rattle.views.proofs.EditKeeps.{acc, live-layout, words-after, word-there}
use Rattle.views.proofs.Fills.{askable-of, page-of, unmapped-own}
use Rattle.views.proofs.OrderKeeps.{answered-later, Change, fresh-answered, Gains, gains-none, stays, stands, keeps-orders}

at_map_back : {A B : Type 0} (f : B → A) (l : List B) (i : ℕ) (a : A) → get_elem? (map f l) i ≡ some a → (b : B) × (get_elem? l i ≡ some b) × (f b ≡ a)
at_map_back f [] i a e = absurd (some-ne-none a (sym e))
at_map_back f (x ∷ xs) zero a e = (x, refl, some-injective (f x) a e)
at_map_back f (x ∷ xs) (suc i) a e = at_map_back f xs i a e

-- an edit that is due is in the right half
right-half : (l : Layout) (v : View) (wish : Wish) (store : Store) → edit_over l v wish ≡ Ok store → is_wrong_half l (place_of wish) (page_of wish) ≡ false
unfolding edit_of
right-half l v wish store e =
    (unfaulted l v.hart wish (unless-ok (wish_fault l v.hart wish) (store_due wish (unused_spare l (holders_of (memory_of l v)) v.hart) (wish_end l (memory_words (memory_of l v)) wish)) store e).0).half

asked-page : (c : Config) (wish : Wish) → IsAsked c wish → IsPage (page_of wish)
asked-page c (Map place page ppn flags) a = a
asked-page c (Unmap place page) a = page-of c place page a
asked-page c (Protect place page flags) a = page-of c place page a

-- where an edit is about a part of a page in a root of the page's place, it is over the page
about-over : (l : Layout) → IsLayout l → (place other : Place) (page span : Span) (s n : ℕ) → IsPage page → IsPage span → is_wrong_half l place page ≡ false → is_wrong_half l other span ≡ false
    → HangsBelow place s → LiesIn page n → IsAbout other span s n → (is_same_place place other && overlaps page span) ≡ true
about-over l fits (Space t) (Space u) page span s n a b p q hangs at about =
    and_from (eqb t u) (overlaps page span) (eq-eqb t u (hangs ∙ sym about.0)) ((overlaps-Overlap page span).1 (common_part page span n at about.1))
about-over l fits (Space t) Kernel page span s n a b p q hangs at about = absurd (apart l fits t page span n a b p q at about.1)
about-over l fits Kernel (Space u) page span s n a b p q hangs at about = absurd (apart l fits u span page n b a q p about.1 at)
about-over l fits Kernel Kernel page span s n a b p q hangs at about = (overlaps-Overlap page span).1 (common_part page span n at about.1)

module _ (c : Config) (id : ℕ) (v : View) (wish : Wish) (ticket : ℕ) (store : Store) (has : HasPlace (layout_of c) (place_of wish)) (asked' : IsAsked c wish)
    (is : edit_over (layout_of c) v wish ≡ Ok store)
    (s : State ℕ View) (b : Tabled c s) (o : Ordered c s) (at : get_elem? s.views id ≡ some v) where
  abbrev memory : Held
  memory = memory_of (layout_of c) v

  abbrev memory-now : Held
  memory-now = memory_after memory store

  abbrev place-in-list : ℕ
  place-in-list = word_index (layout_of c) store.ppn store.index

  abbrev fits : IsLayout (layout_of c)
  fits = live-layout c b.limits

  is-word-there : is_word (layout_of c) store.ppn store.index ≡ true
  is-word-there = word-there (layout_of c) v (b.each id v at).local wish has store is

  edit : IsEdit (layout_of c) (memory_words memory) (holders_of memory) v.hart wish store
  edit = record { layout = fits; tree = (b.each id v at).local.memory.tree; has = has; page = asked-page c wish asked'; is = is }

  effect : HasEffect (layout_of c) wish store (memory_words memory) (memory_words memory-now)
  effect =
      effect-in (layout_of c) (memory_words memory) (holders_of memory) v.hart wish store (memory_words memory-now) (λ f i. words-after (layout_of c) v (b.each id v at).local wish has store is f i) edit

  half : is_wrong_half (layout_of c) (place_of wish) (page_of wish) ≡ false
  half = right-half (layout_of c) v wish store is

  module _ (place : Place) (page : Span) (is-page : IsPage page) (its-half : is_wrong_half (layout_of c) place page ≡ false) (none : IsUnmapped (layout_of c) (memory_words memory) place page) where
    -- a page stays unmapped but for a leaf that is mapped over it
    unmapped-on : (w : Wish) → HasEffect (layout_of c) w store (memory_words memory) (memory_words memory-now) → is_wrong_half (layout_of c) (place_of w) (page_of w) ≡ false → IsPage (page_of w)
        → ((ppn : ℕ) (flags : PteFlags) → w ≡ Map (place_of w) (page_of w) ppn flags → is_some (pointed (Some store.word)) ≡ false → lies_over (Unmapped place page) (place_of w) (page_of w) ≡ false)
        → IsUnmapped (layout_of c) (memory_words memory-now) place page
    unmapped-on (Unmap p q) does h is-q apart r number ppn flags global less about m =
        none r number ppn flags global less about ((does r number ppn flags global less).0 m).0
    unmapped-on (Protect p q f) does h is-q apart r number ppn flags global less about m =
        elim ((does r number ppn flags global less).0 m) [
          | inl was ↦ none r number ppn flags global less about was.0
          | inr new ↦ none r number ppn new.2.0 global less about new.2.1
        ]
    unmapped-on (Map p q first f) does h is-q apart r number ppn flags global less about m = by (is_some (pointed (Some store.word))) refl
      where
        now : Maps c.scheme (memory_words memory-now) (root_ppn (layout_of c) r) number ppn flags global
        now = m

        by : (t : Bool) → is_some (pointed (Some store.word)) ≡ t → ⊥
        by true e = none r number ppn flags global less about ((does.0 e r number ppn flags global less).0 now)
        by false e =
            elim ((does.1 e r number ppn flags global less).0 now) [
              | inl was ↦ none r number ppn flags global less about was
              | inr new ↦ false≢true (sym (apart first f refl e) ∙ about-over (layout_of c) fits place p page q r number is-page is-q its-half h about.0 about.1 new.0)
            ]

  abbrev new-view : View
  new-view = noted c wish ticket v store

  abbrev shared-now : List ℕ
  shared-now = slice_set s.words place-in-list store.word

  abbrev views-now : List View
  views-now = slice_set s.views id new-view

  cells-stay : (a t h : ℕ) → t < MAX_TICKETS → h < length (layout_of c).spares → Change c v.hart h (slice_index s.words (cell (layout_of c) a t h)) (slice_index shared-now (cell (layout_of c) a t h)) v.entries
  cells-stay a t h few small =
      let m = in-memory (layout_of c) store.ppn store.index is-word-there in
      stays (get_or-set_other s.words place-in-list (cell (layout_of c) a t h) store.word 0 (λ (q : cell (layout_of c) a t h ≡ place-in-list). absurd (omega (arith, q, m.from, m.to, m.index))))

  gains : Gains c s v new-view
  gains = gains-none c s v new-view (λ x is. is)

  stood : (n : ℕ) (k : Order) → get_elem? v.orders n ≡ some k → Answered c shared-now views-now v k
  stood n k at-k = stands c s b o id v new-view at refl shared-now gains cells-stay id v at n k at-k

  -- an order of before, whatever its mark is now
  stood-on : (n : ℕ) (k : Order) (anew : Bool) → get_elem? v.orders n ≡ some k → Answered c shared-now views-now new-view (record k { anew = anew })
  stood-on n k anew at-k =
      let was = stood n k at-k in
      answered-later c v new-view refl k (record k { anew = anew }) refl (λ ws t. (suc t.0, t.1, omega (arith, t.2))) shared-now views-now (omega (arith, was.begun)) refl refl refl was

  stood-same : (n : ℕ) (k : Order) → get_elem? v.orders n ≡ some k → Answered c shared-now views-now new-view k
  stood-same n k at-k =
      let was = stood n k at-k in
      answered-later c v new-view refl k k refl (λ ws t. (suc t.0, t.1, omega (arith, t.2))) shared-now views-now (omega (arith, was.begun)) refl refl refl was

  -- the words since then are those of before, and those of now
  kept-on : (k k' : Order) → k'.since ≡ k.since → (place : Place) (page : Span) → Kept c v k place page → IsUnmapped (layout_of c) (memory_words memory-now) place page → Kept c new-view k' place page
  unfolding memory_words
  kept-on k k' since place page t none = record {
    has = t.has;
    at_home = t.at_home;
    right_half = t.right_half;
    unmapped = λ words is. by words is.0 is.1 is.2;
  }
    where
      by : (words : List ℕ) (age : ℕ) → get_elem? (memory-now.words ∷ v.versions) age ≡ some words → age + k'.since ≤ v.stores + 1 → IsUnmapped (layout_of c) (tables_in (layout_of c) words) place page
      by words zero is few = subst (λ ws. IsUnmapped (layout_of c) (tables_in (layout_of c) ws) place page) (some-injective memory-now.words words is) none
      by words (suc age) is few = t.unmapped words (age, is, omega (arith, few, since))

  module _ (u : Wish) (e : u ≡ wish) where
    effect-of : HasEffect (layout_of c) u store (memory_words memory) (memory_words memory-now)
    effect-of = subst (λ z. HasEffect (layout_of c) z store (memory_words memory) (memory_words memory-now)) (sym e) effect

    half-of : is_wrong_half (layout_of c) (place_of u) (page_of u) ≡ false
    half-of = subst (λ z. is_wrong_half (layout_of c) (place_of z) (page_of z) ≡ false) (sym e) half

    page-is : IsPage (page_of u)
    page-is = subst (λ z. IsPage (page_of z)) (sym e) (asked-page c wish asked')

    still : (n : ℕ) (k : Order) → get_elem? v.orders n ≡ some k → (place : Place) (page : Span) → IsLive k place page
        → ((ppn : ℕ) (flags : PteFlags) → u ≡ Map (place_of u) (page_of u) ppn flags → is_some (pointed (Some store.word)) ≡ false → lies_over (Unmapped place page) (place_of u) (page_of u) ≡ false)
        → IsUnmapped (layout_of c) (memory_words memory-now) place page
    unfolding memory_words
    still n k at-k place page live alone =
        unmapped-on place page (page-of c place page (askable-of c s.words s.views v k place page (o.answered id v at n k at-k) live)) (o.kept id v at n k at-k place page live).right_half
        (unmapped-own c s b o id v at n k at-k place page live) u effect-of half-of page-is alone

  removes : (p : Place) (q : Span) → Unmap p q ≡ wish → HasEffect (layout_of c) (Unmap p q) store (memory_words memory) (memory_words memory-now)
  removes p q e = subst (λ z. HasEffect (layout_of c) z store (memory_words memory) (memory_words memory-now)) (sym e) effect

  fresh-kept : (p : Place) (q : Span) → Unmap p q ≡ wish → Kept c new-view (fresh ticket (Unmapped p q) (v.stores + 1)) p q
  unfolding memory_words
  fresh-kept p q e = record {
    has = subst (λ z. HasPlace (layout_of c) (place_of z)) (sym e) has;
    at_home = subst (λ z. home_of (layout_of c) (place_of z) ≡ v.hart) (sym e) (sym (acc (layout_of c) v (b.each id v at).local wish has store is).home);
    right_half = half-of (Unmap p q) e;
    unmapped = λ words since. by words since.0 since.1 since.2;
  }
    where
      none : IsUnmapped (layout_of c) (memory_words memory-now) p q
      none r number ppn flags global less about m = ((removes p q e r number ppn flags global less).0 m).1 about

      by : (words : List ℕ) (age : ℕ) → get_elem? (memory-now.words ∷ v.versions) age ≡ some words → age + (v.stores + 1) ≤ v.stores + 1 → IsUnmapped (layout_of c) (tables_in (layout_of c) words) p q
      by words zero is few = subst (λ ws. IsUnmapped (layout_of c) (tables_in (layout_of c) ws) p q) (some-injective memory-now.words words is) none
      by words (suc age) is few = absurd (omega (arith, few))

  mine-by : (u : Wish) → u ≡ wish → (n : ℕ) (k : Order) → get_elem? (orders_after c u ticket store (v.stores + 1) v.orders) n ≡ some k → (place : Place) (page : Span) → IsLive k place page
      → Kept c new-view k place page
  mine-by (Map p q first f) e n k at' place page live = by (is_some (pointed (Some store.word))) refl at'
    where
      by : (t : Bool) → is_some (pointed (Some store.word)) ≡ t → get_elem? (cond t v.orders (map (marked p q) v.orders)) n ≡ some k → Kept c new-view k place page
      by true t here =
          kept-on k k refl place page (o.kept id v at n k here place page live)
          (still (Map p q first f) e n k here place page live (λ ppn flags _ no. absurd (false≢true (sym no ∙ t))))
      by false t here =
          let r = at_map_back (marked p q) v.orders n k here in
          subst (λ (z : Order). IsLive z place page → Kept c new-view z place page) r.2
          (λ live'.
          let marks = or_parts (lies_over r.0.cause p q) r.0.anew live'.1 in
          let was : IsLive r.0 place page = (live'.0, marks.1) in
          kept-on r.0 (marked p q r.0) refl place page (o.kept id v at n r.0 r.1 place page was)
          (still (Map p q first f) e n r.0 r.1 place page was (λ ppn flags _ no. subst (λ (z : Cause). lies_over z p q ≡ false) live'.0 marks.0)))
          live
  mine-by (Unmap p q) e zero k at' place page live =
      subst (λ (z : Order). IsLive z place page → Kept c new-view z place page) (some-injective (fresh ticket (Unmapped p q) (v.stores + 1)) k at')
      (λ live'.
      let cause : Unmapped p q ≡ Unmapped place page = live'.0 in
      let same-place : p ≡ place = cc in
      let same-page : q ≡ page = cc in
      subst (λ z. Kept c new-view (fresh ticket (Unmapped p q) (v.stores + 1)) place z) same-page
      (subst (λ z. Kept c new-view (fresh ticket (Unmapped p q) (v.stores + 1)) z q) same-place (fresh-kept p q e)))
      live
  mine-by (Unmap p q) e (suc n) k at' place page live =
      kept-on k k refl place page (o.kept id v at n k at' place page live) (still (Unmap p q) e n k at' place page live (λ ppn flags bad. absurd (cc)))
  mine-by (Protect p q f) e zero k at' place page live =
      absurd
      (let one = some-injective (fresh ticket (Other (dropping c p q)) (v.stores + 1)) k at' in let bad : Other (dropping c p q) ≡ Unmapped place page = ap (λ (z : Order). z.cause) one ∙ live.0 in cc)
  mine-by (Protect p q f) e (suc n) k at' place page live =
      kept-on k k refl place page (o.kept id v at n k at' place page live) (still (Protect p q f) e n k at' place page live (λ ppn flags bad. absurd (cc)))

  answers-by : (u : Wish) → u ≡ wish → (n : ℕ) (k : Order) → get_elem? (orders_after c u ticket store (v.stores + 1) v.orders) n ≡ some k → Answered c shared-now views-now new-view k
  answers-by (Map p q first f) e n k at' = by (is_some (pointed (Some store.word))) at'
    where
      by : (t : Bool) → get_elem? (cond t v.orders (map (marked p q) v.orders)) n ≡ some k → Answered c shared-now views-now new-view k
      by true here = stood-same n k here
      by false here =
          let r = at_map_back (marked p q) v.orders n k here in
          subst (λ (z : Order). Answered c shared-now views-now new-view z) r.2 (stood-on n r.0 (lies_over r.0.cause p q || r.0.anew) r.1)
  answers-by (Unmap p q) e zero k at' =
      subst (λ (z : Order). Answered c shared-now views-now new-view z) (some-injective (fresh ticket (Unmapped p q) (v.stores + 1)) k at')
      (fresh-answered c shared-now views-now new-view ticket (Unmapped p q) (subst (IsAsked c) (sym e) asked'))
  answers-by (Unmap p q) e (suc n) k at' = stood-same n k at'
  answers-by (Protect p q f) e zero k at' =
      subst (λ (z : Order). Answered c shared-now views-now new-view z) (some-injective (fresh ticket (Other (dropping c p q)) (v.stores + 1)) k at')
      (fresh-answered c shared-now views-now new-view ticket (Other (dropping c p q)) (subst (IsAsked c) (sym e) asked'))
  answers-by (Protect p q f) e (suc n) k at' = stood-same n k at'

  pub edit-orders : Ordered c record { words = shared-now; homes = s.homes; views = views-now }
  edit-orders = keeps-orders c s b o id v new-view at refl shared-now gains cells-stay (o.window id v at) refl (answers-by wish refl) (mine-by wish refl) s.homes
