-- What the tables of a lawful history keep: which pages are global, the window, and a page until it
-- is edited once more.
use Rattle.std.proofs.Common.{◌≡◌, ℕ, ◌*◌, ◌≤◌, ◌<◌, Bool, true, false, cond, ◌&&◌, ◌||◌, ◌⊎◌, eqb, List, [], ◌∷◌, length, Option, Some, None, refl, ap, sym, ◌∙◌, subst, inl, inr, arith}
use Rattle.std.proofs.lemmas.Bool.{or_parts, and_parts, and_from, eqb-true, eq-eqb, false≢true, true≢false}
use Rattle.pte.specs.Address.{Span, bytes_of, top_level, vpn_of}
use Rattle.pte.specs.declared.address.PageSize.TheVariants.{Kib4}
use Rattle.pte.specs.declared.address.What.{What}
use Rattle.pte.specs.declared.flags.PteFlags.{PteFlags}
use Rattle.walk.specs.Leads.{Tables}
use Rattle.walk.specs.Maps.{Maps, LiesIn}
use Rattle.spaces.specs.declared.places.Place.{Place}
use Rattle.spaces.specs.declared.places.Place.TheVariants.{Space, Kernel}
use Rattle.spaces.specs.Layout.{first_window_slot, root_ppn, user_slots}
use Rattle.spaces.specs.Effects.{IsAbout, RemovesPage, EmptiesSpace, IsOfUser}
use Rattle.spaces.specs.Edits.{is_wrong_half}
use Rattle.pte.specs.declared.address.What.TheVariants.{PageOf, SpaceOf}
use Rattle.shoot.specs.HartSet.{harts_in, harts_where}
use Rattle.spaces.proofs.EditLaws.{global-window}
use Rattle.tlb.specs.Service.{overlaps}
use Rattle.history.specs.Setup.{Setup, is_hart}
use Rattle.history.specs.declared.event.Event.{Event}
use Rattle.history.specs.declared.event.Event.TheVariants.{Unmap, Protect, Flush, Retire, Reclaim, Create}
use Rattle.history.specs.declared.reply.Reply.{Reply}
use Rattle.history.specs.declared.reply.Reply.TheVariants as reply
use Rattle.history.specs.Turns.{Turn, History, is_ok, is_leaf, is_opened, opened_ticket}
use Rattle.history.specs.Orders.{Order, Cause, Unmapped, Protected, Flushed, scope_request, order_with, opened_order, order_at}
use Rattle.history.specs.Tables.{words_of}
use Rattle.history.specs.Spaces.{Live, Retires, Free, status_of, is_free, asid_of, asid_in, holder_of}
use Rattle.history.specs.Due.{is_place, due, Lawful}
use Rattle.history.specs.Staleness.{is_over, is_over_order, is_same_asid, HasAsid, Reaches, anew_after, is_mapped_anew, superseded_after, is_superseded, IsChange}
use Rattle.laws.specs.Kept.{FreeMapsNothing, HasPage, HavePages, IsSetup, StaysMapped, StaysUnmapped, UserPagesAreNotGlobal, WindowIsShared}
use Rattle.laws.proofs.Tools.{by_test}
use Rattle.laws.proofs.Accepted.{turn_of, space_is}
use Rattle.laws.proofs.Asids.{asids_differ, kept_cases}
use Rattle.laws.proofs.Orders.{order_made}
use Rattle.history.proofs.OpenOrders.{order_cases}
use Rattle.laws.proofs.Causes.{IsAsked, IsAt, IsOfPlace, follows, follows_change}
use Rattle.laws.proofs.TreeKept.{tree}
use Rattle.laws.proofs.Clearing.{anew_step}
use Rattle.spaces.proofs.Halves.{half_end, in_user, in_window, low_slot, high_slot}
use Rattle.laws.proofs.Halves.{about_over}
use Rattle.laws.proofs.Changing.{IsEdited, Changes, keeps, adds, removes, changes_flags, empties, opening_maps_nothing, unmap_removes, reclaim_empties, changes}

opened_is : (r : Reply) (t : ℕ) → opened_ticket r ≡ Some t → is_opened r ≡ true
opened_is r t e = by_opened r e
  where
    by_opened : (r : Reply) → opened_ticket r ≡ Some t → is_opened r ≡ true
    by_opened (reply.Opened n) e = refl
    by_opened _ e = absurd (cc (e))

-- an order was opened with its cause
with_cause : (hart : ℕ) (named : List Bool) (what : What) (cause : Cause) (t : Option ℕ) (order : Order) → order_with hart named what cause t ≡ Some order
    → (ticket : ℕ) × (t ≡ Some ticket) × (cause ≡ order.cause)
with_cause hart named what cause t order e =
    let made = order_made hart named what cause t order e in (made.0, made.1, ap (λ (o : Order). o.cause) made.2)

-- a test of a page that the order is about
over_change : (cause : Cause) (of other : Option ℕ) (page span : Span) → IsChange cause of page → (is_same_asid of other && overlaps page span) ≡ true → is_over cause other span ≡ true
over_change cause of other page span change t =
    elim change [
      | inl e ↦ subst (λ (c : Cause). is_over c other span ≡ true) (sym e) t
      | inr e ↦ subst (λ (c : Cause). is_over c other span ≡ true) (sym e) t
    ]

not_both : (b over : Bool) → b ≡ true → (b && over) ≡ false → over ≡ true → ⊥
not_both true over e none t = false≢true (sym none ∙ t)
not_both false over e none t = false≢true e

module _ (C : Setup) (setup : IsSetup C) where
  in_layout : (s : ℕ) → s < length C.asids → s < length C.layout.homes
  in_layout s there = subst (λ n. s < n) setup.homes there

  -- no page of the user's half is global: what is global is in the window
  pub user_plain : (H : History) → Lawful C H → HavePages H → UserPagesAreNotGlobal C H
  user_plain H l has = λ s space page n ppn flags is half there at m.
      let low = low_slot C.layout setup.layout s page n is half at in
      let high : first_window_slot C.layout ≤ vpn_of (n * bytes_of Kib4) (top_level C.layout.scheme) =
      (global-window C.layout (words_of C H) (holder_of H) setup.layout (tree C setup.layout setup.homes H l has) space n ppn flags true (in_layout space there) m).0 refl in
      omega (arith, setup.layout.window, low, high)

  -- the window is the same in all roots
  module _ (s t n : ℕ) (there_s : s < length C.layout.homes) (there_t : t < length C.layout.homes) (high : half_end C.layout.scheme ≤ n) (upper : user_slots ≤ vpn_of (n * bytes_of Kib4) (top_level C.layout.scheme)) where
    about_each : (H : History) (a b : ℕ) (place : Place) (page : Span) → IsEdited C H place page → IsAbout place page a n → IsAbout place page b n
    about_each H a b (Space u) page e about = let low = in_user C.layout setup.layout u page n e.0.is_page e.0.right_half about.1 in absurd (omega arith)
    about_each H a b Kernel page e about = (tt, about.1)

    shared_step : (H : History) (event : Event) (r : Reply) (old new : Tables) → Changes C H r old new event
        → ((ppn : ℕ) (flags : PteFlags) (global : Bool) → Maps C.layout.scheme old (root_ppn C.layout s) n ppn flags global → Maps C.layout.scheme old (root_ppn C.layout t) n ppn flags global)
        → (ppn : ℕ) (flags : PteFlags) (global : Bool) → Maps C.layout.scheme new (root_ppn C.layout s) n ppn flags global → Maps C.layout.scheme new (root_ppn C.layout t) n ppn flags global
    shared_step H event r old new (keeps _ same) each ppn flags global m = (same t n ppn flags global there_t).1 (each ppn flags global ((same s n ppn flags global there_s).0 m))
    shared_step H event r old new (adds hart place page first f leaf e does) each ppn flags global m =
        (does t n ppn flags global there_t).1
        (elim ((does s n ppn flags global there_s).0 m) [
          | inl was ↦ inl (each ppn flags global was)
          | inr new ↦ inr (about_each H s t place page e new.0, new.1, new.2, new.3)
        ])
    shared_step H event r old new (removes hart place page named opened e does) each ppn flags global m =
        let was = (does s n ppn flags global there_s).0 m in
        (does t n ppn flags global there_t).1 (each ppn flags global was.0, λ about. was.1 (about_each H t s place page e about))
    shared_step H event r old new (changes_flags hart place page f named opened e does) each ppn flags global m =
        (does t n ppn flags global there_t).1
        (elim ((does s n ppn flags global there_s).0 m) [
          | inl was ↦ inl (each ppn flags global was.0, λ about. was.1 (about_each H t s place page e about))
          | inr new ↦ inr (about_each H s t place page e new.0, new.1, (new.2.0, each ppn new.2.0 global new.2.1))
        ])
    shared_step H event r old new (empties hart space ok f does) each ppn flags global m =
        (does t n ppn flags global there_t).1 (each ppn flags global ((does s n ppn flags global there_s).0 m).0, λ user. let low = user.1 in omega (arith, low, upper))

  pub window_shared : (H : History) → Lawful C H → HavePages H → WindowIsShared C H
  window_shared [] l has = λ page s t n ppn flags global is half there_s there_t at m.
      absurd (opening_maps_nothing C.layout setup.layout (root_ppn C.layout s) n ppn flags global m)
  window_shared (turn ∷ H) l has = λ page s t n ppn flags global is half there_s there_t at.
      shared_step s t n (in_layout s there_s) (in_layout t there_t) (in_window C.layout setup.layout page n is half at) (high_slot C.layout setup.layout page n is half at) H turn.event turn.reply (words_of C H) (words_of C (turn ∷ H))
      (changes C setup H l.0 has.0 turn.event turn.reply l.1 has.1)
      (λ ppn flags global. window_shared H l.0 has.0 page s t n ppn flags global is half there_s there_t at) ppn flags global

  -- a page of an order, until an edit is over it
  module _ (H : History) (k : ℕ) (order : Order) (of : Option ℕ) (page : Span) (s n : ℕ) (is : order_at C H k ≡ Some order) (change : IsChange order.cause of page)
      (asked : IsOfPlace C of page order.what) (there : s < length C.layout.homes) (reach : Reaches C H of s) (at : LiesIn page n) where
    untouched : (other : Place) (span : Span) (b old : Bool) → IsEdited C H other span → b ≡ true → ((b && is_over_order (order_at C H k) (asid_in C H other) span) || old) ≡ false
        → IsAbout other span s n → ⊥
    untouched other span b old e t fresh about =
        not_both b (is_over_order (order_at C H k) (asid_in C H other) span) t (or_parts (b && is_over_order (order_at C H k) (asid_in C H other) span) old fresh).0
        (ap (λ (o : Option Order). is_over_order o (asid_in C H other) span) is
        ∙ over_change order.cause of (asid_in C H other) page span change
        (about_over C setup.layout H of asked.place other page span s n asked.at asked.asked e.0 reach at about))

    -- the page is not of a space that is reclaimed by the turn, as it is reached after it
    not_emptied : (hart space : ℕ) (r : Reply) → is_ok r ≡ true → Reaches C (turn_of (Reclaim hart space) r ∷ H) of s → IsOfUser C.layout.scheme space s n → ⊥
    not_emptied hart space r ok after user = by_place asked.place asked.at asked.asked
      where
        by_place : (place : Place) → IsAt of place → IsAsked C place page → ⊥
        by_place (Space t) a asks =
            let has : HasAsid C (turn_of (Reclaim hart space) r ∷ H) s a.0 = subst (λ (o : Option ℕ). Reaches C (turn_of (Reclaim hart space) r ∷ H) o s) a.1 after in
            let now : is_free (cond (is_ok r && eqb space s) Free (status_of H s)) ≡ true = rw (and_from (is_ok r) (eqb space s) ok (eq-eqb space s (sym user.0))) refl in
            false≢true (sym has.kept ∙ now)
        by_place Kernel a asks = let high = high_slot C.layout setup.layout page n asks.is_page asks.right_half at in let low = user.1 in omega (arith, high, low)

    mapped_step : (event : Event) (r : Reply) (old new : Tables) → Changes C H r old new event → superseded_after C event r H k (is_superseded C H k) ≡ false
        → Reaches C (turn_of event r ∷ H) of s
        → (ppn : ℕ) (flags : PteFlags) (global : Bool) → Maps C.layout.scheme old (root_ppn C.layout s) n ppn flags global → Maps C.layout.scheme new (root_ppn C.layout s) n ppn flags global
    mapped_step event r old new (keeps _ same) fresh after ppn flags global m = (same s n ppn flags global there).1 m
    mapped_step event r old new (adds hart other span first f leaf e does) fresh after ppn flags global m = (does s n ppn flags global there).1 (inl m)
    mapped_step event r old new (removes hart other span named opened e does) fresh after ppn flags global m =
        (does s n ppn flags global there).1 (m, untouched other span (is_opened r) (is_superseded C H k) e opened fresh)
    mapped_step event r old new (changes_flags hart other span f named opened e does) fresh after ppn flags global m =
        (does s n ppn flags global there).1 (inl (m, untouched other span (is_opened r) (is_superseded C H k) e opened fresh))
    mapped_step event r old new (empties hart space ok f does) fresh after ppn flags global m =
        (does s n ppn flags global there).1 (m, not_emptied hart space r ok after)

    unmapped_step : (event : Event) (r : Reply) (old new : Tables) → Changes C H r old new event → anew_after C event r H k (is_mapped_anew C H k) ≡ false
        → ((ppn : ℕ) (flags : PteFlags) (global : Bool) → ¬ Maps C.layout.scheme old (root_ppn C.layout s) n ppn flags global)
        → (ppn : ℕ) (flags : PteFlags) (global : Bool) → ¬ Maps C.layout.scheme new (root_ppn C.layout s) n ppn flags global
    unmapped_step event r old new (keeps _ same) fresh none ppn flags global m = none ppn flags global ((same s n ppn flags global there).0 m)
    unmapped_step event r old new (adds hart other span first f leaf e does) fresh none ppn flags global m =
        elim ((does s n ppn flags global there).0 m) [
          | inl was ↦ none ppn flags global was
          | inr new ↦ untouched other span (is_leaf r) (is_mapped_anew C H k) e leaf fresh new.0
        ]
    unmapped_step event r old new (removes hart other span named opened e does) fresh none ppn flags global m =
        none ppn flags global ((does s n ppn flags global there).0 m).0
    unmapped_step event r old new (changes_flags hart other span f named opened e does) fresh none ppn flags global m =
        elim ((does s n ppn flags global there).0 m) [ inl was ↦ none ppn flags global was.0 | inr new ↦ none ppn new.2.0 global new.2.1 ]
    unmapped_step event r old new (empties hart space ok f does) fresh none ppn flags global m = none ppn flags global ((does s n ppn flags global there).0 m).0

  reach_there : (H : History) (of : Option ℕ) (s : ℕ) → Reaches C H of s → s < length C.layout.homes
  reach_there H (Some asid) s reach = in_layout s reach.there
  reach_there H None s reach = in_layout s reach

  pub stays_mapped : (turn : Turn) (H : History) → Lawful C (turn ∷ H) → HavePages (turn ∷ H) → StaysMapped C turn H
  stays_mapped turn H l has = λ k order of page is change fresh root n ppn flags global reached after at m.
      let asked = follows_change C order.cause of page order.what change (follows C setup.homes H k order l.0 has.0 is) in
      let there = reach_there H of reached.0 reached.1 in
      let same_root : Reaches C (turn ∷ H) of reached.0 = same_reach H turn of after.0 reached.0 (reach_there (turn ∷ H) of after.0 after.1) there (sym after.2 ∙ reached.2) after.1 in
      subst (λ (x : ℕ). Maps C.layout.scheme (words_of C (turn ∷ H)) x n ppn flags global) (sym reached.2)
      (mapped_step H k order of page reached.0 n is change asked there reached.1 at turn.event turn.reply (words_of C H) (words_of C (turn ∷ H))
      (changes C setup H l.0 has.0 turn.event turn.reply l.1 has.1) fresh same_root ppn flags global
      (subst (λ (x : ℕ). Maps C.layout.scheme (words_of C H) x n ppn flags global) reached.2 m))
    where
      same_reach : (H : History) (turn : Turn) (of : Option ℕ) (a b : ℕ) → a < length C.layout.homes → b < length C.layout.homes → root_ppn C.layout a ≡ root_ppn C.layout b
          → Reaches C (turn ∷ H) of a → Reaches C (turn ∷ H) of b
      same_reach H turn of a b la lb e r = let same : a ≡ b = omega (arith, e) in subst (λ (x : ℕ). Reaches C (turn ∷ H) of x) same r

  -- a free space maps nothing in the user's half
  free_cases : (event : Event) (r : Reply) (H : History) (s : ℕ) → is_free (status_of (turn_of event r ∷ H) s) ≡ true
      → (is_free (status_of H s) ≡ true) ⊎ ((hart : ℕ) × (event ≡ Reclaim hart s) × (is_ok r ≡ true))
  free_cases (Retire hart space) r H s e =
      by_test (λ v. is_free (cond v (Retires (length H)) (status_of H s)) ≡ true → (is_free (status_of H s) ≡ true) ⊎ ((b : ℕ) × (Retire hart space ≡ Reclaim b s) × (is_ok r ≡ true))) (is_opened r && eqb space s)
      (λ _ q. absurd (false≢true q)) (λ _ q. inl q) e
  free_cases (Reclaim hart space) r H s e =
      by_test (λ v. is_free (cond v Free (status_of H s)) ≡ true → (is_free (status_of H s) ≡ true) ⊎ ((b : ℕ) × (Reclaim hart space ≡ Reclaim b s) × (is_ok r ≡ true))) (is_ok r && eqb space s)
      (λ z _. let p = and_parts (is_ok r) (eqb space s) z in inr (hart, ap (Reclaim hart) (eqb-true space s p.1), p.0)) (λ _ q. inl q) e
  free_cases (Create hart space asid) r H s e =
      by_test (λ v. is_free (cond v Live (status_of H s)) ≡ true → (is_free (status_of H s) ≡ true) ⊎ ((b : ℕ) × (Create hart space asid ≡ Reclaim b s) × (is_ok r ≡ true))) (is_ok r && eqb space s)
      (λ _ q. absurd (false≢true q)) (λ _ q. inl q) e
  free_cases _ r H s e = inl e

  module _ (H : History) (s n : ℕ) (there : s < length C.layout.homes) (free : is_free (status_of H s) ≡ true) (low : vpn_of (n * bytes_of Kib4) (top_level C.layout.scheme) < user_slots) where
    not_about : (other : Place) (span : Span) → IsEdited C H other span → IsAbout other span s n → ⊥
    not_about (Space u) span e about = true≢false (sym free ∙ ap (λ x. is_free (status_of H x)) (sym about.0) ∙ (space_is C H u e.1).1)
    not_about Kernel span e about = let high = high_slot C.layout setup.layout span n e.0.is_page e.0.right_half about.1 in omega (arith, high, low)

    free_step : (event : Event) (r : Reply) (old new : Tables) → Changes C H r old new event
        → ((ppn : ℕ) (flags : PteFlags) (global : Bool) → ¬ Maps C.layout.scheme old (root_ppn C.layout s) n ppn flags global)
        → (ppn : ℕ) (flags : PteFlags) (global : Bool) → ¬ Maps C.layout.scheme new (root_ppn C.layout s) n ppn flags global
    free_step event r old new (keeps _ same) none ppn flags global m = none ppn flags global ((same s n ppn flags global there).0 m)
    free_step event r old new (adds hart other span first f leaf e does) none ppn flags global m =
        elim ((does s n ppn flags global there).0 m) [ inl was ↦ none ppn flags global was | inr new ↦ not_about other span e new.0 ]
    free_step event r old new (removes hart other span named opened e does) none ppn flags global m = none ppn flags global ((does s n ppn flags global there).0 m).0
    free_step event r old new (changes_flags hart other span f named opened e does) none ppn flags global m =
        elim ((does s n ppn flags global there).0 m) [ inl was ↦ none ppn flags global was.0 | inr new ↦ none ppn new.2.0 global new.2.1 ]
    free_step event r old new (empties hart space ok f does) none ppn flags global m = none ppn flags global ((does s n ppn flags global there).0 m).0

  pub free_maps_nothing : (H : History) → Lawful C H → HavePages H → FreeMapsNothing C H
  free_maps_nothing [] l has = λ s page n ppn flags global there free. absurd (false≢true free)
  free_maps_nothing (turn ∷ H) l has = λ s page n ppn flags global there free is half at m.
      let low = low_slot C.layout setup.layout s page n is half at in
      elim (free_cases turn.event turn.reply H s free) [
        | inl old ↦ free_step H s n (in_layout s there) old low turn.event turn.reply (words_of C H) (words_of C (turn ∷ H)) (changes C setup H l.0 has.0 turn.event turn.reply l.1 has.1)
            (λ ppn flags global was. free_maps_nothing H l.0 has.0 s page n ppn flags global there old is half at was) ppn flags global m
        | inr now ↦
            let does : EmptiesSpace C.layout s (words_of C H) (words_of C (turn_of (Reclaim now.0 s) turn.reply ∷ H)) =
            reclaim_empties C setup H l.0 has.0 now.0 s turn.reply (l.1 ∙ ap (due C H) now.1) now.2
            in
            let same : Maps C.layout.scheme (words_of C (turn_of (Reclaim now.0 s) turn.reply ∷ H)) (root_ppn C.layout s) n ppn flags global =
            subst (λ (event : Event). Maps C.layout.scheme (words_of C (turn_of event turn.reply ∷ H)) (root_ppn C.layout s) n ppn flags global) now.1 m
            in
            ((does s n ppn flags global (in_layout s there)).0 same).1 (refl, low)
      ]

  -- the turn that unmaps a page leaves nothing of it
  removed : (place : Place) (page : Span) (H : History) (old new : Tables) (s : ℕ) → Lawful C H → is_place C H place ≡ true → RemovesPage C.layout place page old new → Reaches C H (asid_in C H place) s
      → (n ppn : ℕ) (flags : PteFlags) (global : Bool) → LiesIn page n → ¬ Maps C.layout.scheme new (root_ppn C.layout s) n ppn flags global
  removed (Space t) page H old new s l there does reach n ppn flags global at m =
      let has_t = space_is C H t there in
      let same : t ≡ s = asids_differ C setup H l t s has_t.0 reach.there has_t.1 reach.kept (sym reach.same) in
      ((does s n ppn flags global (in_layout s reach.there)).0 m).1 (same, at)
  removed Kernel page H old new s l there does reach n ppn flags global at m = ((does s n ppn flags global (in_layout s reach)).0 m).1 (tt, at)

  gone : (event : Event) (r : Reply) (H : History) (order : Order) (of : Option ℕ) (page : Span) → Lawful C H → HavePages H → r ≡ due C H event → HasPage event
      → opened_order C event r H ≡ Some order → order.cause ≡ Unmapped of page
      → (s n ppn : ℕ) (flags : PteFlags) (global : Bool) → Reaches C (turn_of event r ∷ H) of s → LiesIn page n → ¬ Maps C.layout.scheme (words_of C (turn_of event r ∷ H)) (root_ppn C.layout s) n ppn flags global
  gone (Unmap hart other span named) r H order of page l pages d has is cause s n ppn flags global reach at =
      let w = with_cause hart (harts_in named) (PageOf span (asid_in C H other)) (Unmapped (asid_in C H other) span) (opened_ticket r) order is in
      let z = opened_is r w.0 w.1 in
      let u = unmap_removes C setup H l pages hart other span named r d has z in
      let same : Unmapped (asid_in C H other) span ≡ Unmapped of page = w.2 ∙ cause in
      let same_of : of ≡ asid_in C H other = cc in
      let same_page : span ≡ page = cc in
      let part_of : LiesIn span n = subst (λ (p : Span). LiesIn p n) (sym same_page) at in
      let reached : Reaches C H (asid_in C H other) s = subst (λ (o : Option ℕ). Reaches C H o s) same_of (unmap_reach of reach) in
      removed other span H (words_of C H) (words_of C (turn_of (Unmap hart other span named) r ∷ H)) s l u.0.1 u.1 reached n ppn flags global part_of
    where
      unmap_reach : (of : Option ℕ) → Reaches C (turn_of (Unmap hart other span named) r ∷ H) of s → Reaches C H of s
      unmap_reach (Some asid) reach = record { there = reach.there; kept = reach.kept; same = reach.same }
      unmap_reach None reach = reach
  gone (Protect hart other span f named) r H order of page l pages d has is cause s n ppn flags global reach at =
      let w = with_cause hart (harts_in named) (PageOf span (asid_in C H other)) (Protected (asid_in C H other) span) (opened_ticket r) order is in
      let bad : Protected (asid_in C H other) span ≡ Unmapped of page = w.2 ∙ cause in absurd (cc (bad))
  gone (Flush hart scope named) r H order of page l pages d has is cause s n ppn flags global reach at =
      let w = with_cause hart (harts_in named) (scope_request C H scope) Flushed (opened_ticket r) order is in
      let bad : Flushed ≡ Unmapped of page = w.2 ∙ cause in absurd (cc (bad))
  gone (Retire hart space) r H order of page l pages d has is cause s n ppn flags global reach at =
      let w = with_cause hart (harts_where (is_hart C)) (SpaceOf (asid_of C H space)) Flushed (opened_ticket r) order is in
      let bad : Flushed ≡ Unmapped of page = w.2 ∙ cause in absurd (cc (bad))
  gone _ r H order of page l pages d has is cause s n ppn flags global reach at = absurd (cc (is))

  -- a space through which a page is reached was so before the turn, or was free
  reached_cases : (event : Event) (r : Reply) (H : History) (of : Option ℕ) (s : ℕ) → r ≡ due C H event → Reaches C (turn_of event r ∷ H) of s
      → Reaches C H of s ⊎ ((is_free (status_of H s) ≡ true) × ((asid : ℕ) × (of ≡ Some asid)) × ((hart a : ℕ) × (event ≡ Create hart s a)))
  reached_cases event r H (Some asid) s d reach = elim (kept_cases C event r H s d reach.kept) [
    | inl was ↦ inl (record { there = reach.there; kept = was.kept; same = sym was.same ∙ reach.same })
    | inr new ↦ inr (new.found.free, (asid, refl), (new.hart, new.asid, new.is))
  ]
  reached_cases event r H None s d reach = inl reach

  create_keeps : (event : Event) (r : Reply) (H : History) (hart s a : ℕ) (root n ppn : ℕ) (flags : PteFlags) (global : Bool) → event ≡ Create hart s a
      → Maps C.layout.scheme (words_of C (turn_of event r ∷ H)) root n ppn flags global → Maps C.layout.scheme (words_of C H) root n ppn flags global
  create_keeps event r H hart s a root n ppn flags global is m = subst (λ (e : Event). Maps C.layout.scheme (words_of C (turn_of e r ∷ H)) root n ppn flags global) is m

  user_half : (of : Option ℕ) (page : Span) (what : What) (asid : ℕ) (s : ℕ) → of ≡ Some asid → IsOfPlace C of page what → is_wrong_half C.layout (Space s) page ≡ false
  user_half of page what asid s is asked = by_place asked.place asked.at asked.asked
    where
      by_place : (place : Place) → IsAt of place → IsAsked C place page → is_wrong_half C.layout (Space s) page ≡ false
      by_place (Space t) at a = a.right_half
      by_place Kernel at a = let bad : Some asid ≡ None = sym is ∙ at in absurd (cc (bad))

  pub stays_unmapped : (H : History) → Lawful C H → HavePages H → StaysUnmapped C H
  stays_unmapped [] l has = λ k order of page is. absurd (let bad : None ≡ Some order = is in cc)
  stays_unmapped (turn ∷ H) l has = λ k order of page is cause fresh root n ppn flags global reached at.
      elim (order_cases (opened_order C turn.event turn.reply H) (length H) k (order_at C H k) order is) [
        | inl new ↦ λ m. gone turn.event turn.reply H order of page l.0 has.0 l.1 has.1 new.1 cause reached.0 n ppn flags global reached.1 at
            (subst (λ (x : ℕ). Maps C.layout.scheme (words_of C (turn ∷ H)) x n ppn flags global) reached.2 m)
        | inr old ↦
            let asked = follows_change C order.cause of page order.what (inl cause) (follows C setup.homes H k order l.0 has.0 old) in
            let there = reach_there (turn ∷ H) of reached.0 reached.1 in
            let before = anew_step C turn.event turn.reply H k (is_mapped_anew C H k) fresh in
            λ m. let here : Maps C.layout.scheme (words_of C (turn ∷ H)) (root_ppn C.layout reached.0) n ppn flags global = subst (λ (x : ℕ). Maps C.layout.scheme (words_of C (turn ∷ H)) x n ppn flags global) reached.2 m in
            elim (reached_cases turn.event turn.reply H of reached.0 l.1 reached.1) [
              | inl reach ↦ unmapped_step H k order of page reached.0 n old (inl cause) asked there reach at turn.event turn.reply (words_of C H) (words_of C (turn ∷ H))
                  (changes C setup H l.0 has.0 turn.event turn.reply l.1 has.1) fresh
                  (λ ppn flags global w. stays_unmapped H l.0 has.0 k order of page old cause before (root_ppn C.layout reached.0) n ppn flags global (reached.0, reach, refl) at w)
                  ppn flags global here
              | inr created ↦
                  free_maps_nothing H l.0 has.0 reached.0 page n ppn flags global (subst (λ x. reached.0 < x) (sym setup.homes) there) created.0
                  asked.asked.is_page (user_half of page order.what created.1.0 reached.0 created.1.1 asked) at
                  (create_keeps turn.event turn.reply H created.2.0 reached.0 created.2.1 (root_ppn C.layout reached.0) n ppn flags global created.2.2 here)
            ]
      ]
