-- What the shared words keep of seats stays at each step, and where a seat is dealt, gathered, lent
-- or given back.
use Rattle.std.proofs.Common.{◌≡◌, ◌≢◌, ◌⊎◌, ℕ, zero, suc, ◌<◌, true, false, List, [], ◌∷◌, ◌++◌, Some, None, length, sym, refl, ap, ◌∙◌, subst, ⊎_elim, inl, inr, arith}
use Rattle.std.specs.Prelude.{slice_index, slice_set}
use Rattle.std.proofs.lemmas.List.Elements.{All-cons, All-nil, All-push, All-weaker}
use mathlib.Core.Option.{some, some-injective, some-ne-none}
use lib.ListN.{get_elem?}
use Rattle.atomic_table.specs.Table.{State, Joins, Splits, opening as at_start}
use Rattle.atomic_table.proofs.Lists.{at_last, at_longer, at_set, set_else, set_here}
use Rattle.spaces.specs.declared.configuration.Config.{Config}
use Rattle.spaces.specs.Layout.{layout_of}
use Rattle.spaces.specs.Limits.{MeetsLimits}
use Rattle.spaces.specs.declared.configuration.TheConstants.{MAX_LIVE_FRAMES}
use Rattle.views.specs.declared.view.SeatView.{SeatView}
use Rattle.views.specs.declared.view.View.{View}
use Rattle.views.specs.Rule.{board_words, dealer, dealt, first_view}
use Rattle.views.specs.Board.{Board, Steps}
use Rattle.views.specs.OnBoard.{IsOnBoard}
use Rattle.views.specs.Gathered.{AreGivenUp, AreLent, AreLentOnce, AreOneEach, BoardAndSeats, IsInUse, StandAt, StandTogether, StandsIn, all_views, given_up, in_use, lent, notice, with_gathered}
use Rattle.views.proofs.OnBoard.{below, on-board}
use Rattle.views.proofs.Pairs.{opens}

snoc : {A : Type 0} (l : List A) (a b : A) (j : ℕ) → get_elem? (l ++ a ∷ []) j ≡ some b → (get_elem? l j ≡ some b) ⊎ ((a ≡ b) × (j ≡ length l))
snoc [] a b zero e = inr (some-injective a b e, refl)
snoc [] a b (suc j) e = absurd (some-ne-none b (sym e))
snoc (x ∷ xs) a b zero e = inl e
snoc (x ∷ xs) a b (suc j) e = ⊎_elim (λ (t : get_elem? xs j ≡ some b). inl t) (λ (t : (a ≡ b) × (j ≡ length xs)). inr (t.0, ap suc t.1)) (snoc xs a b j e)

not-both : (b : _) → b ≡ true → b ≡ false → ⊥
not-both b is not = let bad : false ≡ true = sym not ∙ is in absurd cc

abbrev Gathers : List SeatView → Type 0
Gathers seats = (j : ℕ) (seat : SeatView) → get_elem? seats j ≡ some seat → AreGivenUp seats seat.gathered

abbrev Lent : List SeatView → View → Type 0
Lent seats v = (i : ℕ) × (get_elem? seats i ≡ some (lent v))

-- the seat has borrowed another one
abbrev Claim : List SeatView → ℕ → View → Type 0
Claim seats j v = (seat : SeatView) × (get_elem? seats j ≡ some seat) × (seat.borrowed ≡ Some v)

-- one seat changes
module _ (seats : List SeatView) (id : ℕ) (seat new : SeatView) (at : get_elem? seats id ≡ some seat) where
  abbrev changed : List SeatView
  changed = slice_set seats id new

  stand-new : (views : List View) → (new.is_notice ≡ false → get_elem? views new.view.hart ≡ some new.view)
      → ((j : ℕ) (m : SeatView) → j ≢ id → get_elem? seats j ≡ some m → m.is_notice ≡ false → get_elem? views m.view.hart ≡ some m.view)
      → StandAt views changed
  stand-new views mine others j m here hart =
      ⊎_elim (λ (t : (j ≡ id) × (new ≡ m)). subst (λ (n : SeatView). n.is_notice ≡ false → get_elem? views n.view.hart ≡ some n.view) t.1 mine hart)
      (λ (t : (j ≢ id) × (get_elem? seats j ≡ some m)). others j m t.0 t.1 hart) (at_set seats id j new m here)

  stand-same : (views : List View) → new.view ≡ seat.view → new.is_notice ≡ seat.is_notice → StandAt views seats → StandAt views changed
  stand-same views view same stand =
      stand-new views (λ is. subst (λ (v : View). get_elem? views v.hart ≡ some v) (sym view) (stand id seat at (sym same ∙ is))) (λ j m apart there hart. stand j m there hart)

  was : new.view.hart ≡ seat.view.hart → new.is_notice ≡ seat.is_notice → (j : ℕ) (m : SeatView) → get_elem? changed j ≡ some m
      → (o : SeatView) × (get_elem? seats j ≡ some o) × (o.is_notice ≡ m.is_notice) × (o.view.hart ≡ m.view.hart)
  was hart same j m here =
      ⊎_elim
      (λ (t : (j ≡ id) × (new ≡ m)). (seat, ap (λ n. get_elem? seats n) t.0 ∙ at, sym same ∙ ap (λ (n : SeatView). n.is_notice) t.1, sym hart ∙ ap (λ (n : SeatView). n.view.hart) t.1))
      (λ (t : (j ≢ id) × (get_elem? seats j ≡ some m)). (m, t.1, refl, refl)) (at_set seats id j new m here)

  one-same : new.view.hart ≡ seat.view.hart → new.is_notice ≡ seat.is_notice → AreOneEach seats → AreOneEach changed
  one-same hart same all i j a b at-i at-j a-hart b-hart one =
      let x = was hart same i a at-i in
      let y = was hart same j b at-j in
      all i j x.0 y.0 x.1 y.1 (x.2 ∙ a-hart) (y.2 ∙ b-hart) (x.3 ∙ (one ∙ sym y.3))

  gone-stay : seat.is_given_up ≡ false → (views : List View) → AreGivenUp seats views → AreGivenUp changed views
  gone-stay used views all =
      All-weaker (λ v. (j : ℕ) × (get_elem? seats j ≡ some (given_up v))) (λ v. (j : ℕ) × (get_elem? changed j ≡ some (given_up v)))
      (λ v t. (t.0, set_else seats id t.0 new (apart v t.0 t.1) ∙ t.1)) views all
    where
      apart : (v : View) (j : ℕ) → get_elem? seats j ≡ some (given_up v) → j ≢ id
      apart v j there same =
          let is : seat ≡ given_up v = some-injective seat (given_up v) (sym at ∙ (ap (λ n. get_elem? seats n) (sym same) ∙ there)) in
          not-both seat.is_given_up (ap (λ (m : SeatView). m.is_given_up) is) used

  gathers-same : seat.is_given_up ≡ false → new.gathered ≡ seat.gathered → Gathers seats → Gathers changed
  gathers-same used same all j m here =
      ⊎_elim
      (λ (t : (j ≡ id) × (new ≡ m)). subst (λ (n : SeatView). AreGivenUp changed n.gathered) t.1
      (gone-stay used new.gathered (subst (λ (l : List View). AreGivenUp seats l) (sym same) (all id seat at))))
      (λ (t : (j ≢ id) × (get_elem? seats j ≡ some m)). gone-stay used m.gathered (all j m t.1))
      (at_set seats id j new m here)

  lent-stays : seat.is_lent ≡ false → (v : View) → Lent seats v → Lent changed v
  lent-stays free v t = (t.0, set_else seats id t.0 new apart ∙ t.1)
    where
      apart : t.0 ≢ id
      apart same =
          let is : seat ≡ lent v = some-injective seat (lent v) (sym at ∙ (ap (λ n. get_elem? seats n) (sym same) ∙ t.1)) in
          not-both seat.is_lent (ap (λ (m : SeatView). m.is_lent) is) free

  claims : (j : ℕ) (v : View) → Claim changed j v → ((j ≡ id) × (new.borrowed ≡ Some v)) ⊎ ((j ≢ id) × Claim seats j v)
  claims j v t =
      ⊎_elim (λ (u : (j ≡ id) × (new ≡ t.0)). inl (u.0, ap (λ (n : SeatView). n.borrowed) u.1 ∙ t.2))
      (λ (u : (j ≢ id) × (get_elem? seats j ≡ some t.0)). inr (u.0, (t.0, u.1, t.2))) (at_set seats id j new t.0 t.1)

  claims-same : new.borrowed ≡ seat.borrowed → (j : ℕ) (v : View) → Claim changed j v → Claim seats j v
  claims-same same j v t =
      ⊎_elim (λ (u : (j ≡ id) × (new.borrowed ≡ Some v)). (seat, ap (λ n. get_elem? seats n) u.0 ∙ at, sym same ∙ u.1))
      (λ (u : (j ≢ id) × Claim seats j v). u.1) (claims j v t)

  claims-none : new.borrowed ≡ None → (j : ℕ) (v : View) → Claim changed j v → (j ≢ id) × Claim seats j v
  claims-none none j v t =
      ⊎_elim (λ (u : (j ≡ id) × (new.borrowed ≡ Some v)). absurd (let bad : None ≡ Some v = sym none ∙ u.1 in cc))
      (λ (u : (j ≢ id) × Claim seats j v). u) (claims j v t)

-- one seat more
module _ (seats : List SeatView) (new : SeatView) where
  abbrev more : List SeatView
  more = seats ++ new ∷ []

  stand-more : (views : List View) → (new.is_notice ≡ false → get_elem? views new.view.hart ≡ some new.view) → StandAt views seats → StandAt views more
  stand-more views mine stand j m here hart =
      ⊎_elim (λ (t : get_elem? seats j ≡ some m). stand j m t hart)
      (λ (t : (new ≡ m) × (j ≡ length seats)). subst (λ (n : SeatView). n.is_notice ≡ false → get_elem? views n.view.hart ≡ some n.view) t.0 mine hart) (snoc seats new m j here)

  one-more : ((j : ℕ) (m : SeatView) → get_elem? seats j ≡ some m → m.is_notice ≡ false → new.is_notice ≡ false → m.view.hart ≢ new.view.hart) → AreOneEach seats → AreOneEach more
  one-more apart all i j a b at-i at-j a-hart b-hart one =
      ⊎_elim
      (λ (t : get_elem? seats i ≡ some a).
      ⊎_elim (λ (u : get_elem? seats j ≡ some b). all i j a b t u a-hart b-hart one)
      (λ (u : (new ≡ b) × (j ≡ length seats)).
      absurd (apart i a t a-hart (ap (λ (n : SeatView). n.is_notice) u.0 ∙ b-hart) (one ∙ ap (λ (n : SeatView). n.view.hart) (sym u.0))))
      (snoc seats new b j at-j))
      (λ (t : (new ≡ a) × (i ≡ length seats)).
      ⊎_elim
      (λ (u : get_elem? seats j ≡ some b).
      absurd (apart j b u b-hart (ap (λ (n : SeatView). n.is_notice) t.0 ∙ a-hart) (sym one ∙ ap (λ (n : SeatView). n.view.hart) (sym t.0))))
      (λ (u : (new ≡ b) × (j ≡ length seats)). t.1 ∙ sym u.1)
      (snoc seats new b j at-j))
      (snoc seats new a i at-i)

  gathers-more : new.gathered ≡ [] → Gathers seats → Gathers more
  gathers-more none all j m here =
      ⊎_elim (λ (t : get_elem? seats j ≡ some m). longer m.gathered (all j m t))
      (λ (t : (new ≡ m) × (j ≡ length seats)). subst (λ (n : SeatView). AreGivenUp more n.gathered) t.0
      (subst (λ (l : List View). AreGivenUp more l) (sym none) (All-nil (λ v. (i : ℕ) × (get_elem? more i ≡ some (given_up v))))))
      (snoc seats new m j here)
    where
      longer : (views : List View) → AreGivenUp seats views → AreGivenUp more views
      longer views gone =
          All-weaker (λ v. (i : ℕ) × (get_elem? seats i ≡ some (given_up v))) (λ v. (i : ℕ) × (get_elem? more i ≡ some (given_up v)))
          (λ v t. (t.0, at_longer seats (new ∷ []) t.0 (given_up v) t.1)) views gone

  lent-more : (v : View) → Lent seats v → Lent more v
  lent-more v t = (t.0, at_longer seats (new ∷ []) t.0 (lent v) t.1)

  claims-more : (j : ℕ) (v : View) → Claim more j v → Claim seats j v ⊎ ((new.borrowed ≡ Some v) × (j ≡ length seats))
  claims-more j v t =
      ⊎_elim (λ (u : get_elem? seats j ≡ some t.0). inl (t.0, u, t.2))
      (λ (u : (new ≡ t.0) × (j ≡ length seats)). inr (ap (λ (n : SeatView). n.borrowed) u.0 ∙ t.2, u.1)) (snoc seats new t.0 j t.1)

  claims-no-more : new.borrowed ≡ None → (j : ℕ) (v : View) → Claim more j v → Claim seats j v
  claims-no-more none j v t =
      ⊎_elim (λ (u : Claim seats j v). u) (λ (u : (new.borrowed ≡ Some v) × (j ≡ length seats)). absurd (let bad : None ≡ Some v = sym none ∙ u.0 in cc)) (claims-more j v t)

-- what is borrowed is lent once, wherever the claims go
module _ (seats after : List SeatView) where
  lent-from : AreLent seats → ((v : View) → Lent seats v → Lent after v) → ((j : ℕ) (v : View) → Claim after j v → (i : ℕ) × Claim seats i v) → AreLent after
  lent-from all stays from j m v here is = let t = from j v (m, here, is) in stays v (all t.0 t.1.0 v t.1.1 t.1.2)

  once-fewer : AreLentOnce seats → ((j : ℕ) (v : View) → Claim after j v → Claim seats j v) → AreLentOnce after
  once-fewer all from i j a b v w at-i at-j is-a is-b same =
      let x = from i v (a, at-i, is-a) in
      let y = from j w (b, at-j, is-b) in
      all i j x.0 y.0 v w x.1 y.1 x.2 y.2 same

  once-moved : (source target : ℕ) (v : View) → Claim seats source v → AreLentOnce seats
      → ((j : ℕ) (w : View) → Claim after j w → ((j ≡ target) × (w ≡ v)) ⊎ ((j ≢ source) × Claim seats j w)) → AreLentOnce after
  once-moved source target v mine all from i j a b x y at-i at-j is-a is-b same =
      ⊎_elim
      (λ (t : (i ≡ target) × (x ≡ v)).
      ⊎_elim (λ (u : (j ≡ target) × (y ≡ v)). t.0 ∙ sym u.0)
      (λ (u : (j ≢ source) × Claim seats j y). absurd (u.0 (all j source u.1.0 mine.0 y v u.1.1 mine.1 u.1.2 mine.2 (sym same ∙ ap (λ (z : View). z.hart) t.1))))
      (from j y (b, at-j, is-b)))
      (λ (t : (i ≢ source) × Claim seats i x).
      ⊎_elim (λ (u : (j ≡ target) × (y ≡ v)). absurd (t.0 (all i source t.1.0 mine.0 x v t.1.1 mine.1 t.1.2 mine.2 (same ∙ ap (λ (z : View). z.hart) u.1))))
      (λ (u : (j ≢ source) × Claim seats j y). all i j t.1.0 u.1.0 x y t.1.1 u.1.1 t.1.2 u.1.2 same)
      (from j y (b, at-j, is-b)))
      (from i x (a, at-i, is-a))

  once-new : (target : ℕ) (v : View) → ((j : ℕ) (w : View) → Claim seats j w → w.hart ≢ v.hart) → AreLentOnce seats
      → ((j : ℕ) (w : View) → Claim after j w → ((j ≡ target) × (w ≡ v)) ⊎ Claim seats j w) → AreLentOnce after
  once-new target v apart all from i j a b x y at-i at-j is-a is-b same =
      ⊎_elim
      (λ (t : (i ≡ target) × (x ≡ v)).
      ⊎_elim (λ (u : (j ≡ target) × (y ≡ v)). t.0 ∙ sym u.0)
      (λ (u : Claim seats j y). absurd (apart j y u (sym same ∙ ap (λ (z : View). z.hart) t.1)))
      (from j y (b, at-j, is-b)))
      (λ (t : Claim seats i x).
      ⊎_elim (λ (u : (j ≡ target) × (y ≡ v)). absurd (apart i x t (same ∙ ap (λ (z : View). z.hart) u.1)))
      (λ (u : Claim seats j y). all i j t.0 u.0 x y t.1 u.1 t.2 u.2 same)
      (from j y (b, at-j, is-b)))
      (from i x (a, at-i, is-a))

pub in_use-may : (v : View) → IsInUse (in_use v)
in_use-may v = record { hart = refl; kept = refl; free = refl }

module _ (c : Config) (id : ℕ) where
  abbrev board_at : State ℕ SeatView → List View → State ℕ View
  board_at s views = record { words = s.words; homes = s.homes; views = views }

  -- a step of a seat in use
  pub seat-steps : (seat : SeatView) (i : ℕ) (f : ℕ → ℕ) (after : ℕ → View) (tells : ℕ → Type 0) → IsInUse seat → Steps c seat.view.hart seat.view i f after tells
      → (s : State ℕ SeatView) → BoardAndSeats c s → get_elem? s.views id ≡ some seat → slice_index s.words i < 18446744073709551616
      → BoardAndSeats c record { words = slice_set s.words i (f (slice_index s.words i)); homes = s.homes; views = slice_set s.views id (record seat { view = after (slice_index s.words i) }) }
      × tells (slice_index s.words i) × IsOnBoard (after (slice_index s.words i)) × ((after (slice_index s.words i)).hart ≡ seat.view.hart)
  seat-steps seat i f after tells use' steps s b at fits =
      let found = slice_index s.words i in
      let words = slice_set s.words i (f found) in
      let hart = seat.view.hart in
      let w = after found in
      let new : SeatView = record seat { view = w } in
      let mine : get_elem? b.views hart ≡ some seat.view = b.stand id seat at use'.hart in
      let r = steps (board_at s b.views) b.board mine fits in
      let here : get_elem? (slice_set b.views hart w) hart ≡ some w = set_here b.views hart w (below b.views hart seat.view mine) in
      let same : w.hart ≡ hart = r.0.tables.numbered hart w here in (
        record {
          views = slice_set b.views hart w;
          board = r.0;
          stand = stand-new s.views id seat new at (slice_set b.views hart w) (λ is. ap (λ n. get_elem? (slice_set b.views hart w) n) same ∙ here)
              (λ j m apart there is. set_else b.views hart m.view.hart w (λ e. apart (b.one_each j id m seat there at is use'.hart e)) ∙ b.stand j m there is);
          one_each = one-same s.views id seat new at same refl b.one_each;
          given_up = gathers-same s.views id seat new at use'.kept refl b.given_up;
          lent = lent-from s.views (slice_set s.views id new) b.lent (lent-stays s.views id seat new at use'.free) (λ j v t. (j, claims-same s.views id seat new at refl j v t));
          once = once-fewer s.views (slice_set s.views id new) b.once (claims-same s.views id seat new at refl);
        },
        r.1,
        on-board c words s.homes b.views hart seat.view w mine r.0,
        same,
      )

  -- a seat is dealt
  pub seat-splits : (v : View) → Splits (Board c) v.hart v (dealer v) (dealt v) → Splits (BoardAndSeats c) id (in_use v) (in_use (dealer v)) (in_use (dealt v))
  seat-splits v splits s b at = record {
    views = first ++ dealt v ∷ [];
    board = r;
    stand = stand-more seats (in_use (dealt v)) (first ++ dealt v ∷ []) (λ is. last) (λ j m there is. at_longer first (dealt v ∷ []) m.view.hart m.view (stand-first j m there is));
    one_each = one-more seats (in_use (dealt v)) apart (one-same s.views id (in_use v) (in_use (dealer v)) at refl refl b.one_each);
    given_up = gathers-more seats (in_use (dealt v)) refl (gathers-same s.views id (in_use v) (in_use (dealer v)) at refl refl b.given_up);
    lent = lent-from s.views (seats ++ in_use (dealt v) ∷ []) b.lent
        (λ u t. lent-more seats (in_use (dealt v)) u (lent-stays s.views id (in_use v) (in_use (dealer v)) at refl u t)) (λ j u t. (j, from j u t));
    once = once-fewer s.views (seats ++ in_use (dealt v) ∷ []) b.once from;
  }
    where
      mine : get_elem? b.views v.hart ≡ some v
      mine = b.stand id (in_use v) at refl

      first : List View
      first = slice_set b.views v.hart (dealer v)

      r : Board c (board_at s (first ++ dealt v ∷ []))
      r = splits (board_at s b.views) b.board mine

      seats : List SeatView
      seats = slice_set s.views id (in_use (dealer v))

      next : v.next ≡ length first
      next = r.tables.numbered (length first) (dealt v) (at_last first (dealt v) (length first) refl)

      last : get_elem? (first ++ dealt v ∷ []) v.next ≡ some (dealt v)
      last = at_last first (dealt v) v.next (sym next)

      stand-first : StandAt first seats
      stand-first = stand-new s.views id (in_use v) (in_use (dealer v)) at first (λ is. set_here b.views v.hart (dealer v) (below b.views v.hart v mine))
          (λ j m apart there is. set_else b.views v.hart m.view.hart (dealer v) (λ e. apart (b.one_each j id m (in_use v) there at is refl e)) ∙ b.stand j m there is)

      apart : (j : ℕ) (m : SeatView) → get_elem? seats j ≡ some m → m.is_notice ≡ false → false ≡ false → m.view.hart ≢ v.next
      apart j m there is new same = let low = below first m.view.hart m.view (stand-first j m there is) in absurd (omega (arith, low, same, next))

      from : (j : ℕ) (u : View) → Claim (seats ++ in_use (dealt v) ∷ []) j u → Claim s.views j u
      from j u t = claims-same s.views id (in_use v) (in_use (dealer v)) at refl j u (claims-no-more seats (in_use (dealt v)) refl j u t)

  -- a seat is gathered with another one
  pub seat-joins : (seat : SeatView) (other : ℕ) (w : View) → IsInUse seat → Joins (BoardAndSeats c) id seat other (in_use w) (with_gathered w seat) (given_up w)
  seat-joins seat other w use' s b at apart here = record {
    views = b.views;
    board = b.board;
    stand = stand-same first other (in_use w) (given_up w) here b.views refl refl (stand-same s.views id seat both at b.views refl refl b.stand);
    one_each = one-same first other (in_use w) (given_up w) here refl refl (one-same s.views id seat both at refl refl b.one_each);
    given_up = gathers;
    lent = lent-from s.views seats b.lent (λ v t. lent-stays first other (in_use w) (given_up w) here refl v (lent-stays s.views id seat both at use'.free v t)) (λ j v t. (j, from j v t));
    once = once-fewer s.views seats b.once from;
  }
    where
      both : SeatView
      both = with_gathered w seat

      first : List SeatView
      first = slice_set s.views id both

      seats : List SeatView
      seats = slice_set first other (given_up w)

      from : (j : ℕ) (v : View) → Claim seats j v → Claim s.views j v
      from j v t = claims-same s.views id seat both at refl j v (claims-same first other (in_use w) (given_up w) here refl j v t)

      stay : (views : List View) → AreGivenUp s.views views → AreGivenUp seats views
      stay views all = gone-stay first other (in_use w) (given_up w) here refl views (gone-stay s.views id seat both at use'.kept views all)

      last : (i : ℕ) × (get_elem? seats i ≡ some (given_up w))
      last = (other, set_here first other (given_up w) (below first other (in_use w) here))

      gathers : Gathers seats
      gathers j m at-j =
          ⊎_elim
          (λ (t : (j ≡ other) × (given_up w ≡ m)). subst (λ (n : SeatView). AreGivenUp seats n.gathered) t.1 (All-nil (λ v. (i : ℕ) × (get_elem? seats i ≡ some (given_up v)))))
          (λ (t : (j ≢ other) × (get_elem? first j ≡ some m)).
          ⊎_elim
          (λ (u : (j ≡ id) × (both ≡ m)). subst (λ (n : SeatView). AreGivenUp seats n.gathered) u.1
          (All-cons (λ v. (i : ℕ) × (get_elem? seats i ≡ some (given_up v))) w seat.gathered last (stay seat.gathered (b.given_up id seat at))))
          (λ (u : (j ≢ id) × (get_elem? s.views j ≡ some m)). stay m.gathered (b.given_up j m u.1))
          (at_set s.views id j both m t.1))
          (at_set first other j (given_up w) m at-j)

  -- a view of the board stands in its state
  stands-in : (s : State ℕ View) → Board c s → (j : ℕ) (v : View) → get_elem? s.views j ≡ some v → StandsIn s v
  stands-in s b j v at = record {
    stands = subst (λ k. Board k s) (sym (b.tables.each j v at).config) b;
    at = subst (λ n. get_elem? s.views n ≡ some v) (sym (b.tables.numbered j v at)) at;
  }

  module _ (seat : SeatView) (use' : IsInUse seat) (s : State ℕ SeatView) (b : BoardAndSeats c s) (at : get_elem? s.views id ≡ some seat) where
    own-stands : StandsIn (board_at s b.views) seat.view
    own-stands = stands-in (board_at s b.views) b.board seat.view.hart seat.view (b.stand id seat at use'.hart)

    -- all that were gathered stand in the state of the board, and so does what is borrowed
    pub stands-together : StandTogether (all_views seat)
    stands-together =
        record {
          state = board_at s b.views;
          each = All-push (StandsIn (board_at s b.views)) seat.gathered seat.view
              (All-weaker (λ v. (j : ℕ) × (get_elem? s.views j ≡ some (given_up v))) (StandsIn (board_at s b.views))
              (λ v t. stands-in (board_at s b.views) b.board v.hart v (b.stand t.0 (given_up v) t.1 refl)) seat.gathered (b.given_up id seat at))
              own-stands;
        }

    pub borrowed-stands : (v : View) → seat.borrowed ≡ Some v → StandTogether (seat.view ∷ v ∷ [])
    borrowed-stands v is =
        let t = b.lent id seat v at is in
        let P = StandsIn (board_at s b.views) in
        record {
          state = board_at s b.views;
          each = All-cons P seat.view (v ∷ []) own-stands (All-cons P v [] (stands-in (board_at s b.views) b.board v.hart v (b.stand t.0 (lent v) t.1 refl)) (All-nil P));
        }

  -- a seat is lent
  pub lends : (v : View) → Splits (BoardAndSeats c) id (in_use v) (lent v) (notice (Some v))
  lends v s b at = record {
    views = b.views;
    board = b.board;
    stand = stand-more seats (notice (Some v)) b.views (λ is. absurd (not-both true refl is)) (stand-same s.views id (in_use v) (lent v) at b.views refl refl b.stand);
    one_each = one-more seats (notice (Some v)) (λ j m there is new. absurd (not-both true refl new)) (one-same s.views id (in_use v) (lent v) at refl refl b.one_each);
    given_up = gathers-more seats (notice (Some v)) refl (gathers-same s.views id (in_use v) (lent v) at refl refl b.given_up);
    lent = are-lent;
    once = once-new s.views after (length seats) v apart b.once from;
  }
    where
      seats : List SeatView
      seats = slice_set s.views id (lent v)

      after : List SeatView
      after = seats ++ notice (Some v) ∷ []

      some-injective' : (x y : View) → Some x ≡ Some y → x ≡ y
      some-injective' x y e = cc

      from : (j : ℕ) (w : View) → Claim after j w → ((j ≡ length seats) × (w ≡ v)) ⊎ Claim s.views j w
      from j w t =
          ⊎_elim (λ (u : Claim seats j w). inr (claims-none s.views id (in_use v) (lent v) at refl j w u).1)
          (λ (u : (Some v ≡ Some w) × (j ≡ length seats)). inl (u.1, sym (some-injective' v w u.0)))
          (claims-more seats (notice (Some v)) j w t)

      -- what another one borrowed is lent, and this seat was not
      apart : (j : ℕ) (w : View) → Claim s.views j w → w.hart ≢ v.hart
      apart j w t same =
          let there = b.lent j t.0 w t.1 t.2 in
          let one = b.one_each there.0 id (lent w) (in_use v) there.1 at refl refl same in
          let is : lent w ≡ in_use v = some-injective (lent w) (in_use v) (sym there.1 ∙ (ap (λ n. get_elem? s.views n) one ∙ at)) in
          not-both true refl (ap (λ (m : SeatView). m.is_lent) is)

      stays : (w : View) → Lent s.views w → Lent after w
      stays w t = lent-more seats (notice (Some v)) w (lent-stays s.views id (in_use v) (lent v) at refl w t)

      are-lent : AreLent after
      are-lent j m w here is =
          ⊎_elim
          (λ (t : (j ≡ length seats) × (w ≡ v)). subst (λ u. Lent after u) (sym t.1) (lent-more seats (notice (Some v)) v (id, set_here s.views id (lent v) (below s.views id (in_use v) at))))
          (λ (t : Claim s.views j w). stays w (b.lent j t.0 w t.1 t.2))
          (from j w (m, here, is))

  -- another one borrows it
  pub borrows : (seat : View) (other : ℕ) (v : View) → Joins (BoardAndSeats c) id (in_use seat) other (notice (Some v)) (record (in_use seat) { borrowed = Some v }) (notice None)
  borrows seat other v s b at apart here = record {
    views = b.views;
    board = b.board;
    stand = stand-same first other (notice (Some v)) (notice None) here b.views refl refl (stand-same s.views id (in_use seat) both at b.views refl refl b.stand);
    one_each = one-same first other (notice (Some v)) (notice None) here refl refl (one-same s.views id (in_use seat) both at refl refl b.one_each);
    given_up = gathers-same first other (notice (Some v)) (notice None) here refl refl (gathers-same s.views id (in_use seat) both at refl refl b.given_up);
    lent = lent-from s.views seats b.lent (λ w t. lent-stays first other (notice (Some v)) (notice None) here refl w (lent-stays s.views id (in_use seat) both at refl w t)) claim;
    once = once-moved s.views seats other id v source b.once from;
  }
    where
      both : SeatView
      both = record (in_use seat) { borrowed = Some v }

      first : List SeatView
      first = slice_set s.views id both

      seats : List SeatView
      seats = slice_set first other (notice None)

      source : Claim s.views other v
      source = (notice (Some v), sym (set_else s.views id other both apart) ∙ here, refl)

      some-injective' : (x y : View) → Some x ≡ Some y → x ≡ y
      some-injective' x y e = cc

      from : (j : ℕ) (w : View) → Claim seats j w → ((j ≡ id) × (w ≡ v)) ⊎ ((j ≢ other) × Claim s.views j w)
      from j w t =
          let u = claims-none first other (notice (Some v)) (notice None) here refl j w t in
          ⊎_elim (λ (x : (j ≡ id) × (Some v ≡ Some w)). inl (x.0, sym (some-injective' v w x.1)))
          (λ (x : (j ≢ id) × Claim s.views j w). inr (u.0, x.1)) (claims s.views id (in_use seat) both at j w u.1)

      claim : (j : ℕ) (w : View) → Claim seats j w → (i : ℕ) × Claim s.views i w
      claim j w t =
          ⊎_elim (λ (x : (j ≡ id) × (w ≡ v)). (other, subst (λ u. Claim s.views other u) (sym x.1) source))
          (λ (x : (j ≢ other) × Claim s.views j w). (j, x.1)) (from j w t)

  -- it gives the notice away
  pub returns-notice : (seat : View) (v : View) → Splits (BoardAndSeats c) id (record (in_use seat) { borrowed = Some v }) (in_use seat) (notice (Some v))
  returns-notice seat v s b at = record {
    views = b.views;
    board = b.board;
    stand = stand-more seats (notice (Some v)) b.views (λ is. absurd (not-both true refl is)) (stand-same s.views id both (in_use seat) at b.views refl refl b.stand);
    one_each = one-more seats (notice (Some v)) (λ j m there is new. absurd (not-both true refl new)) (one-same s.views id both (in_use seat) at refl refl b.one_each);
    given_up = gathers-more seats (notice (Some v)) refl (gathers-same s.views id both (in_use seat) at refl refl b.given_up);
    lent = lent-from s.views after b.lent (λ w t. lent-more seats (notice (Some v)) w (lent-stays s.views id both (in_use seat) at refl w t)) claim;
    once = once-moved s.views after id (length seats) v source b.once from;
  }
    where
      both : SeatView
      both = record (in_use seat) { borrowed = Some v }

      seats : List SeatView
      seats = slice_set s.views id (in_use seat)

      after : List SeatView
      after = seats ++ notice (Some v) ∷ []

      source : Claim s.views id v
      source = (both, at, refl)

      some-injective' : (x y : View) → Some x ≡ Some y → x ≡ y
      some-injective' x y e = cc

      from : (j : ℕ) (w : View) → Claim after j w → ((j ≡ length seats) × (w ≡ v)) ⊎ ((j ≢ id) × Claim s.views j w)
      from j w t =
          ⊎_elim (λ (u : Claim seats j w). inr (claims-none s.views id both (in_use seat) at refl j w u))
          (λ (u : (Some v ≡ Some w) × (j ≡ length seats)). inl (u.1, sym (some-injective' v w u.0)))
          (claims-more seats (notice (Some v)) j w t)

      claim : (j : ℕ) (w : View) → Claim after j w → (i : ℕ) × Claim s.views i w
      claim j w t =
          ⊎_elim (λ (x : (j ≡ length seats) × (w ≡ v)). (id, subst (λ u. Claim s.views id u) (sym x.1) source))
          (λ (x : (j ≢ id) × Claim s.views j w). (j, x.1)) (from j w t)

  -- and the seat that was lent is used again
  pub resumes : (v : View) (other : ℕ) → Joins (BoardAndSeats c) id (lent v) other (notice (Some v)) (in_use v) (notice None)
  resumes v other s b at apart here = record {
    views = b.views;
    board = b.board;
    stand = stand-same first other (notice (Some v)) (notice None) here b.views refl refl (stand-same s.views id (lent v) (in_use v) at b.views refl refl b.stand);
    one_each = one-same first other (notice (Some v)) (notice None) here refl refl (one-same s.views id (lent v) (in_use v) at refl refl b.one_each);
    given_up = gathers-same first other (notice (Some v)) (notice None) here refl refl (gathers-same s.views id (lent v) (in_use v) at refl refl b.given_up);
    lent = are-lent;
    once = once-fewer s.views seats b.once (λ j w t. (from j w t).1);
  }
    where
      first : List SeatView
      first = slice_set s.views id (in_use v)

      seats : List SeatView
      seats = slice_set first other (notice None)

      source : get_elem? s.views other ≡ some (notice (Some v))
      source = sym (set_else s.views id other (in_use v) apart) ∙ here

      from : (j : ℕ) (w : View) → Claim seats j w → (j ≢ other) × Claim s.views j w
      from j w t =
          let u = claims-none first other (notice (Some v)) (notice None) here refl j w t in
          (u.0, (claims-none s.views id (lent v) (in_use v) at refl j w u.1).1)

      -- no other one borrowed it
      apart-from : (j : ℕ) (w : View) → (j ≢ other) × Claim s.views j w → (i : ℕ) → get_elem? s.views i ≡ some (lent w) → i ≢ id
      apart-from j w t i there same =
          let is : lent w ≡ lent v = some-injective (lent w) (lent v) (sym there ∙ (ap (λ n. get_elem? s.views n) same ∙ at)) in
          t.0 (b.once j other t.1.0 (notice (Some v)) w v t.1.1 source t.1.2 refl (ap (λ (m : SeatView). m.view.hart) is))

      are-lent : AreLent seats
      are-lent j m w at-j is =
          let t = from j w (m, at-j, is) in
          let old = b.lent j t.1.0 w t.1.1 t.1.2 in
          lent-stays first other (notice (Some v)) (notice None) here refl w (old.0, set_else s.views id old.0 (in_use v) (apart-from j w t old.0 old.1) ∙ old.1)

-- the words at the opening, with the first seat
pub seat-opens : (c : Config) → MeetsLimits MAX_LIVE_FRAMES c → BoardAndSeats c (at_start (board_words (layout_of c)) [] (in_use (first_view c)))
seat-opens c limits = record {
  views = first_view c ∷ [];
  board = opens c limits;
  stand = λ j m at is. subst (λ (n : SeatView). get_elem? (first_view c ∷ []) n.view.hart ≡ some n.view) (lone j m at).1 refl;
  one_each = λ i j a b at-i at-j a-hart b-hart same. (lone i a at-i).0 ∙ sym (lone j b at-j).0;
  given_up = λ j m at. subst (λ (n : SeatView). AreGivenUp seats n.gathered) (lone j m at).1 (All-nil (λ v. (i : ℕ) × (get_elem? seats i ≡ some (given_up v))));
  lent = λ j m v at is. absurd (none m v (lone j m at).1 is);
  once = λ i j a b v w at-i at-j is-a is-b same. (lone i a at-i).0 ∙ sym (lone j b at-j).0;
}
  where
    seats : List SeatView
    seats = in_use (first_view c) ∷ []

    lone : (j : ℕ) (m : SeatView) → get_elem? seats j ≡ some m → (j ≡ 0) × (in_use (first_view c) ≡ m)
    lone zero m e = (refl, some-injective (in_use (first_view c)) m e)
    lone (suc j) m e = absurd (some-ne-none m (sym e))

    none : (m : SeatView) (v : View) → in_use (first_view c) ≡ m → m.borrowed ≡ Some v → ⊥
    none m v e is = let bad : None ≡ Some v = ap (λ (n : SeatView). n.borrowed) e ∙ is in cc
