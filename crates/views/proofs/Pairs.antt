-- Each kind of step keeps the whole rule.
use Rattle.std.proofs.Common.{◌+◌, ◌≡◌, ℕ, ◌<◌, true, [], ◌∷◌, ◌++◌, Some, Ok, length, refl, sym}
use Rattle.std.specs.Prelude.{List, slice_index, slice_set}
use mathlib.Core.Option.{some}
use lib.ListN.{get_elem?}
use Rattle.atomic_table.specs.Table.{State, opening as at_start}
use Rattle.pte.specs.Address.{vpn_of}
use Rattle.pte.specs.declared.address.TheConstants.{TABLE_LENGTH}
use Rattle.walk.specs.Stage.{Stage}
use Rattle.spaces.specs.declared.configuration.Config.{Config}
use Rattle.spaces.specs.declared.wishes.Wish.{Wish}
use Rattle.spaces.specs.Layout.{HasPlace, is_frame, layout_of}
use Rattle.spaces.specs.Limits.{MeetsLimits}
use Rattle.spaces.specs.declared.configuration.TheConstants.{MAX_LIVE_FRAMES}
use Rattle.spaces.specs.Held.{word_index, memory_words}
use Rattle.spaces.specs.Edits.{Store, place_of}
use Rattle.spaces.specs.Tree.{IsAtHome}
use Rattle.views.specs.declared.view.View.{View}
use Rattle.views.specs.declared.view.Read.{Read}
use Rattle.views.specs.Rule.{IsRoot, IsWalk, tables_in, board_words, dealer, dealt, first_view, memory_of}
use Rattle.views.specs.Board.{Board, Steps}
use Rattle.views.specs.Turns.{walked, IsStart, TellsLoad}
use Rattle.views.specs.Edits.{edit_over}
use Rattle.views.specs.OrderTurns.{IsAsked, noted, orders_after}
use Rattle.views.proofs.Keeps.{keeps-load}
use Rattle.views.proofs.WalkKeeps.{begun-walk, loaded, own-walk, read-keeps, read-tells, walk-keeps, walk-tells}
use Rattle.views.proofs.EditKeeps.{edit-keeps}
use Rattle.views.proofs.Deals.{deal-keeps, open-keeps}
use Rattle.views.proofs.WalkOrders.{read-orders, walk-orders}
use Rattle.views.proofs.StoreKeeps.{edit-orders}
use Rattle.views.proofs.DealOrders.{deal-orders, open-orders}

module _ (c : Config) (id : ℕ) (v : View) where
  -- the board after a load of a walk
  abbrev after : State ℕ View → ℕ → Stage → List Read → State ℕ View
  after s root st reads =
      let place = word_index (layout_of c) st.table (vpn_of st.va st.level) in
      record { words = slice_set s.words place (slice_index s.words place); homes = s.homes; views = slice_set s.views id (walked v root st reads (slice_index s.words place)) }

  walk-step : (s : State ℕ View) (b : Board c s) (at : get_elem? s.views id ≡ some v) (root : ℕ) (st : Stage) (reads : List Read) → is_frame (layout_of c) st.table ≡ true → IsRoot (layout_of c) root
      → IsWalk c.scheme (tables_in (layout_of c) s.words) root reads st
      → Board c (after s root st reads) × TellsLoad (layout_of c) v root st reads (slice_index s.words (word_index (layout_of c) st.table (vpn_of st.va st.level)))
  walk-step s b at root st reads frame is walk =
      let now : Board c (after s root st reads) =
      record { tables = walk-keeps c s b.tables id v at root st reads frame walk; orders = walk-orders c s b.tables b.orders id v at root st reads frame walk is } in
      (now, walk-tells c s b.tables id v at root st reads frame walk now)

  -- the first load of a walk
  pub begins : (root : ℕ) (st : Stage) → is_frame (layout_of c) st.table ≡ true → IsRoot (layout_of c) root → IsStart c.scheme root st
      → Steps c id v (word_index (layout_of c) st.table (vpn_of st.va st.level)) (λ n. n) (walked v root st []) (TellsLoad (layout_of c) v root st [])
  begins root st frame is start s b at fits = walk-step s b at root st [] frame is (begun-walk c s b.tables id v at root st start)

  -- a further load
  pub goes : (root : ℕ) (st : Stage) → is_frame (layout_of c) st.table ≡ true → IsRoot (layout_of c) root → v.walk ≡ Some st → v.root ≡ root
      → Steps c id v (word_index (layout_of c) st.table (vpn_of st.va st.level)) (λ n. n) (walked v root st v.reads) (TellsLoad (layout_of c) v root st v.reads)
  goes root st frame is walking same s b at fits = walk-step s b at root st v.reads frame is (own-walk c s b.tables id v at root st walking same)

  -- a load after which the seat knows that it is on the board
  pub sits : (i : ℕ) → Steps c id v i (λ n. n) (λ _. v) (λ _. id ≡ v.hart)
  sits i s b at fits = (
    record { tables = loaded c s id i v (keeps-load c s b.tables id v v at refl refl (b.tables.each id v at)); orders = read-orders c s b.tables b.orders id v at i },
    sym (b.tables.numbered id v at),
  )

  -- a home's reading of a word of its own
  pub home-reads : (f i : ℕ) → IsAtHome (layout_of c) v.hart f → i < TABLE_LENGTH
      → Steps c id v (word_index (layout_of c) f i) (λ n. n) (λ _. v) (λ n. memory_words (memory_of (layout_of c) v) f i ≡ Some n)
  home-reads f i home less s b at fits = (
    record { tables = read-keeps c s b.tables id v at f i home less; orders = read-orders c s b.tables b.orders id v at (word_index (layout_of c) f i) },
    read-tells c s b.tables id v at f i home less,
  )

  -- the store of an edit by its home
  pub edits : (wish : Wish) (ticket : ℕ) (store : Store) → HasPlace (layout_of c) (place_of wish) → IsAsked c wish → edit_over (layout_of c) v wish ≡ Ok store
      → Steps c id v (word_index (layout_of c) store.ppn store.index) (λ _. store.word) (λ _. noted c wish ticket v store) (λ _. Unit {0})
  edits wish ticket store has asked is s b at fits = (
    record { tables = edit-keeps c s b.tables id v at wish has store is (orders_after c wish ticket store (v.stores + 1) v.orders); orders = edit-orders c id v wish ticket store has asked is s b.tables b.orders at },
    tt,
  )

pub opens : (c : Config) → MeetsLimits MAX_LIVE_FRAMES c → Board c (at_start (board_words (layout_of c)) [] (first_view c))
opens c limits = record { tables = open-keeps c limits; orders = open-orders c }

pub deals-seat : (c : Config) (id : ℕ) (v : View) → 0 < v.next → v.next < length (layout_of c).spares → (s : State ℕ View) → Board c s → get_elem? s.views id ≡ some v
    → Board c record { words = s.words; homes = s.homes; views = slice_set s.views id (dealer v) ++ dealt v ∷ [] }
deals-seat c id v some' room s b at = record { tables = deal-keeps c id v some' room s b.tables at; orders = deal-orders c id v some' room s b.tables at b.orders }
