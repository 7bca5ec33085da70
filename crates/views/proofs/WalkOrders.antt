-- The loads of a walk, which may fill an entry, keep what the board says of orders.
use Rattle.std.proofs.Common.{◌≡◌, ◌⊎◌, ℕ, ◌+◌, ◌≤◌, true, List, [], ◌∷◌, Ok, Some, sym, refl, ap, ◌∙◌, subst, inl, inr, arith}
use Rattle.std.specs.Prelude.{All, Contains, slice_index, slice_set}
use Rattle.std.proofs.lemmas.List.{set-get_or}
use Rattle.std.proofs.lemmas.List.Elements.{All-append, All-cons, All-nil, Contains-push_cases}
use mathlib.Core.Option.{some}
use lib.ListN.{get_elem?}
use Rattle.atomic_table.specs.Table.{State}
use Rattle.pte.specs.Address.{vpn_of}
use Rattle.walk.specs.declared.found_or_trap.Found.{Found}
use Rattle.walk.specs.declared.walking.Progress.{Progress}
use Rattle.walk.specs.declared.walking.Progress.TheVariants as progress
use Rattle.walk.specs.Loads.{GoesOn}
use Rattle.walk.specs.Outcome.{Outcome}
use Rattle.walk.specs.Stage.{Stage}
use Rattle.walk.specs.Step.{load_of}
use Rattle.spaces.specs.declared.configuration.Config.{Config}
use Rattle.spaces.specs.Layout.{is_frame, layout_of, root_ppn}
use Rattle.spaces.specs.Held.{word_index}
use Rattle.tlb.specs.Answer.{entry_of}
use Rattle.tlb.specs.declared.store.Entry.{Entry}
use Rattle.views.specs.declared.view.Order.{Order}
use Rattle.views.specs.declared.view.Read.{Read}
use Rattle.views.specs.declared.view.View.{View}
use Rattle.views.specs.Rule.{IsRoot, IsWalk, Tabled, tables_in}
use Rattle.views.specs.Turns.{asid_at, walked, with_fill}
use Rattle.views.specs.Orders.{asid_of_space, IsFrom, IsGlobalInWindow, Ordered}
use Rattle.views.proofs.Fills.{window-found, mapped-found, asid-at-root}
use Rattle.views.proofs.OrderKeeps.{answered-same, Gains, idle-orders, kept-same, MappedSince, stays, stands, keeps-orders}
use Rattle.views.proofs.WalkKeeps.{load-goes}

-- a load leaves the words
loaded-orders : (c : Config) (s : State ℕ View) (id at : ℕ) (w : View) → Ordered c record { words = s.words; homes = s.homes; views = slice_set s.views id w }
    → Ordered c record { words = slice_set s.words at (slice_index s.words at); homes = s.homes; views = slice_set s.views id w }
loaded-orders c s id at w o = subst (λ (ws : List ℕ). Ordered c record { words = ws; homes = s.homes; views = slice_set s.views id w }) (sym (set-get_or s.words at 0)) o

module _ (c : Config) (s : State ℕ View) (b : Tabled c s) (o : Ordered c s) (id : ℕ) (v : View) (at : get_elem? s.views id ≡ some v) where
  pub read-orders : (place : ℕ) → Ordered c record { words = slice_set s.words place (slice_index s.words place); homes = s.homes; views = slice_set s.views id v }
  read-orders place = loaded-orders c s id place v (idle-orders c s b o id v at)

  module _ (root : ℕ) (st : Stage) (reads : List Read) (frame : is_frame (layout_of c) st.table ≡ true) (walk : IsWalk c.scheme (tables_in (layout_of c) s.words) root reads st) (is' : IsRoot (layout_of c) root) where
    abbrev place : ℕ
    place = word_index (layout_of c) st.table (vpn_of st.va st.level)

    abbrev word : ℕ
    word = slice_index s.words place

    asid-is : asid_at v.config root ≡ asid_of_space c is'.0
    asid-is = ap (λ k. asid_at k root) (b.each id v at).config ∙ asid-at-root c is'.0 root is'.2

    found-there : (found : Found) → GoesOn c.scheme (tables_in (layout_of c) s.words) root st (progress.Found found)
        → Outcome c.scheme (tables_in (layout_of c) s.words) (root_ppn (layout_of c) is'.0) st.va st.access st.ctx (Ok found)
    found-there found g = subst (λ r. Outcome c.scheme (tables_in (layout_of c) s.words) r st.va st.access st.ctx (Ok found)) is'.2 g

    -- what is filled the words of its home map, and it is global exactly in the window
    fill-gains : (j : ℕ) (u : View) (at-u : get_elem? s.views j ≡ some u) (n : ℕ) (k : Order) (at-k : get_elem? u.orders n ≡ some k) (e : Entry) (p : Progress)
        → GoesOn c.scheme (tables_in (layout_of c) s.words) root st p → Contains (with_fill (asid_at v.config root) v.entries p) e → IsFrom c u.hart e → Contains v.entries e ⊎ MappedSince c u k e
    fill-gains j u at-u n k at-k e (progress.More next) g is from = inl is
    fill-gains j u at-u n k at-k e (progress.Trap trap) g is from = inl is
    fill-gains j u at-u n k at-k e (progress.Found found) g is from =
        elim (Contains-push_cases v.entries (entry_of (asid_at v.config root) found) e is) [
          | inl was ↦ inl was
          | inr new ↦
              inr (subst (λ (x : Entry). IsFrom c u.hart x → MappedSince c u k x) new (λ f. (
                u.words,
                (0, o.latest j u at-u, omega (arith, (o.answered j u at-u n k at-k).begun)),
                mapped-found c s b is'.0 st.va st.access st.ctx found is'.1 (found-there found g) j u at-u (asid_at v.config root) asid-is f,
              )) from)
        ]

    gains : Gains c s v (walked v root st reads word)
    gains j u at-u n k at-k e is dropped from = fill-gains j u at-u n k at-k e (load_of st (Some word)) (load-goes c s b id v at root st reads frame walk) is from

    fill-window : (p : Progress) → GoesOn c.scheme (tables_in (layout_of c) s.words) root st p → All (IsGlobalInWindow (layout_of c)) v.entries
        → All (IsGlobalInWindow (layout_of c)) (with_fill (asid_at v.config root) v.entries p)
    fill-window (progress.More next) g m = m
    fill-window (progress.Trap trap) g m = m
    fill-window (progress.Found found) g m =
        All-append (IsGlobalInWindow (layout_of c)) v.entries (entry_of (asid_at v.config root) found ∷ []) m
        (All-cons (IsGlobalInWindow (layout_of c)) (entry_of (asid_at v.config root) found) []
        (window-found c s b is'.0 st.va st.access st.ctx found is'.1 (found-there found g) (asid_at v.config root)) (All-nil (IsGlobalInWindow (layout_of c))))

    pub walk-orders : Ordered c record { words = slice_set s.words place word; homes = s.homes; views = slice_set s.views id (walked v root st reads word) }
    walk-orders =
        let w : View = walked v root st reads word in
        loaded-orders c s id place w
        (keeps-orders c s b o id v w at refl s.words gains (λ a t h few small. stays refl)
        (fill-window (load_of st (Some word)) (load-goes c s b id v at root st reads frame walk) (o.window id v at)) (o.latest id v at)
        (λ n k at-k. answered-same c v w refl refl refl k k refl refl s.words (slice_set s.views id w) refl refl refl
        (stands c s b o id v w at refl s.words gains (λ a t h few small. stays refl) id v at n k at-k))
        (λ n k at-k q page live. kept-same c v w refl refl refl k k refl refl q page (o.kept id v at n k at-k q page live)) s.homes)
