-- The loads of a walk, and a home's reading of its own words, keep the rule of the table words.
use Rattle.std.proofs.Common.{◌≡◌, ℕ, ◌<◌, true, List, [], ◌∷◌, ◌++◌, is_some, Option, Some, IfSome, sym, refl, ap, ◌∙◌, subst, arith}
use Rattle.std.specs.Prelude.{slice_index, slice_set}
use Rattle.std.proofs.lemmas.Bool.Decides.{nat_tests}
use Rattle.std.proofs.lemmas.List.{set-get_or}
use mathlib.Core.Option.{some}
use lib.ListN.{get_elem?}
use Rattle.atomic_table.specs.Table.{State}
use Rattle.pte.specs.Address.{vpn_of}
use Rattle.pte.specs.declared.address.TheConstants.{TABLE_LENGTH}
use Rattle.walk.specs.declared.walking.Progress.{Progress}
use Rattle.walk.specs.declared.walking.Progress.TheVariants as progress
use Rattle.walk.specs.Loads.{GoesOn}
use Rattle.walk.specs.Pointers.{pointed}
use Rattle.walk.specs.Stage.{Stage, OnPath}
use Rattle.walk.specs.Step.{load_of}
use Rattle.walk.proofs.Ending.{goes-load, more-points, on_path-start}
use Rattle.spaces.specs.declared.configuration.Config.{Config}
use Rattle.spaces.specs.Layout.{Layout, layout_of, is_frame}
use Rattle.spaces.specs.Opening.{is_word}
use Rattle.spaces.specs.Held.{word_index, memory_words}
use Rattle.spaces.specs.Tree.{IsAtHome}
use Rattle.spaces.proofs.OpeningTree.{word-is}
use Rattle.spaces.proofs.Paths.{vpn-below}
use Rattle.views.specs.declared.view.Read.{Read}
use Rattle.views.specs.declared.view.View.{View}
use Rattle.views.specs.Rule.{Has, memory_of, tables_in, IsWalk, Seated, Tabled}
use Rattle.views.specs.Board.{Board}
use Rattle.views.proofs.OnBoard.{on-board}
use Rattle.views.specs.Turns.{onward, read_of, walked, IsStart, TellsLoad}
use Rattle.views.proofs.Readings.{has-snoc, pointers-snoc}
use Rattle.views.proofs.TableWords.{wide-words, word-read}
use Rattle.views.proofs.Keeps.{keeps-load}

frame-word : (l : Layout) (st : Stage) → is_frame l st.table ≡ true → is_word l st.table (vpn_of st.va st.level) ≡ true
frame-word l st frame = let less = vpn-below st.va st.level in rw frame (grind (arith, nat_tests))

-- a load leaves the words
abbrev pub Loaded : Config → State ℕ View → ℕ → ℕ → View → Type 0
Loaded c s id at w = Tabled c record { words = slice_set s.words at (slice_index s.words at); homes = s.homes; views = slice_set s.views id w }

pub loaded : (c : Config) (s : State ℕ View) (id at : ℕ) (w : View) → Tabled c record { words = s.words; homes = s.homes; views = slice_set s.views id w } → Loaded c s id at w
loaded c s id at w b = subst (λ (ws : List ℕ). Tabled c record { words = ws; homes = s.homes; views = slice_set s.views id w }) (sym (set-get_or s.words at 0)) b

module _ (c : Config) (s : State ℕ View) (b : Tabled c s) (id : ℕ) (v : View) (at : get_elem? s.views id ≡ some v) where
  -- a walk that begins, and the one in the view
  pub begun-walk : (root : ℕ) (st : Stage) → IsStart c.scheme root st → IsWalk c.scheme (tables_in (layout_of c) s.words) root [] st
  begun-walk root st start = record {
    on = subst (OnPath c.scheme (tables_in (layout_of c) s.words) root) (sym start.is) (on_path-start c.scheme (tables_in (layout_of c) s.words) root st.va st.access st.ctx start.canonical);
    pointers = tt;
    has = tt;
  }

  pub own-walk : (root : ℕ) (st : Stage) → v.walk ≡ Some st → v.root ≡ root → IsWalk c.scheme (tables_in (layout_of c) s.words) root v.reads st
  own-walk root st walking same =
      let t = b.each id v at in
      subst (λ r. IsWalk c.scheme (tables_in (layout_of c) s.words) r v.reads st) same
      (subst (λ (o : Option Stage). IfSome o (IsWalk c.scheme (tables_in (layout_of c) s.words) v.root v.reads)) walking t.walk)

  module _ (root : ℕ) (st : Stage) (reads : List Read) (frame : is_frame (layout_of c) st.table ≡ true) (walk : IsWalk c.scheme (tables_in (layout_of c) s.words) root reads st) where
    abbrev place : ℕ
    place = word_index (layout_of c) st.table (vpn_of st.va st.level)

    abbrev word : ℕ
    word = slice_index s.words place

    read : tables_in (layout_of c) s.words st.table (vpn_of st.va st.level) ≡ Some word
    read = word-read (layout_of c) s.words (wide-words (layout_of c) s.words b.wide) st.table (vpn_of st.va st.level) (frame-word (layout_of c) st frame)

    pub load-goes : GoesOn c.scheme (tables_in (layout_of c) s.words) root st (load_of st (Some word))
    load-goes = goes-load c.scheme (tables_in (layout_of c) s.words) root st (Some word) st.table (vpn_of st.va st.level) (load_of st (Some word)) walk.on (sym read) refl refl refl

    onward-on : (p : Progress) → load_of st (Some word) ≡ p → GoesOn c.scheme (tables_in (layout_of c) s.words) root st p
        → IfSome (onward p) (IsWalk c.scheme (tables_in (layout_of c) s.words) root (reads ++ read_of st word ∷ []))
    onward-on (progress.Found found) e g = tt
    onward-on (progress.Trap trap) e g = tt
    onward-on (progress.More next) e g = record {
      on = g.0;
      pointers = pointers-snoc reads (read_of st word) walk.pointers (ap is_some (more-points st word next e));
      has = has-snoc (tables_in (layout_of c) s.words) reads (read_of st word) walk.has read;
    }

    pub walk-keeps : Loaded c s id place (walked v root st reads word)
    walk-keeps =
        let t = b.each id v at in
        let mine : Seated c (tables_in (layout_of c) s.words) (walked v root st reads word) = record {
          config = t.config;
          local = record { hart = t.local.hart; memory = t.local.memory; alone = t.local.alone; lowest = t.local.lowest };
          own = t.own;
          walk = onward-on (load_of st (Some word)) refl load-goes;
        } in
        loaded c s id place (walked v root st reads word) (keeps-load c s b id v (walked v root st reads word) at refl refl mine)

    pub walk-tells : Board c record { words = slice_set s.words place word; homes = s.homes; views = slice_set s.views id (walked v root st reads word) } → TellsLoad (layout_of c) v root st reads word
    walk-tells after = let t = b.each id v at in record {
      frame = λ next e. b.inside st.table (vpn_of st.va st.level) next.table (ap pointed read ∙ more-points st word next e);
      has_reads = record {
        on = on-board c (slice_set s.words place word) s.homes s.views id v (walked v root st reads word) at after;
        has =
            subst (λ k. Has (tables_in (layout_of k) (slice_set s.words place word)) (reads ++ read_of st word ∷ [])) (sym t.config)
            (subst (λ (ws : List ℕ). Has (tables_in (layout_of c) ws) (reads ++ read_of st word ∷ [])) (sym (set-get_or s.words place 0))
            (has-snoc (tables_in (layout_of c) s.words) reads (read_of st word) walk.has read));
      };
      at_home = λ home. sym (t.own st.table (vpn_of st.va st.level) home) ∙ read;
    }

  module _ (f i : ℕ) (home : IsAtHome (layout_of c) v.hart f) (less : i < TABLE_LENGTH) where
    pub read-keeps : Loaded c s id (word_index (layout_of c) f i) v
    read-keeps = loaded c s id (word_index (layout_of c) f i) v (keeps-load c s b id v v at refl refl (b.each id v at))

    pub read-tells : memory_words (memory_of (layout_of c) v) f i ≡ Some (slice_index s.words (word_index (layout_of c) f i))
    read-tells =
        let t = b.each id v at in
        sym (t.own f i home) ∙ word-read (layout_of c) s.words (wide-words (layout_of c) s.words b.wide) f i (word-is (layout_of c) v.hart f i home less)
