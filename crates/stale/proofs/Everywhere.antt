-- What one space maps through which a page is reached, each such space maps.
use Rattle.std.proofs.Common.{◌≡◌, ℕ, ◌<◌, true, false, length, Option, Some, None, sym, ◌∙◌, subst}
use Rattle.std.specs.Prelude.{is_none}
use Rattle.pte.specs.declared.flags.PteFlags.{PteFlags}
use Rattle.walk.specs.Leads.{Tables}
use Rattle.walk.specs.Maps.{Maps}
use Rattle.spaces.specs.declared.places.Place.{Place}
use Rattle.spaces.specs.declared.places.Place.TheVariants.{Space, Kernel}
use Rattle.spaces.specs.Edits.{is_kernel}
use Rattle.spaces.specs.Effects.{HangsBelow}
use Rattle.spaces.specs.Held.{IsLayout}
use Rattle.spaces.specs.Holders.{Holders}
use Rattle.spaces.specs.Layout.{Layout, root_ppn}
use Rattle.spaces.specs.Tree.{IsTree}
use Rattle.spaces.proofs.Leaves.{maps-of, member-of}
use Rattle.tlb.specs.Mappings.{Mapping}
use Rattle.history.specs.Setup.{Setup}
use Rattle.history.specs.Turns.{History}
use Rattle.history.specs.Spaces.{holder_of}
use Rattle.history.specs.Staleness.{Reaches}
use Rattle.history.specs.Tables.{words_of}
use Rattle.laws.proofs.Asids.{asids_differ}
use Rattle.laws.proofs.TreeKept.{tree}
use Rattle.stepcore.specs.State.{State}
use Rattle.stepcore.specs.Stands.{Stands}
use Rattle.stale.specs.Mapped.{IsMappedIn, IsMappedSomewhere}
use Rattle.stale.proofs.Bridge.{from_same, reached_reaches}

pub somewhere : (m : State) (p : Mapping) → IsMappedIn m p → IsMappedSomewhere m p
somewhere m p mapped = record { space = mapped.some.0; reached = mapped.some.1; maps = mapped.each mapped.some.0 mapped.some.1 }

hangs_each : (place : Place) (s : ℕ) → true ≡ is_kernel place → HangsBelow place s
hangs_each (Space own) s e = absurd (cc)
hangs_each Kernel s e = tt

-- what is global is mapped from each root
module _ (l : Layout) (fits : IsLayout l) (words : Tables) (holders : Holders) (is_tree : IsTree l words holders) (s t number ppn : ℕ) (flags : PteFlags)
    (has_s : s < length l.homes) (has_t : t < length l.homes) where
  in_each_root : Maps l.scheme words (root_ppn l s) number ppn flags true → Maps l.scheme words (root_ppn l t) number ppn flags true
  in_each_root maps =
      let m = member-of l fits words holders is_tree s number ppn flags true has_s maps in
      maps-of l fits words holders is_tree t number ppn flags true has_t (record {
        va = m.va;
        level = m.level;
        table = m.table;
        entry = m.entry;
        leaf = m.leaf;
        canonical = m.canonical;
        of_page = m.of_page;
        on = record {
          place = m.on.place;
          hangs = hangs_each m.on.place t m.reach;
          has = m.on.has;
          within = m.on.within;
          low = m.on.low;
          on = m.on.on;
          word = m.on.word;
          kind = m.on.kind;
        };
        aligned = m.aligned;
        place = m.place;
        reach = m.reach;
      })

module _ (C : Setup) (m : State) (H : History) (st : Stands C m H) where
  in_layout : (s : ℕ) → s < length C.asids → s < length C.layout.homes
  in_layout s there = subst (λ n. s < n) st.within.homes there

  from_each : (of : Option ℕ) (s t number ppn : ℕ) (flags : PteFlags) → Reaches C H of s → Reaches C H of t
      → Maps C.layout.scheme (words_of C H) (root_ppn C.layout s) number ppn flags (is_none of) → Maps C.layout.scheme (words_of C H) (root_ppn C.layout t) number ppn flags (is_none of)
  from_each None s t number ppn flags a b maps =
      in_each_root C.layout st.within.layout (words_of C H) (holder_of H) (tree C st.within.layout st.within.homes H st.lawful st.pages) s t number ppn flags (in_layout s a) (in_layout t b) maps
  from_each (Some asid) s t number ppn flags a b maps =
      let same : s ≡ t = asids_differ C st.within H st.lawful s t a.there b.there a.kept b.kept (a.same ∙ sym b.same) in
      subst (λ (x : ℕ). Maps C.layout.scheme (words_of C H) (root_ppn C.layout x) number ppn flags false) same maps

  pub everywhere : (p : Mapping) → IsMappedSomewhere m p → IsMappedIn m p
  everywhere p one = record {
    some = (one.space, one.reached);
    each = λ t reached.
        subst (λ (T : Type 0). T) (sym (from_same C m H st t p))
        (from_each p.asid one.space t p.page p.ppn p.flags (reached_reaches C m H st p.asid one.space one.reached) (reached_reaches C m H st p.asid t reached)
        (subst (λ (T : Type 0). T) (from_same C m H st one.space p) one.maps));
  }
