-- What maps nothing of a page is where no leaf leads at an address of the page, and all leaves are
-- aligned.
use Rattle.std.proofs.Common.{◌≡◌, ℕ, zero, suc, ◌+◌, ◌-◌, ◌%◌, ◌||◌, Bool, true, false, Some, subst, sym, refl, arith}
use Rattle.std.specs.Prelude.{◌↔◌, IsTrue}
use Rattle.pte.specs.declared.scheme.Scheme.{Scheme}
use Rattle.pte.specs.Address.{level_pages, top_level}
use Rattle.pte.specs.Entry.{is_global}
use Rattle.walk.specs.Leads.{IsGlobalAt, Leads, Tables}
use Rattle.walk.specs.Maps.{page_number, LiesIn}
use Rattle.walk.proofs.Paths.{global-here, leads-above, none_above}
use Rattle.spaces.specs.Layout.{layout_of, root_ppn}
use Rattle.spaces.specs.Held.{holders_of}
use Rattle.spaces.proofs.Leaves.{leaf-aligned}
use Rattle.tlb.proofs.Translating.{held_by, lies_in}
use Rattle.views.specs.Rule.{memory_of, tables_in}
use Rattle.views.specs.Board.{LeavesAreAligned, UnmappedIsWhereNoLeafLeads, UnmappedOnBoardIsWhereNoLeafLeads, own_words, shared_words}
use Rattle.views.proofs.EditKeeps.{live-layout}
use Rattle.views.proofs.RealTree.{holders-all, real-tree}

-- whether G stands on a word that leads at a level, or above it
global-found : (scheme : Scheme) (words : Tables) (root va d i t entry : ℕ) → i + d ≡ top_level scheme → Leads scheme words root va i t (Some entry) → (b : Bool) × (IsTrue b ↔ IsGlobalAt scheme words root va i)
global-found scheme words root va zero i t entry at path =
    let top : i ≡ top_level scheme = omega arith in (
      false || is_global entry,
      global-here scheme words root va i t entry false path (
        (λ h. absurd (let bad : false ≡ true = h in cc)),
        (λ g. absurd (none_above scheme words root va (subst (λ k. IsGlobalAt scheme words root va (k + 1)) top g))),
      ),
    )
global-found scheme words root va (suc d) i t entry at path =
    let p = path.pointers (i + 1) (omega arith) (omega arith) in
    let up = leads-above scheme words root va i (i + 1) t (Some entry) (omega arith) (omega arith) path in
    let r = global-found scheme words root va d (i + 1) (path.tables (i + 1)) p.entry (omega arith) (subst (λ w. Leads scheme words root va (i + 1) (path.tables (i + 1)) w) p.is up) in
    (r.0 || is_global entry, global-here scheme words root va i t entry r.0 path r.1)

pub no_leaf_leads : UnmappedIsWhereNoLeafLeads
no_leaf_leads l words holders fits tree place page is-page = (
  (λ none s va level table entry leaf flags less hangs holds canonical leads kind.
      let g = global-found l.scheme words (root_ppn l s) va (top_level l.scheme - level) level table entry (omega (arith, leads.level)) leads in
      none s (page_number va) (leaf + page_number va % level_pages level) flags g.0 less (hangs, lies_in page va is-page holds) (record {
        va = va;
        level = level;
        table = table;
        entry = entry;
        leaf = leaf;
        canonical = canonical;
        of_page = refl;
        leads = leads;
        kind = kind;
        aligned = leaf-aligned l fits words holders tree s va level table entry leaf flags less leads kind;
        place = refl;
        is_global = g.1;
      })),
  (λ none s number ppn flags global less about m.
      none s m.va m.level m.table m.entry m.leaf flags less about.0 (held_by page m.va (subst (LiesIn page) (sym m.of_page) about.1)) m.canonical m.leads m.kind),
)

pub no_leaf_of_own : UnmappedOnBoardIsWhereNoLeafLeads own_words
no_leaf_of_own c s b i v at place page is-page =
    let memory = (b.tables.each i v at).local.memory in
    no_leaf_leads (layout_of c) (own_words c s v) (holders_of (memory_of (layout_of c) v)) memory.layout memory.tree place page is-page

pub no_leaf_of_shared : UnmappedOnBoardIsWhereNoLeafLeads shared_words
no_leaf_of_shared c s b i v at place page is-page =
    no_leaf_leads (layout_of c) (shared_words c s v) (holders-all c s b.tables) (live-layout c b.tables.limits) (real-tree c s b.tables) place page is-page

pub leaves_are_aligned : LeavesAreAligned
leaves_are_aligned c s b space va level table entry leaf flags has leads kind =
    leaf-aligned (layout_of c) (live-layout c b.tables.limits) (tables_in (layout_of c) s.words) (holders-all c s b.tables) (real-tree c s b.tables) space va level table entry leaf flags has leads kind
