-- What the shared words map and what harts hold is global exactly in the window.
use Rattle.std.proofs.Common.{◌≡◌, ◌*◌, ℕ, Bool, true, false, if◌then◌else◌, Option, Some, None, IsTrue, refl, sym, ◌∙◌, arith}
use Rattle.std.specs.Prelude.{◌↔◌}
use Rattle.std.proofs.lemmas.List.Elements.{All-contains}
use Rattle.pte.specs.declared.address.PageSize.TheVariants.{Kib4}
use Rattle.pte.specs.Address.{bytes_of}
use Rattle.spaces.specs.Layout.{layout_of}
use Rattle.spaces.proofs.EditLaws.{global-window}
use Rattle.views.specs.Board.{LeavesAreGlobalInWindow, MappingsAreGlobalInWindow}
use Rattle.views.specs.Orders.{IsGlobalInWindow}
use Rattle.views.proofs.EditKeeps.{live-layout}
use Rattle.views.proofs.RealTree.{holders-all, real-tree}
use Rattle.views.specs.Rule.{tables_in}

pub leaves : LeavesAreGlobalInWindow
leaves c s b space number ppn flags global has maps =
    global-window (layout_of c) (tables_in (layout_of c) s.words) (holders-all c s b.tables) (live-layout c b.tables.limits) (real-tree c s b.tables) space number ppn flags global has maps

-- a mapping is for every address space exactly if its entry is global
for_all : (g : Bool) (asid : ℕ) (own : Option ℕ) → own ≡ (if g then None else Some asid) → (own ≡ None) ↔ IsTrue g
for_all true asid own e = ((λ none. refl), (λ t. e))
for_all false asid own e = ((λ none. let bad : None ≡ Some asid = sym none ∙ e in absurd cc), (λ t. let bad : false ≡ true = t in absurd cc))

pub mappings : MappingsAreGlobalInWindow
mappings c s b j v at m by =
    let e = by.0 in
    let of = by.2 in
    let window : IsGlobalInWindow (layout_of c) e = All-contains (IsGlobalInWindow (layout_of c)) v.entries e (b.orders.window j v at) by.1 in
    let there = window (m.page * bytes_of Kib4) record { from = of.page.from; below = omega (arith, of.page.to) } in
    let all = for_all e.global e.asid m.asid of.asid in
    ((λ none. there.0 (all.0 none)), (λ slot. all.1 (there.1 slot)))
