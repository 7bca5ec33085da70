-- What a Load fills is what the tables map at that moment.
use Rattle.pte.specs.declared.scheme.Scheme.{Scheme}
use Rattle.std.proofs.Common.{◌≡◌, ℕ, ◌+◌, ◌*◌, ◌%◌, sym, arith}
use Rattle.std.specs.Prelude.{Ok}
use Rattle.pte.specs.Address.{Holds, bytes_of, pages_of}
use Rattle.pte.specs.declared.address.PageSize.TheVariants.{Kib4}
use Rattle.pte.specs.declared.permission.Access.{Access}
use Rattle.pte.specs.declared.permission.Ctx.{Ctx}
use Rattle.walk.specs.declared.found_or_trap.Found.{Found}
use Rattle.walk.specs.Leads.{Tables}
use Rattle.walk.specs.Maps.{Maps, page_number}
use Rattle.walk.specs.Outcome.{Outcome}
use Rattle.walk.proofs.FoundMembers.{found_page_member}
use Rattle.spaces.specs.Layout.{root_ppn}
use Rattle.tlb.specs.declared.store.Entry.{Entry}
use Rattle.tlb.specs.Mappings.{Mapping, IsMappingOf}
use Rattle.tlb.specs.Answer.{entry_of}
use Rattle.history.specs.Setup.{Setup}
use Rattle.history.specs.Spaces.{asid_of}
use Rattle.history.specs.Turns.{Turn, History}
use Rattle.history.specs.Tables.{words_of}
use Rattle.history.specs.Harts.{space_of}
use Rattle.history.specs.Due.{Lawful}
use Rattle.history.proofs.Walks.{walk_outcome}
use Rattle.laws.specs.Fills.{Fills}

pub numbered : (n : ℕ) → page_number (n * bytes_of Kib4) ≡ n
numbered n = omega arith

found_maps : (scheme : Scheme) (words : Tables) (root va asid : ℕ) (access : Access) (ctx : Ctx) (found : Found) (m : Mapping) → Outcome scheme words root va access ctx (Ok found)
    → IsMappingOf (entry_of asid found) m → Maps scheme words root m.page m.ppn m.flags found.global
found_maps scheme words root va asid access ctx found m is of =
    let at = m.page * bytes_of Kib4 in
    let below = of.page.to in
    let holds : Holds found.page at = record { from = of.page.from; below = omega arith } in
    let member = found_page_member scheme words root va access ctx found is at holds in
    let same : m.ppn ≡ found.ppn + m.page % pages_of found.page.size = of.ppn in
    rw (same, of.flags) (rw (numbered m.page) at member)

pub fill_maps : (C : Setup) (turn : Turn) (H : History) (h : ℕ) (e : Entry) (m : Mapping) → Lawful C H → Fills C h e turn H → IsMappingOf e m
    → Maps C.layout.scheme (words_of C H) (root_ppn C.layout (space_of H h)) m.page m.ppn m.flags e.global
fill_maps C turn H h e m l f of =
    let out = (walk_outcome C H h (space_of H h) f.walk (Ok f.found) l f.walking).0 (sym f.finds) in
    let is : e ≡ entry_of (asid_of C H (space_of H h)) f.found = f.is in
    rw is (found_maps C.layout.scheme (words_of C H) (root_ppn C.layout (space_of H h)) f.walk.va (asid_of C H (space_of H h)) f.walk.access f.walk.ctx f.found m out (rw is at of))
