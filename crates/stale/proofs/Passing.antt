-- Each entry of a TLB lets some access through: that of the walk which filled it.
use Rattle.std.proofs.Common.{◌≡◌, ℕ, zero, suc, ◌-◌, Bool, [], ◌∷◌, true, false, cond, not, ◌||◌, Option, Some, None, refl, sym, subst}
use Rattle.std.specs.Prelude.{All, Result, Ok, ◌==◌}
use Rattle.std.proofs.lemmas.Bool.{not-false}
use Rattle.std.proofs.lemmas.List.Elements.{All-nil}
use Rattle.pte.specs.declared.permission.Access.{Access}
use Rattle.pte.specs.declared.permission.Ctx.{Ctx}
use Rattle.pte.specs.declared.flags.PteFlags.{PteFlags}
use Rattle.pte.specs.declared.entry.Kind.{Kind}
use Rattle.pte.specs.declared.entry.Kind.TheVariants as kinds
use Rattle.pte.specs.Address.{level_count}
use Rattle.pte.specs.Entry.{kind_of, is_global}
use Rattle.pte.specs.Permission.{is_permitted}
use Rattle.walk.specs.declared.found_or_trap.Found.{Found}
use Rattle.walk.specs.declared.found_or_trap.Trap.{Trap}
use Rattle.walk.specs.declared.found_or_trap.Why.{Why}
use Rattle.walk.specs.declared.found_or_trap.Why.TheVariants.{Denied, Misaligned}
use Rattle.walk.specs.declared.walking.Progress.TheVariants as progress
use Rattle.walk.specs.Answer.{accessed_fault, flags_fault, found_at, found_unless, is_aligned, kind_answer, leaf_fault}
use Rattle.walk.specs.Leads.{Tables, word_at}
use Rattle.walk.specs.Loads.{answer_after, finish}
use Rattle.walk.specs.Stage.{Stage, start_of}
use Rattle.spaces.specs.Layout.{root_ppn}
use Rattle.walk.specs.Step.{ended, load_of, step_of}
use Rattle.tlb.specs.declared.store.Entry.{Entry}
use Rattle.history.specs.Setup.{Setup}
use Rattle.history.specs.Turns.{Turn, History}
use Rattle.history.specs.Harts.{entries_of, space_of}
use Rattle.history.specs.Tables.{words_of}
use Rattle.laws.specs.Fills.{Fills}
use Rattle.laws.proofs.Filling.{entries_each}
use Rattle.laws.proofs.Tools.{by_test}

past : (b : Bool) (why : Why) (rest : Option Why) → cond b (Some why) rest ≡ None → (b ≡ false) × (rest ≡ None)
past true why rest e = absurd (cc)
past false why rest e = (refl, e)

passed_by : (b : Bool) (why : Why) (rest : Option Why) → b ≡ true → rest ≡ None → cond (not b) (Some why) rest ≡ None
passed_by true why rest t e = e
passed_by false why rest t e = absurd (cc)

passes : (access : Access) (ctx : Ctx) (flags : PteFlags) → is_permitted flags.0 access ctx ≡ true → accessed_fault access flags ≡ None → flags_fault access ctx flags ≡ None
passes access ctx flags allowed rest = passed_by (is_permitted flags.0 access ctx) Denied (accessed_fault access flags) allowed rest

abbrev pub Passes : Entry → Type 0
Passes e = (access : Access) × (ctx : Ctx) × (flags_fault access ctx e.flags ≡ None)

no_fault : (go : Stage → Result Found Trap) (o : Option Why) (access : Access) (at found : Found) → finish go (ended (found_unless o access at)) ≡ Ok found → (o ≡ None) × (at ≡ found)
no_fault go None access at found e = (refl, cc)
no_fault go (Some why) access at found e = absurd (cc)

abbrev Finds : (Stage → Result Found Trap) → Stage → Type 0
Finds go s = (next : Stage) (found : Found) → next.access ≡ s.access → next.ctx ≡ s.ctx → go next ≡ Ok found → flags_fault s.access s.ctx found.flags ≡ None

kind_passes : (go : Stage → Result Found Trap) (s : Stage) → Finds go s → (k : Kind) (found : Found) → finish go (step_of s k) ≡ Ok found → flags_fault s.access s.ctx found.flags ≡ None
kind_passes go s later kinds.Invalid found e = absurd (cc)
kind_passes go s later kinds.Reserved found e = absurd (cc)
kind_passes go s later (kinds.Leaf ppn flags) found e =
    let f = no_fault go (leaf_fault s.access s.ctx s.level ppn flags) s.access (found_at s.va s.level (s.global || is_global flags.0) ppn flags) found e in
    let p = past (not (is_permitted flags.0 s.access s.ctx)) Denied _ f.0 in
    let q = past (not (is_aligned s.level ppn)) Misaligned (accessed_fault s.access flags) p.1 in
    let here = passes s.access s.ctx flags (not-false (is_permitted flags.0 s.access s.ctx) p.0) q.1 in
    subst (λ (x : Found). flags_fault s.access s.ctx x.flags ≡ None) f.1 here
kind_passes go s later (kinds.Table ppn global) found e =
    let next : Stage = record s { level = s.level - 1; table = ppn; global = s.global || global } in
    by_test (λ v. finish go (cond v (ended (kind_answer s.va s.access s.ctx s.level s.global (kinds.Table ppn global))) (progress.More next)) ≡ Ok found → flags_fault s.access s.ctx found.flags ≡ None) (s.level == 0)
    (λ _ q. absurd (cc)) (λ _ q. later next found refl refl q) e

load_passes : (go : Stage → Result Found Trap) (s : Stage) → Finds go s → (o : Option ℕ) (found : Found) → finish go (load_of s o) ≡ Ok found → flags_fault s.access s.ctx found.flags ≡ None
load_passes go s later None found e = absurd (cc)
load_passes go s later (Some word) found e = kind_passes go s later (kind_of word) found e

answer_passes : (n : ℕ) (words : Tables) (s : Stage) (found : Found) → answer_after n words s ≡ Ok found → flags_fault s.access s.ctx found.flags ≡ None
answer_passes zero words s found e = absurd (cc)
answer_passes (suc n) words s found e =
    load_passes (answer_after n words) s
    (λ next f access ctx q. subst (λ (x : Ctx). flags_fault s.access x f.flags ≡ None) ctx (subst (λ (x : Access). flags_fault x next.ctx f.flags ≡ None) access (answer_passes n words next f q)))
    (word_at words s.va s.level s.table) found e

fill_passes : (C : Setup) (turn : Turn) (H : History) (h : ℕ) (e : Entry) → Fills C h e turn H → Passes e
fill_passes C turn H h e f =
    let scheme = C.layout.scheme in
    let start = start_of scheme (root_ppn C.layout (space_of H h)) f.walk.va f.walk.access f.walk.ctx in
    let found : flags_fault f.walk.access f.walk.ctx f.found.flags ≡ None = answer_passes (level_count scheme) (words_of C H) start f.found f.finds in
    (f.walk.access, f.walk.ctx, subst (λ (x : Entry). flags_fault f.walk.access f.walk.ctx x.flags ≡ None) (sym f.is) found)

-- each entry of a TLB lets some access through
pub held_passes : (C : Setup) (H : History) (h : ℕ) → All Passes (entries_of C H h)
held_passes C [] h = All-nil Passes
held_passes C (turn ∷ H) h = entries_each C turn.event turn.reply H h Passes (held_passes C H h) (λ e f. fill_passes C turn H h e f)
