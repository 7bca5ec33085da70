-- Who has the same word in the root can fill what is below it.
use Rattle.std.proofs.Common.{◌≡◌, ◌∙◌, ap, sym, refl, Bool, true, false, Some, List, [], ◌∷◌, ◌++◌, get_or, cond, append-nil}
use Rattle.std.specs.Prelude.{◌==◌, ◌&&◌, nat_le, not}
use Rattle.std.proofs.lemmas.Bool.{and_from, and_parts, or_left}
use Rattle.pte.specs.declared.scheme.Scheme.{Scheme}
use Rattle.pte.specs.Address.{top_level, vpn_of}
use Rattle.walk.specs.Leads.{Tables}
use Rattle.tlb.specs.declared.store.Entry.{Entry}
use Rattle.watch.specs.declared.trace.Space.{Space}
use Rattle.watch.specs.ComputedTraces.{is_live_in}
use Rattle.watch.specs.Holding.{HasLeaf}
use Rattle.watch.proofs.Computed.{leaf_iff}
use Rattle.watch_tables.specs.declared.leaf.RootLeaf.{RootLeaf}
use Rattle.watch_tables.proofs.RootWords.{leaf-like}
use Rattle.watch_engine.specs.declared.held.LastLive.{LastLive}
use Rattle.watch_engine.specs.declared.left.Left.{Left}
use Rattle.watch_engine.specs.declared.live.Answer.{Answer}
use Rattle.watch_engine.specs.declared.live.Answer.TheVariants.{Live, NotLive, Unasked}
use Rattle.watch_engine.specs.Filling.{Agrees, AreAnswers, is_live_answer}
use Rattle.watch_engine.specs.Held.{last_translation, translation_in}
use Rattle.watch_engine.specs.Seen.{is_kept, kept_for, last_of, with_kept}
use Rattle.watch_engine.specs.Shared.{IsBelow, are_all_live}
use Rattle.watch_engine.specs.View.{View, is_live_for}

pub live-below : (scheme : Scheme) (words : Tables) (leaf : RootLeaf) (space : Space) → words leaf.root (vpn_of leaf.entry.page.base (top_level scheme)) ≡ words space.root (vpn_of leaf.entry.page.base (top_level scheme))
    → (e : Entry) (s : Space) → IsBelow scheme leaf e → HasLeaf scheme words leaf.root e → is_live_in scheme words (Some space) (translation_in s e) ≡ true
live-below scheme words leaf space same e s below has =
    let there = leaf-like scheme words leaf.root space.root e (ap (words leaf.root) below.index ∙ same ∙ ap (words space.root) (sym below.index)) has in
    let leaf : HasLeaf scheme words space.root (translation_in s e).entry =
    record { table = there.table; word = there.word; page = there.page; leads = there.leads; kind = there.kind; aligned = there.aligned; global = there.global } in
    and_from _ _ (or_left _ _ below.global) ((leaf_iff scheme words space.root (translation_in s e).entry).1 leaf)

-- of a leaf that each hart which left can fill nothing is kept
not-kept : (a b live d : Bool) → live ≡ true → a && (b && (not live && d)) ≡ false
not-kept false b live d is = refl
not-kept true false live d is = refl
not-kept true true true d is = refl
not-kept true true false d is = cc

live-known : (answer : Answer) (live : Bool) → is_live_answer answer ≡ true → Agrees answer live → live ≡ true
live-known Unasked live is agrees = cc
live-known Live live is agrees = agrees
live-known NotLive live is agrees = cc

pub none-kept : (v : View) (leaf : RootLeaf) (answers : List Answer) → AreAnswers v leaf.entry answers
    → (left : List Left) (seen : List LastLive) → are_all_live answers left ≡ true → with_kept v leaf left seen ≡ seen
none-kept v leaf answers are [] seen all = refl
none-kept v leaf answers are (l ∷ left) seen all =
    let parts = and_parts (is_live_answer (get_or answers l.hart Unasked)) _ all in
    let live : is_live_for v l.hart (last_translation (last_of leaf l)) ≡ true = live-known (get_or answers l.hart Unasked) _ parts.0 (are.each l.hart l.space) in
    let none : is_kept v leaf l ≡ false = not-kept (l.space.root == leaf.root) (nat_le leaf.since l.left) _ _ live in
    let same : seen ++ kept_for v leaf l ≡ seen = ap (λ (kept : Bool). seen ++ cond kept (last_of leaf l ∷ []) []) none ∙ append-nil seen in
    ap (with_kept v leaf left) same ∙ none-kept v leaf answers are left seen parts.1
