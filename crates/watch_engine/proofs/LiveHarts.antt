-- Harts without a leaf's root in their satps add nothing.
use Rattle.std.proofs.Common.{◌≡◌, ◌∙◌, zero, suc, ℕ, false, ◌+◌, ◌<◌, ◌≤◌, Option, None, Some, List, [], ◌∷◌, ◌++◌, cond, length, drop, get_or, ap, sym, refl, arith}
use Rattle.watch.specs.declared.trace.Space.{Space}
use Rattle.watch.specs.Trace.{has_root}
use Rattle.watch_tables.specs.declared.leaf.RootLeaf.{RootLeaf}
use Rattle.watch_engine.specs.declared.held.LastLive.{LastLive}
use Rattle.watch_engine.specs.declared.satps.Harts.{Harts}
use Rattle.watch_engine.specs.Held.{last_live_in}
use Rattle.watch_engine.specs.Satps.{AreAllOf}
use Rattle.watch_engine.specs.Seen.{live_for, with_live}

none_more : (seen : List LastLive) → seen ++ [] ≡ seen
none_more [] = refl
none_more (s ∷ seen) = ap (λ (ss : List LastLive). s ∷ ss) (none_more seen)

not_live : (now : ℕ) (leaf : RootLeaf) (hart : ℕ) (space : Option Space) → has_root space leaf.root ≡ false
    → live_for now leaf hart space ≡ []
not_live now leaf hart None other = refl
not_live now leaf hart (Some space) other = ap (λ b. cond b (last_live_in hart space leaf.entry now ∷ []) []) other

-- so those before the first one with the root may be left out
skipped : (now : ℕ) (leaf : RootLeaf) (hart n : ℕ) (satps : List (Option Space)) (seen : List LastLive) → n ≤ length satps
    → ((k : ℕ) → k < n → has_root (get_or satps k None) leaf.root ≡ false)
    → with_live now leaf (hart + n) (drop n satps) seen ≡ with_live now leaf hart satps seen
skipped now leaf hart zero satps seen within none = ap (λ (h : ℕ). with_live now leaf h satps seen) (omega arith)
skipped now leaf hart (suc n) [] seen within none = absurd (omega arith)
skipped now leaf hart (suc n) (s ∷ satps) seen within none =
    ap (λ (h : ℕ). with_live now leaf h (drop n satps) seen) (omega arith)
    ∙ (skipped now leaf (hart + 1) n satps seen (omega arith) (λ k early. none (suc k) (omega arith))
    ∙ sym (ap (with_live now leaf (hart + 1) satps)
    (ap (λ (ss : List LastLive). seen ++ ss) (not_live now leaf hart s (none 0 (omega arith))) ∙ none_more seen)))

-- and those behind the last one
ended : (now : ℕ) (leaf : RootLeaf) (hart : ℕ) (satps : List (Option Space)) (seen : List LastLive)
    → ((k : ℕ) → has_root (get_or satps k None) leaf.root ≡ false)
    → with_live now leaf hart satps seen ≡ seen
ended now leaf hart [] seen none = refl
ended now leaf hart (s ∷ satps) seen none =
    ap (with_live now leaf (hart + 1) satps)
    (ap (λ (ss : List LastLive). seen ++ ss) (not_live now leaf hart s (none 0)) ∙ none_more seen)
    ∙ ended now leaf (hart + 1) satps seen (λ k. none (suc k))

get_or_dropped : (satps : List (Option Space)) (n k : ℕ) → get_or (drop n satps) k None ≡ get_or satps (n + k) None
get_or_dropped satps zero k = let same : k ≡ 0 + k = omega arith in ap (λ (m : ℕ). get_or satps m None) same
get_or_dropped [] (suc n) k = refl
get_or_dropped (s ∷ satps) (suc n) k =
    let same : suc (n + k) ≡ suc n + k = omega arith in
    get_or_dropped satps n k ∙ ap (λ (m : ℕ). get_or (s ∷ satps) m None) same

pub from_first : (now : ℕ) (leaf : RootLeaf) (satps : List (Option Space)) (harts : Harts) (seen : List LastLive)
    → AreAllOf satps leaf.root harts
    → with_live now leaf harts.first (drop harts.first satps) seen ≡ with_live now leaf 0 satps seen
from_first now leaf satps harts seen all =
    let same : harts.first ≡ 0 + harts.first = omega arith in
    ap (λ (h : ℕ). with_live now leaf h (drop harts.first satps) seen) same
    ∙ skipped now leaf 0 harts.first satps seen (omega (arith, all.order, all.within)) all.before

pub to_end : (now : ℕ) (leaf : RootLeaf) (satps : List (Option Space)) (harts : Harts) (hart at : ℕ) (seen : List LastLive)
    → AreAllOf satps leaf.root harts → harts.end ≤ at
    → with_live now leaf hart (drop at satps) seen ≡ seen
to_end now leaf satps harts hart at seen all late =
    ended now leaf hart (drop at satps) seen
    (λ k. ap (λ (s : Option Space). has_root s leaf.root) (get_or_dropped satps at k) ∙ all.behind (at + k) (omega arith))
