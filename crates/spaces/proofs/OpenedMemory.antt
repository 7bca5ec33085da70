-- What a memory just opened keeps.
use Rattle.std.proofs.Common.{◌≡◌, ℕ, zero, suc, ◌-◌, ◌^◌, ◌<◌, ◌≤◌, Bool, true, false, cond, Some, None, replicate, sym, ◌∙◌, subst, refl, arith}
use Rattle.std.specs.Prelude.{nat_le, slice_get}
use Rattle.std.proofs.lemmas.Bool.Decides.{nat_tests}
use Rattle.std.proofs.lemmas.List.{length-replicate}
use Rattle.std.proofs.Math.Path.{fun_ext}
use Rattle.pte.specs.declared.address.TheConstants.{TABLE_LENGTH}
use Rattle.pte.specs.Entry.{table_word}
use Rattle.pte.specs.declared.entry.TheConstants.{PPN_BITS}
use Rattle.walk.specs.Leads.{Tables}
use Rattle.walk.specs.Pointers.{pointed}
use Rattle.spaces.specs.declared.configuration.Config.{Config}
use Rattle.spaces.specs.Layout.{Layout, first_window_slot, frame_count, is_frame, is_root, layout_of, window_ppn}
use Rattle.spaces.specs.Limits.{MeetsLimits}
use Rattle.spaces.specs.declared.configuration.TheConstants.{MAX_FRAMES}
use Rattle.spaces.specs.Holders.{Holders}
use Rattle.spaces.specs.Opening.{first_word, is_word, opening, root_word}
use Rattle.spaces.specs.Held.{IsLayout, IsMemory, held_at, holders_of, memory_words}
use Rattle.spaces.specs.Tree.{IsTree, of_window}
use Rattle.spaces.proofs.Opened.{length-first_words, layout-meets, words-open, opened}
use Rattle.spaces.proofs.OpeningTree.{frame-is, opening-tree}
use Rattle.spaces.proofs.EntryWords.{pointed-table}
use Rattle.spaces.proofs.Paths.{some-same}
use Rattle.spaces.proofs.Trees.{pointed-zero}
use Rattle.spaces.proofs.WordLists.{in-memory}

held-none : (n k : ℕ) → held_at (slice_get (replicate n None) k) ≡ None
held-none zero k = refl
held-none (suc n) zero = refl
held-none (suc n) (suc k) = held-none n k

pub holders-open : (c : Config) (f : ℕ) → holders_of (opened c) f ≡ None
holders-open c f = by_test (is_frame (layout_of c) f)
  where
    by_test : (b : Bool) → cond b (held_at (slice_get (replicate (frame_count (layout_of c)) None) (f - (layout_of c).base))) None ≡ None
    by_test true = held-none (frame_count (layout_of c)) (f - (layout_of c).base)
    by_test false = refl

pub memory-open : (c : Config) → MeetsLimits MAX_FRAMES c → IsMemory (opened c)
memory-open c h = record {
  layout = layout-meets c h;
  words = length-first_words (layout_of c) _;
  holders = length-replicate _ None;
  tree =
      subst (λ (x : Holders). IsTree (layout_of c) (memory_words (opened c)) x) (fun_ext (λ f. sym (holders-open c f)))
      (subst (λ (x : Tables). IsTree (layout_of c) x (λ _. None)) (fun_ext (λ f. fun_ext (λ i. sym (words-open (layout_of c) _ f i)))) (opening-tree (layout_of c) (layout-meets c h)));
}

-- the pointers of the opening lead to the window's tables
pub opening-inside : (l : Layout) → IsLayout l → (f i g : ℕ) → pointed (opening l f i) ≡ Some g → is_frame l g ≡ true
opening-inside l fits f i g e = by-word (is_word l f i) refl e
  where
    by-slot : i < TABLE_LENGTH → (k : Bool) → nat_le (first_window_slot l) i ≡ k → pointed (Some (cond k (table_word (window_ppn l (i - first_window_slot l)) true) 0)) ≡ Some g → is_frame l g ≡ true
    by-slot less true t e =
        let from : first_window_slot l ≤ i = grind (arith, nat_tests, t) in
        let slot : i - first_window_slot l < l.window = omega (arith, fits.window) in
        let fit : window_ppn l (i - first_window_slot l) < 2 ^ PPN_BITS = omega (arith, fits.ppns_fit) in
        frame-is l 0 g (of_window (i - first_window_slot l) slot refl (sym (some-same _ _ (sym (pointed-table (window_ppn l (i - first_window_slot l)) true fit) ∙ e))))
    by-slot less false t e = absurd (let bad : None ≡ Some g = sym pointed-zero ∙ e in cc)

    by-root : i < TABLE_LENGTH → (r : Bool) → pointed (Some (cond r (root_word l i) 0)) ≡ Some g → is_frame l g ≡ true
    by-root less true e = by-slot less (nat_le (first_window_slot l) i) refl e
    by-root less false e = absurd (let bad : None ≡ Some g = sym pointed-zero ∙ e in cc)

    by-word : (w : Bool) → is_word l f i ≡ w → pointed (cond w (Some (first_word l f i)) None) ≡ Some g → is_frame l g ≡ true
    by-word true t e = let m = in-memory l f i t in by-root m.index (is_root l f) e
    by-word false t e = absurd (let bad : None ≡ Some g = e in cc)
