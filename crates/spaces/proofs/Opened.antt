-- The words at the opening, and what a memory just opened keeps.
use Rattle.std.proofs.Common.{Option, ◌≡◌, ℕ, zero, suc, ◌+◌, ◌*◌, ◌/◌, ◌%◌, ◌<◌, ◌≤◌, Bool, true, false, cond, Some, None, List, [], ◌∷◌, length, length-append, replicate, map, sym, ◌∙◌, ap, refl, inl, inr, arith}
use Rattle.std.specs.Prelude.{◌&&◌, nat_le, nat_lt, slice_get}
use borrow.Author.Tests.{ltb-true, leb-true}
use Rattle.std.proofs.lemmas.Bool.{and_parts, cases_lt}
use Rattle.std.proofs.lemmas.Bool.Decides.{nat_tests}
use Rattle.std.proofs.lemmas.List.{ext_get_or, length-map}
use Rattle.std.proofs.lemmas.List.Elements.{All-map}
use Rattle.std.proofs.lemmas.Option.{get_or_from_slice_get}
use Rattle.pte.specs.declared.address.TheConstants.{TABLE_LENGTH}
use Rattle.spaces.specs.declared.configuration.Config.{Config}
use Rattle.spaces.specs.declared.configuration.Space.{Space}
use Rattle.spaces.specs.declared.places.Place.{Place}
use Rattle.spaces.proofs.Lists.{slice_get-front, slice_get-last}
use Rattle.spaces.specs.Layout.{Layout, layout_of, frame_count, is_frame, is_root}
use Rattle.spaces.specs.Limits.{MeetsLimits}
use Rattle.spaces.specs.declared.configuration.TheConstants.{MAX_FRAMES}
use Rattle.spaces.specs.Opening.{first_word, first_words, is_word, opening, root_word}
use Rattle.spaces.specs.Held.{Held, IsLayout, word_index, memory_words}

pub length-first_words : (l : Layout) (n : ℕ) → length (first_words l n) ≡ n
length-first_words l zero = refl
length-first_words l (suc n) =
    let more = length-append (first_words l n) (first_word l (l.base + n / TABLE_LENGTH) (n % TABLE_LENGTH) ∷ []) in
    let old = length-first_words l n in
    omega arith

pub slice_get-first_words : (l : Layout) (n k : ℕ) → k < n → slice_get (first_words l n) k ≡ Some (first_word l (l.base + k / TABLE_LENGTH) (k % TABLE_LENGTH))
slice_get-first_words l zero k h = absurd (omega arith)
slice_get-first_words l (suc n) k h =
    let all = length-first_words l n in
    elim (cases_lt k n) [
      | inl less ↦ slice_get-front (first_words l n) _ k (omega arith) ∙ slice_get-first_words l n k less
      | inr more ↦
          let last : n ≡ k = omega arith in
          slice_get-last (first_words l n) _ k (omega arith) ∙ ap (λ m. Some (first_word l (l.base + m / TABLE_LENGTH) (m % TABLE_LENGTH))) last
    ]

-- a list is that of these words if each of its words is: of a root as told, of any other frame 0
pub first_words-is : (l : Layout) (words : List ℕ) (from to : ℕ) → from ≡ l.window → to ≡ l.window + length l.homes → length words ≡ frame_count l * TABLE_LENGTH
    → ((n : ℕ) → n < frame_count l * TABLE_LENGTH → slice_get words n ≡ Some (cond (nat_le from (n / TABLE_LENGTH) && nat_lt (n / TABLE_LENGTH) to) (root_word l (n % TABLE_LENGTH)) 0))
    → words ≡ first_words l (frame_count l * TABLE_LENGTH)
first_words-is l words from to first last long each =
    ext_get_or 0 words (first_words l (frame_count l * TABLE_LENGTH)) (long ∙ sym (length-first_words l _))
    (λ n less.
    let below : n < frame_count l * TABLE_LENGTH = omega (arith, less, long) in
    get_or_from_slice_get words n _ 0 (each n below) ∙ ap (λ b. cond b (root_word l (n % TABLE_LENGTH)) 0) (same (n / TABLE_LENGTH))
    ∙ sym (get_or_from_slice_get (first_words l (frame_count l * TABLE_LENGTH)) n _ 0 (slice_get-first_words l _ n below)))
  where
    same : (k : ℕ) → nat_le from k && nat_lt k to ≡ is_root l (l.base + k)
    same k = grind (arith, nat_tests)

pub words-open : (l : Layout) (holders : List (Option Place)) (ppn i : ℕ) → memory_words (record { layout = l; words = first_words l (frame_count l * TABLE_LENGTH); holders = holders }) ppn i ≡ opening l ppn i
unfolding memory_words
words-open l holders ppn i = by_test (is_word l ppn i) refl
  where
    there : is_word l ppn i ≡ true → slice_get (first_words l (frame_count l * TABLE_LENGTH)) (word_index l ppn i) ≡ Some (first_word l ppn i)
    there h =
        let parts = and_parts (is_frame l ppn) (nat_lt i TABLE_LENGTH) h in
        let frame = and_parts (nat_le l.base ppn) (nat_lt ppn (l.base + frame_count l)) parts.0 in
        let from : l.base ≤ ppn = leb-true l.base ppn frame.0 in
        let below : ppn < l.base + frame_count l = ltb-true ppn (l.base + frame_count l) frame.1 in
        let index : i < TABLE_LENGTH = ltb-true i TABLE_LENGTH parts.1 in
        let table : l.base + word_index l ppn i / TABLE_LENGTH ≡ ppn = omega arith in
        let place : word_index l ppn i % TABLE_LENGTH ≡ i = omega arith in
        slice_get-first_words l (frame_count l * TABLE_LENGTH) (word_index l ppn i) (omega arith)
        ∙ ap (λ f. Some (first_word l f (word_index l ppn i % TABLE_LENGTH))) table ∙ ap (λ n. Some (first_word l ppn n)) place

    by_test : (b : Bool) → is_word l ppn i ≡ b → cond b (slice_get (first_words l (frame_count l * TABLE_LENGTH)) (word_index l ppn i)) None ≡ cond b (Some (first_word l ppn i)) None
    by_test true h = there h
    by_test false h = refl

pub layout-meets : (c : Config) → MeetsLimits MAX_FRAMES c → IsLayout (layout_of c)
layout-meets c h = record {
  some_space = omega (arith, h.some_space, length-map {A = Space} {B = ℕ});
  spaces = omega (arith, h.spaces, length-map {A = Space} {B = ℕ});
  harts = omega (arith, h.spares, h.harts);
  homes = All-map (λ home. home < length c.spares.items) (λ s. s.home) c.spaces.items (λ k d less. omega (arith, h.homes k d less, h.spares));
  some_window = h.some_window;
  window = h.window;
  frames_fit = h.frames_fit;
  ppns_fit = h.ppns_fit;
}

abbrev pub made : Config → List ℕ → List ℕ → List ℕ → List (Option Place) → Held
made c homes spares words holders = record { layout = record { scheme = c.scheme; window = c.window; base = c.base; homes = homes; spares = spares }; words = words; holders = holders }

abbrev pub opened : Config → Held
opened c = record { layout = layout_of c; words = first_words (layout_of c) (frame_count (layout_of c) * TABLE_LENGTH); holders = replicate (frame_count (layout_of c)) None }

-- the fields that open puts together
pub opened-is : (c : Config) (homes spares words : List ℕ) (holders : List (Option Place)) → homes ≡ map (λ s. s.home) c.spaces.items → spares ≡ c.spares.items
    → words ≡ first_words (layout_of c) (frame_count (layout_of c) * TABLE_LENGTH) → holders ≡ replicate (frame_count (layout_of c)) None
    → made c homes spares words holders ≡ opened c
opened-is c homes spares words holders h s w u =
    ap (λ x. made c x spares words holders) h ∙ ap (λ x. made c (map (λ s. s.home) c.spaces.items) x words holders) s
    ∙ ap (λ x. made c (map (λ s. s.home) c.spaces.items) c.spares.items x holders) w
    ∙ ap (λ x. made c (map (λ s. s.home) c.spaces.items) c.spares.items (first_words (layout_of c) (frame_count (layout_of c) * TABLE_LENGTH)) x) u
