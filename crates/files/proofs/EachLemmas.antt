-- A loop that reads each element, and stops at the first that it refuses.
use Rattle.std.proofs.Common.{◌≡◌, ℕ, ◌+◌, ◌<◌, List, [], ◌∷◌, ◌++◌, length, get_or, drop, map, Option, Some, None, option_map, refl, sym, ap, ◌∙◌, append_assoc, append-nil, Bor, Vec, Global, ◌≤◌, le-leb}
use Rattle.std.proofs.lemmas.List.{drop_more, length-map}
use Rattle.std.proofs.Math.Seq.{drop-length}
use Rattle.toml.specs.Data.{Data, as_str, as_array}
use Rattle.toml.specs.View.{view, items_of, array_view}
use Rattle.toml.specs.declared.value.Value.{Value}
use Rattle.files.specs.Keys.{each, listed, texts_of}
use Rattle.pte.specs.declared.TheConstants.{MAX_HARTS}
use Rattle.spaces.specs.declared.configuration.TheConstants.{MAX_SPACES}
use Rattle.files.specs.Settings.{few_spaces, space_of, spares_of, whole_of, wholes_of}

-- what is read so far, and what each of the rest gives, is what each of them all gives
abbrev pub EachSoFar : {X Y : Type 0} → (X → Option Y) → List X → ℕ → List Y → Type 0
EachSoFar f xs i front = each f xs ≡ option_map (λ ys. front ++ ys) (each f (drop i xs))

map-nil : {Y : Type 0} (o : Option (List Y)) → o ≡ option_map (λ ys. [] ++ ys) o
map-nil None = refl
map-nil (Some ys) = refl

pub each_start : {X Y : Type 0} (f : X → Option Y) (xs : List X) → EachSoFar f xs 0 []
each_start f xs = map-nil (each f xs)

one_more : {Y : Type 0} (front : List Y) (y : Y) (o : Option (List Y)) → option_map (λ ys. front ++ ys) (option_map (λ ys. y ∷ ys) o) ≡ option_map (λ ys. (front ++ y ∷ []) ++ ys) o
one_more front y None = refl
one_more front y (Some ys) = ap Some (sym (append_assoc front (y ∷ []) ys))

pub each_more : {X Y : Type 0} (f : X → Option Y) (xs : List X) (i : ℕ) (front : List Y) (d : X) (y : Y) → i < length xs → f (get_or xs i d) ≡ Some y → EachSoFar f xs i front → EachSoFar f xs (i + 1) (front ++ y ∷ [])
each_more f xs i front d y lt is so_far =
    so_far ∙ rw (drop_more xs i d lt, is) (one_more front y (each f (drop (i + 1) xs)))

pub each_refused : {X Y : Type 0} (f : X → Option Y) (xs : List X) (i : ℕ) (front : List Y) (d : X) → i < length xs → f (get_or xs i d) ≡ None → EachSoFar f xs i front → None ≡ each f xs
each_refused f xs i front d lt is so_far = sym (so_far ∙ rw (drop_more xs i d lt, is))

pub each_end : {X Y : Type 0} (f : X → Option Y) (xs : List X) (front : List Y) → EachSoFar f xs (length xs) front → Some front ≡ each f xs
each_end f xs front so_far = sym (so_far ∙ rw (drop-length xs) (ap Some (append-nil front)))

pub each-map : {W X Y : Type 0} (f : X → Option Y) (g : W → X) (ws : List W) → each f (map g ws) ≡ each (λ w. f (g w)) ws
each-map f g [] = refl
each-map f g (w ∷ ws) = rw (each-map f g ws)

-- ---- the readers that go over their texts so

pub listed-items : (ds : List Data) → listed (items_of ds) ≡ ds
listed-items [] = refl
listed-items (d ∷ ds) = ap (λ rest. d ∷ rest) (listed-items ds)

pub texts_of_array : (values : Vec Value Global) (d : Data) → Some (array_view values) ≡ as_array d → texts_of d ≡ each (λ value. as_str (view value)) values.items
texts_of_array values d is = rw (sym is, listed-items (map view values.items)) (each-map as_str view values.items)

-- what a read of texts gives past their end
abbrev pub no_text : Bor (List ℕ)
no_text = record { ref_ptr = (0, 0); now = [] }

-- ---- the configuration

pub spaces_fit : (ts : List (Bor (List ℕ))) → length ts ≤ MAX_SPACES → few_spaces (map (λ text. text.now) ts) ≡ each (λ (text : Bor (List ℕ)). space_of text.now) ts
spaces_fit ts fits = rw (length-map ts (λ text. text.now), le-leb (length ts) MAX_SPACES fits) (each-map space_of (λ (text : Bor (List ℕ)). text.now) ts)

pub wholes_fit : (values : List Value) → length values ≤ MAX_HARTS → wholes_of (map view values) ≡ each (λ value. whole_of (view value)) values
wholes_fit values fits = rw (length-map values view, le-leb (length values) MAX_HARTS fits) (each-map whole_of view values)

pub spares_of_array : (values : Vec Value Global) (d : Data) → Some (array_view values) ≡ as_array d → wholes_of (map view values.items) ≡ spares_of d
spares_of_array values d is = rw (sym is, listed-items (map view values.items)) refl
