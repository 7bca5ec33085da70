-- Keys in a list, and chains of places that find the newest place of a key: a bucket has a chain of the
-- places of its keys.
use Rattle.std.specs.Prelude.{ℕ, Bool, ◌+◌, ◌-◌, ◌*◌, ◌%◌, ◌/◌, ◌^◌, ◌≡◌, ◌==◌, ◌<◌, ◌≤◌, bit_and, if◌then◌else◌}
use Rattle.std.specs.Prelude.{List, [], ◌∷◌, length, slice_index, take}

-- one more than the last place at which a list has a key that passes a test, or what was found before it
abbrev pub last_from : (ℕ → Bool) → ℕ → ℕ → List ℕ → ℕ
last_from test found place [] = found
last_from test found place (k ∷ keys) =
    last_from test (if test k then place + 1 else found) (place + 1) keys

-- one more than the last place of what passes a test, or 0 if nothing does
abbrev pub last_where : (ℕ → Bool) → List ℕ → ℕ
last_where test keys = last_from test 0 0 keys

-- one more than the last place of a key, or 0 if it has none
abbrev pub last_place : ℕ → List ℕ → ℕ
last_place key keys = last_where (λ k. k == key) keys

-- the bucket of a key, of so many: by a product that spreads keys that are near one another
unfoldable pub bucket_of : ℕ → ℕ → ℕ
bucket_of buckets key = bit_and (key * 0x9e37_79b9_7f4a_7c15 % 2 ^ 64 / 2 ^ 32) (buckets - 1)

abbrev pub is_in : ℕ → ℕ → ℕ → Bool
is_in buckets bucket key = bucket_of buckets key == bucket

-- over so many buckets: a link leads from the place of a key to the last one before it in its bucket,
-- and a head to the last one of all
pub record AreChained (buckets : ℕ) (keys links heads : List ℕ) : Type 0 where
  pub older :
      (place : ℕ) → place < length keys
      → slice_index links place
      ≡ last_where (is_in buckets (bucket_of buckets (slice_index keys place))) (take place keys)
  pub newest :
      (bucket : ℕ) → bucket < buckets
      → slice_index heads bucket ≡ last_where (is_in buckets bucket) keys

-- the same, with a link for each key, and a bucket if there is one
pub record AreChains (keys links heads : List ℕ) : Type 0 where
  pub chained : AreChained (length heads) keys links heads
  pub linked : length links ≡ length keys
  pub open_first : 0 < length keys → 0 < length heads

-- where a walk for a key begins, one more than a place or 0: in the key's bucket, and no key behind it is
-- the same
pub record IsFirst (n : ℕ) (keys : List ℕ) (key newest : ℕ) : Type 0 where
  pub within : newest ≤ length keys
  pub bucket : 0 < newest → bucket_of n (slice_index keys (newest - 1)) ≡ bucket_of n key
  pub same : last_place key (take newest keys) ≡ last_place key keys

-- where it goes on: at an older place of the same bucket, and no key between has this bucket
pub record IsNext (n : ℕ) (keys : List ℕ) (at older : ℕ) : Type 0 where
  pub smaller : older < at
  pub within : older ≤ length keys
  pub bucket :
      0 < older
      → bucket_of n (slice_index keys (older - 1)) ≡ bucket_of n (slice_index keys (at - 1))
  pub same :
      (key : ℕ) → bucket_of n key ≡ bucket_of n (slice_index keys (at - 1))
      → last_place key (take (at - 1) keys) ≡ last_place key (take older keys)
