-- The texts of the frames, which are no more than a file may list.
use Rattle.std.proofs.Common.{◌≡◌, ℕ, List, length, map, Bor, ◌≤◌, le-leb}
use Rattle.std.proofs.lemmas.List.{length-map}
use Rattle.files.specs.Keys.{each}
use Rattle.files.proofs.EachLemmas.{each-map}
use Rattle.files.specs.WalkFile.{ppn_of, ppns_of}
use Rattle.files.specs.declared.limits.TheConstants.{MOST_FRAMES}

pub few_fit : (ts : List (Bor (List ℕ))) → length ts ≤ MOST_FRAMES → ppns_of (map (λ text. text.now) ts) ≡ each (λ (text : Bor (List ℕ)). ppn_of text.now) ts
few_fit ts fits = rw (length-map ts (λ text. text.now), le-leb (length ts) MOST_FRAMES fits) (each-map ppn_of (λ (text : Bor (List ℕ)). text.now) ts)
