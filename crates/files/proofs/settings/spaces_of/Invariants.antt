use Rattle.std.proofs.Common.{Bor, List, ℕ, ◌≤◌, length}
use Rattle.files.specs.Settings.{space_of}
use Rattle.files.proofs.EachLemmas.{EachSoFar}
use Rattle.files.proofs.settings.spaces_of.Given as goal

abbrev pub invariant-loop-text : goal.invariant-loop-text
invariant-loop-text l = record {
  read : EachSoFar (λ (text : Bor (List ℕ)). space_of text.now) l.texts l.text-index l.spaces.items;
  few : length l.spaces.items ≤ l.text-index;
}
