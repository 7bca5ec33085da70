use Rattle.std.proofs.Common.{Bor, List, ℕ, ◌≤◌, vec_len}
use Rattle.files.specs.WalkFile.{ppn_of}
use Rattle.files.proofs.EachLemmas.{EachSoFar}
use Rattle.files.proofs.walk_file.ppns.Given as goal

abbrev pub invariant-loop-text : goal.invariant-loop-text
invariant-loop-text l = record {
  read : EachSoFar (λ (text : Bor (List ℕ)). ppn_of text.now) l.texts l.text-index l.ppns.items;
  few : vec_len l.ppns ≤ l.text-index;
}
