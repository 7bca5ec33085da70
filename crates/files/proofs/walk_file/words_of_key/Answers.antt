use Rattle.std.proofs.Common.{◌≡◌, ◌∙◌, Bor, List, ℕ, map, option_map, rules, sym}
use Rattle.files.specs.Keys.{each}
use Rattle.files.proofs.EachLemmas.{each-map}
use Rattle.files.specs.Memory.{is_frame_of}
use Rattle.files.specs.WalkFile.{word_of}
use Rattle.files.proofs.walk_file.words_of_key.Goals as goal

pub returns-in-Some : goal.returns-in-Some
returns-in-Some c =
    let read : option_map (λ v. v.items) c.in_ok-words.field-0 ≡ each (word_of (is_frame_of c.args.frames.now)) (map (λ (text : Bor (List ℕ)). text.now) c.as_slice.result.now) =
    c.in_ok-words.ensures ∙ sym (each-map (word_of (is_frame_of c.args.frames.now)) (λ (text : Bor (List ℕ)). text.now) c.as_slice.result.now) in
    search rules

pub returns : goal.returns
returns c =
    let read : option_map (λ v. v.items) c.in_ok-words.field-0 ≡ each (word_of (is_frame_of c.args.frames.now)) (map (λ (text : Bor (List ℕ)). text.now) c.as_slice.result.now) =
    c.in_ok-words.ensures ∙ sym (each-map (word_of (is_frame_of c.args.frames.now)) (λ (text : Bor (List ℕ)). text.now) c.as_slice.result.now) in
    search rules
