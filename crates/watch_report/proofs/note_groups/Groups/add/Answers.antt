use Rattle.std.proofs.Common.{◌≡◌, ◌∙◌, ◌∷◌, ◌++◌, [], ℕ, List, Option, Some, ap, cond, not, sym}
use Rattle.std.specs.Prelude.{◌&&◌, ◌||◌}
use Rattle.std.specs.Option.{is_none, unwrap_or}
use Rattle.std.specs.Str.{bytes_eq}
use Rattle.std.proofs.lemmas.Result.{on_ok_weaker}
use Rattle.watch_report.specs.declared.found.Found.{Found}
use Rattle.watch_report.specs.declared.note_group.NoteGroup.{NoteGroup}
use Rattle.watch_report.specs.declared.note_group.PageKey.{PageKey}
use Rattle.watch_report.specs.declared.note_group.SpaceKey.{SpaceKey}
use Rattle.watch_report.specs.GroupsSoFar.{counts_if, page_in, space_in}
use Rattle.watch_report.specs.NoteGroups.{counts_of, has_page, has_space, is_empty, is_same_page, is_same_space, no_finding, note_of, of_note, page_of, space_of, with_found}
use Rattle.watch_report.proofs.NoteGroupLemmas.{counts_in, empty_if, more_groups, more_pages, more_spaces}
use Rattle.watch_report.proofs.note_groups.Groups.add.Goals as goal

pub returns : goal.returns
returns c = λ notes before are is.
    let f : Found = c.args.found.now in
    let note : List ℕ = c.args.note.now in
    let own : List Found = of_note notes (note_of notes f) before in
    let same : of_note notes note before ≡ own = ap (λ (n : List ℕ). of_note notes n before) (sym is) in
    let old : c.group_of-old.result ≡ counts_if own = c.group_of-old.ensures ∙ (are.groups note ∙ ap counts_if same) in
    let new_page : c.in_ok-new_page.new_page ≡ not (has_page (page_of f) own) =
    c.in_ok-new_page.ensures.new
    ∙ ap not (ap (λ (p : PageKey). page_in c.args.self.now.pages note p) c.page_of.ensures ∙ (are.pages note (page_of f) ∙ ap (has_page (page_of f)) same)) in
    let new_space : c.in_ok-new_space.new_space ≡ not (has_space (space_of f) own) =
    c.in_ok-new_space.ensures.new
    ∙ ap not (ap (λ (s : SpaceKey). space_in c.args.self.now.spaces note s) c.space_of.ensures ∙ (are.spaces note (space_of f) ∙ ap (has_space (space_of f)) same)) in
    let counted : c.or_none.result ≡ counts_of own = c.or_none.ensures ∙ (ap (λ (o : Option NoteGroup). unwrap_or o no_finding) old ∙ counts_in own) in
    let group : c.in_ok-group.group ≡ counts_of (f ∷ own) = c.in_ok-group.ensures ∙ (λ j. with_found (new_page j) (new_space j) f (counted j)) in
    let first : c.is_none-is_first.result ≡ is_empty own = c.is_none-is_first.ensures ∙ (ap is_none old ∙ empty_if own) in
    on_ok_weaker c.push_first.result
    (λ pushed.
    record {
      groups = λ by. c.in_ok-put_group.ensures by ∙ ((λ j. cond (bytes_eq (sym is j) by) (Some (group j)) (are.groups by j)) ∙ more_groups notes f before by);
      pages = λ by page.
          c.in_ok-new_page.ensures.pages by page
          ∙ ((λ j. (bytes_eq (sym is j) by && is_same_page (c.page_of.ensures j) page) || are.pages by page j) ∙ more_pages notes f before by page);
      spaces = λ by space.
          c.in_ok-new_space.ensures.spaces by space
          ∙ ((λ j. (bytes_eq (sym is j) by && is_same_space (c.space_of.ensures j) space) || are.spaces by space j) ∙ more_spaces notes f before by space);
      firsts = pushed ∙ (λ j. cond (first j) (are.firsts j ++ f.begun.warning.stale_since ∷ []) (are.firsts j));
    })
    c.push_first.ensures
