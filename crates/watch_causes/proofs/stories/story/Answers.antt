use Rattle.std.proofs.Common.{◌≡◌, ◌∙◌, ◌||◌, List, Bool, false, get_or, length, refl, subst, sym, true}
use Rattle.std.specs.Prelude.{◌==◌}
use Rattle.std.proofs.lemmas.Bool.{eq-eqb, or_right}
use Rattle.watch.specs.declared.trace.Record.{Record}
use Rattle.watch_causes.specs.declared.stories.Part.{Part}
use Rattle.watch_causes.specs.Stories.{Gives, IsJudged, is_named}
use Rattle.watch_causes.proofs.Telling.{every, gives_by, gives_by_all}
use Rattle.watch_causes.proofs.stories.story.Goals as goal

last-is : (records : List Record) (marks : List Bool) → is_named records marks (length records) ≡ true
last-is records marks = or_right (get_or marks (length records) false) (length records == length records) (eq-eqb (length records) (length records) refl)

pub returns-then-branch : goal.returns-then-branch
returns-then-branch c = λ due.
    let scheme = c.args.scheme in
    let w = c.args.warning.now in
    let records = c.args.records.now in
    let marks = c.as_slice.result.now in
    let parts : List Part = c.in_ok-parts.parts.items in
    let judged = subst (λ (ps : List Part). IsJudged scheme ps w c.in_ok-suffices.field-0) c.as_slice-2.ensures.value c.in_ok-suffices.ensures in
    record {
      chosen = λ number. false || is_named records marks number;
      named = is_named records marks;
      told = c.in_ok-parts.ensures;
      last = (last-is records marks, last-is records marks);
      gives = gives_by scheme parts w judged.alone judged.last (sym judged.is ∙ c.if-branch.true);
    }

pub returns : goal.returns
returns c = λ due.
    let records = c.args.records.now in
    let named = is_named records c.as_slice-3.result.now in
    let all = gives_by_all c.stale_from_one_moment.ensures.range c.args.scheme named records c.args.warning.now due in
    record {
      chosen = every;
      named = named;
      told = c.in_ok-parts-2.ensures;
      last = (refl, last-is records c.as_slice-3.result.now);
      gives = subst (λ (parts : List Part). Gives c.args.scheme parts c.args.warning.now) (sym c.in_ok-parts-2.ensures) all;
    }
