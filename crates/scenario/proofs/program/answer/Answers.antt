use Rattle.std.proofs.Common.{◌≤◌, length, rules}
use Rattle.std.proofs.lemmas.Result.{err_from_is_err_and}
use Rattle.scenario.specs.Commands.{meaning_of}
use Rattle.scenario.specs.Limits.{most_bytes}
use Rattle.scenario.proofs.FileLemmas.{unread}
use Rattle.scenario.proofs.OutcomeLemmas.{answered_by, no_text_ends}
use Rattle.scenario.proofs.program.answer.Goals as goal

pub returns-in_err-bytes-clause-answered : goal.returns-in_err-bytes-clause-answered
returns-in_err-bytes-clause-answered g c =
    let p = err_from_is_err_and c.from_residual.result c.from_residual.ensures.1 in
    rw (p.1, p.2) (unread (meaning_of c.args.file.now c.args.which) _ _ c.in_err-bytes.ensures.err)

pub returns-in_default-clause-answered : goal.returns-in_default-clause-answered
returns-in_default-clause-answered g c =
    let short : length c.in_ok-bytes.bytes.items ≤ most_bytes = search rules in
    let other = rw c.as_slice.ensures.value at c.in_default.ensures.cases.0 in
    (c.in_ok-bytes.bytes.items, c.in_ok-bytes.ensures.whole, λ old new kept. no_text_ends (meaning_of c.args.file.now c.args.which) c.in_ok-bytes.bytes.items old new other short kept)

pub returns-clause-answered : goal.returns-clause-answered
returns-clause-answered g c =
    let short : length c.in_ok-bytes.bytes.items ≤ most_bytes = search rules in
    let text = rw c.as_slice.ensures.value at c.in-Ok.ensures.cases in
    let ok = rw text.0 at c.outcome_of.ensures.ok in
    let err = rw text.0 at c.outcome_of.ensures.err in
    (c.in_ok-bytes.bytes.items, c.in_ok-bytes.ensures.whole, answered_by (meaning_of c.args.file.now c.args.which) c.in_ok-bytes.bytes.items text.1 short c.outcome_of.result ok err)
