use Rattle.std.proofs.lemmas.Result.{err_from_is_err_and}
use Rattle.scenario.proofs.FileLemmas.{list_unread}
use Rattle.scenario.proofs.known_file.read_list.Goals as goal

pub returns-in_err-bytes : goal.returns-in_err-bytes
returns-in_err-bytes g c =
    let p = err_from_is_err_and c.from_residual.result c.from_residual.ensures.1 in
    rw (c.in-Some.is, p.1, p.2) (list_unread _ _ c.in_err-bytes.ensures.err)
