use Rattle.std.proofs.Common.{get_or}
use Rattle.watch_report.specs.Bytes.{is_either}
use Rattle.watch_report.proofs.FirstBytes.{none_of_eight}
use Rattle.watch_report.proofs.bytes.none_of_eight.Goals as goal

pub returns : goal.returns
returns c =
    rw (c.is_either.ensures, c.is_either-2.ensures, c.is_either-3.ensures, c.is_either-4.ensures, c.is_either-5.ensures, c.is_either-6.ensures, c.is_either-7.ensures, c.is_either-8.ensures)
    (none_of_eight (λ k. is_either c.args.a c.args.b (get_or c.args.text.now k 0)) c.args.at)
