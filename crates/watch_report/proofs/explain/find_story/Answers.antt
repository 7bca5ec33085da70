use Rattle.std.proofs.Common.{[]}
use Rattle.std.specs.Option.{unwrap_or}
use Rattle.watch_report.proofs.ReadLemmas.{all_text}
use Rattle.watch_report.proofs.explain.find_story.Goals as goal

pub returns-in_default-clause-found : goal.returns-in_default-clause-found
returns-in_default-clause-found g c = (unwrap_or (g.R.Read.remaining c.args.input) [], all_text _, tt)
