use Rattle.watch_report.proofs.LetterLemmas.{no_letter_alone}
use Rattle.watch_report.proofs.fields.next_letter.Goals as goal

pub returns-then-text-lt2 : goal.returns-then-text-lt2
returns-then-text-lt2 c = no_letter_alone _ c.if-text-lt2.true
