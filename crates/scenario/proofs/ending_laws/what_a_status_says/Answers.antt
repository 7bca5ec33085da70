use Rattle.scenario.specs.Commands.{live, meaning_of}
use Rattle.scenario.proofs.EndingFacts.{done_by, refused_by}
use Rattle.scenario.proofs.ending_laws.what_a_status_says.Goals as goal

pub returns-clause-done : goal.returns-clause-done
returns-clause-done c = λ which file bytes out_old out_new err_old err_new ends.
    done_by (meaning_of file which) file bytes out_old out_new err_old err_new ends.ending ends.reports.told ends.ends_as.suits ends.ends_as.leaves ends.reports.is_told ends.reports.status_is
    ends.reports.tells

pub returns-clause-live_done : goal.returns-clause-live_done
returns-clause-live_done c = λ file bytes out_old out_new err_old err_new ends.
    done_by live file bytes out_old out_new err_old err_new ends.ending ends.reports.told ends.ends_as.suits ends.ends_as.leaves ends.reports.is_told ends.reports.status_is ends.reports.tells

pub returns-clause-refused : goal.returns-clause-refused
returns-clause-refused c = λ which file bytes out_old out_new err_old err_new ends.
    refused_by (meaning_of file which) file bytes out_old out_new err_old err_new ends.ending ends.reports.told ends.ends_as.suits ends.reports.is_told ends.reports.status_is ends.reports.tells

pub returns-clause-live_refused : goal.returns-clause-live_refused
returns-clause-live_refused c = λ file bytes out_old out_new err_old err_new ends.
    refused_by live file bytes out_old out_new err_old err_new ends.ending ends.reports.told ends.ends_as.suits ends.reports.is_told ends.reports.status_is ends.reports.tells
