use Rattle.views.proofs.Lasting.{edits_mark_nothing, marked_by_a_leaf_over, steps_mark_nothing}
use Rattle.views.proofs.laws.only_a_leaf_over_the_page_marks_anew.Goals as goal

pub returns-clause-steps : goal.returns-clause-steps
returns-clause-steps c = steps_mark_nothing

pub returns-clause-edits : goal.returns-clause-edits
returns-clause-edits c = edits_mark_nothing

pub returns-clause-leaf : goal.returns-clause-leaf
returns-clause-leaf c = marked_by_a_leaf_over
