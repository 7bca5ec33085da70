use Rattle.std.proofs.Common.{rules}
use Rattle.files.proofs.EachLemmas.{texts_of_array}
use Rattle.files.proofs.documents.texts_in.Goals as goal

pub returns-in-Some : goal.returns-in-Some
returns-in-Some c = rw (texts_of_array c.in-Some.values.now _ c.in-Some.ensures) (search rules)
