-- The only name that a word can be, by its first two letters and its length.
use Rattle.std.specs.Prelude.{ℕ, ◌==◌, List, length, slice_get, unwrap_or, if◌then◌else◌}
use Rattle.steps.specs.declared.table.StepName.{StepName}
use Rattle.steps.specs.declared.table.StepName.TheVariants.{Begin, Translate, Load, Map, Unmap, Protect, Flush, Switch, Fence, Post, Take, Serve, ServeFence, Ack, AckSelf, Collect, Finish, Close, Wait, Retire, Reclaim, Create}

abbrev pub letter : List ℕ → ℕ → ℕ
letter word at = unwrap_or (slice_get word at) 0

-- by b; t; l; m; u; p; f; s; a; c; r; the others
abbrev pub likely : ℕ → ℕ → ℕ → StepName
likely first second count =
    if first == 98 then Begin
    else if first == 116 then (if count == 4 then Take else Translate)
    else if first == 108 then Load else if first == 109 then Map
    else if first == 117 then Unmap
    else if first == 112 then (if count == 4 then Post else Protect)
    else if first == 102
    then (if count == 6 then Finish else if second == 108 then Flush else Fence)
    else if first == 115
    then (if count == 10 then ServeFence else if count == 6 then Switch else Serve)
    else if first == 97 then (if count == 3 then Ack else AckSelf)
    else if first == 99
    then (if count == 7 then Collect else if count == 5 then Close else Create)
    else if first == 114 then (if count == 6 then Retire else Reclaim)
    else Wait

unfoldable pub likely_of : List ℕ → StepName
likely_of word = likely (letter word 0) (letter word 1) (length word)
