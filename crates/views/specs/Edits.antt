-- The edit that is due over a home's view.
use Rattle.std.specs.Prelude.{Result}
use Rattle.spaces.specs.declared.faults.MapFault.{MapFault}
use Rattle.spaces.specs.declared.wishes.Wish.{Wish}
use Rattle.spaces.specs.Layout.{Layout}
use Rattle.spaces.specs.Held.{spare_of, memory_words}
use Rattle.spaces.specs.Edits.{Store, edit_of}
use Rattle.views.specs.declared.view.View.{View}
use Rattle.views.specs.Rule.{memory_of}

-- what the edit calls answer over table memory as the hart knows it
abbrev pub edit_over : Layout → View → Wish → Result Store MapFault
edit_over l v wish =
    edit_of l (memory_words (memory_of l v)) (spare_of (memory_of l v) v.hart) v.hart wish
