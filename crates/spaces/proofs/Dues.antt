-- An edit that a call answers is due.
use Rattle.std.proofs.Common.{◌≡◌, ℕ, Result, Ok, Err, sym, IfOk}
use Rattle.spaces.specs.declared.wishes.Wish.{Wish}
use Rattle.spaces.specs.declared.faults.MapFault.{MapFault}
use Rattle.spaces.specs.Layout.{HasPlace}
use Rattle.spaces.specs.Held.{Held, IsDue, spare_of, memory_words}
use Rattle.spaces.specs.Edits.{Store, place_of, edit_of}

pub due-of : (m : Held) (hart : ℕ) (wish : Wish) (r : Result Store MapFault) → HasPlace m.layout (place_of wish)
    → r ≡ edit_of m.layout (memory_words m) (spare_of m hart) hart wish → IfOk r (IsDue m)
due-of m hart wish (Ok store) has e =
    let due : IsDue m store = record { hart = hart; wish = wish; has = has; is = sym e } in
    due
due-of m hart wish (Err fault) has e = tt
