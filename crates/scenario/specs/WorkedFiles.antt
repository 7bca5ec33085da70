-- Files that are written out.
use Rattle.std.specs.Prelude.{◌≡◌, ℕ, List, ◌++◌, codes}

-- three tables on the path of the address, whose indices are 2, 2 and 3, to a page with PPN 0x12345
-- and V, R, W, U, A and D (privileged manual 4.3.1, 4.4.1)
abbrev pub walk_text : List ℕ
walk_text =
    codes "root = \"0x80000\"\nframes = [\"0x80000\", \"0x80001\", \"0x80002\"]\n"
    ++ codes "words = [\"0x80000 2 0x20000401\", \"0x80001 2 0x20000801\", \"0x80002 3 0x48D14D7\"]\n"
    ++ codes "steps = [\"u load 0x80403ABC\"]\n"

-- a page of 1 GiB, which one load finds: it is filled, hit, and unmapped
abbrev pub run_text : List ℕ
run_text =
    codes "steps = [\"0 map 0 1G:0x40000000 0x80000 rwuad\", \"0 begin u load 0x40001234\", "
    ++ codes "\"0 load\", \"0 begin u load 0x40001234\", \"0 unmap 0 1G:0x40000000 0\"]\n"

-- more harts than there may be
abbrev pub layout_text : List ℕ
layout_text = codes "harts = 9\n"

-- the lines of a run of one step that was answered Ok
abbrev pub IsOkLine : List ℕ → Type 0
IsOkLine lines = lines ≡ codes "1 ok\n"
