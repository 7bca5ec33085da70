-- Worked rows: what was worked out by hand from the tables of docs/FORMAT.md.
use Rattle.pte.specs.declared.scheme.Scheme.TheVariants.{Sv39, Sv48}
use Rattle.std.specs.Prelude.{◌≡◌, ℕ, Bool, true, false, codes, List, [], ◌∷◌, Option, Some, None, option_map, Err}
use Rattle.pte.specs.Entry.{is_accessed, is_dirty, is_global, is_user, may_execute, may_read, may_write}
use Rattle.pte.specs.declared.address.PageSize.TheVariants.{Kib4, Mib2, Gib1, Gib512}
use Rattle.pte.specs.declared.permission.Access.TheVariants.{Load, Store}
use Rattle.pte.specs.declared.permission.Mode.TheVariants.{User, Super}
use Rattle.spaces.specs.declared.places.Place.TheVariants as places
use Rattle.history.specs.declared.event.Event.TheVariants as events
use Rattle.history.specs.declared.event.Scope.TheVariants as scopes
use Rattle.steps.specs.declared.fault.StepFault.TheVariants.{NotStep, NoSuchHart, NotPage}
use Rattle.steps.specs.Fields.{bits_of}
use Rattle.steps.specs.RunStep.{run_step_of, step_among}
use Rattle.steps.specs.Step.{walk_step_of}
use Rattle.steps.specs.Words.{words_of}

-- ---- each letter is the flag of its name

-- what an entry with these flags says: R, W, X, U, G, A, D
abbrev pub said : ℕ → List Bool
said bits =
    may_read bits ∷ may_write bits ∷ may_execute bits ∷ is_user bits ∷ is_global bits
    ∷ is_accessed bits ∷ is_dirty bits ∷ []

abbrev pub letters : List ℕ → Option (List Bool)
letters word = option_map said (bits_of word)

abbrev pub letter_r : Type 0
letter_r = letters (codes "r") ≡ Some (true ∷ false ∷ false ∷ false ∷ false ∷ false ∷ false ∷ [])

abbrev pub letter_w : Type 0
letter_w = letters (codes "w") ≡ Some (false ∷ true ∷ false ∷ false ∷ false ∷ false ∷ false ∷ [])

abbrev pub letter_x : Type 0
letter_x = letters (codes "x") ≡ Some (false ∷ false ∷ true ∷ false ∷ false ∷ false ∷ false ∷ [])

abbrev pub letter_u : Type 0
letter_u = letters (codes "u") ≡ Some (false ∷ false ∷ false ∷ true ∷ false ∷ false ∷ false ∷ [])

abbrev pub letter_g : Type 0
letter_g = letters (codes "g") ≡ Some (false ∷ false ∷ false ∷ false ∷ true ∷ false ∷ false ∷ [])

abbrev pub letter_a : Type 0
letter_a = letters (codes "a") ≡ Some (false ∷ false ∷ false ∷ false ∷ false ∷ true ∷ false ∷ [])

abbrev pub letter_d : Type 0
letter_d = letters (codes "d") ≡ Some (false ∷ false ∷ false ∷ false ∷ false ∷ false ∷ true ∷ [])

abbrev pub three_letters : Type 0
three_letters =
    letters (codes "dux") ≡ Some (false ∷ false ∷ true ∷ true ∷ false ∷ false ∷ true ∷ [])

abbrev pub no_letters : Type 0
no_letters = letters (codes "-") ≡ Some (false ∷ false ∷ false ∷ false ∷ false ∷ false ∷ false ∷ [])

abbrev pub letter_twice : Type 0
letter_twice = letters (codes "uru") ≡ None

abbrev pub letter_v : Type 0
letter_v = letters (codes "v") ≡ None

-- ---- words and steps

abbrev pub blanks_between_words : Type 0
blanks_between_words = words_of (codes " \ta  bc\t") ≡ codes "a" ∷ codes "bc" ∷ []

abbrev pub store_of_walk : Type 0
store_of_walk =
    walk_step_of (codes "s+sum store 0x1F")
    ≡ Some
    (record { ctx = record { mode = Super; sum = true; mxr = false }; access = Store; va = 31 })

abbrev pub begin_with_mxr : Type 0
begin_with_mxr =
    run_step_of Sv39 (codes "7 begin u+mxr load 10")
    ≡ Some (events.Begin 7 10 Load (record { mode = User; sum = false; mxr = true }))

abbrev pub begin_with_a_store : Type 0
begin_with_a_store =
    run_step_of Sv39 (codes "6 begin s+sum+mxr store 0x1008")
    ≡ Some (events.Begin 6 0x1008 Store (record { mode = Super; sum = true; mxr = true }))

abbrev pub fence_of_a_page : Type 0
fence_of_a_page =
    run_step_of Sv39 (codes "4 fence 0x3000 7") ≡ Some (events.Fence 4 (Some 0x3000) (Some 7))

abbrev pub fence_of_a_space : Type 0
fence_of_a_space = run_step_of Sv39 (codes "4 fence x0 2") ≡ Some (events.Fence 4 None (Some 2))

abbrev pub unmap_of_the_kernel : Type 0
unmap_of_the_kernel =
    run_step_of Sv39 (codes "1 unmap k 2M:0x400000 1,7,1")
    ≡ Some (events.Unmap 1 places.Kernel (record { base = 0x400000; size = Mib2 }) 0x82)

abbrev pub flush_of_all : Type 0
flush_of_all = run_step_of Sv39 (codes "0 flush all -") ≡ Some (events.Flush 0 scopes.All 0)

abbrev pub take_from_hart_0 : Type 0
take_from_hart_0 = run_step_of Sv39 (codes "1 take 0") ≡ Some (events.Take 1 0)

abbrev pub retire_of_a_space : Type 0
retire_of_a_space = run_step_of Sv39 (codes "6 retire 255") ≡ Some (events.Retire 6 255)

abbrev pub reclaim_of_a_space : Type 0
reclaim_of_a_space = run_step_of Sv39 (codes "5 reclaim 1") ≡ Some (events.Reclaim 5 1)

abbrev pub create_of_a_space : Type 0
create_of_a_space = run_step_of Sv39 (codes "1 create 31 65535") ≡ Some (events.Create 1 31 65535)

-- an ASID has 16 bits
abbrev pub wide_asid : Type 0
wide_asid = run_step_of Sv39 (codes "0 create 1 65536") ≡ None

-- ---- the other lines of `run`: each line has a row with values that are not those of an empty step

abbrev pub load_of_hart_2 : Type 0
load_of_hart_2 = run_step_of Sv39 (codes "2 load") ≡ Some (events.Load 2)

abbrev pub map_of_a_space : Type 0
map_of_a_space =
    run_step_of Sv39 (codes "6 map 3 4K:0x2000 0x80005 rwua")
    ≡ Some
    (events.Map 6 (places.Space 3) (record { base = 0x2000; size = Kib4 }) 0x80005
    (record { 0 = 0x56 }))

abbrev pub protect_of_the_kernel : Type 0
protect_of_the_kernel =
    run_step_of Sv39 (codes "5 protect k 1G:0xffffffffc0000000 rg 0,5")
    ≡ Some
    (events.Protect 5 places.Kernel (record { base = 0xffffffffc0000000; size = Gib1 })
    (record { 0 = 0x22 }) 0x21)

abbrev pub protect_of_a_space : Type 0
protect_of_a_space =
    run_step_of Sv39 (codes "2 protect 9 2M:0x600000 w 7")
    ≡ Some
    (events.Protect 2 (places.Space 9) (record { base = 0x600000; size = Mib2 })
    (record { 0 = 0x04 }) 0x80)

abbrev pub unmap_of_a_space : Type 0
unmap_of_a_space =
    run_step_of Sv39 (codes "3 unmap 7 4K:0x3000 2")
    ≡ Some (events.Unmap 3 (places.Space 7) (record { base = 0x3000; size = Kib4 }) 0x04)

abbrev pub flush_of_a_space : Type 0
flush_of_a_space =
    run_step_of Sv39 (codes "3 flush 31 0,2") ≡ Some (events.Flush 3 (scopes.Space 31) 0x05)

abbrev pub take_from_hart_6 : Type 0
take_from_hart_6 = run_step_of Sv39 (codes "1 take 6") ≡ Some (events.Take 1 6)

abbrev pub switch_of_hart_1 : Type 0
switch_of_hart_1 = run_step_of Sv39 (codes "1 switch 2") ≡ Some (events.Switch 1 2)

abbrev pub post_to_hart_3 : Type 0
post_to_hart_3 = run_step_of Sv39 (codes "5 post 9 3") ≡ Some (events.Post 5 9 3)

abbrev pub servefence_of_hart_3 : Type 0
servefence_of_hart_3 = run_step_of Sv39 (codes "3 servefence") ≡ Some (events.ServeFence 3)

abbrev pub ack_of_hart_3 : Type 0
ack_of_hart_3 = run_step_of Sv39 (codes "3 ack") ≡ Some (events.Ack 3)

abbrev pub ackself_of_hart_2 : Type 0
ackself_of_hart_2 = run_step_of Sv39 (codes "2 ackself 9") ≡ Some (events.AckSelf 2 9)

abbrev pub collect_from_hart_3 : Type 0
collect_from_hart_3 = run_step_of Sv39 (codes "5 collect 9 3") ≡ Some (events.Collect 5 9 3)

abbrev pub finish_of_hart_2 : Type 0
finish_of_hart_2 = run_step_of Sv39 (codes "2 finish 9") ≡ Some (events.Finish 2 9)

abbrev pub close_to_hart_3 : Type 0
close_to_hart_3 = run_step_of Sv39 (codes "4 close 3") ≡ Some (events.Close 4 3)

-- ---- the first fault of several

abbrev pub no_step : Type 0
no_step = step_among Sv39 1 (codes "9 flush all 9,x") ≡ Err NotStep

abbrev pub no_hart : Type 0
no_hart = step_among Sv39 8 (codes "8 unmap 0 4K:0x1 0") ≡ Err NoSuchHart

abbrev pub no_step_after_no_page : Type 0
no_step_after_no_page = step_among Sv39 8 (codes "0 unmap 0 4K:0x1 x") ≡ Err NotStep

abbrev pub no_page : Type 0
no_page = step_among Sv39 8 (codes "7 unmap 0 4K:0x1 0") ≡ Err NotPage

-- ---- pages of 512 GiB, and addresses, by the scheme

abbrev pub terapage : Type 0
terapage =
    run_step_of Sv48 (codes "1 unmap k 512G:0xffffff8000000000 0")
    ≡ Some (events.Unmap 1 places.Kernel (record { base = 0xffffff8000000000; size = Gib512 }) 0x01)

abbrev pub no_terapage : Type 0
no_terapage = step_among Sv39 1 (codes "9 unmap 0 512G:0x1 9") ≡ Err NotStep

abbrev pub unaligned_terapage : Type 0
unaligned_terapage = step_among Sv48 1 (codes "0 unmap 0 512G:0x40000000 0") ≡ Err NotPage

abbrev pub far_page : Type 0
far_page = step_among Sv39 1 (codes "0 unmap 0 4K:0x4000000000 0") ≡ Err NotPage

abbrev pub farther_page : Type 0
farther_page = step_among Sv48 1 (codes "0 unmap 0 4K:0x800000000000 0") ≡ Err NotPage
