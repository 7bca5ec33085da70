-- Worked rows of the steps of `live`: what was worked out by hand from the table of their texts.
use Rattle.std.specs.Prelude.{◌≡◌, true, false, codes, [], ◌∷◌, map, replicate, Some, None, Ok, Err}
use Rattle.pte.specs.declared.scheme.Scheme.TheVariants.{Sv39, Sv48}
use Rattle.pte.specs.declared.address.PageSize.TheVariants.{Kib4, Mib2, Gib1, Gib512}
use Rattle.pte.specs.declared.permission.Access.TheVariants.{Store}
use Rattle.pte.specs.declared.permission.Mode.TheVariants.{Super}
use Rattle.spaces.specs.declared.places.Place.TheVariants as places
use Rattle.history.specs.declared.event.Scope.TheVariants as scopes
use Rattle.history.specs.declared.live_step.LiveStep.TheVariants as live
use Rattle.steps.specs.declared.fault.StepFault.TheVariants.{NotStep, NoSuchHart, NotPage}
use Rattle.steps.specs.LiveSteps.{live_step_in, setup_step_in}
use Rattle.steps.specs.RunStep.{step_among}

-- ---- each line once, and one of the setup

abbrev pub translate_to_store : Type 0
translate_to_store =
    live_step_in Sv39 8 (codes "translate s+sum store 0x1F")
    ≡ Ok (live.Translate 31 Store (record { mode = Super; sum = true; mxr = false }))

abbrev pub map_of_the_kernel : Type 0
map_of_the_kernel =
    live_step_in Sv39 8 (codes "map k 2M:0xffffffffc0000000 512 rg")
    ≡ Ok (live.Map places.Kernel (record { base = 0xffffffffc0000000; size = Mib2 }) 512
    (record { 0 = 0x22 }))

abbrev pub unmap_of_a_space : Type 0
unmap_of_a_space =
    live_step_in Sv39 8 (codes "unmap 0 4K:0x1000 1,0")
    ≡ Ok (live.Unmap (places.Space 0) (record { base = 0x1000; size = Kib4 }) 0x03)

abbrev pub protect_of_a_space : Type 0
protect_of_a_space =
    live_step_in Sv39 8 (codes "protect 255 1G:0x40000000 xad 7")
    ≡ Ok (live.Protect (places.Space 255) (record { base = 0x40000000; size = Gib1 })
    (record { 0 = 0xC8 }) 0x80)

abbrev pub flush_of_a_space : Type 0
flush_of_a_space =
    live_step_in Sv39 8 (codes "flush 31 0,2") ≡ Ok (live.Flush (scopes.Space 31) 0x05)

abbrev pub switch_to_a_space : Type 0
switch_to_a_space = live_step_in Sv39 8 (codes "switch 0xFF") ≡ Ok (live.Switch 255)

abbrev pub fence_of_an_address : Type 0
fence_of_an_address = live_step_in Sv39 8 (codes "fence 4096 x0") ≡ Ok (live.Fence (Some 4096) None)

abbrev pub fence_of_both : Type 0
fence_of_both = live_step_in Sv39 8 (codes "fence 4096 2") ≡ Ok (live.Fence (Some 4096) (Some 2))

abbrev pub post_to_hart_2 : Type 0
post_to_hart_2 = live_step_in Sv39 8 (codes "post 63 2") ≡ Ok (live.Post 63 2)

abbrev pub serve_of_hart_0 : Type 0
serve_of_hart_0 = live_step_in Sv39 8 (codes "serve 0") ≡ Ok (live.Serve 0)

abbrev pub serve_of_hart_5 : Type 0
serve_of_hart_5 = live_step_in Sv39 8 (codes "serve 5") ≡ Ok (live.Serve 5)

abbrev pub ackself_of_the_last : Type 0
ackself_of_the_last =
    live_step_in Sv39 8 (codes "ackself 4294967295") ≡ Ok (live.AckSelf 4294967295)

abbrev pub collect_of_a_ticket : Type 0
collect_of_a_ticket = live_step_in Sv39 8 (codes "collect 5") ≡ Ok (live.Collect 5)

abbrev pub finish_of_a_ticket : Type 0
finish_of_a_ticket = live_step_in Sv39 8 (codes "finish 0x6") ≡ Ok (live.Finish 6)

abbrev pub close_to_hart_7 : Type 0
close_to_hart_7 = live_step_in Sv39 8 (codes "close 7") ≡ Ok (live.Close 7)

abbrev pub wait_for_a_ticket : Type 0
wait_for_a_ticket = live_step_in Sv39 8 (codes "wait 9") ≡ Ok (live.Wait 9)

abbrev pub setup_of_hart_3 : Type 0
setup_of_hart_3 = setup_step_in Sv39 4 (codes "3 wait 9") ≡ Ok (3, live.Wait 9)

-- ---- each command has its own lines, and the first fault of several

abbrev pub hart_before_a_line : Type 0
hart_before_a_line = live_step_in Sv39 8 (codes "0 wait 9") ≡ Err NotStep

abbrev pub no_hart_before_setup : Type 0
no_hart_before_setup = setup_step_in Sv39 8 (codes "wait 9") ≡ Err NotStep

abbrev pub collect_with_a_hart : Type 0
collect_with_a_hart = live_step_in Sv39 8 (codes "collect 5 1") ≡ Err NotStep

abbrev pub take_in_a_script : Type 0
take_in_a_script = live_step_in Sv39 8 (codes "take 0") ≡ Err NotStep

abbrev pub take_in_the_setup : Type 0
take_in_the_setup = setup_step_in Sv39 1 (codes "9 take 9") ≡ Err NotStep

abbrev pub retire_in_a_script : Type 0
retire_in_a_script = live_step_in Sv39 8 (codes "retire 0") ≡ Err NotStep

-- no other step of `run` alone is a line of a script
abbrev pub run_alone_in_a_script : Type 0
run_alone_in_a_script =
    map (live_step_in Sv39 8)
    (codes "begin u load 16" ∷ codes "load" ∷ codes "servefence" ∷ codes "ack"
    ∷ codes "reclaim 1" ∷ codes "create 1 2" ∷ [])
    ≡ replicate 6 (Err NotStep)

-- no other step of `live` alone is one of `run`
abbrev pub live_alone_in_a_run : Type 0
live_alone_in_a_run =
    map (step_among Sv39 8) (codes "1 translate u load 16" ∷ codes "1 serve 0" ∷ [])
    ≡ replicate 2 (Err NotStep)

abbrev pub wait_in_a_run : Type 0
wait_in_a_run = step_among Sv39 8 (codes "0 wait 9") ≡ Err NotStep

abbrev pub collect_without_a_hart : Type 0
collect_without_a_hart = step_among Sv39 8 (codes "0 collect 5") ≡ Err NotStep

abbrev pub unread_before_absent : Type 0
unread_before_absent = live_step_in Sv39 1 (codes "flush 9x 9") ≡ Err NotStep

abbrev pub absent_before_no_page : Type 0
absent_before_no_page = live_step_in Sv39 2 (codes "unmap 0 4K:0x1 0,2") ≡ Err NoSuchHart

abbrev pub absent_of_the_setup : Type 0
absent_of_the_setup = setup_step_in Sv39 2 (codes "2 unmap 0 4K:0x1 0") ≡ Err NoSuchHart

abbrev pub no_page_of_live : Type 0
no_page_of_live = live_step_in Sv39 2 (codes "unmap 0 4K:0x1 0,1") ≡ Err NotPage

abbrev pub no_page_of_the_setup : Type 0
no_page_of_the_setup = setup_step_in Sv39 2 (codes "1 unmap 0 4K:0x1 0,1") ≡ Err NotPage

-- ---- pages of 512 GiB by the scheme

abbrev pub terapage_of_live : Type 0
terapage_of_live =
    live_step_in Sv48 1 (codes "map 0 512G:0x8000000000 0x10000000 rwuad")
    ≡ Ok (live.Map (places.Space 0) (record { base = 0x8000000000; size = Gib512 }) 0x10000000
    (record { 0 = 0xD6 }))

abbrev pub no_terapage_of_live : Type 0
no_terapage_of_live =
    live_step_in Sv39 1 (codes "map 0 512G:0x8000000000 0x10000000 rwuad") ≡ Err NotStep
