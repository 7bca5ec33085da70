-- Worked objects of JSON: what was worked out by hand.
use Rattle.std.specs.Prelude.{◌≡◌, ℕ, codes, List, [], ◌∷◌, ◌++◌, Some, None}
use Rattle.json.specs.Token.{Token}
use Rattle.watch.specs.declared.trace.Verdict.TheVariants.{Free, Reuse, Claimed, Used}
use Rattle.watch_causes.specs.declared.reach.Reach.TheVariants as reaches
use Rattle.watch_causes.specs.declared.reason.Reason.TheVariants.{NoFlush, OtherHarts, OtherSpaces, NotDone}
use Rattle.watch_causes.specs.WorkedCauses.{counts as counts_of_cause}
use Rattle.watch_report.specs.declared.warning.Trigger.TheVariants.{GivenBack, GivenOut, ClaimedSince, UsedAt}
use Rattle.watch_report.specs.CauseLines.{numbered}
use Rattle.watch_report.specs.JsonObjects.{cause_object, json_line, known_object, summary_object, total_object, verdict_object}
use Rattle.watch_report.specs.WorkedCauseLines.{kernels, tally_of, users}
use Rattle.watch_report.specs.WorkedWarnings.{counts, frames_at, kernel_page, user_page, warning_of}

-- the object is printed so, on a line
abbrev pub Prints : List Token → List ℕ → Type 0
Prints object text = json_line object ≡ text ++ codes "\n"

-- ---- verdicts

abbrev pub claim : Type 0
claim =
    Prints (verdict_object (codes "boot.watch") (warning_of 15 user_page (ClaimedSince 13)) (codes "unmap") (codes "flush_page"))
    (codes "{\"type\":\"verdict\",\"file\":\"boot.watch\",\"line\":15,\"verdict\":\"claim\",\"kernel\":false,\"hart\":11,"
    ++ codes "\"page\":\"1000\",\"size\":\"1000\",\"frame\":\"100\",\"flags\":\"rw-u-\",\"asid\":\"a\",\"root\":\"80000\","
    ++ codes "\"stale_since\":6,\"stale_by\":\"unmap\",\"claimed_since\":13,\"by\":\"flush_page\"}")

-- of what is global neither ASID nor root is told; there is no note
abbrev pub free_of_kernel : Type 0
free_of_kernel =
    Prints (verdict_object (codes "-") (warning_of 100 kernel_page (GivenBack (frames_at 0x80200 512))) [] [])
    (codes "{\"type\":\"verdict\",\"file\":\"-\",\"line\":100,\"verdict\":\"free\",\"kernel\":true,\"hart\":11,"
    ++ codes "\"page\":\"ffffffc000200000\",\"size\":\"200000\",\"frame\":\"80200\",\"flags\":\"r-x-g\",\"asid\":null,\"root\":null,"
    ++ codes "\"stale_since\":6,\"stale_by\":null,\"frames\":\"80200\",\"count\":\"200\",\"by\":null}")

-- a quote, a backslash, a tab and a byte below 32 are escaped
abbrev pub reuse : Type 0
reuse =
    Prints (verdict_object (codes "a b") (warning_of 20 user_page (GivenOut (frames_at 0xFF 10))) (codes "say \"no\" \\") (0x09 ∷ 0x1F ∷ []))
    (codes "{\"type\":\"verdict\",\"file\":\"a b\",\"line\":20,\"verdict\":\"reuse\",\"kernel\":false,\"hart\":11,"
    ++ codes "\"page\":\"1000\",\"size\":\"1000\",\"frame\":\"100\",\"flags\":\"rw-u-\",\"asid\":\"a\",\"root\":\"80000\","
    ++ codes "\"stale_since\":6,\"stale_by\":\"say \\\"no\\\" \\\\\",\"frames\":\"ff\",\"count\":\"a\",\"by\":\"\\t\\u001f\"}")

-- of a note the two bytes C3 A9 are a character, and FF is none: it becomes EF BF BD
abbrev pub used : Type 0
used =
    Prints (verdict_object (codes "boot") (warning_of 22 user_page (UsedAt 0x1ABC)) (0xC3 ∷ 0xA9 ∷ 0xFF ∷ codes "x") [])
    (codes "{\"type\":\"verdict\",\"file\":\"boot\",\"line\":22,\"verdict\":\"use\",\"kernel\":false,\"hart\":11,"
    ++ codes "\"page\":\"1000\",\"size\":\"1000\",\"frame\":\"100\",\"flags\":\"rw-u-\",\"asid\":\"a\",\"root\":\"80000\","
    ++ codes "\"stale_since\":6,\"stale_by\":\"" ++ 0xC3 ∷ 0xA9 ∷ 0xEF ∷ 0xBF ∷ 0xBD ∷ codes "x\",\"address\":\"1abc\",\"by\":null}")

-- ---- causes

abbrev pub cause_begins : Type 0
cause_begins =
    Prints (cause_object (codes "boot.watch") 15 1 (users Claimed OtherHarts))
    (codes "{\"type\":\"cause\",\"file\":\"boot.watch\",\"line\":15,\"cause\":1,\"kernel\":false,\"first\":\"claim\",\"reason\":\"other-hart\"}")

abbrev pub other_cause_begins : Type 0
other_cause_begins =
    Prints (cause_object (codes "-") 1000 12 (kernels Free NotDone))
    (codes "{\"type\":\"cause\",\"file\":\"-\",\"line\":1000,\"cause\":12,\"kernel\":true,\"first\":\"free\",\"reason\":\"not-done\"}")

abbrev pub total : Type 0
total =
    Prints (total_object (codes "boot.watch") 15 (numbered 1 reaches.Used (tally_of (users Reuse NoFlush) 3 (counts_of_cause 4 5 6 7))))
    (codes "{\"type\":\"total\",\"file\":\"boot.watch\",\"line\":15,\"cause\":1,\"kernel\":false,\"first\":\"reuse\",\"reason\":\"no-flush\","
    ++ codes "\"findings\":3,\"free\":4,\"reuse\":5,\"claim\":6,\"use\":7}")

abbrev pub other_total : Type 0
other_total =
    Prints (total_object (codes "-") 2 (numbered 40 reaches.NotReached (tally_of (kernels Used OtherSpaces) 1 (counts_of_cause 0 0 0 1))))
    (codes "{\"type\":\"total\",\"file\":\"-\",\"line\":2,\"cause\":40,\"kernel\":true,\"first\":\"use\",\"reason\":\"other-asid\","
    ++ codes "\"findings\":1,\"free\":0,\"reuse\":0,\"claim\":0,\"use\":1}")

-- ---- at the end

abbrev pub known : Type 0
known =
    Prints (known_object (codes "by-design.txt") 3 368)
    (codes "{\"type\":\"known\",\"file\":\"by-design.txt\",\"line\":3,\"findings\":368}")

abbrev pub summary : Type 0
summary =
    Prints (summary_object (codes "boot.watch") 26 None (counts 1 2 3 4) (counts 5 6 7 8) None)
    (codes "{\"type\":\"summary\",\"file\":\"boot.watch\",\"records\":26,\"before_line\":null,"
    ++ codes "\"user\":{\"free\":1,\"reuse\":2,\"claim\":3,\"use\":4},\"kernel\":{\"free\":5,\"reuse\":6,\"claim\":7,\"use\":8},\"by_design\":null}")

-- a name whose last byte begins a character that it does not end
abbrev pub summary_before_a_wrong_line : Type 0
summary_before_a_wrong_line =
    Prints (summary_object (codes "boot" ++ 0xE2 ∷ []) 0 (Some 2) (counts 0 0 0 0) (counts 0 0 0 0) (Some 368))
    (codes "{\"type\":\"summary\",\"file\":\"boot" ++ 0xEF ∷ 0xBF ∷ 0xBD ∷ codes "\",\"records\":0,\"before_line\":2,"
    ++ codes "\"user\":{\"free\":0,\"reuse\":0,\"claim\":0,\"use\":0},\"kernel\":{\"free\":0,\"reuse\":0,\"claim\":0,\"use\":0},\"by_design\":368}")
