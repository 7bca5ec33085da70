-- The worked causes, computed.
use Rattle.std.proofs.Common.{refl}
use Rattle.watch_causes.specs.WorkedCauses as worked

pub freed_and_used : worked.freed_and_used
freed_and_used = refl

pub of_other_rights : worked.of_other_rights
of_other_rights = refl

pub of_other_frame : worked.of_other_frame
of_other_frame = refl

pub of_other_page : worked.of_other_page
of_other_page = refl

pub of_other_size : worked.of_other_size
of_other_size = refl

pub of_other_hart : worked.of_other_hart
of_other_hart = refl

pub of_other_record : worked.of_other_record
of_other_record = refl

pub of_other_root : worked.of_other_root
of_other_root = refl

pub of_other_asid : worked.of_other_asid
of_other_asid = refl

pub global_elsewhere : worked.global_elsewhere
global_elsewhere = refl

pub claimed_later : worked.claimed_later
claimed_later = refl

pub of_other_reason : worked.of_other_reason
of_other_reason = refl

pub of_other_kind : worked.of_other_kind
of_other_kind = refl

pub of_the_kernel : worked.of_the_kernel
of_the_kernel = refl

pub first_cause_again : worked.first_cause_again
first_cause_again = refl

pub both_claimed : worked.both_claimed
both_claimed = refl

pub freed_within_flush : worked.freed_within_flush
freed_within_flush = refl

pub ruleset worked_findings = (freed_and_used, of_other_rights, of_other_frame, of_other_page, of_other_size, of_other_hart, of_other_record, of_other_root, of_other_asid, global_elsewhere)

pub ruleset worked_causes = (claimed_later, of_other_reason, of_other_kind, of_the_kernel, first_cause_again, both_claimed, freed_within_flush)
