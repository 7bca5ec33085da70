-- The worked stories, computed.
use Rattle.std.proofs.Common.{◌≡◌, ℕ, zero, suc, refl, arith}
use Rattle.pte.specs.Entry.{kind_of}
use Rattle.watch.specs.declared.trace.Verdict.TheVariants.{Claimed}
use Rattle.watch.specs.WorkedTraces.{page, writable}
use Rattle.watch_engine.specs.WorkedWarnings.{warning}
use Rattle.watch_engine.proofs.WarningTests.{began, due_by}
use Rattle.watch_causes.specs.Stories.{number_at}
use Rattle.watch_causes.specs.WorkedStories.{is_sixth, told_but}
use Rattle.watch_causes.specs.WorkedStories as worked

pub word_stored : worked.word_stored
word_stored = refl

pub hart_enters : worked.hart_enters
hart_enters = refl

pub other_hart_enters : worked.other_hart_enters
other_hart_enters = refl

pub hart_goes_elsewhere : worked.hart_goes_elsewhere
hart_goes_elsewhere = refl

pub hart_goes_bare : worked.hart_goes_bare
hart_goes_bare = refl

pub global_is_everywhere : worked.global_is_everywhere
global_is_everywhere = refl

pub hart_fenced : worked.hart_fenced
hart_fenced = refl

pub hart_was_asked : worked.hart_was_asked
hart_was_asked = refl

pub other_hart_fenced : worked.other_hart_fenced
other_hart_fenced = refl

pub next_page_fenced : worked.next_page_fenced
next_page_fenced = refl

pub unmapped : worked.unmapped
unmapped = refl

pub fence_of_other_hart : worked.fence_of_other_hart
fence_of_other_hart = refl

pub fence_of_other_asid : worked.fence_of_other_asid
fence_of_other_asid = refl

pub fence_by_asid_of_global : worked.fence_by_asid_of_global
fence_by_asid_of_global = refl

pub fence_of_next_page : worked.fence_of_next_page
fence_of_next_page = refl

pub fence_that_is_asked : worked.fence_that_is_asked
fence_that_is_asked = refl

pub flush_begins : worked.flush_begins
flush_begins = refl

pub flush_returns : worked.flush_returns
flush_returns = refl

pub frame_comes_back : worked.frame_comes_back
frame_comes_back = refl

pub frame_goes_out : worked.frame_goes_out
frame_goes_out = refl

pub page_is_used : worked.page_is_used
page_is_used = refl

pub word_stored_since : worked.word_stored_since
word_stored_since = refl

pub fence_is_learnt : worked.fence_is_learnt
fence_is_learnt = refl

pub parts_told : worked.parts_told
parts_told = refl

pub they_give_it : worked.they_give_it
unfolding kind_of
they_give_it =
    record {
      alone = warning Claimed 1 (page writable) 5;
      due = (due_by Claimed _ _ 1 (page writable) refl, began _ 1 (page writable) 5 refl refl);
      verdict = refl;
      frames = refl;
      rights = refl;
      finding = refl;
    }

no-sixth : (n : ℕ) → number_at (told_but is_sixth) n ≡ 6 → ⊥
no-sixth zero is = omega (arith, is)
no-sixth (suc zero) is = omega (arith, is)
no-sixth (suc (suc zero)) is = omega (arith, is)
no-sixth (suc (suc (suc zero))) is = omega (arith, is)
no-sixth (suc (suc (suc (suc zero)))) is = omega (arith, is)
no-sixth (suc (suc (suc (suc (suc zero))))) is = omega (arith, is)
no-sixth (suc (suc (suc (suc (suc (suc zero)))))) is = omega (arith, is)
no-sixth (suc (suc (suc (suc (suc (suc (suc zero))))))) is = omega (arith, is)
no-sixth (suc (suc (suc (suc (suc (suc (suc (suc zero)))))))) is = omega (arith, is)
no-sixth (suc (suc (suc (suc (suc (suc (suc (suc (suc zero))))))))) is = omega (arith, is)
no-sixth (suc (suc (suc (suc (suc (suc (suc (suc (suc (suc n)))))))))) is = omega (arith, is)

pub others_do_not : worked.others_do_not
others_do_not gives = no-sixth gives.alone.stale_since (λ j. (gives.finding j).since)

pub ruleset roles_before = (word_stored, hart_enters, other_hart_enters, hart_goes_elsewhere, hart_goes_bare, global_is_everywhere, hart_fenced, hart_was_asked, other_hart_fenced, next_page_fenced, unmapped)

pub ruleset roles_since = (fence_of_other_hart, fence_of_other_asid, fence_by_asid_of_global, fence_of_next_page, fence_that_is_asked, flush_begins, flush_returns, frame_comes_back, frame_goes_out, page_is_used, word_stored_since, fence_is_learnt)

pub ruleset stories = (parts_told, they_give_it, others_do_not)
