use Rattle.thread_tests.proofs.senders.work_on.Goals as goal

pub returns-clause-stays : goal.returns-clause-stays
returns-clause-stays c ticket place page named was =
    let keeps = c.unmapping_stays_open.ensures.through_calls in
    let looked = keeps _ _ _ ticket place page named c.collect-older.ensures.call (λ ends. ends) was in
    let served = keeps _ _ _ ticket place page named c.serve-served.ensures.call (λ ends. ends) looked in
    keeps _ _ _ ticket place page named c.translate-found.ensures.call (λ ends. ends) served
