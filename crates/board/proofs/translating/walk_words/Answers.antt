use Rattle.board.proofs.translating.walk_words.Goals as goal

pub returns : goal.returns
returns c =
    let e = c.walk_from_root.ensures in
    record { fit = e.fit; loads = e.loads; tlb = e.tlb; hart = e.loads.home.hart; used = e.loads.home.used; orders = e.loads.home.orders; entries = e.loads.entries }
