use Rattle.std.proofs.Common.{◌≡◌, ◌∙◌, sym, ap, ap₂, subst, ◌++◌, List, [], ◌∷◌, length, map, rules, arith, length-append}
use Rattle.std.proofs.lemmas.List.{length-map}
use Rattle.std.proofs.lemmas.List.FromFn.{length-range_with_len}
use Rattle.history.specs.Setup.{Setup}
use Rattle.board.specs.Ports.{ArePorts, PortName, PortState, name_of}
use Rattle.thread_tests.proofs.board_shootdowns.map_and_free.Goals as goal

-- two ports of a board of two harts, under their names later
two-ports : (setup : Setup) (left : List PortState) (z z' o o' : PortState) → setup.harts ≡ 2 → name_of z' ≡ name_of z → name_of o' ≡ name_of o
    → ArePorts setup (map name_of ((left ++ z ∷ []) ++ o ∷ [])) → ArePorts z'.setup (name_of z' ∷ name_of o' ∷ [])
two-ports setup [] z z' o o' two first second are =
    let names : (name_of z ∷ name_of o ∷ []) ≡ (name_of z' ∷ name_of o' ∷ []) = ap₂ (λ (m n : PortName). m ∷ n ∷ []) (sym first) (sym second) in
    let now : ArePorts setup (name_of z' ∷ name_of o' ∷ []) = subst (ArePorts setup) names are in
    subst (λ s. ArePorts s (name_of z' ∷ name_of o' ∷ [])) (sym (now.of_setup 0 (name_of z') (omega arith))) now
two-ports setup (x ∷ xs) z z' o o' two first second are =
    let all = ((x ∷ xs) ++ z ∷ []) ++ o ∷ [] in
    let count = sym (length-map (map name_of all) (λ name. name.hart) ∙ length-map all name_of) ∙ (ap length are.numbered ∙ length-range_with_len 0 setup.harts) in
    let long = length-append ((x ∷ xs) ++ z ∷ []) (o ∷ []) in
    let long' = length-append (x ∷ xs) (z ∷ []) in
    absurd (omega (arith, count, long, long', two))

pub unmap_and_drop-requires : goal.unmap_and_drop-requires
unmap_and_drop-requires c =
    let one = c.in-Some-Some.one in
    let zero = c.in-Some-Some.zero in
    let left = c.pop-2.new.self.items in
    let was : c.args.ports.items ≡ (left ++ zero ∷ []) ++ one ∷ [] = search rules in
    record {
      ports = two-ports c.args.board.now left zero c.map_first-mapped.new.port one c.translate.new.self c.requires.two c.map_first-mapped.ensures c.translate.ensures.same
          (subst (λ (ports : List PortState). ArePorts c.args.board.now (map name_of ports)) was c.requires.ports);
    }
