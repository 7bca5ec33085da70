use Rattle.std.proofs.Common.{◌≡◌, ◌∙◌, sym, ap, ap₂, subst, ◌++◌, List, [], ◌∷◌, map, rules}
use Rattle.board.specs.Ports.{ArePorts, PortName, PortState, name_of}
use Rattle.thread_tests.proofs.two_threads.in_two_threads.Goals as goal

-- two ports that come back under their names
renamed : (xs : List PortState) (z z' o o' : PortState) → name_of z' ≡ name_of z → name_of o' ≡ name_of o
    → map name_of ((xs ++ z ∷ []) ++ o ∷ []) ≡ map name_of ((xs ++ z' ∷ []) ++ o' ∷ [])
renamed [] z z' o o' first second = ap₂ (λ (m n : PortName). m ∷ n ∷ []) (sym first) (sym second)
renamed (x ∷ xs) z z' o o' first second = ap (λ (names : List PortName). name_of x ∷ names) (renamed xs z z' o o' first second)

pub close-requires : goal.close-requires
close-requires g c =
    let one = c.in-Some-Some.one in
    let zero = c.in-Some-Some.zero in
    let zero' = c.join-zero.result.0.0 in
    let one' = c.join-zero.result.1.0 in
    let left = c.pop-2.new.self.items in
    let was : c.args.ports.items ≡ (left ++ zero ∷ []) ++ one ∷ [] = search rules in
    let is : c.push-2.new.self.items ≡ (left ++ zero' ∷ []) ++ one' ∷ [] = search rules in
    record {
      ports = subst (λ (names : List PortName). ArePorts c.args.board names)
          (ap (map name_of) was ∙ (renamed left zero zero' one one' c.join-zero.ensures.first c.join-zero.ensures.second ∙ sym (ap (map name_of) is))) c.requires;
    }
