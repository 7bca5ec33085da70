-- What the answer of one port says of the TLBs of all ports that share a state with it.
use Rattle.std.proofs.Common.{◌≡◌, ◌∙◌, sym, ap, subst, ℕ, List, [], ◌∷◌, ◌++◌, map, All, get_or, append_assoc}
use Rattle.std.proofs.lemmas.List.{map-append}
use Rattle.std.specs.Prelude.{Contains}
use Rattle.std.proofs.lemmas.List.Elements.{All-cons, All-head, All-nil, All-tail}
use mathlib.Core.Option.{some}
use lib.ListN.{get_elem?}
use Rattle.atomic_table.specs.Table.{State}
use Rattle.views.specs.declared.view.View.{View}
use Rattle.views.specs.OnBoard.{IsWithin}
use Rattle.views.specs.Gathered.{StandTogether, StandsIn}
use Rattle.views.specs.Orders.{is_in}
use Rattle.board.specs.Ports.{PortName, PortState, name_of}
use Rattle.board.specs.Promises.{HasView}
use Rattle.board.specs.Together.{CollectedIsGoneFromTlbs, CollectedTlbsHoldOnlySince, DoneIsGoneFromTlbs, KnowsItself, ShareAState}
use Rattle.board.proofs.Promises.{gone, only-since}

-- what holds of all ports holds of each
of-all : {X : Type 0} (P : X → Type 0) (xs : List X) (x : X) → All P xs → Contains xs x → P x
of-all P xs x all in-xs = subst P in-xs.2 (all in-xs.0 x in-xs.1)

-- the seat of the port's hart has the hart's number
own-hart : (port : PortState) (state : State ℕ View) → HasView port state → port.view.hart ≡ port.hart
own-hart port state has = has.stands.tables.numbered port.hart port.view has.at

pub done_is_gone : DoneIsGoneFromTlbs
done_is_gone ports share port other in-ports other-in ticket clean named order open-order place page live =
    let has = of-all (λ p. HasView p share.state) ports port share.have_views in-ports in
    let others = of-all (λ p. HasView p share.state) ports other share.have_views other-in in
    let within = of-all (λ p. IsWithin p.tlb.entries p.view.entries) ports other share.within other-in in
    let is = clean.named share.state has order open-order place page live in
    is.dropped other.hart named other.hart other.view others.at (own-hart other share.state others) other.tlb.entries within

pub collected_is_gone : CollectedIsGoneFromTlbs
collected_is_gone ports share port other in-ports other-in n order at got place page live =
    let has = of-all (λ p. HasView p share.state) ports port share.have_views in-ports in
    let others = of-all (λ p. HasView p share.state) ports other share.have_views other-in in
    let within = of-all (λ p. IsWithin p.tlb.entries p.view.entries) ports other share.within other-in in
    let is = gone port share.state has n order at place page live (λ h. is_in h order.collected) (λ h in-it. in-it) in
    is.dropped other.hart got other.hart other.view others.at (own-hart other share.state others) other.tlb.entries within

pub collected_since : CollectedTlbsHoldOnlySince
collected_since ports share port other in-ports other-in n order at got e held dropped from =
    let has = of-all (λ p. HasView p share.state) ports port share.have_views in-ports in
    let others = of-all (λ p. HasView p share.state) ports other share.have_views other-in in
    let within = of-all (λ p. IsWithin p.tlb.entries p.view.entries) ports other share.within other-in in
    only-since port share.state has n order at other.hart got other.hart other.view others.at (own-hart other share.state others) other.tlb.entries within e held dropped from

-- ports whose views stand in one state share it
pub shared : (ports : List PortState) (state : State ℕ View) → All (λ port. StandsIn state port.view) ports → All KnowsItself ports → ShareAState ports
shared ports state stand own = record {
  state = state;
  have_views = λ k d low. has (get_or ports k d) (stand k d low) (own k d low);
  within = λ k d low. (own k d low).within;
}
  where
    has : (port : PortState) → StandsIn state port.view → KnowsItself port → HasView port state
    has port stands own' = record {
      config = own'.config;
      stands = stands.stands;
      at = subst (λ n. get_elem? state.views n ≡ some port.view) own'.hart stands.at;
    }

pub two_shared : (port other : PortState) → StandTogether (port.view ∷ other.view ∷ []) → KnowsItself port → KnowsItself other → ShareAState (port ∷ other ∷ [])
two_shared port other meeting own others =
    let P = StandsIn meeting.state in
    let V = λ (p : PortState). P p.view in
    let each = meeting.each in
    shared (port ∷ other ∷ []) meeting.state
    (All-cons V port (other ∷ []) (All-head P port.view (other.view ∷ []) each)
    (All-cons V other [] (All-head P other.view [] (All-tail P port.view (other.view ∷ []) each)) (All-nil V)))
    (All-cons KnowsItself port (other ∷ []) own (All-cons KnowsItself other [] others (All-nil KnowsItself)))

pub none_shared : (ports : List PortState) → ports ≡ [] → ShareAState ports
none_shared ports none = subst ShareAState (sym none) record {
  state = record { words = []; homes = []; views = [] };
  have_views = All-nil (λ p. HasView p record { words = []; homes = []; views = [] });
  within = All-nil (λ p. IsWithin p.tlb.entries p.view.entries);
}

-- what holds of the name of each port holds of each
pub of_ports : (P : PortName → Type 0) (ports : List PortState) → All P (map name_of ports) → All (λ port. P (name_of port)) ports
of_ports P [] all = All-nil (λ port. P (name_of port))
of_ports P (port ∷ ports) all =
    All-cons (λ p. P (name_of p)) port ports (All-head P (name_of port) (map name_of ports) all) (of_ports P ports (All-tail P (name_of port) (map name_of ports) all))

-- The ends of ports, of which all but the last are taken from the front one by one, and the last one
-- at the end.
module _ {A B : Type 0} (row-of : A → B) (ends : PortState → B) where
  pub begun : (none : List A) (ports left' rest : List PortState) (last : PortState) (end : A) → none ≡ [] → left' ≡ rest → ports ≡ rest ++ last ∷ [] → row-of end ≡ ends last
      → map row-of none ++ (map ends left' ++ row-of end ∷ []) ≡ map ends ports
  begun none ports left' rest last end empty all is same =
      ap (λ (rows : List A). map row-of rows ++ (map ends left' ++ row-of end ∷ [])) empty
      ∙ (ap (λ (l : List PortState). map ends l ++ row-of end ∷ []) all
      ∙ (ap (λ (b : B). map ends rest ++ b ∷ []) same ∙ (sym (map-append ends rest (last ∷ [])) ∙ ap (λ (l : List PortState). map ends l) (sym is))))

  pub one_more : (rows new : List A) (end : A) (left' rest : List PortState) (port : PortState) (last all : List B) → new ≡ rows ++ end ∷ [] → row-of end ≡ ends port → left' ≡ port ∷ rest
      → map row-of rows ++ (map ends left' ++ last) ≡ all → map row-of new ++ (map ends rest ++ last) ≡ all
  one_more rows new end left' rest port last all grown same is before =
      ap (λ (r : List A). map row-of r ++ (map ends rest ++ last)) grown
      ∙ (ap (λ (r : List B). r ++ (map ends rest ++ last)) (map-append row-of rows (end ∷ []))
      ∙ (append_assoc (map row-of rows) (row-of end ∷ []) (map ends rest ++ last)
      ∙ (ap (λ (b : B). map row-of rows ++ b ∷ (map ends rest ++ last)) same ∙ (sym (ap (λ (l : List PortState). map row-of rows ++ (map ends l ++ last)) is) ∙ before))))

  pub ended : (rows new : List A) (end : A) (left' : List PortState) (all : List B) → new ≡ rows ++ end ∷ [] → left' ≡ [] → map row-of rows ++ (map ends left' ++ row-of end ∷ []) ≡ all
      → map row-of new ≡ all
  ended rows new end left' all grown none before =
      ap (λ (r : List A). map row-of r) grown
      ∙ (map-append row-of rows (end ∷ []) ∙ (sym (ap (λ (l : List PortState). map row-of rows ++ (map ends l ++ row-of end ∷ [])) none) ∙ before))
