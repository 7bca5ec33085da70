use Rattle.std.proofs.Common.{rules, ◌≡◌, [], ◌∷◌, sym, ap, subst, ◌∙◌, append-nil, map}
use Rattle.std.proofs.lemmas.List.{nil_from_length}
use Rattle.std.specs.Prelude.{IfSome}
use Rattle.std.specs.Vec.Iter.{into_iter_items}
use Rattle.board.specs.Ports.{name_of}
use Rattle.harts.specs.Scripts.{IsAnswered, are_answered}
use Rattle.harts.proofs.ScriptLemmas.{answered_more}
use Rattle.harts.specs.Plays.{HasPlayed, start_of}
use Rattle.harts.proofs.PlayLemmas.{if_there, played_all, played_more}
use Rattle.harts.proofs.Tallied.{all_rest, names_more}
use Rattle.harts.proofs.live_threads.join_all.Goals as goal

pub loop-handle-preserved : goal.loop-handle-preserved
loop-handle-preserved g c =
    let at = c.loop-handle in let was = at.invariant in let handle = c.in-Some.handle in
    let left = into_iter_items at.handle-iterator in let rest = into_iter_items c.next.new.self in
    let first : left ≡ handle ∷ rest = c.in-Some.ensures.steps.0 in
    let port = c.push_reserved.ensures in let own = c.push_reserved-in-loop-handle.ensures in
    let both = all_rest (λ h. (h.promise.gate.value ≡ c.args.gate.now) × (h.promise.harts ≡ c.args.latch.now.harts) × (h.promise.turns ≡ c.args.turns)) left rest handle first was.run in
    let start = start_of handle.promise.hart handle.promise.port.value handle.promise.steps.value.items in
    let played = subst (λ t. IfSome c.join-port.result.1 (λ answers. HasPlayed (record { gate = g.G.Gate.says c.args.gate.now; harts = c.args.latch.now.harts; turns = t }) start answers.items)) both.1.2
    (subst (λ n. IfSome c.join-port.result.1 (λ answers. HasPlayed (record { gate = g.G.Gate.says c.args.gate.now; harts = n; turns = handle.promise.turns }) start answers.items)) both.1.1
    (subst (λ w. IfSome c.join-port.result.1 (λ answers. HasPlayed (record { gate = g.G.Gate.says w; harts = handle.promise.harts; turns = handle.promise.turns }) start answers.items)) both.1.0 c.join-port.ensures.2)) in
    record {
      same = names_more name_of (λ h. name_of h.promise.port.value) at.ports.items c.push_reserved.new.self.items c.join-port.result.0 left rest handle _ port.items first c.join-port.ensures.0 was.same;
      count = search rules;
      port_room = search rules;
      answer_room = search rules;
      left = search rules;
      run = both.0;
      answered = answered_more (λ h. h.promise.steps.value.items) (λ replies. replies.items) (map (λ h. h.promise.steps.value.items) c.args.handles.items) at.answers.items
          c.push_reserved-in-loop-handle.new.self.items c.in-Some-own.replies left rest handle own.items first (if_there (λ answers. IsAnswered handle.promise.steps.value.items answers.items) _ c.in-Some-own.replies c.in-Some-own.is c.join-port.ensures.1) was.answered;
      played = played_more (record { gate = g.G.Gate.says c.args.gate.now; harts = c.args.latch.now.harts; turns = c.args.turns })
          (λ h. start_of h.promise.hart h.promise.port.value h.promise.steps.value.items) (λ replies. replies.items)
          (map (λ h. start_of h.promise.hart h.promise.port.value h.promise.steps.value.items) c.args.handles.items) at.answers.items
          c.push_reserved-in-loop-handle.new.self.items c.in-Some-own.replies left rest handle own.items first (if_there (λ answers. HasPlayed (record { gate = g.G.Gate.says c.args.gate.now; harts = c.args.latch.now.harts; turns = c.args.turns }) (start_of handle.promise.hart handle.promise.port.value handle.promise.steps.value.items) answers.items) _ c.in-Some-own.replies c.in-Some-own.is played) was.played;
    }

pub returns-clause-answered : goal.returns-clause-answered
returns-clause-answered g c =
    let at = c.loop-handle in let none : into_iter_items at.handle-iterator ≡ [] = nil_from_length _ (sym at.invariant.left ∙ c.in-None.ensures.steps.0) in
    ap (are_answered (map (λ h. h.promise.steps.value.items) c.args.handles.items)) (sym (append-nil (map (λ replies. replies.items) at.answers.items)))
    ∙ at.invariant.answered [] ∙ ap (λ w. are_answered (map (λ h. h.promise.steps.value.items) w) []) none

pub returns-clause-played : goal.returns-clause-played
returns-clause-played g c =
    let at = c.loop-handle in let none : into_iter_items at.handle-iterator ≡ [] = nil_from_length _ (sym at.invariant.left ∙ c.in-None.ensures.steps.0) in
    played_all (record { gate = g.G.Gate.says c.args.gate.now; harts = c.args.latch.now.harts; turns = c.args.turns })
    (λ h. start_of h.promise.hart h.promise.port.value h.promise.steps.value.items) (λ replies. replies.items)
    (map (λ h. start_of h.promise.hart h.promise.port.value h.promise.steps.value.items) c.args.handles.items) at.answers.items (into_iter_items at.handle-iterator) none at.invariant.played
