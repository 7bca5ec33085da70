use Rattle.std.proofs.Common.{rules, ◌≡◌, [], ◌∷◌, sym, ap, ◌∙◌}
use Rattle.std.proofs.lemmas.List.{nil_from_length}
use Rattle.std.specs.Vec.Iter.{into_iter_items}
use Rattle.board.specs.Ports.{name_of}
use Rattle.harts.specs.Plays.{start_of}
use Rattle.harts.proofs.PlayLemmas.{if_ok, names_all}
use Rattle.harts.proofs.Tallied.{all_more, names_more}
use Rattle.harts.proofs.live_threads.fn.start_all.scope.Goals as goal

pub loop-role-preserved : goal.loop-role-preserved
loop-role-preserved g c =
    let at = c.loop-role in let was = at.invariant in let role = c.in-Some.role in let handle = c.in_ok-handle_of.field-0 in
    let left = into_iter_items at.role-iterator in let rest = into_iter_items c.next.new.self in
    let first : left ≡ role ∷ rest = c.in-Some.ensures.steps.0 in let new = c.push_reserved.ensures.items in
    let kept : handle.promise ≡ c.of-promise.result = if_ok (λ h. h.promise ≡ c.of-promise.result) _ handle c.in_ok-handle_of.ensures c.spawn_with-started.ensures.ok in
    let port : handle.promise.port.value ≡ role.port = ap (λ p. p.port.value) kept ∙ c.of-promise.ensures.port ∙ c.into_parts-hart.ensures.same.1 in
    let hart : handle.promise.hart ≡ role.hart = ap (λ p. p.hart) kept ∙ c.of-promise.ensures.hart ∙ c.into_parts-hart.ensures.same.0 in
    let steps : handle.promise.steps.value.items ≡ role.script.now.items = ap (λ p. p.steps.value.items) kept ∙ c.of-promise.ensures.steps ∙ c.into_parts-hart.ensures.same.2 in
    record {
      same = names_more (λ h. name_of h.promise.port.value) (λ r. name_of r.port) at.handles.items c.push_reserved.new.self.items handle left rest role _ new first (ap name_of port) was.same;
      scripts = names_more (λ h. h.promise.steps.value.items) (λ r. r.script.now.items) at.handles.items c.push_reserved.new.self.items handle left rest role _ new first steps was.scripts;
      starts = names_more (λ h. start_of h.promise.hart h.promise.port.value h.promise.steps.value.items) (λ r. start_of r.hart r.port r.script.now.items) at.handles.items c.push_reserved.new.self.items handle left rest role _ new first
          (ap (λ n. start_of n handle.promise.port.value handle.promise.steps.value.items) hart ∙ ap (λ p. start_of role.hart p handle.promise.steps.value.items) port ∙ ap (start_of role.hart role.port) steps) was.starts;
      run = all_more (λ h. (h.promise.gate.value ≡ c.captures.gate.now) × (h.promise.harts ≡ c.captures.latch.now.harts) × (h.promise.turns ≡ c.captures.turns)) at.handles.items c.push_reserved.new.self.items handle new was.run
          (ap (λ p. p.gate.value) kept ∙ c.of-promise.ensures.gate, ap (λ p. p.harts) kept ∙ c.of-promise.ensures.run.0, ap (λ p. p.turns) kept ∙ c.of-promise.ensures.run.1);
      room = search rules;
      left = search rules;
    }

pub returns : goal.returns
returns g c =
    let at = c.loop-role in let left = into_iter_items at.role-iterator in let roles = c.captures.roles.items in
    let none : left ≡ [] = nil_from_length _ (sym at.invariant.left ∙ c.in-None.ensures.steps.0) in
    let same : into_iter_items c.into_iter-role-iterator.result ≡ roles = search rules in
    record {
      ports = names_all (λ h. name_of h.promise.port.value) (λ r. name_of r.port) at.handles.items left _ roles none same at.invariant.same;
      scripts = names_all (λ h. h.promise.steps.value.items) (λ r. r.script.now.items) at.handles.items left _ roles none same at.invariant.scripts;
      starts = names_all (λ h. start_of h.promise.hart h.promise.port.value h.promise.steps.value.items) (λ r. start_of r.hart r.port r.script.now.items) at.handles.items left _ roles none same at.invariant.starts;
      run = at.invariant.run;
    }
