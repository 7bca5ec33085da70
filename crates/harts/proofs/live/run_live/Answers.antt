use Rattle.std.proofs.Common.{rules, ◌≡◌, ◌<◌, ◌≤◌, true, [], sym, ap, subst, ◌∙◌, arith, append-nil, length, drop, map}
use Rattle.std.proofs.lemmas.List.{drop_all, length-map}
use Rattle.harts.specs.Plays.{HavePlayed, SetsUp, starts_from}
use Rattle.harts.specs.Scripts.{are_answered, are_made, may_answer, scripts_of}
use Rattle.harts.proofs.PlayLemmas.{set_up_ended, sets_up_more}
use Rattle.harts.proofs.ScriptLemmas.{each_answered, made_more}
use Rattle.harts.proofs.live.run_live.Goals as goal

pub loop-hart-preserved : goal.loop-hart-preserved
loop-hart-preserved g c =
    let at = c.loop-hart in let setup = c.args.setup.now in
    let less : at.hart-index < length setup = search rules in
    let item = c.loop-hart-item.result in
    record {
      ports = rw c.step_of.ensures.same at.invariant.ports;
      many = c.step_of.ensures.count ∙ at.invariant.many;
      count = search rules;
      room = search rules;
      harts = at.invariant.harts;
      set_up = sets_up_more c.new-latch.result.harts c.args.turns setup at.hart-index item at.ports.items c.step_of.new.ports.items at.answers.items c.push_reserved.new.self.items c.in-Some.reply
          (λ answers last. SetsUp c.new-latch.result.harts c.args.turns c.in_ok-board.ports.items setup answers last) c.loop-hart-item.is c.push_reserved.ensures.items less c.in-Some.ensures.performs at.invariant.set_up;
      made = made_more (λ step. step.1) setup at.answers.items c.push_reserved.new.self.items c.in-Some.reply at.hart-index item
          c.push_reserved.ensures.items less (ap (λ w. may_answer w.1 c.in-Some.reply) (sym c.loop-hart-item.is) ∙ c.in-Some.ensures.made) at.invariant.made;
    }

pub returns-clause-made : goal.returns-clause-made
returns-clause-made g c =
    let at = c.loop-hart in let setup = c.args.setup.now in
    ap (are_made (map (λ step. step.1) setup)) (sym (append-nil at.answers.items)) ∙ at.invariant.made []
    ∙ ap (λ left. are_made (map (λ step. step.1) left) []) (drop_all at.hart-index setup (search arith))

pub returns-clause-answered : goal.returns-clause-answered
returns-clause-answered g c =
    let scripts = map (λ script. script.items) c.args.scripts.now in let replies = map (λ own. own.items) c.in_ok-ports.scripts.items in
    let harts = length c.loop-hart.ports.items in
    let few : length scripts ≤ harts = let many = c.loop-hart.invariant.many in let l = length-map c.args.scripts.now (λ script. script.items) in let r = c.requires.scripts in omega arith in
    let own : are_answered (scripts_of harts scripts) replies ≡ true = subst (λ w. are_answered w replies ≡ true) c.in_ok-roles.ensures.scripts c.in_ok-ports.ensures.answered in
    each_answered harts scripts replies few own

pub returns-clause-ran : goal.returns-clause-ran
returns-clause-ran g c =
    let at = c.loop-hart in let setup = c.args.setup.now in let says = g.G.Gate.says c.args.gate.now in let ready = at.ports.items in
    let scripts = map (λ script. script.items) c.args.scripts.now in let replies = map (λ own. own.items) c.in_ok-ports.scripts.items in
    let harts : c.new-latch.result.harts ≡ c.args.config.now.harts = at.invariant.harts in
    let made = set_up_ended c.new-latch.result.harts c.args.turns (drop at.hart-index setup) ready at.answers.items
    (λ answers last. SetsUp c.new-latch.result.harts c.args.turns c.in_ok-board.ports.items setup answers last) (drop_all at.hart-index setup (search arith)) at.invariant.set_up in
    record {
      opened = c.in_ok-board.ports.items;
      are_new = c.in_ok-board.ensures.new;
      are_ports = c.in_ok-board.ensures.ports;
      ready = ready;
      set_up = subst (λ h. SetsUp h c.args.turns c.in_ok-board.ports.items setup at.answers.items ready) harts made;
      played = subst (λ h. HavePlayed (record { gate = says; harts = h; turns = c.args.turns }) (starts_from 0 ready (scripts_of c.args.config.now.harts scripts)) replies) harts
          (subst (λ n. HavePlayed (record { gate = says; harts = c.new-latch.result.harts; turns = c.args.turns }) (starts_from 0 ready (scripts_of n scripts)) replies) at.invariant.many
          (subst (λ w. HavePlayed (record { gate = says; harts = c.new-latch.result.harts; turns = c.args.turns }) w replies) c.in_ok-roles.ensures.starts c.in_ok-ports.ensures.played));
    }
