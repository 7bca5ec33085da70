use Rattle.std.proofs.Common.{ℕ, ◌≡◌, ◌+◌, Bool, List, false, inl, inr, subst, sym, arith}
use Rattle.std.specs.List.{list_any}
use Rattle.watch_engine.specs.declared.held.Held.{Held}
use Rattle.watch_engine.specs.declared.keys.Keys.{Keys}
use Rattle.watch_engine.specs.Causes.{applies}
use Rattle.watch_engine.specs.Keys.{key_at, key_of}
use Rattle.watch_engine.proofs.Walks.{below_or_is, keyed, none_among}
use Rattle.watch_engine.proofs.held_list.HeldList.may_concern_among.Goals as goal

pub loop-offset-preserved : goal.loop-offset-preserved
loop-offset-preserved c = λ n h.
    let keys : Keys = c.args.keys.now in
    let items : List Held = c.args.self.now.places.items in
    let has_any : ℕ → Bool = λ k. list_any (keyed (key_of keys.by) k (applies c.args.cause.now)) items in
    elim (below_or_is n c.loop-offset.offset (omega arith)) [
      | inl low ↦ c.loop-offset.invariant n low
      | inr is ↦
          subst (λ (m : ℕ). has_any (key_at keys m) ≡ false) (sym is)
          (subst (λ (k : ℕ). has_any k ≡ false) c.key.ensures (c.may_concern_with-in-loop-offset.ensures c.if-may_concern_with-2.false))
    ]

pub returns : goal.returns
returns c = λ no are.
    let keys : Keys = c.args.keys.now in
    none_among (key_of keys.by) (applies c.args.cause.now) (keys.count + keys.megapages) (key_at keys) keys.limit c.args.self.now.places.items
    (λ n h. c.loop-offset.invariant n (omega arith)) (c.may_concern_with.ensures c.if-may_concern_with.false) are
