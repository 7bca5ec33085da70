use Rattle.std.proofs.Common.{◌≡◌, ◌∙◌, sym, arith}
use Rattle.melissaledge.proofs.Accessing.{goes_ended, goes_first, goes_more, no_more}
use Rattle.melissaledge.proofs.accesses.load_all.Goals as goal

pub loop-load-init : goal.loop-load-init
loop-load-init c setup start stands promises has = goes_first setup c.args.hart start c.args.first c.args.machine.now stands promises has

pub loop-load-preserved : goal.loop-load-preserved
loop-load-preserved c setup start stands promises has =
    let at = c.loop-load in
    let does = c.step-reply.ensures in
    goes_more setup c.args.hart start c.args.first at._load at.reply c.step-reply.result at.machine c.step-reply.new.self (sym c.is_more.ensures ∙ c.if-not-is_more.false)
    (at.invariant setup start stands promises has) (does.due setup) (does.stands setup) (does.promises setup)

pub returns-then-not-is_more : goal.returns-then-not-is_more
returns-then-not-is_more c setup start stands promises has =
    let at = c.loop-load in
    goes_ended setup c.args.hart start c.args.first at._load at.reply at.machine (at.invariant setup start stands promises has) (sym c.is_more.ensures ∙ c.if-not-is_more.true)

pub returns : goal.returns
returns c setup start stands promises has =
    let at = c.loop-load in
    let goes = at.invariant setup start stands promises has in
    let all : at._load ≡ 4 = omega (arith, c.loop-load-test.false, at.auto._load-end) in
    goes_ended setup c.args.hart start c.args.first at._load at.reply at.machine goes (no_more setup c.args.hart start c.args.first at._load at.reply at.machine goes all)
