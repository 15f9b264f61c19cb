-- `messages::tell_from` meets its contract. What is told and the pieces behind the flag at hand are the channel's.
use Rattle.messages.proofs.Walk.{walk_first, walk-over, walk-on, walk-last}
use Rattle.messages.proofs.tell_from.Goals as goal

pub loop-at-init : goal.loop-at-init
loop-at-init c = walk_first c.args.channel.now c.args.own c.args.first c.requires.1

pub loop-at-preserved-in_ok-told : goal.loop-at-preserved-in_ok-told
loop-at-preserved-in_ok-told c =
    let r = c.flag_from-end in
    let t = c.in_ok-told.told in
    let e = c.in_ok-told.ensures in
    walk-on c.args.channel.now c.args.own c.loop-at.at _ _ _ c.loop-at.invariant c.loop-at-test.true r.result r.ensures c.if-at-end.true
    t.messages t.good t.taken e.0 e.1 e.2

pub loop-at-preserved : goal.loop-at-preserved
loop-at-preserved c =
    let r = c.flag_from-end in
    walk-over c.args.channel.now c.args.own c.loop-at.at _ _ _ c.loop-at.invariant c.loop-at-test.true r.result r.ensures c.if-at-end.false

pub returns : goal.returns
returns c = walk-last c.args.channel.now c.args.own c.loop-at.at _ _ _ c.loop-at.invariant c.loop-at-test.false
