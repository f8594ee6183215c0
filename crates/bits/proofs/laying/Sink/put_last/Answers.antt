-- `Sink::put_last` meets its contract: the bits held and their fill are whole bytes.
use Rattle.lists.proofs.Below.{below_of}
use Rattle.bits.proofs.Sinks.{last_size, last_none, last_placed}
use Rattle.bits.proofs.laying.Sink.put_last.Goals as goal

pub returns-then-out-at : goal.returns-then-out-at
returns-then-out-at c =
    let a = c.args in
    λ o ds o< ds< h t. last_none o a.out.now ds a.self h t c.if-out-at.true

pub returns : goal.returns
returns c =
    let a = c.args in
    let q = c.put_bytes.new.out in
    λ o ds o< ds< h t.
    let l = last_placed o a.out.now ds a.self h t o< ds< c.if-out-at.false q (below_of 256 q (λ i. (c.type_inv.out i).fits)) c.put_bytes.ensures in
    (last_size o a.out.now ds a.self h t, l.0, l.1)
