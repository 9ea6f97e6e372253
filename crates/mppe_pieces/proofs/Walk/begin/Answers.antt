use native.Mathlib.Omega.{arith}
use Rattle.mppe_pieces.proofs.InnerLaws.{begin_front, front_right, begin_refused, begin_changes, begin_waits, begin_total, begin_room, begin_done}
use Rattle.answer.specs.Laws.{right_length}
use Rattle.mppe_pieces.proofs.Walk.begin.Goals as goal

pub returns-then-wrong_front : goal.returns-then-wrong_front
returns-then-wrong_front c = begin_front c.args.link c.args.front.now c.args.total c.args.room c.wrong_front.ensures c.if-wrong_front.true c.misshapen.ensures c.closed.ensures

pub bounds-front-2 : goal.bounds-front-2
bounds-front-2 c =
    let four = right_length 4 c.args.front.now (front_right c.args.front.now c.wrong_front.ensures c.if-wrong_front.false).0 in
    let long = four in omega (arith, long)

pub bounds-front-3 : goal.bounds-front-3
bounds-front-3 c =
    let four = right_length 4 c.args.front.now (front_right c.args.front.now c.wrong_front.ensures c.if-wrong_front.false).0 in
    let long = four in omega (arith, long)

pub begun_waiting-requires : goal.begun_waiting-requires
begun_waiting-requires c =
    begin_changes c.args.link c.args.front.now c.args.total c.args.room c.wrong_front.ensures c.if-wrong_front.false c.pair-header.ensures c.judge-judged.ensures
    (λ z. omega (arith, z, c.if-judged-eq-WAITING.true))

pub returns-then-judged-eq-WAITING : goal.returns-then-judged-eq-WAITING
returns-then-judged-eq-WAITING c =
    begin_waits c.args.link c.args.front.now c.args.total c.args.room c.wrong_front.ensures c.if-wrong_front.false c.pair-header.ensures c.judge-judged.ensures
    c.if-judged-eq-WAITING.true c.begun_waiting.ensures

pub returns-then-judged-ne-DONE : goal.returns-then-judged-ne-DONE
returns-then-judged-ne-DONE c =
    begin_refused c.args.link c.args.front.now c.args.total c.args.room c.wrong_front.ensures c.if-wrong_front.false c.pair-header.ensures c.judge-judged.ensures
    c.if-judged-eq-WAITING.false c.if-judged-ne-DONE.true c.closed-then-judged-ne-DONE.ensures

pub returns-then-room-total : goal.returns-then-room-total
returns-then-room-total c =
    begin_room c.args.link c.args.front.now c.args.total c.args.room c.wrong_front.ensures c.if-wrong_front.false c.pair-header.ensures c.judge-judged.ensures
    c.if-judged-ne-DONE.false c.if-room-total.true c.closed-then-room-total.ensures

pub begun-requires : goal.begun-requires
begun-requires c = (
  begin_changes c.args.link c.args.front.now c.args.total c.args.room c.wrong_front.ensures c.if-wrong_front.false c.pair-header.ensures c.judge-judged.ensures
      (λ z. omega (arith, z, c.if-judged-ne-DONE.false)),
  begin_total c.args.link c.args.front.now c.args.total c.args.room c.wrong_front.ensures c.if-wrong_front.false c.pair-header.ensures c.judge-judged.ensures c.if-judged-ne-DONE.false,
)

pub returns : goal.returns
returns c =
    begin_done c.args.link c.args.front.now c.args.total c.args.room c.wrong_front.ensures c.if-wrong_front.false c.pair-header.ensures c.judge-judged.ensures
    c.if-judged-ne-DONE.false c.if-room-total.false c.begun.ensures
