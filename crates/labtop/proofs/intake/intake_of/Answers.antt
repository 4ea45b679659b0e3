use Rattle.std.proofs.Common.{◌≡◌, ◌+◌, ◌++◌, arith, rules, ap, refl, map}
use Rattle.datagrams.specs.Capture.{packet_for}
use Rattle.labtop.specs.Found.{fate_by}
use Rattle.labtop.specs.Scapconf.{packet_in}
use Rattle.labtop.proofs.IntakeLemmas.{clock_more, kept-fit, kept_taken, kept_filtered, kept_passed, records_more, segment_found, stand_more, stand_none, stand_whole}
use Rattle.labtop.proofs.intake.intake_of.Goals as goal
use Rattle.labtop.proofs.intake.intake_of.Goals.{in-Taken+else-is_err, in-Filtered, in-Passed}

pub loop-frame-init : goal.loop-frame-init
loop-frame-init c = record {
  stand = stand_none _ _ _ _ (ap (map packet_for) c.new-packets.ensures.items) c.none-counts.ensures;
  last = refl;
  number = refl;
  counted = search rules;
}

pub returns-in_default-clause-segments : goal.returns-in_default-clause-segments
returns-in_default-clause-segments c =
    segment_found c.args.settings.now.filter c.args.link c.args.frames.now c.loop-frame.frame-index (c.loop-frame.number + 1) c.loop-frame.last c.max-last.result c.frame-item.result
    (omega arith) (search rules) (omega arith) c.loop-frame.invariant.last c.max-last.ensures c.in_default.ensures

pub loop-frame-preserved : goal.loop-frame-preserved
loop-frame-preserved c =
    let more : map packet_for c.match-found.packets.items ≡ map packet_for c.loop-frame.packets.items ++ packet_in (fate_by c.in-Some.found) =
    elim c.match-found.branch [
      | in-Taken+else-is_err w ↦ kept_taken c.in-Some.found w.in-Taken.datagram c.loop-frame.packets.items c.match-found.packets.items w.in-Taken.is (search rules)
      | in-Filtered w ↦ kept_filtered c.in-Some.found c.loop-frame.packets.items c.match-found.packets.items w.in-Filtered.is (search rules)
      | in-Passed w ↦ kept_passed c.in-Some.found _ c.loop-frame.packets.items c.match-found.packets.items w.in-Passed.is (search rules)
    ]
    in record {
      stand =
          stand_more c.args.settings.now.filter c.args.link c.args.frames.now c.loop-frame.frame-index (c.loop-frame.number + 1) c.loop-frame.last c.max-last.result c.frame-item.result
          c.in-Some.found _ _ c.loop-frame.counts c.add.new.self (omega arith) (search rules) (omega arith) c.loop-frame.invariant.last c.max-last.ensures c.in-Some.ensures
          more c.add.ensures c.loop-frame.invariant.stand;
      last = clock_more c.args.frames.now c.loop-frame.frame-index c.loop-frame.last c.max-last.result c.frame-item.result (omega arith) (search rules) c.loop-frame.invariant.last c.max-last.ensures;
      number = omega arith;
      counted = omega (arith, records_more (fate_by c.in-Some.found) c.loop-frame.counts c.add.new.self c.add.ensures);
    }

pub returns-clause-fits : goal.returns-clause-fits
returns-clause-fits c =
    kept-fit c.args.settings.now.filter c.args.link c.args.frames.now c.loop-frame.packets.items c.loop-frame.counts
    (stand_whole c.args.settings.now.filter c.args.link c.args.frames.now c.loop-frame.frame-index _ _ (omega arith) c.loop-frame.invariant.stand)
