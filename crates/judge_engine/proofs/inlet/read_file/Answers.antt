use Rattle.std.proofs.Common.{◌<◌, ◌+◌, length, arith}
use Rattle.std.proofs.lemmas.Grind.{common_steps}
use Rattle.judge_engine.specs.declared.inlet.TheConstants.{FILE_LIMIT}
use Rattle.judge_engine.proofs.Reading.{whole_text, ended_text}
use Rattle.judge_engine.proofs.inlet.read_file.Goals as goal

pub returns-then-count-eq0-clause-text : goal.returns-then-count-eq0-clause-text
returns-then-count-eq0-clause-text g c =
    let room : 0 < length c.get.new.buffer = grind (arith, common_steps) in
    ended_text (g.I.Inlet.left c.args.inlet.now) (g.I.Inlet.left c.pieces.inlet) (g.I.Inlet.left c.get.new.self) c.pieces.bytes.items c.get.new.buffer
    c.in-Ok-get.count (FILE_LIMIT + 1) c.if-count-eq0.true c.pieces.invariant.given c.in-Ok-get.ensures.bytes.0
    (c.in-Ok-get.ensures.bytes.1 c.if-count-eq0.true room) c.pieces.invariant.within

pub returns-clause-text : goal.returns-clause-text
returns-clause-text g c =
    whole_text (g.I.Inlet.left c.args.inlet.now) (g.I.Inlet.left c.pieces.inlet) c.pieces.bytes.items (FILE_LIMIT + 1) c.pieces.invariant.given
    c.pieces.invariant.within (λ less. absurd (omega arith))
