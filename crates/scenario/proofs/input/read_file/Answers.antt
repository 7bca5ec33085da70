use Rattle.std.proofs.Common.{◌≡◌, ◌≤◌, ◌++◌, length, take, vec_len, arith, length-append, length-take}
use Rattle.std.proofs.KnownBytes.{Consumes-trans}
use Rattle.scenario.proofs.input.read_file.Goals as goal

pub returns-in_err-read_piece-clause-up_to : goal.returns-in_err-read_piece-clause-up_to
returns-in_err-read_piece-clause-up_to g c =
    let piece = c.read_piece.ensures.up_to in
    let short : length piece.0 ≤ length (take c.min-room.result c.loop-buffer.buffer) = piece.2 in
    let held : vec_len c.loop-buffer.bytes ≡ length c.loop-buffer.bytes.items = c.loop-buffer.bytes.ok.0 in
    let within : vec_len c.loop-buffer.bytes ≤ 1048577 = c.loop-buffer.invariant.within in (
      c.loop-buffer.bytes.items ++ piece.0,
      Consumes-trans _ _ _ _ _ c.loop-buffer.invariant.consumed piece.1,
      omega (arith, short, held, within, c.min-room.ensures, c.len-in-loop-buffer.ensures, length-take c.min-room.result c.loop-buffer.buffer, length-append c.loop-buffer.bytes.items piece.0),
    )
