use Rattle.std.proofs.Common.{[], refl}
use Rattle.tcp_connections.proofs.loops.serve_stream.Goals as goal

pub returns-then-is_err : goal.returns-then-is_err
returns-then-is_err g c = (c.args.lines.now, ([], [], (refl, refl)), c.tidy.ensures)
