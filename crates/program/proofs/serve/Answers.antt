-- The program's live disk fits its store, and the stop number fits a byte.
use Rattle.std.proofs.Common.{arith}
use Rattle.model.specs.Fresh.{program_store}
use Rattle.program.proofs.Serving.{stale_sized, stop_byte}
use Rattle.program.proofs.serve.Goals as goal

pub serve_fresh-done-requires-clause-sized : goal.serve_fresh-done-requires-clause-sized
serve_fresh-done-requires-clause-sized c = stale_sized c.live_disk-disk.ensures c.page_marks-marks.ensures

pub overflow_cast-result : goal.overflow_cast-result
overflow_cast-result c = omega (arith, stop_byte (program_store c.page_slab-slab.result) c.args.input.now c.serve_fresh-done.ensures)
