-- What `make` leaves is the fresh store, and the batch is the model's on it.
use Rattle.rows.specs.View.{tables}
use Rattle.program.proofs.Serving.{leaves}
use Rattle.program.proofs.serve_fresh.Goals as goal

pub returns : goal.returns
returns c =
    let m = c.make-made in
    let b = c.batch.new in
    leaves c.requires.table_lengths m.ensures (record { branches = m.auto.bt; records = m.auto.rt; names = m.auto.nt }) c.requires.sized c.args.input.now {t'' = tables b.bt b.rt b.pt b.nt b.slab} c.batch.ensures.batch_leaves
