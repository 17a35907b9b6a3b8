use Rattle.lent_main.proofs.Serving.{replies}
use Rattle.lent_main.proofs.session.Goals as goal

pub returns : goal.returns
returns c =
    let f = c.fresh_batch in
    replies c.record_rows-records.ensures c.place_rows-places.ensures c.name_rows-names.ensures c.page_slab-slab.ensures c.live_disk-disk.ensures c.page_marks-marks.ensures f.ensures.batch_leaves f.ensures.rows_value
