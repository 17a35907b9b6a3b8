-- The search asks a test that the keys pass up to where they fall below the moment.
use Rattle.std.proofs.Common.{rules, leb, ◌/◌}
use Rattle.std.proofs.lemmas.List.Sorted.{IsPartitionPoint-from_clause}
use Rattle.spans.proofs.Framing.{above_parted, above_point}
use Rattle.spans.proofs.above.Goals as goal

pub returns : goal.returns
returns c =
    let f = c.requires.falling in
    let within = c.requires.ne_in_bounds in
    let point = IsPartitionPoint-from_clause (λ key. leb c.args.m (key / 4294967296)) _ _ c.partition_point.ensures.partitioned (above_parted f within c.args.m) (λ a r q k. search rules) in
    above_point f within c.args.m c.partition_point.ensures.bound point
