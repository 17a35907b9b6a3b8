-- `reclaim::mark_kept` meets its contract: where a record is older than the floor, the moments that decide are listed.
use mathlib.Core.Path.{◌≡◌, sym, ◌∙◌}
use mathlib.Core.List.{List}
use Prim.Native.Nat.{ℕ, ◌≤◌}
use native.Mathlib.Omega.{arith}
use lib.ListN.{length, take}
use lib.Seq.{length-take-le}
use Rattle.model.specs.Store.{moments}
use Rattle.rows.specs.Rows.{branch_rows_of, record_rows_of, name_rows_of}
use Rattle.rows.proofs.Laws.{branch_count, name_count}
use Rattle.deciding.proofs.Keeping.{Deciding, both_listed, count_named, deciding_held, kept_young, kept_all}
use Rattle.reclaim.proofs.mark_kept.Goals as goal

pub returns-then-none_older : goal.returns-then-none_older
returns-then-none_older c =
    let named : List ℕ = moments (take c.args.k (name_rows_of c.args.nt.now)) in
    kept_young (branch_rows_of c.args.bt.now) c.args.n (record_rows_of c.args.rt.now) c.args.floor (named) (sym c.none_older.ensures ∙ c.if-none_older.true) c.keep_young.ensures

pub mark_records-requires : goal.mark_records-requires
mark_records-requires c =
    let named : List ℕ = moments (take c.args.k (name_rows_of c.args.nt.now)) in
    let count : length (named) ≡ c.args.k = count_named (name_rows_of c.args.nt.now) c.args.k (omega (arith, name_count c.args.nt.now, c.requires.branches_in)) in
    let table : List ℕ = c.named-c.new.table in
    let decided : Deciding (branch_rows_of c.args.bt.now) c.args.n c.args.floor (named) c.named-c.result (table) = both_listed c.starts-s.ensures c.named-c.ensures
    (omega (arith, c.named-c.ensures.count, count, c.starts-s.ensures.few, c.requires.branches_in, c.moments-table.ensures.long)) in
    let e = decided in
    let p = c.requires.branches_in in
    let room : c.args.n ≤ length (branch_rows_of c.args.bt.now) = omega (arith, branch_count c.args.bt.now, p.0) in
    record {
      branches_in = (p.0, p.1, p.2, omega (arith, length-take-le c.named-c.result (table) e.within, e.few, count, p.1, p.5), p.3, p.6);
      line = c.requires.line;
      held = deciding_held c.requires.line room c.requires.floor_value c.requires.held e;
      ascend = c.requires.ascend;
      placed = c.requires.placed;
    }

pub returns : goal.returns
returns c =
    let named : List ℕ = moments (take c.args.k (name_rows_of c.args.nt.now)) in
    let count : length (named) ≡ c.args.k = count_named (name_rows_of c.args.nt.now) c.args.k (omega (arith, name_count c.args.nt.now, c.requires.branches_in)) in
    let table : List ℕ = c.named-c.new.table in
    let decided : Deciding (branch_rows_of c.args.bt.now) c.args.n c.args.floor (named) c.named-c.result (table) = both_listed c.starts-s.ensures c.named-c.ensures
    (omega (arith, c.named-c.ensures.count, count, c.starts-s.ensures.few, c.requires.branches_in, c.moments-table.ensures.long)) in
    kept_all (record_rows_of c.args.rt.now) (decided) c.mark_records.ensures c.keep_young-2.ensures
