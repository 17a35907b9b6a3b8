use mathlib.Core.Path.{sym, ◌∙◌}
use native.Mathlib.Omega.{arith}
use Rattle.rows.specs.View.{Tables, tables}
use Rattle.soundness.proofs.Branches.{sound_chained}
use Rattle.soundness.proofs.Checked.{rows_in, check_one, check_two, check_names, check_three}
use Rattle.soundness.proofs.check.Goals as goal

pub returns-then-not-ranges : goal.returns-then-not-ranges
returns-then-not-ranges c = check_one _ _ c.in_range-ranges.ensures c.if-not-ranges.true

pub returns-then-not-chain : goal.returns-then-not-chain
returns-then-not-chain c =
    check_two _ _ c.in_range-ranges.ensures c.if-not-ranges.false c.branches_sound-chain.ensures c.if-not-chain.true

pub branches_sound-chain-requires : goal.branches_sound-chain-requires
branches_sound-chain-requires c =
    omega (arith, rows_in c.args.head (tables c.args.bt.now c.args.rt.now c.args.pt.now c.args.nt.now c.args.slab.now) c.in_range-ranges.ensures (omega arith) c.if-not-ranges.false)

pub names_sound-named-requires : goal.names_sound-named-requires
names_sound-named-requires c =
    let lent : Tables = tables c.args.bt.now c.args.rt.now c.args.pt.now c.args.nt.now c.args.slab.now in
    record {
      branches_in = omega (arith, rows_in c.args.head lent c.in_range-ranges.ensures (omega arith) c.if-not-ranges.false);
      branches_value = sound_chained _ _ lent (sym (c.branches_sound-chain.ensures lent) ∙ c.if-not-chain.false);
    }

pub returns-then-not-named : goal.returns-then-not-named
returns-then-not-named c =
    check_names _ _ c.in_range-ranges.ensures c.if-not-ranges.false c.branches_sound-chain.ensures c.if-not-chain.false c.names_sound-named.ensures c.if-not-named.true

pub records_checked-requires : goal.records_checked-requires
records_checked-requires c =
    let lent : Tables = tables c.args.bt.now c.args.rt.now c.args.pt.now c.args.nt.now c.args.slab.now in
    record {
      branches_in = omega (arith, rows_in c.args.head lent c.in_range-ranges.ensures (omega arith) c.if-not-ranges.false);
      branches_value = sound_chained _ _ lent (sym (c.branches_sound-chain.ensures lent) ∙ c.if-not-chain.false);
    }

pub returns : goal.returns
returns c =
    check_three _ _ c.in_range-ranges.ensures c.if-not-ranges.false c.branches_sound-chain.ensures c.if-not-chain.false c.names_sound-named.ensures c.if-not-named.false c.records_checked.ensures
