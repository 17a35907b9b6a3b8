use mathlib.Core.List.{List}
use mathlib.Core.Option.{some, none}
use Prim.Native.Nat.{ℕ}
use Rattle.live.specs.Live.{Live, disk_of}
use Rattle.rows.specs.View.{Tables, with_branches, with_records}
use Rattle.disk_check.specs.Check.{live_of}
use Rattle.live_pages.proofs.Spots.{spot_blank, spot_disk, spot_stored}
use Rattle.live_pages.proofs.spot_of.Goals as goal

pub returns-then-mark-ge2 : goal.returns-then-mark-ge2
returns-then-mark-ge2 c =
    let lent : Tables → Tables = λ t. with_records c.args.rt.now (with_branches c.args.bt.now t) in
    let behind : Tables → List ℕ → Live = λ t bytes. live_of c.args.head (lent t) (disk_of bytes c.args.marks.now) in
    λ t bytes. spot_blank (behind t bytes) c.args.a c.if-mark-eq1.true c.if-mark-ge2.true

pub returns-then-mark-eq1 : goal.returns-then-mark-eq1
returns-then-mark-eq1 c =
    let lent : Tables → Tables = λ t. with_records c.args.rt.now (with_branches c.args.bt.now t) in
    let behind : Tables → List ℕ → Live = λ t bytes. live_of c.args.head (lent t) (disk_of bytes c.args.marks.now) in
    λ t bytes. spot_disk (behind t bytes) c.args.a c.if-mark-eq1.true c.if-mark-ge2.false

pub returns-in-Nothing : goal.returns-in-Nothing
returns-in-Nothing c =
    let lent : Tables → Tables = λ t. with_records c.args.rt.now (with_branches c.args.bt.now t) in
    let behind : Tables → List ℕ → Live = λ t bytes. live_of c.args.head (lent t) (disk_of bytes c.args.marks.now) in
    λ t bytes. spot_stored (behind t bytes) c.args.a c.if-mark-eq1.false none (c.in-Nothing.ensures t)

pub returns-in-Row : goal.returns-in-Row
returns-in-Row c =
    let lent : Tables → Tables = λ t. with_records c.args.rt.now (with_branches c.args.bt.now t) in
    let behind : Tables → List ℕ → Live = λ t bytes. live_of c.args.head (lent t) (disk_of bytes c.args.marks.now) in
    λ t bytes. spot_stored (behind t bytes) c.args.a c.if-mark-eq1.false (some c.in-Row.r) (c.in-Row.ensures t)
