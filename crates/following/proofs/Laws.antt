-- Laws of a live disk that follows requests.
use mathlib.Core.Path.{◌≡◌}
use mathlib.Core.List.{List}
use Prim.Native.Nat.{ℕ}
use native.Mathlib.Omega.{arith}
use Rattle.model.specs.Store.{Store}
use Rattle.model.specs.Wire.{Request, write, mark, revert, read_at, reclaim, give, withdraw}
use Rattle.model.specs.Step.{step}
use Rattle.model.specs.ByNumber.{Whole}
use Rattle.live.specs.Live.{LiveDisk}
use Rattle.live.specs.Fit.{Fit}
use Rattle.live.proofs.Behind.{write_inside}
use Rattle.wire.specs.declared.Request as wire
use Rattle.wire.specs.Requests.{request_of}
use Rattle.following.specs.Lands.{Lands}

pub lands_as : (d : LiveDisk) (part : List ℕ) (q : wire.Request) {v : wire.Request} → q ≡ v → Lands (request_of part q) d → Lands (request_of part v) d
lands_as d part q e h = rw e at h

-- an accepted request lands on a disk that fits
pub lands : (u : Store) (d : LiveDisk) (q : Request) → Fit u d → Whole q → (step u q).answer.refusal ≡ 0 → Lands q d
lands u d (write a page) f w e =
    (omega (arith, write_inside u a page e, f.sized.bytes), omega (arith, write_inside u a page e, f.sized.marks), w)
lands u d mark f w e = tt
lands u d (revert m o) f w e = tt
lands u d (read_at a m) f w e = tt
lands u d (reclaim m) f w e = tt
lands u d (give n) f w e = tt
lands u d (withdraw high low) f w e = tt
