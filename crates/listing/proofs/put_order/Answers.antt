use Prim.Native.Nat.{◌*◌}
use native.Mathlib.Numerals.{add-one}
use Rattle.listing.proofs.Walking.{two_bytes}
use Rattle.listing.proofs.put_order.Goals as goal

pub returns : goal.returns
returns c = rw (c.to_be_bytes.ensures, two_bytes c.args.w, add-one (c.args.k * 2))
