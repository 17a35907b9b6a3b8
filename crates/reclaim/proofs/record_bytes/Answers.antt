use Prim.Native.Nat.{ℕ}
use lib.ListN.{length-replicate, get_or-replicate}
use Rattle.reclaim.proofs.record_bytes.Goals as goal

pub returns : goal.returns
returns c = record { long = length-replicate {A = ℕ} 65536 0; zero = λ k l. get_or-replicate {A = ℕ} 65536 k 0 0 l }
