-- What inner functions ask of a live disk behind a store, and keep of it. Nothing here is needed to read the meaning: a live disk that
-- passes the checks has all of it (proofs/Behind).
use Rattle.std.specs.Prelude.{ℕ, ◌*◌, ◌≡◌, true, length}
use Rattle.model.specs.Store.{Store}
use Rattle.model.specs.ByNumber.{Sound}
use Rattle.live.specs.Live.{LiveDisk, marks_small}

-- a live disk of a volume of so many pages
pub record Sized (size : ℕ) (d : LiveDisk) : Type 0 where
  pub bytes : length d.bytes ≡ 256 * size
  pub marks : length d.marks ≡ size
  pub small : marks_small d.marks ≡ true

-- sound tables, and a disk that 18 does not refuse
pub record Fit (s : Store) (d : LiveDisk) : Type 0 where
  pub sound : Sound s
  pub sized : Sized s.head.size d
