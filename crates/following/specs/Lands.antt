-- What an accepted request asks of a live disk that follows it.
use Rattle.std.specs.Prelude.{◌≡◌, ◌+◌, ◌*◌, ◌≤◌, ◌<◌, length}
use Rattle.model.specs.Wire.{Request, write, mark, revert, read_at, reclaim, give, withdraw}
use Rattle.live.specs.Live.{LiveDisk}

-- a write has its page whole, and room for it on the disk and in the marks
abbrev pub Lands : Request → LiveDisk → Type 0
Lands (write a page) d = (256 * a + 256 ≤ length d.bytes) × (a < length d.marks) × (length page ≡ 256)
Lands mark d = Unit {0}
Lands (revert m w) d = Unit {0}
Lands (read_at a m) d = Unit {0}
Lands (reclaim m) d = Unit {0}
Lands (give n) d = Unit {0}
Lands (withdraw high low) d = Unit {0}
