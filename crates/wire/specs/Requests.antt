-- What the request reader's result stands for.
use Rattle.std.specs.Prelude.{List, ◌≡◌, ℕ, ◌≤◌, length, take, drop}
use Rattle.model.specs.Wire as model
use Rattle.wire.specs.declared.Request.{Request}
use Rattle.wire.specs.declared.Request.TheVariants.{Write, Mark, Revert, ReadAt, Reclaim, Give, Withdraw}
use Rattle.wire.specs.declared.Parsed.{Parsed}
use Rattle.wire.specs.declared.Parsed.TheVariants.{End, Stop, One}

-- the request at the front of an input; a write's page ("256 bytes follow") stays there, behind the seven bytes
abbrev pub request_of : List ℕ → Request → model.Request
request_of part (Write a) = model.write a (take 256 (drop 7 part))
request_of part Mark = model.mark
request_of part (Revert m w) = model.revert m w
request_of part (ReadAt a m) = model.read_at a m
request_of part (Reclaim m) = model.reclaim m
request_of part (Give n) = model.give n
request_of part (Withdraw high low) = model.withdraw high low

-- the 8 bytes behind the seven, where there are so many, are the name of these two numbers
pub record Spells (part : List ℕ) (high low : ℕ) : Type 0 where
  pub high_is : 15 ≤ length part → high ≡ model.high_of (drop 7 part)
  pub low_is : 15 ≤ length part → low ≡ model.low_of (drop 7 part)

-- the end of the batch, a stop number, or a request with its length in bytes
abbrev pub parsed_of : List ℕ → Parsed → model.Parsed
parsed_of part End = model.end
parsed_of part (Stop n) = model.stop n
parsed_of part (One q n) = model.one (request_of part q) n
