-- A live read and a copying step on areas that fit are those of the numbers that they spell.
use mathlib.Core.Path.{◌≡◌, subst}
use mathlib.Core.Bool.{true}
use Prim.Native.Nat.{ℕ}
use Rattle.model.specs.declared.Head.{Head}
use Rattle.live.specs.declared.Copied.{Copied}
use Rattle.live.specs.Live.{LiveDisk, CopyLeft}
use Rattle.tables.specs.Numbers.{numbers_of, head_of}
use Rattle.tables.specs.Tables.{numbers_in}
use Rattle.areas.specs.Lent.{Lent, fits}
use Rattle.areas.proofs.Areas.{fit_tables}
use Rattle.live_pages.specs.Read.{live_read_of}
use Rattle.copying.specs.Copy.{copy_step_of, Copies}
use Rattle.live_areas.specs.Live.{live_read_bytes, copy_bytes}

module _ (l : Lent) (d : LiveDisk) (fit : fits l ≡ true) {h : Head} (eh : h ≡ head_of (numbers_of l.head)) (n : ℕ) where
  pub read_is : live_read_of h (numbers_in l.tables) d n ≡ live_read_bytes l d n
  unfolding live_read_of live_read_bytes
  read_is = rw (fit, fit_tables l fit, eh)

  pub step_is : copy_step_of h (numbers_in l.tables) d n ≡ copy_bytes l d n
  unfolding copy_step_of copy_bytes
  step_is = rw (fit, fit_tables l fit, eh)

-- a step by another name
pub copies_as : {c c' : CopyLeft} {d : LiveDisk} {r : Copied} {d' : LiveDisk} → c ≡ c' → Copies c d r d' → Copies c' d r d'
copies_as {c} {c'} {d} {r} {d'} e h = subst (λ (x : CopyLeft). Copies x d r d') e h
