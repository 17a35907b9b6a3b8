-- Making a fresh store in areas of bytes.
use Rattle.std.specs.Prelude.{◌≡◌, true, false, cond, ◌&&◌, ℕ, eqb}
use Rattle.model.specs.declared.Head.{Head}
use Rattle.model.specs.Fresh.{fresh_check, made_fresh}
use Rattle.rows.specs.View.{Tables, laid}
use Rattle.soundness.specs.Check.{allowed_in}
use Rattle.fresh.specs.declared.Made.{Made}
use Rattle.fresh.specs.Fresh.{refusal_of, fresh_of}
use Rattle.tables.specs.Tables.{numbers_in, Saved}
use Rattle.areas.specs.Lent.{Lent, fits, store_in, with_store}

-- what making a fresh store leaves: its result, and the areas
pub record FreshLeft : Type 0 where
  pub result : ℕ
  pub areas : Lent

abbrev pub fresh_left : ℕ → Lent → FreshLeft
fresh_left result areas = record { result = result; areas = areas }

-- a fresh store of `size` pages in the areas, with result 0; where a length or the size is not allowed, 1, and the areas as they were
unfoldable pub fresh_bytes : ℕ → Lent → FreshLeft
fresh_bytes size l =
    cond (fits l && eqb (fresh_check (store_in l) size) 0) (fresh_left 0 (with_store l (made_fresh (store_in l) size))) (fresh_left 1 l)

-- what a call leaves is as the definition says; and where the lengths fit, the areas hold the model's store
pub record FreshDone (size : ℕ) (l : Lent) (left : FreshLeft) : Type 0 where
  pub all : left ≡ fresh_bytes size l
  pub store : fits l ≡ true → store_in left.areas ≡ made_fresh (store_in l) size

-- a fresh store made of tables of bytes b: refused with nothing changed, or written to them, whatever head they had
pub record FreshSaved (size : ℕ) (b : Tables) (m : Made) (b' : Tables) : Type 0 where
  pub refusal : m.refusal ≡ refusal_of size (numbers_in b)
  pub refused : allowed_in size (numbers_in b) ≡ false → b' ≡ b
  pub head : allowed_in size (numbers_in b) ≡ true → (h : Head) → m.head ≡ (fresh_of h (numbers_in b) size).head
  pub tables : allowed_in size (numbers_in b) ≡ true → (h : Head) → Saved (laid (fresh_of h (numbers_in b) size) (numbers_in b)) b'
