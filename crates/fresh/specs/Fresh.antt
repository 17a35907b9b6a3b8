-- Making a fresh store over what is lent: flat tables of any length.
use Rattle.std.specs.Prelude.{◌≡◌, cond, ℕ}
use Rattle.model.specs.declared.Head.{Head}
use Rattle.model.specs.Store.{Store}
use Rattle.model.specs.Fresh.{made_fresh}
use Rattle.rows.specs.View.{Tables, store_of, laid}
use Rattle.soundness.specs.Check.{allowed_in}
use Rattle.fresh.specs.declared.Made.{Made}

-- the refusal of a fresh store of `size` pages over what is lent: 1, or 0 where there is none
unfoldable pub refusal_of : ℕ → Tables → ℕ
refusal_of size t = cond (allowed_in size t) 0 1

-- what is lent, made a fresh store of `size` pages; a refusal changes nothing
unfoldable pub fresh_of : Head → Tables → ℕ → Store
fresh_of head t size = cond (allowed_in size t) (made_fresh (store_of head t) size) (store_of head t)

-- what making a fresh store gives back and leaves: the refusal, the head and every number of each table
pub record Fresh (old : Head) (size : ℕ) (t : Tables) (r : Made) (t' : Tables) : Type 0 where
  pub refusal : r.refusal ≡ refusal_of size t
  pub head : r.head ≡ (fresh_of old t size).head
  pub tables : t' ≡ laid (fresh_of old t size) t
