-- What a reclaim of lent tables needs.
use Rattle.std.specs.Prelude.{List, ℕ}
use Rattle.model.specs.declared.Head.{Head}
use Rattle.model.specs.ByNumber.{Sound}
use Rattle.rows.specs.View.{Tables, with_branches, with_records, with_places, with_names, store_of}

-- sound tables: with some others beside them they are a sound store
pub record Reclaimable (h : Head) (bt rt pt nt : List ℕ) : Type 0 where
  pub others : Tables
  pub sound : Sound (store_of h (with_places pt (with_records rt (with_branches bt (with_names nt others)))))
