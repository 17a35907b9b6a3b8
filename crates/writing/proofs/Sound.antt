-- A sound store can be written.
use native.Mathlib.Omega.{arith}
use lib.ListN.{take}
use Rattle.model.specs.declared.Head.{Head}
use Rattle.model.specs.Store.{records}
use Rattle.model.proofs.Places.{named_mem}
use Rattle.model.specs.ByNumber.{Sound}
use Rattle.model.proofs.ByNumber.{names_of, names_below}
use Rattle.rows.specs.Rows.{record_rows_of}
use Rattle.rows.specs.View.{Tables, store_of}
use Rattle.rows.proofs.Laws.{record_count}
use Rattle.writing.specs.Writable.{Writable}

pub sound_writable : (head : Head) (t : Tables) → Sound (store_of head t) → Writable head t.records t.places t.slab
unfolding records
sound_writable head t s =
    record {
      room =
          record {
            counted = omega (arith, s.sizes.records_counted, record_count t.records);
            few = omega (arith, s.sizes.records_counted, s.sizes.allowed.records_high);
            places = omega (arith, s.sizes.allowed.places_high);
            pages = s.sizes.allowed.slab;
            named = names_below (names_of (record_rows_of t.records) head.records t.places s.sizes.records_counted s.named s.in_use);
          };
      ascends = s.ascends;
      placed = λ r m. (named_mem t.places 1 (take head.records (record_rows_of t.records)) r s.named m).0;
    }
