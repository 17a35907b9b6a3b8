-- Change request Two of the C entries: the model's claims, and areas of bytes that hold a copy.
use Prim.Native.Nat.{ℕ, zero, suc, ◌+◌, ◌*◌, ◌/◌, ◌≤◌, ◌<◌, suc-le-suc}
use mathlib.Core.Path.{◌≡◌, refl, sym, ap, subst, ◌∙◌}
use mathlib.Core.Logic.{inl, inr}
use mathlib.Core.List.{List, ◌++◌}
use native.Mathlib.Omega.{arith}
use lib.ListN.{length, get_or, take, drop, length-drop}
use lib.Seq.{length-take-le, get_or-drop}
use Rattle.model.specs.Store.{Store}
use Rattle.model.specs.Fresh.{made_fresh}
use Rattle.model.specs.Reference.{empty}
use Rattle.model.specs.Demand3.{after, answered, fed, Agrees}
use Rattle.model.specs.Packed.{slab_in_use, HeldUpTo, Copy}
use Rattle.model.proofs.Bytes.{number_fits, take_fits}
use Rattle.model.proofs.Kept.{Small, SmallBranch, SmallRecord, SmallName, All, all_get, Narrow}
use Rattle.model.proofs.Copies.{copy_sound, stays_packed, copies_agree}
use Rattle.rows.specs.Rows.{branch_width, tab, rows_by, branch_rows_of, record_rows_of, name_rows_of}
use Rattle.rows.specs.View.{tables}
use Rattle.rows.proofs.View.{laid_self}
use Rattle.tables.specs.Numbers.{spelled_at, spelled, numbers_of, head_of}
use Rattle.tables.specs.Tables.{numbers_in, bytes_in}
use Rattle.tables.proofs.RoundTrip.{bytes_numbers, bytes_head}
use Rattle.areas.specs.Lent.{Lent, store_in}
use Rattle.fresh_areas.specs.Fresh.{fresh_bytes}
use Rattle.kizmoolet.specs.Demand3.{areas_after, answered_in}
use Rattle.kizmoolet.specs.Packed.{StaysPacked, Bytes, CopyIn, CopiesAgree}
use Rattle.areas.proofs.Areas.{lengths_of}
use Rattle.areas.proofs.Holding.{Holds}
use Rattle.kizmoolet.proofs.Demand3.{Ready, Follows, follows, all_sent, reads, made, made_ready}

pub stays_packed_bytes : StaysPacked
stays_packed_bytes lent size calls n z u =
    let first : Lent = (fresh_bytes size lent).areas in
    let s : Store = made_fresh (store_in lent) size in
    let f : Follows first s calls = follows first s (made_ready lent size z) calls in
    let u' : HeldUpTo n empty (answered s f.served) = rw f.requests at u in
    subst (λ (x : Store). slab_in_use x ≤ 256 * n) (sym f.ready.holds.store) (stays_packed (store_in lent) size f.served n (made lent size z).1 u')

-- every element of a list made one by one
all_tab : {A : Type 0} {P : A → Type 0} (n : ℕ) (f : ℕ → A) → ((i : ℕ) → i < n → P (f i)) → All P (tab n f)
unfolding tab
all_tab zero f h = record { each = λ x m. absurd m }
all_tab {A} {P} (suc n) f h =
    let ih : All P (tab n (λ k. f (suc k))) = all_tab n (λ k. f (suc k)) (λ i l. h (suc i) (suc-le-suc l)) in
    record { each = λ x m. elim m [ inl e ↦ rw e (h 0 (omega arith)) | inr k ↦ ih.each x k ] }

-- four bytes spell a number of 32 bits
spelled_small : (bs : List ℕ) → Bytes bs → (i : ℕ) → i < length bs / 4 → Small (spelled_at 4 bs i)
spelled_small bs h i l =
    let part : List ℕ = take 4 (drop (i * 4) bs) in
    let n : length part ≡ 4 = length-take-le 4 (drop (i * 4) bs) (omega (arith, length-drop (i * 4) bs)) in
    rw n at (number_fits part (take_fits 4 (drop (i * 4) bs) (λ k. rw (get_or-drop (i * 4) bs k 0) (h (i * 4 + k)))))

numbers_small : (bs : List ℕ) → Bytes bs → All Small (numbers_of bs)
unfolding spelled
numbers_small bs h = all_tab (length bs / 4) (spelled_at 4 bs) (spelled_small bs h)

at_small : (bs : List ℕ) → Bytes bs → (i : ℕ) → Small (get_or (numbers_of bs) i 0)
at_small bs h i = all_get (numbers_of bs) i 0 (omega arith) (numbers_small bs h)

branches_small : (bs : List ℕ) → Bytes bs → All SmallBranch (branch_rows_of (numbers_of bs))
unfolding rows_by
branches_small bs h =
    all_tab (length (numbers_of bs) / branch_width) _
    (λ i l. record { start = at_small bs h (i * branch_width + 0); end = at_small bs h (i * branch_width + 1); cut = at_small bs h (i * branch_width + 2); order = at_small bs h (i * branch_width + 3) })

records_small : (bs : List ℕ) → Bytes bs → All SmallRecord (record_rows_of (numbers_of bs))
unfolding rows_by
records_small bs h = all_tab (length (numbers_of bs) / 3) _ (λ i l. record { address = at_small bs h (i * 3 + 0); moment = at_small bs h (i * 3 + 1); place = at_small bs h (i * 3 + 2) })

names_small : (bs : List ℕ) → Bytes bs → All SmallName (name_rows_of (numbers_of bs))
unfolding rows_by
names_small bs h = all_tab (length (numbers_of bs) / 3) _ (λ i l. record { high = at_small bs h (i * 3 + 0); low = at_small bs h (i * 3 + 1); moment = at_small bs h (i * 3 + 2) })

module _ (l c : Lent) (k : CopyIn l c) where
  copy_narrow : Narrow (store_in c)
  copy_narrow =
      let at = at_small c.head k.head in
      record {
        head = record { size = at 0; branches = at 1; records = at 2; now = at 3; floor = at 4; names = at 5 };
        branches = branches_small c.tables.branches k.branches;
        records = records_small c.tables.records k.records;
        places = numbers_small c.tables.places k.places;
        names = names_small c.tables.names k.names;
      }

  -- bytes put back are the bytes that were read
  tables_back : bytes_in (numbers_in c.tables) ≡ c.tables
  tables_back =
      let n = lengths_of c k.fit in
      let b = bytes_numbers c.tables.branches (omega (arith, n.branches)) k.branches in
      let r = bytes_numbers c.tables.records (omega (arith, n.records)) k.records in
      let p = bytes_numbers c.tables.places n.places k.places in
      let m = bytes_numbers c.tables.names (omega (arith, n.names)) k.names in
      λ j. tables (b j) (r j) (p j) (m j) c.tables.slab

  copy_holds : Holds c (store_in c)
  copy_holds =
      let h = bytes_head c.head (lengths_of c k.fit).head k.head in
      let t = ap bytes_in (sym (laid_self (head_of (numbers_of c.head)) (numbers_in c.tables))) ∙ tables_back in
      record { fit = k.fit; store = refl; areas = λ j. record { head = h j; tables = t j } }

pub copies_agree_bytes : CopiesAgree
copies_agree_bytes lent size calls c more z k =
    let first : Lent = (fresh_bytes size lent).areas in
    let s : Store = made_fresh (store_in lent) size in
    let f : Follows first s calls = follows first s (made_ready lent size z) calls in
    let kept : Copy (after s f.served) (store_in c) = rw f.ready.holds.store at k.copy in
    let r : Ready c (store_in c) = record {
      holds = copy_holds (areas_after first calls) c k;
      sound = copy_sound (after s f.served) (store_in c) kept f.ready.sound;
      narrow = copy_narrow (areas_after first calls) c k;
    } in
    let g : Follows c (store_in c) more = follows c (store_in c) r more in
    let a : Agrees size (after (store_in c) g.served) (fed empty (answered_in first calls ++ answered_in c more)) (answered_in first calls ++ answered_in c more) =
    rw (f.requests, g.requests) (copies_agree (store_in lent) size f.served (store_in c) g.served (made lent size z).1 kept) in (
      record {
        store = rw g.ready.holds.store a;
        reads = reads size (areas_after c more) (after (store_in c) g.served) _ _ g.ready a;
      },
      all_sent c (store_in c) r more,
    )
