-- What each of the seven requests does to a store, with its refusals in their order.
use Rattle.std.specs.Prelude.{ℕ, zero, suc, ◌+◌, ◌-◌, List, [], ◌∷◌, ◌++◌, map, Bool, cond, ◌||◌, leb, ltb, eqb, length, take, drop, get_or, set, replicate}
use Rattle.std.proofs.Math.Option
use Rattle.std.proofs.Math.Option.{Option, some, none}
use Rattle.model.specs.declared.Branch.{Branch}
use Rattle.model.specs.declared.Record.{Record}
use Rattle.model.specs.declared.Name.{Name}
use Rattle.model.specs.declared.Head.{Head}
use Rattle.model.specs.Store.{Store, branches, newest, records, names, moments, is_called, called, without, keep, any, open_end, zero_branch, zero_record, zero_name, with_page, found_page}
use Rattle.model.specs.Lookup.{holds, lookup, latest, readable, is_given}
use Rattle.model.specs.Soundness.{precedes}
use Rattle.model.specs.Wire.{Request, write, mark, revert, read_at, reclaim, give, withdraw, Answer, refused, accepted}

-- the store after a request, and the answer
pub record Stepped : Type 0 where
  pub store : Store
  pub answer : Answer

-- a refused request alters nothing
abbrev pub unchanged : Store → ℕ → Stepped
unchanged s n = record { store = s; answer = refused n }

-- the head with other counts, now and floor
abbrev pub head_with : Head → ℕ → ℕ → ℕ → ℕ → Head
head_with h bs rs now floor = record { size = h.size; branches = bs; records = rs; now = now; floor = floor; names = h.names }

abbrev pub with_head : Store → Head → Store
with_head s h =
    record { head = h; branch_rows = s.branch_rows; record_rows = s.record_rows; place_rows = s.place_rows; name_rows = s.name_rows; slab = s.slab }

abbrev pub with_slab : Store → List ℕ → Store
with_slab s sl =
    record { head = s.head; branch_rows = s.branch_rows; record_rows = s.record_rows; place_rows = s.place_rows; name_rows = s.name_rows; slab = sl }

-- the record at (address, now), which a write overwrites
abbrev pub standing : Store → ℕ → Option Record
standing s a = latest (records s) a s.head.now s.head.now

-- the free place with the smallest number (change request Two)
unfoldable pub first_free : List ℕ → Option ℕ
first_free [] = none
first_free (zero ∷ ps) = some 0
first_free (suc k ∷ ps) = Option.map suc (first_free ps)

-- how many records stand before a record
unfoldable pub before : Record → List Record → ℕ
before q [] = 0
before q (r ∷ rs) = cond (precedes r q) (suc (before q rs)) 0

-- a place row after a record was put in at row `at`: the name of a record from there on is one higher
abbrev pub shifted : ℕ → ℕ → ℕ
shifted at k = cond (leb k at) k (suc k)

-- a record put in at row `at` of the counted ones
abbrev pub put_in : ℕ → Record → List Record → List Record
put_in at r rs = take at rs ++ (r ∷ drop at rs)

-- a new record at row `at`, its place row and its page
unfoldable pub inserted : Store → Record → List ℕ → ℕ → Store
inserted s r page at =
    record {
      head = head_with s.head s.head.branches (s.head.records + 1) s.head.now s.head.floor;
      branch_rows = s.branch_rows;
      record_rows = put_in at r (records s) ++ drop (s.head.records + 1) s.record_rows;
      place_rows = set (map (shifted at) s.place_rows) r.place (suc at);
      name_rows = s.name_rows;
      slab = with_page s.slab r.place page;
    }

-- a write that needs a place: 6 where none is free
abbrev pub into_free : Store → ℕ → List ℕ → Option ℕ → Stepped
into_free s a page none = unchanged s 6
into_free s a page (some p) =
    let r : Record = record { address = a; moment = s.head.now; place = p } in
    record { store = inserted s r page (before r (records s)); answer = accepted s.head.now }

-- a record already there is overwritten in its own place; else a row is needed, 5 where the record table is full
abbrev pub written : Store → ℕ → List ℕ → Option Record → Stepped
written s a page (some r) =
    record { store = with_slab s (with_page s.slab r.place page); answer = accepted s.head.now }
written s a page none =
    cond (ltb s.head.records (length s.record_rows)) (into_free s a page (first_free s.place_rows)) (unchanged s 5)

unfoldable pub do_write : Store → ℕ → List ℕ → Stepped
do_write s a page = cond (ltb a s.head.size) (written s a page (standing s a)) (unchanged s 4)

unfoldable pub do_mark : Store → Stepped
do_mark s =
    cond (ltb s.head.now open_end)
    (record {
      store = with_head s (head_with s.head s.head.branches s.head.records (s.head.now + 1) s.head.floor);
      answer = accepted s.head.now;
    })
    (unchanged s 10)

-- a branch row with now sealed as its end
abbrev pub closed_at : ℕ → Branch → Branch
closed_at t b = record { start = b.start; end = t; cut = b.cut; order = b.order }

-- the current branch ends at now; a new one starts after it, with the moment reverted to as its cut, and the work order
unfoldable pub branched : Store → ℕ → ℕ → Store
branched s m w =
    record {
      head = head_with s.head (s.head.branches + 1) s.head.records (s.head.now + 1) s.head.floor;
      branch_rows =
          set (set s.branch_rows (s.head.branches - 1)
          (closed_at s.head.now (get_or s.branch_rows (s.head.branches - 1) zero_branch))) s.head.branches
          (record { start = s.head.now + 1; end = open_end; cut = m; order = w });
      record_rows = s.record_rows;
      place_rows = s.place_rows;
      name_rows = s.name_rows;
      slab = s.slab;
    }

unfoldable pub do_revert : Store → ℕ → ℕ → Stepped
do_revert s m w =
    cond (readable s m)
    (cond (leb s.head.now m) (unchanged s 9)
    (cond (leb open_end s.head.now) (unchanged s 10)
    (cond (leb (length s.branch_rows) s.head.branches) (unchanged s 7)
    (record { store = branched s m w; answer = accepted s.head.now }))))
    (unchanged s 8)

unfoldable pub do_read : Store → ℕ → ℕ → Stepped
do_read s a m =
    cond (ltb a s.head.size)
    (cond (readable s m)
    (cond (ltb s.head.now m) (unchanged s 9)
    (record { store = s; answer = record { refusal = 0; value = m; page = found_page s.slab (lookup s a m) } }))
    (unchanged s 8))
    (unchanged s 4)

-- a place row after a reclaim: a kept record is named by one more than the kept ones before it; any other row is free
abbrev pub renumbered : (Record → Bool) → List Record → ℕ → ℕ
renumbered kept rs zero = 0
renumbered kept rs (suc i) = cond (kept (get_or rs i zero_record)) (suc (length (keep kept (take i rs)))) 0

-- kept rows close up in order, vacated rows become zero, rows past the count stay
abbrev pub closed_up : {A : Type 0} → A → List A → ℕ → List A → List A
closed_up z kept count rows = kept ++ (replicate (count - length kept) z ++ drop count rows)

-- a branch stays: the first row, which alone starts at 0; one that ends at or above the floor; one that holds a named moment;
-- one that holds a kept record
unfoldable pub stays : ℕ → List ℕ → List Record → Branch → Bool
stays floor named kept b =
    eqb b.start 0 || (leb floor b.end || (any (holds b) named || any (λ r. holds b r.moment) kept))

-- a branch row with another cut; its work order stays
abbrev pub with_cut : Branch → ℕ → Branch
with_cut b t = record { start = b.start; end = b.end; cut = t; order = b.order }

-- what a cut becomes where only branches that pass are left ("each child takes over its cut"), of branches that stand newest first:
-- it stays where the branch that holds it does; where that one goes, its cut takes over, and so on
unfoldable pub landing : (Branch → Bool) → List Branch → ℕ → ℕ
landing left [] t = t
landing left (b ∷ earlier) t =
    cond (holds b t) (cond (left b) t (landing left earlier b.cut)) (landing left earlier t)

-- the branches that are left, with what their cuts become
unfoldable pub settled : (Branch → Bool) → Store → List Branch
settled left s = map (λ b. with_cut b (landing left (newest s) b.cut)) (keep left (branches s))

-- the store with the floor set, and just the records and branches that pass kept
unfoldable pub reclaimed : Store → ℕ → (Record → Bool) → (Branch → Bool) → Store
reclaimed s floor kept left =
    let rs = keep kept (records s) in
    let bs = settled left s in
    record {
      head = head_with s.head (length bs) (length rs) s.head.now floor;
      branch_rows = closed_up zero_branch bs s.head.branches s.branch_rows;
      record_rows = closed_up zero_record rs s.head.records s.record_rows;
      place_rows = map (renumbered kept (records s)) s.place_rows;
      name_rows = s.name_rows;
      slab = s.slab;
    }

unfoldable pub do_reclaim : Store → ℕ → Stepped
do_reclaim s m =
    cond (ltb m s.head.floor) (unchanged s 8)
    (cond (ltb s.head.now m) (unchanged s 9)
    (let rs = keep (is_given s m) (records s) in
    record {
      store = reclaimed s m (is_given s m) (stays m (moments (names s)) rs);
      answer = accepted (s.head.records - length rs);
    }))

-- the store with another count of names, and these name rows
abbrev pub with_names : Store → ℕ → List Name → Store
with_names s count rows =
    record {
      head =
          record {
            size = s.head.size;
            branches = s.head.branches;
            records = s.head.records;
            now = s.head.now;
            floor = s.head.floor;
            names = count;
          };
      branch_rows = s.branch_rows;
      record_rows = s.record_rows;
      place_rows = s.place_rows;
      name_rows = rows;
      slab = s.slab;
    }

-- a name for a sealed, readable moment, behind those given before; 15 where the name is in use, 16 where all 32 are given
unfoldable pub do_give : Store → Name → Stepped
do_give s n =
    cond (readable s n.moment)
    (cond (leb s.head.now n.moment) (unchanged s 9)
    (cond (any (is_called n.high n.low) (names s)) (unchanged s 15)
    (cond (leb 32 s.head.names) (unchanged s 16)
    (record { store = with_names s (s.head.names + 1) (set s.name_rows s.head.names n); answer = accepted n.moment }))))
    (unchanged s 8)

-- the row that has the name goes: later ones close up, and the vacated row becomes zero; 17 where no row has it
abbrev pub withdrawn : Store → ℕ → ℕ → Option Name → Stepped
withdrawn s high low none = unchanged s 17
withdrawn s high low (some n) =
    let ns = without high low (names s) in
    record { store = with_names s (length ns) (closed_up zero_name ns s.head.names s.name_rows); answer = accepted n.moment }

unfoldable pub do_withdraw : Store → ℕ → ℕ → Stepped
do_withdraw s high low = withdrawn s high low (called high low (names s))

unfoldable pub step : Store → Request → Stepped
step s (write a page) = do_write s a page
step s mark = do_mark s
step s (revert m w) = do_revert s m w
step s (read_at a m) = do_read s a m
step s (reclaim m) = do_reclaim s m
step s (give n) = do_give s n
step s (withdraw high low) = do_withdraw s high low
