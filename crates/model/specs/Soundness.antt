-- Sound tables: table checks 1, 2 and 3, in this order.
use Rattle.std.specs.Prelude.{ℕ, suc, ◌+◌, ◌*◌, List, [], ◌∷◌, Bool, true, false, cond, ◌&&◌, ◌||◌, not, leb, ltb, eqb, length, get_or}
use Rattle.std.proofs.Math.Option.{Option, some, none}
use Rattle.model.specs.declared.Branch.{Branch}
use Rattle.model.specs.declared.Record.{Record}
use Rattle.model.specs.declared.Name.{Name}
use Rattle.model.specs.Store.{Store, newest, records, names, is_called, any, keep, open_end}
use Rattle.model.specs.Lookup.{holds}

abbrev pub between : ℕ → ℕ → ℕ → Bool
between lo hi n = leb lo n && leb n hi

-- the volume size A, the rows of the four tables and the bytes of the slab are in their ranges; of name rows 32 are lent
unfoldable pub sizes_allowed : ℕ → ℕ → ℕ → ℕ → ℕ → ℕ → Bool
sizes_allowed size branch_rows record_rows place_rows name_rows slab_bytes =
    between 1 65536 size && (between 1 4096 branch_rows && (between 1 65536 record_rows
    && (between 1 65536 place_rows && (eqb name_rows 32 && eqb slab_bytes (256 * place_rows)))))

-- the sizes of what is lent, with this volume size
abbrev pub lent_allowed : Store → ℕ → Bool
lent_allowed s size =
    sizes_allowed size (length s.branch_rows) (length s.record_rows) (length s.place_rows) (length s.name_rows) (length s.slab)

-- the branch count is 1 to the rows lent, the record count 0 to the rows lent, at most 32 names are held, and the floor is at most now
abbrev pub counts_allowed : Store → Bool
counts_allowed s =
    between 1 (length s.branch_rows) s.head.branches && (leb s.head.records (length s.record_rows)
    && (leb s.head.names 32 && leb s.head.floor s.head.now))

-- check 1: head, counts and lengths
unfoldable pub in_range : Store → Bool
in_range s = lent_allowed s s.head.size && counts_allowed s

-- the first row, then each row against those before it; rows stand newest first.
-- start at most end, above the end before it, following it by one or at most the floor; the cut inside an earlier row, the parent;
-- a work order of 16 bits, the first row's 0
unfoldable pub chained : ℕ → List Branch → Bool
chained floor [] = false
chained floor (b ∷ []) = eqb b.start 0 && (eqb b.cut 0 && (eqb b.order 0 && leb b.start b.end))
chained floor (b ∷ c ∷ earlier) =
    leb b.start b.end && (ltb c.end b.start && ((eqb b.start (c.end + 1) || leb b.start floor)
    && (any (λ d. holds d b.cut) (c ∷ earlier) && (leb b.order 65535 && chained floor (c ∷ earlier)))))

-- the last row is still open, and starts at most at now
abbrev pub open_row : ℕ → List Branch → Bool
open_row now [] = false
open_row now (b ∷ earlier) = eqb b.end open_end && leb b.start now

-- the branch rows of check 2
unfoldable pub branches_sound : Store → Bool
branches_sound s = open_row s.head.now (newest s) && chained s.head.floor (newest s)

-- the names of check 2: different, and each named moment below now and inside a counted branch row
unfoldable pub names_sound : ℕ → List Branch → List Name → Bool
names_sound now bs [] = true
names_sound now bs (n ∷ ns) =
    not (any (is_called n.high n.low) ns) && (ltb n.moment now && (any (λ b. holds b n.moment) bs && names_sound now bs ns))

-- check 2: branch rows and names
unfoldable pub rows_sound : Store → Bool
rows_sound s = branches_sound s && names_sound s.head.now (newest s) (names s)

-- ascending by address, then moment
unfoldable pub precedes : Record → Record → Bool
precedes r q = ltb r.address q.address || (eqb r.address q.address && ltb r.moment q.moment)

unfoldable pub ascending : List Record → Bool
ascending [] = true
ascending (r ∷ []) = true
ascending (r ∷ q ∷ rs) = precedes r q && ascending (q ∷ rs)

-- a record by itself: address below A, moment at most now and inside a counted branch row, place inside the place table,
-- and that place row names the record; i is its row, counted from 1
unfoldable pub by_itself : Store → ℕ → Record → Bool
by_itself s i r =
    ltb r.address s.head.size && (leb r.moment s.head.now && (any (λ b. holds b r.moment) (newest s)
    && (ltb r.place (length s.place_rows) && eqb (get_or s.place_rows r.place 0) i)))

-- each record by itself, from row i on
unfoldable pub placed : Store → ℕ → List Record → Bool
placed s i [] = true
placed s i (r ∷ rs) = by_itself s i r && placed s (suc i) rs

-- a place row is in use unless it is 0
abbrev pub in_use : ℕ → Bool
in_use k = not (eqb k 0)

-- how many place rows are in use
unfoldable pub used : List ℕ → ℕ
used ps = length (keep in_use ps)

-- check 3: records and places
unfoldable pub records_sound : Store → Bool
records_sound s = ascending (records s) && (placed s 1 (records s) && eqb (used s.place_rows) s.head.records)

-- the refusal of the table checks, 0 where there is none
unfoldable pub table_check : Store → ℕ
table_check s = cond (in_range s) (cond (rows_sound s) (cond (records_sound s) 0 3) 2) 1

-- a record against the row before it, where there is one
unfoldable pub in_order : Option Record → Record → Bool
in_order none r = true
in_order (some q) r = precedes q r

-- the rows read, from row i on: up to and including the first that breaks a rule by itself or against the row before, else all
unfoldable pub read_from : Store → ℕ → Option Record → List Record → ℕ
read_from s i before [] = 0
read_from s i before (r ∷ rs) = suc (cond (in_order before r && by_itself s i r) (read_from s (suc i) (some r) rs) 0)

-- how many record rows the table checks read: none where 1 or 2 refuses
unfoldable pub rows_read : Store → ℕ
rows_read s = cond (in_range s && rows_sound s) (read_from s 1 none (records s)) 0
