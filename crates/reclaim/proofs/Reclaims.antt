-- A reclaim of the lent tables is the model's.
use mathlib.Core.Path.{◌≡◌, refl, ap, sym, ◌∙◌}
use mathlib.Core.List.{List, map}
use mathlib.Core.Bool.{true}
use Prim.Native.Nat.{ℕ, ◌/◌, ◌-◌, ◌≤◌, ◌<◌}
use native.Mathlib.Omega.{arith}
use lib.Dec.{eqb}
use lib.ListN.{length, get_or, take}
use lib.Seq.{get_or-take, length-take-le}
use borrow.Author.Tests.{lt-ltb, le-ltb}
use Rattle.model.specs.declared.Branch.{Branch}
use Rattle.model.specs.declared.Record.{Record}
use Rattle.model.specs.declared.Name.{Name}
use Rattle.model.specs.declared.Head.{Head}
use Rattle.model.specs.Store.{Store, branches, newest, records, names, moments, keep, zero_branch, zero_record, ◌∈◌}
use Rattle.model.specs.Lookup.{lookup, is_given}
use Rattle.model.specs.Wire.{reclaim, accepted}
use Rattle.model.specs.Step.{head_with, stays, settled, closed_up, renumbered, reclaimed, do_reclaim, step}
use Rattle.model.specs.ByNumber.{SoundRows, Asc, Named, Sizes, Sound, branch, newest_of, held, First, Line, entry, Ascend, Names}
use Rattle.model.proofs.Candidates.{given_deciding}
use Rattle.rows.specs.Rows.{branch_width, branch_rows_of, record_width, record_rows_of, name_width, name_rows_of, BranchesIn, RecordsIn, NamesIn}
use Rattle.rows.proofs.Laws.{branch_kind, record_kind, name_kind, record_count, branch_count, name_count}
use Rattle.model.proofs.ByNumber.{rows_line, rows_first, held_by, asc_ascend, names_of}
use Rattle.model.proofs.Base.{get_d_mem, map_mem}
use Rattle.branch_marks.specs.Marks.{Filled, Held, Placed}
use Rattle.deciding.specs.Deciding.{given, kept_record}
use Rattle.closing.specs.Closed.{marked, keep_by, renamed, ClosedRecords}
use Rattle.rows.specs.View.{Tables, with_branches, with_records, with_places, with_names, store_of, record_given, Carried, refused_with}
use Rattle.reclaim.specs.Reclaimable.{Reclaimable}
use Rattle.reclaim.specs.Settled.{settled_rows, Settled}
use Rattle.reclaim.proofs.Settles.{bit_test}
use Rattle.rows.proofs.Relaid.{laid_own, laid_rows}
use Rattle.rows.proofs.View.{within_own, carried}
use Rattle.rows.specs.declared.Found.TheVariants.{Nothing}
use Rattle.closing.proofs.Closing.{keep_by_keep, renamed_numbered}

-- what a reclaim to a readable moment has at hand
pub record Ready (h : Head) (m : ℕ) (bt rt pt nt : List ℕ) : Type 0 where
  pub branch_room : BranchesIn h.branches bt
  pub branch_count : h.branches ≤ 4096
  pub branch_some : 0 < h.branches
  pub record_room : RecordsIn h.records rt
  pub record_count : h.records ≤ 65536
  pub name_room : NamesIn h.names nt
  pub name_count : h.names ≤ 32
  pub line : Line (branch_rows_of bt) h.branches
  pub first : First (branch (branch_rows_of bt) 0)
  pub readable : held (branch_rows_of bt) h.branches m ≡ true
  pub named_held : Held (branch_rows_of bt) h.branches (moments (take h.names (name_rows_of nt)))
  pub ascend : Ascend (record_rows_of rt) h.records
  pub placed : Placed (branch_rows_of bt) h.branches (record_rows_of rt) h.records
  pub names : Names (record_rows_of rt) h.records pt

module _ (h : Head) (t : Tables) where
  abbrev s : Store
  s = store_of h t

  abbrev bs : List Branch
  bs = branch_rows_of t.branches

  abbrev rs : List Record
  rs = record_rows_of t.records

  abbrev pt : List ℕ
  pt = t.places

  -- the named moments
  abbrev ms : List ℕ
  ms = moments (take h.names (name_rows_of t.names))

  newest_rows : newest s ≡ newest_of bs h.branches
  unfolding newest branches
  newest_rows = refl

  records_rows : records s ≡ take h.records rs
  unfolding records
  records_rows = refl

  names_rows : names s ≡ take h.names (name_rows_of t.names)
  unfolding names
  names_rows = refl

  module _ (m : ℕ) (sd : Sound s) (l : h.floor ≤ m) (u : m ≤ h.now) where
    rows_room : h.branches ≤ length bs
    rows_room = sd.sizes.counted_high

    records_room : h.records ≤ length rs
    records_room = sd.sizes.records_counted

    sound_rows : SoundRows h.floor h.now (newest_of bs h.branches)
    sound_rows = rw newest_rows at sd.rows

    sound_asc : Asc (take h.records rs)
    sound_asc = rw records_rows at sd.ascends

    sound_named : Named pt 1 (take h.records rs)
    sound_named = rw records_rows at sd.named

    record_held : (k : ℕ) → k < h.records → held bs h.branches (entry rs k).moment ≡ true
    unfolding held
    record_held k b =
        let n : length (take h.records rs) ≡ h.records = length-take-le h.records rs records_room in
        let e : get_or (take h.records rs) k zero_record ≡ entry rs k = get_or-take h.records rs k zero_record b in
        let i : entry rs k ∈ take h.records rs = rw e at (get_d_mem (take h.records rs) k zero_record (rw n b)) in
        rw newest_rows at (sd.fits (entry rs k) (rw records_rows i)).held

    moment_held : (x : ℕ) → x ∈ ms → held bs h.branches x ≡ true
    unfolding held
    moment_held x i =
        let r : (n : Name) × (n ∈ take h.names (name_rows_of t.names)) × (x ≡ n.moment) = map_mem (λ (n : Name). n.moment) x (take h.names (name_rows_of t.names)) i in
        rw r.2 (rw newest_rows at (sd.names.fit r.0 (rw names_rows r.1)).held)

    pub ready_of : Ready h m t.branches t.records pt t.names
    ready_of =
        let z : Sizes s = sd.sizes in
        let lb : length bs ≡ length t.branches / branch_width = branch_count t.branches in
        let lr : length rs ≡ length t.records / record_width = record_count t.records in
        let ln : length (name_rows_of t.names) ≡ length t.names / name_width = name_count t.names in
        record {
          branch_room = omega arith;
          branch_count = omega arith;
          branch_some = omega arith;
          record_room = omega arith;
          record_count = omega arith;
          name_room = omega arith;
          name_count = omega arith;
          line = rows_line h.floor h.now bs h.branches rows_room sound_rows;
          first = rows_first h.floor h.now bs h.branches rows_room sd.sizes.counted_low sound_rows;
          readable = held_by h.floor h.now m bs h.branches sound_rows z.now_high l u;
          named_held = record { each = moment_held };
          ascend = asc_ascend rs h.records records_room sound_asc;
          placed = record { each = record_held };
          names = names_of rs h.records pt records_room sound_named sd.in_use;
        }

    -- the marks of the records are the model's test
    given_read : (r : Record) → r ∈ take h.records rs → given bs h.branches (take h.records rs) m ms r ≡ is_given s m r
    unfolding given lookup newest branches records names
    given_read r i = sym (given_deciding s m sd l u r i)

    module _ {old rm : List ℕ} (f : Filled (kept_record bs h.branches rs h.records m ms) h.records old rm) where
      mark_test : (i : ℕ) → i < h.records → marked rm i ≡ is_given s m (get_or (take h.records rs) i zero_record)
      mark_test i b =
          let n : length (take h.records rs) ≡ h.records = length-take-le h.records rs records_room in
          let e : get_or (take h.records rs) i zero_record ≡ entry rs i = get_or-take h.records rs i zero_record b in
          let k : entry rs i ∈ take h.records rs = rw e at (get_d_mem (take h.records rs) i zero_record (rw n b)) in
          ap (λ (x : ℕ). eqb x 1) (f.first i b)
          ∙ bit_test (given bs h.branches (take h.records rs) m ms (entry rs i))
          ∙ given_read (entry rs i) k
          ∙ ap (is_given s m) (sym e)

      pub keep_records : keep_by (marked rm) (take h.records rs) ≡ keep (is_given s m) (take h.records rs)
      keep_records =
          let n : length (take h.records rs) ≡ h.records = length-take-le h.records rs records_room in
          keep_by_keep (marked rm) (is_given s m) zero_record (take h.records rs) (λ i a. mark_test i (rw n at a))

      pub rename_places : map (renamed (marked rm) (take h.records rs)) pt ≡ map (renumbered (is_given s m) (take h.records rs)) pt
      rename_places =
          renamed_numbered (marked rm) rs h.records pt (names_of rs h.records pt records_room sound_named sd.in_use) (is_given s m) mark_test records_room

    -- it depends on branches, records and names alone
    given_others : (o : Tables) → is_given (store_of h (with_records t.records (with_branches t.branches (with_names t.names o)))) m ≡ is_given s m
    unfolding is_given lookup newest branches records names
    given_others o = refl

-- the step, in the terms of the tables
accepted_step : (h : Head) (t : Tables) (m : ℕ) → h.floor ≤ m → m ≤ h.now
    → step (store_of h t) (reclaim m)
    ≡ (let rs = keep (is_given (store_of h t) m) (take h.records (record_rows_of t.records)) in
    let bs = settled_rows (stays m (moments (take h.names (name_rows_of t.names))) rs) h.branches (branch_rows_of t.branches) in
    record {
      store =
          record {
            head = head_with h (length bs) (length rs) h.now m;
            branch_rows = closed_up zero_branch bs h.branches (branch_rows_of t.branches);
            record_rows = closed_up zero_record rs h.records (record_rows_of t.records);
            place_rows = map (renumbered (is_given (store_of h t) m) (take h.records (record_rows_of t.records))) t.places;
            name_rows = name_rows_of t.names;
            slab = t.slab;
          };
      answer = accepted (h.records - length rs);
    })
unfolding step do_reclaim reclaimed settled newest branches records names
accepted_step h t m l u = rw (le-ltb m h.floor l, le-ltb h.now m u)

-- the tables of numbers, beside a slab
abbrev pub lent : List ℕ → List ℕ → List ℕ → List ℕ → Tables → Tables
lent bt rt pt nt o = with_places pt (with_records rt (with_branches bt (with_names nt o)))

pub reclaims :
    (h : Head) (bt rt pt nt bt' rt' pt' : List ℕ) (m wb wr : ℕ) {or rm : List ℕ}
    → Reclaimable h bt rt pt nt → h.floor ≤ m → m ≤ h.now
    → Filled (kept_record (branch_rows_of bt) h.branches (record_rows_of rt) h.records m (moments (take h.names (name_rows_of nt)))) h.records or rm
    → ClosedRecords rm h.records rt rt' pt pt' wr → length rt' ≡ length rt
    → Settled (stays m (moments (take h.names (name_rows_of nt))) (keep_by (marked rm) (take h.records (record_rows_of rt)))) h.branches bt bt' wb → length bt' ≡ length bt
    → (o : Tables)
    → Carried h (lent bt rt pt nt o) (reclaim m)
    (record { head = record { size = h.size; branches = wb; records = wr; now = h.now; floor = m; names = h.names }; refusal = 0; value = h.records - wr; found = Nothing })
    (lent bt' rt' pt' nt o)
unfolding record_given
reclaims h bt rt pt nt bt' rt' pt' m wb wr {or} {rm} a l u fr cr lr cb lb o =
    let t : Tables = lent bt rt pt nt a.others in
    let sd : Sound (store_of h t) = a.sound in
    let er = keep_records h t m sd l u fr in
    let ep = rename_places h t m sd l u fr in
    let tb = laid_rows branch_kind cb.table lb in
    let tr = laid_rows record_kind cr.table lr in
    carried h (lent bt rt pt nt o) (reclaim m)
    (sym
    (accepted_step h (lent bt rt pt nt o) m l u
    ∙ rw (given_others h t m sd l u (with_places pt o), ← er, ← ep, ← tb, ← cb.count, ← tr, ← cr.count, ← cr.places)))
    refl
    (record { branches = rw tb cb.table; records = rw tr cr.table; names = laid_own name_kind nt })

-- refusals
pub refuses_8 : (h : Head) (t : Tables) (m : ℕ) → m < h.floor → Carried h t (reclaim m) (refused_with h 8) t
unfolding step do_reclaim record_given
refuses_8 h t m l = carried h t (reclaim m) (rw (lt-ltb m h.floor l)) refl (within_own t)

pub refuses_9 : (h : Head) (t : Tables) (m : ℕ) → h.floor ≤ m → h.now < m → Carried h t (reclaim m) (refused_with h 9) t
unfolding step do_reclaim record_given
refuses_9 h t m l u = carried h t (reclaim m) (rw (le-ltb m h.floor l, lt-ltb h.now m u)) refl (within_own t)
