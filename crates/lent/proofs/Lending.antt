-- What the core does with the first rows of a flat table, said of those rows; and what too many rows are refused with.
use mathlib.Core.Path.{◌≡◌, refl, sym, ap, ◌∙◌}
use mathlib.Core.Logic.{inl}
use mathlib.Core.Bool.{true, false, ◌&&◌}
use mathlib.Core.List.{List, ◌++◌}
use Prim.Native.Nat.{ℕ, ◌*◌, ◌%◌, ◌<◌}
use native.Mathlib.Nat.{mul-mod_left}
use native.Mathlib.Omega.{arith}
use borrow.Author.Tests.{leb-true}
use lib.Dec.{leb}
use lib.ListN.{length, take, drop, length-append, length-drop}
use lib.Seq.{length-take-le, drop_at}
use Rattle.model.specs.declared.Head.{Head}
use Rattle.model.specs.declared.Branch.{Branch}
use Rattle.model.specs.Store.{Store}
use Rattle.model.specs.Soundness.{sizes_allowed, in_range, table_check, between}
use Rattle.model.specs.Batch.{Run, ended}
use Rattle.model.specs.Fresh.{fresh_check, made_fresh}
use Rattle.model.proofs.Base.{case, and→}
use Rattle.model.proofs.RowsRead.{rows_tell}
use Rattle.live.specs.Live.{LiveDisk, LiveRun, live_check, live_batch}
use Rattle.rows.specs.Rows.{flat, branch_width, branch_fields, branch_rows_of, record_rows_of, name_rows_of, BranchesIn}
use Rattle.rows.specs.View.{Tables, tables, store_of, laid}
use Rattle.rows.proofs.Laws.{branch_kind, record_kind, name_kind, relaid_own}
use Rattle.rows.proofs.Relaid.{front_rows, first_rows}
use Rattle.soundness.specs.Check.{whole_rows, whole_tables, allowed_in, read_of}
use Rattle.soundness.proofs.Checked.{allowed_rows}
use Rattle.batch.specs.declared.Done.{Done}
use Rattle.batch.specs.Batch.{batch_of, BatchLeaves as CoreLeaves}
use Rattle.fresh.specs.declared.Made.{Made}
use Rattle.fresh.specs.Fresh.{fresh_of, refusal_of, Fresh}
use Rattle.lent.specs.Lent.{Lent, lent, lent_store, laid_over, whole_others, lent_batch, lent_read, lent_fresh, lent_refusal, BatchLeaves, FreshLeaves}
use Rattle.lent.proofs.Loading.{relaid_first}

-- a fresh store of sizes that are not allowed is not made
not_made : (s : Store) (size : ℕ) → sizes_allowed size (length s.branch_rows) (length s.record_rows) (length s.place_rows) (length s.name_rows) (length s.slab) ≡ false → made_fresh s size ≡ s
unfolding made_fresh
not_made s size e = rw e

-- what is lent, laid over itself
laid_itself : (head : Head) (l : Lent) → l ≡ laid_over (lent_store head l) l
laid_itself head l i = record { branches = l.branches; records = sym (relaid_own record_kind l.records) i; places = l.places; names = sym (relaid_own name_kind l.names) i; slab = l.slab }

-- rows loaded into a table are its first
pub loaded_front : (rows : List Branch) (t u : List ℕ) → u ≡ flat branch_fields rows ++ drop (length rows * branch_width) t → take (length rows) (branch_rows_of u) ≡ rows
loaded_front rows t u e = rw e (first_rows branch_kind rows (drop (length rows * branch_width) t))

-- n rows of a flat table, and what a call on their numbers leaves in the table
module _ (n : ℕ) (t : List ℕ) (fits : BranchesIn n t) where
  abbrev front : List ℕ
  front = take (n * branch_width) t

  abbrev rest : List ℕ
  rest = drop (n * branch_width) t

  length_front : length front ≡ n * branch_width
  length_front = length-take-le (n * branch_width) t fits

  module _ (rt pt nt slab : List ℕ) where
    -- the numbers of the rows with the other tables, and the rows with them
    abbrev T : Tables
    T = tables front rt pt nt slab

    abbrev L : Lent
    L = lent (take n (branch_rows_of t)) rt pt nt slab

    -- the branch rows are whole
    front_whole : whole_tables T ≡ whole_others L
    unfolding whole_rows
    front_whole = let e : length front % branch_width ≡ 0 = rw length_front (mul-mod_left n branch_width) in rw e

    front_store : (head : Head) → store_of head T ≡ lent_store head L
    front_store head = ap (λ (r : List Branch). lent_store head (lent r rt pt nt slab)) (front_rows branch_kind n t fits)

    batch_front : (head : Head) (d : LiveDisk) (input : List ℕ) (space : ℕ) → batch_of head T d input space ≡ lent_batch head L d input space
    unfolding batch_of lent_batch
    batch_front head d input space = rw (front_whole, front_store head)

    -- the live disk is that behind the batch on the rows
    pub disk_front : (head : Head) (d : LiveDisk) (input : List ℕ) (space : ℕ) → (batch_of head T d input space).disk ≡ (lent_batch head L d input space).disk
    disk_front head d input space = ap (λ (r : LiveRun). r.disk) (batch_front head d input space)

    -- the rows read are those of the batch on the rows
    pub read_front : (head : Head) → read_of head T ≡ lent_read head L
    unfolding read_of lent_read
    read_front head = rw (front_whole, front_store head)

    -- the sizes that are allowed, of the rows
    front_allowed : (size : ℕ) → allowed_in size T ≡ (whole_others L && sizes_allowed size (length L.branches) (length (record_rows_of rt)) (length pt) (length (name_rows_of nt)) (length slab))
    front_allowed size = allowed_rows size T ∙ rw (front_whole, front_rows branch_kind n t fits)

    fresh_front : (head : Head) (size : ℕ) → fresh_of head T size ≡ lent_fresh head L size
    unfolding fresh_of lent_fresh
    fresh_front head size =
        rw (front_store head, front_allowed size)
        (case (whole_others L)
        (λ e. rw e (case (sizes_allowed size (length L.branches) (length (record_rows_of rt)) (length pt) (length (name_rows_of nt)) (length slab)) (λ a. rw a) (λ a. rw a (sym (not_made (lent_store head L) size a)))))
        (λ e. rw e))

    refusal_front : (head : Head) (size : ℕ) → refusal_of size T ≡ lent_refusal head L size
    unfolding refusal_of lent_refusal fresh_check
    refusal_front head size = rw (front_allowed size) (case (whole_others L) (λ e. rw e) (λ e. rw e))

    module _ (u : List ℕ) (same : length (u ++ rest) ≡ length t) where
      length_back : length u ≡ length front
      length_back = omega (arith, length_front, length-append u rest, length-drop (n * branch_width) t)

      -- what stands behind the rows
      pub rest_stays : drop (n * branch_width) (u ++ rest) ≡ rest
      rest_stays = drop_at u rest (n * branch_width) (length_back ∙ length_front)

      -- a store laid over the numbers is laid over the rows
      back : (s : Store) {rt' pt' nt' slab' : List ℕ} → tables u rt' pt' nt' slab' ≡ laid s T → lent (take n (branch_rows_of (u ++ rest))) rt' pt' nt' slab' ≡ laid_over s L
      back s e =
          let b : take n (branch_rows_of (u ++ rest)) ≡ s.branch_rows =
          relaid_first branch_kind n front u rest s.branch_rows length_front length_back (ap (λ (x : Tables). x.branches) e) in
          λ i. record { branches = b i; records = (e i).records; places = (e i).places; names = (e i).names; slab = (e i).slab }

      -- the core's batch on the rows' numbers is the batch on the rows
      pub batch_back : (head : Head) (disk : LiveDisk) (input area : List ℕ) {d : Done} {rows : ℕ} {rt' pt' nt' slab' area' : List ℕ}
          → CoreLeaves (batch_of head T disk input (length area)).run T area d (tables u rt' pt' nt' slab') area'
          → BatchLeaves (lent_batch head L disk input (length area)).run L area (record { stop = d.stop; answered = d.answered; taken = d.taken; sent = d.sent; rows = rows }) d.head (lent (take n (branch_rows_of (u ++ rest))) rt' pt' nt' slab') area'
      batch_back head disk input area l =
          let run : Run = (batch_of head T disk input (length area)).run in
          rw (sym (batch_front head disk input (length area)))
          (record {
            stop = l.stop;
            answered = l.answered;
            taken = l.taken;
            sent = l.sent;
            head = l.head;
            tables = back run.store l.tables;
            answers = l.answers;
          })

      -- and so is making a fresh store
      pub fresh_back : (head : Head) (size : ℕ) {m : Made} {rt' pt' nt' : List ℕ} → Fresh head size T m (tables u rt' pt' nt' slab)
          → FreshLeaves head L size m.refusal m.head (lent (take n (branch_rows_of (u ++ rest))) rt' pt' nt' slab)
      fresh_back head size l =
          record {
            refusal = l.refusal ∙ refusal_front head size;
            made = l.head ∙ ap (λ (s : Store). s.head) (fresh_front head size);
            tables = back (fresh_of head T size) l.tables ∙ ap (λ (s : Store). laid_over s L) (fresh_front head size);
          }

-- more rows than a branch table may have: refusal 1, and nothing changes
module _ (head : Head) (l : Lent) (many : 4096 < length l.branches) where
  abbrev S : Store
  S = lent_store head l

  over : (size lr lp ln ls : ℕ) → sizes_allowed size (length l.branches) lr lp ln ls ≡ false
  unfolding sizes_allowed
  over size lr lp ln ls =
      case (sizes_allowed size (length l.branches) lr lp ln ls)
      (λ e.
      let rows-allowed : between 1 4096 (length l.branches) ≡ true = (and→ _ _ (and→ (between 1 65536 size) _ e).1).0 in
      absurd (omega (arith, many, leb-true (length l.branches) 4096 (and→ (leb 1 (length l.branches)) _ rows-allowed).1)))
      (λ e. e)

  many_check : table_check S ≡ 1
  unfolding table_check in_range
  many_check =
      let e : sizes_allowed head.size (length l.branches) (length (record_rows_of l.records)) (length l.places) (length (name_rows_of l.names)) (length l.slab) ≡ false =
      over head.size (length (record_rows_of l.records)) (length l.places) (length (name_rows_of l.names)) (length l.slab) in
      rw e

  many_batch : (d : LiveDisk) (input : List ℕ) (space : ℕ) → lent_batch head l d input space ≡ record { run = ended S 1; disk = d }
  unfolding lent_batch live_batch live_check
  many_batch d input space = case (whole_others l) (λ w. rw (w, many_check)) (λ w. rw w)

  -- the live disk stays
  pub many_disk : (d : LiveDisk) (input : List ℕ) (space : ℕ) → d ≡ (lent_batch head l d input space).disk
  many_disk d input space = ap (λ (r : LiveRun). r.disk) (sym (many_batch d input space))

  -- no record row is read
  pub many_read : 0 ≡ lent_read head l
  unfolding lent_read
  many_read = case (whole_others l) (λ w. rw (w, (rows_tell S).unread (inl many_check))) (λ w. rw w)

  pub many_batch_leaves : (d : LiveDisk) (input area : List ℕ) → BatchLeaves (lent_batch head l d input (length area)).run l area (record { stop = 1; answered = 0; taken = 0; sent = 0; rows = 0 }) head l area
  many_batch_leaves d input area =
      rw (many_batch d input (length area))
      (record { stop = refl; answered = refl; taken = refl; sent = refl; head = refl; tables = laid_itself head l; answers = refl })

  many_refusal : (size : ℕ) → 1 ≡ lent_refusal head l size
  unfolding lent_refusal fresh_check
  many_refusal size =
      let e : sizes_allowed size (length l.branches) (length (record_rows_of l.records)) (length l.places) (length (name_rows_of l.names)) (length l.slab) ≡ false =
      over size (length (record_rows_of l.records)) (length l.places) (length (name_rows_of l.names)) (length l.slab) in
      case (whole_others l) (λ w. rw (w, e)) (λ w. rw w)

  many_fresh : (size : ℕ) → lent_fresh head l size ≡ S
  unfolding lent_fresh
  many_fresh size =
      case (whole_others l)
      (λ w. rw (w, not_made S size (over size (length (record_rows_of l.records)) (length l.places) (length (name_rows_of l.names)) (length l.slab))))
      (λ w. rw w)

  pub many_fresh_leaves : (size : ℕ) → FreshLeaves head l size 1 head l
  many_fresh_leaves size =
      record {
        refusal = many_refusal size;
        made = ap (λ (s : Store). s.head) (sym (many_fresh size));
        tables = laid_itself head l ∙ ap (λ (s : Store). laid_over s l) (sym (many_fresh size));
      }
