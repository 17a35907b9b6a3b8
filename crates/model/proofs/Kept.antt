-- What every request keeps of a store: the lengths of tables and slab, and that each number of head and tables is one of 32 bits.
use Prim.Native.Nat.{ℕ, zero, suc, ◌+◌, ◌-◌, ◌≤◌, ◌<◌}
use mathlib.Core.Path.{◌≡◌, refl, ◌∙◌}
use mathlib.Core.Logic.{inl, inr}
use mathlib.Core.List.{List, [], ◌∷◌, ◌++◌, map}
use mathlib.Core.Bool.{Bool, cond, not}
use native.Mathlib.Omega.{arith}
use lib.Dec.{leb, ltb}
use lib.ListN.{length, get_or, take, drop, set, replicate, length-set, length-append, length-drop, length-take, length-map}
use borrow.Author.Tests.{ltb-true, ltb-false, leb-false}
use Rattle.model.specs.declared.Branch.{Branch}
use Rattle.model.specs.declared.Record.{Record}
use Rattle.model.specs.declared.Name.{Name}
use Rattle.model.specs.declared.Head.{Head}
use Rattle.model.specs.Store.{Store, branches, newest, records, names, is_called, without, keep, open_end, zero_branch, zero_record, zero_name, ◌∈◌}
use Rattle.model.specs.Lookup.{readable, is_given}
use Rattle.model.specs.Wire.{Request, write, mark, revert, read_at, reclaim, give, withdraw, parse, one, answer_bytes}
use Rattle.model.specs.Step.{Stepped, standing, first_free, before, shifted, put_in, inserted, written, do_write, do_mark, branched, do_revert, do_read, renumbered, closed_up, landing, with_cut, settled, reclaimed, do_reclaim, with_names, step}
use Rattle.model.specs.Batch.{run, batch}
use Rattle.model.specs.ByNumber.{Sizes, Sound, Whole, Names}
use Rattle.model.proofs.Base.{case, mem_append, mem_take, mem_drop, mem_set, mem_replicate, mem_keep, map_mem, mem_get_d, get_d_mem, length_keep}
use Rattle.model.proofs.Latest.{case_option, latest→}
use Rattle.model.proofs.Places.{named_mem, first_free→}
use Rattle.model.proofs.Settling.{landing_falls}
use Rattle.model.proofs.Pages.{length_with_page}
use Rattle.model.proofs.Invariant.{sound_check}
use Rattle.model.proofs.Writing.{rows_falls, put_mem, before_le, length_put, length_records}
use Rattle.model.proofs.Reclaiming.{length_closed, length_branches, length_settled, given, is_left, after}
use Rattle.model.proofs.Naming.{fewer_names, Givable, give_cases, withdraw_cases}
use Rattle.model.proofs.ByNumber.{names_of, names_below}
use Rattle.model.proofs.Steps.{step_sound}
use Rattle.model.proofs.Parsing.{Reads, parse_reads, case_parsed}
use Rattle.model.proofs.Running.{run_end, run_stop, run_full, run_one, batch_run}

-- a number of 32 bits
abbrev pub Small : ℕ → Type 0
Small n = n < 4294967296

pub record SmallHead (h : Head) : Type 0 where
  pub size : Small h.size
  pub branches : Small h.branches
  pub records : Small h.records
  pub now : Small h.now
  pub floor : Small h.floor
  pub names : Small h.names

pub record SmallBranch (b : Branch) : Type 0 where
  pub start : Small b.start
  pub end : Small b.end
  pub cut : Small b.cut
  pub order : Small b.order

pub record SmallRecord (r : Record) : Type 0 where
  pub address : Small r.address
  pub moment : Small r.moment
  pub place : Small r.place

pub record SmallName (n : Name) : Type 0 where
  pub high : Small n.high
  pub low : Small n.low
  pub moment : Small n.moment

-- a statement of every element
pub record All {A : Type 0} (P : A → Type 0) (xs : List A) : Type 0 where
  pub each : (x : A) → x ∈ xs → P x

module _ {A : Type 0} {P : A → Type 0} where
  pub all_append : {xs ys : List A} → All P xs → All P ys → All P (xs ++ ys)
  all_append {xs} {ys} f g = record { each = λ x m. elim (mem_append x xs ys m) [ inl k ↦ f.each x k | inr k ↦ g.each x k ] }

  pub all_set : {xs : List A} (i : ℕ) (v : A) → All P xs → P v → All P (set xs i v)
  all_set {xs} i v f p = record { each = λ x m. elim (mem_set x xs i v m) [ inl e ↦ rw e p | inr k ↦ f.each x k ] }

  pub all_drop : (n : ℕ) {xs : List A} → All P xs → All P (drop n xs)
  all_drop n {xs} f = record { each = λ x m. f.each x (mem_drop n x xs m) }

  all_take : (n : ℕ) {xs : List A} → All P xs → All P (take n xs)
  all_take n {xs} f = record { each = λ x m. f.each x (mem_take n x xs m) }

  all_keep : (k : A → Bool) {xs : List A} → All P xs → All P (keep k xs)
  all_keep k {xs} f = record { each = λ x m. f.each x (mem_keep k x xs m).0 }

  pub all_get : (xs : List A) (i : ℕ) (z : A) → P z → All P xs → P (get_or xs i z)
  all_get [] i z p f = p
  all_get (x ∷ xs) zero z p f = f.each x (inl refl)
  all_get (x ∷ xs) (suc i) z p f = all_get xs i z p (record { each = λ y m. f.each y (inr m) })

pub all_replicate : {A : Type 0} (P : A → Type 0) (n : ℕ) (z : A) → P z → All P (replicate n z)
all_replicate P n z p = record { each = λ x m. rw (mem_replicate x n z m) p }

-- every number of head and tables is one of 32 bits
pub record Narrow (s : Store) : Type 0 where
  pub head : SmallHead s.head
  pub branches : All SmallBranch s.branch_rows
  pub records : All SmallRecord s.record_rows
  pub places : All Small s.place_rows
  pub names : All SmallName s.name_rows

-- u has tables and slab as long as those of s, and its numbers are of 32 bits if those of s are
pub record Kept (s u : Store) : Type 0 where
  pub branches : length u.branch_rows ≡ length s.branch_rows
  pub records : length u.record_rows ≡ length s.record_rows
  pub places : length u.place_rows ≡ length s.place_rows
  pub names : length u.name_rows ≡ length s.name_rows
  pub slab : length u.slab ≡ length s.slab
  pub narrow : Narrow s → Narrow u

kept_none : (s : Store) → Kept s s
kept_none s = record { branches = refl; records = refl; places = refl; names = refl; slab = refl; narrow = λ n. n }

pub kept_then : {s t u : Store} → Kept s t → Kept t u → Kept s u
kept_then x y =
    record {
      branches = y.branches ∙ x.branches;
      records = y.records ∙ x.records;
      places = y.places ∙ x.places;
      names = y.names ∙ x.names;
      slab = y.slab ∙ x.slab;
      narrow = λ n. y.narrow (x.narrow n);
    }

kept_if : (s : Store) (b : Bool) (x y : Stepped) → Kept s x.store → Kept s y.store → Kept s (cond b x y).store
kept_if s b x y f g = case b (λ e. rw e f) (λ e. rw e g)

-- a place row names a record, so it is small
rows_below : (s : Store) → Sound s → (k : ℕ) → k ∈ s.place_rows → k ≤ 65536
unfolding records
rows_below s h k m =
    let z : Sizes s = h.sizes in
    let i : (i : ℕ) × (i < length s.place_rows) × (get_or s.place_rows i 0 ≡ k) = mem_get_d k s.place_rows 0 m in
    let n : Names s.record_rows s.head.records s.place_rows = names_of s.record_rows s.head.records s.place_rows z.records_counted h.named h.in_use in
    omega (arith, i.2, names_below n i.0, z.records_counted, z.allowed.records_high)

inserted_kept : (s : Store) (r : Record) (page : List ℕ) (k : ℕ) → Sound s → length page ≡ 256 → r.address < s.head.size → r.moment ≡ s.head.now
    → s.head.records < length s.record_rows → r.place < length s.place_rows → k ≤ length (records s) → Kept s (inserted s r page k)
unfolding inserted
inserted_kept s r page k h w ad rm room inside kl =
    let z : Sizes s = h.sizes in
    let ln : length (records s) ≡ s.head.records = length_records s z in
    let old : Narrow s → All SmallRecord (records s) = unfold records in λ n. all_take s.head.records n.records in
    record {
      branches = refl;
      records =
          omega (arith, length-append (put_in k r (records s)) (drop (s.head.records + 1) s.record_rows), length_put k r (records s), length-drop (s.head.records + 1) s.record_rows);
      places = simp (length-set, length-map);
      names = refl;
      slab = length_with_page s.slab r.place page w (omega (arith, z.allowed.slab));
      narrow =
          λ n.
          record {
            head = record { size = n.head.size; branches = n.head.branches; records = omega (arith, z.allowed.records_high); now = n.head.now; floor = n.head.floor; names = n.head.names };
            branches = n.branches;
            records =
                all_append {xs = put_in k r (records s)}
                (record {
                  each =
                      λ q m.
                      elim (put_mem r k (records s) q m) [
                        | inl e ↦ rw e (record { address = omega (arith, z.allowed.size_high); moment = omega (arith, n.head.now); place = omega (arith, z.allowed.places_high) })
                        | inr i ↦ (old n).each q i
                      ];
                })
                (all_drop (s.head.records + 1) n.records);
            places = all_set r.place (suc k) shifts (omega (arith, z.records_counted, z.allowed.records_high));
            names = n.names;
          };
    }
  where
    shifts : All Small (map (shifted k) s.place_rows)
    shifts =
        record {
          each =
              λ x m.
              let q : (y : ℕ) × (y ∈ s.place_rows) × (x ≡ shifted k y) = map_mem (shifted k) x s.place_rows m in
              let b : q.0 ≤ 65536 = rows_below s h q.0 q.1 in
              rw q.2 (case (leb q.0 k) (λ e. rw e (omega arith)) (λ e. rw e (omega arith)));
        }

written_kept : (s : Store) (a : ℕ) (page : List ℕ) → Sound s → length page ≡ 256 → a < s.head.size → Kept s (written s a page (standing s a)).store
written_kept s a page h w ad =
    let z : Sizes s = h.sizes in
    case_option (standing s a)
    (λ e.
    rw e
    (case (ltb s.head.records (length s.record_rows))
    (λ c.
    rw c
    (case_option (first_free s.place_rows)
    (λ f. rw f (kept_none s))
    (λ p f.
    let q : Record = record { address = a; moment = s.head.now; place = p } in
    rw f (inserted_kept s q page (before q (records s)) h w ad refl (ltb-true _ _ c) (first_free→ s.place_rows p f).inside (before_le q (records s))))))
    (λ c. rw c (kept_none s))))
    (λ q e.
    let m : q ∈ records s = (latest→ (records s) a s.head.now s.head.now q e).0 in
    let i : q.place < length s.place_rows = (named_mem s.place_rows 1 (records s) q h.named m).0 in
    rw e
    (record {
      branches = refl;
      records = refl;
      places = refl;
      names = refl;
      slab = length_with_page s.slab q.place page w (omega (arith, z.allowed.slab));
      narrow = λ n. record { head = n.head; branches = n.branches; records = n.records; places = n.places; names = n.names };
    }))

branched_kept : (s : Store) (m w : ℕ) → w ≤ 65535 → Sound s → m < s.head.now → s.head.now < open_end → s.head.branches < length s.branch_rows → Kept s (branched s m w)
unfolding branched
branched_kept s m w v h l t room =
    let z : Sizes s = h.sizes in
    record {
      branches = simp length-set;
      records = refl;
      places = refl;
      names = refl;
      slab = refl;
      narrow =
          λ n.
          let last : SmallBranch (get_or s.branch_rows (s.head.branches - 1) zero_branch) =
          n.branches.each (get_or s.branch_rows (s.head.branches - 1) zero_branch) (get_d_mem s.branch_rows (s.head.branches - 1) zero_branch (omega (arith, z.counted_low))) in
          record {
            head = record { size = n.head.size; branches = omega (arith, z.allowed.branches_high); records = n.head.records; now = omega arith; floor = n.head.floor; names = n.head.names };
            branches =
                all_set s.head.branches _ (all_set (s.head.branches - 1) _ n.branches (record { start = last.start; end = omega arith; cut = last.cut; order = last.order }))
                (record { start = omega arith; end = omega arith; cut = omega arith; order = omega arith });
            records = n.records;
            places = n.places;
            names = n.names;
          };
    }

-- rows that close up
closed_small : {A : Type 0} {P : A → Type 0} (z : A) (kept : List A) (count : ℕ) (rows : List A) → P z → All P kept → All P rows → All P (closed_up z kept count rows)
closed_small {P = P} z kept count rows p f g = all_append f (all_append (all_replicate P (count - length kept) z p) (all_drop count g))

-- a cut only falls, so it stays small
settled_small : (κ : Branch → Bool) (s : Store) → Sound s → All SmallBranch (branches s) → All SmallBranch (settled κ s)
unfolding settled
settled_small κ s h f =
    record {
      each =
          λ x m.
          let q : (b : Branch) × (b ∈ keep κ (branches s)) × (x ≡ with_cut b (landing κ (newest s) b.cut)) = map_mem _ x (keep κ (branches s)) m in
          let b : SmallBranch q.0 = f.each q.0 (mem_keep κ q.0 (branches s) q.1).0 in
          let l : landing κ (newest s) q.0.cut ≤ q.0.cut = landing_falls κ (newest s) (rows_falls _ _ (newest s) h.rows) q.0.cut in
          rw q.2 (record { start = b.start; end = b.end; cut = omega (arith, b.cut); order = b.order });
    }

reclaimed_kept : (s : Store) (m : ℕ) → Sound s → m ≤ s.head.now → Kept s (after s m)
unfolding reclaimed
reclaimed_kept s m h u =
    let z : Sizes s = h.sizes in
    let ln : length (records s) ≡ s.head.records = length_records s z in
    let lb : length (branches s) ≡ s.head.branches = length_branches s z in
    let kr : length (given s m) ≤ length (records s) = length_keep (is_given s m) (records s) in
    let kb : length (settled (is_left s m) s) ≤ length (branches s) = length_settled s (is_left s m) in
    let old-rows : Narrow s → All SmallBranch (branches s) = unfold branches in λ n. all_take s.head.branches n.branches in
    let old : Narrow s → All SmallRecord (records s) = unfold records in λ n. all_take s.head.records n.records in
    record {
      branches = length_closed zero_branch (settled (is_left s m) s) s.head.branches s.branch_rows (omega arith) z.counted_high;
      records = length_closed zero_record (given s m) s.head.records s.record_rows (omega arith) z.records_counted;
      places = length-map s.place_rows _;
      names = refl;
      slab = refl;
      narrow =
          λ n.
          record {
            head =
                record {
                  size = n.head.size;
                  branches = omega (arith, z.counted_high, z.allowed.branches_high);
                  records = omega (arith, z.records_counted, z.allowed.records_high);
                  now = n.head.now;
                  floor = omega (arith, n.head.now);
                  names = n.head.names;
                };
            branches =
                closed_small zero_branch _ s.head.branches s.branch_rows (record { start = omega arith; end = omega arith; cut = omega arith; order = omega arith })
                (settled_small (is_left s m) s h (old-rows n)) n.branches;
            records =
                closed_small zero_record _ s.head.records s.record_rows (record { address = omega arith; moment = omega arith; place = omega arith })
                (all_keep (is_given s m) (old n)) n.records;
            places =
                record {
                  each =
                      λ x i.
                      let q : (y : ℕ) × (y ∈ s.place_rows) × (x ≡ renumbered (is_given s m) (records s) y) = map_mem (renumbered (is_given s m) (records s)) x s.place_rows i in
                      rw q.2 (renumbered_small (is_given s m) (records s) (omega (arith, z.records_counted, z.allowed.records_high)) q.0);
                };
            names = n.names;
          };
    }
  where
    renumbered_small : (k : Record → Bool) (rs : List Record) → length rs ≤ 65536 → (y : ℕ) → Small (renumbered k rs y)
    renumbered_small k rs l zero = omega arith
    renumbered_small k rs l (suc i) =
        case (k (get_or rs i zero_record))
        (λ e. rw e (omega (arith, length_keep k (take i rs), length-take i rs)))
        (λ e. rw e (omega arith))

-- other names, in as many rows
named_kept : (s : Store) (count : ℕ) (rows : List Name) → length rows ≡ length s.name_rows → count ≤ 32 → (Narrow s → All SmallName rows) → Kept s (with_names s count rows)
named_kept s count rows l c f =
    record {
      branches = refl;
      records = refl;
      places = refl;
      names = l;
      slab = refl;
      narrow =
          λ n.
          record {
            head = record { size = n.head.size; branches = n.head.branches; records = n.head.records; now = n.head.now; floor = n.head.floor; names = omega arith };
            branches = n.branches;
            records = n.records;
            places = n.places;
            names = f n;
          };
    }

withdrawn_kept : (s : Store) (high low : ℕ) → Sizes s → Kept s (with_names s (length (without high low (names s))) (closed_up zero_name (without high low (names s)) s.head.names s.name_rows))
withdrawn_kept s high low z =
    let l : length (without high low (names s)) ≤ s.head.names = fewer_names s high low z in
    let old : Narrow s → All SmallName (names s) = unfold names in λ n. all_take s.head.names n.names in
    named_kept s (length (without high low (names s))) _
    (length_closed zero_name (without high low (names s)) s.head.names s.name_rows l (omega (arith, z.names_counted, z.allowed.name_rows)))
    (omega (arith, z.names_counted))
    (λ n.
    closed_small zero_name _ s.head.names s.name_rows (record { high = omega arith; low = omega arith; moment = omega arith })
    (all_keep (λ x. not (is_called high low x)) (old n)) n.names)

pub step_kept : (s : Store) (q : Request) → Sound s → Whole q → Kept s (step s q).store
unfolding step do_write do_mark do_revert do_read do_reclaim
step_kept s (write a page) h w =
    case (ltb a s.head.size) (λ e. rw e (written_kept s a page h w (ltb-true a s.head.size e))) (λ e. rw e (kept_none s))
step_kept s mark h w =
    case (ltb s.head.now open_end)
    (λ e.
    let l : s.head.now < open_end = ltb-true s.head.now open_end e in
    rw e
    (record {
      branches = refl;
      records = refl;
      places = refl;
      names = refl;
      slab = refl;
      narrow =
          λ n.
          record {
            head = record { size = n.head.size; branches = n.head.branches; records = n.head.records; now = omega arith; floor = n.head.floor; names = n.head.names };
            branches = n.branches;
            records = n.records;
            places = n.places;
            names = n.names;
          };
    }))
    (λ e. rw e (kept_none s))
step_kept s (revert m o) h w =
    case (readable s m)
    (λ e₁.
    case (leb s.head.now m)
    (λ e. rw (e₁, e) (kept_none s))
    (λ e₂.
    case (leb open_end s.head.now)
    (λ e. rw (e₁, e₂, e) (kept_none s))
    (λ e₃.
    case (leb (length s.branch_rows) s.head.branches)
    (λ e. rw (e₁, e₂, e₃, e) (kept_none s))
    (λ e₄.
    rw (e₁, e₂, e₃, e₄)
    (branched_kept s m o w h (leb-false s.head.now m e₂) (leb-false open_end s.head.now e₃) (leb-false (length s.branch_rows) s.head.branches e₄))))))
    (λ e. rw e (kept_none s))
step_kept s (read_at a m) h w =
    kept_if s (ltb a s.head.size) _ _
    (kept_if s (readable s m) _ _ (kept_if s (ltb s.head.now m) _ _ (kept_none s) (kept_none s)) (kept_none s)) (kept_none s)
step_kept s (reclaim m) h w =
    case (ltb m s.head.floor)
    (λ e. rw e (kept_none s))
    (λ e₁.
    case (ltb s.head.now m)
    (λ e. rw (e₁, e) (kept_none s))
    (λ e₂. rw (e₁, e₂) (reclaimed_kept s m h (ltb-false s.head.now m e₂))))
step_kept s (give n) h w =
    give_cases (λ st. Kept s st.store) s n (λ k i j. kept_none s)
    (λ (g : Givable s n).
    named_kept s (s.head.names + 1) _ (length-set s.name_rows s.head.names n) (omega arith)
    (λ o. all_set s.head.names n o.names (record { high = w.0; low = w.1; moment = omega (arith, h.sizes.now_high) })))
step_kept s (withdraw high low) h w = withdraw_cases (λ st. Kept s st.store) s high low (λ e. kept_none s) (λ n e. withdrawn_kept s high low h.sizes)

-- and so does a batch, which leaves sound tables
abbrev KeptSound : Store → Store → Type 0
KeptSound s u = Kept s u × Sound u

abbrev RunKeeps : ℕ → Type 0
RunKeeps fuel = (s : Store) (input : List ℕ) (space : ℕ) → Sound s → KeptSound s (run fuel s input space).store

run_kept_suc : (fuel : ℕ) → RunKeeps fuel → RunKeeps (suc fuel)
run_kept_suc fuel ih s input space h =
    case_parsed (parse input)
    (λ e. rw (run_end fuel s input space e) (kept_none s, h))
    (λ n e. rw (run_stop fuel s input space n e) (kept_none s, h))
    (λ q n e.
    let w : Reads (length input) (one q n) = rw e at (parse_reads input) in
    case (ltb space (length (answer_bytes (step s q).answer)))
    (λ d. rw (run_full fuel s input space q n e d) (kept_none s, h))
    (λ d.
    let k : KeptSound (step s q).store (run fuel (step s q).store (drop n input) (space - length (answer_bytes (step s q).answer))).store =
    ih (step s q).store (drop n input) _ (step_sound s q h w.0) in
    rw (run_one fuel s input space q n e d) (kept_then (step_kept s q h w.0) k.0, k.1)))

run_kept : (fuel : ℕ) → RunKeeps fuel
run_kept zero = run_zero
  where
    run_zero : RunKeeps 0
    run_zero s input space h = unfold run in (kept_none s, h)
run_kept (suc fuel) = run_kept_suc fuel (run_kept fuel)

pub batch_kept : (s : Store) (input : List ℕ) (space : ℕ) → Sound s → KeptSound s (batch s input space).store
batch_kept s input space h = rw (batch_run s input space (sound_check s h)) (run_kept (suc (length input)) s input space h)
