-- Change request Two: the slab in use through a list of calls, and copies of a store.
use Prim.Native.Nat.{ℕ, zero, suc, ◌+◌, ◌*◌, ◌≤◌, ◌<◌}
use mathlib.Core.Path.{◌≡◌, refl, sym, ap, ◌∙◌}
use mathlib.Core.List.{List, [], ◌∷◌, ◌++◌, reverse}
use native.Mathlib.Omega.{arith}
use lib.ListN.{length, get_or, take, replicate, length-append, length-take}
use lib.Seq.{length-take-le}
use Rattle.model.specs.declared.Head.{Head}
use Rattle.model.specs.declared.Record.{Record}
use Rattle.model.specs.Store.{Store, branches, newest, records, keep, page_at, ◌∈◌}
use Rattle.model.specs.Lookup.{lookup}
use Rattle.model.specs.Soundness.{used, in_use}
use Rattle.model.specs.Fresh.{fresh_check, fresh, made_fresh}
use Rattle.model.specs.Batch.{Answered}
use Rattle.model.specs.Reference.{Reference, empty}
use Rattle.model.specs.Demand3.{after, answered, fed, Exact}
use Rattle.model.specs.ByNumber.{Named, Sizes, Sound}
use Rattle.model.specs.Packed.{reach, slab_in_use, StaysPacked, Copy, CopiesAgree}
use Rattle.model.proofs.Base.{keep_append}
use Rattle.model.proofs.Ancestry.{find→}
use Rattle.model.proofs.Places.{named_mem}
use Rattle.model.proofs.Pages.{page_front}
use Rattle.model.proofs.Invariant.{Inv}
use Rattle.model.proofs.Checked.{sizes→}
use Rattle.model.proofs.Writing.{rows_falls, found_page_same, length_records}
use Rattle.model.proofs.Reclaiming.{length_branches}
use Rattle.model.proofs.Freshness.{used_none, made_is, made_inv}
use Rattle.model.proofs.Packed.{reach_free, reach_le, below_reach, reach_length}
use Rattle.model.proofs.Demand3.{Ran, ran_append, ran_calls, ran_agrees}

-- free places by themselves, and behind others
zeros_free : (n k : ℕ) → ◌≡◌ {A = ℕ} (get_or (replicate n 0) k 0) 0
zeros_free zero k = refl
zeros_free (suc n) zero = refl
zeros_free (suc n) (suc k) = zeros_free n k

row_longer : (ps : List ℕ) (n k : ℕ) → get_or (ps ++ replicate n 0) k 0 ≡ get_or ps k 0
row_longer [] n k = zeros_free n k
row_longer (x ∷ ps) n zero = refl
row_longer (x ∷ ps) n (suc k) = row_longer ps n k

used_longer : (ps : List ℕ) (n : ℕ) → used (ps ++ replicate n 0) ≡ used ps
unfolding used
used_longer ps n = ap length (keep_append in_use ps (replicate n 0)) ∙ omega (arith, length-append (keep in_use ps) (keep in_use (replicate n 0)), used_none n)

named_longer : (ps : List ℕ) (n i : ℕ) (rs : List Record) → Named ps i rs → Named (ps ++ replicate n 0) i rs
named_longer ps n i [] h = tt
named_longer ps n i (r ∷ rs) h = (omega (arith, length-append ps (replicate n 0), h.0), row_longer ps n r.place ∙ h.1, named_longer ps n (suc i) rs h.2)

reach_longer : (ps : List ℕ) (n m : ℕ) → reach ps ≤ m → reach (ps ++ replicate n 0) ≤ m
reach_longer ps n m l = reach_le (ps ++ replicate n 0) m (λ k h. row_longer ps n k ∙ reach_free ps k (omega arith))

-- rows that are counted are there
counted_in : {A : Type 0} (n : ℕ) (rows : List A) → length (take n rows) ≡ n → n ≤ length rows
counted_in n rows e = omega (arith, length-take n rows)

module _ (s c : Store) (k : Copy s c) where
  rows_same : newest c ≡ newest s
  unfolding newest
  rows_same = ap reverse k.branches

  copy_sizes : Sizes s → Sizes c
  unfolding branches records
  copy_sizes z =
      let h : c.head ≡ s.head = k.head in
      let b : length (take c.head.branches c.branch_rows) ≡ c.head.branches = ap length k.branches ∙ (length_branches s z ∙ ap (λ (x : Head). x.branches) (sym h)) in
      let r : length (take c.head.records c.record_rows) ≡ c.head.records = ap length k.records ∙ (length_records s z ∙ ap (λ (x : Head). x.records) (sym h)) in
      record {
        allowed = sizes→ _ _ _ _ _ _ k.allowed;
        counted_low = rw h z.counted_low;
        counted_high = counted_in c.head.branches c.branch_rows b;
        records_counted = counted_in c.head.records c.record_rows r;
        names_counted = rw h z.names_counted;
        floor_now = rw h z.floor_now;
        now_high = rw h z.now_high;
      }

  pub copy_sound : Sound s → Sound c
  copy_sound h =
      record {
        sizes = copy_sizes h.sizes;
        rows = rw (rows_same, k.head) h.rows;
        names = rw (rows_same, k.names, k.head) h.names;
        ascends = rw k.records h.ascends;
        fits = λ r m. rw (rows_same, k.head) (h.fits r (rw k.records at m));
        named = rw (k.records, k.places) (named_longer s.place_rows k.more 1 (records s) h.named);
        in_use = rw (k.places, k.head) (used_longer s.place_rows k.more ∙ h.in_use);
      }

  -- the page of a counted record lies where the slab is in use
  page_copy : Sound s → (r : Record) → r ∈ records s → page_at c.slab r.place ≡ page_at s.slab r.place
  page_copy h r m =
      let n : (r.place < length s.place_rows) × (1 ≤ get_or s.place_rows r.place 0) = named_mem s.place_rows 1 (records s) r h.named m in
      let place_used : r.place < reach s.place_rows = below_reach s.place_rows r.place n.1 in
      let whole : reach s.place_rows ≤ length s.place_rows = reach_length s.place_rows in
      let long : length (take (slab_in_use s) s.slab) ≡ slab_in_use s = length-take-le (slab_in_use s) s.slab (omega (arith, h.sizes.allowed.slab)) in
      let fits : 256 * r.place + 256 ≤ length (take (slab_in_use s) s.slab) = omega arith in
      let same : take (slab_in_use s) c.slab ≡ take (slab_in_use s) s.slab = k.slab in
      sym (page_front c.slab (slab_in_use s) r.place (rw same fits))
      ∙ (ap (λ (x : List ℕ). page_at x r.place) same ∙ page_front s.slab (slab_in_use s) r.place fits)

  copy_inv : (p : Reference) → Inv s p → Inv c p
  unfolding lookup
  copy_inv p v =
      record {
        sound = copy_sound v.sound;
        now = rw k.head v.now;
        floor = rw k.head v.floor;
        names = k.names ∙ v.names;
        held = rw k.records v.held;
        reads =
            λ a t i j.
            rw (k.records, rows_same)
            (found_page_same s.slab c.slab (lookup s a t)
            (λ q e. page_copy v.sound q (find→ (records s) a (newest s) (rows_falls _ _ (newest s) v.sound.rows) t q e).counted)
            ∙ v.reads a t (rw (k.names, k.head) at i) (rw k.head at j));
      }

  exact_copy : (p : Reference) → Sound s → Exact s p → Exact c p
  exact_copy p h e =
      record {
        seen =
            λ r m.
            let m' : r ∈ records s = rw k.records at m in
            let x = e.seen r m' in
            (x.0, x.1, rw (page_copy h r m') x.2);
        stored =
            λ a t g i d.
            let x = e.stored a t g i d in
            (x.0, rw k.records x.1, x.2, rw (page_copy h x.0 x.1) x.3);
        needed = λ b m. rw k.records (e.needed b (rw k.branches at m));
      }

ran_copy : (s : Store) (p : Reference) (s' c : Store) (es : List Answered) → Ran s p s' es → Copy s' c → Ran s p c es
ran_copy s p s' c es x k =
    record {
      inv = copy_inv s' c k (fed p es) x.inv;
      right = x.right;
      size = ap (λ (h : Head). h.size) k.head ∙ x.size;
      exact = λ b f e. exact_copy s' c k (fed p es) x.inv.sound (x.exact b f e);
      packed = λ n l h. rw k.places (reach_longer s'.place_rows k.more n (x.packed n l h));
    }

pub copies_agree : CopiesAgree
copies_agree lent size calls c more h k =
    let s : Store = made_fresh lent size in
    let x : Ran s empty c (answered s calls) = ran_copy s empty (after s calls) c (answered s calls) (ran_calls s empty calls (made_inv lent size h)) k in
    ran_agrees lent size (after c more) (answered s calls ++ answered c more) h
    (ran_append s empty c (answered s calls) (after c more) (answered c more) x (ran_calls c (fed empty (answered s calls)) more x.inv))

fresh_reach : (lent : Store) (size : ℕ) → fresh_check lent size ≡ 0 → reach (made_fresh lent size).place_rows ≤ 0
unfolding fresh
fresh_reach lent size h = rw (made_is lent size h) (reach_le _ 0 (λ k l. zeros_free (length lent.place_rows) k))

pub stays_packed : StaysPacked
stays_packed lent size calls n h u =
    let s : Store = made_fresh lent size in
    let z : reach s.place_rows ≤ 0 = fresh_reach lent size h in
    let l : reach (after s calls).place_rows ≤ n = (ran_calls s empty calls (made_inv lent size h)).packed n (omega arith) u in
    omega arith
