-- The claims about the live disk.
use Prim.Native.Nat.{ℕ, zero, suc, ◌+◌, ◌*◌, ◌-◌, ◌/◌, ◌≤◌, ◌<◌}
use native.Mathlib.Nat.{suc-mul, div-lt_iff_lt-mul}
use native.Mathlib.Omega.{arith}
use mathlib.Core.Path.{◌≡◌, refl, sym, ap, subst⁻¹, ◌∙◌}
use mathlib.Core.Logic.{inl, inr}
use mathlib.Core.List.{List, [], ◌∷◌}
use mathlib.Core.Option.{Option, some, none}
use mathlib.Core.Bool.{false, false≢true}
use lib.Dec.{ltb, eqb}
use lib.ListN.{length, take, drop, length-take, length-drop}
use borrow.Author.Tests.{lt-ltb, le-ltb, eqb-true, eqb-false, ne_eqb}
use Rattle.model.specs.declared.Record.{Record}
use Rattle.model.specs.Store.{Store, names, moments, open_end, any, page_at, ◌∈◌}
use Rattle.model.specs.Soundness.{table_check}
use Rattle.model.specs.Wire.{Request}
use Rattle.model.specs.Step.{step, do_read}
use Rattle.model.specs.Batch.{ended, batch}
use Rattle.model.specs.ByNumber.{Sound, Whole}
use Rattle.model.proofs.Base.{case, readable_above}
use Rattle.model.proofs.Running.{batch_refused}
use Rattle.live.specs.declared.Spot.TheVariants.{Nowhere}
use Rattle.live.specs.Live.{LiveDisk, Live, is_current, is_blank, mark_of, live_check, played, LiveRun, live_batch, found_now, stored_at, spot_of, live_read, part_at, handed, brought, brought_all, stale, CopyLeft, copy_step}
use Rattle.live.specs.LiveDemand.{Call, batched, read_live, copied, after_call, after_calls, AllStale, read_now, reverts, reverts_in, NoRevert, budgets, Advances, LiveDemand}
use Rattle.live.specs.Fit.{Sized, Fit}
use Rattle.live.proofs.Stale.{stale_count, played_stale}
use Rattle.live.proofs.Behind.{page_now, Faithful, sized_checks, fit_checks, checks_fit, checks_two, step_size, asked, fit_step, faithful_step, fit_brought, faithful_brought}
use Rattle.live.proofs.Keeping.{copied_left, copied_keeps, batch_keeps}

-- a property of a store and its live disk
abbrev on : (Store → LiveDisk → Type 0) → Live → Type 0
on P l = P l.store l.disk

-- that each request and each page brought to date keeps, and that lets the checks pass
record Keeping (P : Store → LiveDisk → Type 0) : Type 0 where
  fits : (s : Store) (d : LiveDisk) → P s d → Fit s d
  requests : (s : Store) (d : LiveDisk) (q : Request) → Whole q → P s d → P (step s q).store (asked s d q)
  pages : (s : Store) (d : LiveDisk) (a : ℕ) → a < length d.marks → P s d → P s (brought s d a)

-- a live disk of a volume of `size` pages; and one whose current pages are those of a read at now
record Of (size : ℕ) (s : Store) (d : LiveDisk) : Type 0 where
  fit : Fit s d
  size_is : s.head.size ≡ size

record Behind (size : ℕ) (s : Store) (d : LiveDisk) : Type 0 where
  of : Of size s d
  faithful : Faithful s d

of_keeping : (size : ℕ) → Keeping (Of size)
of_keeping size =
    record {
      fits = λ s d x. x.fit;
      requests = λ s d q w x. record { fit = fit_step s d q x.fit w; size_is = step_size s q x.fit.sound w ∙ x.size_is };
      pages = λ s d a i x. record { fit = fit_brought s d x.fit a (omega (arith, i, x.fit.sized.marks)); size_is = x.size_is };
    }

behind_keeping : (size : ℕ) → Keeping (Behind size)
behind_keeping size =
    let k : Keeping (Of size) = of_keeping size in
    record {
      fits = λ s d x. x.of.fit;
      requests = λ s d q w x. record { of = k.requests s d q w x.of; faithful = faithful_step s d q x.of.fit w x.faithful };
      pages = λ s d a i x.
          record {
            of = k.pages s d a i x.of;
            faithful = faithful_brought s d x.of.fit a (omega (arith, i, x.of.fit.sized.marks)) x.faithful;
          };
    }

-- a batch and a step where the checks pass
pub batch_is : (l : Live) (input : List ℕ) (space : ℕ) → live_check l ≡ 0
    → live_batch l input space ≡ record { run = batch l.store input space; disk = played l.disk (batch l.store input space).log }
unfolding live_batch
batch_is l input space c = rw c

pub live_refused : (l : Live) (input : List ℕ) (space : ℕ) → (live_check l ≡ 0 → ⊥) → live_batch l input space ≡ record { run = ended l.store (live_check l); disk = l.disk }
unfolding live_batch
live_refused l input space ne = rw (ne_eqb (live_check l) 0 ne)

-- with a live disk of its volume, the store's own batch
module _ (l : Live) (z : Sized l.store.head.size l.disk) where
  sized_check : live_check l ≡ table_check l.store
  unfolding live_check
  sized_check =
      case (eqb (table_check l.store) 0)
      (λ c. rw (c, sized_checks _ l.disk z) (sym (eqb-true (table_check l.store) 0 c)))
      (λ c. rw c)

  pub sized_run : (input : List ℕ) (space : ℕ) → (live_batch l input space).run ≡ batch l.store input space
  unfolding live_batch
  sized_run input space =
      rw sized_check
      (case (eqb (table_check l.store) 0)
      (λ c. rw c)
      (λ c. rw c (sym (batch_refused l.store input space (table_check l.store) refl (eqb-false (table_check l.store) 0 c)))))

step_is : (l : Live) (n : ℕ) → live_check l ≡ 0
    → copy_step l n ≡ record { report = record { refusal = 0; count = length (take n (stale l.disk)) }; disk = brought_all l.store l.disk (take n (stale l.disk)) }
unfolding copy_step
step_is l n c = rw c

module _ (P : Store → LiveDisk → Type 0) (k : Keeping P) where
  call_keeps : (l : Live) (c : Call) → on P l → on P (after_call l c)
  unfolding after_call
  call_keeps l (batched input space) p =
      let c : live_check l ≡ 0 = fit_checks l (k.fits l.store l.disk p) in
      subst⁻¹ (λ (x : LiveRun). P x.run.store x.disk) (batch_is l input space c)
      (batch_keeps P k.requests l.store l.disk input space (checks_two l c).0 p)
  call_keeps l (read_live a) p = p
  call_keeps l (copied n) p =
      let c : live_check l ≡ 0 = fit_checks l (k.fits l.store l.disk p) in
      subst⁻¹ (λ (x : CopyLeft). P l.store x.disk) (step_is l n c) (copied_keeps l.store (P l.store) n (k.pages l.store) l.disk p)

  calls_keep : (l : Live) (cs : List Call) → on P l → on P (after_calls l cs)
  unfolding after_calls
  calls_keep l [] p = p
  calls_keep l (c ∷ cs) p = calls_keep (after_call l c) cs (call_keeps l c p)

-- a live read of a live disk that is behind its store
read_now_lem : (s : Store) → Sound s → (a : ℕ) → a < s.head.size → read_now s a ≡ page_now s a
unfolding step do_read page_now
read_now_lem s h a i = rw (lt-ltb a s.head.size i, readable_above s.head.floor (moments (names s)) s.head.now h.sizes.floor_now, le-ltb s.head.now s.head.now (omega arith))

stored_part : (s : Store) (bytes : List ℕ) (o : Option Record) (a : ℕ) → found_now s a ≡ o → part_at (stored_at o) bytes s.slab ≡ page_now s a
unfolding page_now page_at
stored_part s bytes none a e = rw e
stored_part s bytes (some r) a e = rw e

spot_part : (l : Live) → on Faithful l → (a : ℕ) → a < l.store.head.size → part_at (spot_of l a) l.disk.bytes l.store.slab ≡ page_now l.store a
unfolding spot_of page_at
spot_part l h a i =
    case (is_current (mark_of l.disk a))
    (λ c.
    case (is_blank (mark_of l.disk a))
    (λ b. rw (c, b) (rw b at (h a i c)))
    (λ b. rw (c, b) (rw b at (h a i c))))
    (λ c. rw c (stored_part l.store l.disk.bytes (found_now l.store a) a refl))

handed_right : (size : ℕ) (l : Live) → on (Behind size) l → (a : ℕ) → a < size → ((live_read l a).refusal ≡ 0) × (handed l a ≡ read_now l.store a)
unfolding handed live_read
handed_right size l b a i =
    let j : a < l.store.head.size = omega (arith, i, b.of.size_is) in
    let c : live_check l ≡ 0 = fit_checks l b.of.fit in
    (rw (c, lt-ltb a l.store.head.size j), rw (c, lt-ltb a l.store.head.size j) (spot_part l b.faithful a j ∙ sym (read_now_lem l.store b.of.fit.sound a j)))

stale_faithful : (s : Store) (d : LiveDisk) → Fit s d → AllStale d → Faithful s d
stale_faithful s d f h a i c = absurd (false≢true (sym (h a (omega (arith, f.sized.marks))) ∙ c))

reads : (l : Live) → live_check l ≡ 0 → l.store.head.now ≤ open_end → AllStale l.disk → (cs : List Call) (a : ℕ) → a < l.store.head.size
    → ((live_read (after_calls l cs) a).refusal ≡ 0) × (handed (after_calls l cs) a ≡ read_now (after_calls l cs).store a)
reads l c n h cs a i =
    let f : on Fit l = checks_fit l n c in
    let b : on (Behind l.store.head.size) l = record { of = record { fit = f; size_is = refl }; faithful = stale_faithful l.store l.disk f h } in
    handed_right l.store.head.size (after_calls l cs) (calls_keep (Behind l.store.head.size) (behind_keeping l.store.head.size) l cs b) a i

of_after : (l : Live) → live_check l ≡ 0 → l.store.head.now ≤ open_end → (cs : List Call) → on (Of l.store.head.size) (after_calls l cs)
of_after l c n cs = calls_keep (Of l.store.head.size) (of_keeping l.store.head.size) l cs (record { fit = checks_fit l n c; size_is = refl })

served : (l : Live) → live_check l ≡ 0 → l.store.head.now ≤ open_end → (cs : List Call) → live_check (after_calls l cs) ≡ 0
served l c n cs = fit_checks (after_calls l cs) (of_after l c n cs).fit

-- refusals
outside : (l : Live) (a : ℕ) → live_check l ≡ 0 → l.store.head.size ≤ a → (live_read l a).refusal ≡ 4
unfolding live_read
outside l a c i = rw (c, le-ltb a l.store.head.size i)

refused_read_lem : (l : Live) (a : ℕ) → ((live_read l a).refusal ≡ 0 → ⊥) → ((live_read l a).spot ≡ Nowhere) × (handed l a ≡ [])
unfolding handed live_read
refused_read_lem l a ne =
    case (eqb (live_check l) 0)
    (λ e. case (ltb a l.store.head.size) (λ c. absurd (ne (rw (e, c)))) (λ c. (rw (e, c), rw (e, c))))
    (λ e. (rw e, rw e))

refused_step_lem : (l : Live) (n : ℕ) → ((copy_step l n).report.refusal ≡ 0 → ⊥) → ((copy_step l n).report.count ≡ 0) × ((copy_step l n).disk ≡ l.disk)
unfolding copy_step
refused_step_lem l n ne = case (eqb (live_check l) 0) (λ e. absurd (ne (rw e))) (λ e. (rw e, rw e))

-- a step that is not refused
step_checked : (l : Live) (n : ℕ) → (copy_step l n).report.refusal ≡ 0 → live_check l ≡ 0
unfolding copy_step
step_checked l n h = case (eqb (live_check l) 0) (λ e. eqb-true _ _ e) (λ e. rw e at h)

drop_min : (n : ℕ) (xs : List ℕ) → drop n xs ≡ drop (length (take n xs)) xs
drop_min zero xs = refl
drop_min (suc n) [] = refl
drop_min (suc n) (x ∷ xs) = drop_min n xs

advances : (l : Live) (n : ℕ) → (copy_step l n).report.refusal ≡ 0 → Advances l.disk n (copy_step l n)
advances l n h =
    let left : stale (brought_all l.store l.disk (take n (stale l.disk))) ≡ drop n (stale l.disk) = copied_left l.store n l.disk in
    subst⁻¹ (λ (x : CopyLeft). Advances l.disk n x) (step_is l n (step_checked l n h))
    (record {
      smaller = length-take n (stale l.disk);
      left = left ∙ drop_min n (stale l.disk);
      turned = omega (arith, ap length left, length-take n (stale l.disk), length-drop n (stale l.disk));
    })

-- what is left stale: a step takes its budget off, and no request adds to it but a revert
abbrev left : Live → ℕ
left l = length (stale l.disk)

unfoldable total : List ℕ → ℕ
total [] = 0
total (n ∷ ns) = n + total ns

call_left : (l : Live) (c : Call) → on Fit l → reverts_in l c ≡ false → left (after_call l c) ≤ left l - total (budgets (c ∷ []))
unfolding after_call budgets total
call_left l (batched input space) f h =
    let c : live_check l ≡ 0 = fit_checks l f in
    let b : any reverts (batch l.store input space).log ≡ false = sym (ap (λ (x : LiveRun). any reverts x.run.log) (batch_is l input space c)) ∙ h in
    subst⁻¹ (λ (x : LiveRun). length (stale x.disk) ≤ left l - 0) (batch_is l input space c)
    (omega (arith, played_stale l.disk (batch l.store input space).log b))
call_left l (read_live a) f h = omega arith
call_left l (copied n) f h =
    subst⁻¹ (λ (x : CopyLeft). length (stale x.disk) ≤ left l - (n + 0)) (step_is l n (fit_checks l f))
    (omega (arith, ap length (copied_left l.store n l.disk), length-drop n (stale l.disk)))

budgets_first : (c : Call) (cs : List Call) → total (budgets (c ∷ cs)) ≡ total (budgets (c ∷ [])) + total (budgets cs)
unfolding budgets total
budgets_first (batched input space) cs = omega arith
budgets_first (read_live a) cs = omega arith
budgets_first (copied n) cs = omega arith

calls_left : (size : ℕ) (l : Live) (cs : List Call) → on (Of size) l → NoRevert l cs → left (after_calls l cs) ≤ left l - total (budgets cs)
unfolding after_calls
calls_left size l [] z h = unfold budgets total in omega arith
calls_left size l (c ∷ cs) z h =
    omega (arith, call_left l c z.fit h.0, budgets_first c cs, calls_left size (after_call l c) cs (call_keeps (Of size) (of_keeping size) l c z) h.1)

-- budgets of at least n together
total_least : (n : ℕ) (ms : List ℕ) → ((m : ℕ) → m ∈ ms → n ≤ m) → length ms * n ≤ total ms
unfolding total
total_least n [] h = omega arith
total_least n (m ∷ ms) h = omega (arith, h m (inl refl), total_least n ms (λ k i. h k (inr i)), suc-mul (length ms) n)

-- A divided by n, rounded up, is at most k: so A is at most k × n
rounded : (size n k : ℕ) → 1 ≤ n → (size + (n - 1)) / n ≤ k → size ≤ k * n
rounded size n k l h =
    let g : size + (n - 1) < suc k * n = (div-lt_iff_lt-mul {k = n} l).0 (omega arith) in
    omega (arith, g, suc-mul k n)

none_left : (xs : List ℕ) → length xs ≤ 0 → xs ≡ []
none_left [] h = refl
none_left (x ∷ xs) h = absurd (omega (arith, h))

ends : (l : Live) → live_check l ≡ 0 → l.store.head.now ≤ open_end → (cs : List Call) (n : ℕ) → 1 ≤ n → NoRevert l cs
    → ((m : ℕ) → m ∈ budgets cs → n ≤ m) → (l.store.head.size + (n - 1)) / n ≤ length (budgets cs) → stale (after_calls l cs).disk ≡ []
ends l c h cs n i nr least r =
    let f : on Fit l = checks_fit l h c in
    none_left (stale (after_calls l cs).disk)
    (omega (
      arith,
      calls_left l.store.head.size l cs (record { fit = f; size_is = refl }) nr,
      total_least n (budgets cs) least,
      rounded l.store.head.size n (length (budgets cs)) i r,
      stale_count 0 l.disk.marks,
      f.sized.marks,
    ))

pub live_demand : LiveDemand
live_demand =
    record {
      reads = reads;
      served = served;
      outside = outside;
      refused_read = refused_read_lem;
      refused_step = refused_step_lem;
      advances = advances;
      ends = ends;
    }
