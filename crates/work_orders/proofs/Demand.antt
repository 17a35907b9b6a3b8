-- What requests do to the lists of work orders.
use Prim.Native.Nat.{ℕ, ◌+◌, ◌-◌, ◌*◌, ◌≤◌, ◌<◌}
use mathlib.Core.Path.{◌≡◌, refl, sym, ap, subst, ◌∙◌}
use mathlib.Core.List.{List, [], ◌∷◌, ◌++◌, map}
use mathlib.Core.Option.{Option, some, none}
use mathlib.Core.Bool.{true, false≢true}
use native.Mathlib.Omega.{arith}
use lib.Dec.{leb, ltb, eqb}
use lib.ListN.{length, drop, length-append, length-drop}
use lib.Seq.{drop_at}
use borrow.Author.Tests.{ltb-true, ltb-false, le-ltb}
use Rattle.model.specs.declared.Branch.{Branch}
use Rattle.model.specs.declared.Record.{Record}
use Rattle.model.specs.Store.{Store, newest, branches, names, keep, open_end}
use Rattle.model.specs.Lookup.{readable, readable_from}
use Rattle.model.specs.Wire.{Request, write, mark, revert, read_at, reclaim, give, withdraw}
use Rattle.model.specs.Step.{Stepped, standing, first_free, into_free, inserted, written, do_write, do_mark, branched, do_revert, do_read, do_reclaim, landing, with_cut, closed_at, reclaimed, step}
use Rattle.model.specs.ByNumber.{Sizes, Sound, Open}
use Rattle.model.proofs.Base.{case, both}
use Rattle.model.proofs.Ancestry.{→holds, not_holds, chain_of}
use Rattle.model.proofs.Settling.{landing_stays, left_rows}
use Rattle.model.proofs.Checked.{check_sound}
use Rattle.model.proofs.Moves.{readable_held, begun, Branching, branching, Taken, revert_taken}
use Rattle.model.proofs.Naming.{give_cases, withdraw_cases}
use Rattle.model.proofs.Reclaiming.{is_left, after, reclaim_accepted, lower, first, readable_row, chain, newest_after}
use Rattle.work_orders.specs.Orders.{way, way_in, work_orders, orders_in, order_bytes, list_refusal, listing}
use Rattle.work_orders.specs.Demand.{leaves_branches, Passes, CanRead, Accepted, next, remains, orders_of, Given, OrderDemand}
use Rattle.work_orders.proofs.Way.{way_hold, way_skip, way_closed, open_way, orders_end, way_rows}
use Rattle.work_orders.proofs.Written.{length_orders, order_read, orders_small}

pub sound : (s : Store) → Passes s → Sound s
sound s p = check_sound s p.bits p.checked

-- the counted branches stay
abbrev Still : Store → Stepped → Type 0
Still s st = newest st.store ≡ newest s

pub branches_stay : (s : Store) (q : Request) → leaves_branches q ≡ true → Still s (step s q)
unfolding step do_write do_mark do_read inserted newest branches
branches_stay s (write a page) e = both (Still s) (ltb a s.head.size) (by_standing (standing s a)) refl
  where
    free : (o : Option ℕ) → Still s (into_free s a page o)
    free none = refl
    free (some p) = refl

    by_standing : (o : Option Record) → Still s (written s a page o)
    by_standing (some r) = refl
    by_standing none = both (Still s) (ltb s.head.records (length s.record_rows)) (free (first_free s.place_rows)) refl
branches_stay s mark e = both (Still s) (ltb s.head.now open_end) refl refl
branches_stay s (revert m w) e = absurd (false≢true e)
branches_stay s (read_at a m) e =
    both (Still s) (ltb a s.head.size) (both (Still s) (readable s m) (both (Still s) (ltb s.head.now m) refl refl) refl) refl
branches_stay s (reclaim m) e = absurd (false≢true e)
branches_stay s (give n) e = give_cases (Still s) s n (λ k i j. refl) (λ g. refl)
branches_stay s (withdraw high low) e = withdraw_cases (Still s) s high low (λ f. refl) (λ n f. refl)

-- an accepted revert: the rows before and after it
module _ (s : Store) (m w : ℕ) (h : Sound s) (k : Taken s m w) where
  pub forks : Branching s m w
  forks =
      let z : Sizes s = h.sizes in
      branching s m w (s.head.branches - 1) (omega (arith, z.counted_low)) refl (omega (arith, k.room, z.counted_low))

  opened : Open s.head.now forks.row
  opened = (rw forks.was at h.rows).0

  pub store_is : (step s (revert m w)).store ≡ branched s m w
  unfolding step
  store_is = ap (λ (x : Stepped). x.store) (sym k.stepped)

  pub now_is : (step s (revert m w)).store.head.now ≡ s.head.now + 1
  unfolding branched
  now_is = ap (λ (x : Store). x.head.now) store_is

  -- of each branch on the way, what another end does not change: the new branch, and then the way of m
  pub way_begins : {A : Type 0} (f : Branch → A) → ((b : Branch) → f (closed_at s.head.now b) ≡ f b)
      → map f (way (branched s m w) (s.head.now + 1)) ≡ f (begun s.head.now m w) ∷ map f (way s m)
  way_begins {A} f g =
      let b : Branch = begun s.head.now m w in
      let o : Open s.head.now forks.row = opened in
      rw (forks.is, forks.was, way_hold b (closed_at s.head.now forks.row ∷ forks.earlier) (s.head.now + 1) (→holds b (s.head.now + 1) (omega arith) (omega (arith, k.later))))
      (ap (λ (x : List A). f b ∷ x) (way_closed f forks.row forks.earlier s.head.now m (g forks.row) (omega (arith, k.sealed)) (omega (arith, o.still, k.later))))

  pub way_before : {A : Type 0} (f : Branch → A) → ((b : Branch) → f (closed_at s.head.now b) ≡ f b) → (t : ℕ) → t ≤ s.head.now
      → map f (way (branched s m w) t) ≡ map f (way s t)
  way_before f g t l =
      let b : Branch = begun s.head.now m w in
      let o : Open s.head.now forks.row = opened in
      rw (forks.is, forks.was, way_skip b (closed_at s.head.now forks.row ∷ forks.earlier) t (not_holds b t (omega arith)))
      (way_closed f forks.row forks.earlier s.head.now t (g forks.row) l (omega (arith, o.still, k.later)))

first_row : (s : Store) (t : ℕ) → Passes s → CanRead s t → (ws : List ℕ) × (work_orders s t ≡ ws ++ (0 ∷ []))
first_row s t p c =
    let h : Sound s = sound s p in
    orders_end s.head.floor (newest s) t (chain_of _ _ (newest s) h.rows) (readable_held s h t c.low c.high)

begins : (s : Store) (m w : ℕ) → Passes s → Accepted s (revert m w)
    → work_orders (next s (revert m w)) (next s (revert m w)).head.now ≡ w ∷ work_orders s m
unfolding step orders_in
begins s m w p a =
    let h : Sound s = sound s p in
    let k : Taken s m w = revert_taken s m w a in
    rw (now_is s m w h k, store_is s m w h k) (way_begins s m w h k (λ b. b.order) (λ b. refl))

before : (s : Store) (m w t : ℕ) → Passes s → Accepted s (revert m w) → t ≤ s.head.now → work_orders (next s (revert m w)) t ≡ work_orders s t
unfolding step orders_in
before s m w t p a l =
    let h : Sound s = sound s p in
    let k : Taken s m w = revert_taken s m w a in
    rw (store_is s m w h k) (way_before s m w h k (λ b. b.order) (λ b. refl) t l)

same : (s : Store) (q : Request) (t : ℕ) → leaves_branches q ≡ true → work_orders (next s q) t ≡ work_orders s t
same s q t e = ap (λ (bs : List Branch). orders_in bs t) (branches_stay s q e)

-- a refused request alters nothing
abbrev Refused : Store → Stepped → Type 0
Refused s st = (st.answer.refusal ≡ 0 → ⊥) → st.store ≡ s

pub refused_still : (s : Store) (q : Request) → Refused s (step s q)
unfolding step do_write do_mark do_revert do_read do_reclaim
refused_still s (write a page) = both (Refused s) (ltb a s.head.size) (by_standing (standing s a)) (λ n. refl)
  where
    free : (o : Option ℕ) → Refused s (into_free s a page o)
    free none n = refl
    free (some p) n = absurd (n refl)

    by_standing : (o : Option Record) → Refused s (written s a page o)
    by_standing (some r) = λ n. absurd (n refl)
    by_standing none = both (Refused s) (ltb s.head.records (length s.record_rows)) (free (first_free s.place_rows)) (λ n. refl)
refused_still s mark = both (Refused s) (ltb s.head.now open_end) (λ n. absurd (n refl)) (λ n. refl)
refused_still s (revert m w) =
    both (Refused s) (readable s m)
    (both (Refused s) (leb s.head.now m) (λ n. refl)
    (both (Refused s) (leb open_end s.head.now) (λ n. refl)
    (both (Refused s) (leb (length s.branch_rows) s.head.branches) (λ n. refl) (λ n. absurd (n refl))))) (λ n. refl)
refused_still s (read_at a m) =
    both (Refused s) (ltb a s.head.size) (both (Refused s) (readable s m) (both (Refused s) (ltb s.head.now m) (λ n. refl) (λ n. refl)) (λ n. refl)) (λ n. refl)
refused_still s (reclaim m) = both (Refused s) (ltb m s.head.floor) (λ n. refl) (both (Refused s) (ltb s.head.now m) (λ n. refl) (λ n. absurd (n refl)))
refused_still s (give n) = give_cases (Refused s) s n (λ k i j x. refl) (λ g x. absurd (x refl))
refused_still s (withdraw high low) = withdraw_cases (Refused s) s high low (λ f x. refl) (λ n f x. absurd (x refl))

refused : (s : Store) (q : Request) (t : ℕ) → (Accepted s q → ⊥) → work_orders (next s q) t ≡ work_orders s t
refused s q t n = ap (λ (x : Store). work_orders x t) (refused_still s q n)

-- an accepted mark
pub mark_now : (s : Store) → Accepted s mark → ((next s mark).head.now ≡ s.head.now + 1) × (s.head.now < open_end)
unfolding step do_mark
mark_now s a =
    case (ltb s.head.now open_end)
    (λ e. (rw (e, next), ltb-true _ _ e))
    (λ e. let z : 10 ≡ 0 = rw e at a in absurd (omega (arith, z)))

marked : (s : Store) → Passes s → Accepted s mark → work_orders (next s mark) (next s mark).head.now ≡ work_orders s s.head.now
unfolding orders_in
marked s p a =
    let h : Sound s = sound s p in
    let g : ((next s mark).head.now ≡ s.head.now + 1) × (s.head.now < open_end) = mark_now s a in
    rw g.0 (same s mark (s.head.now + 1) refl ∙ ap orders_of (open_way _ _ (newest s) (s.head.now + 1) h.rows (omega arith) (omega (arith, g.1))))

-- an accepted reclaim
pub record Lifted (s : Store) (m : ℕ) : Type 0 where
  pub low : s.head.floor ≤ m
  pub high : m ≤ s.head.now

pub reclaim_lifted : (s : Store) (m : ℕ) → Accepted s (reclaim m) → Lifted s m
unfolding step do_reclaim
reclaim_lifted s m a =
    case (ltb m s.head.floor)
    (λ e. let z : 8 ≡ 0 = rw e at a in absurd (omega (arith, z)))
    (λ e.
    case (ltb s.head.now m)
    (λ f. let z : 9 ≡ 0 = rw (e, f) at a in absurd (omega (arith, z)))
    (λ f. record { low = ltb-false _ _ e; high = ltb-false _ _ f }))

pub lifted_is : (s : Store) (m : ℕ) → Lifted s m → next s (reclaim m) ≡ after s m
lifted_is s m l = ap (λ (x : Stepped). x.store) (reclaim_accepted s m l.low l.high)

-- what can be read after it
pub read_after : (s : Store) (m t : ℕ) → CanRead (after s m) t → (readable_from s m t ≡ true) × (t ≤ s.head.now)
unfolding reclaimed names
read_after s m t c = (c.low, c.high)

-- of each branch on the way, what another cut does not change
pub way_after : {A : Type 0} (f : Branch → A) → ((b : Branch) (t : ℕ) → f (with_cut b t) ≡ f b) → (s : Store) (m t : ℕ) → Sound s → Lifted s m
    → CanRead (after s m) t → map f (way (after s m) t) ≡ map f (keep (remains s m) (way s t))
way_after f g s m t h l c =
    let r : (readable_from s m t ≡ true) × (t ≤ s.head.now) = read_after s m t c in
    let u : s.head.floor ≤ m = l.low in
    let v : m ≤ s.head.now = l.high in
    let e : landing (is_left s m) (newest s) t ≡ t = landing_stays (is_left s m) (newest s) t (λ b _ i. readable_row s m h u v b t r.0 i) in
    let w = way_rows f g (is_left s m) s.head.floor (first s m h u v) (newest s) t (chain s m h u v) (readable_held s h t (lower s m h u v t r.0) r.1) in
    rw (newest_after s m h u v) (ap (λ (x : ℕ). map f (way_in (left_rows (is_left s m) (newest s)) x)) (sym e) ∙ w)

reclaims : (s : Store) (m t : ℕ) → Passes s → Accepted s (reclaim m) → CanRead (next s (reclaim m)) t
    → work_orders (next s (reclaim m)) t ≡ orders_of (keep (remains s m) (way s t))
unfolding orders_in
reclaims s m t p a c =
    let l : Lifted s m = reclaim_lifted s m a in
    rw (lifted_is s m l) (way_after (λ b. b.order) (λ b u. refl) s m t (sound s p) l (subst (λ (x : Store). CanRead x t) (lifted_is s m l) c))

given : (s : Store) (t : ℕ) (area : List ℕ) → Passes s → CanRead s t → 2 * length (work_orders s t) ≤ length area
    → Given (work_orders s t) area (listing s t area)
unfolding listing list_refusal
given s t area p c l =
    let h : Sound s = sound s p in
    let ws : List ℕ = work_orders s t in
    let rest : List ℕ = drop (2 * length ws) area in
    let small = orders_small s.head.floor (newest s) t (chain_of _ _ (newest s) h.rows) in
    rw (p.checked, c.low, le-ltb s.head.now t c.high, le-ltb (length area) (2 * length ws) l)
    (record {
      refusal = refl;
      count = refl;
      each = λ i j. order_read ws rest i small j;
      past = drop_at (order_bytes ws) rest (2 * length ws) (length_orders ws);
      long = omega (arith, length-append (order_bytes ws) rest, length_orders ws, length-drop (2 * length ws) area);
    })

nothing : (s : Store) (t : ℕ) (area : List ℕ) → ((listing s t area).report.refusal ≡ 0 → ⊥)
    → ((listing s t area).report.count ≡ 0) × ((listing s t area).area ≡ area)
unfolding listing
nothing s t area n =
    case (eqb (list_refusal s t (length area)) 0)
    (λ e. absurd (n (rw e)))
    (λ e. (rw e, rw e))

pub order_demand : OrderDemand
order_demand =
    record { given = given; nothing = nothing; first = first_row; begins = begins; before = before; same = same; refused = refused; marked = marked; reclaims = reclaims }
