-- Change request Four: rows removed one by one, in any order, leave what a reclaim leaves. Rows stand newest first.
use Prim.Native.Nat.{ℕ, ◌≤◌}
use mathlib.Core.Path.{◌≡◌, refl, sym, ap, ◌∙◌}
use mathlib.Core.Logic.{inl, inr}
use mathlib.Core.List.{List, [], ◌∷◌, map, reverse, reverse-reverse}
use mathlib.Core.Bool.{Bool, true, false, cond, not}
use native.Mathlib.Omega.{arith}
use lib.Dec.{eqb}
use borrow.Author.Tests.{eqb-true, eq-eqb, ne_eqb}
use Rattle.model.specs.declared.Branch.{Branch}
use Rattle.model.specs.Store.{Store, branches, newest, names, moments, keep, ◌∈◌}
use Rattle.model.specs.Lookup.{holds, is_given}
use Rattle.model.specs.Step.{Stepped, landing, with_cut}
use Rattle.model.specs.ByNumber.{Chain}
use Rattle.model.specs.Removal.{starting_at, takes_over, removed, removed_all, goes, Distinct, Order, Accepts, AnyOrder}
use Rattle.model.proofs.Base.{case, →and, passes, absurd_test, map_same, map_reverse, keep_reverse, mem_reverse, reverse_mem}
use Rattle.model.proofs.Ancestry.{Holds, holds→, chain_of, Below, earlier_below}
use Rattle.model.proofs.Settling.{Kind, →stays, landing_left, landing_gone, landing_skip, landing_stays, left_rows, row_left, left_map, left_same, left_all, left_twice, chain_left}
use Rattle.model.proofs.Checked.{check_sound}
use Rattle.model.proofs.Reclaiming.{reclaimed_branches, settled_left, given, is_left, reclaim_accepted}

-- all rows but the one that starts at x, and but those that start at one of the moments
abbrev but : ℕ → Branch → Bool
but x b = not (eqb b.start x)

abbrev but_all : List ℕ → Branch → Bool
but_all [] = λ b. true
but_all (x ∷ xs) = passes (but x) (but_all xs)

other : (x : ℕ) (b : Branch) → (b.start ≡ x → ⊥) → but x b ≡ true
other x b n = rw (ne_eqb b.start x n)

-- a row is found by its start
starting : (bs : List Branch) (d : Branch) → d ∈ bs → ((b : Branch) → b ∈ bs → b.start ≡ d.start → b ≡ d) → starting_at bs d.start ≡ d
unfolding starting_at
starting [] d m h = elim m [ ]
starting (b ∷ bs) d m h =
    case (eqb b.start d.start)
    (λ e. rw e (h b (inl refl) (eqb-true b.start d.start e)))
    (λ e. rw e (starting bs d (earlier m e) (λ c i. h c (inr i))))
  where
    earlier : d ∈ (b ∷ bs) → eqb b.start d.start ≡ false → d ∈ bs
    earlier (inl q) e = absurd_test (eq-eqb b.start d.start (rw q refl)) e
    earlier (inr i) e = i

-- rows start at different moments
pub same_start : (floor : ℕ) (bs : List Branch) (b d : Branch) → Chain floor bs → b ∈ bs → d ∈ bs → b.start ≡ d.start → b ≡ d
same_start floor [] b d h _ _ q = elim h [ ]
same_start floor (c ∷ []) b d h (inr m) (inr n) q = elim m [ ]
same_start floor (c ∷ bs) b d h (inl e) (inl f) q = e ∙ sym f
same_start floor (c ∷ bs) b d h (inl e) (inr n) q =
    let z : Below c d = earlier_below floor c bs d h n in
    let y : b.start ≡ c.start = ap (λ (x : Branch). x.start) e in
    absurd (omega arith)
same_start floor (c ∷ bs) b d h (inr m) (inl f) q =
    let z : Below c b = earlier_below floor c bs b h m in
    let y : d.start ≡ c.start = ap (λ (x : Branch). x.start) f in
    absurd (omega arith)
same_start floor (c ∷ e ∷ bs) b d h (inr m) (inr n) q = same_start floor (e ∷ bs) b d h.1 m n q

-- where the row d goes, its cut takes over
module _ (floor : ℕ) (d : Branch) where
  abbrev κ : Branch → Bool
  κ = but d.start

  landing_one : (bs : List Branch) (t : ℕ) → Chain floor bs → d ∈ bs → landing κ bs t ≡ cond (holds d t) d.cut t
  landing_one [] t h _ = elim h [ ]
  landing_one (b ∷ []) t h (inr m) = elim m [ ]
  landing_one (b ∷ bs) t h (inl e) =
      let own : κ b ≡ false = rw (eq-eqb b.start d.start (ap (λ (x : Branch). x.start) (sym e))) in
      let stay : (u : ℕ) → landing κ bs u ≡ u =
      λ u.
      landing_stays κ bs u
      (λ c m _.
      let z : Below d c = rw e (earlier_below floor b bs c h m) in
      other d.start c (λ q. omega arith)) in
      case (holds b t)
      (λ y. landing_gone κ b bs t y own ∙ (stay b.cut ∙ rw (e, y)))
      (λ y. landing_skip κ b bs t y ∙ (stay t ∙ rw (e, y)))
  landing_one (b ∷ c ∷ bs) t h (inr m) =
      let z : Below b d = earlier_below floor b (c ∷ bs) d h m in
      case (holds b t)
      (λ y.
      let i : Holds b t = holds→ b t y in
      let n : holds d t ≡ false = case (holds d t) (λ x. let j : Holds d t = holds→ d t x in absurd (omega arith)) (λ x. x) in
      landing_left κ b (c ∷ bs) t y (other d.start b (λ q. omega arith)) ∙ rw n)
      (λ y. landing_skip κ b (c ∷ bs) t y ∙ landing_one (c ∷ bs) t h.1 m)

  removed_left : (bs : List Branch) → Chain floor bs → d ∈ bs → removed (reverse bs) d.start ≡ reverse (left_rows κ bs)
  unfolding removed
  removed_left bs h m =
      let is : starting_at (reverse bs) d.start ≡ d = starting (reverse bs) d (mem_reverse d bs m) (λ b i q. same_start floor bs b d h (reverse_mem b bs i) m q) in
      let each : map (takes_over d) (keep κ bs) ≡ map (λ b. with_cut b (landing κ bs b.cut)) (keep κ bs) =
      map_same _ _ (keep κ bs) (λ b _. rw (landing_one bs b.cut h m) (case (holds d b.cut) (λ y. rw y) (λ y. rw y))) in
      rw (is, ← keep_reverse κ bs, ← map_reverse (takes_over d) (keep κ bs)) (ap reverse (each ∙ left_map κ floor bs h))

-- a row starts at x, not the first, and ends below m
abbrev Gone : ℕ → List Branch → ℕ → Type 0
Gone m bs x = (b : Branch) × (b ∈ bs) × (b.start ≡ x) × (x ≡ 0 → ⊥) × (m ≤ b.end → ⊥)

-- rows removed one by one, the first row and those that end at or above m not among them
one_by_one : (floor m : ℕ) → floor ≤ m → (bs : List Branch) (xs : List ℕ) → Chain floor bs → Distinct xs → ((x : ℕ) → x ∈ xs → Gone m bs x)
    → removed_all (reverse bs) xs ≡ reverse (left_rows (but_all xs) bs)
unfolding removed_all
one_by_one floor m l bs [] h u g = ap reverse (sym (left_all bs))
one_by_one floor m l bs (x ∷ xs) h u g =
    let y : Gone m bs x = g x (inl refl) in
    let late : (b : Branch) → b ∈ bs → m ≤ b.end → but x b ≡ true =
    λ b i j. other x b (λ q. y.4 (rw (same_start floor bs b y.0 h i y.1 (q ∙ sym y.2)) at j)) in
    let chain : Chain m (left_rows (but x) bs) = chain_left (but x) floor (λ b e. other x b (λ q. y.3 (sym q ∙ e))) m l bs late h in
    let rest : (z : ℕ) → z ∈ xs → Gone m (left_rows (but x) bs) z =
    λ z i.
    let w : Gone m bs z = g z (inr i) in
    let c : (t : ℕ) × (with_cut w.0 t ∈ left_rows (but x) bs) = row_left (but x) bs w.0 w.1 (other x w.0 (λ q. u.0 (rw (sym q ∙ w.2) i))) in
    (with_cut w.0 c.0, c.1, w.2, w.3, w.4) in
    ap (λ (r : List Branch). removed_all r xs) (rw y.2 at (removed_left floor y.0 bs h y.1))
    ∙ (one_by_one m m (omega arith) (left_rows (but x) bs) xs chain u.1 rest ∙ ap reverse (left_twice (but x) (but_all xs) (plain xs) floor bs h))
  where
    plain : (xs : List ℕ) (b : Branch) (t : ℕ) → but_all xs (with_cut b t) ≡ but_all xs b
    plain [] b t = refl
    plain (x ∷ xs) b t = rw (plain xs b t)

absent : (xs : List ℕ) (b : Branch) → (b.start ∈ xs → ⊥) → but_all xs b ≡ true
absent [] b n = refl
absent (x ∷ xs) b n = →and (other x b (λ q. n (inl q))) (absent xs b (λ i. n (inr i)))

present : (xs : List ℕ) (b : Branch) → b.start ∈ xs → but_all xs b ≡ false
present [] b x' = elim x' [ ]
present (x ∷ xs) b (inl e) = rw (eq-eqb b.start x e)
present (x ∷ xs) b (inr i) = case (but x b) (λ e. rw (e, present xs b i)) (λ e. rw e)

module _ (s : Store) (m : ℕ) (xs : List ℕ) (a : Accepts s m) (o : Order s m xs) where
  chain : Chain s.head.floor (newest s)
  chain = chain_of _ _ (newest s) (check_sound s a.bits a.checked).rows

  -- each of the moments is the start of a row that goes
  gone : (x : ℕ) → x ∈ xs → (b : Branch) × (b ∈ newest s) × (b.start ≡ x) × (is_left s m b ≡ false)
  unfolding newest
  gone x i =
      let g : (b : Branch) × (b ∈ branches s) × (b.start ≡ x) × (goes s m b ≡ true) = o.gone x i in
      (g.0, mem_reverse g.0 (branches s) g.1, g.2, case (is_left s m g.0) (λ e. absurd_test g.3 (rw e)) (λ e. e))

  -- so just the other rows are left
  same : (b : Branch) → b ∈ newest s → is_left s m b ≡ but_all xs b
  unfolding newest
  same b i =
      case (is_left s m b)
      (λ e.
      e ∙ sym (absent xs b
      (λ j.
      let g : (d : Branch) × (d ∈ newest s) × (d.start ≡ b.start) × (is_left s m d ≡ false) = gone b.start j in
      absurd_test e (rw (same_start _ (newest s) g.0 b chain g.1 i g.2) at g.3))))
      (λ e. e ∙ sym (present xs b (o.all b (reverse_mem b (branches s) i) (rw e))))

  one_by_one_left : removed_all (branches s) xs ≡ reverse (left_rows (but_all xs) (newest s))
  unfolding newest
  one_by_one_left =
      rw (reverse-reverse (branches s)) at
      (one_by_one _ m a.low (newest s) xs chain o.once
      (λ x i.
      let g : (b : Branch) × (b ∈ newest s) × (b.start ≡ x) × (is_left s m b ≡ false) = gone x i in
      let stay : Kind m (moments (names s)) (given s m) g.0 → ⊥ = λ k. absurd_test (→stays m (moments (names s)) (given s m) g.0 k) g.3 in
      (g.0, g.1, g.2, λ z. stay (inl (g.2 ∙ z)), λ l. stay (inr (inl l)))))

pub any_order : AnyOrder
any_order s m xs a o =
    ap (λ (x : Stepped). branches x.store) (reclaim_accepted s m a.low a.high)
    ∙ (reclaimed_branches s m (is_given s m) (is_left s m)
    ∙ (settled_left (is_left s m) s _ (chain s m xs a o)
    ∙ (ap reverse (left_same (is_left s m) (but_all xs) (newest s) (same s m xs a o)) ∙ sym (one_by_one_left s m xs a o))))
