-- Laws of place rows: each counted record's place row names it, and the rows in use number the records.
use Prim.Native.Nat.{ℕ, zero, suc, ◌+◌, ◌≤◌, ◌<◌}
use mathlib.Core.Path.{◌≡◌, refl, sym, ap, ◌∙◌}
use mathlib.Core.Logic.{inl, inr, ◌≢◌}
use mathlib.Core.List.{List, [], ◌∷◌, ◌++◌, map, append_assoc}
use mathlib.Core.Option.{some, none}
use mathlib.Core.Bool.{Bool, true, false, cond}
use native.Mathlib.Omega.{arith}
use lib.Dec.{leb, eqb-suc-zero}
use lib.ListN.{length, get_or, set, take, length-append, length-set, length-map}
use lib.Seq.{get_or-set_same, get_or-set_other, get_or-append_seam, take-append_seam}
use borrow.Author.Tests.{le-leb, lt-leb}
use Rattle.model.specs.declared.Record.{Record}
use Rattle.model.specs.Store.{keep, zero_record, ◌∈◌}
use Rattle.model.specs.Soundness.{used, in_use}
use Rattle.model.specs.Step.{first_free, shifted, renumbered}
use Rattle.model.specs.ByNumber.{Named}
use Rattle.model.specs.Packed.{SmallestFree}
use Rattle.model.proofs.Base.{case, absurd_test, keep_true, keep_false, keep_append}
use Rattle.model.proofs.Latest.{case_option}

pub get_d_map_lt : (f : ℕ → ℕ) (l : List ℕ) (n : ℕ) → n < length l → get_or (map f l) n 0 ≡ f (get_or l n 0)
get_d_map_lt f [] n h = absurd (omega arith)
get_d_map_lt f (x ∷ l) zero h = refl
get_d_map_lt f (x ∷ l) (suc n) h = get_d_map_lt f l n (omega arith)

-- how many pass a test
abbrev pub count : {A : Type 0} → (A → Bool) → List A → ℕ
count f xs = length (keep f xs)

abbrev pub one : Bool → ℕ
one b = cond b 1 0

module _ {A : Type 0} where
  pub count_cons : (f : A → Bool) (x : A) (xs : List A) → count f (x ∷ xs) ≡ one (f x) + count f xs
  count_cons f x xs = case (f x) (λ e. rw (keep_true f x xs e, e) (omega arith)) (λ e. rw (keep_false f x xs e, e) (omega arith))

  pub count_le : (f g : A → Bool) (xs : List A) → ((x : A) → f x ≡ true → g x ≡ true) → count f xs ≤ count g xs
  unfolding keep
  count_le f g [] h = omega arith
  count_le f g (x ∷ xs) h =
      let ih : count f xs ≤ count g xs = count_le f g xs h in
      case (f x)
      (λ e. rw (e, h x e) (omega arith))
      (λ e. rw e (case (g x) (λ d. rw d (omega arith)) (λ d. rw d ih)))

  pub count_all : (xs : List A) → count (λ x. true) xs ≡ length xs
  unfolding keep
  count_all [] = refl
  count_all (x ∷ xs) = ap suc (count_all xs)

pub count_map : {A B : Type 0} (f : B → Bool) (h : A → B) (xs : List A) → count f (map h xs) ≡ count (λ x. f (h x)) xs
unfolding keep
count_map f h [] = refl
count_map f h (x ∷ xs) =
    let ih : count f (map h xs) ≡ count (λ y. f (h y)) xs = count_map f h xs in
    case (f (h x)) (λ e. rw (e, ih)) (λ e. rw (e, ih))

pub count_same : {A : Type 0} (f g : A → Bool) (xs : List A) → ((x : A) → f x ≡ g x) → count f xs ≡ count g xs
unfolding keep
count_same f g [] h = refl
count_same f g (x ∷ xs) h = rw (h x) (case (g x) (λ e. rw (e, count_same f g xs h)) (λ e. rw (e, count_same f g xs h)))

-- one row changed
pub count_set : (f : ℕ → Bool) (ps : List ℕ) (p v : ℕ) → p < length ps → count f (set ps p v) + one (f (get_or ps p 0)) ≡ count f ps + one (f v)
count_set f [] p v h = absurd (omega arith)
count_set f (x ∷ ps) zero v h = omega (arith, count_cons f x ps, count_cons f v ps)
count_set f (x ∷ ps) (suc p) v h =
    let ih : count f (set ps p v) + one (f (get_or ps p 0)) ≡ count f ps + one (f v) = count_set f ps p v (omega arith) in
    omega (arith, count_cons f x ps, count_cons f x (set ps p v))

pub named_mem : (ps : List ℕ) (i : ℕ) (rs : List Record) (r : Record) → Named ps i rs → r ∈ rs
    → (r.place < length ps) × (i ≤ get_or ps r.place 0)
named_mem ps i [] r n x'' = elim x'' [ ]
named_mem ps i (x ∷ rs) r n (inl e) = let l : get_or ps x.place 0 ≡ i = n.1 in rw e (n.0, omega arith)
named_mem ps i (x ∷ rs) r n (inr m) =
    let ih : (r.place < length ps) × (suc i ≤ get_or ps r.place 0) = named_mem ps (suc i) rs r n.2 m in
    (ih.0, omega arith)

-- a place is of one record
pub place_unique : (ps : List ℕ) (i : ℕ) (rs : List Record) (q r : Record) → Named ps i rs → q ∈ rs → r ∈ rs → q.place ≡ r.place → q ≡ r
place_unique ps i [] q r n x4 _ p = elim x4 [ ]
place_unique ps i (x ∷ rs) q r n (inl e) (inl d) p = e ∙ sym d
place_unique ps i (x ∷ rs) q r n (inl e) (inr m) p =
    let k : (r.place < length ps) × (suc i ≤ get_or ps r.place 0) = named_mem ps (suc i) rs r n.2 m in
    let l : get_or ps q.place 0 ≡ i = rw e n.1 in
    let l' : get_or ps r.place 0 ≡ i = rw p at l in
    absurd (omega arith)
place_unique ps i (x ∷ rs) q r n (inr m) (inl d) p =
    let k : (q.place < length ps) × (suc i ≤ get_or ps q.place 0) = named_mem ps (suc i) rs q n.2 m in
    let l : get_or ps r.place 0 ≡ i = rw d n.1 in
    let l' : get_or ps q.place 0 ≡ i = rw p l in
    absurd (omega arith)
place_unique ps i (x ∷ rs) q r n (inr m) (inr k) p = place_unique ps (suc i) rs q r n.2 m k p

-- a row that names none of them may change
pub named_set : (ps : List ℕ) (p v i : ℕ) (rs : List Record) → get_or ps p 0 < i → Named ps i rs → Named (set ps p v) i rs
named_set ps p v i [] h n = tt
named_set ps p v i (r ∷ rs) h n =
    let ne : r.place ≢ p = λ e. let l : get_or ps p 0 ≡ i = rw e at n.1 in omega arith in
    let le : length (set ps p v) ≡ length ps = length-set ps p v in
    (rw le n.0, get_or-set_other ps p r.place v 0 ne ∙ n.1, named_set ps p v (suc i) rs (omega arith) n.2)

-- the rows of all these records freed
abbrev pub clear : List Record → List ℕ → List ℕ
clear [] ps = ps
clear (r ∷ rs) ps = clear rs (set ps r.place 0)

abbrev pub Agree : (ℕ → Bool) → (Record → Bool) → ℕ → List Record → Type 0
Agree f g i [] = Unit {0}
Agree f g i (r ∷ rs) = (f i ≡ g r) × Agree f g (suc i) rs

pub count_clear : (f : ℕ → Bool) (g : Record → Bool) (i : ℕ) (rs : List Record) (ps : List ℕ) → f 0 ≡ false → Named ps i rs → Agree f g i rs
    → count f ps ≡ count g rs + count f (clear rs ps)
unfolding keep
count_clear f g i [] ps z n a = omega arith
count_clear f g i (r ∷ rs) ps z n a =
    let c : count f (set ps r.place 0) + one (f (get_or ps r.place 0)) ≡ count f ps + one (f 0) = count_set f ps r.place 0 n.0 in
    let c' : count f (set ps r.place 0) + one (g r) ≡ count f ps + 0 = rw (n.1, a.0, z) at c in
    let e : get_or (set ps r.place 0) r.place 0 ≡ 0 = get_or-set_same ps r.place 0 0 n.0 in
    let l : get_or ps r.place 0 ≡ i = n.1 in
    let ih : count f (set ps r.place 0) ≡ count g rs + count f (clear rs (set ps r.place 0)) =
    count_clear f g (suc i) rs (set ps r.place 0) z (named_set ps r.place 0 (suc i) rs (omega arith) n.2) a.1 in
    let k : count g (r ∷ rs) ≡ one (g r) + count g rs = count_cons g r rs in
    omega arith

-- where the rows in use number the records, a test on rows that fails for free rows passes as often as that on records
pub count_records : (f : ℕ → Bool) (g : Record → Bool) (rs : List Record) (ps : List ℕ) → f 0 ≡ false → Named ps 1 rs → Agree f g 1 rs
    → count in_use ps ≡ length rs → count f ps ≡ count g rs
count_records f g rs ps z n a u =
    let c : count in_use ps ≡ count (λ r. true) rs + count in_use (clear rs ps) = count_clear in_use (λ r. true) 1 rs ps refl n (agree 0 rs) in
    let d : count f ps ≡ count g rs + count f (clear rs ps) = count_clear f g 1 rs ps z n a in
    let l : count f (clear rs ps) ≤ count in_use (clear rs ps) = count_le f in_use (clear rs ps) passes in
    let t : count (λ r. true) rs ≡ length rs = count_all rs in
    omega arith
  where
    agree : (i : ℕ) (qs : List Record) → Agree in_use (λ r. true) (suc i) qs
    agree i [] = tt
    agree i (q ∷ qs) = (rw (eqb-suc-zero i), agree (suc i) qs)

    passes : (k : ℕ) → f k ≡ true → in_use k ≡ true
    passes zero e = absurd_test e z
    passes (suc k) e = rw (eqb-suc-zero k)

-- reclaiming: kept records and their rows
module _ (k : Record → Bool) (all : List Record) where
  renumber_at : (pre : List Record) (r : Record) (rs : List Record) → all ≡ pre ++ (r ∷ rs)
      → renumbered k all (suc (length pre)) ≡ cond (k r) (suc (count k pre)) 0
  renumber_at pre r rs e =
      let g : get_or all (length pre) zero_record ≡ r = rw e (get_or-append_seam pre r rs zero_record) in
      let t : take (length pre) all ≡ pre = rw e (take-append_seam pre (r ∷ rs)) in
      rw (g, t)

  further : (pre : List Record) (r : Record) (rs : List Record) → all ≡ pre ++ (r ∷ rs) → all ≡ (pre ++ (r ∷ [])) ++ rs
  further pre r rs e = e ∙ sym (append_assoc pre (r ∷ []) rs)

  length_snoc : (pre : List Record) (r : Record) → length (pre ++ (r ∷ [])) ≡ suc (length pre)
  length_snoc pre r = omega (arith, length-append pre (r ∷ []))

  agree_renumber : (pre rs : List Record) → all ≡ pre ++ rs → Agree (λ i. in_use (renumbered k all i)) k (suc (length pre)) rs
  agree_renumber pre [] e = tt
  agree_renumber pre (r ∷ rs) e =
      let q : renumbered k all (suc (length pre)) ≡ cond (k r) (suc (count k pre)) 0 = renumber_at pre r rs e in
      let ih : Agree (λ i. in_use (renumbered k all i)) k (suc (length (pre ++ (r ∷ [])))) rs = agree_renumber (pre ++ (r ∷ [])) rs (further pre r rs e) in
      (ap in_use q ∙ case (k r) (λ d. rw (d, eqb-suc-zero (count k pre))) (λ d. rw d), rw (length_snoc pre r) at ih)

  named_renumber : (ps : List ℕ) (pre rs : List Record) → all ≡ pre ++ rs → Named ps (suc (length pre)) rs
      → Named (map (renumbered k all) ps) (suc (count k pre)) (keep k rs)
  unfolding keep
  named_renumber ps pre [] e n = tt
  named_renumber ps pre (r ∷ rs) e n =
      let q : renumbered k all (suc (length pre)) ≡ cond (k r) (suc (count k pre)) 0 = renumber_at pre r rs e in
      let ih : Named (map (renumbered k all) ps) (suc (count k (pre ++ (r ∷ [])))) (keep k rs) =
      named_renumber ps (pre ++ (r ∷ [])) rs (further pre r rs e) (rw (length_snoc pre r) n.2) in
      let c : keep k (pre ++ (r ∷ [])) ≡ keep k pre ++ keep k (r ∷ []) = keep_append k pre (r ∷ []) in
      let lm : length (map (renumbered k all) ps) ≡ length ps = length-map ps (renumbered k all) in
      let g : get_or (map (renumbered k all) ps) r.place 0 ≡ renumbered k all (get_or ps r.place 0) = get_d_map_lt (renumbered k all) ps r.place n.0 in
      case (k r)
      (λ d.
      let c' : keep k (pre ++ (r ∷ [])) ≡ keep k pre ++ (r ∷ []) = rw d at c in
      let l : count k (pre ++ (r ∷ [])) ≡ suc (count k pre) = rw c' (length_snoc (keep k pre) r) in
      rw d (rw lm n.0, g ∙ (ap (renumbered k all) n.1 ∙ (rw d at q)), rw l at ih))
      (λ d.
      let c' : keep k (pre ++ (r ∷ [])) ≡ keep k pre ++ [] = rw d at c in
      let l : count k (pre ++ (r ∷ [])) ≡ count k pre = rw c' (omega (arith, length-append (keep k pre) [])) in
      rw d (rw l at ih))

  pub reclaim_named : (ps : List ℕ) → Named ps 1 all → Named (map (renumbered k all) ps) 1 (keep k all)
  unfolding keep
  reclaim_named ps n = named_renumber ps [] all refl n

  pub reclaim_used : (ps : List ℕ) → Named ps 1 all → used ps ≡ length all → used (map (renumbered k all) ps) ≡ length (keep k all)
  unfolding used
  reclaim_used ps n u = count_map in_use (renumbered k all) ps ∙ count_records (λ i. in_use (renumbered k all i)) k all ps refl n (agree_renumber [] all refl) u

-- writing: a record put in, its place taken
first_free_suc : {C : Type 0} (k : ℕ) (ps : List ℕ) (p : ℕ) → first_free (suc k ∷ ps) ≡ some p → ((q : ℕ) → first_free ps ≡ some q → suc q ≡ p → C) → C
unfolding first_free
first_free_suc k ps p e then =
    case_option (first_free ps)
    (λ n. let e' : none ≡ some p = rw n at e in let z : ◌≡◌ {A = ℕ} 0 1 = cc in absurd (omega arith))
    (λ q s.
    let e' : some (suc q) ≡ some p = rw s at e in
    then q s cc)

smallest_suc : (k : ℕ) (ps : List ℕ) (p : ℕ) → SmallestFree ps p → SmallestFree (suc k ∷ ps) (suc p)
smallest_suc k ps p f = record { inside = omega (arith, f.inside); free = f.free; least = below }
  where
    below : (i : ℕ) → i < suc p → get_or (suc k ∷ ps) i 0 ≡ 0 → ⊥
    below zero l d = omega (arith, d)
    below (suc i) l d = f.least i (omega arith) d

-- the place found is free, and none below it is
pub first_free→ : (ps : List ℕ) (p : ℕ) → first_free ps ≡ some p → SmallestFree ps p
unfolding first_free
first_free→ [] p e = let z : ◌≡◌ {A = ℕ} 0 1 = cc in absurd (omega arith)
first_free→ (zero ∷ ps) p e =
    let z : 0 ≡ p = cc in
    rw (← z) (record { inside = omega arith; free = refl; least = λ k l d. absurd (omega arith) })
first_free→ (suc k ∷ ps) p e = first_free_suc k ps p e (λ q s z. rw (← z) (smallest_suc k ps q (first_free→ ps q s)))

-- where none is found, none is free
pub first_free_none : (ps : List ℕ) → first_free ps ≡ none → (k : ℕ) → k < length ps → get_or ps k 0 ≡ 0 → ⊥
unfolding first_free
first_free_none [] e k l d = omega arith
first_free_none (zero ∷ ps) e k l d = let z : ◌≡◌ {A = ℕ} 0 1 = cc in omega arith
first_free_none (suc x ∷ ps) e zero l d = omega (arith, d)
first_free_none (suc x ∷ ps) e (suc k) l d =
    case_option (first_free ps)
    (λ n. first_free_none ps n k (omega arith) d)
    (λ q s. let e' : some (suc q) ≡ none = rw s at e in let z : ◌≡◌ {A = ℕ} 0 1 = cc in omega arith)

-- all places below it are in use
pub first_free_used : (ps : List ℕ) (p : ℕ) → first_free ps ≡ some p → p ≤ used ps
unfolding first_free used
first_free_used [] p e = let z : ◌≡◌ {A = ℕ} 0 1 = cc in absurd (omega arith)
first_free_used (zero ∷ ps) p e = let z : 0 ≡ p = cc in omega arith
first_free_used (suc k ∷ ps) p e =
    first_free_suc k ps p e
    (λ q s z.
    let c : count in_use (suc k ∷ ps) ≡ one (in_use (suc k)) + count in_use ps = count_cons in_use (suc k) ps in
    let c' : count in_use (suc k ∷ ps) ≡ 1 + count in_use ps = rw (eqb-suc-zero k) at c in
    omega (arith, first_free_used ps q s))

pub shifted_low : (at k : ℕ) → k ≤ at → shifted at k ≡ k
shifted_low at k h = rw (le-leb k at h)

pub shifted_high : (at k : ℕ) → at < k → shifted at k ≡ suc k
shifted_high at k h = rw (lt-leb k at h)

shifted_used : (at k : ℕ) → in_use (shifted at k) ≡ in_use k
shifted_used at zero = rw (shifted_low at 0 (omega arith))
shifted_used at (suc k) =
    case (leb (suc k) at) (λ e. rw e) (λ e. rw (e, eqb-suc-zero (suc k), eqb-suc-zero k))

module _ (ps : List ℕ) (at p : ℕ) (inside : p < length ps) (free : get_or ps p 0 ≡ 0) where
  abbrev taken : List ℕ
  taken = set (map (shifted at) ps) p (suc at)

  length_taken : length taken ≡ length ps
  length_taken = length-set (map (shifted at) ps) p (suc at) ∙ length-map ps (shifted at)

  taken_other : (q : ℕ) → q < length ps → q ≢ p → get_or taken q 0 ≡ shifted at (get_or ps q 0)
  taken_other q l ne = get_or-set_other (map (shifted at) ps) p q (suc at) 0 ne ∙ get_d_map_lt (shifted at) ps q l

  taken_high : (i : ℕ) (rs : List Record) → at < i → Named ps i rs → Named taken (suc i) rs
  taken_high i [] h n = tt
  taken_high i (r ∷ rs) h n =
      let ne : r.place ≢ p = λ e. let l : get_or ps p 0 ≡ i = rw e at n.1 in omega arith in (
        rw length_taken n.0,
        taken_other r.place n.0 ne ∙ (ap (shifted at) n.1 ∙ shifted_high at i h),
        taken_high (suc i) rs (omega arith) n.2,
      )

  pub write_named : (i : ℕ) (xs : List Record) (r : Record) (ys : List Record) → r.place ≡ p → 0 < i → i + length xs ≡ suc at → Named ps i (xs ++ ys)
      → Named taken i (xs ++ (r ∷ ys))
  write_named i [] r ys e z l n =
      let ei : i ≡ suc at = omega arith in
      let lm : length (map (shifted at) ps) ≡ length ps = length-map ps (shifted at) in (
        rw (length_taken, e) inside,
        rw (e, ei) (get_or-set_same (map (shifted at) ps) p (suc at) 0 (rw lm inside)),
        taken_high i ys (omega arith) n,
      )
  write_named i (x ∷ xs) r ys e z l n =
      let ne : x.place ≢ p = λ d. let k : get_or ps p 0 ≡ i = rw d at n.1 in omega arith in (
        rw length_taken n.0,
        taken_other x.place n.0 ne ∙ (ap (shifted at) n.1 ∙ shifted_low at i (omega arith)),
        write_named (suc i) xs r ys e (omega arith) (omega arith) n.2,
      )

  pub write_used : used taken ≡ suc (used ps)
  unfolding used
  write_used =
      let lm : length (map (shifted at) ps) ≡ length ps = length-map ps (shifted at) in
      let c : count in_use taken + one (in_use (get_or (map (shifted at) ps) p 0)) ≡ count in_use (map (shifted at) ps) + one (in_use (suc at)) =
      count_set in_use (map (shifted at) ps) p (suc at) (rw lm inside) in
      let d : count in_use (map (shifted at) ps) ≡ count in_use ps = count_map in_use (shifted at) ps ∙ count_same _ in_use ps (shifted_used at) in
      let g : get_or (map (shifted at) ps) p 0 ≡ 0 = get_d_map_lt (shifted at) ps p inside ∙ (ap (shifted at) free ∙ shifted_low at 0 (omega arith)) in
      let c' : count in_use taken + 0 ≡ count in_use (map (shifted at) ps) + 1 = rw (g, eqb-suc-zero at) at c in
      omega arith
