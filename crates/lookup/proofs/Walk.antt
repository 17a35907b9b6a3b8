-- The walk over the branches: what is known of the records of one address while the walk goes back in time.
use mathlib.Core.Path.{◌≡◌, refl, ap, sym, ◌∙◌}
use mathlib.Core.List.{List, [], ◌∷◌}
use mathlib.Core.Option.{Option, some, none}
use mathlib.Core.Bool.{true, false}
use Prim.Native.Nat.{ℕ, zero, suc, ◌-◌, ◌≤◌, ◌<◌}
use native.Mathlib.Nat.{not-suc-le-zero, le_of_suc-le-suc}
use native.Mathlib.Decide.{dec_lt, dec_le}
use native.Mathlib.Omega.{arith}
use lib.ListN.{length, get_or, take}
use lib.Seq.{get_or-take, length-take-le}
use Rattle.model.specs.declared.Branch.{Branch}
use Rattle.model.specs.declared.Record.{Record}
use Rattle.model.specs.Store.{zero_branch, zero_record}
use Rattle.model.specs.Lookup.{within, or_else, latest, ancestry, first_found, holds}
use Rattle.model.proofs.Base.{case}
use Rattle.model.proofs.Latest.{Within, →within, not_within}
use Rattle.model.proofs.Ancestry.{Holds, holds→, →holds, find_hold, find_skip}
use Rattle.model.specs.ByNumber.{Falls, find, newest_of, Ascend, entry}
use Rattle.model.proofs.ByNumber.{top}
use Rattle.lookup.proofs.Laws.{Bracket}

-- `latest`, by numbers
latest_no : (xs : List Record) (a lo hi : ℕ) → ((i : ℕ) → i < length xs → within a lo hi (entry xs i) ≡ false) → latest xs a lo hi ≡ none
unfolding latest
latest_no [] a lo hi h = refl
latest_no (x ∷ xs) a lo hi h = rw (latest_no xs a lo hi (λ i l. h (suc i) (omega arith)), h 0 (omega arith))

latest_at : (xs : List Record) (a lo hi k : ℕ) → k < length xs → within a lo hi (entry xs k) ≡ true → ((i : ℕ) → k < i → i < length xs → within a lo hi (entry xs i) ≡ false)
    → latest xs a lo hi ≡ some (entry xs k)
unfolding latest
latest_at [] a lo hi k l e h = absurd (not-suc-le-zero l)
latest_at (x ∷ xs) a lo hi zero l e h = rw (latest_no xs a lo hi (λ i m. h (suc i) (omega arith) (omega arith)), e)
latest_at (x ∷ xs) a lo hi (suc k) l e h = rw (latest_at xs a lo hi k (le_of_suc-le-suc l) e (λ i p m. h (suc i) (omega arith) (omega arith)))

-- those below j are at most at a; those from j on, where they are at a, are after the moment t
pub record Span (rows : List Record) (n a j t : ℕ) : Type 0 where
  pub inside : j ≤ n
  pub upto : (k : ℕ) → k < j → (entry rows k).address ≤ a
  pub past : (k : ℕ) → j ≤ k → k < n → (entry rows k).address ≡ a → t < (entry rows k).moment

module _ (rows : List Record) (n a : ℕ) (room : n ≤ length rows) (up : Ascend rows n) where
  long : length (take n rows) ≡ n
  long = length-take-le n rows room

  same : (k : ℕ) → k < n → entry (take n rows) k ≡ entry rows k
  same k l = get_or-take n rows k zero_record l

  pub span_start : (j t : ℕ) → Bracket rows n a t j j → Span rows n a j t
  span_start j t b = record { inside = b.inside; upto = λ k l. (b.below k l).0; past = λ k l m e. (b.above k l m).1 (sym e) }

  pub span_cut : (j t u : ℕ) → u ≤ t → Span rows n a j t → Span rows n a j u
  span_cut j t u h p = record { inside = p.inside; upto = p.upto; past = λ k l m e. omega (arith, p.past k l m e) }

  module _ (j t : ℕ) (p : Span rows n a j t) where
    pub span_less : 0 < j → t < (entry rows (j - 1)).moment → Span rows n a (j - 1) t
    span_less h m = record { inside = omega (arith, p.inside); upto = λ k l. p.upto k (omega arith); past = λ k l i e. go k (dec_le j k) l i e }
      where
        go : (k : ℕ) → Dec (j ≤ k) → j - 1 ≤ k → k < n → (entry rows k).address ≡ a → t < (entry rows k).moment
        go k (yes d) l i e = p.past k d i e
        go k (no d) l i e =
            let q : k ≡ j - 1 = omega arith in
            rw q m

    -- the latest record from s on, in the ways that the search of one branch ends
    module _ (s : ℕ) where
      none_of : ((k : ℕ) → k < n → Within a s t (entry rows k) → ⊥) → latest (take n rows) a s t ≡ none
      none_of h =
          latest_no (take n rows) a s t
          (λ i l. let m : i < n = omega (arith, long) in rw (same i m) (not_within a s t (entry rows i) (h i m)))

      pub latest_here : 0 < j → (entry rows (j - 1)).address ≡ a → s ≤ (entry rows (j - 1)).moment → (entry rows (j - 1)).moment ≤ t → latest (take n rows) a s t ≡ some (entry rows (j - 1))
      latest_here h e m l =
          let i : j - 1 < n = omega (arith, p.inside) in
          latest_at (take n rows) a s t (j - 1) (omega (arith, long)) (rw (same (j - 1) i) (→within a s t (entry rows (j - 1)) (record { at = e; low = m; high = l })))
          (λ k u v. let o : k < n = omega (arith, long) in
          rw (same k o) (not_within a s t (entry rows k) (λ (w : Within a s t (entry rows k)). omega (arith, p.past k (omega arith) o w.at))))
          ∙ ap some (same (j - 1) i)

      pub latest_low : 0 < j → (entry rows (j - 1)).address ≡ a → (entry rows (j - 1)).moment < s → latest (take n rows) a s t ≡ none
      latest_low h e m = none_of (λ k l w. go k l w (dec_le j k) (dec_lt k (j - 1)))
        where
          go : (k : ℕ) → k < n → Within a s t (entry rows k) → Dec (j ≤ k) → Dec (k < j - 1) → ⊥
          go k l w (yes d) x = omega (arith, p.past k d l w.at)
          go k l w (no d) (yes x) = omega (arith, up.moments k (j - 1) x (omega (arith, p.inside)) (w.at ∙ sym e))
          go k l w (no d) (no x) =
              let q : j - 1 ≡ k = omega arith in
              let m' : (entry rows k).moment < s = rw q at m in
              omega arith

      pub latest_other : 0 < j → ((entry rows (j - 1)).address ≡ a → ⊥) → latest (take n rows) a s t ≡ none
      latest_other h e = none_of (λ k l w. go k l w (dec_le j k) (dec_lt k (j - 1)))
        where
          below : (entry rows (j - 1)).address < a
          below = omega (arith, p.upto (j - 1) (omega arith), e)

          go : (k : ℕ) → k < n → Within a s t (entry rows k) → Dec (j ≤ k) → Dec (k < j - 1) → ⊥
          go k l w (yes d) x = omega (arith, p.past k d l w.at)
          go k l w (no d) (yes x) = omega (arith, up.addresses k (j - 1) x (omega (arith, p.inside)), below)
          go k l w (no d) (no x) =
              let q : j - 1 ≡ k = omega arith in
              let m' : (entry rows k).address < a = rw q at below in
              omega arith

      pub latest_end : j ≤ 0 → latest (take n rows) a s t ≡ none
      latest_end h = none_of (λ k l w. omega (arith, p.past k (omega arith) l w.at))

-- one branch of the walk: i is the branch, m the number of branches left
module _ (rs : List Record) (bs : List Branch) (a t i m : ℕ) (e : m ≡ suc i) (room : m ≤ length bs) where
  abbrev b : Branch
  b = get_or bs i zero_branch

  rows_top : newest_of bs m ≡ b ∷ newest_of bs i
  rows_top = ap (λ (k : ℕ). newest_of bs k) e ∙ top bs i zero_branch (omega arith)

  pub find_not : (Holds b t → ⊥) → find rs a (newest_of bs m) t ≡ find rs a (newest_of bs i) t
  find_not h =
      ap (λ (l : List Branch). find rs a l t) rows_top
      ∙ find_skip rs a b (newest_of bs i) t (case (holds b t) (λ d. absurd (h (holds→ b t d))) (λ d. d))

  module _ (l : b.start ≤ t) (r : t ≤ b.end) where
    in_row : find rs a (newest_of bs m) t ≡ or_else (latest rs a b.start t) (find rs a (newest_of bs i) b.cut)
    in_row = ap (λ (l : List Branch). find rs a l t) rows_top ∙ find_hold rs a b (newest_of bs i) t (→holds b t l r)

    pub find_at : (x : Record) → latest rs a b.start t ≡ some x → find rs a (newest_of bs m) t ≡ some x
    find_at x q = in_row ∙ rw q

    pub find_cut : latest rs a b.start t ≡ none → find rs a (newest_of bs m) t ≡ find rs a (newest_of bs i) b.cut
    find_cut q = in_row ∙ rw q

pub find_end : (rs : List Record) (bs : List Branch) (a t i : ℕ) → i ≡ 0 → find rs a (newest_of bs i) t ≡ none
unfolding ancestry first_found
find_end rs bs a t i e = rw e

-- a cut is at most its row's start
pub falls_at : (bs : List Branch) (n : ℕ) → n ≤ length bs → Falls (newest_of bs n) → (i : ℕ) → i < n → (get_or bs i zero_branch).cut ≤ (get_or bs i zero_branch).start
falls_at bs zero room f i l = absurd (not-suc-le-zero l)
falls_at bs (suc n) room f i l =
    let g : ((get_or bs n zero_branch).cut ≤ (get_or bs n zero_branch).start) × Falls (newest_of bs n) = rw (top bs n zero_branch room) at f in
    go g (dec_lt i n) (λ m. falls_at bs n (omega arith) g.1 i m)
  where
    go : ((get_or bs n zero_branch).cut ≤ (get_or bs n zero_branch).start) × Falls (newest_of bs n) → Dec (i < n) → (i < n → (get_or bs i zero_branch).cut ≤ (get_or bs i zero_branch).start) → (get_or bs i zero_branch).cut ≤ (get_or bs i zero_branch).start
    go g (yes m) r = r m
    go g (no m) r =
        let z : i ≡ n = omega arith in
        rw z g.0

-- the branch i, of which m = i + 1 are left, was read as x, holds the moment t and is cut from before it
pub record Held (bs : List Branch) (i m t : ℕ) (x : Branch) : Type 0 where
  pub count : m ≡ suc i
  pub room : m ≤ length bs
  pub same : x ≡ get_or bs i zero_branch
  pub from : x.start ≤ t
  pub to : t ≤ x.end
  pub back : x.cut ≤ t

module _ (rows : List Record) (bs : List Branch) (n a i m t : ℕ) (x : Branch) (h : Held bs i m t x) where
  from : (get_or bs i zero_branch).start ≤ t
  from = omega (arith, ap (λ (b : Branch). b.start) h.same, h.from)

  to : t ≤ (get_or bs i zero_branch).end
  to = omega (arith, ap (λ (b : Branch). b.end) h.same, h.to)

  as_read : latest (take n rows) a (get_or bs i zero_branch).start t ≡ latest (take n rows) a x.start t
  as_read = ap (λ (b : Branch). latest (take n rows) a b.start t) (sym h.same)

  -- the record found
  pub walk_found : (y : Record) (u : Option Record) → u ≡ find (take n rows) a (newest_of bs m) t → latest (take n rows) a x.start t ≡ some y → some y ≡ u
  walk_found y u e q = sym (e ∙ find_at (take n rows) bs a t i m h.count h.room from to y (as_read ∙ q))

  -- the walk goes on with the cut where the branch has no record
  pub walk_on : (j nb : ℕ) (u : Option Record) → i ≤ nb → Span rows n a j t → u ≡ find (take n rows) a (newest_of bs m) t → latest (take n rows) a x.start t ≡ none
      → (i ≤ nb) × Span rows n a j x.cut × (u ≡ find (take n rows) a (newest_of bs i) x.cut)
  walk_on j nb u l p e q = (
    l,
    cut_to j p,
    e ∙ find_cut (take n rows) bs a t i m h.count h.room from to (as_read ∙ q) ∙ ap (λ (b : Branch). find (take n rows) a (newest_of bs i) b.cut) (sym h.same),
  )
    where
      cut_to : (j : ℕ) → Span rows n a j t → Span rows n a j x.cut
      cut_to j p = record { inside = p.inside; upto = p.upto; past = λ k l m e. omega (arith, p.past k l m e, h.back) }
