-- The laws of the tables of sums and of first numbers, as the code fills them.
use mathlib.Core.Path.{◌≡◌, refl, ap, sym, ◌∙◌}
use mathlib.Core.List.{List}
use mathlib.Core.Bool.{true, cond}
use Prim.Native.Nat.{ℕ, zero, suc, ◌+◌, ◌-◌, ◌/◌, ◌%◌, ◌≤◌, ◌<◌, max, min}
use native.Mathlib.Omega.{arith}
use lib.Dec.{ltb, eqb}
use lib.ListN.{length, get_or, set, length-set}
use lib.Seq.{get_or-set_same, get_or-set_other}
use borrow.Author.Tests.{ltb-true, ltb-false, eqb-true, eqb-false, lt-ltb, le-ltb}
use Rattle.std.proofs.lemmas.Bool.Decides.{nat_tests}
use Rattle.model.specs.declared.Branch.{Branch}
use Rattle.model.proofs.Base.{case}
use Rattle.model.specs.ByNumber.{branch, held, Line}
use Rattle.branch_marks.specs.Marks.{holder, Holder}
use Rattle.branch_marks.proofs.Holders.{holder_of, holder_is}
use Rattle.spans.specs.Order.{when, kind, above, first_of, past_of, Tree, Edges, Sums, Fits, Firsts, span_low, span_high, first_moment, last_moment, Ranged}
use Rattle.spans.proofs.Bounds.{Stage, next_small, first_small}
use Rattle.spans.proofs.Framing.{just_above, above_within, above_late, above_early, above_order, row_of, event_of, seated, same_row, windowed, hangs, hung, past_first, window_low, window_high}

pub sums_rising : {bs : List Branch} {keys : List ℕ} {ne m : ℕ} {sums : List ℕ} → Sums bs keys ne m sums → (a b : ℕ) → a ≤ b → b ≤ m → get_or sums a 0 ≤ get_or sums b 0
sums_rising su a zero x y = let e : a ≡ 0 = omega arith in rw e (omega arith)
sums_rising su a (suc b) x y =
    case (eqb a (suc b))
    (λ d. rw (eqb-true a (suc b) d) (omega arith))
    (λ d. let q : a ≡ suc b → ⊥ = eqb-false a (suc b) d in omega (arith, sums_rising su a b (omega arith) (omega arith), su.rises b (omega arith)))

module _ {bs : List Branch} {n : ℕ} {keys : List ℕ} {ne : ℕ} (h : Line bs n) (room : n ≤ length bs) (tr : Tree bs n keys ne) where
  stage : {m : ℕ} {sums : List ℕ} → m ≤ ne → Sums bs keys ne m sums
      → Stage n ne m (kind keys) (row_of bs n keys) (first_of bs keys ne) (past_of bs keys ne) (event_of keys ne) (λ k. get_or sums k 0)
  stage l su =
      record {
        within = l;
        seat = seated h room tr;
        same = same_row h room tr;
        window = windowed h room tr;
        child = hangs h room tr;
        event = hung h room tr;
        past = past_first h room tr;
        rises = su.rises;
        leaf = su.leaf;
        inner = su.inner;
      }

  -- the row that hangs at the event m
  pub record Hanging (m j : ℕ) (sums : List ℕ) : Type 0 where
    pub inside : j < n
    pub past : past_of bs keys ne j ≤ m
    pub order : first_of bs keys ne j ≤ past_of bs keys ne j
    pub up : get_or sums (first_of bs keys ne j) 0 ≤ get_or sums (past_of bs keys ne j) 0
    pub small : get_or sums (past_of bs keys ne j) 0 ≤ get_or sums (first_of bs keys ne j) 0 + m

  pub hanging : {m : ℕ} {sums : List ℕ} → m < ne → 0 < kind keys m → Sums bs keys ne m sums → Hanging m (kind keys m) sums
  hanging {m} {sums} l z su =
      let c = hangs h room tr m l z in
      let w = windowed h room tr (kind keys m) c.1 in
      let p = past_first h room tr m l z in
      record {
        inside = c.1;
        past = p;
        order = w.0;
        up = sums_rising su (first_of bs keys ne (kind keys m)) (past_of bs keys ne (kind keys m)) w.0 p;
        small = next_small (stage (omega arith) su) l z;
      }

  -- one more sum
  module _ {m : ℕ} {sums : List ℕ} (l : m < ne) (su : Sums bs keys ne m sums) (fits : ne < length sums) (few : ne ≤ 16384) where
    old : (v k : ℕ) → k ≤ m → get_or (set sums (m + 1) v) k 0 ≡ get_or sums k 0
    old v k i = get_or-set_other sums (m + 1) k v 0 (λ z. omega arith)

    new : (v : ℕ) → get_or (set sums (m + 1) v) (suc m) 0 ≡ v
    new v = let e : suc m ≡ m + 1 = omega arith in rw e (get_or-set_same sums (m + 1) v 0 (omega arith))

    grown : (v : ℕ) → get_or sums m 0 ≤ v → v ≤ get_or sums m 0 + 16384 → (kind keys m ≡ 0 → v ≡ get_or sums m 0 + 1)
        → (0 < kind keys m → v + get_or sums (first_of bs keys ne (kind keys m)) 0 ≡ get_or sums m 0 + get_or sums (past_of bs keys ne (kind keys m)) 0)
        → Sums bs keys ne (m + 1) (set sums (m + 1) v)
    grown v a b c d =
        record {
          small =
              λ k i.
              case (eqb k (suc m))
              (λ e. rw (eqb-true k (suc m) e, new v) (omega (arith, su.small m (omega arith))))
              (λ e. let z : k ≡ suc m → ⊥ = eqb-false k (suc m) e in rw (old v k (omega arith)) (su.small k (omega arith)));
          rises =
              λ k i.
              case (eqb k m)
              (λ e. rw (eqb-true k m e, new v, old v m (omega arith)) a)
              (λ e. let z : k ≡ m → ⊥ = eqb-false k m e in rw (old v k (omega arith), old v (suc k) (omega arith)) (su.rises k (omega arith)));
          leaf =
              λ k i o.
              case (eqb k m)
              (λ e. let q : k ≡ m = eqb-true k m e in rw (q, new v, old v m (omega arith)) (c (rw q at o)))
              (λ e. let z : k ≡ m → ⊥ = eqb-false k m e in rw (old v k (omega arith), old v (suc k) (omega arith)) (su.leaf k (omega arith) o));
          inner =
              λ k i o.
              let p = past_first h room tr k (omega arith) o in
              let w = windowed h room tr (kind keys k) (hangs h room tr k (omega arith) o).1 in
              let y₁ : get_or (set sums (m + 1) v) (first_of bs keys ne (kind keys k)) 0 ≡ get_or sums (first_of bs keys ne (kind keys k)) 0 = old v (first_of bs keys ne (kind keys k)) (omega (arith, w.0)) in
              let y₂ : get_or (set sums (m + 1) v) (past_of bs keys ne (kind keys k)) 0 ≡ get_or sums (past_of bs keys ne (kind keys k)) 0 = old v (past_of bs keys ne (kind keys k)) (omega arith) in
              case (eqb k m)
              (λ e.
              let q : k ≡ m = eqb-true k m e in
              let n₁ : get_or (set sums (m + 1) v) (suc k) 0 ≡ v = ap (λ (x : ℕ). get_or (set sums (m + 1) v) (suc x) 0) q ∙ new v in
              let n₂ : get_or (set sums (m + 1) v) k 0 ≡ get_or sums m 0 = old v k (omega arith) ∙ ap (λ (x : ℕ). get_or sums x 0) q in
              let d' = d (rw q at o) in
              let d'' : v + get_or sums (first_of bs keys ne (kind keys k)) 0 ≡ get_or sums m 0 + get_or sums (past_of bs keys ne (kind keys k)) 0 = rw q d' in
              omega (arith, n₁, n₂, y₁, y₂, d''))
              (λ e.
              let z : k ≡ m → ⊥ = eqb-false k m e in
              omega (arith, old v k (omega arith), old v (suc k) (omega arith), y₁, y₂, su.inner k (omega arith) o));
        }

    pub grown_leaf : kind keys m ≡ 0 → Sums bs keys ne (m + 1) (set sums (m + 1) (get_or sums m 0 + 1))
    grown_leaf z = grown (get_or sums m 0 + 1) (omega arith) (omega arith) (λ e. refl) (λ e. omega arith)

    pub grown_inner : 0 < kind keys m → Sums bs keys ne (m + 1) (set sums (m + 1) (get_or sums m 0 + (get_or sums (past_of bs keys ne (kind keys m)) 0 - get_or sums (first_of bs keys ne (kind keys m)) 0)))
    grown_inner z =
        let g = hanging l z su in
        grown (get_or sums m 0 + (get_or sums (past_of bs keys ne (kind keys m)) 0 - get_or sums (first_of bs keys ne (kind keys m)) 0)) (omega arith) (omega (arith, g.small)) (λ e. omega arith) (λ e. omega (arith, g.up))

  -- first numbers
  module _ {sums : List ℕ} (su : Sums bs keys ne ne sums) (many : 0 < n) where
    pub firsts_start : {firsts : List ℕ} → get_or firsts 0 0 ≡ 0 → Firsts bs n keys ne ne sums firsts
    firsts_start e =
        record {
          root = e;
          start = record { fits = omega (arith, e, first_small (stage (omega arith) su) refl many) };
          small = λ k a b c. absurd (omega arith);
          next = λ k a b c. absurd (omega arith);
        }

    -- what is known of a row that has its number
    pub row_fits : {m : ℕ} {firsts : List ℕ} → Firsts bs n keys ne m sums firsts → (k : ℕ) → m ≤ suc k → k < ne → Fits bs keys ne sums firsts (row_of bs n keys k)
    row_fits {m} {firsts} fi k a l =
        let s = seated h room tr k l in
        case (eqb (row_of bs n keys k) 0)
        (λ d. let e : row_of bs n keys k ≡ 0 = eqb-true (row_of bs n keys k) 0 d in record { fits = rw e fi.start.fits })
        (λ d.
        let z : row_of bs n keys k ≡ 0 → ⊥ = eqb-false (row_of bs n keys k) 0 d in
        let v = hung h room tr (row_of bs n keys k) (omega arith) s.0 in
        let p = past_first h room tr (event_of keys ne (row_of bs n keys k)) v.0 (omega (arith, v.1)) in
        let p' : past_of bs keys ne (row_of bs n keys k) ≤ event_of keys ne (row_of bs n keys k) = rw v.1 at p in
        let x = (fi.small (event_of keys ne (row_of bs n keys k)) (omega (arith, s.2)) v.0 (omega (arith, v.1))).fits in
        record { fits = rw v.1 at x })

    pub all_fit : {firsts : List ℕ} → Firsts bs n keys ne 0 sums firsts → (i : ℕ) → i < n → Fits bs keys ne sums firsts i
    all_fit {firsts} fi i l =
        case (eqb i 0)
        (λ d. rw (eqb-true i 0 d) fi.start)
        (λ d.
        let z : i ≡ 0 → ⊥ = eqb-false i 0 d in
        let v = hung h room tr i (omega arith) l in
        let x = fi.small (event_of keys ne i) (omega arith) v.0 (omega (arith, v.1)) in
        rw v.1 at x)

    pub firsts_skip : {k : ℕ} {firsts : List ℕ} → Firsts bs n keys ne (suc k) sums firsts → kind keys k ≡ 0 → Firsts bs n keys ne k sums firsts
    firsts_skip {k} {firsts} fi e =
        record {
          root = fi.root;
          start = fi.start;
          small = λ q a b c. fi.small q (later q a c) b c;
          next = λ q a b c. fi.next q (later q a c) b c;
        }
      where
        later : (q : ℕ) → k ≤ q → 0 < kind keys q → suc k ≤ q
        later q a c =
            case (eqb k q)
            (λ d. let z : kind keys k ≡ kind keys q = ap (kind keys) (eqb-true k q d) in absurd (omega arith))
            (λ d. let z : k ≡ q → ⊥ = eqb-false k q d in omega arith)

    module _ {k : ℕ} {firsts : List ℕ} (fi : Firsts bs n keys ne (suc k) sums firsts) (l : k < ne) (z : 0 < kind keys k) (r : ℕ) (re : r ≡ row_of bs n keys k) where
      -- what the code reads and stores
      pub record Reading : Type 0 where
        pub below : r < kind keys k
        pub inside : kind keys k < n
        pub up : get_or sums (first_of bs keys ne r) 0 ≤ get_or sums k 0
        pub small : get_or firsts r 0 + (get_or sums k 0 - get_or sums (first_of bs keys ne r) 0) ≤ ne

      pub reading : Reading
      reading =
          let c = hangs h room tr k l z in
          let s = seated h room tr k l in
          let f : Fits bs keys ne sums firsts r = rw re (row_fits fi k (omega arith) l) in
          let s₁ : first_of bs keys ne r ≤ k = rw re s.1 in
          let s₂ : k < past_of bs keys ne r = rw re s.2 in
          let w : past_of bs keys ne r ≤ ne = rw re (windowed h room tr (row_of bs n keys k) s.0).1 in
          let u₁ = sums_rising su (first_of bs keys ne r) k s₁ (omega arith) in
          let u₂ = sums_rising su k (past_of bs keys ne r) (omega arith) w in
          record { below = omega (arith, c.0); inside = c.1; up = u₁; small = omega (arith, f.fits, u₁, u₂) }

      module _ (fits : n ≤ length firsts) where
        v : ℕ
        v = get_or firsts r 0 + (get_or sums k 0 - get_or sums (first_of bs keys ne r) 0)

        pub firsts_step : Firsts bs n keys ne k sums (set firsts (kind keys k) (get_or firsts r 0 + (get_or sums k 0 - get_or sums (first_of bs keys ne r) 0)))
        unfolding v
        firsts_step =
            record {
              root = other 0 (λ e. omega arith) ∙ fi.root;
              start = record { fits = let o = other 0 (λ e. omega arith) in omega (arith, o, fi.start.fits) };
              small =
                  λ q a b c.
                  case (eqb k q)
                  (λ d.
                  let e : k ≡ q = eqb-true k q d in
                  let x : Fits bs keys ne sums (set firsts (kind keys k) v) (kind keys k) = record { fits = omega (arith, here, first_fits) } in
                  rw (← e) x)
                  (λ d.
                  let e : k ≡ q → ⊥ = eqb-false k q d in
                  record { fits = omega (arith, other (kind keys q) (λ y. e (sym (tr.once q k b l c y))), (fi.small q (omega arith) b c).fits) });
              next =
                  λ q a b c.
                  case (eqb k q)
                  (λ d.
                  let e : k ≡ q = eqb-true k q d in
                  let x : get_or (set firsts (kind keys k) v) (kind keys k) 0 + get_or sums (first_of bs keys ne (row_of bs n keys k)) 0 ≡ get_or (set firsts (kind keys k) v) (row_of bs n keys k) 0 + get_or sums k 0 =
                  rw (← re) (let o = other r (λ y. omega (arith, reading.below)) in omega (arith, here, o, reading.up)) in
                  rw (← e) x)
                  (λ d.
                  let e : k ≡ q → ⊥ = eqb-false k q d in
                  let o₁ = other (kind keys q) (λ y. e (sym (tr.once q k b l c y))) in
                  let o₂ = other (row_of bs n keys q) (λ y. aside q b (omega arith) y) in
                  omega (arith, o₁, o₂, fi.next q (omega arith) b c));
            }
          where
            here : get_or (set firsts (kind keys k) v) (kind keys k) 0 ≡ v
            here = get_or-set_same firsts (kind keys k) v 0 (omega (arith, reading.inside))

            other : (j : ℕ) → (j ≡ kind keys k → ⊥) → get_or (set firsts (kind keys k) v) j 0 ≡ get_or firsts j 0
            other j y = get_or-set_other firsts (kind keys k) j v 0 y

            first_fits : v + get_or sums (past_of bs keys ne (kind keys k)) 0 ≤ get_or sums (first_of bs keys ne (kind keys k)) 0 + ne
            first_fits =
                let s = seated h room tr k l in
                let f : Fits bs keys ne sums firsts r = rw re (row_fits fi k (omega arith) l) in
                let s₂ : k < past_of bs keys ne r = rw re s.2 in
                let w : past_of bs keys ne r ≤ ne = rw re (windowed h room tr (row_of bs n keys k) s.0).1 in
                omega (arith, f.fits, reading.up, sums_rising su (suc k) (past_of bs keys ne r) s₂ w, su.inner k l z)

            aside : (q : ℕ) → q < ne → k < q → row_of bs n keys q ≡ kind keys k → ⊥
            aside q b a y =
                let s = seated h room tr q b in
                let s₂ : q < past_of bs keys ne (kind keys k) = rw y at s.2 in
                omega (arith, past_first h room tr k l z)

    -- what the span of a moment reads
    pub record Spanning (m i : ℕ) (firsts : List ℕ) : Type 0 where
      pub early : above keys ne m ≤ ne
      pub first : first_of bs keys ne i ≤ above keys ne m
      pub up : get_or sums (first_of bs keys ne i) 0 ≤ get_or sums (above keys ne m) 0
      pub small : get_or firsts i 0 + (get_or sums (above keys ne m) 0 - get_or sums (first_of bs keys ne i) 0) ≤ ne

    pub spanning : {firsts : List ℕ} → Firsts bs n keys ne 0 sums firsts → {m i : ℕ} → Holder bs n m i → Spanning m i firsts
    spanning {firsts} fi {m} {i} s =
        let f = all_fit fi i s.inside in
        let a = window_low h room tr s.inside s.low s.high in
        let b = window_high h room tr s.inside s.low s.high in
        let w = windowed h room tr i s.inside in
        let u = sums_rising su (first_of bs keys ne i) (above keys ne m) a (omega (arith, w.1)) in
        let u₂ = sums_rising su (above keys ne m) (past_of bs keys ne i) b w.1 in
        record { early = omega (arith, w.1); first = a; up = u; small = omega (arith, u, u₂, f.fits) }

-- as the code has them
pub kind_is : (keys : List ℕ) (k : ℕ) → get_or keys k 0 % 4294967296 ≡ kind keys k
unfolding kind
kind_is keys k = refl

pub when_is : (keys : List ℕ) (k : ℕ) → get_or keys k 0 / 4294967296 ≡ when keys k
unfolding when
when_is keys k = refl

pub first_is : (bs : List Branch) (keys : List ℕ) (ne j : ℕ) → above keys ne ((branch bs j).end + 1) ≡ first_of bs keys ne j
unfolding first_of
first_is bs keys ne j = refl

pub past_is : (bs : List Branch) (keys : List ℕ) (ne j : ℕ) → above keys ne (branch bs j).start ≡ past_of bs keys ne j
unfolding past_of
past_is bs keys ne j = refl

-- what is read for a span, and that it is the span
pub record Reads (c first edge : ℕ) (P : ℕ → ℕ) (ne low high : ℕ) : Type 0 where
  pub early : c ≤ ne
  pub first_in : edge ≤ ne
  pub up : P edge ≤ P c
  pub small : first + (P c - P edge) ≤ ne
  pub low_is : first ≡ low
  pub high_is : first + (P c - P edge) ≡ high

-- the row j hangs at the event m, and first and past are the ends of its events
pub record Ready (bs : List Branch) (n : ℕ) (keys : List ℕ) (ne m : ℕ) (sums : List ℕ) (j first past : ℕ) : Type 0 where
  pub inside : j < n
  pub first_in : first ≤ m
  pub past_in : past ≤ m
  pub up : get_or sums first 0 ≤ get_or sums past 0
  pub small : get_or sums past 0 ≤ get_or sums first 0 + m
  pub step : ne < length sums → ne ≤ 16384 → Sums bs keys ne (m + 1) (set sums (m + 1) (get_or sums m 0 + (get_or sums past 0 - get_or sums first 0)))

-- the row j hangs at the event k, in the row p, whose first event is `first`
pub record Turned (bs : List Branch) (n : ℕ) (keys : List ℕ) (ne : ℕ) (sums : List ℕ) (k j p first : ℕ) (firsts : List ℕ) : Type 0 where
  pub below : p < j
  pub inside : j < n
  pub first_in : first ≤ k
  pub up : get_or sums first 0 ≤ get_or sums k 0
  pub small : get_or firsts p 0 + (get_or sums k 0 - get_or sums first 0) ≤ ne
  pub step : n ≤ length firsts → Firsts bs n keys ne k sums (set firsts j (get_or firsts p 0 + (get_or sums k 0 - get_or sums first 0)))

module _ {bs : List Branch} {n : ℕ} {keys : List ℕ} {ne : ℕ} (h : Line bs n) (room : n ≤ length bs) (tr : Tree bs n keys ne) where
  row_inside : {m j : ℕ} → m < ne → j ≡ get_or keys m 0 % 4294967296 → (j ≡ 0 → ⊥) → j < n
  row_inside {m} {j} l e z = let k = kind_is keys m in omega (arith, (tr.inner m l (omega (arith, z))).0)

  -- a row's events end where those of the row before it begin
  past_edge : (j : ℕ) → 0 < j → j < n → past_of bs keys ne j ≡ first_of bs keys ne (j - 1)
  past_edge j z l =
      let a : above keys ne (branch bs j).start ≤ above keys ne ((branch bs (j - 1)).end + 1) =
      above_order tr.order ((branch bs (j - 1)).end + 1) (branch bs j).start (omega (arith, h.stairs.apart (j - 1) j (omega arith) l)) in
      sym (past_is bs keys ne j)
      ∙ (case (ltb (above keys ne (branch bs j).start) (above keys ne ((branch bs (j - 1)).end + 1)))
      (λ d.
      let k : above keys ne (branch bs j).start < above keys ne ((branch bs (j - 1)).end + 1) = ltb-true _ _ d in
      let i : above keys ne (branch bs j).start < ne = omega (arith, above_within keys ne ((branch bs (j - 1)).end + 1)) in
      absurd (nobody (when keys (above keys ne (branch bs j).start)) (above_early tr.order ((branch bs (j - 1)).end + 1) _ k) (above_late keys ne (branch bs j).start _ (omega arith) i) (tr.inside _ i)))
      (λ d. let k = ltb-false (above keys ne (branch bs j).start) (above keys ne ((branch bs (j - 1)).end + 1)) d in omega arith)
      ∙ first_is bs keys ne (j - 1))
    where
      nobody : (t : ℕ) → (branch bs (j - 1)).end + 1 ≤ t → t < (branch bs j).start → held bs n t ≡ true → ⊥
      nobody t a b e =
          let s = holder_of bs n t room e in
          case (ltb (holder bs n t) j)
          (λ d.
          let r : holder bs n t < j = ltb-true _ _ d in
          case (eqb (holder bs n t) (j - 1))
          (λ q. let y : (branch bs (holder bs n t)).end ≡ (branch bs (j - 1)).end = ap (λ (x : ℕ). (branch bs x).end) (eqb-true _ _ q) in omega (arith, s.high))
          (λ q. let ne' : holder bs n t ≡ j - 1 → ⊥ = eqb-false _ _ q in omega (arith, s.high, h.stairs.apart (holder bs n t) (j - 1) (omega arith) (omega arith), h.stairs.ordered (j - 1) (omega arith))))
          (λ d.
          let r : j ≤ holder bs n t = ltb-false _ _ d in
          case (eqb (holder bs n t) j)
          (λ q. let y : (branch bs (holder bs n t)).start ≡ (branch bs j).start = ap (λ (x : ℕ). (branch bs x).start) (eqb-true _ _ q) in omega (arith, s.low))
          (λ q. let ne' : holder bs n t ≡ j → ⊥ = eqb-false _ _ q in omega (arith, s.low, h.stairs.apart j (holder bs n t) (omega arith) s.inside, h.stairs.ordered j l)))

  pub ready : {m : ℕ} {sums edges : List ℕ} → m < ne → Sums bs keys ne m sums → Edges bs n keys ne edges → (get_or keys m 0 % 4294967296 ≡ 0 → ⊥)
      → Ready bs n keys ne m sums (get_or keys m 0 % 4294967296) (get_or edges (get_or keys m 0 % 4294967296) 0) (get_or edges (get_or keys m 0 % 4294967296 - 1) 0)
  ready {m} {sums} {edges} l su ed z =
      let j : ℕ = get_or keys m 0 % 4294967296 in
      let k : j ≡ kind keys m = kind_is keys m in
      let i : j < n = row_inside l refl z in
      let f : get_or edges j 0 ≡ first_of bs keys ne (kind keys m) = ed.at j i ∙ ap (first_of bs keys ne) k in
      let p : get_or edges (j - 1) 0 ≡ past_of bs keys ne (kind keys m) = ed.at (j - 1) (omega arith) ∙ (sym (past_edge j (omega (arith, z)) i) ∙ ap (past_of bs keys ne) k) in
      let z' : 0 < kind keys m = omega (arith, z) in
      let g = hanging h room tr l z' su in
      record {
        inside = i;
        first_in = omega (arith, f, g.past, g.order);
        past_in = omega (arith, p, g.past);
        up = rw (f, p) g.up;
        small = rw (f, p) g.small;
        step = λ a c. rw (f, p) (grown_inner h room tr l su a c z');
      }

  pub next_leaf : {m : ℕ} {sums : List ℕ} → m < ne → Sums bs keys ne m sums → get_or keys m 0 % 4294967296 ≡ 0 → ne < length sums → ne ≤ 16384
      → Sums bs keys ne (m + 1) (set sums (m + 1) (get_or sums m 0 + 1))
  next_leaf {m} l su e a c = grown_leaf h room tr l su a c (sym (kind_is keys m) ∙ e)

  module _ {sums : List ℕ} (su : Sums bs keys ne ne sums) (many : 0 < n) where
    pub turn_skip : {k : ℕ} {firsts : List ℕ} → 0 < k → Firsts bs n keys ne k sums firsts → get_or keys (k - 1) 0 % 4294967296 ≡ 0 → Firsts bs n keys ne (k - 1) sums firsts
    turn_skip {k} {firsts} l fi e =
        let s : k ≡ suc (k - 1) = omega arith in
        let fi' : Firsts bs n keys ne (suc (k - 1)) sums firsts = rw (← s) fi in
        firsts_skip h room tr su many fi' (sym (kind_is keys (k - 1)) ∙ e)

    pub turned : {k p : ℕ} {edges firsts : List ℕ} → 0 < k → k ≤ ne → Firsts bs n keys ne k sums firsts → Edges bs n keys ne edges → (get_or keys (k - 1) 0 % 4294967296 ≡ 0 → ⊥)
        → Holder bs n (get_or keys (k - 1) 0 / 4294967296) p → Turned bs n keys ne sums (k - 1) (get_or keys (k - 1) 0 % 4294967296) p (get_or edges p 0) firsts
    turned {k} {p} {edges} {firsts} l i fi ed z s =
        let q : k ≡ suc (k - 1) = omega arith in
        let fi' : Firsts bs n keys ne (suc (k - 1)) sums firsts = rw (← q) fi in
        let x : kind keys (k - 1) ≡ get_or keys (k - 1) 0 % 4294967296 = sym (kind_is keys (k - 1)) in
        let pe : p ≡ row_of bs n keys (k - 1) = s.here ∙ ap (holder bs n) (when_is keys (k - 1)) in
        let f : first_of bs keys ne p ≡ get_or edges p 0 = sym (ed.at p s.inside) in
        let z' : 0 < kind keys (k - 1) = omega (arith, z) in
        let g = reading h room tr su many fi' (omega arith) z' p pe in
        let g₂ = seated h room tr (k - 1) (omega arith) in
        let w : first_of bs keys ne p ≤ k - 1 = rw pe g₂.1 in
        record {
          below = rw x at g.below;
          inside = rw x at g.inside;
          first_in = rw f at w;
          up = rw f at g.up;
          small = rw f at g.small;
          step = λ a. rw (x, f) at (firsts_step h room tr su many fi' (omega arith) z' p pe a);
        }

    -- the span of a moment, as the code has it
    pub spanned : {firsts edges : List ℕ} → Edges bs n keys ne edges → Firsts bs n keys ne 0 sums firsts → {m i c : ℕ} → Holder bs n m i
        → c ≡ above keys ne m → Reads c (get_or firsts i 0) (get_or edges i 0) (λ k. get_or sums k 0) ne (span_low bs n firsts m) (span_high bs n keys ne sums firsts m)
    unfolding span_low span_high
    spanned {firsts} {edges} ed fi {m} {i} {c} s e =
        let g = spanning h room tr su many fi s in
        let f : first_of bs keys ne i ≡ get_or edges i 0 = sym (ed.at i s.inside) in
        let e' : above keys ne m ≡ c = sym e in
        record {
          early = rw e' at g.early;
          first_in = omega (arith, g.first, g.early);
          up = rw (f, e') at g.up;
          small = rw (f, e') at g.small;
          low_is = ap (λ (x : ℕ). get_or firsts x 0) s.here;
          high_is = rw (← s.here, f, e');
        }

-- the edge that the code stores, and what it reads
pub edge_is : (bs : List Branch) (keys : List ℕ) (ne i : ℕ) {c : ℕ} {b : Branch} → b ≡ branch bs i → c ≡ above keys ne (b.end + 1) → c ≡ first_of bs keys ne i
edge_is bs keys ne i d f = f ∙ (ap (λ (y : Branch). above keys ne (y.end + 1)) d ∙ first_is bs keys ne i)

-- a table filled from the last row to the first: rows from i on have f
pub record Edging (f : ℕ → ℕ) (n i : ℕ) (old new : List ℕ) : Type 0 where
  pub within : i ≤ n
  pub done : (k : ℕ) → i ≤ k → k < n → get_or new k 0 ≡ f k
  pub rest : (k : ℕ) → n ≤ k → get_or new k 0 ≡ get_or old k 0
  pub long : length new ≡ length old

pub edging_step : {f : ℕ → ℕ} {n i v : ℕ} {old new : List ℕ} → Edging f n i old new → 0 < i → n ≤ length old → v ≡ f (i - 1) → Edging f n (i - 1) old (set new (i - 1) v)
edging_step {f} {n} {i} {v} {old} {new} g z l e =
    record {
      within = omega (arith, g.within);
      done =
          λ k a b.
          case (eqb k (i - 1))
          (λ d. rw (eqb-true k (i - 1) d) (get_or-set_same new (i - 1) v 0 (omega (arith, g.within, g.long)) ∙ e))
          (λ d. let ne : k ≡ i - 1 → ⊥ = eqb-false k (i - 1) d in get_or-set_other new (i - 1) k v 0 ne ∙ g.done k (omega arith) b);
      rest = λ k a. get_or-set_other new (i - 1) k v 0 (λ q. omega (arith, g.within)) ∙ g.rest k a;
      long = length-set new (i - 1) v ∙ g.long;
    }

-- the moments of a row between two events have one span
module _ {bs : List Branch} {n : ℕ} {keys : List ℕ} {ne : ℕ} (h : Line bs n) (tr : Tree bs n keys ne) where
  between_low : (i c t : ℕ) → first_moment bs i keys ne c ≤ t → ((branch bs i).start ≤ t) × (c < ne → when keys c < t)
  unfolding first_moment
  between_low i c t l =
      case (ltb c ne)
      (λ d.
      let l' : cond (ltb (branch bs i).start (when keys c + 1)) (when keys c + 1) (branch bs i).start ≤ t = rw d at l in
      case (ltb (branch bs i).start (when keys c + 1))
      (λ e. let z : when keys c + 1 ≤ t = rw e at l' in (omega (arith, ltb-true (branch bs i).start (when keys c + 1) e), λ _. omega arith))
      (λ e. let z : (branch bs i).start ≤ t = rw e at l' in (z, λ _. omega (arith, ltb-false (branch bs i).start (when keys c + 1) e))))
      (λ d. (rw d at l, λ b. absurd (omega (arith, ltb-false c ne d))))

  between_high : (i c t : ℕ) → t ≤ last_moment bs i keys c → (t ≤ (branch bs i).end) × (0 < c → t ≤ when keys (c - 1))
  unfolding last_moment
  between_high i c t l =
      case (ltb 0 c)
      (λ d.
      let l' : t ≤ cond (ltb (branch bs i).end (when keys (c - 1))) (branch bs i).end (when keys (c - 1)) = rw d at l in
      case (ltb (branch bs i).end (when keys (c - 1)))
      (λ e. let z : t ≤ (branch bs i).end = rw e at l' in (z, λ _. omega (arith, ltb-true (branch bs i).end (when keys (c - 1)) e)))
      (λ e. let z : t ≤ when keys (c - 1) = rw e at l' in (omega (arith, ltb-false (branch bs i).end (when keys (c - 1)) e), λ _. z)))
      (λ d. (rw d at l, λ b. absurd (omega (arith, ltb-false 0 c d))))

  between_above : (i c t : ℕ) → c ≤ ne → first_moment bs i keys ne c ≤ t → t ≤ last_moment bs i keys c → c ≡ above keys ne t
  unfolding when
  between_above i c t l a b = eqb-true c (above keys ne t) (just_above tr.order t c l (between_high i c t b).1 (between_low i c t a).1)

  pub ranged_low : (i c : ℕ) → i < n → (firsts : List ℕ) (t : ℕ) → first_moment bs i keys ne c ≤ t → t ≤ last_moment bs i keys c → get_or firsts i 0 ≡ span_low bs n firsts t
  unfolding span_low
  ranged_low i c l firsts t a b = ap (λ (x : ℕ). get_or firsts x 0) (holder_is h.stairs n t i (omega arith) l (between_low i c t a).0 (between_high i c t b).0)

  pub ranged_high : (i c e : ℕ) → i < n → c ≤ ne → (sums firsts : List ℕ) → e ≡ first_of bs keys ne i → (t : ℕ) → first_moment bs i keys ne c ≤ t → t ≤ last_moment bs i keys c
      → get_or firsts i 0 + (get_or sums c 0 - get_or sums e 0) ≡ span_high bs n keys ne sums firsts t
  unfolding span_high
  ranged_high i c e l k sums firsts q t a b =
      rw (← holder_is h.stairs n t i (omega arith) l (between_low i c t a).0 (between_high i c t b).0, ← between_above i c t k a b, q)

pub none_ranged : {bs : List Branch} {n : ℕ} {keys : List ℕ} {ne : ℕ} {sums firsts : List ℕ} → 0 < n → Ranged bs n keys ne sums firsts (record { lo = 0; hi = 0; row = 0; at = 0; from = 1; to = 0 })
none_ranged z =
    record { order = omega arith; within = omega arith; row_in = z; at_in = omega arith; low = λ t a b. absurd (omega arith); high = λ t a b. absurd (omega arith) }

-- the first and the last moment, as the code has them
later : (a b : ℕ) → max a b ≡ cond (ltb a b) b a
later a b = grind (arith, nat_tests)

earlier : (a b : ℕ) → min a b ≡ cond (ltb a b) a b
earlier a b = grind (arith, nat_tests)

module _ (bs : List Branch) (i : ℕ) (keys : List ℕ) where
  pub first_of_lem : (ne c : ℕ) {b : Branch} {r : ℕ} → b ≡ branch bs i → c < ne → r ≡ max b.start (get_or keys c 0 / 4294967296 + 1) → r ≡ first_moment bs i keys ne c
  unfolding first_moment when
  first_of_lem ne c {b} d l e = e ∙ (later b.start (get_or keys c 0 / 4294967296 + 1) ∙ rw (lt-ltb c ne l, d))

  pub first_none : (ne c : ℕ) {b : Branch} → b ≡ branch bs i → ne ≤ c → b.start ≡ first_moment bs i keys ne c
  unfolding first_moment
  first_none ne c d l = rw (le-ltb c ne l) (ap (λ (x : Branch). x.start) d)

  pub last_of : (c : ℕ) {b : Branch} {r : ℕ} → b ≡ branch bs i → 0 < c → r ≡ min b.end (get_or keys (c - 1) 0 / 4294967296) → r ≡ last_moment bs i keys c
  unfolding last_moment when
  last_of c {b} d l e = e ∙ (earlier b.end (get_or keys (c - 1) 0 / 4294967296) ∙ rw (lt-ltb 0 c l, d))

  pub last_none : (c : ℕ) {b : Branch} → b ≡ branch bs i → c ≤ 0 → b.end ≡ last_moment bs i keys c
  unfolding last_moment
  last_none c d l = rw (le-ltb 0 c l) (ap (λ (x : Branch). x.end) d)
