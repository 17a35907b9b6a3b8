-- The laws of jumps over the spans of later records of an address.
use mathlib.Core.Path.{◌≡◌, refl, ap, sym, ◌∙◌}
use mathlib.Core.List.{List}
use Prim.Native.Nat.{ℕ, suc, ◌+◌, ◌≤◌, ◌<◌}
use native.Mathlib.Omega.{arith}
use lib.Dec.{ltb, eqb}
use lib.ListN.{length, get_or, set, length-set}
use lib.Seq.{get_or-set_same, get_or-set_other}
use borrow.Author.Tests.{ltb-true, ltb-false, eqb-true, eqb-false}
use Rattle.model.proofs.Base.{case}
use Rattle.record_marks.specs.Marks.{Blank, Hop, stay, more, Stopped, Onward}

-- nr rows, each with an address A and a span from L to H. Spans of one address are apart, or the later row's is inside
pub record Rows (A L H : ℕ → ℕ) (nr : ℕ) : Type 0 where
  pub rises : (i j : ℕ) → i < j → j < nr → A i ≤ A j
  pub nested : (k j p : ℕ) → k < j → j < nr → A j ≡ A k → L j ≤ p → p < H j → L k ≤ p → p < H k → (L k ≤ L j) × (H j ≤ H k)

-- a row whose span begins at p
pub record Begins (A L H : ℕ → ℕ) (nr k : ℕ) (owner jump : List ℕ) (p : ℕ) : Type 0 where
  pub row : ℕ
  pub from : k ≤ row
  pub inside : row < nr
  pub owns : get_or owner p 0 ≡ A row + 1
  pub low : L row ≡ p
  pub high : H row ≡ get_or jump p 0
  pub some : L row < H row

-- the rows from k on are in the tables, those of the address of row k with the longest span
pub record Hops (A L H : ℕ → ℕ) (nr k : ℕ) (owner jump : List ℕ) : Type 0 where
  pub names : (p : ℕ) → 0 < get_or owner p 0 → Begins A L H nr k owner jump p
  pub covers : (j : ℕ) → k ≤ j → j < nr → A j ≡ A k → L j < H j → (get_or owner (L j) 0 ≡ A j + 1) × (H j ≤ get_or jump (L j) 0)

-- p is in the span of a later row of the address
pub record Covered (A L H : ℕ → ℕ) (nr k p : ℕ) : Type 0 where
  pub row : ℕ
  pub later : k < row
  pub inside : row < nr
  pub same : A row ≡ A k
  pub low : L row ≤ p
  pub high : p < H row

-- p is in the span of row k, and in none of a later row of the address
pub record Free (A L H : ℕ → ℕ) (nr k p : ℕ) : Type 0 where
  pub low : L k ≤ p
  pub high : p < H k
  pub free : Covered A L H nr k p → ⊥

-- v tells whether the span of row k has a number that no later row of the address has
pub data Told (A L H : ℕ → ℕ) (nr k v : ℕ) : Type 0 where
  yes_told : v ≡ 1 → (p : ℕ) → Free A L H nr k p → Told A L H nr k v
  no_told : v ≡ 0 → ((p : ℕ) → L k ≤ p → p < H k → Covered A L H nr k p) → Told A L H nr k v

pub hops_start : {A L H : ℕ → ℕ} {nr : ℕ} {owner jump : List ℕ} → Blank owner → Hops A L H nr nr owner jump
hops_start b = record { names = λ p l. absurd (omega (arith, b.zero p)); covers = λ j a c d e. absurd (omega arith) }

module _ {A L H : ℕ → ℕ} {nr : ℕ} (h : Rows A L H nr) {k : ℕ} {owner jump : List ℕ} (hs : Hops A L H nr (suc k) owner jump) (l : k < nr) where
  -- later rows of the address
  known : (j : ℕ) → k < j → j < nr → A j ≡ A k → L j < H j → (get_or owner (L j) 0 ≡ A j + 1) × (H j ≤ get_or jump (L j) 0)
  known j a b e s =
      case (eqb (suc k) j)
      (λ d. let q : suc k ≡ j = eqb-true (suc k) j d in hs.covers j a b (ap A (sym q)) s)
      (λ d.
      let q : suc k ≡ j → ⊥ = eqb-false (suc k) j d in
      hs.covers j a b (omega (arith, e, h.rises k (suc k) (omega arith) (omega arith), h.rises (suc k) j (omega arith) b)) s)

  begins : (p : ℕ) → get_or owner p 0 ≡ A k + 1 → Begins A L H nr (suc k) owner jump p
  begins p e = hs.names p (omega arith)

  pub onward : Onward owner jump (A k + 1)
  onward = record { up = λ p e. let b = begins p e in omega (arith, b.low, b.high, b.some) }

  -- all numbers from the start of the span to p are covered, and no span sticks out at p
  record Walked (p : ℕ) : Type 0 where
    low : L k ≤ p
    covered : (x : ℕ) → L k ≤ x → x < p → Covered A L H nr k x
    closed : (j : ℕ) → k < j → j < nr → A j ≡ A k → L k ≤ L j → L j < p → L j < H j → H j ≤ p

  walked : {p : ℕ} → Hop owner jump (A k + 1) (L k) p → Walked p
  walked stay = record { low = omega arith; covered = λ x a b. absurd (omega arith); closed = λ j a b c d e f. absurd (omega arith) }
  walked (more {p} {q} o e g) =
      let w = walked o in
      let b = begins p e in
      let same : A b.row ≡ A k = omega (arith, b.owns) in
      let j₀ : ℕ = b.row in
      let up : p < q = omega (arith, b.low, b.high, b.some) in
      record {
        low = omega (arith, w.low);
        covered =
            λ x a c.
            case (ltb x p)
            (λ d. w.covered x a (ltb-true x p d))
            (λ d. record { row = j₀; later = b.from; inside = b.inside; same = same; low = omega (arith, b.low, ltb-false x p d); high = omega (arith, b.high) });
        closed =
            λ j a c d i s t.
            case (ltb (L j) p)
            (λ y. omega (arith, w.closed j a c d i (ltb-true (L j) p y) t))
            (λ y.
            let y' : p ≤ L j = ltb-false (L j) p y in
            case (ltb j j₀)
            (λ z.
            let z' : j < j₀ = ltb-true j j₀ z in
            let n = h.nested j j₀ (L j) z' b.inside (same ∙ sym d) (omega (arith, b.low)) (omega (arith, b.high)) (omega arith) t in
            let at : L j ≡ p = omega (arith, n.0, b.low) in
            let v = (known j a c d t).1 in
            let v' : H j ≤ get_or jump p 0 = rw at at v in
            omega (arith, v'))
            (λ z.
            case (eqb j₀ j)
            (λ u. let u' : j₀ ≡ j = eqb-true j₀ j u in let u'' : H j₀ ≡ H j = ap H u' in omega (arith, u'', b.high))
            (λ u.
            let u' : j₀ ≡ j → ⊥ = eqb-false j₀ j u in
            let n = h.nested j₀ j (L j) (omega (arith, ltb-false j j₀ z)) c (d ∙ sym same) (omega arith) t (omega (arith, b.low)) (omega (arith, b.high)) in
            omega (arith, n.1, b.high))));
      }

  module _ {r : ℕ} (s : Stopped owner jump (A k + 1) (L k) (H k) r) where
    pub free_at : r < H k → Free A L H nr k r
    free_at a =
        let w = walked s.hops in
        record {
          low = w.low;
          high = a;
          free =
              λ c.
              let n = h.nested k c.row r c.later c.inside c.same c.low c.high w.low a in
              case (eqb (L c.row) r)
              (λ d.
              let e : L c.row ≡ r = eqb-true (L c.row) r d in
              let v = (known c.row c.later c.inside c.same (omega (arith, c.high))).0 in
              let v' : get_or owner r 0 ≡ A c.row + 1 = rw e at v in
              s.stop a (v' ∙ ap (λ (x : ℕ). x + 1) c.same))
              (λ d.
              let e : L c.row ≡ r → ⊥ = eqb-false (L c.row) r d in
              let o : L c.row < r = omega (arith, c.low) in
              omega (arith, w.closed c.row c.later c.inside c.same n.0 o (omega (arith, c.high)), c.high));
        }

    pub full_at : H k ≤ r → (p : ℕ) → L k ≤ p → p < H k → Covered A L H nr k p
    full_at a p b c = (walked s.hops).covered p b (omega arith)

  -- the span of row k goes into the tables
  pub hops_set : L k < H k → L k < length owner → L k < length jump → Hops A L H nr k (set owner (L k) (A k + 1)) (set jump (L k) (H k))
  hops_set some a b =
      record {
        names =
            λ p o.
            case (eqb p (L k))
            (λ d.
            let e : p ≡ L k = eqb-true p (L k) d in
            record { row = k; from = omega arith; inside = l; owns = rw e here; low = sym e; high = rw e (sym there); some = some })
            (λ d.
            let e : p ≡ L k → ⊥ = eqb-false p (L k) d in
            let x : get_or (set owner (L k) (A k + 1)) p 0 ≡ get_or owner p 0 = get_or-set_other owner (L k) p (A k + 1) 0 e in
            let y : get_or (set jump (L k) (H k)) p 0 ≡ get_or jump p 0 = get_or-set_other jump (L k) p (H k) 0 e in
            let g = hs.names p (omega (arith, x)) in
            record { row = g.row; from = omega (arith, g.from); inside = g.inside; owns = x ∙ g.owns; low = g.low; high = g.high ∙ sym y; some = g.some });
        covers =
            λ j i c d s.
            case (eqb k j)
            (λ e.
            let q : k ≡ j = eqb-true k j e in
            let x : (get_or (set owner (L k) (A k + 1)) (L k) 0 ≡ A k + 1) × (H k ≤ get_or (set jump (L k) (H k)) (L k) 0) = (here, omega (arith, there)) in
            rw (← q) x)
            (λ e.
            let q : k ≡ j → ⊥ = eqb-false k j e in
            let o : k < j = omega arith in
            case (eqb (L j) (L k))
            (λ f.
            let g : L j ≡ L k = eqb-true (L j) (L k) f in
            let n = h.nested k j (L j) o c d (omega arith) s (omega arith) (omega arith) in
            (rw g (here ∙ ap (λ (x : ℕ). x + 1) (sym d)), rw (g, there) n.1))
            (λ f.
            let g : L j ≡ L k → ⊥ = eqb-false (L j) (L k) f in
            let v = known j o c d s in
            (get_or-set_other owner (L k) (L j) (A k + 1) 0 g ∙ v.0, rw (get_or-set_other jump (L k) (L j) (H k) 0 g) v.1)));
      }
    where
      here : get_or (set owner (L k) (A k + 1)) (L k) 0 ≡ A k + 1
      here = get_or-set_same owner (L k) (A k + 1) 0 a

      there : get_or (set jump (L k) (H k)) (L k) 0 ≡ H k
      there = get_or-set_same jump (L k) (H k) 0 b

  pub hops_keep : H k ≤ L k → Hops A L H nr k owner jump
  hops_keep none =
      record {
        names =
            λ p o.
            let g = hs.names p o in
            record { row = g.row; from = omega (arith, g.from); inside = g.inside; owns = g.owns; low = g.low; high = g.high; some = g.some };
        covers =
            λ j i c d s.
            case (eqb k j)
            (λ e. let q : k ≡ j = eqb-true k j e in let x : L k < H k = rw (← q) at s in absurd (omega arith))
            (λ e. let q : k ≡ j → ⊥ = eqb-false k j e in known j (omega arith) c d s);
      }

-- the bytes of the rows from k on
pub record Marking (A L H : ℕ → ℕ) (nr k : ℕ) (old new : List ℕ) : Type 0 where
  pub done : (j : ℕ) → k ≤ j → j < nr → Told A L H nr j (get_or new j 0)
  pub rest : (j : ℕ) → nr ≤ j → get_or new j 0 ≡ get_or old j 0
  pub long : length new ≡ length old

pub marking_start : {A L H : ℕ → ℕ} {nr : ℕ} {t : List ℕ} → Marking A L H nr nr t t
marking_start = record { done = λ j a b. absurd (omega arith); rest = λ j a. refl; long = refl }

pub marking_step : {A L H : ℕ → ℕ} {nr k v : ℕ} {old new : List ℕ} → Marking A L H nr (suc k) old new → k < nr → nr ≤ length old → Told A L H nr k v → Marking A L H nr k old (set new k v)
marking_step {A} {L} {H} {nr} {k} {v} {old} {new} m l i t =
    record {
      done =
          λ j a b.
          case (eqb k j)
          (λ d. let q : k ≡ j = eqb-true k j d in rw (← q) (rw (get_or-set_same new k v 0 (omega (arith, m.long))) t))
          (λ d.
          let q : k ≡ j → ⊥ = eqb-false k j d in
          rw (get_or-set_other new k j v 0 (λ (z : j ≡ k). q (sym z))) (m.done j (omega arith) b));
      rest = λ j a. get_or-set_other new k j v 0 (λ (z : j ≡ k). omega arith) ∙ m.rest j a;
      long = length-set new k v ∙ m.long;
    }
